-- What a step of the model ends in: it is refused as steps of a lowering are, or it is done, and then its state and buffers hold represented code. Steps that only touch words and lists, as equations;
-- a word more is refused where no room is left. By computation of the model's steps.
use Rattle.std.specs.Prelude.{ℕ, zero, suc, ◌+◌, ◌<◌, ◌≤◌, Bool, true, false, ◌||◌, ◌≡◌, refl, List, length, set, leb}
use Rattle.std.proofs.Common.{◌∙◌, ap, add-one, leb-false, le-leb, set-set}
use Rattle.refusals.specs.Stage.{stage_of, steps}
use Rattle.refusals.specs.declared.Refusal.{Refusal}
use Rattle.refusals.specs.declared.Refusal.TheVariants.{Words}
use Rattle.instructions.specs.Limits.{max_words, no_reg}
use Rattle.model.specs.declared.State.{State}
use Rattle.model.specs.Steps.{Buffers, Result, done, refused, Step, and_then}
use Rattle.model.specs.Jumps.{concat_jumps, linked, remove_values}
use Rattle.model.specs.Emission.{with_pc, with_jpc, with_label, discharge_jpc, no_room, store, push, emit_at, emit, concat, emit_jump, patch_to_here, get_label}
use Rattle.model.specs.declared.ExprContext.{ExprContext}
use Rattle.model.specs.Conditions.{invertjump}
use Rattle.laws.specs.Truth.{or_false}
use Rattle.labelled.specs.Code.{Code, size}
use Rattle.threads.specs.Edits.{pick_is}
use Rattle.threads.specs.Words.{new_j, patch_none}
use Rattle.threads.specs.Encoding.{Coding}
use Rattle.threads.specs.Represents.{Rep}
use Rattle.threads.specs.Emitting.{discharged, emitted, emitted_jump}
use Rattle.threads.specs.Last.{inverted}
use Rattle.labelled.specs.Machine.{pick}

-- ---- what a step ends in

-- refused as a lowering is, or done with this answer, state and buffers
pub data Ends {A : Type 0} (r : Result A) (P : A → State → Buffers → Type 0) : Type 0 where
  gives : (a : A) (s : State) (m : Buffers) → r ≡ done a s m → P a s m → Ends r P
  refuses : (k : Refusal) (m : Buffers) → stage_of k ≡ steps → r ≡ refused k m → Ends r P

pub ends_then : {A B : Type 0} {r : Result A} {f : A → Step B} {P : A → State → Buffers → Type 0} {Q : B → State → Buffers → Type 0} →
    Ends r P → ((a : A) (s : State) (m : Buffers) → P a s m → Ends (f a s m) Q) → Ends (and_then r f) Q
unfolding and_then
ends_then (gives a s m e p) g = rw e (g a s m p)
ends_then (refuses k m l e) g = refuses k m l (rw e refl)

pub ends_map : {A : Type 0} {r : Result A} {P Q : A → State → Buffers → Type 0} → Ends r P → ((a : A) (s : State) (m : Buffers) → P a s m → Q a s m) → Ends r Q
ends_map (gives a s m e p) g = gives a s m e (g a s m p)
ends_map (refuses k m l e) g = refuses k m l e

-- the state and the buffers hold the code: its words and heads, its size and the list of the jumps to the word to come
pub record Holds (K : Coding) (cap : ℕ) (s : State) (m : Buffers) (H : ℕ → ℕ) (c : Code) : Type 0 where
  pub rep : Rep K cap m.code H c
  pub pcs : s.pc ≡ size c
  pub jpcs : s.jpc ≡ H 0

-- the constants' buffers are as they were
pub record Kept (m n : Buffers) : Type 0 where
  pub kinds : n.kinds ≡ m.kinds
  pub values : n.values ≡ m.values
  pub pool : n.pool ≡ m.pool

-- all of the state but pc, jpc and the label is as it was
pub record Aside (s s' : State) : Type 0 where
  pub at : s'.at ≡ s.at
  pub line : s'.line ≡ s.line
  pub table : s'.table ≡ s.table
  pub active : s'.active ≡ s.active
  pub free : s'.free ≡ s.free
  pub frame : s'.frame ≡ s.frame

pub aside_with : {s s' : State} (n l t : ℕ) → s' ≡ with_label t (with_jpc l (with_pc n s)) → Aside s s'
aside_with n l t e = rw e (record { at = refl; line = refl; table = refl; active = refl; free = refl; frame = refl })

-- the state has become t, the constants are as they were, and the code is c
pub record Became (K : Coding) (cap : ℕ) (m : Buffers) (t : State) (H : ℕ → ℕ) (c : Code) (s' : State) (m' : Buffers) : Type 0 where
  pub state : s' ≡ t
  pub kept : Kept m m'
  pub holds : Holds K cap s' m' H c

pub kept_trans : {l m n : Buffers} → Kept l m → Kept m n → Kept l n
kept_trans a b = record { kinds = b.kinds ∙ a.kinds; values = b.values ∙ a.values; pool = b.pool ∙ a.pool }

-- ---- what the steps do to the state and the words

abbrev pub with_code : List ℕ → Buffers → Buffers
with_code us m = record { code = us; lines = m.lines; kinds = m.kinds; values = m.values; pool = m.pool }

pub discharge_is : (s : State) (m : Buffers) → discharge_jpc s m ≡ done tt (with_jpc 0 s) (with_code (discharged m.code s.pc s.jpc) m)
unfolding discharge_jpc and_then
discharge_is s m = refl

pub emit_at_is : (w line : ℕ) (s : State) (m : Buffers) → emit_at w line s m ≡ push w line (with_jpc 0 s) (with_code (discharged m.code s.pc s.jpc) m)
unfolding discharge_jpc emit_at and_then
emit_at_is w line s m = refl

pub emit_line : (w : ℕ) (s : State) (m : Buffers) → emit w s m ≡ emit_at w s.line s m
unfolding emit and_then
emit_line w s m = refl

push_is : (w line : ℕ) (s : State) (m : Buffers) → push w line s m ≡ pick (no_room s m) (refused Words m) (done s.pc (with_pc (s.pc + 1) s) (store w line s m))
unfolding push
push_is w line s m = pick_is (no_room s m) (refused Words m) (done s.pc (with_pc (s.pc + 1) s) (store w line s m))

pub concat_is : (l1 l2 : ℕ) (s : State) (m : Buffers) → concat l1 l2 s m ≡ done (concat_jumps l1 l2) s (with_code (linked m.code l1 l2) m)
unfolding concat and_then
concat_is l1 l2 s m = refl

pub here_is : (l : ℕ) (s : State) (m : Buffers) → patch_to_here l s m ≡ done tt (with_jpc (concat_jumps s.jpc l) s) (with_code (linked m.code s.jpc l) m)
unfolding patch_to_here concat and_then
here_is l s m = refl

pub label_is : (s : State) (m : Buffers) → s.pc ≤ max_words → get_label s m ≡ done s.pc (with_label (s.pc + 1) s) m
unfolding get_label and_then
label_is s m l = ap (λ (b : Bool). done s.pc (elim b [ true ↦ with_label (s.pc + 1) s | false ↦ s ]) m) (le-leb s.pc max_words l)

pub invert_is : (e : ExprContext) (s : State) (m : Buffers) → invertjump e s m ≡ done tt s (with_code (inverted m.code e.info) m)
unfolding invertjump and_then
invert_is e s m = refl

-- `patch_to_here` of no list
pub concat_zero : (l : ℕ) → concat_jumps l 0 ≡ l
concat_zero zero = refl
concat_zero (suc p) = refl

-- ---- a word more

-- these words, and the line of the new one
abbrev pub written_at : ℕ → List ℕ → State → Buffers → Buffers
written_at line us s m = record { code = us; lines = set m.lines s.pc line; kinds = m.kinds; values = m.values; pool = m.pool }

abbrev pub written : List ℕ → State → Buffers → Buffers
written us s m = written_at s.line us s m

pub roomy : (s : State) (m : Buffers) → no_room s m ≡ false → (s.pc < length m.code) × ((s.pc < length m.lines) × (s.pc < max_words))
roomy s m h =
    let a = or_false (leb (length m.code) s.pc) (leb (length m.lines) s.pc || leb max_words s.pc) h in
    let b = or_false (leb (length m.lines) s.pc) (leb max_words s.pc) a.1 in
    (leb-false (length m.code) s.pc a.0, (leb-false (length m.lines) s.pc b.0, leb-false max_words s.pc b.1))

module _ (s : State) (m : Buffers) where
  push_ends : (w line : ℕ) (P : ℕ → State → Buffers → Type 0) → (s.pc < length m.code → s.pc < max_words → P s.pc (with_pc (s.pc + 1) s) (store w line s m)) → Ends (push w line s m) P
  push_ends w line P p = rw (push_is w line s m) (go (no_room s m) refl)
    where
      go : (t : Bool) → no_room s m ≡ t → Ends (pick t (refused Words m) (done s.pc (with_pc (s.pc + 1) s) (store w line s m))) P
      go true e = refuses Words m refl refl
      go false e = gives s.pc (with_pc (s.pc + 1) s) (store w line s m) refl (p (roomy s m e).0 (roomy s m e).1.1)

pub emit_at_ends : (w line : ℕ) (s : State) (m : Buffers) (P : ℕ → State → Buffers → Type 0) →
    (s.pc < length (discharged m.code s.pc s.jpc) → s.pc < max_words → P s.pc (with_pc (s.pc + 1) (with_jpc 0 s)) (written_at line (emitted m.code s.pc s.jpc w) s m)) → Ends (emit_at w line s m) P
emit_at_ends w line s m P p = rw (emit_at_is w line s m) (push_ends (with_jpc 0 s) (with_code (discharged m.code s.pc s.jpc) m) w line P p)

-- another word instead of the last
pub emit_instead : (v w : ℕ) (s : State) (m : Buffers) → emit w s m ≡ and_then (emit v s m) (λ pc s₁ m₁. done pc s₁ (with_code (set m₁.code pc w) m₁))
unfolding and_then
emit_instead v w s m = rw (emit_line w s m, emit_line v s m, emit_at_is w s.line s m, emit_at_is v s.line s m, push_is w s.line s₁ m₁, push_is v s.line s₁ m₁) (go (no_room s₁ m₁))
  where
    s₁ : State
    s₁ = with_jpc 0 s

    m₁ : Buffers
    m₁ = with_code (discharged m.code s.pc s.jpc) m

    stored : done s.pc (with_pc (s.pc + 1) s₁) (store w s.line s₁ m₁) ≡ and_then (done s.pc (with_pc (s.pc + 1) s₁) (store v s.line s₁ m₁)) (λ pc s₁ m₁. done pc s₁ (with_code (set m₁.code pc w) m₁))
    stored = rw (set-set m₁.code s.pc v w) refl

    go : (t : Bool) → pick t (refused Words m₁) (done s.pc (with_pc (s.pc + 1) s₁) (store w s.line s₁ m₁)) ≡ and_then (pick t (refused Words m₁) (done s.pc (with_pc (s.pc + 1) s₁) (store v s.line s₁ m₁))) (λ pc s₁ m₁. done pc s₁ (with_code (set m₁.code pc w) m₁))
    go true = refl
    go false = stored

pub emit_ends : (w : ℕ) (s : State) (m : Buffers) (P : ℕ → State → Buffers → Type 0) →
    (s.pc < length (discharged m.code s.pc s.jpc) → s.pc < max_words → P s.pc (with_pc (s.pc + 1) (with_jpc 0 s)) (written (emitted m.code s.pc s.jpc w) s m)) → Ends (emit w s m) P
emit_ends w s m P p = rw (emit_line w s m) (emit_at_ends w s.line s m P p)

abbrev pub stripped : State → Buffers → List ℕ
stripped s m = remove_values (length m.code) m.code s.jpc

jump_is : (s : State) (m : Buffers) → emit_jump s m ≡ and_then (emit new_j (with_jpc 0 s) (with_code (stripped s m) m)) (λ pc. concat (pc + 1) s.jpc)
unfolding emit_jump and_then
jump_is s m = refl

pub jump_ends : (s : State) (m : Buffers) (P : ℕ → State → Buffers → Type 0) →
    (s.pc < length (stripped s m) → s.pc < max_words → P (suc s.pc) (with_pc (s.pc + 1) (with_jpc 0 s)) (written (emitted_jump m.code s.pc s.jpc) s m)) → Ends (emit_jump s m) P
jump_ends s m P p = rw (jump_is s m) (ends_then {P = λ a s' m'. (s.pc < length (stripped s m)) × (s.pc < max_words) × (a ≡ s.pc) × (s' ≡ with_pc (s.pc + 1) (with_jpc 0 s)) × (m' ≡ written (set (stripped s m) s.pc new_j) s m)}
    (emit_ends new_j (with_jpc 0 s) (with_code (stripped s m) m) _ (λ a b. (rw none at a, b, refl, refl, rw none refl)))
    (λ a s' m' q. gives (suc s.pc) (with_pc (s.pc + 1) (with_jpc 0 s)) (written (emitted_jump m.code s.pc s.jpc) s m)
    (rw (q.2, q.3, q.4, concat_is (s.pc + 1) s.jpc (with_pc (s.pc + 1) (with_jpc 0 s)) (written (set (stripped s m) s.pc new_j) s m), add-one s.pc) refl) (p q.0 q.1)))
  where
    none : discharged (stripped s m) s.pc 0 ≡ stripped s m
    none = patch_none (length (stripped s m)) (stripped s m) s.pc no_reg s.pc
