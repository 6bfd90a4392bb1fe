-- Emission step by step: what a definition comes to once its first step's answer is known, as the code reads it. And bounds that a step's success shows. Assumes nothing.
use Rattle.std.specs.Prelude.{ℕ, ◌+◌, ◌-◌, ◌<◌, ◌≤◌, max, Bool, ◌&&◌, ◌||◌, List, eqb, ltb, negsuc, length, set}
use Rattle.std.proofs.Math.Bool.{true, false}
use Rattle.std.proofs.Math.Path.{◌≡◌, refl, ap}
use Rattle.std.proofs.Common.{◌∙◌, arith}
use Rattle.std.proofs.Math.Nat.{max-eq_left, max-eq_right}
use Rattle.std.proofs.Math.Dec.{leb}
use borrow.Author.Tests.{lt-ltb, le-ltb, le-leb, lt-leb, eq-eqb, ne_eqb, leb-true, leb-false}
use Rattle.refusals.specs.declared.Refusal.{Refusal}
use Rattle.refusals.specs.declared.Refusal.TheVariants.{Words, Registers}
use Rattle.instructions.specs.Limits.{no_reg, bit_rk, max_words, max_stack}
use Rattle.instructions.specs.Word.{b_of, a_sbx_of, set_b_of}
use Rattle.opcodes.specs.declared.OpCode.TheVariants.{LoadBool, LoadNil, Jmp}
use Rattle.constants.specs.Table.{added, out, Added}
use Rattle.constants.specs.declared.Val.{Val}
use Rattle.model.specs.declared.State.{State}
use Rattle.model.specs.Steps.{Buffers, bufs, Step, Result, done, refused, and_then, change, change_words, skip, refuse}
use Rattle.model.specs.Jumps.{word, concat_jumps, linked, remove_values, patch_list_aux}
use Rattle.model.specs.Emission.{with_pc, with_free, with_frame, with_jpc, discharge_jpc, no_room, store, push, emit_at, emit, emit_abc, concat, emit_jump, patch_to_here, get_label, code_label, adjoins, load_nil, emit_nil, check_stack, reserve_regs, alloc_reg, free_reg, keep, add_constant}
use Rattle.emission.specs.Parts.{labelled, freed_to}

-- if then else
abbrev pub branch : {A : Type 0} → Bool → Step A → Step A → Step A
branch b x y = elim b [ true ↦ x | false ↦ y ]

-- a step whose answer is known goes on, or is refused
module _ {A B : Type 0} (f : A → Step B) where
  pub then_done : {x : Result A} {a : A} {t : State} {k : Buffers} → x ≡ done a t k → and_then x f ≡ f a t k
  unfolding and_then
  then_done h = ap (λ (y : Result A). and_then y f) h

  pub then_refused : {x : Result A} {r : Refusal} {k : Buffers} → x ≡ refused r k → and_then x f ≡ refused r k
  unfolding and_then
  then_refused h = ap (λ (y : Result A). and_then y f) h

-- ---- words

module _ (s : State) (code lines ks vs p : List ℕ) where
  pub discharge_is : discharge_jpc s (bufs code lines ks vs p) ≡ done tt (with_jpc 0 s) (bufs (patch_list_aux (length code) code s.jpc s.pc no_reg s.pc) lines ks vs p)
  unfolding discharge_jpc and_then
  discharge_is = refl

  pub to_here_is : (list : ℕ) → patch_to_here list s (bufs code lines ks vs p) ≡ done tt (with_jpc (concat_jumps s.jpc list) s) (bufs (linked code s.jpc list) lines ks vs p)
  unfolding patch_to_here concat and_then
  to_here_is list = refl

pub emit_at_is : (w line : ℕ) (s : State) (m : Buffers) {t : State} {k : Buffers} → discharge_jpc s m ≡ done tt t k → emit_at w line s m ≡ push w line t k
unfolding emit_at and_then
emit_at_is w line s m e = simp (emit_at, e)

pub emit_is : (w : ℕ) (s : State) (m : Buffers) → emit w s m ≡ emit_at w s.line s m
unfolding emit and_then
emit_is w s m = refl

-- the last of three tests
third : (x y z : Bool) → (x || (y || z)) ≡ false → z ≡ false
third true y z h = cc
third false true z h = cc
third false false z h = h

-- a word that was stored is one of the first 131,071
push_lt : (w line : ℕ) (s : State) (m : Buffers) {n : ℕ} {t : State} {k : Buffers} → push w line s m ≡ done n t k → n < max_words
unfolding push
push_lt w line s m {n} {t} {k} e = go (no_room s m) refl e
  where
    go : (b : Bool) → no_room s m ≡ b → elim b [ true ↦ refused Words m | false ↦ done s.pc (with_pc (s.pc + 1) s) (store w line s m) ] ≡ done n t k → n < max_words
    go true h e = absurd (let z : ◌≡◌ {A = ℕ} 0 1 = cc in omega arith)
    go false h e =
        let q : s.pc ≡ n = cc in
        omega (arith, leb-false max_words s.pc (third (leb (length m.code) s.pc) (leb (length m.lines) s.pc) (leb max_words s.pc) h))

pub emit_lt : (w : ℕ) (s : State) (m : Buffers) {n : ℕ} {t : State} {k : Buffers} → emit w s m ≡ done n t k → n < max_words
unfolding emit emit_at discharge_jpc and_then
emit_lt w s m e = push_lt w s.line _ _ e

module _ (s : State) (code lines ks vs p : List ℕ) where
  abbrev first : Result ℕ
  first = emit (a_sbx_of Jmp 0 (negsuc 0)) (with_jpc 0 s) (bufs (remove_values (length code) code s.jpc) lines ks vs p)

  pub jump_done : {pc : ℕ} {t : State} {m : Buffers} → first ≡ done pc t m →
      emit_jump s (bufs code lines ks vs p) ≡ done (concat_jumps (pc + 1) s.jpc) t (bufs (linked m.code (pc + 1) s.jpc) m.lines m.kinds m.values m.pool)
  unfolding emit_jump concat and_then
  jump_done e = simp (emit_jump, e)

  pub jump_refused : {k : Refusal} {m : Buffers} → first ≡ refused k m → emit_jump s (bufs code lines ks vs p) ≡ refused k m
  unfolding emit_jump concat and_then
  jump_refused e = simp (emit_jump, e)

-- the word to come is recorded as the label
pub label_is : (s : State) (m : Buffers) → get_label s m ≡ done s.pc (labelled s) m
unfolding get_label labelled and_then
label_is s m = refl

pub code_label_done : (reg b jump : ℕ) (s : State) {t : State} {m : Buffers} {pc : ℕ} → get_label s m ≡ done pc t m → code_label reg b jump s m ≡ emit_abc LoadBool reg b jump t m
unfolding code_label and_then
code_label_done reg b jump s e = simp (code_label, e)

module _ (reg : ℕ) (s : State) (m : Buffers) where
  pub nil_done : {pc : ℕ} {t : State} {k : Buffers} → emit_abc LoadNil reg reg 0 s m ≡ done pc t k → load_nil reg s m ≡ done tt t k
  unfolding load_nil and_then
  nil_done e = simp (load_nil, e)

  pub nil_refused : {k : Refusal} {n : Buffers} → emit_abc LoadNil reg reg 0 s m ≡ refused k n → load_nil reg s m ≡ refused k n
  unfolding load_nil and_then
  nil_refused e = simp (load_nil, e)

module _ (from : ℕ) (s : State) (m : Buffers) where
  abbrev before : ℕ
  before = word m.code (s.pc - 1)

  abbrev lengthened : Step (Unit {0})
  lengthened = branch (ltb (b_of before) from) (change_words (λ c. set c (s.pc - 1) (set_b_of (word c (s.pc - 1)) from))) skip

  abbrev unlabelled : Step (Unit {0})
  unlabelled = branch (eqb s.pc 0) skip (branch (adjoins before from) lengthened (load_nil from))

  pub nil_labelled : s.pc < s.label → emit_nil from s m ≡ load_nil from s m
  unfolding emit_nil and_then
  nil_labelled h = ap (λ (b : Bool). branch b unlabelled (load_nil from) s m) (lt-leb s.label s.pc h)

  module _ (free : s.label ≤ s.pc) where
    nil_free : emit_nil from s m ≡ unlabelled s m
    unfolding emit_nil and_then
    nil_free = ap (λ (b : Bool). branch b unlabelled (load_nil from) s m) (le-leb s.label s.pc free)

    pub nil_start : s.pc ≡ 0 → emit_nil from s m ≡ done tt s m
    nil_start h = nil_free ∙ ap (λ (b : Bool). branch b skip (branch (adjoins before from) lengthened (load_nil from)) s m) (eq-eqb s.pc 0 h)

    module _ (some : s.pc ≡ 0 → ⊥) where
      nil_some : emit_nil from s m ≡ branch (adjoins before from) lengthened (load_nil from) s m
      nil_some = nil_free ∙ ap (λ (b : Bool). branch b skip (branch (adjoins before from) lengthened (load_nil from)) s m) (ne_eqb s.pc 0 some)

      pub nil_apart : adjoins before from ≡ false → emit_nil from s m ≡ load_nil from s m
      nil_apart h = nil_some ∙ ap (λ (b : Bool). branch b lengthened (load_nil from) s m) h

      module _ (near : adjoins before from ≡ true) where
        nil_near : emit_nil from s m ≡ lengthened s m
        nil_near = nil_some ∙ ap (λ (b : Bool). branch b lengthened (load_nil from) s m) near

        pub nil_within : from ≤ b_of before → emit_nil from s m ≡ done tt s m
        nil_within h =
            nil_near ∙ ap (λ (b : Bool). branch b (change_words (λ c. set c (s.pc - 1) (set_b_of (word c (s.pc - 1)) from))) skip s m) (le-ltb (b_of before) from h)

        pub nil_longer : b_of before < from →
            emit_nil from s m ≡ done tt s (bufs (set m.code (s.pc - 1) (set_b_of before from)) m.lines m.kinds m.values m.pool)
        nil_longer h =
            nil_near ∙ ap (λ (b : Bool). branch b (change_words (λ c. set c (s.pc - 1) (set_b_of (word c (s.pc - 1)) from))) skip s m) (lt-ltb (b_of before) from h)

-- ---- registers

unfoldable free_of : Result (Unit {0}) → ℕ
free_of (done a t m) = t.free
free_of (refused k m) = 0

module _ (n : ℕ) (s : State) (m : Buffers) where
  abbrev checked : Bool → Result (Unit {0})
  checked b = branch b (change (with_frame (max s.frame (s.free + n)))) (refuse Registers) s m

  pub check_refused : max_stack < s.free + n → check_stack n s m ≡ refused Registers m
  unfolding check_stack and_then
  check_refused h = ap checked (lt-leb (s.free + n) max_stack h)

  check_done : s.free + n ≤ max_stack → check_stack n s m ≡ done tt (with_frame (max s.frame (s.free + n)) s) m
  unfolding check_stack and_then
  check_done h = ap checked (le-leb (s.free + n) max_stack h)

  pub check_higher : s.free + n ≤ max_stack → s.frame < s.free + n → check_stack n s m ≡ done tt (with_frame (s.free + n) s) m
  check_higher h l = let q : max s.frame (s.free + n) ≡ s.free + n = max-eq_right (omega arith) in rw q at (check_done h)

  pub check_same : s.free + n ≤ max_stack → s.free + n ≤ s.frame → check_stack n s m ≡ done tt s m
  check_same h l = let q : max s.frame (s.free + n) ≡ s.frame = max-eq_left (omega arith) in rw q at (check_done h)

  -- registers that were found to fit
  pub check_fits : {t : State} {k : Buffers} → check_stack n s m ≡ done tt t k → t.free + n ≤ max_stack
  unfolding check_stack and_then free_of
  check_fits {t} {k} e = go (leb (s.free + n) max_stack) refl e
    where
      go : (b : Bool) → leb (s.free + n) max_stack ≡ b → checked b ≡ done tt t k → t.free + n ≤ max_stack
      go true h e = let q : s.free ≡ t.free = ap free_of e in omega (arith, leb-true (s.free + n) max_stack h)
      go false h e = absurd (let z : ◌≡◌ {A = ℕ} 0 1 = cc in omega arith)

  pub reserve_done : {t : State} {k : Buffers} → check_stack n s m ≡ done tt t k → reserve_regs n s m ≡ done tt (with_free (t.free + n) t) k
  unfolding reserve_regs and_then
  reserve_done e = simp (reserve_regs, e)

  pub reserve_refused : {k : Refusal} {o : Buffers} → check_stack n s m ≡ refused k o → reserve_regs n s m ≡ refused k o
  unfolding reserve_regs and_then
  reserve_refused e = simp (reserve_regs, e)

module _ (s : State) (m : Buffers) where
  pub alloc_done : {t : State} {k : Buffers} → reserve_regs 1 s m ≡ done tt t k → alloc_reg s m ≡ done s.free t k
  unfolding alloc_reg and_then
  alloc_done e = simp (alloc_reg, e)

  pub alloc_refused : {k : Refusal} {o : Buffers} → reserve_regs 1 s m ≡ refused k o → alloc_reg s m ≡ refused k o
  unfolding alloc_reg and_then
  alloc_refused e = simp (alloc_reg, e)

module _ (active free r : ℕ) where
  abbrev topmost : Bool
  topmost = leb active r && (ltb r bit_rk && eqb (r + 1) free)

  abbrev chosen : Bool → ℕ
  chosen b = elim b [ true ↦ r | false ↦ free ]

  pub freed_own : topmost ≡ true → freed_to active free r ≡ r
  freed_own h = ap chosen h

  pub freed_none : topmost ≡ false → freed_to active free r ≡ free
  freed_none h = ap chosen h

pub free_to : (r : ℕ) (s : State) (m : Buffers) → free_reg r s m ≡ done tt (with_free (freed_to s.active s.free r) s) m
unfolding free_reg and_then
free_to r s m = go (topmost s.active s.free r)
  where
    go : (b : Bool) → branch b (change (with_free r)) skip s m ≡ done tt (with_free (chosen s.active s.free r b) s) m
    go true = refl
    go false = refl

-- ---- constants

-- what the table answers is kept
pub constant_kept : (chunk : List ℕ) (v : Val) (s : State) (cs ls ks vs p : List ℕ) {a : Added} {kb vb pb : List ℕ} → added chunk s.table v ks vs p ≡ out a kb vb pb →
    add_constant chunk v s (bufs cs ls ks vs p) ≡ keep a s (bufs cs ls kb vb pb)
unfolding add_constant
constant_kept chunk v s cs ls ks vs p h = simp (add_constant, h)
