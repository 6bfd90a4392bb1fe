-- The steps that touch words and lists alone, from a state that stands for labelled code: each is refused, or done and stands for the edited code. By the laws of threads for the words and lists;
-- the tests' registers stay below the frame, no other label's list changes, and a mark says where a label lies.
use Rattle.std.specs.Prelude.{ℕ, suc, ◌+◌, ◌≤◌, ◌<◌, Bool, true, false, not, ◌≡◌, refl, length, set}
use Rattle.std.proofs.Common.{sym, ◌∙◌, subst, arith}
use mathlib.Core.List.{List, [], ◌∷◌}
use Rattle.std.proofs.Math.Option.{some, none}
use Rattle.instructions.specs.Word.{abc_of}
use Rattle.opcodes.specs.declared.OpCode.TheVariants as op
use Rattle.constants.specs.Entry.{Constant}
use Rattle.model.specs.Values.{StepKind, truth}
use Rattle.model.specs.Conditions.{bit, pop, invertjump}
use Rattle.model.specs.declared.ExprKind.TheVariants.{Jmp}
use Rattle.model.specs.declared.ExprContext.{ExprContext}
use Rattle.model.specs.declared.State.{State}
use Rattle.model.specs.Descriptor.{is_kind}
use Rattle.model.specs.Steps.{Buffers, done, ◌>>◌}
use Rattle.model.specs.Jumps.{word, concat_jumps, linked, remove_values}
use Rattle.model.specs.Emission.{with_jpc, emit_at, emit, concat, emit_jump, patch_to_here, discharge_jpc}
use Rattle.model.specs.Discharge.{settle}
use Rattle.labelled.specs.Code.{Rk, same, same_ne, val, CT, twidth, Ctrl, always, test, tset, tseta, cmp, to, lbl, PW, setw, lbs, mark, nilw, callw, selfw, pl, br, pwidth, setreg, Code, size, Act, keep, land, re, ed_br, edit}
use Rattle.labelled.specs.Machine.{pick}
use Rattle.labelled.specs.Emission.{one, here, hit}
use Rattle.labelled.specs.Discharge.{lands, pair_g}
use Rattle.labelled.specs.Firm.{true≢false}
use Rattle.labelled.specs.Marks.{nil_last}
use Rattle.threads.specs.Encoding.{Ctl, Open}
use Rattle.threads.specs.Places.{jofs}
use Rattle.threads.specs.Represents.{set_h}
use Rattle.threads.specs.Holding.{Ends, ends_map, Holds, Kept, Aside, with_code, aside_with, emit_line}
use Rattle.threads.specs.Stepping.{hold_over, hold_jump, hold_concat, hold_here, hold_to_here, hold_strip, hold_replace, hold_invert, to_here}
use Rattle.threads.proofs.Stepping.{hold_emit_at, hold_pair, hold_discharge, hold_popped}
use Rattle.threads.specs.Emitting.{discharged}
use Rattle.threads.specs.Last.{inverted}
use Rattle.threads.proofs.Settling.{hold_settle}
use Rattle.threads.specs.Coded.{CodesC, Codes, coded, LowC, Low}
use Rattle.simulation.specs.Sim.{Env, NoNil, Apart, labelled_here, other_word, Marks, Sim}

-- ---- registers of tests

abbrev pub LowA : ℕ → Act → Type 0
LowA F keep = Unit {0}
LowA F (land v none d) = Unit {0}
LowA F (land v (some r) d) = r < F
LowA F (re m b) = Unit {0}

module _ (F : ℕ) where
  low_set : (t : Bool) (r b : ℕ) (k : Bool) → r < F → b < F → LowC F (setreg t r b k)
  low_set true r b k x y = y
  low_set false r b k x y = (x, y)

  low_br : (a : Act) (k : Ctrl) (ℓ : ℕ) → LowA F a → LowC F k → Low F (ed_br a k ℓ ∷ [])
  low_br keep k ℓ x y = (y, tt)
  low_br (land v r d) always ℓ x y = (y, tt)
  low_br (land v r d) (test b k) ℓ x y = (y, tt)
  low_br (land v none d) (tset b k) ℓ x y = (y, tt)
  low_br (land v (some r) d) (tset b k) ℓ x y = (low_set (same r b) r b k x y, tt)
  low_br (land v r d) (tseta a b k) ℓ x y = (y, tt)
  low_br (land v r d) (cmp o k u w) ℓ x y = (y, tt)
  low_br (re n false) k ℓ x y = (y, tt)
  low_br (re n true) always ℓ x y = (y, tt)
  low_br (re n true) (test b k) ℓ x y = (y, tt)
  low_br (re n true) (tset b k) ℓ x y = (y, tt)
  low_br (re n true) (tseta a b k) ℓ x y = (y, tt)
  low_br (re n true) (cmp o k u w) ℓ x y = (y, tt)

  pub low_edit : (g : ℕ → Act) → ((ℓ : ℕ) → LowA F (g ℓ)) → (c : Code) → Low F c → Low F (edit g c)
  unfolding edit
  low_edit g a [] h = tt
  low_edit g a (pl w ∷ c) h = (tt, low_edit g a c h.1)
  low_edit g a (br k (to p) ∷ c) h = (h.0, low_edit g a c h.1)
  low_edit g a (br k (lbl ℓ) ∷ c) h = ((low_br (g ℓ) k ℓ (a ℓ) h.0).0, low_edit g a c h.1)

  low_one : (a : ℕ) (x : Act) → LowA F x → (ℓ : ℕ) → LowA F (one a x ℓ)
  low_one a x h ℓ = go (same ℓ a)
    where
      go : (t : Bool) → LowA F (pick t x keep)
      go true = h
      go false = tt

  pub low_edit₁ : (a : ℕ) (x : Act) → LowA F x → (c : Code) → Low F c → Low F (edit (one a x) c)
  low_edit₁ a x h c l = low_edit (one a x) (low_one a x h) c l

  low_lands : (t f r final pf pt : ℕ) → r < F → (ℓ : ℕ) → LowA F (lands t f r final pf pt ℓ)
  low_lands t f r final pf pt h ℓ = go (same ℓ t) (same ℓ f)
    where
      go : (x y : Bool) → LowA F (pick x (land final (some r) pt) (pick y (land final (some r) pf) keep))
      go true y = h
      go false true = h
      go false false = tt

  low_pair : (c : Code) (j t f r : ℕ) → r < F → (ℓ : ℕ) → LowA F (pair_g c j t f r ℓ)
  low_pair c j t f r h ℓ = go (same ℓ 0) (same ℓ j) _ (low_lands t f r (2 + size c) (size c) (1 + size c) h ℓ)
    where
      go : (x y : Bool) (z : Act) → LowA F z → LowA F (pick x (land (size c) none (size c)) (pick y (re 0 false) z))
      go true y z h = tt
      go false true z h = tt
      go false false z h = h

-- ---- the end of `exp2reg`

-- the loads of false and true, or a mark; where some jump brings no value (v); of a comparison (k)
abbrev pub load_c : Code → ℕ → ℕ → ℕ → ℕ → Code
load_c d j tl fl r = pl (setw r (val (truth true))) ∷ (pl (lbs r false) ∷ edit (pair_g d j tl fl r) d)

abbrev pub settled_c : Code → ℕ → ℕ → ℕ → ℕ → Bool → Bool → Code
settled_c c j tl fl r v k = pick v (pick k (load_c c j tl fl r) (load_c (br always (lbl j) ∷ edit (one 0 (re j true)) c) j tl fl r)) (pl mark ∷ edit (lands tl fl r (size c) (size c) (size c)) c)

abbrev pub settled_h : (ℕ → ℕ) → Code → ℕ → ℕ → ℕ → Bool → Bool → ℕ → ℕ
settled_h H c j tl fl v k = set_h tl 0 (set_h fl 0 (set_h j 0 (set_h 0 (pick v (pick k 0 (suc (size c))) (H 0)) H)))

-- ---- lists of others

pub set_other : (a x : ℕ) (H : ℕ → ℕ) (ℓ : ℕ) → (ℓ ≡ a → ⊥) → set_h a x H ℓ ≡ H ℓ
set_other a x H ℓ n = rw (same_ne ℓ a n) refl

-- ---- marks

-- the last word stays what it is
pub no_nil_edit : (g : ℕ → Act) (c : Code) → NoNil c → NoNil (edit g c)
unfolding edit
no_nil_edit g [] h = h
no_nil_edit g (pl (setw a x) ∷ c) h = tt
no_nil_edit g (pl (lbs a b) ∷ c) h = tt
no_nil_edit g (pl mark ∷ c) h = no_nil_edit g c h
no_nil_edit g (pl (nilw a k) ∷ c) h = h
no_nil_edit g (pl (callw t) ∷ c) h = tt
no_nil_edit g (pl (selfw a o k) ∷ c) h = tt
no_nil_edit g (br k (to p) ∷ c) h = tt
no_nil_edit g (br k (lbl ℓ) ∷ c) h = no_nil_br (g ℓ) k ℓ (edit g c)
  where
    no_nil_br : (a : Act) (k : Ctrl) (ℓ : ℕ) (c : Code) → NoNil (ed_br a k ℓ ∷ c)
    no_nil_br keep k ℓ c = tt
    no_nil_br (land v r d) always ℓ c = tt
    no_nil_br (land v r d) (test b k) ℓ c = tt
    no_nil_br (land v r d) (tset b k) ℓ c = tt
    no_nil_br (land v r d) (tseta a b k) ℓ c = tt
    no_nil_br (land v r d) (cmp o k x y) ℓ c = tt
    no_nil_br (re n false) k ℓ c = tt
    no_nil_br (re n true) always ℓ c = tt
    no_nil_br (re n true) (test b k) ℓ c = tt
    no_nil_br (re n true) (tset b k) ℓ c = tt
    no_nil_br (re n true) (tseta a b k) ℓ c = tt
    no_nil_br (re n true) (cmp o k x y) ℓ c = tt

marks_of : (a : Act) (k : Ctrl) (ℓ : ℕ) (c : Code) (s : State) → Marks (ed_br a k ℓ ∷ c) s
marks_of keep k ℓ c s = tt
marks_of (land v r d) always ℓ c s = tt
marks_of (land v r d) (test b k) ℓ c s = tt
marks_of (land v r d) (tset b k) ℓ c s = tt
marks_of (land v r d) (tseta a b k) ℓ c s = tt
marks_of (land v r d) (cmp o k x y) ℓ c s = tt
marks_of (re n false) k ℓ c s = tt
marks_of (re n true) always ℓ c s = tt
marks_of (re n true) (test b k) ℓ c s = tt
marks_of (re n true) (tset b k) ℓ c s = tt
marks_of (re n true) (tseta a b k) ℓ c s = tt
marks_of (re n true) (cmp o k x y) ℓ c s = tt

apart_edit : (g : ℕ → Act) (c : Code) (s : State) → Apart c s → Apart (edit g c) s
apart_edit g c s (labelled_here l) = labelled_here l
apart_edit g c s (other_word h) = other_word (no_nil_edit g c h)

-- code with a pending jump, whose last word is no `LoadNil`
pub hit_some : (a : ℕ) (c : Code) → hit false a a c ≡ true → (c ≡ [] → ⊥)
unfolding hit
hit_some a [] e z = true≢false (sym e)
hit_some a (i ∷ c) e z = let y : ◌≡◌ {A = ℕ} 0 1 = cc in omega arith

apart_last : (c : Code) (s : State) → (c ≡ [] → ⊥) → nil_last c ≡ false → Marks c s → Apart c s
apart_last [] s n e h = absurd (n refl)
apart_last (pl (setw a x) ∷ c) s n e h = other_word tt
apart_last (pl (lbs a b) ∷ c) s n e h = other_word tt
apart_last (pl mark ∷ c) s n e (labelled_here l) = labelled_here l
apart_last (pl mark ∷ c) s n e (other_word h) = other_word h
apart_last (pl (nilw a k) ∷ c) s n e h = absurd (true≢false e)
apart_last (pl (callw t) ∷ c) s n e h = other_word tt
apart_last (pl (selfw a o k) ∷ c) s n e h = other_word tt
apart_last (br k g ∷ c) s n e h = other_word tt

pub marks_edit : (g : ℕ → Act) (c : Code) (s : State) → Marks c s → Marks (edit g c) s
unfolding edit
marks_edit g [] s h = h
marks_edit g (pl (setw a x) ∷ c) s h = tt
marks_edit g (pl (lbs a b) ∷ c) s h = tt
marks_edit g (pl mark ∷ c) s h = apart_edit g c s h
marks_edit g (pl (nilw a k) ∷ c) s h = h
marks_edit g (pl (callw t) ∷ c) s h = tt
marks_edit g (pl (selfw a o k) ∷ c) s h = tt
marks_edit g (br k (to p) ∷ c) s h = tt
marks_edit g (br k (lbl ℓ) ∷ c) s h = marks_of (g ℓ) k ℓ (edit g c) s

module _ {Γ : Env} {s : State} {m : Buffers} {H : ℕ → ℕ} {c : Code} {f : ℕ} {t : List Constant} (h : Sim Γ s m H c f t) where
  abbrev F : ℕ
  F = s.frame

  -- all but words, lists and labels is as it was
  pub sim_make : {s' : State} {m' : Buffers} {G : ℕ → ℕ} {d : Code} → Aside s s' → Kept m m' → Holds (coded t F) Γ.cap s' m' G d → Low F d → s'.label ≤ s'.pc + 1 → Marks d s' →
      ((ℓ : ℕ) → 1 ≤ ℓ → ℓ < Γ.n → G ℓ ≡ H ℓ) → Sim Γ s' m' G d f t
  sim_make {s' = s'} {m' = m'} {G = G} {d = d} a k q lo la mk ot = record {
    holds = subst (λ φ. Holds (coded t φ) Γ.cap s' m' G d) (sym a.frame) q;
    low = rw a.frame lo;
    free = a.free ∙ h.free;
    taken = rw a.frame h.taken;
    two = rw a.frame h.two;
    most = rw a.frame h.most;
    least = rw a.frame h.least;
    locals = a.active ∙ h.locals;
    at = a.at ∙ h.at;
    line = a.line ∙ h.line;
    table = rw (a.table, k.kinds, k.values, k.pool) h.table;
    label = la;
    marks = mk;
    others = λ ℓ x y. ot ℓ x y ∙ h.others ℓ x y;
  }

  pub marks_same : (c : Code) (s' : State) → s'.pc ≡ s.pc → s'.label ≡ s.label → Marks c s → Marks c s'
  marks_same [] s' a b q = omega arith
  marks_same (pl (setw a x) ∷ c) s' p l q = tt
  marks_same (pl (lbs a b) ∷ c) s' p l q = tt
  marks_same (pl mark ∷ c) s' p l (labelled_here z) = labelled_here (omega arith)
  marks_same (pl mark ∷ c) s' p l (other_word z) = other_word z
  marks_same (pl (nilw a k) ∷ c) s' p l q = omega arith
  marks_same (pl (callw u) ∷ c) s' p l q = tt
  marks_same (pl (selfw a b k) ∷ c) s' p l q = tt
  marks_same (br k g ∷ c) s' p l q = tt

  -- one more plain word, which is no mark
  pub marks_word : (x : PW) → pwidth x ≡ 1 → (d : Code) (s' : State) → s'.label ≤ s'.pc → Marks (pl x ∷ d) s'
  marks_word (setw a x) o d s' l = tt
  marks_word (lbs a b) o d s' l = tt
  marks_word mark o d s' l = absurd (omega arith)
  marks_word (nilw a k) o d s' l = l
  marks_word (callw u) o d s' l = tt
  marks_word (selfw a b k) o d s' l = tt

  pub sim_emit_at : (line : ℕ) (x : PW) (w : ℕ) → pwidth x ≡ 1 → ((us : List ℕ) → word us (size c) ≡ w → Codes t F us (size c) x) →
      Ends (emit_at w line s m) (λ a s' m'. (a ≡ size c) × (Aside s s' × Sim Γ s' m' (set_h 0 0 H) (pl x ∷ edit (here c) c) f t))
  sim_emit_at line x w o p = ends_map (hold_emit_at h.holds line x w o p) (λ a s' m' q.
      let z : Aside s s' = aside_with _ _ _ q.1.state in
      let l : s'.label ≤ s'.pc = rw q.1.state h.label in
      (q.0, (z, sim_make z q.1.kept q.1.holds (tt, low_edit₁ F 0 _ tt c h.low) (omega (arith, l)) (marks_word x o (edit (here c) c) s' l) (λ ℓ u v. set_other 0 0 H ℓ (λ e. omega arith)))))

  pub sim_emit : (x : PW) (w : ℕ) → pwidth x ≡ 1 → ((us : List ℕ) → word us (size c) ≡ w → Codes t F us (size c) x) →
      Ends (emit w s m) (λ a s' m'. (a ≡ size c) × (Aside s s' × Sim Γ s' m' (set_h 0 0 H) (pl x ∷ edit (here c) c) f t))
  sim_emit x w o p = rw (emit_line w s m) (sim_emit_at s.line x w o p)

  -- `emit_jump`, under a label that has no list
  pub sim_jump : (ℓ : ℕ) → Γ.n ≤ ℓ → 1 ≤ ℓ → H ℓ ≡ 0 →
      Ends (emit_jump s m) (λ a s' m'. (a ≡ suc (size c)) × (Aside s s' × Sim Γ s' m' (set_h ℓ (suc (size c)) (set_h 0 0 H)) (br always (lbl ℓ) ∷ edit (one 0 (re ℓ true)) c) f t))
  sim_jump ℓ n o z = ends_map (hold_jump h.holds ℓ (λ e. omega arith) z) (λ a s' m' q.
      let y : Aside s s' = aside_with _ _ _ q.1.state in
      let l : s'.label ≤ s'.pc = rw q.1.state h.label in
      (q.0, (y, sim_make y q.1.kept q.1.holds (tt, low_edit₁ F 0 (re ℓ true) tt c h.low) (omega (arith, l)) tt (λ k u v. rw (same_ne k ℓ (λ e. omega arith), same_ne k 0 (λ e. omega arith)) refl))))

  -- a control word and its jump
  pub sim_pair : (k : Ctrl) (ℓ w : ℕ) → jofs k ≡ 1 → Open k → ((us : List ℕ) → word us (size c) ≡ w → Ctl (coded t F) us (size c) k) → LowC F k → Γ.n ≤ ℓ → 1 ≤ ℓ → H ℓ ≡ 0 →
      Ends ((emit w >> emit_jump) s m) (λ a s' m'. (a ≡ suc (1 + size c)) × (Aside s s' × Sim Γ s' m' (set_h ℓ (suc (1 + size c)) (set_h 0 0 H)) (br k (lbl ℓ) ∷ edit (here c) c) f t))
  sim_pair k ℓ w o op cw lo n u z = ends_map (hold_pair h.holds k ℓ w o op cw (λ e. omega arith) z) (λ a s' m' q.
      let y : Aside s s' = aside_with _ _ _ q.1.state in
      let l : s'.label ≤ s'.pc = rw q.1.state (omega (arith, h.label)) in
      (q.0, (y, sim_make y q.1.kept q.1.holds (lo, low_edit₁ F 0 _ tt c h.low) (omega (arith, l)) tt (λ i a b. rw (same_ne i ℓ (λ e. omega arith), same_ne i 0 (λ e. omega arith)) refl))))

  pub aside_refl : Aside s s
  aside_refl = record { at = refl; line = refl; table = refl; active = refl; free = refl; frame = refl }

  pub kept_code : (us : List ℕ) → Kept m (with_code us m)
  kept_code us = record { kinds = refl; values = refl; pool = refl }

  -- `concat_jumps` of two lists: list a goes behind list b, or before it, and both are called b
  pub sim_concat : (a b : ℕ) → Γ.n ≤ a → Γ.n ≤ b → 1 ≤ a → 1 ≤ b → (a ≡ b → ⊥) →
      (concat (H b) (H a) s m ≡ done (concat_jumps (H b) (H a)) s (with_code (linked m.code (H b) (H a)) m)) ×
      Sim Γ s (with_code (linked m.code (H b) (H a)) m) (set_h b (concat_jumps (H b) (H a)) (set_h a 0 H)) (edit (one a (re b false)) c) f t
  sim_concat a b na nb oa ob ne =
      let q = hold_concat h.holds a b (λ e. omega arith) (λ e. omega arith) ne in
      (q.0, sim_make aside_refl (kept_code _) q.1 (low_edit₁ F a (re b false) tt c h.low) h.label (marks_edit (one a (re b false)) c s h.marks) (λ k u v. rw (same_ne k b (λ e. omega arith), same_ne k a (λ e. omega arith)) refl))

  -- `remove_values`
  pub sim_strip : (a : ℕ) → Sim Γ s (with_code (remove_values (length m.code) m.code (H a)) m) H (edit (one a (re a true)) c) f t
  sim_strip a = sim_make aside_refl (kept_code _) (hold_strip h.holds a) (low_edit₁ F a (re a true) tt c h.low) h.label (marks_edit (one a (re a true)) c s h.marks) (λ k u v. refl)

  -- `discharge_jpc`
  pub sim_discharge : (discharge_jpc s m ≡ done tt (with_jpc 0 s) (with_code (discharged m.code s.pc s.jpc) m)) ×
      Sim Γ (with_jpc 0 s) (with_code (discharged m.code s.pc s.jpc) m) (set_h 0 0 H) (edit (here c) c) f t
  sim_discharge =
      let q = hold_discharge h.holds in (
        q.0,
        sim_make (record { at = refl; line = refl; table = refl; active = refl; free = refl; frame = refl }) (kept_code _) q.1 (low_edit₁ F 0 _ tt c h.low) h.label (marks_edit (here c) c (with_jpc 0 s) (marks_same c (with_jpc 0 s) refl refl h.marks))
            (λ k u v. rw (same_ne k 0 (λ e. omega arith)) refl),
      )

  -- `patch_to_here`, with a mark where the list is not empty
  pub sim_here : (a : ℕ) → Γ.n ≤ a → 1 ≤ a → (hit false a a c ≡ true → nil_last c ≡ false) →
      (patch_to_here (H a) s m ≡ done tt (with_jpc (concat_jumps s.jpc (H a)) s) (with_code (linked m.code s.jpc (H a)) m)) ×
      Sim Γ (with_jpc (concat_jumps s.jpc (H a)) s) (with_code (linked m.code s.jpc (H a)) m) (set_h 0 (concat_jumps (H 0) (H a)) (set_h a 0 H)) (to_here a c) f t
  sim_here a n o nl = (
    (hold_here h.holds a (λ e. omega arith)).0,
    sim_make (record { at = refl; line = refl; table = refl; active = refl; free = refl; frame = refl }) (kept_code _) (hold_to_here h.holds a (λ e. omega arith) (λ us i. tt)) (low (hit false a a c)) h.label (marks (hit false a a c) refl)
        (λ k u v. rw (same_ne k 0 (λ e. omega arith), same_ne k a (λ e. omega arith)) refl),
  )
    where
      s' : State
      s' = with_jpc (concat_jumps s.jpc (H a)) s

      low : (b : Bool) → Low F (pick b (pl mark ∷ edit (one a (re 0 false)) c) c)
      low true = (tt, low_edit₁ F a (re 0 false) tt c h.low)
      low false = h.low

      marks : (b : Bool) → hit false a a c ≡ b → Marks (pick b (pl mark ∷ edit (one a (re 0 false)) c) c) s'
      marks true e = apart_edit (one a (re 0 false)) c s' (apart_last c s' (hit_some a c e) (nl e) (marks_same c s' refl refl h.marks))
      marks false e = marks_same c s' refl refl h.marks

  -- the end of `exp2reg`
  module _ (e : ExprContext) (j tl fl : ℕ) (ej : H j ≡ 0) (et : e.t ≡ H tl) (ef : e.f ≡ H fl) (nj : Γ.n ≤ j) (nt : Γ.n ≤ tl) (nf : Γ.n ≤ fl) (o : 1 ≤ Γ.n) (jt : j ≡ tl → ⊥) (jf : j ≡ fl → ⊥) (tf : tl ≡ fl → ⊥)
      (reg : ℕ) (below : reg < F) where
    low_settled : (v k : Bool) → Low F (settled_c c j tl fl reg v k)
    low_settled true true = (tt, (tt, low_edit F (pair_g c j tl fl reg) (low_pair F c j tl fl reg below) c h.low))
    low_settled true false = (tt, (tt, low_edit F (pair_g _ j tl fl reg) (low_pair F _ j tl fl reg below) _ (tt, low_edit₁ F 0 (re j true) tt c h.low)))
    low_settled false k = (tt, low_edit F (lands tl fl reg (size c) (size c) (size c)) (low_lands F tl fl reg (size c) (size c) (size c) below) c h.low)

    marks_settled : (v k : Bool) (s' : State) → s'.pc < s'.label → Marks (settled_c c j tl fl reg v k) s'
    marks_settled true true s' l = tt
    marks_settled true false s' l = tt
    marks_settled false k s' l = labelled_here l

    pub sim_settle : Ends (settle e reg s m) (λ u s' m'. Aside s s' × Sim Γ s' m' (settled_h H c j tl fl (hit true tl fl c) (is_kind Jmp e)) (settled_c c j tl fl reg (hit true tl fl c) (is_kind Jmp e)) f t)
    sim_settle = ends_map
        (hold_settle h.holds e j tl fl ej et ef (λ z. omega arith) (λ z. omega arith) (λ z. omega arith) jt jf tf reg (omega (arith, h.most)) (λ us i z. (below, z)) (λ us i z. (below, z)) (λ us i. tt))
        (λ u s' m' q. (
          q.0,
          sim_make q.0 q.2 q.3 (low_settled (hit true tl fl c) (is_kind Jmp e)) (omega (arith, q.1)) (marks_settled (hit true tl fl c) (is_kind Jmp e) s' (omega (arith, q.1)))
              (λ k x y. rw (same_ne k tl (λ z. omega arith), same_ne k fl (λ z. omega arith), same_ne k j (λ z. omega arith), same_ne k 0 (λ z. omega arith)) refl),
        ))

-- ---- the last instruction

module _ {Γ : Env} {s : State} {m : Buffers} {H : ℕ → ℕ} {c : Code} {f : ℕ} {t : List Constant} where
  -- another word in its place
  pub sim_replace : {w : PW} → pwidth w ≡ 1 → (h : Sim Γ s m H (pl w ∷ c) f t) (u : PW) (v : ℕ) → pwidth u ≡ 1 → Marks (pl u ∷ c) s → ((us : List ℕ) → word us (size c) ≡ v → Codes t s.frame us (size c) u) →
      Sim Γ s (with_code (set m.code (size c) v) m) H (pl u ∷ c) f t
  sim_replace o h u v p l e = sim_make h (aside_refl h) (kept_code h _) (hold_replace o h.holds u v p e) (tt, h.low.1) h.label l (λ k x y. refl)

  -- `invertjump`
  pub sim_invert : {o : StepKind} {k : Bool} {x y : Rk} {ℓ : ℕ} (e : ExprContext) → e.info ≡ 1 + size c → (h : Sim Γ s m H (br (cmp o k x y) (lbl ℓ) ∷ c) f t) →
      (invertjump e s m ≡ done tt s (with_code (inverted m.code e.info) m)) × Sim Γ s (with_code (inverted m.code e.info) m) H (br (cmp o (not k) x y) (lbl ℓ) ∷ c) f t
  sim_invert e z h = let q = hold_invert e z h.holds in (q.0, sim_make h (aside_refl h) (kept_code h _) q.1 h.low h.label tt (λ k x y. refl))

  -- a popped `Not`, with its test and jump
  pub sim_popped : {w : PW} → pwidth w ≡ 1 → (h : Sim Γ s m H (pl w ∷ c) f t) (b ℓ : ℕ) (k : Bool) → b < s.frame → H 0 ≡ 0 → Γ.n ≤ ℓ → 1 ≤ ℓ → H ℓ ≡ 0 →
      Ends ((pop >> (emit (abc_of op.Test b 0 (bit k)) >> emit_jump)) s m)
      (λ a s' m'. (a ≡ suc (1 + size c)) × (Aside s s' × Sim Γ s' m' (set_h ℓ (suc (1 + size c)) (set_h 0 0 H)) (br (test b k) (lbl ℓ) ∷ c) f t))
  unfolding size
  sim_popped o h b ℓ k l z n u zz = ends_map (hold_popped o h.holds b ℓ k (omega (arith, h.most)) z (λ e. omega arith) zz) (λ a s' m' q.
      let y : Aside s s' = aside_with _ _ _ q.1.state in
      let pc : s.pc ≡ 1 + size c = omega (arith, h.holds.pcs, o) in
      (q.0, (y, sim_make h y q.1.kept q.1.holds (l, h.low.1) (rw q.1.state (omega (arith, h.label, pc))) tt (λ i a b. rw (same_ne i ℓ (λ e. omega arith), same_ne i 0 (λ e. omega arith)) refl))))

-- a word that the last instruction takes over, a call's list
pub sim_over : {Γ : Env} {s : State} {m : Buffers} {H : ℕ → ℕ} {c : Code} {f : ℕ} {t : List Constant} {w : PW} (h : Sim Γ s m H (pl w ∷ c) f t) (us : List ℕ) → length us ≡ length m.code → ((q : ℕ) → q < size c → word us q ≡ word m.code q) → H 0 ≡ 0 → ((q : ℕ) → pwidth w + size c ≤ q → word us q ≡ word m.code q) →
    (line : ℕ) (u : CT) (v : ℕ) → twidth u ≡ 1 + pwidth w → ((vs : List ℕ) → ((q : ℕ) → q < pwidth w + size c → word vs q ≡ word us q) → word vs (pwidth w + size c) ≡ v → CodesC t s.frame vs (size c) 2 u) →
    Ends (emit_at v line s (with_code us m)) (λ a s' m'. (a ≡ pwidth w + size c) × (Aside s s' × Sim Γ s' m' H (pl (callw u) ∷ c) f t))
sim_over {s = s} h us n g z k line u v o e = ends_map (hold_over h.holds us n g z k line (callw u) v o e) (λ a s' m' q.
    let y : Aside s s' = aside_with _ _ _ q.1.state in
    (q.0, (y, sim_make h y q.1.kept q.1.holds (tt, h.low.1) (rw q.1.state (omega (arith, h.label))) tt (λ ℓ a b. refl))))
