-- The machine of labelled code: its run is a fold over the words, so it needs no fuel, and its outcome is a value. Every outward step is taken by the model's `ask`, `ask_many`, `ask_truth`,
-- `compute` and `negation`. A word that is no jump falls on to a later word, whatever it does: one clause. Assumes nothing.
use Rattle.std.specs.Prelude.{ℕ, zero, suc, ◌+◌, ◌≤◌, Bool, true, false, not, ◌≡◌, refl, List, [], ◌∷◌, ◌++◌}
use Rattle.std.proofs.Math.Option.{Option, some, none}
use Rattle.model.specs.Values.{Value, nil, truth, text, is_true, first, StepKind, global_read, index_read, length_of, concatenation, Outward, World, Taken, taken, ask, ask_many, ask_truth, compute, negation}
use Rattle.model.specs.Running.{same as agrees}
use Rattle.labelled.specs.Code.{same, same_ne, same_refl, Rk, reg, con, Ex, val, cp, glob, idx, ari, neg, len, notx, cat, vfst, CT, cfix, cva, cct, Ctrl, always, test, tset, tseta, cmp, Tgt, to, lbl, PW, setw, lbs, mark, nilw, callw, selfw, Instr, pl, br, cbase, twidth, Code, size, Act, keep, land, re}

-- the steps so far, the newest first; registers
abbrev pub Hist : Type 0
Hist = List Outward

abbrev pub Regs : Type 0
Regs = ℕ → Value

-- what a run starts from: the outside, the varargs, and the registers, of which the first `active` hold locals and all others nil
pub record Setting : Type 0 where
  pub world : World
  pub varargs : List Value
  pub start : Regs
  pub active : ℕ
  pub blank : (k : ℕ) → active ≤ k → start k ≡ nil

-- what was taken, handed on; of a list of values the first; of one value the list
abbrev pub then {ℓ} : {A : Type 0} {B : Type ℓ} → Taken A → (A → Hist → B) → B
then t k = k t.gives t.steps

abbrev pub first_value : Taken (List Value) → Taken Value
first_value t = taken (first t.gives) t.steps

abbrev pub list_of : Taken Value → Taken (List Value)
list_of t = taken (t.gives ∷ []) t.steps

abbrev pub pick {ℓ} : {A : Type ℓ} → Bool → A → A → A
pick true a b = a
pick false a b = b

-- ---- registers

unfoldable pub upd : ℕ → Value → Regs → Regs
upd r v R k = pick (same k r) v (R k)

pub upd_same : (r : ℕ) (v : Value) (R : Regs) → upd r v R r ≡ v
unfolding upd
upd_same r v R = rw (same_refl r, upd) refl

pub upd_other : (r : ℕ) (v : Value) (R : Regs) (k : ℕ) → (k ≡ r → ⊥) → upd r v R k ≡ R k
unfolding upd
upd_other r v R k h = rw (same_ne k r h, upd) refl

abbrev pub rk : Rk → Regs → Value
rk (reg r) R = R r
rk (con v) R = v

-- nil in the registers a to a + k
abbrev pub nils : ℕ → ℕ → Regs → Regs
nils zero a R = upd a nil R
nils (suc k) a R = upd (suc k + a) nil (nils k a R)

-- n registers from a on
abbrev pub span : ℕ → ℕ → Regs → List Value
span zero a R = []
span (suc n) a R = R a ∷ span n (suc a) R

-- a value kept by a jump, on landing
abbrev pub wr : Option ℕ → ℕ → Regs → Regs
wr none b R = R
wr (some r) b R = pick (same r b) R (upd r (R b) R)

-- ---- outcomes: at a word, at a pending jump (with the register of the value it keeps), or stuck

pub data Outcome : Type 0 where
  at : ℕ → Regs → Hist → Outcome
  exit : ℕ → Option ℕ → Regs → Hist → Outcome
  stuck : Outcome

abbrev pub post_a : Act → ℕ → Option ℕ → Regs → Hist → Outcome
post_a keep ℓ b R h = exit ℓ b R h
post_a (land vt r dt) ℓ (some b) R h = at vt (wr r b R) h
post_a (land vt r dt) ℓ none R h = at dt R h
post_a (re m true) ℓ b R h = exit m none R h
post_a (re m false) ℓ b R h = exit m b R h

-- an edit, seen from the outcome
abbrev pub post : (ℕ → Act) → Outcome → Outcome
post g (at p R h) = at p R h
post g (exit ℓ b R h) = post_a (g ℓ) ℓ b R h
post g stuck = stuck

abbrev pub Past : ℕ → Act → Type 0
Past n keep = Unit {0}
Past n (land vt r dt) = (n ≤ vt) × (n ≤ dt)
Past n (re m b) = Unit {0}

abbrev pub goto : Tgt → Option ℕ → Regs → Hist → Outcome
goto (to p) b R h = at p R h
goto (lbl ℓ) b R h = exit ℓ b R h

module _ (Γ : Setting) where
  -- ---- plain words

  -- k concatenations from the right, over registers b to b + k
  abbrev pub cats : ℕ → ℕ → Regs → Hist → Taken Value
  cats zero b R h = taken (R b) h
  cats (suc k) b R h = then (cats k (suc b) R h) λ v h₁. ask Γ.world concatenation (R b ∷ v ∷ []) h₁

  unfoldable pub eval : Ex → Regs → Hist → Taken Value
  eval (val v) R h = taken v h
  eval (cp r) R h = taken (R r) h
  eval (glob g) R h = ask Γ.world global_read (text g ∷ []) h
  eval (idx t k) R h = ask Γ.world index_read (R t ∷ rk k R ∷ []) h
  eval (ari o x y) R h = compute Γ.world o (rk x R) (rk y R) h
  eval (neg r) R h = negation Γ.world (R r) h
  eval (len r) R h = ask Γ.world length_of (R r ∷ []) h
  eval (notx r) R h = taken (truth (not (is_true (R r)))) h
  eval (cat b k) R h = cats k b R h
  eval vfst R h = taken (first Γ.varargs) h

  unfoldable pub eval_c : CT → Regs → Hist → Taken (List Value)
  eval_c (cfix b n) R h = ask_many Γ.world (span (suc n) b R) h
  eval_c (cva b n) R h = ask_many Γ.world (span (suc n) b R ++ Γ.varargs) h
  eval_c (cct b n t) R h = then (eval_c t R h) λ vs h₁. ask_many Γ.world (span (suc n) b R ++ vs) h₁

  -- the object goes to its register before the key is read
  abbrev pub eval_s : ℕ → ℕ → Rk → Regs → Hist → Taken Value
  eval_s a o k R h = ask Γ.world index_read (R o ∷ rk k (upd (suc a) (R o) R) ∷ []) h

  -- where a word falls on to, and the registers and steps behind it
  abbrev pub onto : PW → ℕ → ℕ
  onto (setw a x) n = 1 + n
  onto (lbs a b) n = 2 + n
  onto mark n = n
  onto (nilw a k) n = 1 + n
  onto (callw t) n = twidth t + n
  onto (selfw a o k) n = 1 + n

  abbrev pub wrote : PW → Regs → Hist → Regs
  wrote (setw a x) R h = upd a (eval x R h).gives R
  wrote (lbs a b) R h = upd a (truth b) R
  wrote mark R h = R
  wrote (nilw a k) R h = nils k a R
  wrote (callw t) R h = upd (cbase t) (first (eval_c t R h).gives) R
  wrote (selfw a o k) R h = upd a (eval_s a o k R h).gives (upd (suc a) (R o) R)

  abbrev pub took : PW → Regs → Hist → Hist
  took (setw a x) R h = (eval x R h).steps
  took (lbs a b) R h = h
  took mark R h = h
  took (nilw a k) R h = h
  took (callw t) R h = (eval_c t R h).steps
  took (selfw a o k) R h = (eval_s a o k R h).steps

  -- ---- jumps

  abbrev pub choose : Bool → Outcome → Outcome → Outcome
  choose true a b = a
  choose false a b = b

  abbrev pub compared : StepKind → Rk → Rk → Regs → Hist → Taken Bool
  compared o x y R h = ask_truth Γ.world o (rk x R ∷ rk y R ∷ []) h

  abbrev pub branch : Ctrl → Tgt → ℕ → Regs → Hist → Outcome
  branch always t n R h = goto t none R h
  branch (test b c) t n R h = choose (agrees (is_true (R b)) c) (goto t none R h) (at (2 + n) R h)
  branch (tset b c) t n R h = choose (agrees (is_true (R b)) c) (goto t (some b) R h) (at (2 + n) R h)
  branch (tseta a b c) t n R h = choose (agrees (is_true (R b)) c) (goto t none (upd a (R b) R) h) (at (2 + n) R h)
  branch (cmp o c x y) t n R h = choose (agrees (compared o x y R h).gives c) (goto t none R (compared o x y R h).steps) (at (2 + n) R (compared o x y R h).steps)

  -- ---- the run

  abbrev pub perform : Instr → ℕ → Regs → Hist → Outcome
  perform (pl w) n R h = at (onto w n) (wrote w R h) (took w R h)
  perform (br c t) n R h = branch c t n R h

  abbrev pub step_at : Bool → ℕ → Instr → ℕ → Regs → Hist → Outcome
  step_at true n i p R h = perform i n R h
  step_at false n i p R h = at p R h

  abbrev pub step : ℕ → Instr → Outcome → Outcome
  step n i (at p R h) = step_at (same p n) n i p R h
  step n i (exit ℓ b R h) = exit ℓ b R h
  step n i stuck = stuck

  unfoldable pub exec : Code → Outcome
  exec [] = at 0 Γ.start []
  exec (i ∷ c) = step (size c) i (exec c)
