-- The law of edits: the run of edited code is the run of the code, and then the edit on its outcome, wherever the edit lands jumps at or past the end. So every patch of a list of jumps is one equation.
use Rattle.std.specs.Prelude.{ℕ, suc, ◌+◌, ◌≤◌, Bool, true, false, ◌≡◌}
use Rattle.std.proofs.Math.Path.{refl, ap}
use Rattle.std.proofs.Common.{sym, ◌∙◌, arith as nat}
use mathlib.Core.List.{[], ◌∷◌}
use Rattle.std.proofs.Math.Option.{Option, some, none}
use Rattle.model.specs.Values.{is_true}
use Rattle.model.specs.Running.{same as agrees}
use Rattle.labelled.specs.Code.{same, same_ne, same_true, cfix, cva, cct, Ctrl, always, test, tset, tseta, cmp, to, lbl, setw, lbs, mark, nilw, callw, selfw, Instr, pl, br, cwidth, width, Code, size, Act, keep, land, re, setreg, ed_br, ed1, edit}
use Rattle.labelled.specs.Machine.{Hist, Regs, Setting, pick, upd, wr, Outcome, at, exit, stuck, post_a, post, Past, choose, branch, perform, step_at, step, exec}

-- ---- edits keep sizes

width_setreg : (t : Bool) (r b : ℕ) (c : Bool) → cwidth (setreg t r b c) ≡ 2
width_setreg true r b c = refl
width_setreg false r b c = refl

pub width_ed : (a : Act) (c : Ctrl) (ℓ : ℕ) → width (ed_br a c ℓ) ≡ cwidth c
width_ed keep c ℓ = refl
width_ed (land vt r dt) always ℓ = refl
width_ed (land vt r dt) (test b c) ℓ = refl
width_ed (land vt none dt) (tset b c) ℓ = refl
width_ed (land vt (some r) dt) (tset b c) ℓ = width_setreg (same r b) r b c
width_ed (land vt r dt) (tseta a b c) ℓ = refl
width_ed (land vt r dt) (cmp o c x y) ℓ = refl
width_ed (re m false) c ℓ = refl
width_ed (re m true) always ℓ = refl
width_ed (re m true) (test b c) ℓ = refl
width_ed (re m true) (tset b c) ℓ = refl
width_ed (re m true) (tseta a b c) ℓ = refl
width_ed (re m true) (cmp o c x y) ℓ = refl

pub width_ed1 : (g : ℕ → Act) (i : Instr) → width (ed1 g i) ≡ width i
width_ed1 g (pl w) = refl
width_ed1 g (br c (to p)) = refl
width_ed1 g (br c (lbl ℓ)) = width_ed (g ℓ) c ℓ

pub size_edit : (g : ℕ → Act) (c : Code) → size (edit g c) ≡ size c
unfolding size edit
size_edit g [] = refl
size_edit g (i ∷ c) = rw (width_ed1 g i, size_edit g c) refl

pub past_mono : (n m : ℕ) (a : Act) → n ≤ m → Past m a → Past n a
past_mono n m keep l q = tt
past_mono n m (land vt r dt) l q = omega nat
past_mono n m (re k b) l q = tt

abbrev pub IsMark : Instr → Type 0
IsMark (pl mark) = Unit {0}
IsMark (pl (setw a x)) = ⊥
IsMark (pl (lbs a b)) = ⊥
IsMark (pl (nilw a b)) = ⊥
IsMark (pl (callw t)) = ⊥
IsMark (pl (selfw a o k)) = ⊥
IsMark (br c t) = ⊥

pub width_pos : (i : Instr) → (IsMark i → ⊥) → 1 ≤ width i
width_pos (pl mark) q = absurd (q tt)
width_pos (pl (setw a x)) q = omega nat
width_pos (pl (lbs a b)) q = omega nat
width_pos (pl (nilw a b)) q = omega nat
width_pos (pl (callw (cfix b n))) q = omega nat
width_pos (pl (callw (cva b n))) q = omega nat
width_pos (pl (callw (cct b n t))) q = omega nat
width_pos (pl (selfw a o k)) q = omega nat
width_pos (br always t) q = omega nat
width_pos (br (test b c) t) q = omega nat
width_pos (br (tset b c) t) q = omega nat
width_pos (br (tseta a b c) t) q = omega nat
width_pos (br (cmp o c x y) t) q = omega nat

module _ (Γ : Setting) where
  -- at the word itself
  branch_set : (t k : Bool) (r b : ℕ) (c : Bool) (vt n : ℕ) (R : Regs) (h : Hist) → t ≡ same r b → k ≡ agrees (is_true (R b)) c →
      branch Γ (setreg t r b c) (to vt) n R h ≡ choose Γ k (at vt (pick t R (upd r (R b) R)) h) (at (2 + n) R h)
  branch_set true true r b c vt n R h e f = rw (← f) refl
  branch_set true false r b c vt n R h e f = rw (← f) refl
  branch_set false true r b c vt n R h e f = rw (← f) refl
  branch_set false false r b c vt n R h e f = rw (← f) refl

  post_choose : (g : ℕ → Act) (k : Bool) (a b : Outcome) → post g (choose Γ k a b) ≡ choose Γ k (post g a) (post g b)
  post_choose g true a b = refl
  post_choose g false a b = refl

  branch_ed : (g : ℕ → Act) (a : Act) (c : Ctrl) (ℓ n : ℕ) (R : Regs) (h : Hist) → g ℓ ≡ a →
      perform Γ (ed_br a c ℓ) n R h ≡ post g (branch Γ c (lbl ℓ) n R h)
  branch_ed g keep always ℓ n R h e = rw e refl
  branch_ed g keep (test b c) ℓ n R h e = rw (post_choose, e) refl
  branch_ed g keep (tset b c) ℓ n R h e = rw (post_choose, e) refl
  branch_ed g keep (tseta a b c) ℓ n R h e = rw (post_choose, e) refl
  branch_ed g keep (cmp o c x y) ℓ n R h e = rw (post_choose, e) refl
  branch_ed g (land vt r dt) always ℓ n R h e = rw e refl
  branch_ed g (land vt r dt) (test b c) ℓ n R h e = rw (post_choose, e) refl
  branch_ed g (land vt none dt) (tset b c) ℓ n R h e = rw (post_choose, e) refl
  branch_ed g (land vt (some r) dt) (tset b c) ℓ n R h e = rw (post_choose, e) (branch_set (same r b) (agrees (is_true (R b)) c) r b c vt n R h refl refl)
  branch_ed g (land vt r dt) (tseta a b c) ℓ n R h e = rw (post_choose, e) refl
  branch_ed g (land vt r dt) (cmp o c x y) ℓ n R h e = rw (post_choose, e) refl
  branch_ed g (re m false) always ℓ n R h e = rw e refl
  branch_ed g (re m false) (test b c) ℓ n R h e = rw (post_choose, e) refl
  branch_ed g (re m false) (tset b c) ℓ n R h e = rw (post_choose, e) refl
  branch_ed g (re m false) (tseta a b c) ℓ n R h e = rw (post_choose, e) refl
  branch_ed g (re m false) (cmp o c x y) ℓ n R h e = rw (post_choose, e) refl
  branch_ed g (re m true) always ℓ n R h e = rw e refl
  branch_ed g (re m true) (test b c) ℓ n R h e = rw (post_choose, e) refl
  branch_ed g (re m true) (tset b c) ℓ n R h e = rw (post_choose, e) refl
  branch_ed g (re m true) (tseta a b c) ℓ n R h e = rw (post_choose, e) refl
  branch_ed g (re m true) (cmp o c x y) ℓ n R h e = rw (post_choose, e) refl

  -- a landing lies past the word: the word passes it on
  past : (n p : ℕ) (i : Instr) (R : Regs) (h : Hist) → suc n ≤ p → step Γ n i (at p R h) ≡ at p R h
  past n p i R h l = rw (same_ne p n (omega nat)) refl

  pass_post : (n : ℕ) (i : Instr) (a : Act) (ℓ : ℕ) (b : Option ℕ) (R : Regs) (h : Hist) → Past (suc n) a →
      step Γ n i (post_a a ℓ b R h) ≡ post_a a ℓ b R h
  pass_post n i keep ℓ b R h l = refl
  pass_post n i (land vt r dt) ℓ (some b) R h l = past n vt i (wr r b R) h l.0
  pass_post n i (land vt r dt) ℓ none R h l = past n dt i R h l.1
  pass_post n i (re m true) ℓ b R h l = refl
  pass_post n i (re m false) ℓ b R h l = refl

  step_at_lem : (g : ℕ → Act) (t : Bool) (n : ℕ) (i : Instr) (p : ℕ) (R : Regs) (h : Hist) →
      step_at Γ t n (ed1 g i) p R h ≡ post g (step_at Γ t n i p R h)
  step_at_lem g false n i p R h = refl
  step_at_lem g true n (pl w) p R h = refl
  step_at_lem g true n (br always (to q)) p R h = refl
  step_at_lem g true n (br (test b c) (to q)) p R h = rw post_choose refl
  step_at_lem g true n (br (tset b c) (to q)) p R h = rw post_choose refl
  step_at_lem g true n (br (tseta a b c) (to q)) p R h = rw post_choose refl
  step_at_lem g true n (br (cmp o c x y) (to q)) p R h = rw post_choose refl
  step_at_lem g true n (br c (lbl ℓ)) p R h = branch_ed g (g ℓ) c ℓ n R h refl

  step_ed : (g : ℕ → Act) (n : ℕ) (i : Instr) (o : Outcome) → ((ℓ : ℕ) → Past (suc n) (g ℓ)) →
      step Γ n (ed1 g i) (post g o) ≡ post g (step Γ n i o)
  step_ed g n i (at p R h) l = step_at_lem g (same p n) n i p R h
  step_ed g n i (exit ℓ b R h) l = pass_post n (ed1 g i) (g ℓ) ℓ b R h (l ℓ)
  step_ed g n i stuck l = refl

  -- a mark is passed over
  pub step_mark : (n : ℕ) (o : Outcome) → step Γ n (pl mark) o ≡ o
  step_mark n (at p R h) = go (same p n) refl
    where
      go : (t : Bool) → same p n ≡ t → step_at Γ t n (pl mark) p R h ≡ at p R h
      go true e = ap (λ z. at z R h) (sym (same_true p n e))
      go false e = refl
  step_mark n (exit ℓ b R h) = refl
  step_mark n stuck = refl

  nonmark : (g : ℕ → Act) (i : Instr) (c : Code) → (IsMark i → ⊥) → ((ℓ : ℕ) → Past (width i + size c) (g ℓ)) → exec Γ (edit g c) ≡ post g (exec Γ c) → exec Γ (edit g (i ∷ c)) ≡ post g (exec Γ (i ∷ c))
  unfolding exec edit size
  nonmark g i c q l e = rw (size_edit g c, e) (step_ed g (size c) i (exec Γ c) (λ ℓ. past_mono (suc (size c)) (width i + size c) (g ℓ) (omega (nat, width_pos i q)) (l ℓ)))

  -- THE LAW OF EDITS
  pub exec_edit : (g : ℕ → Act) (c : Code) → ((ℓ : ℕ) → Past (size c) (g ℓ)) → exec Γ (edit g c) ≡ post g (exec Γ c)
  unfolding exec edit size
  exec_edit g [] l = refl
  exec_edit g (pl mark ∷ c) l = rw (size_edit g c, exec_edit g c (λ ℓ. past_mono (size c) (0 + size c) (g ℓ) (omega nat) (l ℓ))) (step_mark (size c) (post g (exec Γ c)) ∙ ap (post g) (sym (step_mark (size c) (exec Γ c))))
  exec_edit g (pl (setw a x) ∷ c) l = nonmark g (pl (setw a x)) c (λ z. z) l (exec_edit g c (λ ℓ. past_mono (size c) (width (pl (setw a x)) + size c) (g ℓ) (omega nat) (l ℓ)))
  exec_edit g (pl (lbs a x) ∷ c) l = nonmark g (pl (lbs a x)) c (λ z. z) l (exec_edit g c (λ ℓ. past_mono (size c) (width (pl (lbs a x)) + size c) (g ℓ) (omega nat) (l ℓ)))
  exec_edit g (pl (nilw a x) ∷ c) l = nonmark g (pl (nilw a x)) c (λ z. z) l (exec_edit g c (λ ℓ. past_mono (size c) (width (pl (nilw a x)) + size c) (g ℓ) (omega nat) (l ℓ)))
  exec_edit g (pl (callw x) ∷ c) l = nonmark g (pl (callw x)) c (λ z. z) l (exec_edit g c (λ ℓ. past_mono (size c) (width (pl (callw x)) + size c) (g ℓ) (omega nat) (l ℓ)))
  exec_edit g (pl (selfw a x y) ∷ c) l = nonmark g (pl (selfw a x y)) c (λ z. z) l (exec_edit g c (λ ℓ. past_mono (size c) (width (pl (selfw a x y)) + size c) (g ℓ) (omega nat) (l ℓ)))
  exec_edit g (br x y ∷ c) l = nonmark g (br x y) c (λ z. z) l (exec_edit g c (λ ℓ. past_mono (size c) (width (br x y) + size c) (g ℓ) (omega nat) (l ℓ)))
