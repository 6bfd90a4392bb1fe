-- The end of `exp2reg` on represented code: the jumps of both lists land, those with a value behind the loads and those without on the load of false or of true; or all on one place.
-- The edits of different labels are one edit.
-- What rests on something that a must-fail edit breaks stands in proofs/Landing.antt.
use Rattle.std.specs.Prelude.{ℕ, ◌+◌, ◌≤◌, ◌<◌, Bool, true, false, ◌≡◌, List, ◌∷◌, length}
use Rattle.std.proofs.Math.Path.{refl, ap, sym}
use Rattle.std.proofs.Common.{◌∙◌, arith}
use Rattle.std.proofs.Math.Option.{some, none}
use Rattle.instructions.specs.Limits.{max_words, no_reg}
use Rattle.instructions.specs.Word.{abc_of}
use Rattle.opcodes.specs.declared.OpCode.TheVariants.{LoadBool}
use Rattle.model.specs.declared.State.{State}
use Rattle.model.specs.declared.ExprContext.{ExprContext}
use Rattle.model.specs.Values.{truth}
use Rattle.model.specs.Steps.{Buffers, Result, done, Step, and_then, ◌>>=◌, ◌>>◌}
use Rattle.model.specs.Jumps.{word, concat_jumps, linked, patch_list_aux}
use Rattle.model.specs.Emission.{with_jpc, with_label, emit, patch_to_here, get_label, code_label, concat}
use Rattle.model.specs.Discharge.{land as land_both}
use Rattle.labelled.specs.Code.{same, same_refl, same_ne, same_true, val, PW, setw, lbs, Instr, pl, pwidth, Code, size, Act, keep, land, re, edit}
use Rattle.threads.specs.Edits.{Safe, edit_also, edit_ext, also}
use Rattle.threads.specs.Places.{is_lab, is_l, look_range}
use Rattle.threads.specs.Encoding.{Coding}
use Rattle.threads.specs.Turns.{opt_r}
use Rattle.threads.specs.Represents.{set_h}
use Rattle.threads.specs.Emitting.{on_top}
use Rattle.threads.specs.Holding.{Holds, with_code, label_is}
use Rattle.threads.specs.Stepping.{hold_here}
use Rattle.labelled.specs.Machine.{pick}
use Rattle.labelled.specs.Emission.{here, one}
use Rattle.labelled.specs.Edits.{size_edit}
use Rattle.labelled.specs.Discharge.{lands, pair_g}

-- ---- the edits

-- the four edits of `load_both`, one after the other
module _ (c : Code) (j t f r : ℕ) (j0 : j ≡ 0 → ⊥) (t0 : t ≡ 0 → ⊥) (f0 : f ≡ 0 → ⊥) (jt : j ≡ t → ⊥) (jf : j ≡ f → ⊥) (tf : t ≡ f → ⊥) where
  abbrev e₀ : ℕ → Act
  e₀ = one 0 (land (size c) none (size c))

  abbrev e₁ : ℕ → Act
  e₁ = also e₀ j (re 0 false)

  abbrev e₂ : ℕ → Act
  e₂ = also e₁ f (land (2 + size c) (some r) (size c))

  abbrev e₃ : ℕ → Act
  e₃ = also e₂ t (land (2 + size c) (some r) (1 + size c))

  safe₀ : (a ℓ : ℕ) → Safe a (e₀ ℓ)
  safe₀ a ℓ = go (same ℓ 0)
    where
      go : (s : Bool) → Safe a (pick s (land (size c) none (size c)) keep)
      go true = tt
      go false = tt

  safe₁ : (a ℓ : ℕ) → (a ≡ 0 → ⊥) → Safe a (e₁ ℓ)
  safe₁ a ℓ h = go (same ℓ j)
    where
      go : (s : Bool) → Safe a (pick s (re 0 false) (e₀ ℓ))
      go true = λ e. h (sym e)
      go false = safe₀ a ℓ

  safe₂ : (a ℓ : ℕ) → (a ≡ 0 → ⊥) → Safe a (e₂ ℓ)
  safe₂ a ℓ h = go (same ℓ f)
    where
      go : (s : Bool) → Safe a (pick s (land (2 + size c) (some r) (size c)) (e₁ ℓ))
      go true = tt
      go false = safe₁ a ℓ h

  order : (ℓ : ℕ) → e₃ ℓ ≡ pair_g c j t f r ℓ
  order ℓ = go (same ℓ 0) (same ℓ j) (same ℓ t) (same ℓ f) refl refl refl refl
    where
      L₀ : Act
      L₀ = land (size c) none (size c)

      L₁ : Act
      L₁ = land (2 + size c) (some r) (size c)

      L₂ : Act
      L₂ = land (2 + size c) (some r) (1 + size c)

      no : (a b : ℕ) → (a ≡ b → ⊥) → same ℓ a ≡ true → same ℓ b ≡ true → ⊥
      no a b h p q = h (sym (same_true ℓ a p) ∙ same_true ℓ b q)

      go : (x y z w : Bool) → same ℓ 0 ≡ x → same ℓ j ≡ y → same ℓ t ≡ z → same ℓ f ≡ w →
          pick z L₂ (pick w L₁ (pick y (re 0 false) (pick x L₀ keep))) ≡ pick x L₀ (pick y (re 0 false) (pick z L₂ (pick w L₁ keep)))
      go true true z w p q u v = absurd (no 0 j (λ e. j0 (sym e)) p q)
      go true false true w p q u v = absurd (no 0 t (λ e. t0 (sym e)) p u)
      go true false false true p q u v = absurd (no 0 f (λ e. f0 (sym e)) p v)
      go true false false false p q u v = refl
      go false true true w p q u v = absurd (no j t jt q u)
      go false true false true p q u v = absurd (no j f jf q v)
      go false true false false p q u v = refl
      go false false true w p q u v = refl
      go false false false true p q u v = refl
      go false false false false p q u v = refl

  pub pair_edits : edit (one t (land (2 + size c) (some r) (1 + size c))) (edit (one f (land (2 + size c) (some r) (size c))) (edit (one j (re 0 false)) (edit e₀ c))) ≡ edit (pair_g c j t f r) c
  pair_edits =
      rw (
        edit_also e₀ j (re 0 false) (rw (same_ne j 0 j0) refl) (λ ℓ. safe₀ j ℓ) c,
        edit_also e₁ f (land (2 + size c) (some r) (size c)) (rw (same_ne f j (λ e. jf (sym e)), same_ne f 0 f0) refl) (λ ℓ. safe₁ f ℓ f0) c,
        edit_also e₂ t (land (2 + size c) (some r) (1 + size c)) (rw (same_ne t f tf, same_ne t j (λ e. jt (sym e)), same_ne t 0 t0) refl) (λ ℓ. safe₂ t ℓ t0) c,
      )
      (edit_ext e₃ (pair_g c j t f r) order c)

-- two lists land, one after the other
pub land_edits : (c : Code) (t f r final pf pt : ℕ) → (t ≡ f → ⊥) → edit (one t (land final (some r) pt)) (edit (one f (land final (some r) pf)) c) ≡ edit (lands t f r final pf pt) c
land_edits c t f r final pf pt tf = edit_also (one f (land final (some r) pf)) t (land final (some r) pt) (rw (same_ne t f tf) refl) (λ ℓ. safe (same ℓ f)) c
  where
    safe : (s : Bool) → Safe t (pick s (land final (some r) pf) keep)
    safe true = tt
    safe false = tt

-- ---- the steps

abbrev pub landed : List ℕ → ExprContext → ℕ → ℕ → ℕ → ℕ → List ℕ
landed ws e reg final pf pt = patch_list_aux (length (patch_list_aux (length ws) ws e.f final reg pf)) (patch_list_aux (length ws) ws e.f final reg pf) e.t final reg pt

pub land_is : (e : ExprContext) (reg final pf pt : ℕ) (s : State) (m : Buffers) → land_both e reg final pf pt s m ≡ done tt s (with_code (landed m.code e reg final pf pt) m)
unfolding land_both and_then
land_is e reg final pf pt s m = refl

module _ {K : Coding} {cap : ℕ} {s : State} {m : Buffers} {H : ℕ → ℕ} {c : Code} (h : Holds K cap s m H c) (e : ExprContext) (t f : ℕ) (et : e.t ≡ H t) (ef : e.f ≡ H f) (t0 : t ≡ 0 → ⊥) (f0 : f ≡ 0 → ⊥) (tf : t ≡ f → ⊥)
    (reg : ℕ) (rr : reg < no_reg) where
  pub opt : opt_r reg ≡ some reg
  opt = rw (same_ne reg no_reg (λ z. omega arith)) refl

  -- without loads: all on the word to come, which gets a mark
  pub land_all_is : (get_label >>= (λ final. land_both e reg final final final)) s m ≡ done tt (with_label (s.pc + 1) s) (with_code (landed m.code e reg s.pc s.pc s.pc) m)
  unfolding land_both and_then
  land_all_is = ap (λ (r : Result ℕ). and_then r (λ final. land_both e reg final final final)) (label_is s m (omega (arith, h.pcs, h.rep.few)))

-- `code_label` and the loads
module _ {K : Coding} {cap : ℕ} {s : State} {m : Buffers} {H : ℕ → ℕ} {c : Code} (h : Holds K cap s m H c) (reg b jump : ℕ) (x : PW) (o : pwidth x ≡ 1)
    (pw : (us : List ℕ) (n : ℕ) → word us n ≡ abc_of LoadBool reg b jump → K.plain us n x) where
  pub code_label_is : code_label reg b jump s m ≡ emit (abc_of LoadBool reg b jump) (with_label (s.pc + 1) s) m
  unfolding code_label and_then
  code_label_is = ap (λ (r : Result ℕ). and_then r (λ _. emit (abc_of LoadBool reg b jump))) (label_is s m (omega (arith, h.pcs, h.rep.few)))

-- the loads of false and true, the jump over them, and the landings
abbrev pub both : ExprContext → ℕ → ℕ → Step (Unit {0})
both e reg over = do
  on_false ← code_label reg 0 1
  on_true ← code_label reg 1 0
  patch_to_here over
  final ← get_label
  land_both e reg final on_false on_true

module _ {K : Coding} {cap : ℕ} {s : State} {m : Buffers} {H : ℕ → ℕ} {c : Code} (h : Holds K cap s m H c) (e : ExprContext) (j t f over : ℕ) (ej : over ≡ H j) (et : e.t ≡ H t) (ef : e.f ≡ H f)
    (j0 : j ≡ 0 → ⊥) (t0 : t ≡ 0 → ⊥) (f0 : f ≡ 0 → ⊥) (jt : j ≡ t → ⊥) (jf : j ≡ f → ⊥) (tf : t ≡ f → ⊥) (reg : ℕ) (rr : reg < no_reg)
    (no : (us : List ℕ) (n : ℕ) → word us n ≡ abc_of LoadBool reg 0 1 → K.plain us n (lbs reg false)) (yes : (us : List ℕ) (n : ℕ) → word us n ≡ abc_of LoadBool reg 1 0 → K.plain us n (setw reg (val (truth true)))) where
  abbrev c₁ : Code
  c₁ = edit (here c) c

  abbrev H₁ : ℕ → ℕ
  H₁ = set_h 0 0 H

  abbrev x₁ : Instr
  x₁ = pl (lbs reg false)

  abbrev x₂ : Instr
  x₂ = pl (setw reg (val (truth true)))

  kept₁ : (ℓ : ℕ) → (ℓ ≡ 0 → ⊥) → H₁ ℓ ≡ H ℓ
  kept₁ ℓ z = rw (same_ne ℓ 0 z) refl

  module _ (s₂ : State) (m₂ : Buffers) (h₂ : Holds K cap s₂ m₂ H₁ (x₂ ∷ (x₁ ∷ c₁))) where
    abbrev s₃ : State
    s₃ = with_label (s₂.pc + 1) (with_jpc (concat_jumps s₂.jpc over) s₂)

    abbrev m₃ : Buffers
    m₃ = with_code (linked m₂.code s₂.jpc over) m₂

    pub finish_is : (pf pt : ℕ) → (patch_to_here over >> (get_label >>= (λ final. land_both e reg final pf pt))) s₂ m₂ ≡ done tt s₃ (with_code (landed m₃.code e reg s₂.pc pf pt) m₃)
    unfolding patch_to_here concat land_both and_then
    finish_is pf pt =
        ap (λ (r : Result ℕ). and_then r (λ final. land_both e reg final pf pt)) (label_is (with_jpc (concat_jumps s₂.jpc over) s₂) m₃ (omega (arith, h₂.pcs, h₂.rep.few)))

    pub here₃ : Holds K cap (with_jpc (concat_jumps s₂.jpc over) s₂) m₃ (set_h 0 (H j) (set_h j 0 H₁)) (edit (one j (re 0 false)) (x₂ ∷ (x₁ ∷ c₁)))
    here₃ =
        let z : concat_jumps (H₁ 0) (H₁ j) ≡ H j = rw (same_refl 0) (kept₁ j j0) in
        let y : H₁ j ≡ over = kept₁ j j0 ∙ sym ej in
        rw (z, y) at (hold_here h₂ j j0).1

    pub below : (ℓ p : ℕ) → is_l ℓ (edit (one j (re 0 false)) (x₂ ∷ (x₁ ∷ c₁))) p ≡ true → p < size c
    unfolding edit
    below ℓ p i =
        let d : Code = edit (one j (re 0 false)) c₁ in
        let l : p < size d = look_range (is_lab ℓ) d p (sym (on_top (is_lab ℓ) x₁ d refl p) ∙ sym (on_top (is_lab ℓ) x₂ (x₁ ∷ d) refl p) ∙ i) in
        omega (arith, size_edit (one j (re 0 false)) c₁, size_edit (here c) c)

    pub at_end : s₂.pc ≡ 2 + size c
    unfolding size
    at_end = omega (arith, h₂.pcs, size_edit (here c) c)

    pub few : 2 + size c ≤ max_words
    unfolding size
    few = omega (arith, h₂.rep.few, size_edit (here c) c)

    pub codes : edit (lands t f reg (2 + size c) (size c) (1 + size c)) (edit (one j (re 0 false)) (x₂ ∷ (x₁ ∷ c₁))) ≡ x₂ ∷ (x₁ ∷ edit (pair_g c j t f reg) c)
    unfolding edit
    codes = ap (λ (d : Code). x₂ ∷ (x₁ ∷ d)) (sym (land_edits (edit (one j (re 0 false)) c₁) t f reg (2 + size c) (size c) (1 + size c) tf) ∙ pair_edits c j t f reg j0 t0 f0 jt jf tf)
