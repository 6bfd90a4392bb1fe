-- The end of `exp2reg` on represented code: the jumps of both lists land, those with a value behind the loads and those without on the load of false or of true; or all on one place.
-- The edits of different labels are one edit.
-- ---- the edits
use Rattle.std.specs.Prelude.{ℕ, ◌+◌, ◌≤◌, ◌<◌, true, false, ◌≡◌, List, ◌∷◌, length}
use Rattle.std.proofs.Math.Path.{refl, sym}
use Rattle.std.proofs.Common.{◌∙◌, arith}
use Rattle.instructions.specs.Limits.{max_words, no_reg}
use Rattle.instructions.specs.Word.{abc_of}
use Rattle.opcodes.specs.declared.OpCode.TheVariants.{LoadBool}
use Rattle.model.specs.declared.State.{State}
use Rattle.model.specs.declared.ExprContext.{ExprContext}
use Rattle.model.specs.Values.{truth}
use Rattle.model.specs.Steps.{Buffers, done, ◌>>=◌}
use Rattle.model.specs.Jumps.{word, concat_jumps, linked, patch_list_aux}
use Rattle.model.specs.Emission.{with_pc, with_jpc, with_label, get_label, code_label}
use Rattle.model.specs.Discharge.{land as land_both}
use Rattle.labelled.specs.Code.{same_refl, same_ne, val, PW, setw, lbs, mark, Instr, pl, pwidth, Code, size, land, re, edit}
use Rattle.threads.specs.Places.{is_lab, is_l, look_edit, look_range, lab_land, lab_off}
use Rattle.threads.specs.Encoding.{Coding}
use Rattle.threads.specs.Turns.{opt_r}
use Rattle.threads.specs.Represents.{set_h}
use Rattle.threads.specs.Holding.{Ends, gives, ends_then, Holds, kept_trans, Became, with_code}
use Rattle.threads.specs.Stepping.{hold_label, hold_mark, hold_same}
use Rattle.threads.proofs.Stepping.{hold_emit, hold_emit₀, hold_patch}
use Rattle.labelled.specs.Emission.{here, one}
use Rattle.labelled.specs.Edits.{size_edit}
use Rattle.labelled.specs.Discharge.{lands, pair_g}
use Rattle.threads.specs.Landing.{at_end, below, both, code_label_is, codes, few, finish_is, here₃, land_all_is, land_edits, land_is, landed, opt}

module _ {K : Coding} {cap : ℕ} {s : State} {m : Buffers} {H : ℕ → ℕ} {c : Code} (h : Holds K cap s m H c) (e : ExprContext) (t f : ℕ) (et : e.t ≡ H t) (ef : e.f ≡ H f) (t0 : t ≡ 0 → ⊥) (f0 : f ≡ 0 → ⊥) (tf : t ≡ f → ⊥)
    (reg : ℕ) (rr : reg < no_reg) where
  -- both lists land
  pub hold_land : (final pf pt : ℕ) → final ≤ max_words → pf ≤ max_words → pt ≤ max_words →
      ((p : ℕ) → is_l f c p ≡ true → (p < final) × (p < pf)) → ((p : ℕ) → is_l t c p ≡ true → (p < final) × (p < pt)) →
      (land_both e reg final pf pt s m ≡ done tt s (with_code (landed m.code e reg final pf pt) m)) ×
      Holds K cap s (with_code (landed m.code e reg final pf pt) m) (set_h t 0 (set_h f 0 H)) (edit (lands t f reg final pf pt) c)
  hold_land final pf pt bv bf bt wf wt =
      (land_is e reg final pf pt s m, rw (← (land_edits c t f reg final pf pt tf), ef, et) (rw (other, opt h e t f et ef t0 f0 tf reg rr) at (hold_patch first t final reg pt t0 (omega arith) bv bt (λ p i. wt p (sym (stays p) ∙ i)))))
    where
      first : Holds K cap s (with_code (patch_list_aux (length m.code) m.code (H f) final reg pf) m) (set_h f 0 H) (edit (one f (land final (opt_r reg) pf)) c)
      first = hold_patch h f final reg pf f0 (omega arith) bv bf wf

      other : set_h f 0 H t ≡ H t
      other = rw (same_ne t f tf) refl

      stays : (p : ℕ) → is_l t (edit (one f (land final (opt_r reg) pf)) c) p ≡ is_l t c p
      stays p = look_edit (is_lab t) (is_lab t) (one f (land final (opt_r reg) pf)) (λ i. lab_land f final pf (opt_r reg) t i ∙ lab_off f t (λ z. tf (sym z)) i) c p

  pub hold_land_all : ((us : List ℕ) (n : ℕ) → K.plain us n mark) →
      ((get_label >>= (λ final. land_both e reg final final final)) s m ≡ done tt (with_label (s.pc + 1) s) (with_code (landed m.code e reg s.pc s.pc s.pc) m)) ×
      Holds K cap (with_label (s.pc + 1) s) (with_code (landed m.code e reg s.pc s.pc s.pc) m) (set_h t 0 (set_h f 0 H)) (pl mark ∷ edit (lands t f reg (size c) (size c) (size c)) c)
  hold_land_all mk =
      let few : s.pc ≤ max_words = omega (arith, h.pcs, h.rep.few) in
      let q = (hold_land s.pc s.pc s.pc few few few (λ p i. let l : p < s.pc = omega (arith, look_range (is_lab f) c p i, h.pcs) in (l, l)) (λ p i. let l : p < s.pc = omega (arith, look_range (is_lab t) c p i, h.pcs) in (l, l))).1 in
      let z : edit (lands t f reg (size c) (size c) (size c)) c ≡ edit (lands t f reg s.pc s.pc s.pc) c = rw h.pcs refl in
      (land_all_is h e t f et ef t0 f0 tf reg rr, rw z (hold_mark (hold_same q (with_label (s.pc + 1) s) (with_code (landed m.code e reg s.pc s.pc s.pc) m) refl refl refl) (mk _ _)))

-- `code_label` and the loads
module _ {K : Coding} {cap : ℕ} {s : State} {m : Buffers} {H : ℕ → ℕ} {c : Code} (h : Holds K cap s m H c) (reg b jump : ℕ) (x : PW) (o : pwidth x ≡ 1)
    (pw : (us : List ℕ) (n : ℕ) → word us n ≡ abc_of LoadBool reg b jump → K.plain us n x) where
  pub hold_code_label : Ends (code_label reg b jump s m) (λ a s' m'. (a ≡ size c) × Became K cap m (with_pc (s.pc + 1) (with_jpc 0 (with_label (s.pc + 1) s))) (set_h 0 0 H) (pl x ∷ edit (here c) c) s' m')
  hold_code_label = rw (code_label_is h reg b jump x o pw) (hold_emit (hold_label h).1 x (abc_of LoadBool reg b jump) o (λ us. pw us (size c)))

  pub hold_code_label₀ : H 0 ≡ 0 → Ends (code_label reg b jump s m) (λ a s' m'. (a ≡ size c) × Became K cap m (with_pc (s.pc + 1) (with_jpc 0 (with_label (s.pc + 1) s))) H (pl x ∷ c) s' m')
  hold_code_label₀ z = rw (code_label_is h reg b jump x o pw) (hold_emit₀ (hold_label h).1 x (abc_of LoadBool reg b jump) o (λ us. pw us (size c)) z)

module _ {K : Coding} {cap : ℕ} {s : State} {m : Buffers} {H : ℕ → ℕ} {c : Code} (h : Holds K cap s m H c) (e : ExprContext) (j t f over : ℕ) (ej : over ≡ H j) (et : e.t ≡ H t) (ef : e.f ≡ H f)
    (j0 : j ≡ 0 → ⊥) (t0 : t ≡ 0 → ⊥) (f0 : f ≡ 0 → ⊥) (jt : j ≡ t → ⊥) (jf : j ≡ f → ⊥) (tf : t ≡ f → ⊥) (reg : ℕ) (rr : reg < no_reg)
    (no : (us : List ℕ) (n : ℕ) → word us n ≡ abc_of LoadBool reg 0 1 → K.plain us n (lbs reg false)) (yes : (us : List ℕ) (n : ℕ) → word us n ≡ abc_of LoadBool reg 1 0 → K.plain us n (setw reg (val (truth true)))) where
  abbrev c₁ : Code
  c₁ = edit (here c) c

  abbrev H₁ : ℕ → ℕ
  H₁ = set_h 0 0 H

  abbrev x₁ : Instr
  x₁ = pl (lbs reg false)

  abbrev x₂ : Instr
  x₂ = pl (setw reg (val (truth true)))

  -- after the loads
  abbrev G : ℕ → ℕ
  G = set_h t 0 (set_h f 0 (set_h 0 (H j) (set_h j 0 H₁)))

  module _ (s₂ : State) (m₂ : Buffers) (h₂ : Holds K cap s₂ m₂ H₁ (x₂ ∷ (x₁ ∷ c₁))) where
    abbrev s₃ : State
    s₃ = with_label (s₂.pc + 1) (with_jpc (concat_jumps s₂.jpc over) s₂)

    abbrev m₃ : Buffers
    m₃ = with_code (linked m₂.code s₂.jpc over) m₂

    finished : Holds K cap s₃ (with_code (landed m₃.code e reg s₂.pc (size c) (1 + size c)) m₃) G (x₂ ∷ (x₁ ∷ edit (pair_g c j t f reg) c))
    finished =
        let a : e.t ≡ set_h 0 (H j) (set_h j 0 H₁) t = et ∙ rw (same_ne t 0 t0, same_ne t j (λ z. jt (sym z))) refl in
        let b : e.f ≡ set_h 0 (H j) (set_h j 0 H₁) f = ef ∙ rw (same_ne f 0 f0, same_ne f j (λ z. jf (sym z))) refl in
        let g : Holds K cap s₃ m₃ (set_h 0 (H j) (set_h j 0 H₁)) (edit (one j (re 0 false)) (x₂ ∷ (x₁ ∷ c₁))) = hold_same (here₃ h e j t f over ej et ef j0 t0 f0 jt jf tf reg rr no yes s₂ m₂ h₂) s₃ m₃ refl refl refl in
        let wf : (p : ℕ) → is_l f (edit (one j (re 0 false)) (x₂ ∷ (x₁ ∷ c₁))) p ≡ true → (p < s₂.pc) × (p < size c) = λ p i. let l : p < size c = below h e j t f over ej et ef j0 t0 f0 jt jf tf reg rr no yes s₂ m₂ h₂ f p i in (omega (arith, at_end h e j t f over ej et ef j0 t0 f0 jt jf tf reg rr no yes s₂ m₂ h₂), l) in
        let wt : (p : ℕ) → is_l t (edit (one j (re 0 false)) (x₂ ∷ (x₁ ∷ c₁))) p ≡ true → (p < s₂.pc) × (p < 1 + size c) = λ p i. let l : p < size c = below h e j t f over ej et ef j0 t0 f0 jt jf tf reg rr no yes s₂ m₂ h₂ t p i in (omega (arith, at_end h e j t f over ej et ef j0 t0 f0 jt jf tf reg rr no yes s₂ m₂ h₂), omega arith) in
        let z : edit (lands t f reg s₂.pc (size c) (1 + size c)) (edit (one j (re 0 false)) (x₂ ∷ (x₁ ∷ c₁))) ≡ x₂ ∷ (x₁ ∷ edit (pair_g c j t f reg) c) = rw (at_end h e j t f over ej et ef j0 t0 f0 jt jf tf reg rr no yes s₂ m₂ h₂) (codes h e j t f over ej et ef j0 t0 f0 jt jf tf reg rr no yes s₂ m₂ h₂) in
        rw z at (hold_land g e t f a b t0 f0 tf reg rr s₂.pc (size c) (1 + size c) (omega (arith, few h e j t f over ej et ef j0 t0 f0 jt jf tf reg rr no yes s₂ m₂ h₂, at_end h e j t f over ej et ef j0 t0 f0 jt jf tf reg rr no yes s₂ m₂ h₂)) (omega (arith, few h e j t f over ej et ef j0 t0 f0 jt jf tf reg rr no yes s₂ m₂ h₂)) (omega (arith, few h e j t f over ej et ef j0 t0 f0 jt jf tf reg rr no yes s₂ m₂ h₂)) wf wt).1

  -- `load_both`, after the jump over the loads
  pub hold_both : Ends (both e reg over s m) (λ u s' m'. Became K cap m (with_label (s.pc + 1 + 1 + 1) (with_jpc over (with_pc (s.pc + 1 + 1) s))) G (x₂ ∷ (x₁ ∷ edit (pair_g c j t f reg) c)) s' m')
  unfolding size
  hold_both = ends_then (hold_code_label h reg 0 1 (lbs reg false) refl no) (λ pf s₁ m₁ p.
      ends_then (hold_code_label₀ p.1.holds reg 1 0 (setw reg (val (truth true))) refl yes (rw (same_refl 0) refl)) (λ pt s₂ m₂ q.
      let n : pt ≡ 1 + size c = q.0 ∙ omega (arith, size_edit (here c) c) in
      gives tt (s₃ s₂ m₂ q.1.holds) _ (finish_is h e j t f over ej et ef j0 t0 f0 jt jf tf reg rr no yes s₂ m₂ q.1.holds pf pt) (record {
        state = rw (q.1.state, p.1.state) refl;
        kept = kept_trans p.1.kept (kept_trans q.1.kept (record { kinds = refl; values = refl; pool = refl }));
        holds = rw (p.0, n) (finished s₂ m₂ q.1.holds);
      })))
