-- Emission: a word behind the others that no list sees; a control word with a new Jmp, which is a list of its own; `discharge_jpc`; and `emit_jump` with difference 1,
-- by which the pending jumps lose their values and hang behind the new one. Label 0 is that of the jumps to the word to come.
use Prim.Native.Nat.{ℕ, suc, ◌+◌, ◌<◌}
use Rattle.std.specs.Prelude.{Bool, ◌≡◌, List, ◌∷◌, length, set}
use Rattle.std.proofs.Math.Bool.{true, false}
use Rattle.std.proofs.Math.Path.{refl}
use Rattle.std.proofs.Common.{◌∙◌, arith, length-set}
use Rattle.instructions.specs.Limits.{max_words, no_reg}
use Rattle.model.specs.Jumps.{word}
use Rattle.labelled.specs.Code.{same, Ctrl, lbl, PW, pl, br, pwidth, Code, size, edit}
use Rattle.threads.specs.Words.{word_same, word_other, is_jmp, new_j}
use Rattle.threads.specs.Places.{jofs, cwidth_tail, is_lab, look_range}
use Rattle.threads.specs.Encoding.{Coding, Ctl, Open}
use Rattle.threads.specs.Represents.{set_h, Rep}
use Rattle.threads.proofs.Represents.{rep_patch}
use Rattle.labelled.specs.Machine.{pick}
use Rattle.labelled.specs.Emission.{here}
use Rattle.labelled.specs.Edits.{size_edit}
use Rattle.threads.specs.Emitting.{discharged, emitted, emitted_pair, opt_none, rep_pend, rep_plain}

module _ {K : Coding} {cap : ℕ} {ws : List ℕ} {H : ℕ → ℕ} {c : Code} (r : Rep K cap ws H c) where
  -- `discharge_jpc` is the edit of label 0
  pub rep_discharge : Rep K cap (discharged ws (size c) (H 0)) (set_h 0 0 H) (edit (here c) c)
  rep_discharge = rw opt_none at (rep_patch r 0 (size c) no_reg (size c) (omega arith) r.few r.few (λ p e. (look_range (is_lab 0) c p e, look_range (is_lab 0) c p e)))

  -- `emit` of a plain word
  pub rep_emit : (x : PW) (v : ℕ) → K.plain (emitted ws (size c) (H 0) v) (size c) x → pwidth x ≡ 1 → size c < cap → size c < max_words → Rep K cap (emitted ws (size c) (H 0) v) (set_h 0 0 H) (pl x ∷ edit (here c) c)
  rep_emit x v e w room few =
      let d : List ℕ = discharged ws (size c) (H 0) in
      let s : size (edit (here c) c) ≡ size c = size_edit (here c) c in
      rep_plain (set d (size c) v) (pl x) (length-set d (size c) v) (λ q l. word_other d (size c) q v (λ y. omega arith))
      (omega arith) (omega arith) (rw s e) (λ q l. word_other d (size c) q v (λ y. omega arith) ∙ rep_discharge.clean q (omega arith)) rep_discharge refl

  -- a control word with a new Jmp, under a label that has no list
  pub rep_pair : (k : Ctrl) (m w : ℕ) → jofs k ≡ 1 → Open k → ((us : List ℕ) → word us (size c) ≡ w → Ctl K us (size c) k) → H m ≡ 0 → 1 + size c < cap → 1 + size c < max_words →
      Rep K cap (emitted_pair ws (size c) (H 0) w) (set_h m (suc (1 + size c)) (set_h 0 0 H)) (br k (lbl m) ∷ edit (here c) c)
  rep_pair k m w two op cw fresh room few =
      let d : List ℕ = discharged ws (size c) (H 0) in
      let s : size (edit (here c) c) ≡ size c = size_edit (here c) c in
      let n : length (set d (size c) w) ≡ cap = length-set d (size c) w ∙ rep_discharge.len in
      let us : List ℕ = set (set d (size c) w) (1 + size c) new_j in
      let top : word us (1 + size c) ≡ new_j = word_same (set d (size c) w) (1 + size c) new_j (omega arith) in
      let low : word us (size c) ≡ w = word_other (set d (size c) w) (1 + size c) (size c) new_j (λ y. omega arith) ∙ word_same d (size c) w (omega (arith, rep_discharge.len)) in
      let fr : set_h 0 0 H m ≡ 0 = zero_head (same m 0) in
      rw (two, s) at (rep_pend us (br k (lbl m)) (length-set (set d (size c) w) (1 + size c) new_j ∙ length-set d (size c) w)
      (λ q l. word_other (set d (size c) w) (1 + size c) q new_j (λ y. omega arith) ∙ word_other d (size c) q w (λ y. omega arith))
      (omega (arith, cwidth_tail k)) (omega (arith, cwidth_tail k))
      (rw (s, two) (cw us low, (rw top (is_jmp _), op)))
      (λ q l. word_other (set d (size c) w) (1 + size c) q new_j (λ y. omega (arith, cwidth_tail k)) ∙ word_other d (size c) q w (λ y. omega (arith, cwidth_tail k)) ∙ rep_discharge.clean q (omega arith)) rep_discharge k m refl (rw (s, two) top) fr)
    where
      zero_head : (t : Bool) → pick t 0 (H m) ≡ 0
      zero_head true = refl
      zero_head false = fresh
