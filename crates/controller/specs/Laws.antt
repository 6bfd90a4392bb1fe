-- Counts stored one after another in a cleared buffer are a list and then zeros; and what `lower` promises, told. Assumes nothing.
use Rattle.std.specs.Prelude.{ℕ, List, [], ◌∷◌, ◌≡◌, set}
use Rattle.std.proofs.Common.{sym, ap, ◌∙◌, subst}
use Rattle.refusals.specs.declared.Refusal.{Refusal}
use Rattle.buffers.specs.Pad.{zeros, pad}
use Rattle.buffers.specs.Laws.{pad_none, set_pad}
use Rattle.model.specs.declared.Counts.{Counts}
use Rattle.model.specs.Lowered.{Lowered}
use Rattle.std.specs.Prelude as answer
use Rattle.model.specs.Steps.{Buffers}
use Rattle.model.specs.Claims.{Padded, Faithful, Lowers}
use Rattle.model.specs.Lowering.{Sizes, Out, out}
use Rattle.controller.specs.Told.{telling, number_for, counts_for, told, Tells}

four_set : (n a b c d : ℕ) → set (set (set (set (zeros n) 0 a) 1 b) 2 c) 3 d ≡ pad n (a ∷ b ∷ c ∷ d ∷ [])
four_set n a b c d =
    ap (λ (l : List ℕ). set (set (set (set l 0 a) 1 b) 2 c) 3 d) (sym (pad_none n)) ∙ ap (λ (l : List ℕ). set (set (set l 1 b) 2 c) 3 d) (set_pad n [] a) ∙ ap (λ (l : List ℕ). set (set l 2 c) 3 d) (set_pad n (a ∷ []) b)
    ∙ ap (λ (l : List ℕ). set l 3 d) (set_pad n (a ∷ b ∷ []) c) ∙ set_pad n (a ∷ b ∷ c ∷ []) d

module _ {r : Lowered} (n : ℕ) {l : List ℕ} (clear : zeros n ≡ l) where
  -- the number, and what the counts' buffer holds, after four stores in zeros
  pub tell_done : (k : Counts) {l1 l2 l3 l4 : List ℕ} → r ≡ answer.Ok k → set l 0 k.words ≡ l1 → set l1 1 k.constants ≡ l2 → set l2 2 k.text ≡ l3 → set l3 3 k.frame ≡ l4 → (number_for r ≡ 0) × (pad n (counts_for r) ≡ l4)
  tell_done k e a b c d =
      (ap number_for e, ap (λ r. pad n (counts_for r)) e ∙ sym (four_set n k.words k.constants k.text k.frame) ∙ ap (λ l. set (set (set (set l 0 k.words) 1 k.constants) 2 k.text) 3 k.frame) clear ∙ ap (λ l. set (set (set l 1 k.constants) 2 k.text) 3 k.frame) a ∙ ap (λ l. set (set l 2 k.text) 3 k.frame) b ∙ ap (λ l. set l 3 k.frame) c ∙ d)

  pub tell_refused : {k : Refusal} {x : ℕ} → r ≡ answer.Err k → number_for (answer.Err k) ≡ x → (number_for r ≡ x) × (pad n (counts_for r) ≡ l)
  tell_refused e q = (ap number_for e ∙ q, ap (λ r. pad n (counts_for r)) e ∙ pad_none n ∙ clear)

-- an answer told
told_is : (n : ℕ) {o : Out} (r : Lowered) {m : Buffers} {s l : List ℕ} {x : ℕ} → o ≡ out r m s → (number_for r ≡ x) × (pad n (counts_for r) ≡ l) → told n o ≡ telling x m s l
told_is n r {m} {s} {x = x} e (p, q) = ap (told n) e ∙ ap (λ x. telling x m s (pad n (counts_for r))) p ∙ ap (λ l. telling x m s l) q

-- the clauses for demands 1 and 3, of the answer told
clauses_told : (z : Sizes) (chunk : List ℕ) {o : Out} (r : Lowered) {m : Buffers} {s : List ℕ} → o ≡ out r m s → Padded z chunk r m s × Faithful chunk r m → Padded z chunk o.answer m s × Faithful chunk o.answer m
clauses_told z chunk r {m} {s} e f = subst (λ r. Padded z chunk r m s × Faithful chunk r m) (sym (ap (λ o. o.answer) e)) f

-- all that is promised of what is told, from what `lower` and `tell` promise
pub tells : (n : ℕ) (z : Sizes) (chunk : List ℕ) (r : Lowered) {m : Buffers} {s l : List ℕ} {x : ℕ} → Lowers z chunk r m s → (number_for r ≡ x) × (pad n (counts_for r) ≡ l) → Tells n z chunk x m s l
tells n z chunk r (e, f) t = (told_is n r e t, clauses_told z chunk r e f)
