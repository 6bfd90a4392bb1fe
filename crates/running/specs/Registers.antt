-- The registers of a run are a list of the frame's length, those of labelled code a function: below the frame they hold the same values, and nobody looks above it.
-- A store into the list is `upd`, since it changes that register alone; the start holds the locals and then nil.
use Rattle.std.specs.Prelude.{ℕ, zero, suc, ◌+◌, ◌≤◌, ◌<◌, Bool, true, false, ◌≡◌, List, [], ◌∷◌, length, get_or, set}
use Rattle.std.proofs.Math.Path.{refl}
use Rattle.std.proofs.Common.{ap, ◌∙◌, arith, zero-add, suc-add, add-suc, get_or-set_same, get_or-set_other}
use Rattle.std.proofs.Math.ListN.{length-set}
use Rattle.std.proofs.lemmas.List.Edits.{sets}
use Rattle.model.specs.Values.{Value, nil, fit}
use Rattle.labelled.specs.Code.{same, same_true, same_false}
use Rattle.labelled.specs.Machine.{Regs, pick, upd, nils}

pub record Holds (frame : ℕ) (rs : List Value) (R : Regs) : Type 0 where
  pub long : length rs ≡ frame
  pub each : (i : ℕ) → i < frame → get_or rs i nil ≡ R i

-- one store
module _ (frame : ℕ) (rs : List Value) (R : Regs) (a : ℕ) (v : Value) (l : a < frame) (h : Holds frame rs R) where
  stored : (i : ℕ) (t : Bool) → i < frame → same i a ≡ t → get_or (set rs a v) i nil ≡ pick t v (R i)
  stored i true k e = rw (same_true i a e) (get_or-set_same rs a v nil (omega (arith, h.long)))
  stored i false k e = get_or-set_other rs a i v nil (same_false i a e) ∙ h.each i k

  pub holds_set : Holds frame (set rs a v) (upd a v R)
  unfolding upd
  holds_set = record { long = length-set rs a v ∙ h.long; each = λ i k. stored i (same i a) k refl }

-- nil in n registers from a on, the lowest first
abbrev blank : ℕ → ℕ → Regs → Regs
blank zero a R = R
blank (suc n) a R = blank n (suc a) (upd a nil R)

-- the highest last
blank_last : (n a : ℕ) (R : Regs) → blank (suc n) a R ≡ upd (n + a) nil (blank n a R)
blank_last zero a R = rw (zero-add a) refl
blank_last (suc n) a R = blank_last n (suc a) (upd a nil R) ∙ rw (suc-add n a, add-suc n a) refl

blank_nils : (k a : ℕ) (R : Regs) → blank (suc k) a R ≡ nils k a R
blank_nils zero a R = refl
blank_nils (suc k) a R = blank_last (suc k) a R ∙ ap (λ S. upd (suc k + a) nil S) (blank_nils k a R)

holds_blank : (frame n : ℕ) (rs : List Value) (R : Regs) (a : ℕ) → n + a ≤ frame → Holds frame rs R → Holds frame (sets rs a (fit n [])) (blank n a R)
holds_blank frame zero rs R a l h = h
holds_blank frame (suc n) rs R a l h = holds_blank frame n (set rs a nil) (upd a nil R) (suc a) (omega arith) (holds_set frame rs R a nil (omega arith) h)

pub holds_nils : (frame k : ℕ) (rs : List Value) (R : Regs) (a : ℕ) → k + a < frame → Holds frame rs R → Holds frame (sets rs a (fit (suc k) [])) (nils k a R)
holds_nils frame k rs R a l h = rw (← blank_nils k a R) (holds_blank frame (suc k) rs R a (omega arith) h)

-- the start
pub fit_length : (n : ℕ) (vs : List Value) → length (fit n vs) ≡ n
fit_length zero vs = refl
fit_length (suc n) [] = ap suc (fit_length n [])
fit_length (suc n) (v ∷ vs) = ap suc (fit_length n vs)

fit_each : (n : ℕ) (vs : List Value) (i : ℕ) → i < n → get_or (fit n vs) i nil ≡ get_or vs i nil
fit_each zero vs i l = absurd (omega arith)
fit_each (suc n) [] zero l = refl
fit_each (suc n) [] (suc i) l = fit_each n [] i (omega arith)
fit_each (suc n) (v ∷ vs) zero l = refl
fit_each (suc n) (v ∷ vs) (suc i) l = fit_each n vs i (omega arith)

pub holds_start : (frame : ℕ) (locals : List Value) → Holds frame (fit frame locals) (λ k. get_or locals k nil)
holds_start frame locals = record { long = fit_length frame locals; each = fit_each frame locals }
