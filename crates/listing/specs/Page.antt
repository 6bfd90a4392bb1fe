-- Writing bytes one behind the other into a lent buffer, and what is left there of a text: the text and then zeros, or only zeros where it doesn't fit. Assumes nothing.
use Rattle.std.specs.Prelude.{ℕ, ◌≡◌, ◌+◌, true, false, List, [], ◌∷◌, length, set, ltb, leb, Option, Some, None}
use Rattle.buffers.specs.Pad.{zeros, pad}
use Rattle.listing.specs.declared.Pen.{Pen}

-- the buffer, and the place behind what is written; none once a byte did not fit
pub record Page : Type 0 where
  pub out : List ℕ
  pub at : Option ℕ

abbrev pub page : Option ℕ → List ℕ → Page
page p o = record { out = o; at = p }

-- one byte, where there is room and all before it had
unfoldable pub put : ℕ → List ℕ → Option ℕ → Page
put b o None = page None o
put b o (Some at) =
    elim (ltb at (length o)) [
      | true ↦ page (Some (at + 1)) (set o at b)
      | false ↦ page None o
    ]

unfoldable pub puts : List ℕ → List ℕ → Option ℕ → Page
puts [] o p = page p o
puts (b ∷ bs) o p = let q = put b o p in puts bs q.out q.at

-- what a buffer of n bytes is left with, and how long the text is; none where it doesn't fit
pub record Sheet : Type 0 where
  pub answer : Option ℕ
  pub out : List ℕ

abbrev pub sheet : Option ℕ → List ℕ → Sheet
sheet r o = record { answer = r; out = o }

unfoldable pub written : ℕ → List ℕ → Sheet
written n text =
    elim (leb (length text) n) [
      | true ↦ sheet (Some (length text)) (pad n text)
      | false ↦ sheet None (zeros n)
    ]

-- ---- by a pen

-- what an answer stands for, with the pen as it is left
abbrev pub written_is : Option (Unit {0}) → Pen → Page
written_is (Some u) p = page (Some p.at) p.out.now
written_is None p = page None p.out.now

-- the text put from the pen a on gives r and leaves the pen b, on the slice that it was made with
abbrev pub Writes : List ℕ → Pen → Option (Unit {0}) → Pen → Type 0
Writes t a r b = (puts t a.out.now (Some a.at) ≡ written_is r b) × (b.out.ghost_name ≡ a.out.ghost_name)
