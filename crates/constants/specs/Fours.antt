-- Four bytes or four values at once, as the search compares them. Assumes nothing.
use Rattle.std.specs.Prelude.{◌≡◌, Bool, ◌||◌, List, ℕ, ◌+◌, ◌*◌, ◌<◌, get_or, eqb}

-- the number of four bytes, lowest byte first
abbrev pub four_of : List ℕ → ℕ → ℕ
four_of s at = get_or s at 0 + 256 * get_or s (at + 1) 0 + 65536 * get_or s (at + 2) 0 + 16777216 * get_or s (at + 3) 0

abbrev pub FourBytes : List ℕ → ℕ → Type 0
FourBytes s at = (get_or s at 0 < 256) × (get_or s (at + 1) 0 < 256) × (get_or s (at + 2) 0 < 256) × (get_or s (at + 3) 0 < 256)

-- whether one of four values is b
abbrev pub in_four : List ℕ → ℕ → ℕ → Bool
in_four ws at b = eqb (get_or ws at 0) b || (eqb (get_or ws (at + 1) 0) b || (eqb (get_or ws (at + 2) 0) b || eqb (get_or ws (at + 3) 0) b))

-- none of the first n values is b
abbrev pub Without : List ℕ → ℕ → ℕ → Type 0
Without ws n b = (j : ℕ) → j < n → get_or ws j 0 ≡ b → ⊥
