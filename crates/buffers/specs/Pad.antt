-- What a lent buffer of n numbers holds: a list and then zeros. Assumes nothing.
use Rattle.std.specs.Prelude.{ℕ, zero, suc, List, [], ◌∷◌, replicate}

abbrev pub zeros : ℕ → List ℕ
zeros n = replicate n 0

-- n numbers: those of the list as far as they fit, then zeros
unfoldable pub pad : ℕ → List ℕ → List ℕ
pad zero ws = []
pad (suc n) [] = 0 ∷ pad n []
pad (suc n) (w ∷ ws) = w ∷ pad n ws
