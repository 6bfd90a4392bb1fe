-- The constant table as a list: a constant's place is the first entry that it is the same as, else the end, and adding it there changes nothing where it is listed. So a place never changes,
-- and whether it is at most 255 can be asked before or after the constant is added. Assumes nothing.
use Rattle.std.specs.Prelude.{ℕ, suc, Bool, true, false, List, [], ◌∷◌, length, leb}
use Rattle.instructions.specs.Limits.{max_index_rk}
use Rattle.constants.specs.Entry.{Constant, same}

unfoldable pub place : Constant → List Constant → ℕ
place c [] = 0
place c (d ∷ ds) = elim (same d c) [ true ↦ 0 | false ↦ suc (place c ds) ]

unfoldable pub include : Constant → List Constant → List Constant
include c [] = c ∷ []
include c (d ∷ ds) = elim (same d c) [ true ↦ d ∷ ds | false ↦ d ∷ include c ds ]

-- room for nil, true or false as operands; a constant that is an operand
unfoldable pub roomy : List Constant → Bool
roomy t = leb (length t) max_index_rk

unfoldable pub is_near : Constant → List Constant → Bool
is_near c t = leb (place c t) max_index_rk
