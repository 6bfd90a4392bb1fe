-- Texts of entries, as the search compares them. Assumes nothing.
use Rattle.std.specs.Prelude.{Bool, ◌&&◌, List, ℕ, ◌+◌, ◌-◌, ◌/◌, ◌%◌, length, drop, eqb, leb}
use Rattle.constants.specs.Entry.{part, same_bytes}
use Rattle.constants.specs.Fours.{four_of}

-- whether the entry of kind k and value w is this text
abbrev pub is_text : List ℕ → List ℕ → ℕ → ℕ → Bool
is_text pool text k w = same_bytes (part pool (w / 65536) (w % 65536)) text && eqb k 4

-- the last n bytes, or all where there are fewer
abbrev pub tail_of : ℕ → List ℕ → List ℕ
tail_of n l = drop (length l - n) l

-- whether the value w is that of a text of this length, wholly in the pool, whose last four bytes make this number
abbrev pub ends_alike : List ℕ → ℕ → ℕ → ℕ → Bool
ends_alike pool len last w = eqb (w % 65536) len && (leb (w / 65536 + len) (length pool) && eqb (four_of pool (w / 65536 + len - 4)) last)
