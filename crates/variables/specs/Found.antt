-- What the answer of a search for a local stands for, and what the search keeps on its way. Assumes nothing.
use Rattle.std.specs.Prelude.{ℕ, List, true, false, Option as Maybe, Some, None}
use Rattle.constants.specs.Table.{Found}
use Rattle.std.proofs.Math.Option.{Option, some, none}
use Rattle.constants.specs.Entry.{same_bytes}
use Rattle.cursor.specs.Fields.{bytes_of}
use Rattle.cursor.specs.declared.Text.{Text}

abbrev pub found_is : Found → Option ℕ
found_is (Some r) = some r
found_is None = none

-- the register of the last name found so far
unfoldable pub newest : List ℕ → List ℕ → Text → ℕ → Maybe ℕ → Maybe ℕ
newest chunk name t i last = elim (same_bytes (bytes_of chunk t) name) [ true ↦ Some i | false ↦ last ]
