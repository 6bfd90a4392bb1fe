-- The constant table of the model and the list of labelled code: the same constants in the same places, none twice. What the laws of adding and finding say of it. Assumes nothing.
use Rattle.std.specs.Prelude.{ℕ, ◌*◌, ◌≤◌, ◌<◌, ◌≡◌, List, length, get_or}
use Rattle.std.proofs.Math.Option.{some}
use Rattle.instructions.specs.Limits.{max_constants}
use Rattle.constants.specs.Entry.{Constant, nil, constant_at}
use Rattle.constants.specs.declared.Table.{Table}
use Rattle.constants.specs.Distinct.{Good}

-- a text has at most 65,535 bytes, so that those of all texts are fewer than 2 ^ 48
pub record Tabled (t : List Constant) (b : Table) (ks ws pool : List ℕ) : Type 0 where
  pub good : Good b ks ws pool
  pub count : b.count ≡ length t
  pub few : b.count ≤ max_constants
  pub bytes : b.used ≤ b.count * 65535
  pub entries : (i : ℕ) → i < length t → constant_at pool ks ws i ≡ some (get_or t i nil)
