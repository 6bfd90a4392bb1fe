-- The worked examples of folding: each answer is computed by the definition and compared with its bits and their double. Assumes nothing.
use Rattle.std.specs.Prelude.{◌≡◌, refl}
use Rattle.std.specs.Float.Ieee.{of_bits, to_bits, add, sub, mul, div, neg, eq, is_nan}
use Rattle.folding.specs.Floor.{floor}
use Rattle.folding.specs.Folding.{fold_of}
use Rattle.folding.specs.Rows.{rows, found, expected}

pub each_row : found rows ≡ expected rows
unfolding rows found expected fold_of floor of_bits to_bits add sub mul div neg eq is_nan
each_row = refl
