-- What is the first N bytes from the place on is read there.
use Rattle.std.proofs.Common.{arith}
use Rattle.std.proofs.lemmas.Grind.{common_steps}
use Rattle.cursor.specs.Inside.{has_yes, has_no}
use Rattle.cursor.proofs.fixed.Goals as goal

pub returns : goal.returns
returns g c = grind (arith, common_steps, has_yes, has_no)
