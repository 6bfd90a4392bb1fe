-- `constants::find_bits` meets its contract. The loop's invariant: no entry below i is the number.
use mathlib.Core.Bool.{◌&&◌}
use lib.Dec.{eqb}
use Rattle.constants.proofs.Steps.{Passed}
use Rattle.constants.proofs.find_bits.Given as goal

abbrev pub invariant-loop-i : goal.invariant-loop-i
invariant-loop-i l = Passed (λ k w. eqb w l.bits && eqb k 3) l.kinds l.values l.i
