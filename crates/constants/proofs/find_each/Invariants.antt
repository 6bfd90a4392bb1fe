-- `constants::find_each` meets its contract. The loop's invariant: no entry below i is the text.
use mathlib.Core.Bool.{◌&&◌}
use Prim.Native.Nat.{◌/◌, ◌%◌}
use lib.Dec.{eqb}
use Rattle.constants.specs.Entry.{part, same_bytes}
use Rattle.constants.proofs.Steps.{Passed}
use Rattle.constants.proofs.find_each.Given as goal

abbrev pub invariant-loop-i : goal.invariant-loop-i
invariant-loop-i l = Passed (λ k w. same_bytes (part l.pool (w / 65536) (w % 65536)) l.text && eqb k 4) l.kinds l.values l.i
