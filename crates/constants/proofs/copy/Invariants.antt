-- `constants::copy` meets its contract. The loop's invariant: what is left to store from `i` on makes the whole.
use mathlib.Core.Path.{◌≡◌}
use Prim.Native.Nat.{◌≤◌, ◌+◌}
use lib.ListN.{length, drop}
use lib.Seq.{sets}
use Rattle.constants.proofs.copy.Given as goal

abbrev pub invariant-loop-i : goal.invariant-loop-i
invariant-loop-i l = (l.i ≤ length l.from) × (length l.to ≡ length l.initial.to) × (sets l.initial.to l.at l.from ≡ sets l.to (l.at + l.i) (drop l.i l.from))
