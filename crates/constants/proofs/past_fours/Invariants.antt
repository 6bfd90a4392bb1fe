-- `constants::past_fours` meets its contract. The loop's invariant: none of the first 4 q values is this one.
use Prim.Native.Nat.{◌*◌}
use Rattle.constants.specs.Fours.{Without}
use Rattle.constants.proofs.past_fours.Given as goal

abbrev pub invariant-loop-q : goal.invariant-loop-q
invariant-loop-q l = Without l.values (4 * l.q) l.bits
