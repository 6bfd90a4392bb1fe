-- `jumps::remove_values` meets its contract, turn by turn (specs/Walk.antt). The loop's invariant: what the turns left make of the words now is what all make of the words at first. Assumes nothing.
use Rattle.std.proofs.Common.{◌≡◌, ◌-◌, length}
use Rattle.model.specs.Jumps.{remove_values}
use Rattle.jumps.proofs.remove_values.Given as goal

abbrev pub invariant-loop : goal.invariant-loop
invariant-loop l = (remove_values (length l.initial.code) l.initial.code l.list ≡ remove_values (length l.initial.code - l.counter) l.code l.l) × (length l.code ≡ length l.initial.code)
