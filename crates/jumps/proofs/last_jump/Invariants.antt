-- `jumps::last_jump` meets its contract, turn by turn (specs/Walk.antt). The loop's invariant: the walk from here with the turns left ends where the whole walk does. Assumes nothing.
use Rattle.std.proofs.Common.{◌≡◌, ◌-◌, length}
use Rattle.model.specs.Jumps.{last_jump}
use Rattle.jumps.proofs.last_jump.Given as goal

abbrev pub invariant-loop : goal.invariant-loop
invariant-loop l = last_jump (length l.code) l.code l.list ≡ last_jump (length l.code - l.counter) l.code l.l
