-- `jumps::need_value` meets its contract, turn by turn (specs/Walk.antt). The loop's invariant: the answer from here with the turns left is the whole answer. Assumes nothing.
use Rattle.std.proofs.Common.{◌≡◌, ◌-◌, length}
use Rattle.model.specs.Jumps.{need_value}
use Rattle.jumps.proofs.need_value.Given as goal

abbrev pub invariant-loop : goal.invariant-loop
invariant-loop l = need_value (length l.code) l.code l.list ≡ need_value (length l.code - l.counter) l.code l.l
