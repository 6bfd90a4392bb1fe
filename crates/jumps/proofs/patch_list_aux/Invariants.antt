-- `jumps::patch_list_aux` meets its contract, turn by turn (specs/Walk.antt). The loop's invariant: what the turns left make of the words now is what all make of the words at first. Assumes nothing.
use Rattle.std.proofs.Common.{◌≡◌, ◌-◌, length}
use Rattle.model.specs.Jumps.{patch_list_aux}
use Rattle.jumps.proofs.patch_list_aux.Given as goal

abbrev pub invariant-loop : goal.invariant-loop
invariant-loop l = (patch_list_aux (length l.initial.code) l.initial.code l.list l.vtarget l.reg l.dtarget ≡ patch_list_aux (length l.initial.code - l.counter) l.code l.l l.vtarget l.reg l.dtarget) × (length l.code ≡ length l.initial.code)
