-- `jumps::concat_jumps` meets its contract, by cases on which of the lists is empty, and by those of `last_jump` and `patch_jump`. Assumes nothing.
use Rattle.model.specs.Jumps.{linked}
use Rattle.jumps.specs.Walk.{linked_some, linked_none, concat_some, concat_none}
use Rattle.jumps.proofs.concat_jumps.Goals as goal

pub returns-then-l2-eq0 : goal.returns-then-l2-eq0
returns-then-l2-eq0 c = (concat_none _ _ c.if-l2-eq0.true, linked_none _ _ _ c.if-l2-eq0.true)

pub returns-then-l1-eq0 : goal.returns-then-l1-eq0
unfolding linked
returns-then-l1-eq0 c = (rw c.if-l1-eq0.true, rw c.if-l1-eq0.true)

pub returns : goal.returns
returns c = (concat_some _ _ c.if-l1-eq0.false, rw (linked_some _ _ _ c.if-l1-eq0.false c.if-l2-eq0.false, c.last_jump-last.ensures) c.patch_jump.ensures)
