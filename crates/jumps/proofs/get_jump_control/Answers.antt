-- `jumps::get_jump_control` meets its contract, by whether the word before is a test. Assumes nothing.
use Rattle.model.specs.Jumps.{get_jump_control}
use Rattle.jumps.specs.Walk.{control_test, control_own}
use Rattle.jumps.proofs.get_jump_control.Goals as goal

pub returns-then-pc-eq0 : goal.returns-then-pc-eq0
unfolding get_jump_control
returns-then-pc-eq0 c = rw c.if-pc-eq0.true

pub returns-then-is_test_mode : goal.returns-then-is_test_mode
returns-then-is_test_mode c = control_test _ _ c.if-pc-eq0.false (rw (c.word_at.ensures, c.opcode.ensures, c.is_test_mode.ensures) c.if-is_test_mode.true)

pub returns : goal.returns
returns c = control_own _ _ c.if-pc-eq0.false (rw (c.word_at.ensures, c.opcode.ensures, c.is_test_mode.ensures) c.if-is_test_mode.false)
