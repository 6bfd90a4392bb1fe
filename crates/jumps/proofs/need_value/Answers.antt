-- `jumps::need_value` meets its contract, turn by turn (specs/Walk.antt). The loop's invariant: the answer from here with the turns left is the whole answer. Assumes nothing.
use Rattle.std.proofs.Common.{arith, ◌≡◌, ◌∙◌, ◌+◌, ◌-◌, length}
use Rattle.jumps.specs.Walk.{need_none, need_end, need_more, need_stop}
use Rattle.jumps.proofs.need_value.Goals as goal

pub returns-then-l-eq0 : goal.returns-then-l-eq0
returns-then-l-eq0 c = c.loop.invariant ∙ need_end _ _ _ c.if-l-eq0.true

pub loop-preserved : goal.loop-preserved
loop-preserved c =
    let z : length c.args.code.now - (c.loop.counter + 1) ≡ length c.args.code.now - c.loop.counter - 1 = omega arith in
    rw (z, ← c.get_jump_target-l.ensures)
    (c.loop.invariant ∙ need_more _ _ _ (omega (arith, c.loop-test.true)) c.if-l-eq0.false (rw (c.control.ensures, c.word_at.ensures, c.is_test_set.ensures) c.if-not-is_test_set.false))

pub returns-then-not-is_test_set : goal.returns-then-not-is_test_set
returns-then-not-is_test_set c = c.loop.invariant ∙ need_stop _ _ _ (omega (arith, c.loop-test.true)) c.if-l-eq0.false (rw (c.control.ensures, c.word_at.ensures, c.is_test_set.ensures) c.if-not-is_test_set.true)

pub returns : goal.returns
returns c = c.loop.invariant ∙ need_none _ _ _ (omega (arith, c.loop-test.false, c.loop.auto))
