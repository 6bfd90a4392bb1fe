-- `jumps::remove_values` meets its contract, turn by turn (specs/Walk.antt). The loop's invariant: what the turns left make of the words now is what all make of the words at first. Assumes nothing.
use Rattle.std.proofs.Common.{arith, ◌≡◌, ◌∙◌, ◌+◌, ◌-◌, length}
use Rattle.jumps.specs.Walk.{remove_none, remove_end, remove_more}
use Rattle.jumps.proofs.remove_values.Goals as goal

pub returns-then-l-eq0 : goal.returns-then-l-eq0
returns-then-l-eq0 c = c.loop.invariant.0 ∙ remove_end _ _ _ c.if-l-eq0.true

pub loop-preserved : goal.loop-preserved
loop-preserved c =
    let z : length c.args.code.now - (c.loop.counter + 1) ≡ length c.args.code.now - c.loop.counter - 1 = omega arith in (
      rw (z, ← c.get_jump_target-l.ensures, ← c.patch_test_reg.ensures.1) (c.loop.invariant.0 ∙ remove_more _ _ _ (omega (arith, c.loop-test.true)) c.if-l-eq0.false),
      c.patch_test_reg.auto.code ∙ c.loop.invariant.1,
    )

pub returns : goal.returns
returns c = c.loop.invariant.0 ∙ remove_none _ _ _ (omega (arith, c.loop-test.false, c.loop.auto))
