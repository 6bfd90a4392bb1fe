-- `jumps::last_jump` meets its contract, turn by turn (specs/Walk.antt). The loop's invariant: the walk from here with the turns left ends where the whole walk does. Assumes nothing.
use Rattle.std.proofs.Common.{arith, sym, ◌≡◌, ◌∙◌, ◌+◌, ◌-◌, length}
use Rattle.jumps.specs.Walk.{last_none, last_end, last_more}
use Rattle.jumps.proofs.last_jump.Goals as goal

pub returns-then-next-eq0 : goal.returns-then-next-eq0
returns-then-next-eq0 c = c.loop.invariant ∙ last_end _ _ _ (c.get_jump_target-next.ensures ∙ c.if-next-eq0.true)

pub loop-preserved : goal.loop-preserved
loop-preserved c =
    let z : length c.args.code.now - (c.loop.counter + 1) ≡ length c.args.code.now - c.loop.counter - 1 = omega arith in
    rw (z, ← c.get_jump_target-next.ensures) (c.loop.invariant ∙ last_more _ _ _ (omega (arith, c.loop-test.true)) (λ e. c.if-next-eq0.false (sym c.get_jump_target-next.ensures ∙ e)))

pub returns : goal.returns
returns c = c.loop.invariant ∙ last_none _ _ _ (omega (arith, c.loop-test.false, c.loop.auto))
