-- `formulas::formulas` meets its contract, turn by turn (specs/Laws.antt). Assumes nothing.
use Rattle.std.proofs.Common.{rules, arith, ◌≡◌, ◌∙◌, ◌+◌, ◌-◌}
use Rattle.model.specs.Lengths.{same_on}
use Rattle.formulas.specs.Laws.{formulas_none, formulas_stopped, formulas_more, formulas_full}
use Rattle.formulas.proofs.formulas.Goals as goal

pub returns-in_err-e : goal.returns-in_err-e
returns-in_err-e c =
    let h = c.loop.invariant.0 ∙ formulas_stopped _ _ _ _ (omega (arith, c.loop-test.true)) (rw c.in_err-e.was at c.compile_expr.ensures.0) in
    (search rules, same_on c.args.fs.now c.loop.fs c.compile_expr.new.fs c.loop.invariant.1 c.compile_expr.ensures.1)

pub returns-in_err-exp2nextreg : goal.returns-in_err-exp2nextreg
returns-in_err-exp2nextreg c =
    let h = c.loop.invariant.0 ∙ formulas_full _ _ _ _ (omega (arith, c.loop-test.true)) (rw c.in_ok-e.was at c.compile_expr.ensures.0) (rw c.in_err-exp2nextreg.was at c.exp2nextreg.ensures.0) in
    (search rules, same_on c.args.fs.now c.loop.fs c.exp2nextreg.new.fs c.loop.invariant.1 (same_on c.loop.fs c.compile_expr.new.fs c.exp2nextreg.new.fs c.compile_expr.ensures.1 c.exp2nextreg.ensures.1))

pub loop-preserved : goal.loop-preserved
loop-preserved c =
    let h = c.loop.invariant.0 ∙ formulas_more _ _ _ _ (omega (arith, c.loop-test.true)) (rw c.in_ok-e.was at c.compile_expr.ensures.0) (rw c.in_ok-exp2nextreg.was at c.exp2nextreg.ensures.0) in
    let z : c.args.n - (c.loop.counter + 1) ≡ c.args.n - c.loop.counter - 1 = omega arith in
    (rw z h, same_on c.args.fs.now c.loop.fs c.exp2nextreg.new.fs c.loop.invariant.1 (same_on c.loop.fs c.compile_expr.new.fs c.exp2nextreg.new.fs c.compile_expr.ensures.1 c.exp2nextreg.ensures.1))

pub returns : goal.returns
returns c = (c.loop.invariant.0 ∙ formulas_none _ _ _ _ (omega (arith, c.loop-test.false, c.loop.auto)), c.loop.invariant.1)
