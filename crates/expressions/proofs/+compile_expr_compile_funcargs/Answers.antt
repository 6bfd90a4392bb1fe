-- `expressions::compile_expr` and `compile_funcargs` meet their contracts: of two sub-expressions what stands between and behind them, whatever the chunk; and the argument list by its ways (specs/Paths.antt). Assumes nothing.
use Rattle.std.proofs.Common.{rules, arith, ◌≡◌, ◌∙◌, ◌+◌, ◌-◌}
use Rattle.model.specs.Steps.{and_then}
use Rattle.model.specs.Lengths.{same_on}
use Rattle.model.specs.Expressions.{compile_expr, compile_head}
use Rattle.expressions.specs.Paths.{args_none, args_last, args_stopped, args_more, args_full}
use Rattle.expressions.proofs.+compile_expr_compile_funcargs.Goals as goal

pub compile_expr-returns-in_err-between-in-Two : goal.compile_expr-returns-in_err-between-in-Two
unfolding and_then compile_expr compile_head
compile_expr-returns-in_err-between-in-Two t c = let h = c.between.ensures c.args.src.now.bytes.now c.args.src.now.header in search rules

pub compile_expr-returns-in_err-e2-in-Two : goal.compile_expr-returns-in_err-e2-in-Two
unfolding and_then compile_expr compile_head
compile_expr-returns-in_err-e2-in-Two t c = let h = c.between.ensures c.args.src.now.bytes.now c.args.src.now.header in search rules

pub compile_expr-returns-in_err-after_two-in-Two : goal.compile_expr-returns-in_err-after_two-in-Two
unfolding and_then compile_expr compile_head
compile_expr-returns-in_err-after_two-in-Two t c =
    let h = c.between.ensures c.args.src.now.bytes.now c.args.src.now.header in
    let g = c.after_two.ensures c.args.src.now.bytes.now c.args.src.now.header in search rules

pub compile_expr-returns-in_ok-after_two-in-Two : goal.compile_expr-returns-in_ok-after_two-in-Two
unfolding and_then compile_expr compile_head
compile_expr-returns-in_ok-after_two-in-Two t c =
    let h = c.between.ensures c.args.src.now.bytes.now c.args.src.now.header in
    let g = c.after_two.ensures c.args.src.now.bytes.now c.args.src.now.header in search rules

pub compile_funcargs-returns-then-n-eq0 : goal.compile_funcargs-returns-then-n-eq0
compile_funcargs-returns-then-n-eq0 t c = (args_none _ _ _ _ _ _ c.if-n-eq0.true ∙ c.closed_call.ensures.0, c.closed_call.ensures.1)

pub compile_funcargs-returns-in_err-e : goal.compile_funcargs-returns-in_err-e
compile_funcargs-returns-in_err-e t c =
    let h = c.loop.invariant.0 ∙ args_stopped _ _ _ _ _ _ (omega (arith, c.loop-test.true)) (rw c.in_err-e.was at c.compile_expr.ensures.0) in
    (search rules, same_on c.args.fs.now c.loop.fs c.compile_expr.new.fs c.loop.invariant.1 c.compile_expr.ensures.1)

pub compile_funcargs-returns-in_err-exp2nextreg : goal.compile_funcargs-returns-in_err-exp2nextreg
compile_funcargs-returns-in_err-exp2nextreg t c =
    let h = c.loop.invariant.0 ∙ args_full _ _ _ _ _ _ (omega (arith, c.loop-test.true)) (λ e. omega (arith, e, c.loop-test.true)) (rw c.in_ok-e.was at c.compile_expr.ensures.0) (rw c.in_err-exp2nextreg.was at c.exp2nextreg.ensures.0) in
    (search rules, same_on c.args.fs.now c.loop.fs c.exp2nextreg.new.fs c.loop.invariant.1 (same_on c.loop.fs c.compile_expr.new.fs c.exp2nextreg.new.fs c.compile_expr.ensures.1 c.exp2nextreg.ensures.1))

pub compile_funcargs-loop-preserved : goal.compile_funcargs-loop-preserved
compile_funcargs-loop-preserved t c =
    let h = c.loop.invariant.0 ∙ args_more _ _ _ _ _ _ (omega (arith, c.loop-test.true)) (λ e. omega (arith, e, c.loop-test.true)) (rw c.in_ok-e.was at c.compile_expr.ensures.0) (rw c.in_ok-exp2nextreg.was at c.exp2nextreg.ensures.0) in
    let z : c.args.n + 1 - (c.loop.counter + 1) ≡ c.args.n + 1 - c.loop.counter - 1 = omega arith in
    (rw z h, same_on c.args.fs.now c.loop.fs c.exp2nextreg.new.fs c.loop.invariant.1 (same_on c.loop.fs c.compile_expr.new.fs c.exp2nextreg.new.fs c.compile_expr.ensures.1 c.exp2nextreg.ensures.1))

pub compile_funcargs-returns-in_err-e-2 : goal.compile_funcargs-returns-in_err-e-2
compile_funcargs-returns-in_err-e-2 t c =
    let h = c.loop.invariant.0 ∙ args_stopped _ _ _ _ _ _ (omega (arith, c.loop-test.false, c.loop.auto)) (rw c.in_err-e-2.was at c.compile_expr-2.ensures.0) in
    (search rules, same_on c.args.fs.now c.loop.fs c.compile_expr-2.new.fs c.loop.invariant.1 c.compile_expr-2.ensures.1)

pub compile_funcargs-returns : goal.compile_funcargs-returns
compile_funcargs-returns t c = (
  c.loop.invariant.0 ∙ args_last _ _ _ _ _ _ (omega (arith, c.loop-test.false, c.loop.auto)) (rw c.in_ok-e-2.was at c.compile_expr-2.ensures.0) ∙ c.last_argument.ensures.0,
  same_on c.args.fs.now c.loop.fs c.last_argument.new.fs c.loop.invariant.1 (same_on c.loop.fs c.compile_expr-2.new.fs c.last_argument.new.fs c.compile_expr-2.ensures.1 c.last_argument.ensures.1),
)
