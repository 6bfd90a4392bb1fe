-- A node is walked by walking its children, if any (`expr_walked`); what the rest gives, the whole gives (`more_walked`).
use Rattle.std.proofs.Common.{◌≡◌, ◌+◌, ◌-◌, arith}
use Rattle.std.proofs.lemmas.Result.{err_from_is_err_and}
use Rattle.chunk.proofs.Walking.{more_walked, cut_walked, none_walked, expr_walked, unread_walked, deep_walked}
use Rattle.chunk.proofs.Insides.{node_in}
use Rattle.chunk.proofs.form.+walk_expr_walk_exprs.Goals as goal

pub walk_expr-returns-then-left-eq0 : goal.walk_expr-returns-then-left-eq0
walk_expr-returns-then-left-eq0 t c = (deep_walked _ _ _ _ _ _ _ _ c.if-left-eq0.true, tt)

pub walk_expr-returns-in_err-n : goal.walk_expr-returns-in_err-n
walk_expr-returns-in_err-n t c =
    let p = err_from_is_err_and c.from_residual.result c.from_residual.ensures.1 in
    rw (p.1, p.2) (unread_walked _ _ _ _ _ _ _ _ _ c.if-left-eq0.false c.in_err-n.ensures, tt)

pub walk_expr-returns-then-n-eq0 : goal.walk_expr-returns-then-n-eq0
walk_expr-returns-then-n-eq0 t c =
    let i = node_in _ _ _ _ _ c.in_ok-n.ensures in (
      expr_walked _ _ _ _ _ _ _ _ _ _ c.if-left-eq0.false c.in_ok-n.ensures (rw c.put.ensures (none_walked _ _ _ _ _ _ (omega arith))),
      record { short = c.requires.short; at_in = i.1; few = omega (arith, i) },
    )

pub walk_expr-walk_exprs-requires : goal.walk_expr-walk_exprs-requires
walk_expr-walk_exprs-requires t c =
    let i = node_in _ _ _ _ _ c.in_ok-n.ensures in
    (omega arith, record { short = c.requires.short; at_in = i.1; few = omega (arith, i) })

pub walk_expr-returns : goal.walk_expr-returns
walk_expr-returns t c = (
  expr_walked _ _ _ _ _ _ _ _ _ _ c.if-left-eq0.false c.in_ok-n.ensures (rw c.put.ensures c.walk_exprs.ensures.0),
  c.walk_exprs.ensures.1,
)

pub walk_exprs-returns-in_err-walk : goal.walk_exprs-returns-in_err-walk
walk_exprs-returns-in_err-walk t c =
    let p = err_from_is_err_and c.from_residual.result c.from_residual.ensures.1 in
    rw (p.1, p.2) (c.loop.invariant.rest _ _ (cut_walked _ _ _ _ _ _ _ _ _ (omega arith) c.in_err-walk.ensures.0), tt)

pub walk_exprs-loop-preserved : goal.walk_exprs-loop-preserved
walk_exprs-loop-preserved t c =
    let e : c.args.count - (c.loop.counter + 1) ≡ c.args.count - c.loop.counter - 1 = omega arith in
    record {
      within = c.in_ok-walk.ensures.1;
      rest = λ R S w. c.loop.invariant.rest R S (more_walked _ _ _ _ _ _ _ _ R S (omega arith) c.in_ok-walk.ensures.0 (rw e at w));
    }

pub walk_exprs-returns : goal.walk_exprs-returns
walk_exprs-returns t c = (
  c.loop.invariant.rest _ _ (none_walked _ _ _ _ _ _ (omega arith)),
  c.loop.invariant.within,
)
