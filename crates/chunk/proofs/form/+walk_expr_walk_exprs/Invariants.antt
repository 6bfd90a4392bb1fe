-- The cycle ends because nesting falls. The loop's invariant says that whatever the rest gives, the whole gives (`more_walked`).
use Rattle.std.specs.Prelude.{Result}
use Rattle.std.proofs.Common.{ℕ, ◌+◌, ◌-◌, ◌*◌, List}
use Rattle.chunk.specs.Ast.{spans_of}
use Rattle.chunk.specs.Form.{expr_at, exprs_at}
use Rattle.chunk.specs.Walks.{Walked, Within}
use Rattle.chunk.proofs.form.+walk_expr_walk_exprs.Given as goal
use Rattle.refusals.specs.declared.Refusal.{Refusal}
use Rattle.chunk.specs.declared.form.Walk.{Walk}

abbrev pub decreases-walk_expr : goal.decreases-walk_expr
decreases-walk_expr l = l.left * 2

abbrev pub decreases-walk_exprs : goal.decreases-walk_exprs
decreases-walk_exprs l = l.left * 2 + 1

abbrev pub invariant-walk_exprs-loop : goal.invariant-walk_exprs-loop
invariant-walk_exprs-loop l = record {
  within : Within l.chunk l.walk;
  rest : (R : Result Walk Refusal) (S : List ℕ) → Walked spans_of (exprs_at (expr_at l.chunk l.varargs l.left) (l.count - l.counter) l.walk.at l.walk.line) l.walk.nodes l.scratch R S
      → Walked spans_of (exprs_at (expr_at l.chunk l.varargs l.left) l.count l.initial.walk.at l.initial.walk.line) l.initial.walk.nodes l.initial.scratch R S;
}
