-- Each way out is a law of `Forming`, at what the walk and the header gave.
use Rattle.std.proofs.Common.{arith}
use Rattle.std.proofs.lemmas.Result.{err_from_is_err_and}
use Rattle.chunk.proofs.Forming.{as_many, form_long, form_header, form_cut, form_trailing, form_done}
use Rattle.chunk.proofs.Insides.{header_in}
use Rattle.chunk.proofs.form.check_form.Goals as goal

pub returns-then-chunk-gt-MAX_LENGTH : goal.returns-then-chunk-gt-MAX_LENGTH
returns-then-chunk-gt-MAX_LENGTH c = form_long _ _ _ c.clear.ensures c.if-chunk-gt-MAX_LENGTH.true

pub returns-in_err-h : goal.returns-in_err-h
returns-in_err-h c =
    let p = err_from_is_err_and c.from_residual.result c.from_residual.ensures.1 in
    rw (p.1, p.2) (form_header _ _ _ c.clear.ensures _ c.if-chunk-gt-MAX_LENGTH.false c.in_err-h.ensures)

pub walk_exprs-requires : goal.walk_exprs-requires
walk_exprs-requires c = record {
  short = c.if-chunk-gt-MAX_LENGTH.false;
  at_in = header_in _ _ c.in_ok-h.ensures;
  few = omega arith;
}

pub returns-then-v-chunk : goal.returns-then-v-chunk
returns-then-v-chunk c = form_trailing _ _ _ (as_many c.clear-then-v-chunk.ensures (omega arith)) _ c.if-chunk-gt-MAX_LENGTH.false c.in_ok-h.ensures _ _ _ (rw c.in-Ok.is at c.walk_exprs.ensures.0) c.if-v-chunk.true

pub returns-else-v-chunk : goal.returns-else-v-chunk
returns-else-v-chunk c = form_done _ _ _ c.clear.ensures _ c.if-chunk-gt-MAX_LENGTH.false c.in_ok-h.ensures _ _ (rw c.in-Ok.is at c.walk_exprs.ensures.0) c.if-v-chunk.false

pub returns-in-Err : goal.returns-in-Err
returns-in-Err c = form_cut _ _ _ (as_many c.clear-in-Err.ensures (omega arith)) _ c.if-chunk-gt-MAX_LENGTH.false c.in_ok-h.ensures _ _ _ (rw c.in-Err.is at c.walk_exprs.ensures.0)
