-- One turn of the search (`sought_more`), at a count that the loop lowers by one.
use Rattle.std.proofs.Common.{◌≡◌, ◌∙◌, ◌+◌, ◌-◌, arith}
use Rattle.std.specs.Prelude.{Some}
use Rattle.cursor.specs.Fields.{text_at}
use Rattle.variables.proofs.Seeking.{sought_more}
use Rattle.variables.proofs.search_local.Goals as goal

pub loop-i-preserved : goal.loop-i-preserved
loop-i-preserved c =
    let e : c.args.h.locals - (c.loop-i.i + 1) ≡ c.args.h.locals - c.loop-i.i - 1 = omega arith in
    let text : text_at c.args.chunk.now c.loop-i.at ≡ Some c.in_ok-name.name = c.read_text.ensures ∙ c.in_ok-name.was in
    rw (e, ← c.newer-last.ensures) (c.loop-i.invariant ∙ sought_more _ _ _ _ _ (c.args.h.locals - c.loop-i.i) _ (omega arith) text)
