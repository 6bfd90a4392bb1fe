-- One turn over the names (`skip_more`), at a count that the loop lowers by one.
use Rattle.std.proofs.Common.{◌≡◌, ◌∙◌, ◌+◌, ◌-◌, arith}
use Rattle.std.specs.Prelude.{Some}
use Rattle.cursor.specs.Fields.{text_at}
use Rattle.chunk.specs.Skipping.{skip_more}
use Rattle.chunk.proofs.header.skip_names.Goals as goal

pub loop-preserved : goal.loop-preserved
loop-preserved c =
    let e : c.args.count - (c.loop.counter + 1) ≡ c.args.count - c.loop.counter - 1 = omega arith in
    let text : text_at c.args.chunk.now c.loop.next ≡ Some c.in_ok-t.t = c.in_ok-t.ensures in
    rw e (c.loop.invariant ∙ skip_more _ _ (c.args.count - c.loop.counter) _ (omega arith) text)
