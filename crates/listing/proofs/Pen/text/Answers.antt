-- `Pen::text` meets its contract; where a byte does not fit, the rest does not fit either. Assumes nothing.
use Rattle.std.proofs.Common.{sym, ◌∙◌}
use Rattle.listing.specs.Laws.{text_next, text_all, pen_lost}
use Rattle.listing.proofs.Pen.text.Goals as goal

pub returns-in_err-put : goal.returns-in_err-put
returns-in_err-put c = (sym c.loop-b.invariant.0 ∙ sym (text_next _ _ _ _ c.loop-b-test.true c.in_err-put.ensures.0) ∙ pen_lost _ _ c.from_residual.ensures, c.in_err-put.ensures.1 ∙ c.loop-b.invariant.1)

pub loop-b-preserved : goal.loop-b-preserved
loop-b-preserved c = (text_next _ _ _ _ c.loop-b-test.true c.in_ok-put.ensures.0 ∙ c.loop-b.invariant.0, c.in_ok-put.ensures.1 ∙ c.loop-b.invariant.1)

pub returns : goal.returns
returns c = (sym c.loop-b.invariant.0 ∙ text_all _ _ _ _ c.loop-b-test.false, c.loop-b.invariant.1)
