-- `Pen::hex` meets its contract; where the front of the number does not fit, its last digit does not fit either. Assumes nothing.
use Rattle.std.proofs.Common.{refl, ◌∙◌}
use Rattle.listing.specs.Laws.{hex_none, hex_more, pen_full, one_put}
use Rattle.listing.proofs.Pen.+hex.Goals as goal

pub returns-then-digits-eq0 : goal.returns-then-digits-eq0
returns-then-digits-eq0 t c = (hex_none _ _ _ _ c.if-digits-eq0.true, refl)

pub returns-in_err-hex : goal.returns-in_err-hex
returns-in_err-hex t c = (hex_more _ _ _ _ c.if-digits-eq0.false c.in_err-hex.ensures.0 refl (pen_full _ _ c.from_residual.ensures), c.in_err-hex.ensures.1)

pub returns : goal.returns
returns t c = (hex_more _ _ _ _ c.if-digits-eq0.false c.in_ok-hex.ensures.0 c.hex_digit.ensures (one_put _ _ _ c.put.ensures.0), c.put.ensures.1 ∙ c.in_ok-hex.ensures.1)
