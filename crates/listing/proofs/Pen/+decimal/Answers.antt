-- `Pen::decimal` meets its contract; where the front of the number does not fit, its last digit does not fit either. Assumes nothing.
use Rattle.std.proofs.Common.{refl, ◌∙◌}
use Rattle.listing.specs.Laws.{decimal_none, decimal_small, decimal_large, pen_full, one_put}
use Rattle.listing.proofs.Pen.+decimal.Goals as goal

pub returns-then-most-eq0 : goal.returns-then-most-eq0
returns-then-most-eq0 t c = (decimal_none _ _ _ _ c.if-most-eq0.true, refl)

pub returns-then-n-lt10 : goal.returns-then-n-lt10
returns-then-n-lt10 t c = (decimal_small _ _ _ _ c.if-most-eq0.false c.if-n-lt10.true c.decimal_digit.ensures (one_put _ _ _ c.put.ensures.0), c.put.ensures.1)

pub returns-in_err-decimal : goal.returns-in_err-decimal
returns-in_err-decimal t c = (decimal_large _ _ _ _ c.if-most-eq0.false c.if-n-lt10.false c.in_err-decimal.ensures.0 refl (pen_full _ _ c.from_residual.ensures), c.in_err-decimal.ensures.1)

pub returns : goal.returns
returns t c = (decimal_large _ _ _ _ c.if-most-eq0.false c.if-n-lt10.false c.in_ok-decimal.ensures.0 c.decimal_digit-2.ensures (one_put _ _ _ c.put-2.ensures.0), c.put-2.ensures.1 ∙ c.in_ok-decimal.ensures.1)
