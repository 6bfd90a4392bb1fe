-- `Pen::lines_of` meets its contract: the counts' line, the words' and the constants' one behind the other, or the refusal's. Assumes nothing.
use Rattle.listing.specs.Laws.{writes_then, writes_stop, words_put, constants_put}
use Rattle.listing.proofs.Pen.lines_of.Goals as goal

pub returns-in_err-count_line-in-Ok : goal.returns-in_err-count_line-in-Ok
returns-in_err-count_line-in-Ok c = rw c.in-Ok.is (writes_stop _ _ _ _ _ c.in_err-count_line-in-Ok.ensures c.from_residual.ensures)

pub returns-in_err-rows-in-Ok : goal.returns-in_err-rows-in-Ok
returns-in_err-rows-in-Ok c =
    let e = c.in_err-rows-in-Ok.ensures (λ x. x) (λ x. x) (λ x y e. e) (λ x y e. e) in
    rw c.in-Ok.is (writes_then _ _ _ _ c.in_ok-count_line-in-Ok.ensures (writes_stop _ _ _ _ _ (words_put _ _ _ _ _ e.0, e.1) c.from_residual-in_err-rows-in-Ok.ensures))

pub returns-in_ok-rows-in-Ok : goal.returns-in_ok-rows-in-Ok
returns-in_ok-rows-in-Ok c =
    let e = c.in_ok-rows-in-Ok.ensures (λ x. x) (λ x. x) (λ x y e. e) (λ x y e. e) in
    let d = c.rows-in-Ok.ensures (λ x. x) (λ x. x) (λ x y e. e) (λ x y e. e) in
    rw c.in-Ok.is (writes_then _ _ _ _ c.in_ok-count_line-in-Ok.ensures (writes_then _ _ _ _ (words_put _ _ _ _ _ e.0, e.1) (constants_put _ _ _ _ _ d.0, d.1)))
