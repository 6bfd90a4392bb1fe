-- `Pen::row` meets its contract: a line put in parts, one behind the other, is the line put whole; where a part does not fit, the line does not. Assumes nothing.
use Rattle.listing.specs.Laws.{writes_then, writes_stop}
use Rattle.listing.proofs.Pen.row.Goals as goal

pub returns-in_err-text : goal.returns-in_err-text
returns-in_err-text c = writes_stop _ _ _ _ _ c.in_err-text.ensures c.from_residual.ensures

pub returns-in_err-number : goal.returns-in_err-number
returns-in_err-number c = writes_then _ _ _ _ c.in_ok-text.ensures (writes_stop _ _ _ _ _ c.in_err-number.ensures c.from_residual-in_err-number.ensures)

pub returns-in_err-put : goal.returns-in_err-put
returns-in_err-put c = writes_then _ _ _ _ c.in_ok-text.ensures (writes_then _ _ _ _ c.in_ok-number.ensures (writes_stop _ _ _ _ _ c.in_err-put.ensures c.from_residual-in_err-put.ensures))

pub returns-in_err-number-2 : goal.returns-in_err-number-2
returns-in_err-number-2 c = writes_then _ _ _ _ c.in_ok-text.ensures (writes_then _ _ _ _ c.in_ok-number.ensures (writes_then _ _ _ _ c.in_ok-put.ensures (writes_stop _ _ _ _ _ c.in_err-number-2.ensures c.from_residual-in_err-number-2.ensures)))

pub returns-in_err-put-2 : goal.returns-in_err-put-2
returns-in_err-put-2 c = writes_then _ _ _ _ c.in_ok-text.ensures (writes_then _ _ _ _ c.in_ok-number.ensures (writes_then _ _ _ _ c.in_ok-put.ensures (writes_then _ _ _ _ c.in_ok-number-2.ensures (writes_stop _ _ _ _ _ c.in_err-put-2.ensures c.from_residual-in_err-put-2.ensures))))

pub returns-in_err-hex : goal.returns-in_err-hex
returns-in_err-hex c = writes_then _ _ _ _ c.in_ok-text.ensures (writes_then _ _ _ _ c.in_ok-number.ensures (writes_then _ _ _ _ c.in_ok-put.ensures (writes_then _ _ _ _ c.in_ok-number-2.ensures (writes_then _ _ _ _ c.in_ok-put-2.ensures (writes_stop _ _ _ _ _ c.in_err-hex.ensures c.from_residual-in_err-hex.ensures)))))

pub returns : goal.returns
returns c = writes_then _ _ _ _ c.in_ok-text.ensures (writes_then _ _ _ _ c.in_ok-number.ensures (writes_then _ _ _ _ c.in_ok-put.ensures (writes_then _ _ _ _ c.in_ok-number-2.ensures (writes_then _ _ _ _ c.in_ok-put-2.ensures (writes_then _ _ _ _ c.in_ok-hex.ensures c.put-3.ensures)))))
