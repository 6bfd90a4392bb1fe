-- `listing::listing` meets its contract: on a cleared buffer the whole list and then zeros, or, where there was no room for it, zeros again. Assumes nothing.
use Rattle.listing.specs.Laws.{listed_whole, listed_not}
use Rattle.std.proofs.Common.{arith}
use Rattle.listing.proofs.listing.Goals as goal

pub returns-then-is_none : goal.returns-then-is_none
returns-then-is_none c = listed_not _ _ c.clear.ensures c.list-end.ensures c.if-is_none.ensures (omega (arith, c.clear.auto.s, c.list-end.auto.out)) c.clear-then-is_none.ensures

pub returns-else-is_none : goal.returns-else-is_none
returns-else-is_none c = listed_whole _ _ c.clear.ensures c.list-end.ensures c.if-is_none.ensures
