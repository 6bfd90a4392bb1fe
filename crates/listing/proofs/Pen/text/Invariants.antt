-- `Pen::text` meets its contract: before each turn, what is still to be put, put here, is the whole text put at the start. Assumes nothing.
use Rattle.std.proofs.Common.{◌≡◌, drop, Some}
use Rattle.listing.specs.Page.{puts}
use Rattle.listing.proofs.Pen.text.Given as goal

abbrev pub invariant-loop-b : goal.invariant-loop-b
invariant-loop-b l = (puts (drop l.b-index l.s) l.self.out.now (Some l.self.at) ≡ puts l.s l.initial.self.out.now (Some l.initial.self.at)) × (l.self.out.ghost_name ≡ l.initial.self.out.ghost_name)
