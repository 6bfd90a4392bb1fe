-- `Pen::rows` meets its contract: before each turn, the rows of what the iterators still hold, put here, are all rows put at the start. Assumes nothing.
use Rattle.std.proofs.Common.{◌≡◌, ℕ, take, map, Some}
use Rattle.std.specs.Iterator.Adapters.{take_source, take_count, enumerate_source, enumerate_count, zip_first, zip_second}
use Rattle.std.specs.Slice.Iter.{iter_rest}
use Rattle.listing.specs.Laws.{Gives, rows}
use Rattle.listing.specs.Page.{puts}
use Rattle.listing.proofs.Pen.rows.Given as goal

abbrev pub invariant-loop-i : goal.invariant-loop-i
invariant-loop-i g l =
    let e = take_source l.i-iterator in
    let n = take_count l.i-iterator in
    (f : g.row.N.Denot → ℕ) (h : g.row.B.Denot → ℕ) → Gives g.N.Into.converts f → Gives g.B.Into.converts h →
    (puts (rows l.label l.digits (enumerate_count e) (take n (map f (iter_rest (zip_first (enumerate_source e))))) (take n (map h (iter_rest (zip_second (enumerate_source e)))))) l.self.out.now (Some l.self.at)
    ≡ puts (rows l.label l.digits 0 (take l.most (map f l.numbers)) (take l.most (map h l.bits))) l.initial.self.out.now (Some l.initial.self.at))
    × (l.self.out.ghost_name ≡ l.initial.self.out.ghost_name)
