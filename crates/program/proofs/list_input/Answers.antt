-- `program::list_input` meets its contract, by those of `read_full` and `list_bytes`; what is written out is the list on the page. Assumes nothing.
use mathlib.Core.Path.{sym}
use lib.Seq.{length-take-le}
use Rattle.program.specs.Laws.{written_fits}
use native.Mathlib.Omega.{arith}
use Rattle.program.proofs.list_input.Goals as goal

pub slice_bounds-write_all-end : goal.slice_bounds-write_all-end
slice_bounds-write_all-end c = omega (arith, written_fits _ _ c.list_bytes-listed.ensures c.in-Some.is, c.list_bytes-listed.auto.out)

pub slice_bounds-write_all-end-in-Some : goal.slice_bounds-write_all-end-in-Some
slice_bounds-write_all-end-in-Some c = sym (length-take-le _ _ (omega (arith, written_fits _ _ c.list_bytes-listed.ensures c.in-Some.is, c.list_bytes-listed.auto.out)))
