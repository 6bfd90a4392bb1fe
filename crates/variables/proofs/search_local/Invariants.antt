-- The loop's invariant: the names from here on, with what was found before, give what all names give (`Seeking`).
use mathlib.Core.Path.{◌≡◌}
use Prim.Native.Nat.{◌-◌}
use Rattle.std.specs.Prelude.{None}
use Rattle.cursor.specs.Fields.{bytes_of}
use Rattle.chunk.specs.Headers.{names_at}
use Rattle.variables.proofs.Seeking.{sought}
use Rattle.variables.proofs.search_local.Given as goal

abbrev pub invariant-loop-i : goal.invariant-loop-i
invariant-loop-i l = sought l.chunk (bytes_of l.chunk l.t) (names_at l.chunk l.fn.h.locals l.fn.h.names) 0 None ≡ sought l.chunk (bytes_of l.chunk l.t) (names_at l.chunk (l.fn.h.locals - l.i) l.at) l.i l.last
