-- The loop's invariant: the place behind all names is the place behind those that are left.
use mathlib.Core.Path.{◌≡◌}
use Prim.Native.Nat.{◌-◌}
use Rattle.chunk.specs.Headers.{names_at, skipped}
use Rattle.chunk.proofs.header.skip_names.Given as goal

abbrev pub invariant-loop : goal.invariant-loop
invariant-loop l = skipped (names_at l.chunk l.count l.at) ≡ skipped (names_at l.chunk (l.count - l.counter) l.next)
