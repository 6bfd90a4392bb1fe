-- A lowering leaves the tails clean: the lent buffers are cleared first, and each of its steps keeps their tails.
-- What rests on something that a must-fail edit breaks stands in proofs/Lowering.antt.
use Prim.Native.Nat.{ℕ}
use Rattle.std.proofs.Common.{arith}
use Rattle.std.proofs.lemmas.List.{length-replicate}
use Rattle.model.specs.Lowering.{Sizes, cleared, start}
use Rattle.threads.specs.Emitting.{no_word}
use Rattle.padding.specs.Clean.{Clean}

pub clean_start : (z : Sizes) (at locals : ℕ) → Clean z (start at locals) (cleared z)
clean_start z at locals = record {
  code_length = length-replicate z.code 0;
  lines_length = length-replicate z.lines 0;
  kinds_length = length-replicate z.kinds 0;
  values_length = length-replicate z.values 0;
  pool_length = length-replicate z.pool 0;
  lines_fit = omega arith;
  lines = λ i h. no_word z.lines i;
  kinds = λ i h. no_word z.kinds i;
  values = λ i h. no_word z.values i;
  pool = λ i h. no_word z.pool i;
}
