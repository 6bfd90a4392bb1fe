-- The answer of a whole lowering: its counts, or the refusal. Assumes nothing.
use Rattle.std.specs.Prelude.{Result}
use Rattle.refusals.specs.declared.Refusal.{Refusal}
use Rattle.model.specs.declared.Counts.{Counts}

abbrev pub Lowered : Type 0
Lowered = Result Counts Refusal
