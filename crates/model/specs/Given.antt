-- The answer of a step that also gives a number: a word, a register, a constant or a jump list. Assumes nothing.
use Rattle.std.specs.Prelude.{ℕ}
use Rattle.refusals.specs.declared.Refusal.{Refusal}
use Rattle.model.specs.declared.State.{State}

pub data Given : Type 0 where
  Refused : Refusal → Given
  Done : State → ℕ → Given
