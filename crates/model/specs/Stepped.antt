-- The answer of a step that only changes the state, with the state as it is left. Assumes nothing.
use Rattle.refusals.specs.declared.Refusal.{Refusal}
use Rattle.model.specs.declared.State.{State}

pub data Stepped : Type 0 where
  Refused : Refusal → Stepped
  Done : State → Stepped
