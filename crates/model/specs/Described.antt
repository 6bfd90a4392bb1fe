-- The answer of a step that gives a descriptor. Assumes nothing.
use Rattle.refusals.specs.declared.Refusal.{Refusal}
use Rattle.model.specs.declared.State.{State}
use Rattle.model.specs.declared.ExprContext.{ExprContext}

pub data Described : Type 0 where
  Refused : Refusal → Described
  Done : State → ExprContext → Described
