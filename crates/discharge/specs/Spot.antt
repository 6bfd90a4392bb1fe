-- Where a value goes: it stays as it is, or goes to a register. Assumes nothing.
use Rattle.std.specs.Prelude.{ℕ}
use Rattle.refusals.specs.declared.Refusal.{Refusal}
use Rattle.model.specs.declared.State.{State}

pub data Spot : Type 0 where
  Stay : Spot
  At : State → ℕ → Spot
  Refused : Refusal → Spot
