-- An operand: the constant at an index, or what goes to a register. Assumes nothing.
use Rattle.std.specs.Prelude.{ℕ}
use Rattle.refusals.specs.declared.Refusal.{Refusal}
use Rattle.model.specs.declared.State.{State}

pub data Operand : Type 0 where
  Constant : State → ℕ → Operand
  Other : State → Operand
  Refused : Refusal → Operand
