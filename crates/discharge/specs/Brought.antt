-- What bringing may change of a state and a descriptor: kind, pc, count, used, free, frame, jpc, label, info, t and f. Assumes nothing.
use Rattle.std.specs.Prelude.{ℕ}
use Rattle.refusals.specs.declared.Refusal.{Refusal}
use Rattle.model.specs.declared.ExprKind.{ExprKind}

pub data Brought : Type 0 where
  Refused : Refusal → Brought
  Done : ExprKind → ℕ → ℕ → ℕ → ℕ → ℕ → ℕ → ℕ → ℕ → ℕ → ℕ → Brought
