-- Operators: two operands freed, which is lent nothing. Assumes nothing.
use Rattle.std.specs.Prelude.{ltb}
use Rattle.model.specs.declared.ExprContext.{ExprContext}
use Rattle.model.specs.Discharge.{rk}
use Rattle.model.specs.Operators.{free_in_turn, free_both}
use Rattle.alone.specs.Alone.{none, Alone, alone_then, alone_if}
use Rattle.alone.specs.Discharge.{alone_free_expr}

alone_free_in_turn : (a b : ExprContext) → Alone none (free_in_turn a b)
unfolding free_in_turn
alone_free_in_turn a b = alone_then _ _ (alone_free_expr a) (λ _. alone_free_expr b)

pub alone_free_both : (e₁ e₂ : ExprContext) → Alone none (free_both e₁ e₂)
unfolding free_both
alone_free_both e₁ e₂ = alone_if (ltb (rk e₂) (rk e₁)) _ _ (alone_free_in_turn e₁ e₂) (alone_free_in_turn e₂ e₁)
