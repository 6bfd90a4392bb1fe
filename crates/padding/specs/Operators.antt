-- Operators keep the tails clean, before and after their right operand: part by part.
-- What rests on something that a must-fail edit breaks stands in proofs/Operators.antt.
use Rattle.folding.specs.Numeral.{Fold}
use Rattle.std.specs.Prelude.{Bool, ltb, Some, None}
use Rattle.opcodes.specs.declared.OpCode.{OpCode}
use Rattle.model.specs.declared.ExprContext.{ExprContext}
use Rattle.model.specs.Steps.{Step}
use Rattle.model.specs.Discharge.{rk}
use Rattle.model.specs.Operators.{unless_folded, free_in_turn, free_both, far_numeral, emit_comp, code_and, code_or}
use Rattle.model.specs.Lowering.{Sizes}
use Rattle.padding.specs.Clean.{clean, Keeps, keeps_return, keeps_then, keeps_if}
use Rattle.padding.specs.Emission.{keeps_emit, keeps_concat, keeps_emit_jump}
use Rattle.padding.specs.Discharge.{keeps_discharge_vars, keeps_free_expr}

module _ {z : Sizes} where
  -- ---- arithmetic

  pub keeps_unless_folded : (f : Fold) (e : ExprContext) {x : Step ExprContext} → Keeps z x → Keeps z (unless_folded f e x)
  keeps_unless_folded (Some n) e k = keeps_return _
  keeps_unless_folded None e k = k

  keeps_free_in_turn : (a b : ExprContext) → Keeps z (free_in_turn a b)
  unfolding free_in_turn
  keeps_free_in_turn a b = keeps_then (keeps_free_expr a) (λ _. keeps_free_expr b)

  pub keeps_free_both : (e₁ e₂ : ExprContext) → Keeps z (free_both e₁ e₂)
  unfolding free_both
  keeps_free_both e₁ e₂ = keeps_if (ltb (rk e₂) (rk e₁)) (keeps_free_in_turn e₁ e₂) (keeps_free_in_turn e₂ e₁)

  -- ---- comparisons

  pub keeps_far_numeral : (e : ExprContext) → Keeps z (far_numeral e)
  unfolding far_numeral
  keeps_far_numeral e s m c = clean _ s m c

  pub keeps_emit_comp : (o : OpCode) (cond swapped : Bool) (b c : ExprContext) → Keeps z (emit_comp o cond swapped b c)
  unfolding emit_comp
  keeps_emit_comp o cond swapped b c = keeps_then (keeps_free_both b c) (λ _. keeps_then (keeps_emit _) (λ _. keeps_then keeps_emit_jump (λ list. keeps_return _)))

  pub keeps_code_and : (e₁ e₂ : ExprContext) → Keeps z (code_and e₁ e₂)
  unfolding code_and
  keeps_code_and e₁ e₂ = keeps_then (keeps_discharge_vars e₂) (λ e₃. keeps_then (keeps_concat e₃.f e₁.f) (λ f. keeps_return _))

  pub keeps_code_or : (e₁ e₂ : ExprContext) → Keeps z (code_or e₁ e₂)
  unfolding code_or
  keeps_code_or e₁ e₂ = keeps_then (keeps_discharge_vars e₂) (λ e₃. keeps_then (keeps_concat e₃.t e₁.t) (λ t. keeps_return _))
