-- Operators keep the tails clean, before and after their right operand: part by part.
use Rattle.std.specs.Prelude.{Bool, ◌&&◌}
use Rattle.std.proofs.Math.Bool.{true, false}
use Rattle.instructions.specs.Word.{set_b_of}
use Rattle.opcodes.specs.declared.OpCode.{OpCode}
use Rattle.opcodes.specs.declared.OpCode.TheVariants as op
use Rattle.folding.specs.declared.Arith.{Arith}
use Rattle.folding.specs.declared.Arith.TheVariants as arith
use Rattle.ast.specs.declared.BinOp.{BinOp}
use Rattle.ast.specs.declared.BinOp.TheVariants as bin
use Rattle.ast.specs.declared.UnOp.{UnOp}
use Rattle.ast.specs.declared.UnOp.TheVariants as un
use Rattle.model.specs.declared.ExprKind.TheVariants.{KNum, Relocable}
use Rattle.model.specs.declared.ExprContext.{ExprContext}
use Rattle.model.specs.Descriptor.{new_of, is_kind, is_numeral}
use Rattle.model.specs.Steps.{Step}
use Rattle.model.specs.Jumps.{word, is_op}
use Rattle.model.specs.Operators.{const_fold, emit_arith, code_arith, code_unary, code_concat, compare_operands, code_comp, operand, before_right, join_concat, after_right, code_unop}
use Rattle.model.specs.Lowering.{Sizes}
use Rattle.padding.specs.Clean.{Keeps, keeps_return, keeps_words, keeps_then, keeps_if}
use Rattle.padding.specs.Emission.{keeps_change_word, keeps_emit}
use Rattle.padding.specs.Discharge.{keeps_free_expr}
use Rattle.padding.proofs.Discharge.{keeps_exp2nextreg, keeps_exp2anyreg, keeps_exp2val, keeps_exp2rk}
use Rattle.padding.proofs.Conditions.{keeps_goiftrue, keeps_goiffalse, keeps_code_not}
use Rattle.padding.specs.Operators.{keeps_code_and, keeps_code_or, keeps_emit_comp, keeps_far_numeral, keeps_free_both, keeps_unless_folded}

module _ {z : Sizes} where
  keeps_emit_arith : (o : Arith) (e₁ e₂ : ExprContext) → Keeps z (emit_arith o e₁ e₂)
  unfolding emit_arith
  keeps_emit_arith o e₁ e₂ = keeps_then (keeps_exp2rk e₂) (λ c. keeps_then (keeps_exp2rk e₁) (λ b. keeps_then (keeps_free_both b c) (λ _. keeps_then (keeps_emit _) (λ pc. keeps_return _))))

  keeps_code_arith : (o : Arith) (e₁ e₂ : ExprContext) → Keeps z (code_arith o e₁ e₂)
  unfolding code_arith
  keeps_code_arith o e₁ e₂ = keeps_unless_folded (const_fold o e₁ e₂) e₁ (keeps_emit_arith o e₁ e₂)

  keeps_code_unary : (o : OpCode) (e : ExprContext) → Keeps z (code_unary o e)
  unfolding code_unary
  keeps_code_unary o e = keeps_then (keeps_exp2anyreg e) (λ e₁. keeps_then (keeps_free_expr e₁) (λ _. keeps_then (keeps_emit _) (λ pc. keeps_return _)))

  keeps_code_concat : (e₁ e₂ : ExprContext) → Keeps z (code_concat e₁ e₂)
  unfolding code_concat
  keeps_code_concat e₁ e₂ =
      keeps_then (keeps_exp2nextreg e₂) (λ c.
      keeps_then (keeps_exp2anyreg e₁) (λ b. keeps_then (keeps_free_expr c) (λ _. keeps_then (keeps_free_expr b) (λ _. keeps_then (keeps_emit _) (λ pc. keeps_return _)))))

  keeps_compare_operands : (far : Bool) (e₁ e₂ : ExprContext) {f : ExprContext → ExprContext → Step ExprContext} → ((b c : ExprContext) → Keeps z (f b c)) → Keeps z (compare_operands far e₁ e₂ f)
  unfolding compare_operands
  keeps_compare_operands true e₁ e₂ k = keeps_then (keeps_exp2rk e₂) (λ c. keeps_then (keeps_exp2rk e₁) (λ b. k b c))
  keeps_compare_operands false e₁ e₂ k = keeps_then (keeps_exp2rk e₁) (λ b. keeps_then (keeps_exp2rk e₂) (λ c. k b c))

  keeps_code_comp : (o : OpCode) (cond swapped : Bool) (e₁ e₂ : ExprContext) → Keeps z (code_comp o cond swapped e₁ e₂)
  unfolding code_comp
  keeps_code_comp o cond swapped e₁ e₂ = keeps_then (keeps_far_numeral e₁) (λ far. keeps_compare_operands far e₁ e₂ (keeps_emit_comp o cond swapped))

  -- ---- before and after the right operand

  keeps_operand : (e : ExprContext) → Keeps z (operand e)
  unfolding operand
  keeps_operand e = keeps_if (is_numeral e) (keeps_return e) (keeps_exp2rk e)

  pub keeps_before_right : (o : BinOp) (e : ExprContext) → Keeps z (before_right o e)
  unfolding before_right
  keeps_before_right bin.And e = keeps_goiftrue e
  keeps_before_right bin.Or e = keeps_goiffalse e
  keeps_before_right bin.Concat e = keeps_exp2nextreg e
  keeps_before_right bin.Add e = keeps_operand e
  keeps_before_right bin.Sub e = keeps_operand e
  keeps_before_right bin.Mul e = keeps_operand e
  keeps_before_right bin.Div e = keeps_operand e
  keeps_before_right bin.Mod e = keeps_operand e
  keeps_before_right bin.Pow e = keeps_operand e
  keeps_before_right bin.Lt e = keeps_operand e
  keeps_before_right bin.Le e = keeps_operand e
  keeps_before_right bin.Gt e = keeps_operand e
  keeps_before_right bin.Ge e = keeps_operand e
  keeps_before_right bin.Eq e = keeps_operand e
  keeps_before_right bin.Ne e = keeps_operand e

  keeps_join_concat : (e₁ e₂ : ExprContext) → Keeps z (join_concat e₁ e₂)
  unfolding join_concat
  keeps_join_concat e₁ e₂ = keeps_then (keeps_exp2val e₂) (λ e₃. keeps_then keeps_words (λ code.
      keeps_if (is_kind Relocable e₃ && is_op op.Concat (word code e₃.info))
      (keeps_then (keeps_free_expr e₁) (λ _. keeps_then (keeps_change_word e₃.info (λ w. set_b_of w e₁.info)) (λ _. keeps_return _)))
      (keeps_then (keeps_exp2nextreg e₃) (λ e₄. keeps_code_concat e₁ e₄))))

  pub keeps_after_right : (o : BinOp) (e₁ e₂ : ExprContext) → Keeps z (after_right o e₁ e₂)
  unfolding after_right
  keeps_after_right bin.And e₁ e₂ = keeps_code_and e₁ e₂
  keeps_after_right bin.Or e₁ e₂ = keeps_code_or e₁ e₂
  keeps_after_right bin.Concat e₁ e₂ = keeps_join_concat e₁ e₂
  keeps_after_right bin.Add e₁ e₂ = keeps_code_arith arith.Add e₁ e₂
  keeps_after_right bin.Sub e₁ e₂ = keeps_code_arith arith.Sub e₁ e₂
  keeps_after_right bin.Mul e₁ e₂ = keeps_code_arith arith.Mul e₁ e₂
  keeps_after_right bin.Div e₁ e₂ = keeps_code_arith arith.Div e₁ e₂
  keeps_after_right bin.Mod e₁ e₂ = keeps_code_arith arith.Mod e₁ e₂
  keeps_after_right bin.Pow e₁ e₂ = keeps_code_arith arith.Pow e₁ e₂
  keeps_after_right bin.Eq e₁ e₂ = keeps_code_comp op.Eq true false e₁ e₂
  keeps_after_right bin.Ne e₁ e₂ = keeps_code_comp op.Eq false false e₁ e₂
  keeps_after_right bin.Lt e₁ e₂ = keeps_code_comp op.Lt true false e₁ e₂
  keeps_after_right bin.Le e₁ e₂ = keeps_code_comp op.Le true false e₁ e₂
  keeps_after_right bin.Gt e₁ e₂ = keeps_code_comp op.Lt true true e₁ e₂
  keeps_after_right bin.Ge e₁ e₂ = keeps_code_comp op.Le true true e₁ e₂

  pub keeps_code_unop : (o : UnOp) (e : ExprContext) → Keeps z (code_unop o e)
  unfolding code_unop
  keeps_code_unop un.Neg e = keeps_unless_folded (const_fold arith.Unm e (new_of KNum 0)) e (keeps_code_unary op.Unm e)
  keeps_code_unop un.Not e = keeps_code_not e
  keeps_code_unop un.Len e = keeps_code_unary op.Len e
