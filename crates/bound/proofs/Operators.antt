-- What operators take: at most 4 words before the right operand and 8 behind it, and what the operands owe of constants; unary ones 5 words and one constant more. An operand that was brought before costs one word, which is why arithmetic and comparisons may bring it again.
use Rattle.std.specs.Prelude.{ℕ, ◌+◌, ◌*◌, Bool, ◌&&◌}
use Rattle.std.proofs.Math.Bool.{true, false}
use Rattle.std.proofs.Common.{arith}
use Rattle.instructions.specs.Word.{set_b_of}
use Rattle.opcodes.specs.declared.OpCode.{OpCode}
use Rattle.opcodes.specs.declared.OpCode.TheVariants as op
use Rattle.folding.specs.declared.Arith.{Arith}
use Rattle.folding.specs.declared.Arith.TheVariants as arithmetic
use Rattle.ast.specs.declared.BinOp.{BinOp}
use Rattle.ast.specs.declared.BinOp.TheVariants as bin
use Rattle.ast.specs.declared.UnOp.{UnOp}
use Rattle.ast.specs.declared.UnOp.TheVariants as un
use Rattle.model.specs.declared.ExprKind.TheVariants.{KNum, Relocable}
use Rattle.model.specs.declared.ExprContext.{ExprContext}
use Rattle.model.specs.Descriptor.{new_of, is_kind, is_numeral}
use Rattle.model.specs.Steps.{Step}
use Rattle.model.specs.Jumps.{word, is_op}
use Rattle.model.specs.Discharge.{exp2rk}
use Rattle.model.specs.Operators.{const_fold, emit_arith, code_arith, code_unary, code_concat, compare_operands, code_comp, operand, before_right, join_concat, after_right, code_unop}
use Rattle.bound.specs.Takes.{Resource, per_word, per_constant, Spends, Takes, Any, at_most, spends_less, takes, gives_then, takes_then, nothing_then, spends_return, takes_code_now, spends_if}
use Rattle.bound.specs.Emission.{takes_change_word, takes_emit}
use Rattle.bound.specs.Discharge.{load_most, owes, brings, brings_most, Light, bare_light, spends_open, takes_free_expr}
use Rattle.bound.proofs.Discharge.{gives_exp2nextreg, gives_exp2anyreg}
use Rattle.bound.proofs.Operands.{spends_exp2rk, val_then}
use Rattle.bound.proofs.Conditions.{takes_goiftrue, takes_goiffalse, spends_code_not}
use Rattle.bound.specs.Operators.{Ready, left_owes, numeral_light, spends_code_and, spends_code_or, spends_emit_comp, spends_unless_folded, takes_far_numeral, takes_free_both}

module _ {R : Resource} {cap : ℕ} where
  takes_exp2rk : (e : ExprContext) → Takes R cap (brings R e) (exp2rk e)
  takes_exp2rk e = takes (spends_exp2rk e)

  spends_emit_arith : (o : Arith) (e₁ e₂ : ExprContext) → Spends R cap (brings R e₁ + brings R e₂ + per_word R) (emit_arith o e₁ e₂) (owes R) Any
  unfolding emit_arith
  spends_emit_arith o e₁ e₂ = at_most (takes_then (takes_exp2rk e₂) (λ c. takes_then (takes_exp2rk e₁) (λ b. nothing_then (takes_free_both b c) (λ _. takes_then (takes_emit _) (λ pc. spends_open {c = 0} b))))) (omega arith)

  spends_code_arith : (o : Arith) (e₁ e₂ : ExprContext) → Light R e₁ → Spends R cap (owes R e₁ + owes R e₂ + 8 * per_word R) (code_arith o e₁ e₂) (owes R) Any
  unfolding code_arith
  spends_code_arith o e₁ e₂ l = spends_unless_folded (const_fold o e₁ e₂) e₁ (omega arith) (at_most (spends_emit_arith o e₁ e₂) (omega (arith, brings_most R e₂, l)))

  spends_code_unary : (o : OpCode) (e : ExprContext) → Spends R cap (owes R e + 5 * per_word R) (code_unary o e) (owes R) Any
  unfolding code_unary
  spends_code_unary o e = at_most (takes_then (takes (gives_exp2anyreg e)) (λ e₁. nothing_then (takes_free_expr e₁) (λ _. takes_then (takes_emit _) (λ pc. spends_open {c = 0} e₁)))) (omega (arith, brings_most R e))

  spends_code_concat : (e₁ e₂ : ExprContext) → Spends R cap (brings R e₁ + brings R e₂ + per_word R) (code_concat e₁ e₂) (owes R) Any
  unfolding code_concat
  spends_code_concat e₁ e₂ =
      at_most (takes_then (takes (gives_exp2nextreg e₂)) (λ c.
      takes_then (takes (gives_exp2anyreg e₁)) (λ b. nothing_then (takes_free_expr c) (λ _. nothing_then (takes_free_expr b) (λ _. takes_then (takes_emit _) (λ pc. spends_open {c = 0} b)))))) (omega arith)

  spends_compare_operands : (far : Bool) (e₁ e₂ : ExprContext) {c : ℕ} {f : ExprContext → ExprContext → Step ExprContext} → ((a b : ExprContext) → Spends R cap c (f a b) (owes R) Any) → Spends R cap (brings R e₁ + brings R e₂ + c) (compare_operands far e₁ e₂ f) (owes R) Any
  unfolding compare_operands
  spends_compare_operands true e₁ e₂ g = at_most (takes_then (takes_exp2rk e₂) (λ b. takes_then (takes_exp2rk e₁) (λ a. g a b))) (omega arith)
  spends_compare_operands false e₁ e₂ g = at_most (takes_then (takes_exp2rk e₁) (λ a. takes_then (takes_exp2rk e₂) (λ b. g a b))) (omega arith)

  spends_code_comp : (o : OpCode) (cond swapped : Bool) (e₁ e₂ : ExprContext) → Light R e₁ → Spends R cap (owes R e₁ + owes R e₂ + 8 * per_word R) (code_comp o cond swapped e₁ e₂) (owes R) Any
  unfolding code_comp
  spends_code_comp o cond swapped e₁ e₂ l = at_most (nothing_then (takes_far_numeral e₁) (λ far. spends_compare_operands far e₁ e₂ (spends_emit_comp o cond swapped))) (omega (arith, brings_most R e₂, l))

  -- ---- before and after the right operand

  spends_operand : (e : ExprContext) → Spends R cap (owes R e + 4 * per_word R) (operand e) (owes R) (Light R)
  unfolding operand
  spends_operand e = spends_if (is_numeral e) (λ h. at_most (spends_return e (numeral_light R e h)) (omega arith)) (λ _. at_most (spends_exp2rk e) (omega (arith, brings_most R e)))

  pub spends_before_right : (o : BinOp) (e : ExprContext) → Spends R cap (owes R e + 4 * per_word R) (before_right o e) (left_owes R o) (Ready R o)
  unfolding before_right
  spends_before_right bin.And e = at_most (takes_goiftrue e) (omega (arith, load_most R e.kind))
  spends_before_right bin.Or e = at_most (takes_goiffalse e) (omega (arith, load_most R e.kind))
  spends_before_right bin.Concat e = at_most (spends_less (gives_exp2nextreg e) (bare_light R)) (omega (arith, brings_most R e))
  spends_before_right bin.Add e = spends_operand e
  spends_before_right bin.Sub e = spends_operand e
  spends_before_right bin.Mul e = spends_operand e
  spends_before_right bin.Div e = spends_operand e
  spends_before_right bin.Mod e = spends_operand e
  spends_before_right bin.Pow e = spends_operand e
  spends_before_right bin.Lt e = spends_operand e
  spends_before_right bin.Le e = spends_operand e
  spends_before_right bin.Gt e = spends_operand e
  spends_before_right bin.Ge e = spends_operand e
  spends_before_right bin.Eq e = spends_operand e
  spends_before_right bin.Ne e = spends_operand e

  spends_join_concat : (e₁ e₂ : ExprContext) → Light R e₁ → Spends R cap (owes R e₁ + owes R e₂ + 8 * per_word R) (join_concat e₁ e₂) (owes R) Any
  unfolding join_concat
  spends_join_concat e₁ e₂ l = at_most (val_then e₂ (3 * per_word R + owes R e₁) (λ e₃. nothing_then takes_code_now (λ code.
      spends_if {c = brings R e₃ + (3 * per_word R + owes R e₁)} (is_kind Relocable e₃ && is_op op.Concat (word code e₃.info))
      (λ _. nothing_then (takes_free_expr e₁) (λ _. nothing_then (takes_change_word e₃.info (λ w. set_b_of w e₁.info)) (λ _. spends_open e₁)))
      (λ _. gives_then (gives_exp2nextreg e₃) (λ e₄ b. at_most {d = 3 * per_word R + owes R e₁} (spends_code_concat e₁ e₄) (omega (arith, (bare_light R e₄ b).0, (bare_light R e₄ b).1, l))))))) (omega (arith, brings_most R e₂))

  pub spends_after_right : (o : BinOp) (e₁ e₂ : ExprContext) → Ready R o e₁ → Spends R cap (left_owes R o e₁ + owes R e₂ + 8 * per_word R) (after_right o e₁ e₂) (owes R) Any
  unfolding after_right
  spends_after_right bin.And e₁ e₂ l = at_most (spends_code_and e₁ e₂) (omega arith)
  spends_after_right bin.Or e₁ e₂ l = at_most (spends_code_or e₁ e₂) (omega arith)
  spends_after_right bin.Concat e₁ e₂ l = spends_join_concat e₁ e₂ l
  spends_after_right bin.Add e₁ e₂ l = spends_code_arith arithmetic.Add e₁ e₂ l
  spends_after_right bin.Sub e₁ e₂ l = spends_code_arith arithmetic.Sub e₁ e₂ l
  spends_after_right bin.Mul e₁ e₂ l = spends_code_arith arithmetic.Mul e₁ e₂ l
  spends_after_right bin.Div e₁ e₂ l = spends_code_arith arithmetic.Div e₁ e₂ l
  spends_after_right bin.Mod e₁ e₂ l = spends_code_arith arithmetic.Mod e₁ e₂ l
  spends_after_right bin.Pow e₁ e₂ l = spends_code_arith arithmetic.Pow e₁ e₂ l
  spends_after_right bin.Eq e₁ e₂ l = spends_code_comp op.Eq true false e₁ e₂ l
  spends_after_right bin.Ne e₁ e₂ l = spends_code_comp op.Eq false false e₁ e₂ l
  spends_after_right bin.Lt e₁ e₂ l = spends_code_comp op.Lt true false e₁ e₂ l
  spends_after_right bin.Le e₁ e₂ l = spends_code_comp op.Le true false e₁ e₂ l
  spends_after_right bin.Gt e₁ e₂ l = spends_code_comp op.Lt true true e₁ e₂ l
  spends_after_right bin.Ge e₁ e₂ l = spends_code_comp op.Le true true e₁ e₂ l

  pub spends_code_unop : (o : UnOp) (e : ExprContext) → Spends R cap (owes R e + per_constant R + 5 * per_word R) (code_unop o e) (owes R) Any
  unfolding code_unop
  spends_code_unop un.Neg e = spends_unless_folded (const_fold arithmetic.Unm e (new_of KNum 0)) e (omega arith) (at_most (spends_code_unary op.Unm e) (omega arith))
  spends_code_unop un.Not e = at_most (spends_code_not e) (omega (arith, load_most R e.kind))
  spends_code_unop un.Len e = at_most (spends_code_unary op.Len e) (omega arith)
