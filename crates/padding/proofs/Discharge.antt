-- Discharging keeps the tails clean: it changes words in place, patches lists and emits. Part by part.
use Rattle.std.specs.Prelude.{ℕ, not, eqb, leb}
use mathlib.Core.List.{[]}
use Rattle.instructions.specs.Limits.{max_index_rk}
use Rattle.instructions.specs.Word.{set_a_of}
use Rattle.constants.specs.declared.Val.TheVariants as val
use Rattle.model.specs.declared.ExprKind.{ExprKind}
use Rattle.model.specs.declared.ExprKind.TheVariants.{Nil, True, False, K, KNum, Local, Global, Indexed, Jmp, Relocable, NonReloc, Call, VarArg}
use Rattle.model.specs.declared.ExprContext.{ExprContext}
use Rattle.model.specs.Descriptor.{has_jumps, is_kind}
use Rattle.model.specs.Steps.{Step}
use Rattle.model.specs.Discharge.{number_constant, load_kind, discharge2reg, discharge2anyreg, exp2reg, exp2nextreg, exp2anyreg, exp2val, small, near, rk_kind, exp2rk}
use Rattle.model.specs.Lowering.{Sizes}
use Rattle.padding.specs.Clean.{Keeps, keeps_return, keeps_get, keeps_then, keeps_if, keeps_when}
use Rattle.padding.specs.Emission.{keeps_change_word, keeps_emit, keeps_emit_nil, keeps_alloc_reg}
use Rattle.padding.proofs.Emission.{keeps_add_constant}
use Rattle.padding.specs.Discharge.{keeps_discharge_vars, keeps_free_expr, keeps_join_jump, keeps_move, keeps_settle}

module _ {z : Sizes} where
  keeps_number_constant : (e : ExprContext) → Keeps z (number_constant e)
  keeps_number_constant e = keeps_add_constant [] (val.Num e.nval e.bits)

  keeps_load_kind : (k : ExprKind) (e : ExprContext) (reg : ℕ) → Keeps z (load_kind k e reg)
  unfolding load_kind
  keeps_load_kind Nil e reg = keeps_then (keeps_emit_nil reg) (λ _. keeps_return _)
  keeps_load_kind True e reg = keeps_then (keeps_emit _) (λ _. keeps_return _)
  keeps_load_kind False e reg = keeps_then (keeps_emit _) (λ _. keeps_return _)
  keeps_load_kind K e reg = keeps_then (keeps_emit _) (λ _. keeps_return _)
  keeps_load_kind KNum e reg = keeps_then (keeps_number_constant e) (λ n. keeps_then (keeps_emit _) (λ _. keeps_return _))
  keeps_load_kind Local e reg = keeps_return _
  keeps_load_kind Global e reg = keeps_return _
  keeps_load_kind Indexed e reg = keeps_return _
  keeps_load_kind Jmp e reg = keeps_return _
  keeps_load_kind Relocable e reg = keeps_then (keeps_change_word e.info (λ w. set_a_of w reg)) (λ _. keeps_return _)
  keeps_load_kind NonReloc e reg = keeps_then (keeps_when (not (eqb reg e.info)) (keeps_move reg e.info)) (λ _. keeps_return _)
  keeps_load_kind Call e reg = keeps_return _
  keeps_load_kind VarArg e reg = keeps_return _

  pub keeps_discharge2reg : (e : ExprContext) (reg : ℕ) → Keeps z (discharge2reg e reg)
  unfolding discharge2reg
  keeps_discharge2reg e reg = keeps_then (keeps_discharge_vars e) (λ e₁. keeps_load_kind e₁.kind e₁ reg)

  pub keeps_discharge2anyreg : (e : ExprContext) → Keeps z (discharge2anyreg e)
  unfolding discharge2anyreg
  keeps_discharge2anyreg e = keeps_if (is_kind NonReloc e) (keeps_return e) (keeps_then keeps_alloc_reg (λ reg. keeps_discharge2reg e reg))

  pub keeps_exp2reg : (e : ExprContext) (reg : ℕ) → Keeps z (exp2reg e reg)
  unfolding exp2reg
  keeps_exp2reg e reg = keeps_then (keeps_discharge2reg e reg) (λ e₁. keeps_then (keeps_join_jump e₁) (λ e₂. keeps_then (keeps_when (has_jumps e₂) (keeps_settle e₂ reg)) (λ _. keeps_return _)))

  pub keeps_exp2nextreg : (e : ExprContext) → Keeps z (exp2nextreg e)
  unfolding exp2nextreg
  keeps_exp2nextreg e = keeps_then (keeps_discharge_vars e) (λ e₁. keeps_then (keeps_free_expr e₁) (λ _. keeps_then keeps_alloc_reg (λ reg. keeps_exp2reg e₁ reg)))

  pub keeps_exp2anyreg : (e : ExprContext) → Keeps z (exp2anyreg e)
  unfolding exp2anyreg
  keeps_exp2anyreg e = keeps_then (keeps_discharge_vars e) (λ e₁. keeps_then keeps_get (λ s.
      keeps_if (is_kind NonReloc e₁) (keeps_if (has_jumps e₁) (keeps_if (leb s.active e₁.info) (keeps_exp2reg e₁ e₁.info) (keeps_exp2nextreg e₁)) (keeps_return e₁)) (keeps_exp2nextreg e₁)))

  pub keeps_exp2val : (e : ExprContext) → Keeps z (exp2val e)
  unfolding exp2val
  keeps_exp2val e = keeps_if (has_jumps e) (keeps_exp2anyreg e) (keeps_discharge_vars e)

  keeps_small : (e : ExprContext) {constant : Step ℕ} → Keeps z constant → Keeps z (small e constant)
  unfolding small
  keeps_small e k = keeps_then keeps_get (λ s. keeps_if (leb s.table.count max_index_rk) (keeps_then k (λ k. keeps_return _)) (keeps_exp2anyreg e))

  keeps_near : (e : ExprContext) (k : ℕ) → Keeps z (near e k)
  unfolding near
  keeps_near e k = keeps_if (leb k max_index_rk) (keeps_return _) (keeps_exp2anyreg e)

  keeps_rk_kind : (k : ExprKind) (e : ExprContext) → Keeps z (rk_kind k e)
  unfolding rk_kind
  keeps_rk_kind Nil e = keeps_small e (keeps_add_constant [] _)
  keeps_rk_kind True e = keeps_small e (keeps_add_constant [] _)
  keeps_rk_kind False e = keeps_small e (keeps_add_constant [] _)
  keeps_rk_kind K e = keeps_near e e.info
  keeps_rk_kind KNum e = keeps_then (keeps_number_constant e) (λ k. keeps_near e k)
  keeps_rk_kind Local e = keeps_exp2anyreg e
  keeps_rk_kind Global e = keeps_exp2anyreg e
  keeps_rk_kind Indexed e = keeps_exp2anyreg e
  keeps_rk_kind Jmp e = keeps_exp2anyreg e
  keeps_rk_kind Relocable e = keeps_exp2anyreg e
  keeps_rk_kind NonReloc e = keeps_exp2anyreg e
  keeps_rk_kind Call e = keeps_exp2anyreg e
  keeps_rk_kind VarArg e = keeps_exp2anyreg e

  pub keeps_exp2rk : (e : ExprContext) → Keeps z (exp2rk e)
  unfolding exp2rk
  keeps_exp2rk e = keeps_then (keeps_exp2val e) (λ e₁. keeps_rk_kind e₁.kind e₁)
