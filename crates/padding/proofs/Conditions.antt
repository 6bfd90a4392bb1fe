-- Conditional jumps and `not` keep the tails clean: `pop` takes the last word back with its line, which is zero again; the rest part by part.
use Rattle.std.specs.Prelude.{Bool}
use Rattle.std.proofs.Math.Bool.{true, false}
use Rattle.model.specs.declared.ExprKind.{ExprKind}
use Rattle.model.specs.declared.ExprKind.TheVariants.{Nil, True, False, K, KNum, Local, Global, Indexed, Jmp, Relocable, NonReloc, Call, VarArg}
use Rattle.model.specs.declared.ExprContext.{ExprContext}
use Rattle.model.specs.Conditions.{is_not, jumponcond, jump_if_false, jump_if_true, goiftrue, goiffalse, emit_not, negate, code_not}
use Rattle.model.specs.Lowering.{Sizes}
use Rattle.padding.specs.Clean.{Keeps, keeps_return, keeps_words, keeps_then, keeps_if}
use Rattle.padding.specs.Emission.{keeps_emit, keeps_concat, keeps_remove, keeps_emit_jump, keeps_patch_to_here}
use Rattle.padding.specs.Discharge.{keeps_discharge_vars, keeps_free_expr}
use Rattle.padding.proofs.Discharge.{keeps_discharge2anyreg}
use Rattle.padding.specs.Conditions.{keeps_invertjump, keeps_pop}

module _ {z : Sizes} where
  keeps_jumponcond : (e : ExprContext) (cond : Bool) → Keeps z (jumponcond e cond)
  unfolding jumponcond
  keeps_jumponcond e cond = keeps_then keeps_words (λ code.
      keeps_if (is_not code e) (keeps_then keeps_pop (λ _. keeps_then (keeps_emit _) (λ _. keeps_emit_jump)))
      (keeps_then (keeps_discharge2anyreg e) (λ e₁. keeps_then (keeps_free_expr e₁) (λ _. keeps_then (keeps_emit _) (λ _. keeps_emit_jump)))))

  keeps_jump_if_false : (k : ExprKind) (e : ExprContext) → Keeps z (jump_if_false k e)
  unfolding jump_if_false
  keeps_jump_if_false Nil e = keeps_jumponcond e false
  keeps_jump_if_false True e = keeps_return 0
  keeps_jump_if_false False e = keeps_emit_jump
  keeps_jump_if_false K e = keeps_return 0
  keeps_jump_if_false KNum e = keeps_return 0
  keeps_jump_if_false Local e = keeps_jumponcond e false
  keeps_jump_if_false Global e = keeps_jumponcond e false
  keeps_jump_if_false Indexed e = keeps_jumponcond e false
  keeps_jump_if_false Jmp e = keeps_then (keeps_invertjump e) (λ _. keeps_return _)
  keeps_jump_if_false Relocable e = keeps_jumponcond e false
  keeps_jump_if_false NonReloc e = keeps_jumponcond e false
  keeps_jump_if_false Call e = keeps_jumponcond e false
  keeps_jump_if_false VarArg e = keeps_jumponcond e false

  keeps_jump_if_true : (k : ExprKind) (e : ExprContext) → Keeps z (jump_if_true k e)
  unfolding jump_if_true
  keeps_jump_if_true Nil e = keeps_return 0
  keeps_jump_if_true True e = keeps_emit_jump
  keeps_jump_if_true False e = keeps_return 0
  keeps_jump_if_true K e = keeps_jumponcond e true
  keeps_jump_if_true KNum e = keeps_jumponcond e true
  keeps_jump_if_true Local e = keeps_jumponcond e true
  keeps_jump_if_true Global e = keeps_jumponcond e true
  keeps_jump_if_true Indexed e = keeps_jumponcond e true
  keeps_jump_if_true Jmp e = keeps_return _
  keeps_jump_if_true Relocable e = keeps_jumponcond e true
  keeps_jump_if_true NonReloc e = keeps_jumponcond e true
  keeps_jump_if_true Call e = keeps_jumponcond e true
  keeps_jump_if_true VarArg e = keeps_jumponcond e true

  pub keeps_goiftrue : (e : ExprContext) → Keeps z (goiftrue e)
  unfolding goiftrue
  keeps_goiftrue e = keeps_then (keeps_discharge_vars e) (λ e₁. keeps_then (keeps_jump_if_false e₁.kind e₁) (λ list. keeps_then (keeps_concat e₁.f list) (λ f. keeps_then (keeps_patch_to_here e₁.t) (λ _. keeps_return _))))

  pub keeps_goiffalse : (e : ExprContext) → Keeps z (goiffalse e)
  unfolding goiffalse
  keeps_goiffalse e = keeps_then (keeps_discharge_vars e) (λ e₁. keeps_then (keeps_jump_if_true e₁.kind e₁) (λ list. keeps_then (keeps_concat e₁.t list) (λ t. keeps_then (keeps_patch_to_here e₁.f) (λ _. keeps_return _))))

  keeps_emit_not : (e : ExprContext) → Keeps z (emit_not e)
  unfolding emit_not
  keeps_emit_not e = keeps_then (keeps_discharge2anyreg e) (λ e₁. keeps_then (keeps_free_expr e₁) (λ _. keeps_then (keeps_emit _) (λ pc. keeps_return _)))

  keeps_negate : (k : ExprKind) (e : ExprContext) → Keeps z (negate k e)
  unfolding negate
  keeps_negate Nil e = keeps_return _
  keeps_negate True e = keeps_return _
  keeps_negate False e = keeps_return _
  keeps_negate K e = keeps_return _
  keeps_negate KNum e = keeps_return _
  keeps_negate Local e = keeps_return _
  keeps_negate Global e = keeps_return _
  keeps_negate Indexed e = keeps_return _
  keeps_negate Jmp e = keeps_then (keeps_invertjump e) (λ _. keeps_return e)
  keeps_negate Relocable e = keeps_emit_not e
  keeps_negate NonReloc e = keeps_emit_not e
  keeps_negate Call e = keeps_return _
  keeps_negate VarArg e = keeps_return _

  pub keeps_code_not : (e : ExprContext) → Keeps z (code_not e)
  unfolding code_not
  keeps_code_not e = keeps_then (keeps_discharge_vars e) (λ e₁. keeps_then (keeps_negate e₁.kind e₁) (λ e₂. keeps_then (keeps_remove e₂.t) (λ _. keeps_then (keeps_remove e₂.f) (λ _. keeps_return _))))
