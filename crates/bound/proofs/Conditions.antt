-- What conditional jumps and `not` take: a test and its jump behind the value; a `Not` behind it, or a truth value, which may become a constant. `pop` takes a word back, which isn't counted.
use Rattle.std.specs.Prelude.{ℕ, ◌+◌, ◌*◌, Bool}
use Rattle.std.proofs.Math.Bool.{true, false}
use Rattle.std.proofs.Math.Path.{refl}
use Rattle.std.proofs.Common.{arith}
use Rattle.model.specs.declared.ExprKind.{ExprKind}
use Rattle.model.specs.declared.ExprKind.TheVariants.{Nil, True, False, K, KNum, Local, Global, Indexed, Jmp, Relocable, NonReloc, Call, VarArg}
use Rattle.model.specs.declared.ExprContext.{ExprContext}
use Rattle.model.specs.Descriptor.{with_jumps}
use Rattle.model.specs.Conditions.{is_not, jumponcond, jump_if_false, jump_if_true, goiftrue, goiffalse, emit_not, negate, code_not}
use Rattle.bound.specs.Takes.{Resource, per_word, per_constant, Spends, Takes, Any, at_most, spends_then, takes_then, nothing_then, then_nothing, spends_return, takes_return, takes_code_now, spends_if}
use Rattle.bound.specs.Emission.{takes_emit, takes_concat, takes_remove, takes_emit_jump, takes_patch_to_here}
use Rattle.bound.specs.Discharge.{owes, value, spends_open, dv_then, takes_free_expr}
use Rattle.bound.proofs.Discharge.{takes_discharge2anyreg}
use Rattle.bound.specs.Conditions.{spends_kept, spends_truth, takes_invertjump, takes_none, takes_pop}

module _ {R : Resource} {cap : ℕ} where
  takes_jumponcond : (e : ExprContext) (cond : Bool) → Takes R cap (value R e + 2 * per_word R) (jumponcond e cond)
  unfolding jumponcond
  takes_jumponcond e cond = nothing_then takes_code_now (λ code.
      spends_if (is_not code e) (λ _. at_most (nothing_then takes_pop (λ _. takes_then (takes_emit _) (λ _. takes_emit_jump))) (omega arith))
      (λ _. at_most (takes_then (takes_discharge2anyreg e) (λ e₁. nothing_then (takes_free_expr e₁) (λ _. takes_then (takes_emit _) (λ _. takes_emit_jump)))) (omega arith)))

  takes_jump_if_false : (k : ExprKind) (e : ExprContext) → Takes R cap (value R e + 2 * per_word R) (jump_if_false k e)
  unfolding jump_if_false
  takes_jump_if_false Nil e = takes_jumponcond e false
  takes_jump_if_false True e = takes_none 0
  takes_jump_if_false False e = at_most takes_emit_jump (omega arith)
  takes_jump_if_false K e = takes_none 0
  takes_jump_if_false KNum e = takes_none 0
  takes_jump_if_false Local e = takes_jumponcond e false
  takes_jump_if_false Global e = takes_jumponcond e false
  takes_jump_if_false Indexed e = takes_jumponcond e false
  takes_jump_if_false Jmp e = at_most (nothing_then (takes_invertjump e) (λ _. takes_return _)) (omega arith)
  takes_jump_if_false Relocable e = takes_jumponcond e false
  takes_jump_if_false NonReloc e = takes_jumponcond e false
  takes_jump_if_false Call e = takes_jumponcond e false
  takes_jump_if_false VarArg e = takes_jumponcond e false

  takes_jump_if_true : (k : ExprKind) (e : ExprContext) → Takes R cap (value R e + 2 * per_word R) (jump_if_true k e)
  unfolding jump_if_true
  takes_jump_if_true Nil e = takes_none 0
  takes_jump_if_true True e = at_most takes_emit_jump (omega arith)
  takes_jump_if_true False e = takes_none 0
  takes_jump_if_true K e = takes_jumponcond e true
  takes_jump_if_true KNum e = takes_jumponcond e true
  takes_jump_if_true Local e = takes_jumponcond e true
  takes_jump_if_true Global e = takes_jumponcond e true
  takes_jump_if_true Indexed e = takes_jumponcond e true
  takes_jump_if_true Jmp e = takes_none _
  takes_jump_if_true Relocable e = takes_jumponcond e true
  takes_jump_if_true NonReloc e = takes_jumponcond e true
  takes_jump_if_true Call e = takes_jumponcond e true
  takes_jump_if_true VarArg e = takes_jumponcond e true

  pub takes_goiftrue : (e : ExprContext) → Takes R cap (value R e + 2 * per_word R) (goiftrue e)
  unfolding goiftrue
  takes_goiftrue e = dv_then e (2 * per_word R) (λ e₁ h. then_nothing (takes_jump_if_false e₁.kind e₁) (λ list. nothing_then (takes_concat e₁.f list) (λ f. nothing_then (takes_patch_to_here e₁.t) (λ _. takes_return _))))

  pub takes_goiffalse : (e : ExprContext) → Takes R cap (value R e + 2 * per_word R) (goiffalse e)
  unfolding goiffalse
  takes_goiffalse e = dv_then e (2 * per_word R) (λ e₁ h. then_nothing (takes_jump_if_true e₁.kind e₁) (λ list. nothing_then (takes_concat e₁.t list) (λ t. nothing_then (takes_patch_to_here e₁.f) (λ _. takes_return _))))

  spends_emit_not : (e : ExprContext) → Spends R cap (value R e + per_word R) (emit_not e) (owes R) Any
  unfolding emit_not
  spends_emit_not e = at_most (takes_then (takes_discharge2anyreg e) (λ e₁. nothing_then (takes_free_expr e₁) (λ _. takes_then (takes_emit _) (λ pc. spends_open {c = 0} e₁)))) (omega arith)

  spends_negate : (k : ExprKind) (e : ExprContext) → Spends R cap (value R e + per_word R + per_constant R) (negate k e) (owes R) Any
  unfolding negate
  spends_negate Nil e = spends_truth True e refl
  spends_negate True e = spends_truth False e refl
  spends_negate False e = spends_truth True e refl
  spends_negate K e = spends_truth False e refl
  spends_negate KNum e = spends_truth False e refl
  spends_negate Local e = spends_kept e (omega arith)
  spends_negate Global e = spends_kept e (omega arith)
  spends_negate Indexed e = spends_kept e (omega arith)
  spends_negate Jmp e = nothing_then (takes_invertjump e) (λ _. spends_kept e (omega arith))
  spends_negate Relocable e = at_most (spends_emit_not e) (omega arith)
  spends_negate NonReloc e = at_most (spends_emit_not e) (omega arith)
  spends_negate Call e = spends_kept e (omega arith)
  spends_negate VarArg e = spends_kept e (omega arith)

  pub spends_code_not : (e : ExprContext) → Spends R cap (value R e + per_word R + per_constant R) (code_not e) (owes R) Any
  unfolding code_not
  spends_code_not e = at_most (dv_then e (per_word R + per_constant R) (λ e₁ h. at_most (spends_then 0 (spends_negate e₁.kind e₁) (λ e₂ _. at_most (nothing_then (takes_remove e₂.t) (λ _. nothing_then (takes_remove e₂.f) (λ _. spends_return (with_jumps e₂.f e₂.t e₂) tt))) (omega arith))) (omega arith))) (omega arith)
