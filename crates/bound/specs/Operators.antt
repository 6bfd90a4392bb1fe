-- What operators take: at most 4 words before the right operand and 8 behind it, and what the operands owe of constants; unary ones 5 words and one constant more. An operand that was brought before costs one word, which is why arithmetic and comparisons may bring it again.
-- What rests on something that a must-fail edit breaks stands in proofs/Operators.antt.
use Rattle.folding.specs.Numeral.{Fold}
use Rattle.std.specs.Prelude.{ℕ, ◌+◌, ◌*◌, ◌≤◌, Bool, ◌&&◌, ◌≡◌, eqb, ltb, Some, None}
use Rattle.std.proofs.Math.Bool.{true}
use Rattle.std.proofs.Math.Path.{refl}
use Rattle.std.proofs.Common.{arith, eqb-true}
use Rattle.laws.specs.Truth.{and_true}
use Rattle.opcodes.specs.declared.OpCode.{OpCode}
use Rattle.ast.specs.declared.BinOp.{BinOp}
use Rattle.ast.specs.declared.BinOp.TheVariants as bin
use Rattle.model.specs.declared.ExprKind.TheVariants.{KNum}
use Rattle.model.specs.declared.ExprContext.{ExprContext}
use Rattle.model.specs.Descriptor.{with_jumps, tag_of, is_kind, is_numeral}
use Rattle.model.specs.Steps.{Step}
use Rattle.model.specs.Discharge.{discharge_vars, rk}
use Rattle.model.specs.Operators.{unless_folded, free_in_turn, free_both, far_numeral, emit_comp, code_and, code_or}
use Rattle.bound.specs.Takes.{Resource, per_word, left, Spends, Takes, Any, at_most, spends_less, spends_then, takes_then, nothing_then, spends_return, spends_if}
use Rattle.bound.specs.Emission.{takes_emit, takes_concat, takes_emit_jump}
use Rattle.bound.specs.Discharge.{load_most, owes, Light, light, spends_discharge_vars, takes_free_expr}

-- one word brings a numeral, and its constant
pub numeral_light : (R : Resource) (e : ExprContext) → is_numeral e ≡ true → Light R e
numeral_light R e h =
    let a = and_true (is_kind KNum e) (eqb e.t 0 && eqb e.f 0) h in
    let b = and_true (eqb e.t 0) (eqb e.f 0) a.1 in
    light R e (rw (eqb-true e.t 0 b.0, eqb-true e.f 0 b.1) refl) (rw (eqb-true (tag_of e.kind) 4 a.0) refl)

-- what the left operand is, and owes, before the right one is lowered; `and` and `or` only keep its jumps
abbrev pub Ready : Resource → BinOp → ExprContext → Type 0
Ready R bin.And e = Unit {0}
Ready R bin.Or e = Unit {0}
Ready R bin.Concat e = Light R e
Ready R bin.Add e = Light R e
Ready R bin.Sub e = Light R e
Ready R bin.Mul e = Light R e
Ready R bin.Div e = Light R e
Ready R bin.Mod e = Light R e
Ready R bin.Pow e = Light R e
Ready R bin.Lt e = Light R e
Ready R bin.Le e = Light R e
Ready R bin.Gt e = Light R e
Ready R bin.Ge e = Light R e
Ready R bin.Eq e = Light R e
Ready R bin.Ne e = Light R e

abbrev pub left_owes : Resource → BinOp → ExprContext → ℕ
left_owes R bin.And e = 0
left_owes R bin.Or e = 0
left_owes R bin.Concat e = owes R e
left_owes R bin.Add e = owes R e
left_owes R bin.Sub e = owes R e
left_owes R bin.Mul e = owes R e
left_owes R bin.Div e = owes R e
left_owes R bin.Mod e = owes R e
left_owes R bin.Pow e = owes R e
left_owes R bin.Lt e = owes R e
left_owes R bin.Le e = owes R e
left_owes R bin.Gt e = owes R e
left_owes R bin.Ge e = owes R e
left_owes R bin.Eq e = owes R e
left_owes R bin.Ne e = owes R e

module _ {R : Resource} {cap : ℕ} where
  -- ---- arithmetic

  pub spends_unless_folded : {c : ℕ} (f : Fold) (e : ExprContext) {x : Step ExprContext} → owes R e ≤ c → Spends R cap c x (owes R) Any → Spends R cap c (unless_folded f e x) (owes R) Any
  spends_unless_folded (Some n) e h g = at_most (spends_return _ tt) h
  spends_unless_folded None e h g = g

  takes_free_in_turn : (a b : ExprContext) → Takes R cap 0 (free_in_turn a b)
  unfolding free_in_turn
  takes_free_in_turn a b = nothing_then (takes_free_expr a) (λ _. takes_free_expr b)

  pub takes_free_both : (e₁ e₂ : ExprContext) → Takes R cap 0 (free_both e₁ e₂)
  unfolding free_both
  takes_free_both e₁ e₂ = spends_if (ltb (rk e₂) (rk e₁)) (λ _. takes_free_in_turn e₁ e₂) (λ _. takes_free_in_turn e₂ e₁)

  -- ---- comparisons

  pub takes_far_numeral : (e : ExprContext) → Takes R cap 0 (far_numeral e)
  unfolding far_numeral
  takes_far_numeral e s m l = left _ s m tt (omega arith) refl refl l

  pub spends_emit_comp : (o : OpCode) (cond swapped : Bool) (b c : ExprContext) → Spends R cap (2 * per_word R) (emit_comp o cond swapped b c) (owes R) Any
  unfolding emit_comp
  spends_emit_comp o cond swapped b c = at_most (nothing_then (takes_free_both b c) (λ _. takes_then (takes_emit _) (λ _. takes_then takes_emit_jump (λ list. at_most {d = 0} (spends_return _ tt) (omega arith))))) (omega arith)

  -- the right value of `and` and `or`, discharged
  spends_joined : (e : ExprContext) → Spends R cap (owes R e + 8 * per_word R) (discharge_vars e) (owes R) Any
  spends_joined e = at_most (spends_less (spends_discharge_vars e) (λ e₁ h. (omega arith, tt))) (omega (arith, load_most R e.kind))

  pub spends_code_and : (e₁ e₂ : ExprContext) → Spends R cap (owes R e₂ + 8 * per_word R) (code_and e₁ e₂) (owes R) Any
  unfolding code_and
  spends_code_and e₁ e₂ = at_most (spends_then 0 (spends_joined e₂) (λ e₃ _. at_most (nothing_then (takes_concat e₃.f e₁.f) (λ f. spends_return (with_jumps e₃.t f e₃) tt)) (omega arith))) (omega arith)

  pub spends_code_or : (e₁ e₂ : ExprContext) → Spends R cap (owes R e₂ + 8 * per_word R) (code_or e₁ e₂) (owes R) Any
  unfolding code_or
  spends_code_or e₁ e₂ = at_most (spends_then 0 (spends_joined e₂) (λ e₃ _. at_most (nothing_then (takes_concat e₃.t e₁.t) (λ t. spends_return (with_jumps t e₃.f e₃) tt)) (omega arith))) (omega arith)
