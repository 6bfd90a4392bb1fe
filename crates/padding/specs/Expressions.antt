-- Expressions and argument lists keep the tails clean: part by part, by induction on the arguments left and on the nestings left.
-- What rests on something that a must-fail edit breaks stands in proofs/Expressions.antt.
use Prim.Native.Nat.{ℕ, ◌+◌, ◌-◌}
use Rattle.instructions.specs.Word.{set_a_of, set_b_of, set_c_of}
use Rattle.model.specs.declared.ExprKind.TheVariants.{Call}
use Rattle.model.specs.declared.ExprContext.{ExprContext}
use Rattle.model.specs.Descriptor.{is_kind}
use Rattle.model.specs.Expressions.{set_multret, above, emit_call, closed_call}
use Rattle.model.specs.Lowering.{Sizes}
use Rattle.padding.specs.Clean.{Keeps, keeps_return, keeps_get, keeps_then, keeps_if}
use Rattle.padding.specs.Emission.{keeps_free, keeps_change_word, keeps_emit_at, keeps_reserve_regs}

module _ {z : Sizes} where
  -- ---- calls

  pub keeps_set_multret : (e : ExprContext) → Keeps z (set_multret e)
  unfolding set_multret
  keeps_set_multret e = keeps_if (is_kind Call e) (keeps_change_word e.info (λ w. set_c_of w 0))
      (keeps_then keeps_get (λ s. keeps_then (keeps_change_word e.info (λ w. set_a_of (set_b_of w 0) s.free)) (λ _. keeps_reserve_regs 1)))

  pub keeps_emit_call : (func : ExprContext) (b line : ℕ) → Keeps z (emit_call func b line)
  unfolding emit_call
  keeps_emit_call func b line = keeps_then (keeps_emit_at _ line) (λ pc. keeps_then (keeps_free (above func.info)) (λ _. keeps_return _))

  pub keeps_closed_call : (func : ExprContext) (line : ℕ) → Keeps z (closed_call func line)
  unfolding closed_call
  keeps_closed_call func line = keeps_then keeps_get (λ s. keeps_emit_call func (s.free - above func.info + 1) line)
