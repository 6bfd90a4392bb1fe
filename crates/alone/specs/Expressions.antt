-- Calls and names: a call or vararg that gives all its values changes the code alone, a call is lent code and lines, and a string's constant and a name the table. Assumes nothing.
use Rattle.std.specs.Prelude.{ℕ, ◌+◌, ◌-◌, List}
use Rattle.std.proofs.Math.Option.{Option, some, none}
use Rattle.instructions.specs.Word.{set_a_of, set_b_of, set_c_of}
use Rattle.cursor.specs.declared.Text.{Text}
use Rattle.chunk.specs.declared.header.Header.{Header}
use Rattle.model.specs.declared.ExprKind.TheVariants.{Call}
use Rattle.model.specs.declared.ExprContext.{ExprContext}
use Rattle.model.specs.Descriptor.{is_kind}
use Rattle.model.specs.Emission.{with_free}
use Rattle.model.specs.Expressions.{set_multret, above, emit_call, closed_call, string_constant, resolved, register_named, resolve_var}
use Rattle.alone.specs.Alone.{code_alone, words, table, Alone, alone_return, alone_get, alone_change, alone_then, alone_if, alone_none}
use Rattle.alone.specs.Emission.{alone_emit_at, alone_reserve_regs, alone_add_constant}
use Rattle.alone.specs.Discharge.{alone_change_word}

-- ---- calls

pub alone_set_multret : (e : ExprContext) → Alone code_alone (set_multret e)
unfolding set_multret
alone_set_multret e = alone_if (is_kind Call e) _ _ (alone_change_word e.info (λ w. set_c_of w 0))
    (alone_then _ _ (alone_get _) (λ s. alone_then _ _ (alone_change_word e.info (λ w. set_a_of (set_b_of w 0) s.free)) (λ _. alone_none _ (alone_reserve_regs 1))))

pub alone_emit_call : (func : ExprContext) (b line : ℕ) → Alone words (emit_call func b line)
unfolding emit_call
alone_emit_call func b line = alone_then _ _ (alone_emit_at _ line) (λ pc. alone_then _ _ (alone_change _ (with_free (above func.info))) (λ _. alone_return _ _))

pub alone_closed_call : (func : ExprContext) (line : ℕ) → Alone words (closed_call func line)
unfolding closed_call
alone_closed_call func line = alone_then _ _ (alone_get _) (λ s. alone_emit_call func (s.free - above func.info + 1) line)

-- ---- names

module _ (chunk : List ℕ) (h : Header) where
  pub alone_string_constant : (t : Text) → Alone table (string_constant chunk h t)
  alone_string_constant t = alone_add_constant chunk _

  alone_resolved : (t : Text) (r : Option ℕ) → Alone table (resolved chunk h t r)
  alone_resolved t (some r) = alone_return _ _
  alone_resolved t none = alone_then _ _ (alone_string_constant t) (λ k. alone_return _ _)

  pub alone_resolve_var : (t : Text) → Alone table (resolve_var chunk h t)
  unfolding resolve_var
  alone_resolve_var t = alone_resolved t (register_named chunk h t)
