-- Discharging: a register freed is lent nothing, a value code and lines, and a number's constant the table. Assumes nothing.
use Rattle.std.specs.Prelude.{ℕ}
use Rattle.instructions.specs.Word.{set_b_of, set_c_of}
use Rattle.model.specs.declared.ExprKind.{ExprKind}
use Rattle.model.specs.declared.ExprKind.TheVariants.{Nil, True, False, K, KNum, Local, Global, Indexed, Jmp, Relocable, NonReloc, Call, VarArg}
use Rattle.model.specs.declared.ExprContext.{ExprContext}
use Rattle.model.specs.Descriptor.{is_kind}
use Rattle.model.specs.Discharge.{change_word, discharge_kind, discharge_vars, free_expr, number_constant}
use Rattle.alone.specs.Alone.{none, code_alone, words, table, Alone, alone_return, alone_then, alone_when, alone_none, alone_code_now, alone_change_words, alone_code}
use Rattle.alone.specs.Emission.{alone_free_reg, alone_emit, alone_add_constant}

-- a word changed in place
pub alone_change_word : (pc : ℕ) (f : ℕ → ℕ) → Alone code_alone (change_word pc f)
alone_change_word pc f = alone_change_words _

alone_discharge_kind : (k : ExprKind) (e : ExprContext) → Alone words (discharge_kind k e)
unfolding discharge_kind
alone_discharge_kind Nil e = alone_return _ _
alone_discharge_kind True e = alone_return _ _
alone_discharge_kind False e = alone_return _ _
alone_discharge_kind K e = alone_return _ _
alone_discharge_kind KNum e = alone_return _ _
alone_discharge_kind Local e = alone_return _ _
alone_discharge_kind Global e = alone_then _ _ (alone_emit _) (λ pc. alone_return _ _)
alone_discharge_kind Indexed e = alone_then _ _ (alone_none _ (alone_free_reg e.aux)) (λ _. alone_then _ _ (alone_none _ (alone_free_reg e.info)) (λ _. alone_then _ _ (alone_emit _) (λ pc. alone_return _ _)))
alone_discharge_kind Jmp e = alone_return _ _
alone_discharge_kind Relocable e = alone_return _ _
alone_discharge_kind NonReloc e = alone_return _ _
alone_discharge_kind Call e = alone_code _ (alone_then _ _ (alone_change_word e.info (λ w. set_c_of w 2)) (λ _. alone_then _ _ alone_code_now (λ code. alone_return _ _)))
alone_discharge_kind VarArg e = alone_code _ (alone_then _ _ (alone_change_word e.info (λ w. set_b_of w 2)) (λ _. alone_return _ _))

pub alone_discharge_vars : (e : ExprContext) → Alone words (discharge_vars e)
alone_discharge_vars e = alone_discharge_kind e.kind e

pub alone_free_expr : (e : ExprContext) → Alone none (free_expr e)
unfolding free_expr
alone_free_expr e = alone_when (is_kind NonReloc e) _ (alone_free_reg e.info)

pub alone_number_constant : (e : ExprContext) → Alone table (number_constant e)
alone_number_constant e = alone_add_constant _ _
