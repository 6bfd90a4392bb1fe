-- Conditional jumps: the last word is taken back from code and lines, a comparison inverted in the code alone; words with their descriptors, and tests. Assumes nothing.
use Rattle.std.specs.Prelude.{ℕ, refl, eqb}
use Rattle.instructions.specs.Word.{a_of, set_a_of}
use Rattle.opcodes.specs.declared.OpCode.{OpCode}
use Rattle.model.specs.declared.ExprContext.{ExprContext}
use Rattle.model.specs.Jumps.{get_jump_control}
use Rattle.model.specs.Conditions.{bit, pop, invertjump}
use Rattle.conditions.specs.Parts.{relocable, unary, tested}
use Rattle.alone.specs.Alone.{code_alone, words, Alone, alone_return, alone_then, alone_none, alone_code_now}
use Rattle.alone.specs.Emission.{alone_emit, alone_emit_jump}
use Rattle.alone.specs.Discharge.{alone_change_word, alone_free_expr}

pub alone_pop : Alone words pop
unfolding pop
alone_pop o s m = refl

pub alone_invertjump : (e : ExprContext) → Alone code_alone (invertjump e)
unfolding invertjump
alone_invertjump e = alone_then _ _ alone_code_now (λ code. alone_change_word (get_jump_control code e.info) (λ w. set_a_of w (bit (eqb (a_of w) 0))))

pub alone_relocable : (op : OpCode) (b c : ℕ) (e : ExprContext) → Alone words (relocable op b c e)
alone_relocable op b c e = alone_then _ _ (alone_emit _) (λ pc. alone_return _ _)

pub alone_unary : (op : OpCode) (e : ExprContext) → Alone words (unary op e)
alone_unary op e = alone_then _ _ (alone_none _ (alone_free_expr e)) (λ _. alone_relocable op e.info 0 e)

pub alone_tested : (op : OpCode) (a b c : ℕ) → Alone words (tested op a b c)
alone_tested op a b c = alone_then _ _ (alone_emit _) (λ _. alone_emit_jump)
