-- Parts of the definitions, which Laws.antt names: what follows the operands. Assumes nothing.
use Rattle.folding.specs.Numeral.{Fold}
use Rattle.std.specs.Prelude.{ℕ, ◌-◌, Bool, true, false, ◌&&◌, None}
use Rattle.instructions.specs.Word.{set_b_of}
use Rattle.opcodes.specs.declared.OpCode.{OpCode}
use Rattle.opcodes.specs.declared.OpCode.TheVariants as op
use Rattle.folding.specs.declared.Arith.{Arith}
use Rattle.folding.specs.declared.Arith.TheVariants as arith
use Rattle.ast.specs.declared.UnOp.{UnOp}
use Rattle.ast.specs.declared.UnOp.TheVariants as un
use Rattle.model.specs.declared.ExprKind.TheVariants.{KNum, Jmp, Relocable}
use Rattle.model.specs.declared.ExprContext.{ExprContext}
use Rattle.model.specs.Steps.{Step, ◌>>=◌, ◌>>◌, return, code_now}
use Rattle.model.specs.Descriptor.{new_of, with_kind, with_jumps, is_kind}
use Rattle.model.specs.Jumps.{word, is_op}
use Rattle.model.specs.Discharge.{change_word, free_expr, exp2nextreg, exp2anyreg, exp2rk, rk}
use Rattle.model.specs.Operators.{arith_op, const_fold, free_both, code_concat, emit_comp}
use Rattle.conditions.specs.Parts.{relocable}

-- the second of two where the flag is set, else the first
abbrev pub chosen : Bool → ExprContext → ExprContext → ExprContext
chosen true x y = y
chosen false x y = x

-- of arithmetic: what follows the operands, or the right one
abbrev pub arith_of : Arith → ExprContext → ExprContext → Step ExprContext
arith_of o b c = do
  free_both b c
  relocable (arith_op o) (rk b) (rk c) b

abbrev pub arith_left : Arith → ExprContext → ExprContext → Step ExprContext
arith_left o e₁ c = do
  b ← exp2rk e₁
  arith_of o b c

-- of a comparison: what follows the jump, or the first operand

abbrev pub jump_of : ExprContext → ℕ → Step ExprContext
jump_of b list = return (with_jumps 0 0 (with_kind Jmp (list - 1) b))

abbrev pub comp_second : OpCode → Bool → Bool → Bool → ExprContext → ExprContext → Step ExprContext
comp_second o cond swapped far x e = do
  y ← exp2rk e
  emit_comp o cond swapped (chosen far x y) (chosen far y x)

-- of `code_concat`: what follows both operands, or the right one
abbrev pub concat_word : ExprContext → ExprContext → Step ExprContext
concat_word b c = do
  free_expr c
  free_expr b
  relocable op.Concat b.info c.info b

abbrev pub concat_left : ExprContext → ExprContext → Step ExprContext
concat_left e₁ c = do
  b ← exp2anyreg e₁
  concat_word b c

-- of `join_concat`: what follows `exp2val`
abbrev pub joined_to : ExprContext → ExprContext → Step ExprContext
joined_to e₁ e₂ = do
  code ← code_now
  elim (is_kind Relocable e₂ && is_op op.Concat (word code e₂.info)) [
    | true ↦ do
      free_expr e₁
      change_word e₂.info (λ w. set_b_of w e₁.info)
      return (with_kind Relocable e₂.info e₁)
    | false ↦ do
      e₄ ← exp2nextreg e₂
      code_concat e₁ e₄
  ]

-- of a unary operator: whether it is `not`; its opcode; what it folds to
abbrev pub is_not : UnOp → Bool
is_not un.Neg = false
is_not un.Not = true
is_not un.Len = false

abbrev pub unary_op : UnOp → OpCode
unary_op un.Neg = op.Unm
unary_op un.Not = op.Not
unary_op un.Len = op.Len

abbrev pub fold_unary : UnOp → ExprContext → Fold
fold_unary un.Neg e = const_fold arith.Unm e (new_of KNum 0)
fold_unary un.Not e = None
fold_unary un.Len e = None
