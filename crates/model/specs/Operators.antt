-- Operators: infix, postfix and prefix, with folding, arithmetic, comparisons and concatenation. Assumes nothing.
use Rattle.folding.specs.Numeral.{Fold}
use Rattle.std.specs.Prelude.{ℕ, ◌-◌, [], Bool, true, false, ◌&&◌, ltb, Some, None}
use Rattle.instructions.specs.Limits.{max_index_rk}
use Rattle.instructions.specs.Word.{set_b_of}
use Rattle.opcodes.specs.declared.OpCode.{OpCode}
use Rattle.opcodes.specs.declared.OpCode.TheVariants as op
use Rattle.folding.specs.Folding.{fold_of}
use Rattle.folding.specs.declared.Numeral.{Numeral}
use Rattle.folding.specs.declared.Arith.{Arith}
use Rattle.folding.specs.declared.Arith.TheVariants as arith
use Rattle.constants.specs.Entry.{holds}
use Rattle.constants.specs.Table.{find, Found}
use Rattle.constants.specs.declared.Val.TheVariants as val
use Rattle.ast.specs.declared.BinOp.{BinOp}
use Rattle.ast.specs.declared.BinOp.TheVariants as bin
use Rattle.ast.specs.declared.UnOp.{UnOp}
use Rattle.ast.specs.declared.UnOp.TheVariants as un
use Rattle.model.specs.declared.ExprKind.TheVariants.{KNum, Jmp, Relocable}
use Rattle.model.specs.declared.ExprContext.{ExprContext}
use Rattle.model.specs.Descriptor.{new_of, with_kind, with_jumps, is_kind, is_numeral}
use Rattle.model.specs.Steps.{done, Step, ◌>>=◌, ◌>>◌, return, code_now}
use Rattle.model.specs.Jumps.{word, is_op}
use Rattle.model.specs.Emission.{emit_abc, emit_jump, concat}
use Rattle.model.specs.Discharge.{change_word, discharge_vars, free_expr, exp2nextreg, exp2anyreg, exp2val, exp2rk, rk}
use Rattle.model.specs.Conditions.{goiftrue, goiffalse, code_not, bit}

-- ---- arithmetic

abbrev pub arith_op : Arith → OpCode
arith_op arith.Add = op.Add
arith_op arith.Sub = op.Sub
arith_op arith.Mul = op.Mul
arith_op arith.Div = op.Div
arith_op arith.Mod = op.Mod
arith_op arith.Pow = op.Pow
arith_op arith.Unm = op.Unm

-- `const_fold`: of numerals without jumps
abbrev pub const_fold : Arith → ExprContext → ExprContext → Fold
const_fold o e₁ e₂ = elim (is_numeral e₁ && is_numeral e₂) [ true ↦ fold_of o e₁.nval e₂.nval | false ↦ None ]

-- the descriptor with another number
abbrev pub with_number : Numeral → ExprContext → ExprContext
with_number n e = record { kind = e.kind; info = e.info; aux = e.aux; nval = n.value; bits = n.bits; t = e.t; f = e.f }

abbrev pub unless_folded : Fold → ExprContext → Step ExprContext → Step ExprContext
unless_folded (Some n) e x = return (with_number n e)
unless_folded None e x = x

unfoldable pub free_in_turn : ExprContext → ExprContext → Step (Unit {0})
free_in_turn a b = do
  free_expr a
  free_expr b

-- two operands are freed, the higher register first (difference 2)
unfoldable pub free_both : ExprContext → ExprContext → Step (Unit {0})
free_both e₁ e₂ = elim (ltb (rk e₂) (rk e₁)) [ true ↦ free_in_turn e₁ e₂ | false ↦ free_in_turn e₂ e₁ ]

-- the right operand goes to RK first
unfoldable pub emit_arith : Arith → ExprContext → ExprContext → Step ExprContext
emit_arith o e₁ e₂ = do
  c ← exp2rk e₂
  b ← exp2rk e₁
  free_both b c
  pc ← emit_abc (arith_op o) 0 (rk b) (rk c)
  return (with_kind Relocable pc b)

-- `code_arith` for + - * / % ^
unfoldable pub code_arith : Arith → ExprContext → ExprContext → Step ExprContext
code_arith o e₁ e₂ = unless_folded (const_fold o e₁ e₂) e₁ (emit_arith o e₁ e₂)

-- `code_arith` for a unary operator, whose operand is a register
unfoldable pub code_unary : OpCode → ExprContext → Step ExprContext
code_unary o e = do
  e₁ ← exp2anyreg e
  free_expr e₁
  pc ← emit_abc o 0 e₁.info 0
  return (with_kind Relocable pc e₁)

-- `code_arith` for Concat, whose operands are registers one above the other
unfoldable pub code_concat : ExprContext → ExprContext → Step ExprContext
code_concat e₁ e₂ = do
  c ← exp2nextreg e₂
  b ← exp2anyreg e₁
  free_expr c
  free_expr b
  pc ← emit_abc op.Concat 0 b.info c.info
  return (with_kind Relocable pc b)

-- ---- comparisons

-- no RK operand can name an entry above 255, nor the next one of a table with 256
abbrev pub is_far : Found → ℕ → Bool
is_far (Some k) count = ltb max_index_rk k
is_far None count = ltb max_index_rk count

-- a numeral that is listed above 255, or unlisted with 256 entries or more (difference 2)
unfoldable pub far_numeral : ExprContext → Step Bool
far_numeral e s m =
    done (is_numeral e && is_far (find (holds m.pool [] (val.Num e.nval e.bits)) s.table.count m.kinds m.values) s.table.count) s m

-- `code_comp`'s operands as RK: the left one first, unless it is a far numeral (difference 2)
unfoldable pub compare_operands : Bool → ExprContext → ExprContext → (ExprContext → ExprContext → Step ExprContext) → Step ExprContext
compare_operands true e₁ e₂ f = do
  c ← exp2rk e₂
  b ← exp2rk e₁
  f b c
compare_operands false e₁ e₂ f = do
  b ← exp2rk e₁
  c ← exp2rk e₂
  f b c

-- the second where they change places
abbrev pub either : Bool → ℕ → ℕ → ℕ
either true b c = c
either false b c = b

-- the comparison of two RK operands, and its jump
unfoldable pub emit_comp : OpCode → Bool → Bool → ExprContext → ExprContext → Step ExprContext
emit_comp o cond swapped b c = do
  free_both b c
  emit_abc o (bit cond) (either swapped (rk b) (rk c)) (either swapped (rk c) (rk b))
  list ← emit_jump
  return (with_jumps 0 0 (with_kind Jmp (list - 1) b))

-- `code_comp`: the operator, the answer for which the jump is taken, and whether the operands change places
unfoldable pub code_comp : OpCode → Bool → Bool → ExprContext → ExprContext → Step ExprContext
code_comp o cond swapped e₁ e₂ = do
  far ← far_numeral e₁
  compare_operands far e₁ e₂ (emit_comp o cond swapped)

-- ---- before and after the right operand

-- an operand of arithmetic or of a comparison: a numeral stays as it is
unfoldable pub operand : ExprContext → Step ExprContext
operand e = elim (is_numeral e) [ true ↦ return e | false ↦ exp2rk e ]

-- `infix`
unfoldable pub before_right : BinOp → ExprContext → Step ExprContext
before_right bin.And e = goiftrue e
before_right bin.Or e = goiffalse e
before_right bin.Concat e = exp2nextreg e
before_right bin.Add e = operand e
before_right bin.Sub e = operand e
before_right bin.Mul e = operand e
before_right bin.Div e = operand e
before_right bin.Mod e = operand e
before_right bin.Pow e = operand e
before_right bin.Lt e = operand e
before_right bin.Le e = operand e
before_right bin.Gt e = operand e
before_right bin.Ge e = operand e
before_right bin.Eq e = operand e
before_right bin.Ne e = operand e

-- the right value, with the jumps of the left
unfoldable pub code_and : ExprContext → ExprContext → Step ExprContext
code_and e₁ e₂ = do
  e₃ ← discharge_vars e₂
  f ← concat e₃.f e₁.f
  return (with_jumps e₃.t f e₃)

unfoldable pub code_or : ExprContext → ExprContext → Step ExprContext
code_or e₁ e₂ = do
  e₃ ← discharge_vars e₂
  t ← concat e₃.t e₁.t
  return (with_jumps t e₃.f e₃)

-- a concatenation on the right is lengthened to the left
unfoldable pub join_concat : ExprContext → ExprContext → Step ExprContext
join_concat e₁ e₂ = do
  e₃ ← exp2val e₂
  code ← code_now
  elim (is_kind Relocable e₃ && is_op op.Concat (word code e₃.info)) [
    | true ↦ do
      free_expr e₁
      change_word e₃.info (λ w. set_b_of w e₁.info)
      return (with_kind Relocable e₃.info e₁)
    | false ↦ do
      e₄ ← exp2nextreg e₃
      code_concat e₁ e₄
  ]

-- `postfix`
unfoldable pub after_right : BinOp → ExprContext → ExprContext → Step ExprContext
after_right bin.And e₁ e₂ = code_and e₁ e₂
after_right bin.Or e₁ e₂ = code_or e₁ e₂
after_right bin.Concat e₁ e₂ = join_concat e₁ e₂
after_right bin.Add e₁ e₂ = code_arith arith.Add e₁ e₂
after_right bin.Sub e₁ e₂ = code_arith arith.Sub e₁ e₂
after_right bin.Mul e₁ e₂ = code_arith arith.Mul e₁ e₂
after_right bin.Div e₁ e₂ = code_arith arith.Div e₁ e₂
after_right bin.Mod e₁ e₂ = code_arith arith.Mod e₁ e₂
after_right bin.Pow e₁ e₂ = code_arith arith.Pow e₁ e₂
after_right bin.Eq e₁ e₂ = code_comp op.Eq true false e₁ e₂
after_right bin.Ne e₁ e₂ = code_comp op.Eq false false e₁ e₂
after_right bin.Lt e₁ e₂ = code_comp op.Lt true false e₁ e₂
after_right bin.Le e₁ e₂ = code_comp op.Le true false e₁ e₂
-- a > b is b < a, and a >= b is b <= a
after_right bin.Gt e₁ e₂ = code_comp op.Lt true true e₁ e₂
after_right bin.Ge e₁ e₂ = code_comp op.Le true true e₁ e₂

-- `prefix`: a negated numeral is folded, unless it is a NaN; the operand of `Len` is a register, and that of `Unm` too (difference 6)
unfoldable pub code_unop : UnOp → ExprContext → Step ExprContext
code_unop un.Neg e = unless_folded (const_fold arith.Unm e (new_of KNum 0)) e (code_unary op.Unm e)
code_unop un.Not e = code_not e
code_unop un.Len e = code_unary op.Len e
