-- Parts of the definitions, which contracts or Laws.antt name: a word with its descriptor, that of a unary operator, a jump where none is pending, a test with its jump, and what a kind alone tells of a value. Assumes nothing.
use Rattle.std.specs.Prelude.{ℕ, ◌+◌, Bool, true, false, negsuc}
use Rattle.instructions.specs.Word.{a_sbx_of}
use Rattle.opcodes.specs.declared.OpCode.{OpCode}
use Rattle.opcodes.specs.declared.OpCode.TheVariants as op
use Rattle.model.specs.declared.ExprKind.{ExprKind}
use Rattle.model.specs.declared.ExprKind.TheVariants.{Nil, True, False, K, KNum, Local, Global, Indexed, Jmp, Relocable, NonReloc, Call, VarArg}
use Rattle.model.specs.declared.ExprContext.{ExprContext}
use Rattle.model.specs.Descriptor.{with_kind}
use Rattle.model.specs.Steps.{Step, ◌>>=◌, ◌>>◌, return}
use Rattle.model.specs.Emission.{emit, emit_abc, emit_jump}
use Rattle.model.specs.Discharge.{free_expr}

-- a word whose register is still to be set, and its descriptor
abbrev pub relocable : OpCode → ℕ → ℕ → ExprContext → Step ExprContext
relocable o b c e = do
  pc ← emit_abc o 0 b c
  return (with_kind Relocable pc e)

-- the word of a unary operator, whose operand's register is free again
abbrev pub unary : OpCode → ExprContext → Step ExprContext
unary o e = do
  free_expr e
  relocable o e.info 0 e

-- `emit_jump` where no jump is pending
abbrev pub lone_jump : Step ℕ
lone_jump = do
  pc ← emit (a_sbx_of op.Jmp 0 (negsuc 0))
  return (pc + 1)

-- a test, and the jump that it decides on
abbrev pub tested : OpCode → ℕ → ℕ → ℕ → Step ℕ
tested o a b c = do
  emit_abc o a b c
  emit_jump

-- a value of this kind is always true
abbrev pub always_true : ExprKind → Bool
always_true Nil = false
always_true True = true
always_true False = false
always_true K = true
always_true KNum = true
always_true Local = false
always_true Global = false
always_true Indexed = false
always_true Jmp = false
always_true Relocable = false
always_true NonReloc = false
always_true Call = false
always_true VarArg = false

-- or always false
abbrev pub always_false : ExprKind → Bool
always_false Nil = true
always_false True = false
always_false False = true
always_false K = false
always_false KNum = false
always_false Local = false
always_false Global = false
always_false Indexed = false
always_false Jmp = false
always_false Relocable = false
always_false NonReloc = false
always_false Call = false
always_false VarArg = false

-- it is in a register, or on its way to one
abbrev pub in_register : ExprKind → Bool
in_register Nil = false
in_register True = false
in_register False = false
in_register K = false
in_register KNum = false
in_register Local = false
in_register Global = false
in_register Indexed = false
in_register Jmp = false
in_register Relocable = true
in_register NonReloc = true
in_register Call = false
in_register VarArg = false
