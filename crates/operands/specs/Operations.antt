-- Of what sort an operator is: `and`, `or`, `..`, arithmetic, or a comparison with its opcode, the answer for which its jump is taken, and whether the operands change places. Assumes nothing.
use Rattle.std.specs.Prelude.{true, false}
use Rattle.opcodes.specs.declared.OpCode.TheVariants as op
use Rattle.folding.specs.declared.Arith.TheVariants as arith
use Rattle.ast.specs.declared.BinOp.{BinOp}
use Rattle.ast.specs.declared.BinOp.TheVariants as bin
use Rattle.operands.specs.declared.Operation.{Operation}
use Rattle.operands.specs.declared.Operation.TheVariants.{And, Or, Concat, Arithmetic, Comparison}

abbrev pub operation_of : BinOp → Operation
operation_of bin.Add = Arithmetic arith.Add
operation_of bin.Sub = Arithmetic arith.Sub
operation_of bin.Mul = Arithmetic arith.Mul
operation_of bin.Div = Arithmetic arith.Div
operation_of bin.Mod = Arithmetic arith.Mod
operation_of bin.Pow = Arithmetic arith.Pow
operation_of bin.Concat = Concat
operation_of bin.Lt = Comparison op.Lt true false
operation_of bin.Le = Comparison op.Le true false
operation_of bin.Gt = Comparison op.Lt true true
operation_of bin.Ge = Comparison op.Le true true
operation_of bin.Eq = Comparison op.Eq true false
operation_of bin.Ne = Comparison op.Eq false false
operation_of bin.And = And
operation_of bin.Or = Or
