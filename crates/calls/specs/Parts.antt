-- Parts of the definitions, which Laws.antt names. Assumes nothing.
use Rattle.std.specs.Prelude.{ℕ}
use Rattle.opcodes.specs.declared.OpCode.TheVariants as op
use Rattle.model.specs.declared.ExprKind.{ExprKind}
use Rattle.model.specs.declared.ExprKind.TheVariants.{NonReloc}
use Rattle.model.specs.declared.ExprContext.{ExprContext}
use Rattle.model.specs.Descriptor.{new_of, with_kind}
use Rattle.model.specs.Steps.{Step, ◌>>=◌, ◌>>◌, return, get}
use Rattle.model.specs.Emission.{emit_abc, reserve_regs}
use Rattle.model.specs.Discharge.{free_expr, exp2rk, rk}

-- a new descriptor of the number that is given
abbrev pub fresh_of : ExprKind → ℕ → Step ExprContext
fresh_of kind n = return (new_of kind n)

-- parts of `code_self`: from the word on, from the key on, and from the registers on
abbrev pub self_of : ExprContext → ℕ → ExprContext → Step ExprContext
self_of e reg k = do
  emit_abc op.OpSelf reg e.info (rk k)
  free_expr k
  return (with_kind NonReloc reg e)

abbrev pub operand_of : ExprContext → ℕ → ExprContext → Step ExprContext
operand_of e reg key = do
  k ← exp2rk key
  self_of e reg k

abbrev pub key_of : ExprContext → ExprContext → Step ExprContext
key_of e key = do
  free_expr e
  s ← get
  reserve_regs 2
  operand_of e s.free key
