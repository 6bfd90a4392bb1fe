-- Parts of `lower_chunk` for which the code has functions. Assumes nothing.
use Rattle.std.specs.Prelude.{ℕ, ◌+◌, List}
use Rattle.opcodes.specs.declared.OpCode.TheVariants as op
use Rattle.chunk.specs.Form.{max_nesting}
use Rattle.chunk.specs.declared.header.Header.{Header}
use Rattle.model.specs.Steps.{Step, ◌>>◌, skip}
use Rattle.model.specs.Emission.{emit_abc}
use Rattle.model.specs.Expressions.{compile_expr}
use Rattle.model.specs.Lowering.{formulas}

-- the first n formulas
abbrev pub first_formulas : List ℕ → Header → ℕ → Step (Unit {0})
first_formulas chunk h = formulas (compile_expr chunk h max_nesting)

abbrev pub returning : Header → Step (Unit {0})
returning h = do
  emit_abc op.Return h.locals (h.formulas + 1) 0
  skip
