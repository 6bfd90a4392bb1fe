-- `formulas::formulas` meets its contract: before each turn, the formulas that are left, lowered from here, are all of them lowered from the start. Assumes nothing.
use Rattle.std.proofs.Common.{◌≡◌, ◌-◌}
use Rattle.chunk.specs.Form.{max_nesting}
use Rattle.model.specs.Expressions.{compile_expr}
use Rattle.model.specs.Lowering.{formulas}
use Rattle.model.specs.Relations.{bufs_of, SameBuffers}
use Rattle.formulas.proofs.formulas.Given as goal

abbrev pub invariant-loop : goal.invariant-loop
invariant-loop l =
    (formulas (compile_expr l.src.bytes.now l.src.header max_nesting) l.n l.initial.fs.state (bufs_of l.initial.fs)
    ≡ formulas (compile_expr l.src.bytes.now l.src.header max_nesting) (l.n - l.counter) l.fs.state (bufs_of l.fs))
    × SameBuffers l.initial.fs l.fs
