-- Nesting falls from node to sub-expression, and an argument list stands above its arguments. The loop's invariant: what is left of the arguments gives what all of them give. Assumes nothing.
use Rattle.std.proofs.Common.{◌≡◌, ◌+◌, ◌-◌, ◌*◌}
use Rattle.model.specs.Expressions.{compile_expr, compile_funcargs}
use Rattle.model.specs.Relations.{bufs_of, SameBuffers}
use Rattle.expressions.proofs.+compile_expr_compile_funcargs.Given as goal

abbrev pub decreases-compile_expr : goal.decreases-compile_expr
decreases-compile_expr l = l.left * 2

abbrev pub decreases-compile_funcargs : goal.decreases-compile_funcargs
decreases-compile_funcargs l = l.left * 2 + 1

abbrev pub invariant-compile_funcargs-loop : goal.invariant-compile_funcargs-loop
invariant-compile_funcargs-loop l =
    (compile_funcargs (compile_expr l.src.bytes.now l.src.header l.left) l.func l.line l.n l.initial.fs.state (bufs_of l.initial.fs)
    ≡ compile_funcargs (compile_expr l.src.bytes.now l.src.header l.left) l.func l.line (l.n + 1 - l.counter) l.fs.state (bufs_of l.fs))
    × SameBuffers l.initial.fs l.fs
