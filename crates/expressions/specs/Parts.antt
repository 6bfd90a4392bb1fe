-- A part of `compile_expr` for which the code has a function. Assumes nothing.
use Rattle.std.specs.Prelude.{ℕ, List}
use Rattle.chunk.specs.declared.header.Header.{Header}
use Rattle.model.specs.declared.ExprContext.{ExprContext}
use Rattle.model.specs.Steps.{Step}
use Rattle.model.specs.Expressions.{compile_expr, compile_funcargs}

-- n arguments, with so much nesting left
abbrev pub funcargs : List ℕ → Header → ℕ → ExprContext → ℕ → ℕ → Step ExprContext
funcargs chunk h left = compile_funcargs (compile_expr chunk h left)
