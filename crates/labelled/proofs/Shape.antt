-- What holds of the lowering of every expression whatever is run: the registers that its descriptor owns, and labels that are new and different. Read off the theorem, for a silent outside and locals that are all nil,
-- since it speaks of every outside.
use Rattle.std.specs.Prelude.{ℕ, ◌≤◌, List, [], length, replicate}
use Rattle.std.proofs.Common.{arith as nat}
use Rattle.cursor.specs.declared.Text.{Text}
use Rattle.chunk.specs.Ast.{Expr}
use Rattle.model.specs.Values.{Value, nil}
use Rattle.model.specs.Reading.{read_expr}
use Rattle.labelled.specs.Machine.{Setting}
use Rattle.labelled.specs.Emission.{St}
use Rattle.labelled.specs.Expressions.{comp}
use Rattle.labelled.specs.Good.{Good}
use Rattle.labelled.proofs.Faithful.{comp_good}
use Rattle.labelled.specs.Locals.{setting_of, finds}
use Rattle.labelled.specs.Shape.{Shaped, each, shape, silent}

module _ (chunk : List ℕ) (names : List Text) where
  abbrev blank : List Value
  blank = replicate (length names) nil

  abbrev quiet : Setting
  quiet = setting_of silent blank []

  pub comp_quiet : (a : Expr) (s : St) → 1 ≤ s.nxt → length names ≤ s.free → Good quiet (λ R h. read_expr silent chunk names blank [] a h) s.free s (comp chunk names a s)
  comp_quiet a s l na = comp_good quiet chunk names blank (finds silent chunk names blank [] (each chunk names)) a s l (omega (nat, each chunk names))

  pub comp_shaped : (a : Expr) (s : St) → 1 ≤ s.nxt → length names ≤ s.free → Shaped (length names) s.free s (comp chunk names a s)
  comp_shaped a s l na = shape chunk names _ s.free s (comp chunk names a s) (comp_quiet a s l na)
