-- How many sub-expressions a node has. Assumes nothing.
use Rattle.std.specs.Prelude.{ℕ, ◌+◌}
use Rattle.ast.specs.declared.Head.{Head}
use Rattle.ast.specs.declared.Head.TheVariants.{Leaf, One, Two, Many}

abbrev pub children_of : Head → ℕ
children_of (Leaf l) = 0
children_of (One o) = 1
children_of (Two t) = 2
children_of (Many m n) = n + 1
