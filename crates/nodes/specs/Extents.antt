-- What of a node says where its sub-expressions are: how many, the line before the first, and its place. Assumes nothing.
use Rattle.std.specs.Prelude.{ℕ, Result, Ok, Err}
use Rattle.ast.specs.Children.{children_of}
use Rattle.ast.specs.declared.Node.{Node}
use Rattle.refusals.specs.declared.Refusal.{Refusal}
use Rattle.nodes.specs.declared.skip.Extent.{Extent}

abbrev pub extent : ℕ → ℕ → ℕ → Result Extent Refusal
extent children line next = Ok (record { children = children; line = line; next = next })

abbrev pub extent_of : Result Node Refusal → Result Extent Refusal
extent_of (Ok n) = extent (children_of n.head) n.line n.next
extent_of (Err k) = Err k
