-- A node whose number isn't that of a leaf is no leaf. Assumes nothing.
use Prim.Native.Nat.{ℕ}
use mathlib.Core.List.{[], ◌∷◌}
use mathlib.Core.Logic.{inl, inr}
use mathlib.Core.Path.{◌≡◌}
use native.Mathlib.Omega.{arith}
use types.Run.{OneOf}
use denote.Enum.Declared.{tag_of}
use Rattle.ast.specs.contracts.Head as numbered
use Rattle.ast.specs.declared.Leaf.{Leaf}
use Rattle.ast.specs.declared.Head.{Head}
use Rattle.ast.specs.declared.Head.TheVariants as head

pub inner : (x : Head) → OneOf (1 ∷ 2 ∷ 3 ∷ []) (tag_of numbered.the_type x) → (l : Leaf) → x ≡ head.Leaf l → ⊥
inner (head.Leaf k) (inl n) l e = omega (arith, n)
inner (head.Leaf k) (inr (inl n)) l e = omega (arith, n)
inner (head.Leaf k) (inr (inr n)) l e = omega (arith, n)
inner (head.One o) n l e = let z : ◌≡◌ {A = ℕ} 0 1 = cc in omega arith
inner (head.Two t) n l e = let z : ◌≡◌ {A = ℕ} 0 1 = cc in omega arith
inner (head.Many m k) n l e = let z : ◌≡◌ {A = ℕ} 0 1 = cc in omega arith
