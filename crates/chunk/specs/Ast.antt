-- The nodes of a chunk as trees: `Expr` of ast.rs, grouped by how many sub-expressions a node has. Assumes nothing.
use Rattle.std.specs.Prelude.{ℕ, List, [], ◌∷◌, ◌++◌, map, Bool}
use Rattle.cursor.specs.declared.Text.{Text}
use Rattle.ast.specs.declared.Leaf.{Leaf}
use Rattle.ast.specs.declared.One.{One}
use Rattle.ast.specs.declared.Two.{Two}
use Rattle.ast.specs.declared.Many.{Many}

-- where a node stands: its line (`Span` of token.rs), the place of its kind byte, counted from 0, and its nesting, counted from 1
pub record Span : Type 0 where
  pub line : ℕ
  pub place : ℕ
  pub nesting : ℕ

mutual
  pub data Expr : Type 0 where
    -- nil, true, false, a number, a string, a vararg, a name
    leaf : Span → Leaf → Expr
    -- a unary operator, a field, parentheses
    one : Span → One → Expr → Expr
    -- a binary operator, an index
    two : Span → Two → Expr → Expr → Expr
    -- a method call, a call: the object or function, and the arguments
    many : Span → Many → Expr → Exprs → Expr

  pub data Exprs : Type 0 where
    none : Exprs
    more : Expr → Exprs → Exprs

-- the spans of all nodes in reading order: a node before its sub-expressions, these from left to right
unfoldable mutual
  pub spans : Expr → List Span
  spans (leaf s l) = s ∷ []
  spans (one s o a) = s ∷ spans a
  spans (two s t a b) = s ∷ spans a ++ spans b
  spans (many s m a es) = s ∷ spans a ++ spans_of es

  pub spans_of : Exprs → List Span
  spans_of none = []
  spans_of (more a es) = spans a ++ spans_of es

-- the places of nodes
abbrev pub places_of : List Span → List ℕ
places_of ss = map (λ s. s.place) ss

-- a chunk: the locals' names, whether there are varargs, and the formulas
pub record Chunk : Type 0 where
  pub names : List Text
  pub varargs : Bool
  pub formulas : Exprs
