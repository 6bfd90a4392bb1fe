-- Reading the formulas by the manual, section 2.5 and those named below (document 01, "Running and reading"). Its only state is the steps taken. Assumes nothing.
use Rattle.std.specs.Prelude.{ℕ, List, [], ◌∷◌, true, false, not}
use Rattle.std.proofs.Math.Option.{Option, some, none}
use Rattle.folding.specs.declared.Arith.TheVariants as arith
use Rattle.cursor.specs.Fields.{bytes_of}
use Rattle.cursor.specs.declared.Text.{Text}
use Rattle.ast.specs.declared.BinOp.{BinOp}
use Rattle.ast.specs.declared.BinOp.TheVariants as bin
use Rattle.ast.specs.declared.UnOp.TheVariants as un
use Rattle.ast.specs.declared.Leaf.{Leaf}
use Rattle.ast.specs.declared.Leaf.TheVariants as leaf
use Rattle.ast.specs.declared.One.{One}
use Rattle.ast.specs.declared.One.TheVariants as one
use Rattle.ast.specs.declared.Two.{Two}
use Rattle.ast.specs.declared.Two.TheVariants as two
use Rattle.ast.specs.declared.Many.{Many}
use Rattle.ast.specs.declared.Many.TheVariants as many
use Rattle.chunk.specs.Ast.{Expr, leaf as leaf_node, one as one_node, two as two_node, many as many_node, Exprs, none as no_more, more, Chunk}
use Rattle.model.specs.Values.{last_wins, named, Value, nil, truth, number, text, is_true, first, StepKind, global_read, index_read, equal, less, less_or_equal, length_of, concatenation, Outward, World, Taken, taken, ask, ask_many, ask_truth, compute, negation}

-- a reading, from the steps so far on
abbrev pub Read : Type 0 → Type 0
Read A = List Outward → Taken A

infixl 1 ◌>>=◌
abbrev pub ◌>>=◌ : {A B : Type 0} → Read A → (A → Read B) → Read B
(x >>= f) h = f (x h).gives (x h).steps

abbrev pub return : {A : Type 0} → A → Read A
return a h = taken a h

-- one value of a reading: the first, or nil (2.5: an expression adjusted to one result)
abbrev pub single : Read (List Value) → Read Value
single x = do
  vs ← x
  return (first vs)

-- one value as a list
abbrev pub only : Read Value → Read (List Value)
only x = do
  v ← x
  return (v ∷ [])

-- the value of the last local so named (2.6)
unfoldable pub local_named : List ℕ → List ℕ → List Text → List Value → Option Value
local_named chunk name [] vs = none
local_named chunk name (t ∷ ts) [] = none
local_named chunk name (t ∷ ts) (v ∷ vs) = last_wins (local_named chunk name ts vs) (named chunk name t v)

-- the chunk's bytes hold the texts; the locals by name and value; the varargs
module _ (w : World) (chunk : List ℕ) (names : List Text) (locals varargs : List Value) where
  abbrev pub local_or_global : Text → Option Value → Read Value
  local_or_global t (some v) = return v
  local_or_global t none = ask w global_read (text (bytes_of chunk t) ∷ [])

  unfoldable pub read_leaf : Leaf → Read (List Value)
  read_leaf leaf.Nil = return (nil ∷ [])
  read_leaf leaf.True = return (truth true ∷ [])
  read_leaf leaf.False = return (truth false ∷ [])
  read_leaf (leaf.Number b) = return (number b ∷ [])
  read_leaf (leaf.Str t) = return (text (bytes_of chunk t) ∷ [])
  read_leaf leaf.VarArg = return varargs
  read_leaf (leaf.Name t) = only (local_or_global t (local_named chunk (bytes_of chunk t) names locals))

  -- an operator (2.5.1, 2.5.3, 2.5.5), field (2.3) or parentheses (2.5) on one value
  unfoldable pub read_one : One → Value → Read Value
  read_one (one.Unary un.Neg) v = negation w v
  read_one (one.Unary un.Not) v = return (truth (not (is_true v)))
  read_one (one.Unary un.Len) v = ask w length_of (v ∷ [])
  read_one (one.Field t) v = ask w index_read (v ∷ text (bytes_of chunk t) ∷ [])
  read_one one.Paren v = return v

  -- a comparison's answer as a value (2.5.2)
  abbrev pub compare : StepKind → Value → Value → Read Value
  compare k a b = do
    t ← ask_truth w k (a ∷ b ∷ [])
    return (truth t)

  -- both operands, left to right as document 01 asks, then the operation (2.5.1, 2.5.2, 2.5.4)
  abbrev pub both : Read Value → Read Value → (Value → Value → Read Value) → Read Value
  both x y f = do
    a ← x
    b ← y
    f a b

  -- `and` and `or` read the right operand only if they need it (2.5.3)
  unfoldable pub read_binary : BinOp → Read Value → Read Value → Read Value
  read_binary bin.And x y = do
    a ← x
    elim (is_true a) [ true ↦ y | false ↦ return a ]
  read_binary bin.Or x y = do
    a ← x
    elim (is_true a) [ true ↦ return a | false ↦ y ]
  read_binary bin.Add x y = both x y (compute w arith.Add)
  read_binary bin.Sub x y = both x y (compute w arith.Sub)
  read_binary bin.Mul x y = both x y (compute w arith.Mul)
  read_binary bin.Div x y = both x y (compute w arith.Div)
  read_binary bin.Mod x y = both x y (compute w arith.Mod)
  read_binary bin.Pow x y = both x y (compute w arith.Pow)
  read_binary bin.Concat x y = both x y λ a b. ask w concatenation (a ∷ b ∷ [])
  read_binary bin.Eq x y = both x y (compare equal)
  read_binary bin.Ne x y = both x y λ a b. do
    t ← ask_truth w equal (a ∷ b ∷ [])
    return (truth (not t))
  read_binary bin.Lt x y = both x y (compare less)
  read_binary bin.Le x y = both x y (compare less_or_equal)
  -- a > b is then b < a, and a >= b is b <= a
  read_binary bin.Gt x y = both x y λ a b. compare less b a
  read_binary bin.Ge x y = both x y λ a b. compare less_or_equal b a

  unfoldable pub read_two : Two → Read Value → Read Value → Read Value
  read_two (two.Binary o) x y = read_binary o x y
  read_two two.Index x y = both x y λ a b. ask w index_read (a ∷ b ∷ [])

  -- the function, or the object and what it has under the method's name; then the arguments; then the call (2.5.8), with a method's object before the arguments
  unfoldable pub read_many : Many → Read Value → Read (List Value) → Read (List Value)
  read_many many.Call x args = do
    f ← x
    vs ← args
    ask_many w (f ∷ vs)
  read_many (many.MethodCall t) x args = do
    o ← x
    f ← ask w index_read (o ∷ text (bytes_of chunk t) ∷ [])
    vs ← args
    ask_many w (f ∷ o ∷ vs)

  -- all values of an expression; of arguments one each, and all of the last (2.5, 2.5.8)
  unfoldable mutual
    pub read_expr : Expr → Read (List Value)
    read_expr (leaf_node s l) = read_leaf l
    read_expr (one_node s o a) = only (do
      v ← single (read_expr a)
      read_one o v)
    read_expr (two_node s t a b) = only (read_two t (single (read_expr a)) (single (read_expr b)))
    read_expr (many_node s m a es) = read_many m (single (read_expr a)) (read_args es)

    pub read_args : Exprs → Read (List Value)
    read_args no_more = return []
    read_args (more a no_more) = read_expr a
    read_args (more a (more b es)) = do
      v ← single (read_expr a)
      vs ← read_args (more b es)
      return (v ∷ vs)

  -- the formulas in order, one value each
  unfoldable pub read_formulas : Exprs → Read (List Value)
  read_formulas no_more = return []
  read_formulas (more a es) = do
    v ← single (read_expr a)
    vs ← read_formulas es
    return (v ∷ vs)

-- what a chunk's formulas are worth, and the steps that this took
abbrev pub reading : World → List ℕ → Chunk → List Value → List Value → Taken (List Value)
reading w chunk c locals varargs = read_formulas w chunk c.names locals varargs c.formulas []
