-- Texts of a node are short: a length of two bytes is below 65,536. By the cases of reading a node, none of which changes a length.
use Rattle.std.specs.Prelude.{ℕ, zero, suc, ◌+◌, ◌≤◌, Bool, true, false, List, [], ◌∷◌, length, take, drop, Option, Some, None, Result, Ok, Err}
use Rattle.std.proofs.Common.{arith}
use Rattle.constants.specs.Entry.{part}
use Rattle.constants.specs.Distinct.{Short}
use Rattle.constants.specs.declared.Val.TheVariants as val
use Rattle.cursor.specs.Fields.{le2, has_bytes, byte_at, bits_at, text_at, end_of}
use Rattle.cursor.specs.declared.Text.{Text}
use Rattle.nodes.specs.Nodes.{with_text, missing, fields_at, front_at, with_front, node_at}
use Rattle.nodes.specs.Reads.{on_byte, on_bits, on_bin, on_un, on_require}
use Rattle.ast.specs.Operators.{bin_op_of, un_op_of}
use Rattle.ast.specs.declared.Kind.{Kind}
use Rattle.ast.specs.declared.Kind.TheVariants as k
use Rattle.ast.specs.declared.Leaf.{Leaf}
use Rattle.ast.specs.declared.Leaf.TheVariants as leaf
use Rattle.ast.specs.declared.One.{One}
use Rattle.ast.specs.declared.One.TheVariants as one
use Rattle.ast.specs.declared.Many.{Many}
use Rattle.ast.specs.declared.Many.TheVariants as many
use Rattle.ast.specs.declared.Head.{Head}
use Rattle.ast.specs.declared.Head.TheVariants as head
use Rattle.model.specs.Claims.{Bytes}
use Rattle.ast.specs.declared.Node.{Node}
use Rattle.refusals.specs.declared.Refusal.{Refusal}
use Rattle.nodes.specs.declared.node.Front.{Front}

module _ (s : List ℕ) where
  abbrev pub ShortText : Text → Type 0
  ShortText t = Short s (val.Str t.start t.len)

  abbrev pub ShortLeaf : Leaf → Type 0
  ShortLeaf leaf.Nil = Unit {0}
  ShortLeaf leaf.True = Unit {0}
  ShortLeaf leaf.False = Unit {0}
  ShortLeaf (leaf.Number b) = Unit {0}
  ShortLeaf (leaf.Str t) = ShortText t
  ShortLeaf leaf.VarArg = Unit {0}
  ShortLeaf (leaf.Name t) = ShortText t

  abbrev pub ShortOne : One → Type 0
  ShortOne (one.Unary o) = Unit {0}
  ShortOne (one.Field t) = ShortText t
  ShortOne one.Paren = Unit {0}

  abbrev pub ShortMany : Many → Type 0
  ShortMany many.Call = Unit {0}
  ShortMany (many.MethodCall t) = ShortText t

  abbrev pub ShortHead : Head → Type 0
  ShortHead (head.Leaf l) = ShortLeaf l
  ShortHead (head.One o) = ShortOne o
  ShortHead (head.Two t) = Unit {0}
  ShortHead (head.Many m n) = ShortMany m

  abbrev pub ShortNode : Result Node Refusal → Type 0
  ShortNode (Ok n) = ShortHead n.head
  ShortNode (Err r) = Unit {0}

-- at most n entries of a list
pub take_at_most : (n : ℕ) (l : List ℕ) → length (take n l) ≤ n
take_at_most zero l = omega arith
take_at_most (suc n) [] = omega arith
take_at_most (suc n) (x ∷ l) = let z : length (take n l) ≤ n = take_at_most n l in omega arith

module _ (s : List ℕ) (b : Bytes s) where
  short_text : (at : ℕ) (f : Text → Result Node Refusal) → ((t : Text) → ShortText s t → ShortNode s (f t)) → ShortNode s (with_text (text_at s at) missing f)
  unfolding text_at
  short_text at f g = go (has_bytes s at 2) (has_bytes s (at + 2) (le2 s at))
    where
      t : Text
      t = record { start = at + 2; len = le2 s at }

      low : ShortText s t
      low = let z : length (part s (at + 2) (le2 s at)) ≤ le2 s at = take_at_most (le2 s at) (drop (at + 2) s) in omega (arith, b at, b (at + 1))

      go : (x y : Bool) → ShortNode s (with_text (elim x as (λ (_ : Bool). Option Text) [ true ↦ elim y as (λ (_ : Bool). Option Text) [ true ↦ Some t | false ↦ None ] | false ↦ None ]) missing f)
      go true true = g t low
      go true false = tt
      go false y = tt

  short_fields : (va : Bool) (y : Kind) (at line : ℕ) → ShortNode s (fields_at s va y at line)
  unfolding fields_at
  short_fields va k.Nil at line = tt
  short_fields va k.True at line = tt
  short_fields va k.False at line = tt
  short_fields va k.Number at line = on_bits (ShortNode s) _ tt (bits_at s at) _ (λ n e. tt)
  short_fields va k.Str at line = short_text at _ (λ t h. h)
  short_fields va k.VarArg at line = on_require (ShortNode s) _ tt va _ tt
  short_fields va k.Name at line = short_text at _ (λ t h. h)
  short_fields va k.Binary at line = on_byte (ShortNode s) _ tt (byte_at s at) _ (λ n e. on_bin (ShortNode s) _ tt (bin_op_of n) _ (λ y. tt))
  short_fields va k.Unary at line = on_byte (ShortNode s) _ tt (byte_at s at) _ (λ n e. on_un (ShortNode s) _ tt (un_op_of n) _ (λ y. tt))
  short_fields va k.Index at line = tt
  short_fields va k.Field at line = short_text at _ (λ t h. h)
  short_fields va k.MethodCall at line = short_text at _ (λ t h. on_byte (ShortNode s) _ tt (byte_at s (end_of t)) _ (λ n e. h))
  short_fields va k.Call at line = on_byte (ShortNode s) _ tt (byte_at s at) _ (λ n e. tt)
  short_fields va k.Paren at line = tt

  short_front : (va : Bool) (f : Result Front Refusal) → ShortNode s (with_front f (fields_at s va))
  short_front va (Ok r) = short_fields va r.kind r.next r.line
  short_front va (Err r) = tt

  pub short_node : (va : Bool) (at line : ℕ) → ShortNode s (node_at s va at line)
  unfolding node_at
  short_node va at line = short_front va (front_at s at line)
