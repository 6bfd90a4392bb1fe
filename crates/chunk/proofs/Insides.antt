-- A node and a header that are read lie in the bytes: each field that they have was there. By cases on what was read.
use Prim.Native.Nat.{ℕ, ◌+◌, ◌/◌, ◌%◌, ◌≤◌}
use mathlib.Core.Path.{◌≡◌}
use mathlib.Core.List.{List}
use mathlib.Core.Bool.{Bool}
use native.Mathlib.Omega.{arith}
use lib.ListN.{length}
use lib.Dec.{eqb, leb}
use Rattle.std.specs.Prelude.{Option, Some, None, Result, Ok, Err}
use Rattle.ast.specs.Kinds.{kind_of, map_of}
use Rattle.ast.specs.Operators.{bin_op_of, un_op_of}
use Rattle.cursor.specs.Fields.{byte_at, line_at, bits_at, text_at, end_of}
use Rattle.cursor.specs.Inside.{byte_inside, line_inside, bits_inside, text_inside}
use Rattle.nodes.specs.Nodes.{fields_at, front_at, with_front, node_at}
use Rattle.nodes.specs.Reads.{on_byte, on_line, on_bits, on_text, on_kind, on_bin, on_un, on_require, on_test}
use Rattle.chunk.specs.Headers.{names_at, skipped, with_skipped, formulas_at, header_at}
use Rattle.ast.specs.declared.Kind.{Kind}
use Rattle.ast.specs.declared.Kind.TheVariants.{Nil, True, False, Number, Str, VarArg, Name, Binary, Unary, Index, Field, MethodCall, Call, Paren}
use Rattle.nodes.specs.Extents.{extent_of}
use Rattle.nodes.specs.declared.skip.Extent.{Extent}
use Rattle.chunk.specs.declared.header.Header.{Header}
use Rattle.ast.specs.declared.Node.{Node}
use Rattle.refusals.specs.declared.Refusal.{Refusal}
use Rattle.nodes.specs.declared.node.Front.{Front}

-- whatever a node that is read satisfies by its extent; a refusal satisfies all
abbrev OnExtent : (Extent → Type 0) → Result Extent Refusal → Type 0
OnExtent P (Ok n) = P n
OnExtent P (Err k) = Unit {0}

abbrev OnNode : (Extent → Type 0) → Result Node Refusal → Type 0
OnNode P r = OnExtent P (extent_of r)

abbrev OnHeader : (Header → Type 0) → Result Header Refusal → Type 0
OnHeader P (Ok h) = P h
OnHeader P (Err k) = Unit {0}

-- as the laws of `Reads`, for what a header skips
on_skipped : {A : Type 0} (P : A → Type 0) (r : A) → P r → (q : Option ℕ) (f : ℕ → A) → ((p : ℕ) → P (f p)) → P (with_skipped q r f)
on_skipped P r n None f h = n
on_skipped P r n (Some p) f h = h p

module _ (s : List ℕ) where
  -- the fields' end is in the bytes, behind their start
  abbrev In : ℕ → Extent → Type 0
  In at n = (at ≤ n.next) × (n.next ≤ length s)

  fields_in : (va : Bool) (k : Kind) (at line : ℕ) → at ≤ length s → OnNode (In at) (fields_at s va k at line)
  unfolding fields_at
  fields_in va Nil at line h = (omega arith, h)
  fields_in va True at line h = (omega arith, h)
  fields_in va False at line h = (omega arith, h)
  fields_in va Number at line h = on_bits (OnNode (In at)) _ tt (bits_at s at) _ λ b e. (omega arith, bits_inside s at b e)
  fields_in va Str at line h = on_text (OnNode (In at)) _ tt (text_at s at) _ λ t e. let i = text_inside s at t e in (omega arith, i.1)
  fields_in va VarArg at line h = on_require (OnNode (In at)) _ tt va _ (omega arith, h)
  fields_in va Name at line h = on_text (OnNode (In at)) _ tt (text_at s at) _ λ t e. let i = text_inside s at t e in (omega arith, i.1)
  fields_in va Binary at line h = on_byte (OnNode (In at)) _ tt (byte_at s at) _ λ b e. on_bin (OnNode (In at)) _ tt (bin_op_of b) _ λ o. (omega arith, byte_inside s at b e)
  fields_in va Unary at line h = on_byte (OnNode (In at)) _ tt (byte_at s at) _ λ b e. on_un (OnNode (In at)) _ tt (un_op_of b) _ λ o. (omega arith, byte_inside s at b e)
  fields_in va Index at line h = (omega arith, h)
  fields_in va Field at line h = on_text (OnNode (In at)) _ tt (text_at s at) _ λ t e. let i = text_inside s at t e in (omega arith, i.1)
  fields_in va MethodCall at line h =
      on_text (OnNode (In at)) _ tt (text_at s at) _ λ t e.
      on_byte (OnNode (In at)) _ tt (byte_at s (end_of t)) _ λ n g.
      let i = text_inside s at t e in (omega arith, byte_inside s (end_of t) n g)
  fields_in va Call at line h = on_byte (OnNode (In at)) _ tt (byte_at s at) _ λ n e. (omega arith, byte_inside s at n e)
  fields_in va Paren at line h = (omega arith, h)

  weaker : (a b : ℕ) (r : Result Node Refusal) → b ≤ a → OnNode (In a) r → OnNode (In b) r
  weaker a b (Ok n) h i = (omega arith, i.1)
  weaker a b (Err k) h i = tt

  -- so is the fields' start
  abbrev FrontIn : ℕ → Result Front Refusal → Type 0
  FrontIn at (Ok r) = (at ≤ r.next) × (r.next ≤ length s)
  FrontIn at (Err k) = Unit {0}

  front_in : (at line : ℕ) → FrontIn (at + 2) (front_at s at line)
  front_in at line =
      on_byte (FrontIn (at + 2)) _ tt (byte_at s at) _ λ b e.
      on_kind (FrontIn (at + 2)) _ tt (kind_of b) _ λ k.
      on_byte (FrontIn (at + 2)) _ tt (byte_at s (at + 1)) _ λ m g.
      on_require (FrontIn (at + 2)) _ tt (eqb (m / 2) (map_of k)) _
      (on_test (FrontIn (at + 2)) (eqb (m % 2) 0) _ _
      (omega arith, omega (arith, byte_inside s (at + 1) m g))
      (on_line (FrontIn (at + 2)) _ tt (line_at s (at + 2)) _ λ l i. (omega arith, omega (arith, line_inside s (at + 2) l i))))

  behind_front : (va : Bool) (at : ℕ) (f : Result Front Refusal) → FrontIn at f → OnNode (In at) (with_front f (fields_at s va))
  behind_front va at (Ok r) h = weaker r.next at (fields_at s va r.kind r.next r.line) h.0 (fields_in va r.kind r.next r.line h.1)
  behind_front va at (Err k) h = tt

  node_all : (va : Bool) (at line : ℕ) → OnNode (In (at + 2)) (node_at s va at line)
  unfolding node_at
  node_all va at line = behind_front va (at + 2) (front_at s at line) (front_in at line)

  pub node_in : (va : Bool) (at line : ℕ) (n : Extent) → extent_of (node_at s va at line) ≡ Ok n → (at + 2 ≤ n.next) × (n.next ≤ length s)
  node_in va at line n e = rw e at (node_all va at line)

  abbrev HeaderIn : Header → Type 0
  HeaderIn h = h.next ≤ length s

  formulas_in : (locals place : ℕ) (va : Bool) (at : ℕ) → OnHeader HeaderIn (formulas_at s locals place va at)
  unfolding formulas_at
  formulas_in locals place va at = on_byte (OnHeader HeaderIn) _ tt (byte_at s at) _ λ n e. byte_inside s at n e

  header_all : OnHeader HeaderIn (header_at s)
  unfolding header_at
  header_all =
      on_byte (OnHeader HeaderIn) _ tt (byte_at s 0) _ λ m e.
      on_require (OnHeader HeaderIn) _ tt (leb m 3) _
      (on_test (OnHeader HeaderIn) (eqb (m % 2) 0) _ _
      (formulas_in 0 1 (eqb (m / 2 % 2) 1) 1)
      (on_byte (OnHeader HeaderIn) _ tt (byte_at s 1) _ λ n g.
      on_require (OnHeader HeaderIn) _ tt (leb n 200) _
      (on_skipped (OnHeader HeaderIn) _ tt (skipped (names_at s n 2)) _ λ p.
      formulas_in n 2 (eqb (m / 2 % 2) 1) p)))

  pub header_in : (h : Header) → header_at s ≡ Ok h → h.next ≤ length s
  header_in h e = rw e at header_all
