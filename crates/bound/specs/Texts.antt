-- Each node has two bytes at least, and behind them its text; they lie in the chunk one behind the other, so together they are no more than the bytes that were read. By the cases of reading a node, and by induction as it is read.
-- What rests on something that a must-fail edit breaks stands in proofs/Texts.antt.
use Prim.Native.Nat.{ℕ, zero, suc, ◌+◌, ◌*◌, ◌/◌, ◌%◌, ◌≤◌}
use Rattle.std.specs.Prelude.{Bool, refl, List, length, eqb, Option, Some, None, Result, Ok, Err}
use Rattle.std.proofs.Math.Bool.{true, false}
use Rattle.std.proofs.Math.Path.{◌≡◌, ap}
use native.Mathlib.Omega.{arith}
use Rattle.std.proofs.Common.{length-append}
use Rattle.cursor.specs.Fields.{le2, has_bytes, byte_at, line_at, bits_at, text_at, end_of}
use Rattle.cursor.specs.declared.Text.{Text}
use Rattle.ast.specs.Kinds.{kind_of, map_of}
use Rattle.ast.specs.Operators.{bin_op_of, un_op_of}
use Rattle.ast.specs.declared.Kind.{Kind}
use Rattle.ast.specs.declared.Kind.TheVariants.{Nil, True, False, Number, Str, VarArg, Name, Binary, Unary, Index, Field, MethodCall, Call, Paren}
use Rattle.ast.specs.declared.Leaf.{Leaf}
use Rattle.ast.specs.declared.One.{One}
use Rattle.ast.specs.declared.Two.{Two}
use Rattle.ast.specs.declared.Many.{Many}
use Rattle.ast.specs.declared.Head.{Head}
use Rattle.ast.specs.declared.Head.TheVariants as head
use Rattle.nodes.specs.Nodes.{fields_at, front_at}
use Rattle.nodes.specs.Reads.{on_byte, on_line, on_bits, on_text, on_kind, on_bin, on_un, on_require, on_test}
use Rattle.chunk.specs.Ast.{Span, Expr, leaf as leaf_node, one as one_node, two as two_node, many as many_node, Exprs, none as no_more, more, spans, spans_of}
use Rattle.chunk.specs.Form.{Parsed, parsed, exprs_at, rest}
use Rattle.simulation.specs.Parsing.{invert, same_parsed}
use Rattle.bound.specs.Takes.{text}
use Rattle.bound.specs.Expressions.{own_leaf, own_one, own_many, cost, costs}
use Rattle.ast.specs.declared.Node.{Node}
use Rattle.refusals.specs.declared.Refusal.{Refusal}
use Rattle.nodes.specs.declared.node.Front.{Front}

-- two bytes for each node, and its text
abbrev pub bytes : Expr → ℕ
bytes a = 2 * length (spans a) + cost text a

abbrev pub bytes_all : Exprs → ℕ
bytes_all es = 2 * length (spans_of es) + costs text es

bytes_leaf : (s : Span) (l : Leaf) → bytes (leaf_node s l) ≡ 2 + own_leaf text l
unfolding cost spans
bytes_leaf s l = omega arith

bytes_one : (s : Span) (o : One) (a : Expr) → bytes (one_node s o a) ≡ bytes a + (2 + own_one text o)
unfolding cost spans
bytes_one s o a = omega arith

bytes_two : (s : Span) (t : Two) (a b : Expr) → bytes (two_node s t a b) ≡ bytes a + bytes b + 2
unfolding cost spans
bytes_two s t a b = simp length-append (omega arith)

bytes_many : (s : Span) (k : Many) (a : Expr) (es : Exprs) → bytes (many_node s k a es) ≡ bytes a + bytes_all es + (2 + own_many text k)
unfolding cost spans
bytes_many s k a es = simp length-append (omega arith)

bytes_none : bytes_all no_more ≡ 0
unfolding costs spans_of
bytes_none = refl

bytes_more : (a : Expr) (es : Exprs) → bytes_all (more a es) ≡ bytes a + bytes_all es
unfolding costs spans_of
bytes_more a es = simp length-append (omega arith)

-- the bytes of a node's text
abbrev pub own : Head → ℕ
own (head.Leaf l) = own_leaf text l
own (head.One o) = own_one text o
own (head.Two t) = 0
own (head.Many k n) = own_many text k

-- a node that is read from a place on ends behind its kind, its map and its text
abbrev pub Behind : ℕ → Result Node Refusal → Type 0
Behind at (Ok n) = at + (2 + own n.head) ≤ n.next
Behind at (Err x) = Unit {0}

-- and behind its text, from the place of its fields on
abbrev BehindFields : ℕ → Result Node Refusal → Type 0
BehindFields at (Ok n) = at + own n.head ≤ n.next
BehindFields at (Err x) = Unit {0}

abbrev pub BehindFront : ℕ → Result Front Refusal → Type 0
BehindFront at (Ok r) = at + 2 ≤ r.next
BehindFront at (Err x) = Unit {0}

module _ (s : List ℕ) where
  text_behind : (at : ℕ) (t : Text) → text_at s at ≡ Some t → at + t.len ≤ end_of t
  unfolding text_at
  text_behind at t e = go (has_bytes s at 2) (has_bytes s (at + 2) (le2 s at)) e
    where
      go : (x y : Bool) → elim x as (λ (_ : Bool). Option Text) [ true ↦ elim y as (λ (_ : Bool). Option Text) [ true ↦ Some (record { start = at + 2; len = le2 s at }) | false ↦ None ] | false ↦ None ] ≡ Some t → at + t.len ≤ end_of t
      go true true q = let z : record { start = at + 2; len = le2 s at } ≡ t = cc in omega (arith, ap (λ y. y.start) z)
      go true false q = absurd (let z : ◌≡◌ {A = ℕ} 0 1 = cc in omega arith)
      go false y q = absurd (let z : ◌≡◌ {A = ℕ} 0 1 = cc in omega arith)

  pub fields_behind : (va : Bool) (k : Kind) (at line : ℕ) → BehindFields at (fields_at s va k at line)
  unfolding fields_at
  fields_behind va Nil at line = omega arith
  fields_behind va True at line = omega arith
  fields_behind va False at line = omega arith
  fields_behind va Number at line = on_bits (BehindFields at) _ tt (bits_at s at) _ λ b e. omega arith
  fields_behind va Str at line = on_text (BehindFields at) _ tt (text_at s at) _ λ t e. text_behind at t e
  fields_behind va VarArg at line = on_require (BehindFields at) _ tt va _ (omega arith)
  fields_behind va Name at line = on_text (BehindFields at) _ tt (text_at s at) _ λ t e. text_behind at t e
  fields_behind va Binary at line = on_byte (BehindFields at) _ tt (byte_at s at) _ λ b e. on_bin (BehindFields at) _ tt (bin_op_of b) _ λ o. omega arith
  fields_behind va Unary at line = on_byte (BehindFields at) _ tt (byte_at s at) _ λ b e. on_un (BehindFields at) _ tt (un_op_of b) _ λ o. omega arith
  fields_behind va Index at line = omega arith
  fields_behind va Field at line = on_text (BehindFields at) _ tt (text_at s at) _ λ t e. text_behind at t e
  fields_behind va MethodCall at line = on_text (BehindFields at) _ tt (text_at s at) _ λ t e. on_byte (BehindFields at) _ tt (byte_at s (end_of t)) _ λ n g. omega (arith, text_behind at t e)
  fields_behind va Call at line = on_byte (BehindFields at) _ tt (byte_at s at) _ λ n e. omega arith
  fields_behind va Paren at line = omega arith

  pub front_behind : (at line : ℕ) → BehindFront at (front_at s at line)
  front_behind at line =
      on_byte (BehindFront at) _ tt (byte_at s at) _ λ b e.
      on_kind (BehindFront at) _ tt (kind_of b) _ λ k.
      on_byte (BehindFront at) _ tt (byte_at s (at + 1)) _ λ m g.
      on_require (BehindFront at) _ tt (eqb (m / 2) (map_of k)) _
      (on_test (BehindFront at) (eqb (m % 2) 0) _ _ (omega arith) (on_line (BehindFront at) _ tt (line_at s (at + 2)) _ λ l i. omega arith))

  pub earlier : (at at' : ℕ) (r : Result Node Refusal) → at + 2 ≤ at' → BehindFields at' r → Behind at r
  earlier at at' (Ok n) l h = omega (arith, l, h)
  earlier at at' (Err x) l h = tt

  -- ---- trees

  -- sub-expressions are read by F
  module _ (F : ℕ → ℕ → Parsed Expr) (reads : (a : Expr) (at line at' line' : ℕ) → F at line ≡ parsed a at' line' → at + bytes a ≤ at') where
    pub exprs_behind : (n : ℕ) (es : Exprs) (at line at' line' : ℕ) → exprs_at F n at line ≡ parsed es at' line' → at + bytes_all es ≤ at'
    unfolding exprs_at
    exprs_behind zero es at line at' line' e = let w = same_parsed no_more es at line at' line' e in omega (arith, bytes_none, ap bytes_all w.0, w.1.0)
    exprs_behind (suc n) es at line at' line' e =
        let v = invert (F at line) _ es at' line' e in
        let u = invert (exprs_at F n v.place v.own_line) _ es at' line' v.then in
        let w = same_parsed (more v.value u.value) es u.place u.own_line at' line' u.then in
        omega (arith, reads v.value at line v.place v.own_line v.first, exprs_behind n u.value v.place v.own_line u.place u.own_line u.first, bytes_more v.value u.value, ap bytes_all w.0, w.1.0)

    pub head_behind : (sp : Span) (h : Head) (d : Expr) (at line at' line' : ℕ) → rest F sp h at line ≡ parsed d at' line' → at + bytes d ≤ at' + (2 + own h)
    unfolding rest
    head_behind sp (head.Leaf x) d at line at' line' e = let w = same_parsed (leaf_node sp x) d at line at' line' e in omega (arith, bytes_leaf sp x, ap bytes w.0, w.1.0)
    head_behind sp (head.One o) d at line at' line' e =
        let v = invert (F at line) _ d at' line' e in
        let w = same_parsed (one_node sp o v.value) d v.place v.own_line at' line' v.then in
        omega (arith, reads v.value at line v.place v.own_line v.first, bytes_one sp o v.value, ap bytes w.0, w.1.0)
    head_behind sp (head.Two t) d at line at' line' e =
        let v = invert (F at line) _ d at' line' e in
        let u = invert (F v.place v.own_line) _ d at' line' v.then in
        let w = same_parsed (two_node sp t v.value u.value) d u.place u.own_line at' line' u.then in
        omega (arith, reads v.value at line v.place v.own_line v.first, reads u.value v.place v.own_line u.place u.own_line u.first, bytes_two sp t v.value u.value, ap bytes w.0, w.1.0)
    head_behind sp (head.Many k n) d at line at' line' e =
        let v = invert (F at line) _ d at' line' e in
        let u = invert (exprs_at F n v.place v.own_line) _ d at' line' v.then in
        let w = same_parsed (many_node sp k v.value u.value) d u.place u.own_line at' line' u.then in
        omega (arith, reads v.value at line v.place v.own_line v.first, exprs_behind n u.value v.place v.own_line u.place u.own_line u.first, bytes_many sp k v.value u.value, ap bytes w.0, w.1.0)
