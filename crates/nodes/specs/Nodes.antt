-- A node's fields at a place, and its refusals in the order of document 01. Assumes nothing.
use Rattle.std.specs.Prelude.{ℕ, ◌+◌, ◌/◌, ◌%◌, List, Bool, true, false, eqb, Option, Some, None, Result, Ok, Err}
use Rattle.refusals.specs.declared.Refusal.TheVariants as refusal
use Rattle.ast.specs.Kinds.{kind_of, map_of}
use Rattle.ast.specs.Operators.{bin_op_of, un_op_of}
use Rattle.cursor.specs.Fields.{byte_at, line_at, bits_at, text_at, end_of}
use Rattle.ast.specs.declared.Kind.{Kind}
use Rattle.ast.specs.declared.Kind.TheVariants.{Nil, True, False, Number, Str, VarArg, Name, Binary, Unary, Index, Field, MethodCall, Call, Paren}
use Rattle.ast.specs.declared.BinOp.{BinOp}
use Rattle.ast.specs.declared.UnOp.{UnOp}
use Rattle.cursor.specs.declared.Text.{Text}
use Rattle.ast.specs.declared.Leaf.TheVariants as leaf
use Rattle.ast.specs.declared.One.TheVariants as one
use Rattle.ast.specs.declared.Two.TheVariants as two
use Rattle.ast.specs.declared.Many.TheVariants as many
use Rattle.ast.specs.declared.Head.{Head}
use Rattle.ast.specs.declared.Head.TheVariants as head
use Rattle.ast.specs.declared.Node.{Node}
use Rattle.refusals.specs.declared.Refusal.{Refusal}
use Rattle.nodes.specs.declared.node.Front.{Front}

-- what was read goes on to the rest; a missing byte, an unknown number or a test that fails is the answer
abbrev pub with_byte : {A : Type 0} → Option ℕ → A → (ℕ → A) → A
with_byte None r f = r
with_byte (Some b) r f = f b

abbrev pub with_line : {A : Type 0} → Option ℕ → A → (ℕ → A) → A
with_line None r f = r
with_line (Some l) r f = f l

abbrev pub with_bits : {A : Type 0} → Option ℕ → A → (ℕ → A) → A
with_bits None r f = r
with_bits (Some b) r f = f b

abbrev pub with_text : {A : Type 0} → Option Text → A → (Text → A) → A
with_text None r f = r
with_text (Some t) r f = f t

abbrev pub with_kind : {A : Type 0} → Result Kind Refusal → A → (Kind → A) → A
with_kind (Err e) r f = r
with_kind (Ok k) r f = f k

abbrev pub with_bin_op : {A : Type 0} → Result BinOp Refusal → A → (BinOp → A) → A
with_bin_op (Err e) r f = r
with_bin_op (Ok o) r f = f o

abbrev pub with_un_op : {A : Type 0} → Result UnOp Refusal → A → (UnOp → A) → A
with_un_op (Err e) r f = r
with_un_op (Ok o) r f = f o

abbrev pub require : {A : Type 0} → Bool → A → (Unit {0} → A) → A
require false r f = r
require true r f = f tt

-- refusals 2 and 4 where a node would be
abbrev pub missing : Result Node Refusal
missing = Err refusal.Missing

abbrev pub unknown : Result Node Refusal
unknown = Err refusal.Kind

abbrev pub node : Head → ℕ → ℕ → Result Node Refusal
node h line next = Ok (record { head = h; line = line; next = next })

-- the fields behind kind, map and line, in bit order; 4 for an unknown operator, 7 for a vararg in a chunk without varargs
unfoldable pub fields_at : List ℕ → Bool → Kind → ℕ → ℕ → Result Node Refusal
fields_at s va Nil at line = node (head.Leaf leaf.Nil) line at
fields_at s va True at line = node (head.Leaf leaf.True) line at
fields_at s va False at line = node (head.Leaf leaf.False) line at
fields_at s va Number at line = with_bits (bits_at s at) missing λ b. node (head.Leaf (leaf.Number b)) line (at + 8)
fields_at s va Str at line = with_text (text_at s at) missing λ t. node (head.Leaf (leaf.Str t)) line (end_of t)
fields_at s va VarArg at line = require va (Err refusal.Varargs) λ _. node (head.Leaf leaf.VarArg) line at
fields_at s va Name at line = with_text (text_at s at) missing λ t. node (head.Leaf (leaf.Name t)) line (end_of t)
fields_at s va Binary at line = with_byte (byte_at s at) missing λ b. with_bin_op (bin_op_of b) unknown λ o. node (head.Two (two.Binary o)) line (at + 1)
fields_at s va Unary at line = with_byte (byte_at s at) missing λ b. with_un_op (un_op_of b) unknown λ o. node (head.One (one.Unary o)) line (at + 1)
fields_at s va Index at line = node (head.Two two.Index) line at
fields_at s va Field at line = with_text (text_at s at) missing λ t. node (head.One (one.Field t)) line (end_of t)
fields_at s va MethodCall at line =
    with_text (text_at s at) missing λ t. with_byte (byte_at s (end_of t)) missing λ n. node (head.Many (many.MethodCall t) n) line (end_of t + 1)
fields_at s va Call at line = with_byte (byte_at s at) missing λ n. node (head.Many many.Call n) line (at + 1)
fields_at s va Paren at line = node (head.One one.Paren) line at

-- what stands before the fields: kind byte, map byte, line if its bit stands. The kind, the place of the fields, and the node's line
abbrev pub front_at : List ℕ → ℕ → ℕ → Result Front Refusal
front_at s at line =
    with_byte (byte_at s at) (Err refusal.Missing) λ b.
    with_kind (kind_of b) (Err refusal.Kind) λ k.
    with_byte (byte_at s (at + 1)) (Err refusal.Missing) λ m.
    require (eqb (m / 2) (map_of k)) (Err refusal.Map) λ _.
    elim (eqb (m % 2) 0) [
      | true ↦ Ok (record { kind = k; next = at + 2; line = line })
      | false ↦ with_line (line_at s (at + 2)) (Err refusal.Missing) λ l. Ok (record { kind = k; next = at + 6; line = l })
    ]

-- the fields read by f behind what stands before them
abbrev pub with_front : Result Front Refusal → (Kind → ℕ → ℕ → Result Node Refusal) → Result Node Refusal
with_front (Err k) f = Err k
with_front (Ok r) f = f r.kind r.next r.line

-- what stands before the fields, and the kind's fields; a missing line is that of the node before
unfoldable pub node_at : List ℕ → Bool → ℕ → ℕ → Result Node Refusal
node_at s va at line = with_front (front_at s at line) (fields_at s va)
