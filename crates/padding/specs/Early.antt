-- The form refuses with refusals of the form only. By the cases of reading. Assumes nothing.
-- What rests on something that a must-fail edit breaks stands in proofs/Early.antt.
use Prim.Native.Nat.{ℕ, zero, suc, ◌+◌, ◌/◌, ◌%◌}
use Rattle.std.specs.Prelude.{Bool, ◌≡◌, List, length, eqb, Result, Ok, Err}
use Rattle.std.proofs.Math.Path.{refl}
pub use Rattle.refusals.specs.Stage.{stage_of, form}
use Rattle.refusals.specs.declared.Refusal.{Refusal}
use Rattle.cursor.specs.Fields.{byte_at, line_at, bits_at, text_at, end_of}
use Rattle.ast.specs.Kinds.{kind_of, map_of}
use Rattle.ast.specs.Operators.{bin_op_of, un_op_of}
use Rattle.ast.specs.declared.Kind.{Kind}
use Rattle.ast.specs.declared.Kind.TheVariants.{Nil, True, False, Number, Str, VarArg, Name, Binary, Unary, Index, Field, MethodCall, Call, Paren}
use Rattle.ast.specs.declared.Head.{Head}
use Rattle.ast.specs.declared.Head.TheVariants as head
use Rattle.nodes.specs.Nodes.{fields_at, front_at}
use Rattle.nodes.specs.Reads.{on_byte, on_line, on_bits, on_text, on_kind, on_bin, on_un, on_require, on_test}
use Rattle.chunk.specs.Ast.{Span, Expr, Exprs}
use Rattle.chunk.specs.Headers.{formulas_at}
use Rattle.chunk.specs.Form.{Parsed, parsed, refused as unparsed, with_parsed, exprs_at, rest, Formed, formed, unformed, ended}
use Rattle.chunk.specs.declared.header.Header.{Header}
use Rattle.ast.specs.declared.Node.{Node}
use Rattle.nodes.specs.declared.node.Front.{Front}

-- what each reader refuses with is of the form
abbrev OfForm : Refusal → Type 0
OfForm x = stage_of x ≡ form

abbrev pub OfFormNode : Result Node Refusal → Type 0
OfFormNode (Ok n) = Unit {0}
OfFormNode (Err k) = OfForm k

abbrev pub OfFormFront : Result Front Refusal → Type 0
OfFormFront (Ok r) = Unit {0}
OfFormFront (Err k) = OfForm k

abbrev pub OfFormHeader : Result Header Refusal → Type 0
OfFormHeader (Ok h) = Unit {0}
OfFormHeader (Err k) = OfForm k

abbrev pub OfFormParsed : {A : Type 0} → Parsed A → Type 0
OfFormParsed (parsed a at line) = Unit {0}
OfFormParsed (unparsed k) = OfForm k

abbrev pub OfFormFormed : Formed → Type 0
OfFormFormed (formed c) = Unit {0}
OfFormFormed (unformed k) = OfForm k

module _ (s : List ℕ) where
  -- ---- nodes

  pub form_fields : (va : Bool) (k : Kind) (at line : ℕ) → OfFormNode (fields_at s va k at line)
  unfolding fields_at
  form_fields va Nil at line = tt
  form_fields va True at line = tt
  form_fields va False at line = tt
  form_fields va Number at line = on_bits OfFormNode _ refl (bits_at s at) _ λ b e. tt
  form_fields va Str at line = on_text OfFormNode _ refl (text_at s at) _ λ t e. tt
  form_fields va VarArg at line = on_require OfFormNode _ refl va _ tt
  form_fields va Name at line = on_text OfFormNode _ refl (text_at s at) _ λ t e. tt
  form_fields va Binary at line = on_byte OfFormNode _ refl (byte_at s at) _ λ b e. on_bin OfFormNode _ refl (bin_op_of b) _ λ o. tt
  form_fields va Unary at line = on_byte OfFormNode _ refl (byte_at s at) _ λ b e. on_un OfFormNode _ refl (un_op_of b) _ λ o. tt
  form_fields va Index at line = tt
  form_fields va Field at line = on_text OfFormNode _ refl (text_at s at) _ λ t e. tt
  form_fields va MethodCall at line = on_text OfFormNode _ refl (text_at s at) _ λ t e. on_byte OfFormNode _ refl (byte_at s (end_of t)) _ λ n g. tt
  form_fields va Call at line = on_byte OfFormNode _ refl (byte_at s at) _ λ n e. tt
  form_fields va Paren at line = tt

  pub form_front : (at line : ℕ) → OfFormFront (front_at s at line)
  form_front at line =
      on_byte OfFormFront _ refl (byte_at s at) _ λ b e.
      on_kind OfFormFront _ refl (kind_of b) _ λ k.
      on_byte OfFormFront _ refl (byte_at s (at + 1)) _ λ m g.
      on_require OfFormFront _ refl (eqb (m / 2) (map_of k)) _
      (on_test OfFormFront (eqb (m % 2) 0) _ _ tt (on_line OfFormFront _ refl (line_at s (at + 2)) _ λ l i. tt))

  -- ---- expressions

  form_then : {A B : Type 0} (r : Parsed A) (f : A → ℕ → ℕ → Parsed B) → OfFormParsed r → ((a : A) (at line : ℕ) → OfFormParsed (f a at line)) → OfFormParsed (with_parsed r f)
  form_then (parsed a at line) f h g = g a at line
  form_then (unparsed k) f h g = h

  module _ (f : ℕ → ℕ → Parsed Expr) (low : (at line : ℕ) → OfFormParsed (f at line)) where
    pub form_exprs : (n at line : ℕ) → OfFormParsed (exprs_at f n at line)
    unfolding exprs_at
    form_exprs zero at line = tt
    form_exprs (suc n) at line = form_then (f at line) _ (low at line) λ a at₁ line₁. form_then (exprs_at f n at₁ line₁) _ (form_exprs n at₁ line₁) λ es at₂ line₂. tt

    pub form_rest : (p : Span) (h : Head) (at line : ℕ) → OfFormParsed (rest f p h at line)
    unfolding rest
    form_rest p (head.Leaf l) at line = tt
    form_rest p (head.One o) at line = form_then (f at line) _ (low at line) λ a at₁ line₁. tt
    form_rest p (head.Two t) at line = form_then (f at line) _ (low at line) λ a at₁ line₁. form_then (f at₁ line₁) _ (low at₁ line₁) λ b at₂ line₂. tt
    form_rest p (head.Many m n) at line = form_then (f at line) _ (low at line) λ a at₁ line₁. form_then (exprs_at f n at₁ line₁) _ (form_exprs n at₁ line₁) λ es at₂ line₂. tt

  -- ---- the chunk

  pub form_formulas : (locals place : ℕ) (va : Bool) (at : ℕ) → OfFormHeader (formulas_at s locals place va at)
  unfolding formulas_at
  form_formulas locals place va at = on_byte OfFormHeader _ refl (byte_at s at) _ λ n e. tt

  pub form_ended : (h : Header) (fs : Exprs) (at : ℕ) → OfFormFormed (ended s h fs at)
  unfolding ended
  form_ended h fs at = on_test OfFormFormed (eqb at (length s)) _ _ tt refl
