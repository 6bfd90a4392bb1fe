-- The form refuses with refusals of the form only. By the cases of reading. Assumes nothing.
use Prim.Native.Nat.{ℕ, zero, suc, ◌-◌, ◌/◌, ◌%◌}
use Rattle.std.specs.Prelude.{Bool, true, false, ◌≡◌, List, length, eqb, leb, Option, Some, None, Result, Ok, Err}
use Rattle.std.proofs.Math.Path.{refl}
use Rattle.std.proofs.Common.{subst}
use Rattle.refusals.specs.declared.Refusal.{Refusal}
use Rattle.refusals.specs.declared.Refusal.TheVariants as refusal
use Rattle.cursor.specs.Fields.{byte_at}
use Rattle.nodes.specs.Nodes.{fields_at, front_at, with_front, node_at}
use Rattle.nodes.specs.Reads.{on_byte, on_require, on_test}
use Rattle.chunk.specs.Ast.{Exprs}
use Rattle.chunk.specs.Headers.{max_locals, names_at, skipped, with_skipped, formulas_at, header_at}
use Rattle.chunk.specs.Form.{max_length, max_nesting, Parsed, parsed, refused as unparsed, exprs_at, rest, with_node, expr_at, Formed, unformed, with_header, with_exprs, ended, form_of}
use Rattle.chunk.specs.declared.header.Header.{Header}
use Rattle.padding.specs.Early.{OfFormFormed, OfFormFront, OfFormHeader, OfFormNode, OfFormParsed, form_ended, form_exprs, form_fields, form_formulas, form_front, form_rest, stage_of, form}
use Rattle.ast.specs.declared.Node.{Node}
use Rattle.nodes.specs.declared.node.Front.{Front}

module _ (s : List ℕ) where
  behind_front : (va : Bool) (f : Result Front Refusal) → OfFormFront f → OfFormNode (with_front f (fields_at s va))
  behind_front va (Ok r) h = form_fields s va r.kind r.next r.line
  behind_front va (Err k) h = h

  form_node : (va : Bool) (at line : ℕ) → OfFormNode (node_at s va at line)
  unfolding node_at
  form_node va at line = behind_front va (front_at s at line) (form_front s at line)

  form_expr : (va : Bool) (left at line : ℕ) → OfFormParsed (expr_at s va left at line)
  unfolding expr_at
  form_expr va zero at line = refl
  form_expr va (suc left) at line = go (node_at s va at line) (form_node va at line) (form_expr va left)
    where
      go : (r : Result Node Refusal) → OfFormNode r → ((at line : ℕ) → OfFormParsed (expr_at s va left at line)) → OfFormParsed (with_node r λ n. rest (expr_at s va left) (record { line = n.line; place = at; nesting = max_nesting - left }) n.head n.next n.line)
      go (Ok n) h g = form_rest s (expr_at s va left) g _ n.head n.next n.line
      go (Err k) h g = h

  form_names : (n : ℕ) (va : Bool) (r : Option ℕ) → OfFormHeader (with_skipped r (Err refusal.Missing) λ at. formulas_at s n 2 va at)
  form_names n va None = refl
  form_names n va (Some at) = form_formulas s n 2 va at

  form_header : OfFormHeader (header_at s)
  unfolding header_at
  form_header =
      on_byte OfFormHeader _ refl (byte_at s 0) _ λ m e.
      on_require OfFormHeader _ refl (leb m 3) _
      (on_test OfFormHeader (eqb (m % 2) 0) _ _ (form_formulas s 0 1 (eqb (m / 2 % 2) 1) 1)
      (on_byte OfFormHeader _ refl (byte_at s 1) _ λ n g. on_require OfFormHeader _ refl (leb n max_locals) _ (form_names n (eqb (m / 2 % 2) 1) (skipped (names_at s n 2)))))

  form_form : OfFormFormed (form_of s)
  unfolding form_of
  form_form = go (leb (length s) max_length) (header_at s) form_header
    where
      all : (h : Header) (r : Parsed Exprs) → OfFormParsed r → OfFormFormed (with_exprs r (ended s h))
      all h (parsed fs at line) l = form_ended s h fs at
      all h (unparsed k) l = l

      read : (r : Result Header Refusal) → OfFormHeader r → OfFormFormed (with_header r λ h. with_exprs (exprs_at (expr_at s h.varargs max_nesting) h.formulas h.next 1) (ended s h))
      read (Ok h) l = all h (exprs_at (expr_at s h.varargs max_nesting) h.formulas h.next 1) (form_exprs s (expr_at s h.varargs max_nesting) (form_expr h.varargs max_nesting) h.formulas h.next 1)
      read (Err k) l = l

      go : (t : Bool) (r : Result Header Refusal) → OfFormHeader r → OfFormFormed (elim t as (λ (_ : Bool). Formed) [ false ↦ unformed refusal.TooLong | true ↦ with_header r λ h. with_exprs (exprs_at (expr_at s h.varargs max_nesting) h.formulas h.next 1) (ended s h) ])
      go true r l = read r l
      go false r l = refl

  pub early : (x : Refusal) → form_of s ≡ unformed x → stage_of x ≡ form
  early x e = subst OfFormFormed e form_form
