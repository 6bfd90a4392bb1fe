-- What is known of an accepted chunk: its header, its names, as many as it says, and its formulas, parsed from behind the header to the chunk's end. Read off `form_of` and `header_at` case by case.
use Prim.Native.Nat.{ℕ, zero, suc, ◌/◌, ◌%◌}
use Rattle.std.specs.Prelude.{Bool, List, leb, Option, Some, None, Result, Ok, Err}
use Rattle.std.proofs.Math.Bool.{true, false}
use Rattle.std.proofs.Math.Path.{◌≡◌, refl, ap}
use Rattle.std.proofs.Common.{◌∙◌, subst, arith}
use Rattle.std.proofs.Math.ListN.{length}
use Rattle.std.proofs.Math.Dec.{eqb}
use borrow.Author.Tests.{eqb-true}
use Rattle.refusals.specs.declared.Refusal.{Refusal}
use Rattle.refusals.specs.declared.Refusal.TheVariants as refusal
use Rattle.cursor.specs.Fields.{byte_at, text_at, end_of}
use Rattle.cursor.specs.declared.Text.{Text}
use Rattle.nodes.specs.Nodes.{with_byte, with_text, require}
use Rattle.nodes.specs.Reads.{on_byte, on_require}
use Rattle.chunk.specs.Ast.{Exprs, Chunk}
use Rattle.chunk.specs.Headers.{max_locals, Names, names, missing, before, names_at, skipped, with_skipped, formulas_at, header_at}
use Rattle.chunk.specs.Form.{max_length, max_nesting, Parsed, parsed, refused, exprs_at, expr_at, Formed, formed, unformed, with_header, with_exprs, names_of, ended, form_of}
use Rattle.chunk.specs.declared.header.Header.{Header}

pub record Accepted (s : List ℕ) (c : Chunk) : Type 0 where
  pub head : Header
  pub is_head : header_at s ≡ Ok head
  pub at : ℕ
  pub line : ℕ
  pub formulas : exprs_at (expr_at s head.varargs max_nesting) head.formulas head.next 1 ≡ parsed c.formulas at line
  pub names_are : c.names ≡ names_of (names_at s head.locals head.names)
  pub whole : at ≡ length s

module _ (s : List ℕ) (c : Chunk) where
  ended_as : (h : Header) (fs : Exprs) (at line : ℕ) → header_at s ≡ Ok h → exprs_at (expr_at s h.varargs max_nesting) h.formulas h.next 1 ≡ parsed fs at line → ended s h fs at ≡ formed c → Accepted s c
  unfolding ended
  ended_as h fs at line hh e z = go (eqb at (length s)) refl z
    where
      go : (t : Bool) → eqb at (length s) ≡ t → elim t as (λ (_ : Bool). Formed) [ true ↦ formed (record { names = names_of (names_at s h.locals h.names); varargs = h.varargs; formulas = fs }) | false ↦ unformed refusal.Trailing ] ≡ formed c → Accepted s c
      go false q y = absurd (let w : ◌≡◌ {A = ℕ} 0 1 = cc in omega arith)
      go true q y = record { head = h; is_head = hh; at = at; line = line; formulas = e ∙ ap (λ z. parsed z at line) cc; names_are = cc; whole = eqb-true at (length s) q }

  exprs_as : (h : Header) → header_at s ≡ Ok h → (r : Parsed Exprs) → exprs_at (expr_at s h.varargs max_nesting) h.formulas h.next 1 ≡ r → with_exprs r (ended s h) ≡ formed c → Accepted s c
  exprs_as h hh (parsed fs at line) e z = ended_as h fs at line hh e z
  exprs_as h hh (refused k) e z = absurd (let w : ◌≡◌ {A = ℕ} 0 1 = cc in omega arith)

  header_as : (r : Result Header Refusal) → header_at s ≡ r → with_header r (λ h. with_exprs (exprs_at (expr_at s h.varargs max_nesting) h.formulas h.next 1) (ended s h)) ≡ formed c → Accepted s c
  header_as (Ok h) e z = exprs_as h e (exprs_at (expr_at s h.varargs max_nesting) h.formulas h.next 1) refl z
  header_as (Err k) e z = absurd (let w : ◌≡◌ {A = ℕ} 0 1 = cc in omega arith)

  pub accepted : form_of s ≡ formed c → Accepted s c
  unfolding form_of
  accepted z = go (leb (length s) max_length) z
    where
      go : (t : Bool) → elim t as (λ (_ : Bool). Formed) [ true ↦ with_header (header_at s) (λ h. with_exprs (exprs_at (expr_at s h.varargs max_nesting) h.formulas h.next 1) (ended s h)) | false ↦ unformed refusal.TooLong ] ≡ formed c → Accepted s c
      go false y = absurd (let w : ◌≡◌ {A = ℕ} 0 1 = cc in omega arith)
      go true y = header_as (header_at s) refl y

-- ---- as many names as the header says

module _ (s : List ℕ) where
  one_more : (n : ℕ) (t : Text) (r : Names) → ((to : ℕ) → skipped r ≡ Some to → length (names_of r) ≡ n) → (to : ℕ) → skipped (before t r) ≡ Some to → length (names_of (before t r)) ≡ suc n
  one_more n t (names ts p) h to e = ap suc (h to e)
  one_more n t missing h to e = absurd (let w : ◌≡◌ {A = ℕ} 0 1 = cc in omega arith)

  all_names : (n at to : ℕ) → skipped (names_at s n at) ≡ Some to → length (names_of (names_at s n at)) ≡ n
  unfolding names_at
  all_names zero at to e = refl
  all_names (suc n) at to e = go (text_at s at) e (λ t. all_names n (end_of t))
    where
      go : (r : Option Text) → skipped (with_text r missing (λ t. before t (names_at s n (end_of t)))) ≡ Some to → ((t : Text) (to : ℕ) → skipped (names_at s n (end_of t)) ≡ Some to → length (names_of (names_at s n (end_of t))) ≡ n) → length (names_of (with_text r missing (λ t. before t (names_at s n (end_of t))))) ≡ suc n
      go None z h = absurd (let w : ◌≡◌ {A = ℕ} 0 1 = cc in omega arith)
      go (Some t) z h = one_more n t (names_at s n (end_of t)) (h t) to z

  abbrev Named : Result Header Refusal → Type 0
  Named (Ok h) = length (names_of (names_at s h.locals h.names)) ≡ h.locals
  Named (Err k) = Unit {0}

  named_formulas : (locals place : ℕ) (va : Bool) (at : ℕ) → length (names_of (names_at s locals place)) ≡ locals → Named (formulas_at s locals place va at)
  unfolding formulas_at
  named_formulas locals place va at e = on_byte Named _ tt (byte_at s at) _ (λ n f. e)

  named_skipped : (n : ℕ) (r : Option ℕ) (k : Refusal) (va : Bool) → skipped (names_at s n 2) ≡ r → Named (with_skipped r (Err k) (λ at. formulas_at s n 2 va at))
  named_skipped n None k va e = tt
  named_skipped n (Some to) k va e = named_formulas n 2 va to (all_names n 2 to e)

  no_names : length (names_of (names_at s 0 1)) ≡ 0
  unfolding names_at
  no_names = refl

  named : Named (header_at s)
  unfolding header_at
  named = on_byte Named _ tt (byte_at s 0) _ (λ m f. on_require Named _ tt (leb m 3) _ (go m (eqb (m % 2) 0)))
    where
      go : (m : ℕ) (t : Bool) → Named (elim t as (λ (_ : Bool). Result Header Refusal) [ true ↦ formulas_at s 0 1 (eqb (m / 2 % 2) 1) 1 | false ↦ with_byte (byte_at s 1) (Err refusal.Missing) (λ n. require (leb n max_locals) (Err refusal.Locals) (λ _. with_skipped (skipped (names_at s n 2)) (Err refusal.Missing) (λ at. formulas_at s n 2 (eqb (m / 2 % 2) 1) at))) ])
      go m true = named_formulas 0 1 (eqb (m / 2 % 2) 1) 1 no_names
      go m false = on_byte Named _ tt (byte_at s 1) _ (λ n f. on_require Named _ tt (leb n max_locals) _ (named_skipped n (skipped (names_at s n 2)) refusal.Missing (eqb (m / 2 % 2) 1) refl))

  pub header_names : (h : Header) → header_at s ≡ Ok h → length (names_of (names_at s h.locals h.names)) ≡ h.locals
  header_names h e = subst Named e named
