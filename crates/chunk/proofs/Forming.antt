-- The ways through the form check: what is known on each gives the answer and the scratch of `checked`. By cases on what was read.
use Prim.Native.Nat.{ℕ, ◌≤◌, ◌<◌}
use mathlib.Core.Path.{◌≡◌, sym, ap, ◌∙◌}
use mathlib.Core.List.{List, []}
use native.Mathlib.Omega.{arith}
use native.Mathlib.Nat.{zero-add}
use lib.ListN.{length}
use borrow.Author.Tests.{le-leb, lt-leb, eq-eqb, ne_eqb}
use Rattle.std.specs.Prelude.{Result, Ok, Err}
use Rattle.buffers.specs.Pad.{zeros, pad}
use Rattle.buffers.specs.Laws.{pad_none, sets_pad}
use Rattle.refusals.specs.declared.Refusal.{Refusal}
use Rattle.refusals.specs.declared.Refusal.TheVariants as refusal
use Rattle.chunk.specs.Ast.{Exprs, spans_of, places_of}
use Rattle.chunk.specs.Headers.{header_at}
use Rattle.chunk.specs.Form.{Parsed, parsed, refused, expr_at, exprs_at, max_length, max_nesting, with_exprs, ended, form_of}
use Rattle.chunk.specs.Walks.{passed, Walked, checked, out}
use Rattle.chunk.specs.declared.header.Header.{Header}
use Rattle.chunk.specs.declared.form.Walk.{Walk}

-- a scratch of as many numbers, cleared
pub as_many : {m n : ℕ} {z : List ℕ} → zeros m ≡ z → m ≡ n → zeros n ≡ z
as_many e l = rw (← l) e

-- z is the scratch of n numbers when it was last cleared
module _ (s : List ℕ) (n : ℕ) (z : List ℕ) (cleared : zeros n ≡ z) where
  pub form_long : max_length < length s → checked (form_of s) n ≡ out (Err refusal.TooLong) z
  unfolding form_of
  form_long h = simp (form_of, lt-leb (length s) max_length h, cleared)

  pub form_header : (k : Refusal) → length s ≤ max_length → header_at s ≡ Err k → checked (form_of s) n ≡ out (Err k) z
  unfolding form_of
  form_header k h e = simp (form_of, le-leb (length s) max_length h, e, cleared)

  module _ (h : Header) (short : length s ≤ max_length) (read : header_at s ≡ Ok h) where
    abbrev formulas : Parsed Exprs
    formulas = exprs_at (expr_at s h.varargs max_nesting) h.formulas h.next 1

    is : form_of s ≡ with_exprs formulas (ended s h)
    unfolding form_of
    is = simp (form_of, le-leb (length s) max_length short, read)

    -- a walk over the formulas that began with a scratch z₀
    abbrev Walks : Parsed Exprs → List ℕ → Result Walk Refusal → List ℕ → Type 0
    Walks q z₀ R S = Walked spans_of q 0 z₀ R S

    pub form_cut : (k : Refusal) (z₀ S : List ℕ) → Walks formulas z₀ (Err k) S → checked (form_of s) n ≡ out (Err k) z
    form_cut k z₀ S w = rw is (go formulas w)
      where
        go : (q : Parsed Exprs) → Walks q z₀ (Err k) S → checked (with_exprs q (ended s h)) n ≡ out (Err k) z
        go (refused j) w₁ = let e : j ≡ k = cc in rw (e, cleared)
        go (parsed fs at line) w₁ = absurd (let y : ◌≡◌ {A = ℕ} 0 1 = cc in omega arith)

    -- where the walk ended at v
    module _ (v : Walk) (S : List ℕ) where
      place_is : (z₀ : List ℕ) (fs : Exprs) (at line : ℕ) → Walks (parsed fs at line) z₀ (Ok v) S → at ≡ v.at
      place_is z₀ fs at line w = let e : passed at line 0 (spans_of fs) ≡ v = cc in ap (λ (u : Walk). u.at) e

      pub form_trailing : (z₀ : List ℕ) → Walks formulas z₀ (Ok v) S → (v.at ≡ length s → ⊥) → checked (form_of s) n ≡ out (Err refusal.Trailing) z
      unfolding ended
      form_trailing z₀ w d = rw is (go formulas w)
        where
          go : (q : Parsed Exprs) → Walks q z₀ (Ok v) S → checked (with_exprs q (ended s h)) n ≡ out (Err refusal.Trailing) z
          go (refused j) w₁ = absurd (let y : ◌≡◌ {A = ℕ} 0 1 = cc in omega arith)
          go (parsed fs at line) w₁ = simp (ended, place_is z₀ fs at line w₁, ne_eqb v.at (length s) d, cleared)

      pub form_done : Walks formulas z (Ok v) S → v.at ≡ length s → checked (form_of s) n ≡ out (Ok v.nodes) S
      unfolding ended
      form_done w d = rw is (go formulas w)
        where
          go : (q : Parsed Exprs) → Walks q z (Ok v) S → checked (with_exprs q (ended s h)) n ≡ out (Ok v.nodes) S
          go (refused j) w₁ = absurd (let y : ◌≡◌ {A = ℕ} 0 1 = cc in omega arith)
          go (parsed fs at line) w₁ =
              let e : passed at line 0 (spans_of fs) ≡ v = cc in
              let nodes : length (spans_of fs) ≡ v.nodes = sym (zero-add _) ∙ ap (λ (u : Walk). u.nodes) e in
              let stored : pad n (places_of (spans_of fs)) ≡ S = sym (sets_pad n [] (places_of (spans_of fs))) ∙ rw (pad_none, cleared) w₁.1 in
              simp (ended, place_is z fs at line w₁, eq-eqb v.at (length s) d, nodes, stored)
