-- The entry, way by way: what `lowered` is once the form check has answered, as the code reads it. By the cases of the form. Assumes nothing.
use Rattle.std.specs.Prelude.{ℕ, ◌≤◌, ◌<◌, ◌≡◌, List, length, Result, Ok, Err}
use Rattle.std.proofs.Math.Path.{refl, ap}
use Rattle.std.proofs.Common.{sym, ◌∙◌, subst, arith}
use Rattle.std.proofs.lemmas.List.{length-map}
use borrow.Author.Tests.{le-leb, lt-leb}
use Rattle.refusals.specs.declared.Refusal.{Refusal}
use Rattle.refusals.specs.declared.Refusal.TheVariants as refusal
use Rattle.buffers.specs.Pad.{zeros, pad}
use Rattle.chunk.specs.Ast.{Chunk, spans_of, places_of}
use Rattle.chunk.specs.Form.{Formed, formed, unformed, form_of}
use Rattle.chunk.specs.Walks.{checked, out as answered}
use Rattle.model.specs.declared.Counts.{Counts}
use Rattle.model.specs.Lowered.{Lowered}
use Rattle.std.specs.Prelude as answer
use Rattle.model.specs.Steps.{Buffers}
use Rattle.model.specs.Lengths.{SameLengths}
use Rattle.model.specs.Claims.{sizes}
use Rattle.model.specs.Lowering.{Sizes, cleared, Out, out, refusal_of, lower_formed, lowered}
use Rattle.lowering.specs.Parts.{from_header, scratch_of}
use Rattle.lowering.specs.Laws.{same_sizes, cleared_again}

module _ (z : Sizes) (chunk : List ℕ) where
  -- the lowering of a known form
  abbrev of_form : Formed → Out
  of_form f = elim f as (λ (_ : Formed). Out) [ unformed k ↦ refusal_of z k | formed c ↦ lower_formed z chunk (places_of (spans_of c.formulas)) ]

  lowered_is : (f : Formed) → form_of chunk ≡ f → lowered z chunk ≡ of_form f
  unfolding lowered
  lowered_is f e = ap of_form e

  pub entry_unformed : {k : Refusal} {s : List ℕ} {m : Buffers} → checked (form_of chunk) z.scratch ≡ answered (Err k) s → cleared z ≡ m → lowered z chunk ≡ out (answer.Err k) m s
  entry_unformed {k} {s} {m} e c = go (form_of chunk) refl e
    where
      go : (f : Formed) → form_of chunk ≡ f → checked f z.scratch ≡ answered (Err k) s → lowered z chunk ≡ out (answer.Err k) m s
      go (unformed x) q y = let w : Err x ≡ Err k = ap (λ o. o.answer) y in let u : x ≡ k = cc in let v : zeros z.scratch ≡ s = ap (λ o. o.scratch) y in lowered_is (unformed x) q ∙ ap (λ b. out (answer.Err x) b (zeros z.scratch)) c ∙ ap (λ b. out (answer.Err x) m b) v ∙ ap (λ b. out (answer.Err b) m s) u
      go (formed t) q y = absurd (let x : ◌≡◌ {A = Result ℕ Refusal} _ _ = ap (λ o. o.answer) y in let w : ◌≡◌ {A = ℕ} 0 1 = cc in omega arith)

  -- by the scratch's length
  no_room : (places : List ℕ) → z.scratch < length places → lower_formed z chunk places ≡ refusal_of z refusal.Scratch
  unfolding lower_formed
  no_room places l = rw (lower_formed, lt-leb (length places) z.scratch l) refl

  room : (places : List ℕ) → length places ≤ z.scratch → lower_formed z chunk places ≡ from_header z chunk places (cleared z)
  unfolding lower_formed
  room places l = rw (lower_formed, le-leb (length places) z.scratch l) refl

  -- as many places as nodes
  places_many : (c : Chunk) → length (places_of (spans_of c.formulas)) ≡ length (spans_of c.formulas)
  places_many c = length-map (spans_of c.formulas) (λ s. s.place)

  pub entry_short : {n : ℕ} {s s' : List ℕ} {m : Buffers} → checked (form_of chunk) z.scratch ≡ answered (Ok n) s → z.scratch < n → cleared z ≡ m → zeros z.scratch ≡ s' → lowered z chunk ≡ out (answer.Err refusal.Scratch) m s'
  entry_short {n} {s} {s'} {m} e l c d = go (form_of chunk) refl e
    where
      go : (f : Formed) → form_of chunk ≡ f → checked f z.scratch ≡ answered (Ok n) s → lowered z chunk ≡ out (answer.Err refusal.Scratch) m s'
      go (unformed x) q y = absurd (let x : ◌≡◌ {A = Result ℕ Refusal} _ _ = ap (λ o. o.answer) y in let w : ◌≡◌ {A = ℕ} 0 1 = cc in omega arith)
      go (formed t) q y =
          let w : Ok (length (spans_of t.formulas)) ≡ Ok n = ap (λ o. o.answer) y in let u : length (spans_of t.formulas) ≡ n = cc in
          lowered_is (formed t) q ∙ no_room (places_of (spans_of t.formulas)) (omega (arith, l, u, places_many t)) ∙ ap (λ b. out (answer.Err refusal.Scratch) b (zeros z.scratch)) c ∙ ap (λ b. out (answer.Err refusal.Scratch) m b) d

  pub entry_lowered : {n : ℕ} {s : List ℕ} {m : Buffers} (r : Lowered) → checked (form_of chunk) z.scratch ≡ answered (Ok n) s → n ≤ z.scratch → ((places : List ℕ) → from_header z chunk places (cleared z) ≡ out r m (scratch_of r z.scratch places)) →
      (s' : List ℕ) → ((places : List ℕ) → pad z.scratch places ≡ s → scratch_of r z.scratch places ≡ s') → lowered z chunk ≡ out r m s'
  entry_lowered {n} {s} {m} r e l f s' g = go (form_of chunk) refl e
    where
      go : (f : Formed) → form_of chunk ≡ f → checked f z.scratch ≡ answered (Ok n) s → lowered z chunk ≡ out r m s'
      go (unformed x) q y = absurd (let x : ◌≡◌ {A = Result ℕ Refusal} _ _ = ap (λ o. o.answer) y in let w : ◌≡◌ {A = ℕ} 0 1 = cc in omega arith)
      go (formed t) q y =
          let w : Ok (length (spans_of t.formulas)) ≡ Ok n = ap (λ o. o.answer) y in let u : length (spans_of t.formulas) ≡ n = cc in
          let v : pad z.scratch (places_of (spans_of t.formulas)) ≡ s = ap (λ o. o.scratch) y in
          lowered_is (formed t) q ∙ room (places_of (spans_of t.formulas)) (omega (arith, l, u, places_many t)) ∙ f (places_of (spans_of t.formulas)) ∙ ap (λ b. out r m b) (g (places_of (spans_of t.formulas)) v)

-- ---- as the code has it: buffers that are zeros, of the lengths that were lent

module _ (m : Buffers) (chunk : List ℕ) (n : ℕ) {o : Buffers} (zero : cleared (sizes o 0) ≡ o) (same : SameLengths o m) where
  is_cleared : cleared (sizes m n) ≡ o
  is_cleared = cleared_again m n zero same

  pub at_unformed : {k : Refusal} {s : List ℕ} {a : Result ℕ Refusal} → checked (form_of chunk) n ≡ answered a s → a ≡ Err k → lowered (sizes m n) chunk ≡ out (answer.Err k) o s
  at_unformed {s = s} e q = entry_unformed (sizes m n) chunk (e ∙ ap (λ a. answered a s) q) is_cleared

  module _ {j : ℕ} {s : List ℕ} {a : Result ℕ Refusal} (e : checked (form_of chunk) n ≡ answered a s) (q : a ≡ Ok j) where
    pub at_short : {s' : List ℕ} → n < j → zeros (length s') ≡ s' → length s' ≡ n → lowered (sizes m n) chunk ≡ out (answer.Err refusal.Scratch) o s'
    at_short l d i = entry_short (sizes m n) chunk (e ∙ ap (λ a. answered a s) q) l is_cleared (ap zeros (sym i) ∙ d)

    module _ {r : Lowered} {p : Buffers} (l : j ≤ n) (f : (n : ℕ) (places : List ℕ) → from_header (sizes o n) chunk places o ≡ out r p (scratch_of r n places)) where
      from_lent : (places : List ℕ) → from_header (sizes m n) chunk places (cleared (sizes m n)) ≡ out r p (scratch_of r n places)
      from_lent places = ap (λ y. from_header (sizes m n) chunk places y) is_cleared ∙ ap (λ y. from_header y chunk places o) (sym (same_sizes same n)) ∙ f n places

      pub at_done : {k : Counts} → r ≡ answer.Ok k → lowered (sizes m n) chunk ≡ out (answer.Ok k) p s
      at_done {k} y = entry_lowered (sizes m n) chunk (answer.Ok k) (e ∙ ap (λ a. answered a s) q) l (subst (λ r. (places : List ℕ) → from_header (sizes m n) chunk places (cleared (sizes m n)) ≡ out r p (scratch_of r n places)) y from_lent) s (λ places x. x)

      pub at_refused : {k : Refusal} {s' : List ℕ} → r ≡ answer.Err k → zeros (length s') ≡ s' → length s' ≡ n → lowered (sizes m n) chunk ≡ out (answer.Err k) p s'
      at_refused {k} {s'} y d i = entry_lowered (sizes m n) chunk (answer.Err k) (e ∙ ap (λ a. answered a s) q) l (subst (λ r. (places : List ℕ) → from_header (sizes m n) chunk places (cleared (sizes m n)) ≡ out r p (scratch_of r n places)) y from_lent) s' (λ places x. ap zeros (sym i) ∙ d)
