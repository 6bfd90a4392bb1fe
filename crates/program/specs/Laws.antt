-- The program's list, by the code's tests. Assumes nothing.
use Rattle.std.specs.Prelude.{ℕ, ◌≤◌, ◌<◌, Bool, true, false, ◌≡◌, refl, List, length, leb, Option, Some, None}
use Rattle.std.proofs.Common.{sym, ap, ◌∙◌, arith}
use borrow.Author.Tests.{le-leb, lt-leb, leb-true}
use Rattle.refusals.specs.Number.{number_of}
use Rattle.refusals.specs.declared.Refusal.TheVariants as refusal
use Rattle.buffers.specs.Pad.{zeros, pad}
use Rattle.model.specs.Lowered.{Lowered}
use Rattle.model.specs.Steps.{Buffers}
use Rattle.model.specs.Lowering.{Sizes, Out, out, lowered}
use Rattle.listing.specs.Listing.{refusal_line, listing}
use Rattle.listing.specs.Page.{Sheet, sheet, written}
use Rattle.model.specs.Rows.{weavelist as lent}
use Rattle.program.specs.Weavelist.{max_input, list_of, weavelist}

pub listed_as : (n : ℕ) {o : Out} {a : Lowered} {m : Buffers} {s : List ℕ} {r : Sheet} → o ≡ out a m s → written n (listing a m.code m.lines m.kinds m.values) ≡ r → written n (list_of o) ≡ r
listed_as n e f = ap (λ o. written n (list_of o)) e ∙ f

module _ (n : ℕ) (s : List ℕ) {r : Sheet} where
  pub too_long : max_input < length s → written n (refusal_line (number_of refusal.TooLong)) ≡ r → written n (weavelist s) ≡ r
  unfolding weavelist
  too_long l e = rw (weavelist, lt-leb (length s) max_input l) e

  pub within : (z : Sizes) → length s ≤ max_input → z ≡ lent → written n (list_of (lowered z s)) ≡ r → written n (weavelist s) ≡ r
  unfolding weavelist
  within z l q e = rw (weavelist, le-leb (length s) max_input l) (ap (λ y. written n (list_of (lowered y s))) (sym q) ∙ e)

pub are_lent : {c l k v p s : ℕ} → c ≡ 8192 → l ≡ 8192 → k ≡ 2048 → v ≡ 2048 → p ≡ 32768 → s ≡ 16384 → ◌≡◌ {A = Sizes} (record { code = c; lines = l; kinds = k; values = v; pool = p; scratch = s }) lent
are_lent a b c d e f = rw (a, b, c, d, e, f) refl

-- what was written is no longer than the buffer
pub written_fits : (n : ℕ) (t : List ℕ) {a : Option ℕ} {o : List ℕ} {k : ℕ} → written n t ≡ sheet a o → a ≡ Some k → k ≤ n
unfolding written
written_fits n t {a} {o} {k} e f = go (leb (length t) n) refl (ap (λ y. y.answer) e ∙ f)
  where
    go : (b : Bool) → leb (length t) n ≡ b → (elim b as (λ (_ : Bool). Sheet) [ true ↦ sheet (Some (length t)) (pad n t) | false ↦ sheet None (zeros n) ]).answer ≡ Some k → k ≤ n
    go true b w = let u : length t ≡ k = cc in omega (arith, u, leb-true (length t) n b)
    go false b w = absurd (let u : ◌≡◌ {A = ℕ} 0 1 = cc in omega arith)

-- an answer that was found to be one of its kinds
pub listed_told : {x : Sheet} {a b : Option ℕ} {o : List ℕ} → x ≡ sheet a o → a ≡ b → x ≡ sheet b o
listed_told {o = o} e f = e ∙ ap (λ a. sheet a o) f
