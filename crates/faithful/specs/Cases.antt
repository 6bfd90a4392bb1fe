-- The whole lowering case by case: what holds of the form's refusals, of a scratch that is too short, and of the end of the lowering of every chunk that has the form and room for its places, holds of `lowered`. Assumes nothing.
use Rattle.std.specs.Prelude.{ℕ, ◌≤◌, ◌<◌, Bool, ◌≡◌, List, length, Result, Ok}
use Rattle.std.proofs.Math.Bool.{true, false}
use Rattle.std.proofs.Math.Path.{refl, subst}
use Rattle.std.proofs.Common.{sym, leb-true, leb-false}
use Rattle.std.proofs.Math.Dec.{leb}
use Rattle.refusals.specs.declared.Refusal.{Refusal}
use Rattle.refusals.specs.declared.Refusal.TheVariants as refusal
use Rattle.chunk.specs.Ast.{Chunk, spans_of, places_of}
use Rattle.chunk.specs.Form.{Formed, formed, unformed, form_of}
use Rattle.chunk.specs.Headers.{header_at}
use Rattle.model.specs.Lowering.{Sizes, cleared, start, lower_chunk, Out, refusal_of, ended, with_header, lower_formed, lowered}
use Rattle.faithful.specs.Accepted.{Accepted, accepted}
use Rattle.chunk.specs.declared.header.Header.{Header}

abbrev places : Chunk → List ℕ
places c = places_of (spans_of c.formulas)

module _ (z : Sizes) (chunk : List ℕ) (P : Out → Type 0) (unread : (x : Refusal) → form_of chunk ≡ unformed x → P (refusal_of z x))
    (short : (c : Chunk) → form_of chunk ≡ formed c → z.scratch < length (places c) → P (refusal_of z refusal.Scratch)) where
  abbrev LoweredWell : Type 0
  LoweredWell = (c : Chunk) → form_of chunk ≡ formed c → (a : Accepted chunk c) → length (places c) ≤ z.scratch → P (ended z (places c) (lower_chunk chunk a.head (start a.head.next a.head.locals) (cleared z)))

  formed_cases : (c : Chunk) → form_of chunk ≡ formed c → (a : Accepted chunk c) → LoweredWell → P (lower_formed z chunk (places c))
  unfolding lower_formed
  formed_cases c form a well = go (leb (length (places c)) z.scratch) refl (header_at chunk) a.is_head
    where
      go : (t : Bool) → leb (length (places c)) z.scratch ≡ t → (r : Result Header Refusal) → r ≡ Ok a.head →
          P (elim t as (λ (_ : Bool). Out) [ false ↦ refusal_of z refusal.Scratch | true ↦ with_header z r λ h. ended z (places c) (lower_chunk chunk h (start h.next h.locals) (cleared z)) ])
      go false l r e = short c form (leb-false _ _ l)
      go true l r e = subst (λ y. P (with_header z y λ h. ended z (places c) (lower_chunk chunk h (start h.next h.locals) (cleared z)))) (sym e) (well c form a (leb-true _ _ l))

  pub lowered_cases : LoweredWell → P (lowered z chunk)
  unfolding lowered
  lowered_cases well = go (form_of chunk) refl
    where
      go : (f : Formed) → form_of chunk ≡ f → P (elim f as (λ (_ : Formed). Out) [ unformed x ↦ refusal_of z x | formed y ↦ lower_formed z chunk (places_of (spans_of y.formulas)) ])
      go (unformed x) e = unread x e
      go (formed c) e = formed_cases c e (accepted chunk c e) well
