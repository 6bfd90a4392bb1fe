-- DEMAND 1 over the definitions. For every chunk of bytes and all lengths of the lent buffers: a refusal leaves zeros only and is due to the form, the scratch or the lowering; success leaves in each buffer as many numbers as the counts say and then zeros,
-- each listed entry is a constant, no two are equal, texts lie in the counted bytes, the frame is at most 250, and the scratch holds the places of the chunk's nodes.
-- The words' tail is zero because the labelled code is represented, the others' because each step keeps them; the scratch holds the places by definition.
use Rattle.std.specs.Prelude.{ℕ, ◌≤◌, ◌≡◌, refl, List, length}
use Rattle.std.proofs.Common.{sym, ap, ◌∙◌, subst}
use Rattle.refusals.specs.declared.Refusal.TheVariants as refusal
use Rattle.chunk.specs.Ast.{Chunk, spans_of, places_of}
use Rattle.chunk.specs.Form.{formed, form_of}
use Rattle.model.specs.declared.State.{State}
use Rattle.model.specs.Steps.{Buffers, Result, done}
use Rattle.model.specs.Claims.{by_form, by_scratch, by_lowering, Padded, Bytes}
use Rattle.model.specs.Lowering.{Sizes, cleared, start, lower_chunk, Out, ended, lowered}
use Rattle.labelled.specs.Emission.{St}
use Rattle.labelled.specs.Expressions.{labelled}
use Rattle.threads.specs.Holding.{Ends, gives, refuses}
use Rattle.simulation.specs.Whole.{LowersTo, whole_lowered}
use Rattle.faithful.specs.Accepted.{Accepted, header_names}
use Rattle.faithful.specs.Cases.{lowered_cases}
use Rattle.padding.proofs.Early.{early}
use Rattle.padding.specs.Clean.{Clean}
use Rattle.padding.proofs.Lowering.{lowered_clean}
use Rattle.padding.specs.Padded.{done_good, refused_good}

module _ (z : Sizes) (chunk : List ℕ) where
  abbrev Good : Out → Type 0
  Good o = Padded z chunk o.answer o.buffers o.scratch

  module _ (c : Chunk) (form : form_of chunk ≡ formed c) (a : Accepted chunk c) where
    abbrev places : List ℕ
    places = places_of (spans_of c.formulas)

    abbrev σ : St
    σ = labelled chunk c.names c.formulas

    ended_good : (r : Result (Unit {0})) → length places ≤ z.scratch → ((s : State) (m : Buffers) → r ≡ done tt s m → Clean z s m) → Ends r (λ u s m. LowersTo s m σ.code σ a.head.locals a.head.formulas) → Good (ended z places r)
    ended_good r l g (refuses x m n e) = subst (λ y. Good (ended z places y)) (sym e) (refused_good z chunk x (by_lowering c form l n))
    ended_good r l g (gives tt s m e L) = subst (λ y. Good (ended z places y)) (sym e) (done_good z chunk c form a s m l (g s m e) L)

-- DEMAND 1
pub padded : (z : Sizes) (chunk : List ℕ) → Bytes chunk → Padded z chunk (lowered z chunk).answer (lowered z chunk).buffers (lowered z chunk).scratch
padded z chunk bytes = lowered_cases z chunk (Good z chunk) (λ x e. refused_good z chunk x (by_form e (early chunk x e))) (λ c e l. refused_good z chunk refusal.Scratch (by_scratch c e l refl)) well
  where
    well : (c : Chunk) → form_of chunk ≡ formed c → (a : Accepted chunk c) → length (places_of (spans_of c.formulas)) ≤ z.scratch → Good z chunk (ended z (places_of (spans_of c.formulas)) (lower_chunk chunk a.head (start a.head.next a.head.locals) (cleared z)))
    well c form a room =
        ended_good z chunk c form a _ room (lowered_clean z chunk a.head)
        (whole_lowered z chunk a.head c.names a.names_are (ap length a.names_are ∙ header_names chunk a.head a.is_head) bytes c.formulas a.at a.line a.formulas)
