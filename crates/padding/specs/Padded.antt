-- DEMAND 1 over the definitions. For every chunk of bytes and all lengths of the lent buffers: a refusal leaves zeros only and is due to the form, the scratch or the lowering; success leaves in each buffer as many numbers as the counts say and then zeros,
-- each listed entry is a constant, no two are equal, texts lie in the counted bytes, the frame is at most 250, and the scratch holds the places of the chunk's nodes.
-- The words' tail is zero because the labelled code is represented, the others' because each step keeps them; the scratch holds the places by definition.
-- What rests on something that a must-fail edit breaks stands in proofs/Padded.antt.
use Rattle.std.specs.Prelude.{ℕ, zero, suc, ◌-◌, ◌≤◌, ◌≡◌, refl, List, [], ◌∷◌, ◌++◌, length, get_or, take}
use Rattle.std.proofs.Common.{ap, ◌∙◌, subst, arith}
use Rattle.std.proofs.Math.Nat.{sub-zero, suc-sub-suc}
use Rattle.refusals.specs.declared.Refusal.{Refusal}
use Rattle.buffers.specs.Pad.{zeros}
use Rattle.buffers.specs.Laws.{pad_fits}
use Rattle.chunk.specs.Ast.{Chunk, spans_of, places_of}
use Rattle.chunk.specs.Form.{formed, form_of}
use Rattle.model.specs.declared.State.{State}
use Rattle.model.specs.Steps.{Buffers, done}
use Rattle.model.specs.Claims.{Filled, Due, Padded}
use Rattle.model.specs.Lowering.{Sizes, Out, refusal_of, ended}
use Rattle.labelled.specs.Emission.{St}
use Rattle.labelled.specs.Expressions.{labelled}
use Rattle.simulation.specs.Whole.{LowersTo}
use Rattle.faithful.specs.Accepted.{Accepted}
use Rattle.padding.specs.Clean.{Clean}

-- zero from a place on
all_zeros : (l : List ℕ) → ((i : ℕ) → get_or l i 0 ≡ 0) → l ≡ zeros (length l)
all_zeros [] h = refl
all_zeros (x ∷ l) h = ap (λ y. y ∷ l) (h 0) ∙ ap (λ y. 0 ∷ y) (all_zeros l (λ i. h (suc i)))

tail_zeros : (l : List ℕ) (used : ℕ) → used ≤ length l → ((i : ℕ) → used ≤ i → get_or l i 0 ≡ 0) → l ≡ take used l ++ zeros (length l - used)
tail_zeros l zero u h = rw sub-zero (all_zeros l (λ i. h i (omega arith)))
tail_zeros [] (suc k) u h = absurd (omega arith)
tail_zeros (x ∷ l) (suc k) u h = rw suc-sub-suc (ap (λ y. x ∷ y) (tail_zeros l k (omega arith) (λ i g. h (suc i) (omega arith))))

filled : {n : ℕ} (used : ℕ) (l : List ℕ) → length l ≡ n → used ≤ n → ((i : ℕ) → used ≤ i → get_or l i 0 ≡ 0) → Filled n used l
filled used l e u h = record { long = e; fits = u; then = subst (λ y. l ≡ take used l ++ zeros (y - used)) e (tail_zeros l used (omega (arith, e)) h) }

module _ (z : Sizes) (chunk : List ℕ) where
  abbrev Good : Out → Type 0
  Good o = Padded z chunk o.answer o.buffers o.scratch

  pub refused_good : (x : Refusal) → Due z chunk x → Good (refusal_of z x)
  refused_good x d = (refl, (refl, d))

  module _ (c : Chunk) (form : form_of chunk ≡ formed c) (a : Accepted chunk c) where
    abbrev places : List ℕ
    places = places_of (spans_of c.formulas)

    abbrev σ : St
    σ = labelled chunk c.names c.formulas

    pub done_good : (s : State) (m : Buffers) → length places ≤ z.scratch → Clean z s m → LowersTo s m σ.code σ a.head.locals a.head.formulas → Good (ended z places (done tt s m))
    done_good s m r g L = record {
      code = filled s.pc m.code g.code_length (subst (λ n. s.pc ≤ n) g.code_length L.fits) L.behind;
      lines = filled s.pc m.lines g.lines_length g.lines_fit g.lines;
      kinds = filled s.table.count m.kinds g.kinds_length (subst (λ n. s.table.count ≤ n) g.kinds_length L.table.good.kinds_fit) g.kinds;
      values = filled s.table.count m.values g.values_length (subst (λ n. s.table.count ≤ n) g.values_length L.table.good.values_fit) g.values;
      pool = filled s.table.used m.pool g.pool_length (subst (λ n. s.table.used ≤ n) g.pool_length L.table.good.texts_fit) g.pool;
      entries = L.table.good.constants;
      texts = L.table.good.texts;
      frame = L.most;
      differ = L.table.good.differ;
      tree = c;
      form = form;
      room = r;
      places = pad_fits z.scratch places r;
    }
