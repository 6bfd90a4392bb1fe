-- DEMAND 3. For every chunk of bytes that is accepted with these buffers, every outside, all varargs and as many local values as names: running the lowered words ends, is never stuck, returns the values of reading the formulas,
-- takes the reading's outward steps in their order, and carries out no more words than there are. It holds because the words represent labelled code, whose run is the reading.
use Rattle.std.specs.Prelude.{ℕ, ◌≤◌, ◌<◌, ◌≡◌, List, length, take}
use Rattle.std.proofs.Common.{sym, ap, ◌∙◌, subst, arith, length-take-le, get_or-take}
use Rattle.chunk.specs.Ast.{Chunk, spans_of, places_of}
use Rattle.chunk.specs.Form.{formed, form_of, expr_at, max_nesting}
use Rattle.refusals.specs.declared.Refusal.{Refusal}
use Rattle.refusals.specs.declared.Refusal.TheVariants as refusal
use Rattle.instructions.specs.Limits.{max_constants}
use Rattle.instructions.specs.Word.{abc_of}
use Rattle.opcodes.specs.declared.OpCode.TheVariants as op
use Rattle.model.specs.declared.Counts.{Counts}
use Rattle.std.specs.Prelude as answer
use Rattle.model.specs.declared.State.{State}
use Rattle.model.specs.Values.{Value, World}
use Rattle.model.specs.Reading.{reading}
use Rattle.model.specs.Running.{returned, run}
use Rattle.model.specs.Jumps.{word}
use Rattle.model.specs.Steps.{Buffers, Result}
use Rattle.model.specs.Claims.{program, RunsAsRead, Bytes}
use Rattle.model.specs.Lowering.{Sizes, cleared, start, lower_chunk, Out, refusal_of, ended, lowered, counts_of}
use Rattle.labelled.specs.Code.{size}
use Rattle.labelled.specs.Machine.{span}
use Rattle.labelled.specs.Emission.{St}
use Rattle.labelled.specs.Faithful.{count}
use Rattle.labelled.specs.Expressions.{labelled}
use Rattle.labelled.proofs.Whole.{whole}
use Rattle.threads.specs.Encoding.{enc_agree}
use Rattle.threads.specs.Holding.{Ends, gives, refuses}
use Rattle.threads.specs.Coded.{coded}
use Rattle.simulation.specs.Whole.{LowersTo, count_is, whole_lowered}
use Rattle.running.proofs.Run.{ran}
use Rattle.faithful.specs.Counted.{counted}
use Rattle.faithful.specs.Accepted.{Accepted, header_names}
use Rattle.faithful.specs.Cases.{lowered_cases}

module _ (chunk : List ℕ) (c : Chunk) (w : World) (locals varargs : List Value) where
  -- what is shown of an outcome
  abbrev Good : Counts → Out → Type 0
  Good k o = o.answer ≡ answer.Ok k → RunsAsRead chunk c w locals varargs k o.buffers

  refused_good : (z : Sizes) (k : Counts) (x : Refusal) → Good k (refusal_of z x)
  refused_good z k x d = absurd (let u : ◌≡◌ {A = ℕ} 0 1 = cc in omega arith)

  module _ (each : length locals ≡ length c.names) (a : Accepted chunk c) where
    abbrev σ : St
    σ = labelled chunk c.names c.formulas

    -- what the simulation gives is what the run of words asks for
    from_labelled : (s : State) (m : Buffers) → LowersTo s m σ.code σ a.head.locals a.head.formulas → RunsAsRead chunk c w locals varargs (counts_of s) m
    from_labelled s m L =
        let E = whole w chunk c.names locals varargs each c.formulas in
        let same_word : (q : ℕ) → q < s.pc → word (take s.pc m.code) q ≡ word m.code q = λ q h. get_or-take s.pc m.code q 0 h in
        let long : length (take s.pc m.code) ≡ s.pc = length-take-le s.pc m.code L.fits in
        let formulas_are : count c.formulas ≡ a.head.formulas = count_is (expr_at chunk a.head.varargs max_nesting) a.head.formulas c.formulas a.head.next 1 a.at a.line a.formulas in
        let names_are : length c.names ≡ a.head.locals = ap length a.names_are ∙ header_names chunk a.head a.is_head in
        let r = ran w (program (counts_of s) m) σ.tab locals varargs L.table.count (subst (λ n. n ≤ max_constants) L.table.count L.table.few) (λ i l. let n : i < s.table.count = omega (arith, L.table.count) in counted s.table.count s.table.used m.pool m.kinds m.values i n (L.table.good.texts i n) ∙ L.table.entries i l) L.most
        σ.code E.registers (reading w chunk c locals varargs).steps a.head.locals a.head.formulas
        (enc_agree (coded σ.tab s.frame) m.code (take s.pc m.code) σ.code (λ q l. same_word q (omega (arith, L.words))) L.enc)
        L.low (omega (arith, long, L.words)) E.ends (same_word (size σ.code) (omega (arith, L.words)) ∙ L.return_word ∙ ap (λ n. abc_of op.Return a.head.locals n 0) (omega arith)) L.room in
        let values : span a.head.formulas a.head.locals E.registers ≡ (reading w chunk c locals varargs).gives = ap (λ n. span n a.head.locals E.registers) (sym formulas_are) ∙ ap (λ n. span (count c.formulas) n E.registers) (sym names_are) ∙ E.values in
        (r.0, (omega (arith, r.1.0, long), r.1.1 ∙ ap (λ v. returned v (reading w chunk c locals varargs).steps r.0) values))

    -- of the end of a lowering, where its answer is counts
    ended_good : (z : Sizes) (k : Counts) (places : List ℕ) (r : Result (Unit {0})) → Ends r (λ u s m. LowersTo s m σ.code σ a.head.locals a.head.formulas) → Good k (ended z places r)
    ended_good z k places r (refuses x m l e) = subst (λ y. Good k (ended z places y)) (sym e) (refused_good z k x)
    ended_good z k places r (gives tt s m e L) = subst (λ y. Good k (ended z places y)) (sym e) (λ d. let u : counts_of s ≡ k = cc in subst (λ y. RunsAsRead chunk c w locals varargs y m) u (from_labelled s m L))

-- DEMAND 3
pub faithful : (z : Sizes) (chunk : List ℕ) → Bytes chunk → (c : Chunk) → form_of chunk ≡ formed c → (k : Counts) → (lowered z chunk).answer ≡ answer.Ok k → (w : World) (locals varargs : List Value) → length locals ≡ length c.names →
    (n : ℕ) × ((n ≤ k.words) × (run w (program k (lowered z chunk).buffers) locals varargs ≡ returned (reading w chunk c locals varargs).gives (reading w chunk c locals varargs).steps n))
faithful z chunk bytes c form k d w locals varargs each = lowered_cases z chunk (Good chunk c w locals varargs k) (λ x e. refused_good chunk c w locals varargs z k x) (λ t e l. refused_good chunk c w locals varargs z k refusal.Scratch) well d
  where
    well : (t : Chunk) → form_of chunk ≡ formed t → (a : Accepted chunk t) → length (places_of (spans_of t.formulas)) ≤ z.scratch → Good chunk c w locals varargs k (ended z (places_of (spans_of t.formulas)) (lower_chunk chunk a.head (start a.head.next a.head.locals) (cleared z)))
    well t form' a room =
        let same : t ≡ c = let e : formed t ≡ formed c = sym form' ∙ form in cc in
        subst (λ y. Good chunk y w locals varargs k (ended z (places_of (spans_of t.formulas)) (lower_chunk chunk a.head (start a.head.next a.head.locals) (cleared z)))) same
        (ended_good chunk t w locals varargs (each ∙ ap (λ y. length y.names) (sym same)) a z k (places_of (spans_of t.formulas)) _
        (whole_lowered z chunk a.head t.names a.names_are (ap length a.names_are ∙ header_names chunk a.head a.is_head) bytes t.formulas a.at a.line a.formulas))
