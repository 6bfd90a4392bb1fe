-- How much a lowering needs. For every chunk of n nodes and all lengths of the lent buffers: what is lowered has at most 8n + 1 words, n constants, and no more bytes of text than the chunk has bytes;
-- and with so much lent, of words (if 8n + 1 is at most 131,071), constants (if n is at most 262,144) or text, no lowering is refused for want of it, so none holds more at any moment.
-- ---- the statement
use Prim.Native.Nat.{ℕ, zero, suc, ◌+◌, ◌*◌, ◌≤◌}
use Rattle.std.specs.Prelude.{◌≡◌, List, length}
use Rattle.std.proofs.Math.Path.{refl, ap}
use Rattle.std.proofs.Common.{arith}
use Rattle.std.proofs.lemmas.List.{length-replicate}
use Rattle.chunk.specs.Ast.{Expr, Exprs, none as no_more, more, Chunk, spans_of, places_of}
use Rattle.chunk.specs.Form.{Parsed, parsed, exprs_at, expr_at, formed, form_of, max_nesting}
use Rattle.model.specs.declared.ExprContext.{ExprContext}
use Rattle.model.specs.Steps.{Result, done, refused, Step}
use Rattle.model.specs.Expressions.{compile_expr}
use Rattle.model.specs.Lowering.{Sizes, cleared, start, formulas, lower_chunk, ended, lowered}
use Rattle.simulation.specs.Parsing.{invert, same_parsed}
use Rattle.faithful.specs.Accepted.{Accepted}
use Rattle.faithful.specs.Cases.{lowered_cases}
use Rattle.bound.specs.Takes.{Resource, words, entries, text, per_word, Room, Any, takes_skip}
use Rattle.bound.specs.Emission.{takes_emit, takes_reserve_regs}
use Rattle.bound.specs.Expressions.{cost, costs, held, Reads, stays, reads_then, moved, more_of}
use Rattle.bound.proofs.Expressions.{takes_nextreg, expr_at_lem}
use Rattle.bound.proofs.Texts.{in_chunk}
use Rattle.bound.specs.Bounded.{After, Bounded, after, all_by_nodes, no_form, no_scratch, nodes, same_chunk, used_start}

-- ---- the formulas

module _ {R : Resource} {cap : ℕ} (g : Step ExprContext) (F : ℕ → ℕ → Parsed Expr) (lowers : (a : Expr) (at line at' line' : ℕ) → F at line ≡ parsed a at' line' → Reads R cap (cost R a) g (held R) at line at' line' Any) where
  formulas_at : (n : ℕ) (es : Exprs) (at line at' line' : ℕ) → exprs_at F n at line ≡ parsed es at' line' → Reads R cap (costs R es) (formulas g n) (λ _. 0) at line at' line' Any
  unfolding exprs_at formulas costs
  formulas_at zero es at line at' line' e =
      let w = same_parsed no_more es at line at' line' e in
      moved (stays takes_skip at line) w.1.0 w.1.1 (omega arith)
  formulas_at (suc n) es at line at' line' e =
      let v = invert (F at line) _ es at' line' e in
      let u = invert (exprs_at F n v.place v.own_line) _ es at' line' v.then in
      let w = same_parsed (more v.value u.value) es u.place u.own_line at' line' u.then in
      let rest = costs R u.value in
      moved (reads_then rest (lowers v.value at line v.place v.own_line v.first) (λ e₁ _. reads_then rest (stays (takes_nextreg e₁) v.place v.own_line) (λ e₂ _. more_of (formulas_at n u.value v.place v.own_line u.place u.own_line u.first) (omega arith)))) w.1.0 w.1.1
      (omega (arith, ap (costs R) w.0))

module _ (z : Sizes) (chunk : List ℕ) where
  module _ (c : Chunk) (form : form_of chunk ≡ formed c) (a : Accepted chunk c) where
    abbrev end : Result (Unit {0})
    end = lower_chunk chunk a.head (start a.head.next a.head.locals) (cleared z)

    chunk_taken : (R : Resource) (cap : ℕ) → Room R cap (cleared z) → After R cap (costs R c.formulas + per_word R) end
    unfolding lower_chunk
    chunk_taken R cap l = after (moved (reads_then (costs R c.formulas + per_word R) (stays (takes_reserve_regs a.head.locals) a.head.next 1) (λ _ _.
        more_of (reads_then (per_word R) (formulas_at (compile_expr chunk a.head max_nesting) (expr_at chunk a.head.varargs max_nesting) (expr_at_lem chunk a.head max_nesting) a.head.formulas c.formulas a.head.next 1 a.at a.line a.formulas) (λ _ _.
        more_of (reads_then 0 (stays (takes_emit _) a.at a.line) (λ _ _. stays takes_skip a.at a.line)) (omega arith))) (omega arith))) refl refl (omega arith) (start a.head.next a.head.locals) (cleared z) refl refl l) (used_start R a.head.next a.head.locals)

    texts : costs text c.formulas ≤ length chunk
    texts = omega (arith, in_chunk chunk c a)

    end_bounded : (r : Result (Unit {0})) → ((R : Resource) (cap : ℕ) → Room R cap (cleared z) → After R cap (costs R c.formulas + per_word R) r) → Bounded z chunk (ended z (places_of (spans_of c.formulas)) r).answer
    end_bounded (done u s m) h = λ c' e. let n : nodes c' ≡ nodes c = ap nodes (same_chunk z chunk c form a c' e) in record {
      words = omega (arith, h words 0 (omega arith, (omega arith, omega arith)), (all_by_nodes c.formulas).0, n);
      constants = omega (arith, h entries 0 (omega arith, (omega arith, omega arith)), (all_by_nodes c.formulas).1, n);
      text = omega (arith, h text 0 (omega arith), texts);
    }
    end_bounded (refused x m) h = λ c' e. let n : nodes c' ≡ nodes c = ap nodes (same_chunk z chunk c form a c' e) in record {
      words = λ code lines most. h words (8 * nodes c + 1) (omega (arith, length-replicate {A = ℕ} z.code 0, n, code), (omega (arith, length-replicate {A = ℕ} z.lines 0, n, lines), omega (arith, n, most))) (omega (arith, (all_by_nodes c.formulas).0));
      constants = λ kinds values most. h entries (nodes c) (omega (arith, length-replicate {A = ℕ} z.kinds 0, n, kinds), (omega (arith, length-replicate {A = ℕ} z.values 0, n, values), omega (arith, n, most))) (omega (arith, (all_by_nodes c.formulas).1));
      text = λ pool. h text (length chunk) (omega (arith, length-replicate {A = ℕ} z.pool 0, pool)) (omega (arith, texts));
    }

-- for words, document 02's #107: with n up to 16,383, 8n + 1 is no more than 131,071
pub bounded : (z : Sizes) (chunk : List ℕ) → Bounded z chunk (lowered z chunk).answer
bounded z chunk = lowered_cases z chunk (λ o. Bounded z chunk o.answer) (no_form z chunk) (λ _ _ _ c e. no_scratch z chunk c) (λ c e a l. end_bounded z chunk c e a (end z chunk c e a) (chunk_taken z chunk c e a))
