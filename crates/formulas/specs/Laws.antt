-- The loop over formulas, step by step: what the definition comes to once a formula's answers are known, as the code reads it. Assumes nothing.
use Prim.Native.Nat.{ℕ, zero, suc, ◌+◌, ◌-◌, ◌%◌, ◌<◌}
use Rattle.std.specs.Prelude.{List, ◌≡◌}
use Rattle.std.proofs.Math.Path.{refl, ap}
use Rattle.std.proofs.Common.{sym, ◌∙◌}
use native.Mathlib.Omega.{arith}
use Rattle.refusals.specs.declared.Refusal.{Refusal}
use Rattle.instructions.specs.Limits.{b_size}
use Rattle.instructions.specs.Word.{abc_of}
use Rattle.instructions.specs.Laws.{abc_same}
use Rattle.opcodes.specs.declared.OpCode.TheVariants as op
use Rattle.chunk.specs.Form.{max_nesting}
use Rattle.chunk.specs.declared.header.Header.{Header}
use Rattle.model.specs.declared.ExprContext.{ExprContext}
use Rattle.model.specs.declared.State.{State}
use Rattle.model.specs.Steps.{Buffers, Step, Result, done, refused, ◌>>=◌, ◌>>◌, skip}
use Rattle.model.specs.Emission.{emit, emit_abc, reserve_regs}
use Rattle.model.specs.Discharge.{exp2nextreg}
use Rattle.model.specs.Expressions.{compile_expr}
use Rattle.model.specs.Lowering.{formulas, lower_chunk}
use Rattle.emission.specs.Laws.{then_done, then_refused}
use Rattle.formulas.specs.Parts.{returning}

module _ (f : Step ExprContext) (n : ℕ) (s : State) (m : Buffers) where
  pub formulas_none : n ≡ 0 → formulas f n s m ≡ done tt s m
  unfolding formulas
  formulas_none e = ap (λ (k : ℕ). formulas f k s m) e

  module _ (some : 0 < n) where
    one_more : formulas f n s m ≡ (f >>= (λ e. exp2nextreg e >> formulas f (n - 1))) s m
    unfolding formulas
    one_more = go n some
      where
        go : (n : ℕ) → 0 < n → formulas f n s m ≡ (f >>= (λ e. exp2nextreg e >> formulas f (n - 1))) s m
        go zero l = absurd (omega arith)
        go (suc n) l = let z : suc n - 1 ≡ n = omega arith in rw z refl

    pub formulas_stopped : {r : Refusal} {k : Buffers} → f s m ≡ refused r k → formulas f n s m ≡ refused r k
    formulas_stopped q = one_more ∙ then_refused (λ (e : ExprContext). exp2nextreg e >> formulas f (n - 1)) q

    module _ {e : ExprContext} {t : State} {k : Buffers} (q : f s m ≡ done e t k) where
      pub formulas_more : {d : ExprContext} {u : State} {o : Buffers} → exp2nextreg e t k ≡ done d u o → formulas f n s m ≡ formulas f (n - 1) u o
      formulas_more z = one_more ∙ then_done (λ (e : ExprContext). exp2nextreg e >> formulas f (n - 1)) q ∙ then_done (λ _. formulas f (n - 1)) z

      pub formulas_full : {r : Refusal} {o : Buffers} → exp2nextreg e t k ≡ refused r o → formulas f n s m ≡ refused r o
      formulas_full z = one_more ∙ then_done (λ (e : ExprContext). exp2nextreg e >> formulas f (n - 1)) q ∙ then_refused (λ _. formulas f (n - 1)) z

-- ---- the chunk

-- `Return` takes of the number of its values only what fits its field
more_mod : (a n : ℕ) → abc_of op.Return a (n % b_size + 1) 0 ≡ abc_of op.Return a (n + 1) 0
more_mod a n = abc_same op.Return _ _ _ _ _ _ refl (omega arith) refl

module _ (h : Header) (s : State) (m : Buffers) where
  abbrev word_for : ℕ → Result ℕ
  word_for n = emit_abc op.Return h.locals n 0 s m

  same_word : word_for (h.formulas % b_size + 1) ≡ word_for (h.formulas + 1)
  same_word = ap (λ w. emit w s m) (more_mod h.locals h.formulas)

  pub returning_done : {n : ℕ} {t : State} {k : Buffers} → word_for (h.formulas % b_size + 1) ≡ done n t k → returning h s m ≡ done tt t k
  returning_done q = then_done (λ _. skip) (sym same_word ∙ q)

  pub returning_full : {r : Refusal} {k : Buffers} → word_for (h.formulas % b_size + 1) ≡ refused r k → returning h s m ≡ refused r k
  returning_full q = then_refused (λ _. skip) (sym same_word ∙ q)

module _ (chunk : List ℕ) (h : Header) (s : State) (m : Buffers) where
  abbrev behind : Step (Unit {0})
  behind = formulas (compile_expr chunk h max_nesting) h.formulas

  pub chunk_registers : {r : Refusal} {k : Buffers} → reserve_regs h.locals s m ≡ refused r k → lower_chunk chunk h s m ≡ refused r k
  unfolding lower_chunk
  chunk_registers q = then_refused (λ _. behind >> returning h) q

  module _ {t : State} {k : Buffers} (q : reserve_regs h.locals s m ≡ done tt t k) where
    pub chunk_formulas : {r : Refusal} {o : Buffers} → behind t k ≡ refused r o → lower_chunk chunk h s m ≡ refused r o
    unfolding lower_chunk
    chunk_formulas z = then_done (λ _. behind >> returning h) q ∙ then_refused (λ _. returning h) z

    pub chunk_ends : {u : State} {o : Buffers} {x : Result (Unit {0})} → behind t k ≡ done tt u o → returning h u o ≡ x → lower_chunk chunk h s m ≡ x
    unfolding lower_chunk
    chunk_ends z y = then_done (λ _. behind >> returning h) q ∙ then_done (λ _. returning h) z ∙ y
