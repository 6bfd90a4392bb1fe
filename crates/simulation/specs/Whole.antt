-- The lowering of a whole chunk: `lower_chunk` is refused, or its words are those of labelled code with a `Return` behind them, its constants are the list's, and its frame has room for the formulas' values.
-- By the simulation of each expression, from the beginning: no words, no lists, no constants, the locals' registers taken.
use Prim.Native.Nat.{ℕ, zero, suc, ◌+◌, ◌≤◌}
use Rattle.std.specs.Prelude.{◌≡◌, List, [], length}
use Rattle.std.proofs.Math.Path.{refl, ap}
use Rattle.std.proofs.Common.{sym, ◌∙◌, subst, length-set}
use native.Mathlib.Omega.{arith}
use Rattle.instructions.specs.Limits.{max_stack}
use Rattle.instructions.specs.Word.{abc_of}
use Rattle.opcodes.specs.declared.OpCode.TheVariants as op
use Rattle.buffers.specs.Pad.{zeros}
use Rattle.cursor.specs.declared.Text.{Text}
use Rattle.chunk.specs.Ast.{Expr, Exprs, none as no_more, more}
use Rattle.chunk.specs.Headers.{names_at}
use Rattle.chunk.specs.Form.{Parsed, parsed, exprs_at, expr_at, names_of, max_nesting}
use Rattle.chunk.specs.declared.header.Header.{Header}
use Rattle.model.specs.declared.ExprContext.{ExprContext}
use Rattle.model.specs.declared.State.{State}
use Rattle.model.specs.Steps.{Buffers, Result, Step, ◌>>◌}
use Rattle.model.specs.Jumps.{word}
use Rattle.model.specs.Emission.{emit}
use Rattle.model.specs.Discharge.{exp2nextreg}
use Rattle.model.specs.Expressions.{compile_expr}
use Rattle.model.specs.Lowering.{Sizes, cleared, start, formulas, lower_chunk}
use Rattle.model.specs.Claims.{Bytes}
use Rattle.labelled.specs.Code.{Code, size, edit}
use Rattle.labelled.specs.Emission.{St, flush, here}
use Rattle.labelled.specs.Fresh.{On, next_on, dv_new}
use Rattle.labelled.specs.Owning.{freed_own}
use Rattle.labelled.specs.Discharge.{dv, nextreg}
use Rattle.labelled.specs.Expressions.{comp, comp_all, begin, labelled}
use Rattle.labelled.specs.Faithful.{count}
use Rattle.labelled.specs.Settling.{next_free}
use Rattle.threads.specs.Words.{word_same, word_other}
use Rattle.threads.specs.Encoding.{Enc, enc_agree}
use Rattle.threads.specs.Emitting.{discharged, emitted, rep_start}
use Rattle.threads.specs.Holding.{Ends, gives, ends_then, ends_map, emit_ends}
use Rattle.threads.specs.Coded.{coded, Low}
use Rattle.simulation.specs.Tabled.{Tabled}
use Rattle.simulation.specs.Sim.{Env, Sim, Sims, SimD}
use Rattle.simulation.specs.Steps.{sim_discharge}
use Rattle.simulation.specs.Constants.{tabled_empty}
use Rattle.simulation.specs.Registers.{sim_reserve}
use Rattle.simulation.specs.Discharging.{sound_dv}
use Rattle.simulation.specs.ToRegister.{sim_next}
use Rattle.simulation.specs.Parts.{at_place, LowersExpr}
use Rattle.simulation.specs.Trees.{sound_comp}
use Rattle.simulation.specs.Parsing.{invert, same_parsed}
use Rattle.simulation.specs.Nodes.{expr_at_lem}

-- ---- formulas

module _ (chunk : List ℕ) (names : List Text) (g : Step ExprContext) (F : ℕ → ℕ → Parsed Expr) (lowers : (a : Expr) (at line at' line' : ℕ) → F at line ≡ parsed a at' line' → LowersExpr (length names) g (comp chunk names a) at line at' line') where
  -- the state behind them, and the registers that are taken then
  pub record All (Γ : Env) (s : State) (m : Buffers) (es : Exprs) (σ : St) : Type 0 where
    pub now : Sims Γ s m (comp_all chunk names es σ)
    pub on : On Γ.n (comp_all chunk names es σ)
    pub taken : (comp_all chunk names es σ).free ≡ count es + σ.free

  all_more : (Γ : Env) (s : State) (m : Buffers) (a : Expr) (es : Exprs) (σ : St) → (nextreg (dv (comp chunk names a σ))).free ≡ suc σ.free → All Γ s m es (nextreg (dv (comp chunk names a σ))) → All Γ s m (more a es) σ
  unfolding comp_all
  all_more Γ s m a es σ e x = record { now = x.now; on = x.on; taken = omega (arith, x.taken, e) }

  same_all : {x : Result (Unit {0})} (Γ : Env) (σ : St) (es es' : Exprs) (a a' l l' : ℕ) → es ≡ es' → a ≡ a' → l ≡ l' → Ends x (λ u s' m'. All (at_place Γ a l) s' m' es σ) → Ends x (λ u s' m'. All (at_place Γ a' l') s' m' es' σ)
  same_all {x = x} Γ σ es es' a a' l l' p q r h = subst (λ z. Ends x (λ u s' m'. All (at_place Γ a' l') s' m' z σ)) p (subst (λ z. Ends x (λ u s' m'. All (at_place Γ a' z) s' m' es σ)) r (subst (λ z. Ends x (λ u s' m'. All (at_place Γ z l) s' m' es σ)) q h))

  pub all_at : (n : ℕ) (es : Exprs) (at line at' line' : ℕ) → exprs_at F n at line ≡ parsed es at' line' → (Γ : Env) (s : State) (m : Buffers) (σ : St) → Γ.active ≡ length names → 1 ≤ Γ.n → On Γ.n σ → length names ≤ σ.free → Sims (at_place Γ at line) s m σ →
      Ends (formulas g n s m) (λ u s' m'. All (at_place Γ at' line') s' m' es σ)
  unfolding exprs_at formulas comp_all
  all_at zero es at line at' line' e Γ s m σ act one on l h =
      let w = same_parsed no_more es at line at' line' e in
      same_all Γ σ no_more es at at' line line' w.0 w.1.0 w.1.1 (gives tt s m refl (record { now = h; on = on; taken = omega arith }))
  all_at (suc n) es at line at' line' e Γ s m σ act one on l h =
      let v = invert (F at line) _ es at' line' e in
      let u = invert (exprs_at F n v.place v.own_line) _ es at' line' v.then in
      let w = same_parsed (more v.value u.value) es u.place u.own_line at' line' u.then in
      same_all Γ σ (more v.value u.value) es u.place at' u.own_line line' w.0 w.1.0 w.1.1
      (ends_then (lowers v.value at line v.place v.own_line v.first Γ s m σ act one on l h) (λ e₁ s₁ m₁ d. next_formula v.value v.place v.own_line s₁ m₁ e₁ d (λ s₂ m₂ fr on₂ y.
      ends_map (all_at n u.value v.place v.own_line u.place u.own_line u.first Γ s₂ m₂ (nextreg (dv (comp chunk names v.value σ))) act one on₂ (omega (arith, fr)) y) (λ t s₃ m₃ x. all_more (at_place Γ u.place u.own_line) s₃ m₃ v.value u.value σ fr x))))
    where
      next_formula : (a : Expr) (p q : ℕ) (s₁ : State) (m₁ : Buffers) (e₁ : ExprContext) → SimD (at_place Γ p q) s₁ m₁ e₁ (comp chunk names a σ) → {Q : Unit {0} → State → Buffers → Type 0} {rest : Step (Unit {0})} →
          ((s₂ : State) (m₂ : Buffers) → (nextreg (dv (comp chunk names a σ))).free ≡ suc σ.free → On Γ.n (nextreg (dv (comp chunk names a σ))) → Sims (at_place Γ p q) s₂ m₂ (nextreg (dv (comp chunk names a σ))) → Ends (rest s₂ m₂) Q) → Ends ((exp2nextreg e₁ >> rest) s₁ m₁) Q
      next_formula a p q s₁ m₁ e₁ d go =
          let P = comp chunk names a σ in
          let w = sound_comp chunk names (at_place Γ p q) a σ act one on l in
          ends_then (sim_next P w d) (λ e₂ s₂ m₂ x. go s₂ m₂ (next_free (dv P) ∙ ap suc (freed_own Γ.active (dv P).de.k4 σ.free (dv P).st.free (sound_dv P w).own)) (next_on Γ.n one (dv P) (dv_new Γ.n one P w.new)) x.now)

-- ---- from the beginning to the end

-- what a lowering leaves: the labelled code's words, `Return` and zeros, and its constants
pub record LowersTo (s : State) (m : Buffers) (c : Code) (σ : St) (locals k : ℕ) : Type 0 where
  pub enc : Enc (coded σ.tab s.frame) m.code c
  pub low : Low s.frame c
  pub words : s.pc ≡ suc (size c)
  pub fits : s.pc ≤ length m.code
  pub behind : (q : ℕ) → s.pc ≤ q → word m.code q ≡ 0
  pub return_word : word m.code (size c) ≡ abc_of op.Return locals (k + 1) 0
  pub room : locals + k ≤ s.frame
  pub most : s.frame ≤ max_stack
  pub table : Tabled σ.tab s.table m.kinds m.values m.pool

-- `Return` behind the formulas
returned : (Γ : Env) (s : State) (m : Buffers) (σ : St) (locals k : ℕ) → σ.free ≡ k + locals → Sims Γ s m σ → Ends (emit (abc_of op.Return locals (k + 1) 0) s m) (λ a s' m'. LowersTo s' m' (flush σ).code σ locals k)
unfolding flush
returned Γ s m σ locals k fr h = emit_ends (abc_of op.Return locals (k + 1) 0) s m _ (λ a b.
    let d = (sim_discharge h.sim).1 in
    record {
      enc = enc_agree (coded σ.tab s.frame) (discharged m.code s.pc s.jpc) _ (edit (here σ.code) σ.code) (λ q l. word_other (discharged m.code s.pc s.jpc) s.pc q _ (λ e. omega (arith, d.holds.pcs))) d.holds.rep.enc;
      low = d.low;
      words = omega (arith, d.holds.pcs);
      fits = omega (arith, length-set (discharged m.code s.pc s.jpc) s.pc (abc_of op.Return locals (k + 1) 0));
      behind = λ q l. word_other (discharged m.code s.pc s.jpc) s.pc q _ (λ e. omega arith) ∙ d.holds.rep.clean q (omega (arith, d.holds.pcs));
      return_word = subst (λ q. word (emitted m.code s.pc s.jpc (abc_of op.Return locals (k + 1) 0)) q ≡ abc_of op.Return locals (k + 1) 0) d.holds.pcs (word_same (discharged m.code s.pc s.jpc) s.pc _ a);
      room = omega (arith, h.sim.taken, fr);
      most = h.sim.most;
      table = h.sim.table;
    })

-- no words, no lists, no constants
no_words : size [] ≡ 0
unfolding size
no_words = refl

begins : (z : Sizes) (at locals : ℕ) → Sim (record { cap = z.code; active = locals; at = at; line = 1; least = 0; n = 1; lists = λ ℓ. 0 }) (start at locals) (cleared z) (λ ℓ. 0) [] 0 []
begins z at locals = record {
  holds = record { rep = rep_start (coded [] 2) z.code; pcs = sym no_words; jpcs = refl };
  low = tt;
  free = refl;
  taken = omega arith;
  two = omega arith;
  most = omega arith;
  least = omega arith;
  locals = refl;
  at = refl;
  line = refl;
  table = tabled_empty (zeros z.kinds) (zeros z.values) (zeros z.pool);
  label = omega arith;
  marks = omega arith;
  others = λ ℓ a b. refl;
}

-- as many formulas as were asked for
pub count_is : (F : ℕ → ℕ → Parsed Expr) (n : ℕ) (es : Exprs) (at line at' line' : ℕ) → exprs_at F n at line ≡ parsed es at' line' → count es ≡ n
unfolding exprs_at
count_is F zero es at line at' line' e = sym (ap count (same_parsed no_more es at line at' line' e).0)
count_is F (suc n) es at line at' line' e =
    let v = invert (F at line) _ es at' line' e in
    let u = invert (exprs_at F n v.place v.own_line) _ es at' line' v.then in
    sym (ap count (same_parsed (more v.value u.value) es u.place u.own_line at' line' u.then).0) ∙ ap suc (count_is F n u.value v.place v.own_line u.place u.own_line u.first)

pub whole_lowered : (z : Sizes) (chunk : List ℕ) (hd : Header) (names : List Text) → names ≡ names_of (names_at chunk hd.locals hd.names) → length names ≡ hd.locals → Bytes chunk → (fs : Exprs) (at' line' : ℕ) → exprs_at (expr_at chunk hd.varargs max_nesting) hd.formulas hd.next 1 ≡ parsed fs at' line' →
    Ends (lower_chunk chunk hd (start hd.next hd.locals) (cleared z)) (λ u s m. LowersTo s m (labelled chunk names fs).code (labelled chunk names fs) hd.locals hd.formulas)
unfolding lower_chunk flush
whole_lowered z chunk hd names nm len bytes fs at' line' e = ends_then (sim_reserve Γ {s = start hd.next hd.locals} {m = cleared z} {f = 0} refl hd.locals) (λ _ s₁ m₁ q.
    ends_then (all_at chunk names (compile_expr chunk hd max_nesting) (expr_at chunk hd.varargs max_nesting) (expr_at_lem chunk hd names nm bytes max_nesting) hd.formulas fs hd.next 1 at' line' e Γ s₁ m₁ (begin (length names)) (sym len) (omega arith) (record { up = omega arith; old = tt }) (omega arith) (taken s₁ m₁ (q.1.1 (λ ℓ. 0) [] [] (begins z hd.next hd.locals)))) (λ _ s₂ m₂ x.
    ends_then (returned (at_place Γ at' line') s₂ m₂ (comp_all chunk names fs (begin (length names))) hd.locals hd.formulas (x.taken ∙ free_is) x.now) (λ _ s₃ m₃ y. gives tt s₃ m₃ refl
    (record { enc = y.enc; low = y.low; words = y.words; fits = y.fits; behind = y.behind; return_word = y.return_word; room = y.room; most = y.most; table = y.table }))))
  where
    Γ : Env
    Γ = record { cap = z.code; active = hd.locals; at = hd.next; line = 1; least = 0; n = 1; lists = λ ℓ. 0 }

    taken : (s₁ : State) (m₁ : Buffers) → Sim Γ s₁ m₁ (λ ℓ. 0) [] (0 + hd.locals) [] → Sims (at_place Γ hd.next 1) s₁ m₁ (begin (length names))
    taken s₁ m₁ h = record { heads = λ ℓ. 0; sim = let w : 0 + hd.locals ≡ length names = omega (arith, len) in rw w at h }

    free_is : count fs + length names ≡ hd.formulas + hd.locals
    free_is = omega (arith, len, count_is (expr_at chunk hd.varargs max_nesting) hd.formulas fs hd.next 1 at' line' e)
