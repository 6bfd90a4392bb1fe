-- Calls: `closed_call`, `set_multret` with the call that takes the list, and `last_argument` stand for `labelled_closed_call` and `last_arg`. The function's register is the first of those taken, its arguments lie behind it,
-- so B counts them; a list stays right behind the fixed ones.
use Prim.Native.Nat.{ℕ, suc, ◌+◌, ◌-◌, ◌≤◌, ◌<◌}
use Rattle.std.specs.Prelude.{Bool, true, false, ◌||◌, ◌≡◌, length}
use Rattle.std.proofs.Math.Path.{refl, sym, ap}
use Rattle.std.proofs.Common.{◌∙◌, subst, arith, length-set, lt-ltb}
use mathlib.Core.List.{List, ◌∷◌}
use Rattle.std.proofs.Math.ListN.{set}
use Rattle.std.proofs.Math.Dec.{eqb}
use Rattle.instructions.specs.Limits.{no_reg}
use Rattle.instructions.specs.Word.{set_a_of, set_b_of, set_c_of, abc_of}
use Rattle.instructions.specs.Laws.{set_a_abc, set_b_abc, set_c_abc}
use Rattle.opcodes.specs.declared.OpCode.TheVariants as op
use Rattle.constants.specs.Entry.{Constant, nil, truth, number, text}
use Rattle.model.specs.declared.ExprKind.TheVariants as kind
use Rattle.model.specs.declared.ExprContext.{ExprContext}
use Rattle.model.specs.declared.State.{State}
use Rattle.model.specs.Descriptor.{with_kind, is_kind, tag_of}
use Rattle.model.specs.Steps.{Buffers, done, and_then, ◌>>◌}
use Rattle.model.specs.Jumps.{word}
use Rattle.model.specs.Emission.{with_free, emit_at, reserve_regs}
use Rattle.model.specs.Discharge.{exp2nextreg, change_word}
use Rattle.model.specs.Expressions.{set_multret, above, emit_call, closed_call, is_open, last_argument}
use Rattle.labelled.specs.Code.{same_refl, CT, cfix, cva, cct, cbase, twidth, vfst, PW, setw, callw, pl, pwidth, size, edit}
use Rattle.labelled.specs.Edits.{size_edit}
use Rattle.labelled.specs.Machine.{pick}
use Rattle.labelled.specs.Emission.{St, flush, here}
use Rattle.labelled.specs.Fresh.{On, flush_u, next_on, dv_new}
use Rattle.labelled.specs.Owning.{freed_own}
use Rattle.labelled.specs.Discharge.{kc, kr, kx, kj, K, kd, kl, kg, ki, kcl, kva, Pair, fresh, dv, nextreg, freed}
use Rattle.labelled.specs.Expressions.{labelled_closed_call, last_arg}
use Rattle.labelled.specs.Settling.{next_free}
use Rattle.threads.specs.Words.{word_same, word_other}
use Rattle.threads.specs.Represents.{set_h}
use Rattle.threads.specs.Holding.{Ends, gives, ends_then, with_code}
use Rattle.threads.specs.Coded.{CodesC, wide, agree_c}
use Rattle.simulation.specs.Sim.{Env, Sim, Sims, Is, SimD, Sound}
use Rattle.simulation.specs.Steps.{sim_emit_at, sim_over}
use Rattle.simulation.specs.Registers.{chosen, reserve_any, sim_fewer}
use Rattle.simulation.specs.Discharging.{sound_dv}
use Rattle.simulation.specs.Loading.{then_done}
use Rattle.simulation.specs.ToRegister.{sim_next}
use Rattle.simulation.specs.Late.{fresh_held}
use Rattle.simulation.specs.Chaining.{InF}

above_is : (r : ℕ) → r < no_reg → above r ≡ suc r
unfolding above
above_is r l = ap (λ (b : Bool). elim b [ true ↦ r + 1 | false ↦ no_reg ]) (lt-ltb r no_reg l) ∙ omega arith

emit_call_is : (func : ExprContext) (b line : ℕ) (s : State) (m : Buffers) → emit_call func b line s m ≡ and_then (emit_at (abc_of op.Call func.info b 2) line s m) (λ pc s₁ m₁. done (with_kind kind.Call pc func) (with_free (above func.info) s₁) m₁)
unfolding emit_call and_then
emit_call_is func b line s m = refl

-- ---- a call without a list

module _ {Γ : Env} (func : ExprContext) (b n line : ℕ) (i : InF func b) (σ : St) (taken : σ.free ≡ suc (n + b)) (one : 1 ≤ Γ.n) (on : On Γ.n σ) where
  pub sim_closed : {s : State} {m : Buffers} → Sims Γ s m σ → Ends (closed_call func line s m) (λ e' s' m'. SimD Γ s' m' e' (labelled_closed_call b n σ))
  unfolding closed_call and_then flush
  sim_closed {s = s} {m = m} h = rw (emit_call_is func (s.free - above func.info + 1) line s m, i.info, above_is b low, count)
      (ends_then (sim_emit_at h.sim line (callw (cfix b n)) (abc_of op.Call b (suc n) 2) refl (λ us z. (omega (arith, h.sim.taken, taken), z)))
      (λ pc s₁ m₁ q. gives _ (with_free (suc b) s₁) m₁ refl (fresh_held (set_h 0 0 h.heads) (pl (callw (cfix b n))) _ (kcl (cfix b n)) (suc b) (suc b) (flush σ) tt (flush_u σ.nxt (omega (arith, on.up)) σ on.old) i.trues i.falses (held q)
      (refl, (omega (arith, q.0, size_edit (here σ.code) σ.code), (rw (same_refl 0) refl, held q))))))
    where
      low : b < no_reg
      low = omega (arith, h.sim.taken, h.sim.most, taken)

      count : s.free - suc b + 1 ≡ suc n
      count = omega (arith, h.sim.free, taken)

      held : {pc : ℕ} {s₁ : State} {m₁ : Buffers} {P : Type 0} → (pc ≡ size σ.code) × (P × Sim Γ s₁ m₁ (set_h 0 0 h.heads) (pl (callw (cfix b n)) ∷ edit (here σ.code) σ.code) σ.free σ.tab) → Sim Γ (with_free (suc b) s₁) m₁ (set_h 0 0 h.heads) (pl (callw (cfix b n)) ∷ edit (here σ.code) σ.code) (suc b) σ.tab
      held q = sim_fewer q.1.1 (suc b) (omega (arith, taken))

-- ---- the list of a call

-- a call's last word with another C
module _ (t : List Constant) (F : ℕ) where
  all_values : (ws : List ℕ) (n c : ℕ) (u : CT) (q : ℕ) → suc q ≡ twidth u + n → q < length ws → CodesC t F ws n c u → (vs : List ℕ) → ((p : ℕ) → p < twidth u + n → word vs p ≡ word (set ws q (set_c_of (word ws q) 0)) p) → CodesC t F vs n 0 u
  all_values ws n c (cfix b k) q e l h vs g = let z : q ≡ n = omega arith in
      let w : word ws q ≡ abc_of op.Call b (suc k) c = rw z h.1 in
      let v : word vs n ≡ abc_of op.Call b (suc k) 0 = g n (omega arith) ∙ subst (λ p. word (set ws q (set_c_of (word ws q) 0)) p ≡ abc_of op.Call b (suc k) 0) z (word_same ws q _ l ∙ rw w (set_c_abc op.Call b (suc k) c 0)) in
      (h.0, v)
  all_values ws n c (cva b k) q e l h vs g = let z : q ≡ 1 + n = omega arith in
      let w : word ws q ≡ abc_of op.Call b 0 c = rw z h.1.1 in
      let v : word vs (1 + n) ≡ abc_of op.Call b 0 0 = g (1 + n) (omega arith) ∙ subst (λ p. word (set ws q (set_c_of (word ws q) 0)) p ≡ abc_of op.Call b 0 0) z (word_same ws q _ l ∙ rw w (set_c_abc op.Call b 0 c 0)) in
      (h.0, (g n (omega arith) ∙ word_other ws q n _ (λ y. omega arith) ∙ h.1.0, v))
  all_values ws n c (cct b k u) q e l h vs g = let z : q ≡ twidth u + n = omega arith in
      let w : word ws q ≡ abc_of op.Call b 0 c = rw z h.1.1.1 in
      let v : word vs (twidth u + n) ≡ abc_of op.Call b 0 0 = g (twidth u + n) (omega arith) ∙ subst (λ p. word (set ws q (set_c_of (word ws q) 0)) p ≡ abc_of op.Call b 0 0) z (word_same ws q _ l ∙ rw w (set_c_abc op.Call b 0 c 0)) in
      (h.0, (h.1.0, (agree_c t F ws vs n 0 u (λ p a y. g p (omega arith) ∙ word_other ws q p _ (λ x. omega arith)) h.1.1.0, v)))

multret_call : (e : ExprContext) (s : State) (m : Buffers) → is_kind kind.Call e ≡ true → set_multret e s m ≡ done tt s (with_code (set m.code e.info (set_c_of (word m.code e.info) 0)) m)
unfolding set_multret
multret_call e s m z = chosen (is_kind kind.Call e) (change_word e.info (λ w. set_c_of w 0)) _ s m ∙ rw z refl

multret_vararg : (e : ExprContext) (s : State) (m : Buffers) → is_kind kind.Call e ≡ false → set_multret e s m ≡ reserve_regs 1 s (with_code (set m.code e.info (set_a_of (set_b_of (word m.code e.info) 0) s.free)) m)
unfolding set_multret and_then
multret_vararg e s m z = chosen (is_kind kind.Call e) (change_word e.info (λ w. set_c_of w 0)) _ s m ∙ rw z refl

module _ {Γ : Env} (func : ExprContext) (b n line : ℕ) (i : InF func b) (σ : St) (one : 1 ≤ Γ.n) (on : On Γ.n σ) where
  -- the call that takes the list
  takes_list : (s : State) (m : Buffers) (H : ℕ → ℕ) (w : PW) (f : ℕ) (us : List ℕ) (u : CT) → Sim Γ s m H (pl w ∷ σ.code) f σ.tab → suc b ≤ f → length us ≡ length m.code → ((q : ℕ) → q < size σ.code → word us q ≡ word m.code q) → H 0 ≡ 0 → ((q : ℕ) → pwidth w + size σ.code ≤ q → word us q ≡ word m.code q) → twidth u ≡ 1 + pwidth w →
      ((vs : List ℕ) → ((q : ℕ) → q < pwidth w + size σ.code → word vs q ≡ word us q) → word vs (pwidth w + size σ.code) ≡ abc_of op.Call b 0 2 → CodesC σ.tab s.frame vs (size σ.code) 2 u) →
      Ends (emit_call func 0 line s (with_code us m)) (λ e' s' m'. SimD Γ s' m' e' (fresh (kcl u) (suc b) σ))
  takes_list s m H w f us u h fb l g z k o codes = rw (emit_call_is func 0 line s (with_code us m), i.info, above_is b (omega (arith, h.taken, h.most)))
      (ends_then (sim_over h us l g z k line u (abc_of op.Call b 0 2) o codes) (λ pc s₁ m₁ q. gives _ (with_free (suc b) s₁) m₁ refl
      (fresh_held H (pl (callw u)) _ (kcl u) (suc b) (suc b) σ tt on.old i.trues i.falses (sim_fewer q.1.1 (suc b) fb) (refl, (omega (arith, q.0, o), (z, sim_fewer q.1.1 (suc b) fb))))))

  -- a call that is the last argument gives all its values
  open_call : {s : State} {m : Buffers} (e : ExprContext) (H : ℕ → ℕ) (u : CT) → cbase u ≡ suc (n + b) → σ.free ≡ suc (suc (n + b)) → Is Γ s m H e σ (kcl u) → Ends ((set_multret e >> emit_call func 0 line) s m) (λ e' s' m'. SimD Γ s' m' e' (fresh (kcl (cct b n u)) (suc b) σ))
  unfolding size
  open_call {s = s} {m = m} e H u z taken h = rw (multret_call e s m (ap (λ y. eqb (tag_of y) 11) h.0), then_done {A = Unit {0}} tt s (with_code us m) (λ _. emit_call func 0 line))
      (takes_list s m H (callw u) σ.free us (cct b n u) now (omega (arith, taken)) (length-set m.code e.info _) (λ q l. word_other m.code e.info q _ (λ y. omega (arith, h.1.0, wide σ.tab s.frame u))) h.1.1.0
      (λ q l. word_other m.code e.info q _ (λ y. omega (arith, h.1.0))) (omega arith)
      (λ vs g y. (omega (arith, now.taken, taken), (z, (all_values σ.tab s.frame m.code (size σ.code) 2 u e.info h.1.0 inside now.holds.rep.enc.0 vs g, y)))))
    where
      us : List ℕ
      us = set m.code e.info (set_c_of (word m.code e.info) 0)

      now : Sim Γ s m H (pl (callw u) ∷ σ.code) σ.free σ.tab
      now = h.1.1.1

      inside : e.info < length m.code
      inside = omega (arith, h.1.0, now.holds.rep.fits, now.holds.rep.len)

  -- so does `...`
  open_vararg : (s : State) (m : Buffers) (e : ExprContext) (H : ℕ → ℕ) → σ.free ≡ suc (n + b) → Is Γ s m H e σ kva → Ends ((set_multret e >> emit_call func 0 line) s m) (λ e' s' m'. SimD Γ s' m' e' (fresh (kcl (cva b n)) (suc b) σ))
  unfolding size
  open_vararg s m e H taken h = rw (multret_vararg e s m (ap (λ y. eqb (tag_of y) 11) h.0), h.1.0)
      (ends_then (reserve_any Γ {s = s} {m = with_code us m} now.free 1) (λ v s₁ m₁ q. rw q.0
      (takes_list s₁ m₂ H (setw 0 vfst) (σ.free + 1) us (cva b n) (q.1.1 m₂ H (pl (setw 0 vfst) ∷ σ.code) σ.tab now) (omega (arith, taken)) (length-set m.code (size σ.code) _ ∙ sym (length-set m.code (size σ.code) _))
      (λ p l. word_other m.code (size σ.code) p _ (λ y. omega arith) ∙ sym (word_other m.code (size σ.code) p _ (λ y. omega arith))) h.1.1.0
      (λ p l. word_other m.code (size σ.code) p _ (λ y. omega arith) ∙ sym (word_other m.code (size σ.code) p _ (λ y. omega arith))) refl
      (λ vs g y. (omega (arith, (q.1.1 m₂ H (pl (setw 0 vfst) ∷ σ.code) σ.tab now).taken, taken), (g (size σ.code) (omega arith) ∙ listed, y))))))
    where
      us : List ℕ
      us = set m.code (size σ.code) (set_a_of (set_b_of (word m.code (size σ.code)) 0) s.free)

      m₂ : Buffers
      m₂ = with_code (set m.code (size σ.code) (abc_of op.VarArg 0 2 0)) m

      now : Sim Γ s m₂ H (pl (setw 0 vfst) ∷ σ.code) σ.free σ.tab
      now = h.1.1.1.1

      inside : size σ.code < length m.code
      inside = omega (arith, now.holds.rep.fits, now.holds.rep.len, length-set m.code (size σ.code) (abc_of op.VarArg 0 2 0))

      listed : word us (size σ.code) ≡ abc_of op.VarArg (suc (n + b)) 0 0
      listed = word_same m.code (size σ.code) _ inside ∙ all_of (word m.code (size σ.code)) h.1.1.1.0
        where
          all_of : (w : ℕ) → w ≡ abc_of op.VarArg 0 1 0 → set_a_of (set_b_of w 0) s.free ≡ abc_of op.VarArg (suc (n + b)) 0 0
          all_of w y = rw (y, set_b_abc op.VarArg 0 1 0 0, now.free ∙ taken) (set_a_abc op.VarArg 0 0 0 (suc (n + b)))

-- ---- `last_argument`

-- it comes behind n others, and g registers are taken before it
module _ (Γ : Env) (func : ExprContext) (b n line : ℕ) (i : InF func b) where
  last_is : (e : ExprContext) (s : State) (m : Buffers) → last_argument func line e s m ≡ pick (is_open e) ((set_multret e >> emit_call func 0 line) s m) ((exp2nextreg e >> closed_call func line) s m)
  unfolding last_argument
  last_is e s m = chosen (is_open e) (set_multret e >> emit_call func 0 line) (exp2nextreg e >> closed_call func line) s m

  module _ (s : State) (m : Buffers) (e : ExprContext) (σ : St) (tl fl : ℕ) where
    abbrev P : K → Pair
    P k = record { st = σ; de = record { kind = k; tl = tl; fl = fl } }

    abbrev Goal : K → Type 0
    Goal k = Sound Γ (suc (n + b)) (P k) → SimD Γ s m e (P k) → Ends (last_argument func line e s m) (λ e' s' m'. SimD Γ s' m' e' (last_arg b n k (P k)))

    -- one value
    one_value : (k : K) → is_open e ≡ false → Sound Γ (suc (n + b)) (P k) → SimD Γ s m e (P k) → Ends (last_argument func line e s m) (λ e' s' m'. SimD Γ s' m' e' (labelled_closed_call b (suc n) (nextreg (dv (P k)))))
    one_value k z h d = rw (last_is e s m, z) (ends_then (sim_next (P k) h d) (λ e₁ s₁ m₁ x. sim_closed func b (suc n) line i (nextreg (dv (P k))) (next_free (dv (P k)) ∙ ap suc own ∙ omega arith) h.some (next_on Γ.n h.some (dv (P k)) (dv_new Γ.n h.some (P k) h.new)) x.now))
      where
        own : freed (dv (P k)).de.k4 (dv (P k)).st.free ≡ suc (n + b)
        own = freed_own Γ.active (dv (P k)).de.k4 (suc (n + b)) (dv (P k)).st.free (sound_dv (P k) h).own

    no_list : (t u : Bool) → t ≡ false → u ≡ false → (t || u) ≡ false
    no_list t u p q = rw (p, q) refl

    last_at : (k : K) → Goal k
    unfolding last_arg
    last_at (kd (kc nil)) h d = one_value _ (no_list _ _ (ap (λ y. eqb (tag_of y) 11) d.is.0) (ap (λ y. eqb (tag_of y) 12) d.is.0)) h d
    last_at (kd (kc (truth true))) h d = one_value _ (no_list _ _ (ap (λ y. eqb (tag_of y) 11) d.is.0) (ap (λ y. eqb (tag_of y) 12) d.is.0)) h d
    last_at (kd (kc (truth false))) h d = one_value _ (no_list _ _ (ap (λ y. eqb (tag_of y) 11) d.is.0) (ap (λ y. eqb (tag_of y) 12) d.is.0)) h d
    last_at (kd (kc (number x))) h d = one_value _ (no_list _ _ (ap (λ y. eqb (tag_of y) 11) d.is.0.0) (ap (λ y. eqb (tag_of y) 12) d.is.0.0)) h d
    last_at (kd (kc (text x))) h d = one_value _ (no_list _ _ (ap (λ y. eqb (tag_of y) 11) d.is.0.0) (ap (λ y. eqb (tag_of y) 12) d.is.0.0)) h d
    last_at (kd (kr u r)) h d = one_value _ (no_list _ _ (ap (λ y. eqb (tag_of y) 11) d.is.0) (ap (λ y. eqb (tag_of y) 12) d.is.0)) h d
    last_at (kd (kx x)) h d = one_value _ (no_list _ _ (ap (λ y. eqb (tag_of y) 11) d.is.0) (ap (λ y. eqb (tag_of y) 12) d.is.0)) h d
    last_at (kd (kj o c x y)) h d = one_value _ (no_list _ _ (ap (λ y. eqb (tag_of y) 11) d.is.0) (ap (λ y. eqb (tag_of y) 12) d.is.0)) h d
    last_at (kl r) h d = one_value _ (no_list _ _ (ap (λ y. eqb (tag_of y) 11) d.is.0) (ap (λ y. eqb (tag_of y) 12) d.is.0)) h d
    last_at (kg g) h d = one_value _ (no_list _ _ (ap (λ y. eqb (tag_of y) 11) d.is.0) (ap (λ y. eqb (tag_of y) 12) d.is.0)) h d
    last_at (ki f r x) h d = one_value _ (no_list _ _ (ap (λ y. eqb (tag_of y) 11) d.is.0) (ap (λ y. eqb (tag_of y) 12) d.is.0)) h d
    last_at (kcl u) h d = rw (last_is e s m, ap (λ y. eqb (tag_of y) 11) d.is.0) (open_call func b n line i σ h.some h.new.on e d.heads u h.own.0 h.own.1 d.is)
    last_at kva h d = rw (last_is e s m, ap (λ y. eqb (tag_of y) 11) d.is.0, ap (λ y. eqb (tag_of y) 12) d.is.0) (open_vararg func b n line i σ h.some h.new.on s m e d.heads h.own d.is)

  pub sim_last : {s : State} {m : Buffers} {e : ExprContext} (p : Pair) → Sound Γ (suc (n + b)) p → SimD Γ s m e p → Ends (last_argument func line e s m) (λ e' s' m'. SimD Γ s' m' e' (last_arg b n p.de.kind p))
  sim_last {s = s} {m = m} {e = e} p h d = last_at s m e p.st p.de.tl p.de.fl p.de.kind h d
