-- `discharge_vars` stands for `dv`: a variable, an index read, a call or a vararg becomes a value. A call's word already gives one result, so setting its C changes nothing.
use Rattle.std.specs.Prelude.{ℕ, suc, ◌+◌, ◌≤◌, ◌<◌, true, false, ◌≡◌, List, ◌∷◌, set}
use Rattle.std.proofs.Math.Path.{refl, sym, ap}
use Rattle.std.proofs.Common.{◌∙◌, arith}
use Rattle.std.proofs.lemmas.List.{set-get_or}
use Rattle.instructions.specs.Word.{set_c_of, abc_of, a_bx_of}
use Rattle.instructions.specs.Laws.{a_abc, set_b_abc, set_c_abc}
use Rattle.opcodes.specs.declared.OpCode.TheVariants as op
use Rattle.constants.specs.Entry.{Constant, nil, truth, number, text}
use Rattle.model.specs.declared.ExprKind.{ExprKind}
use Rattle.model.specs.declared.ExprKind.TheVariants as kind
use Rattle.model.specs.declared.ExprContext.{ExprContext}
use Rattle.model.specs.declared.State.{State}
use Rattle.model.specs.Steps.{Buffers, done, and_then}
use Rattle.model.specs.Jumps.{word}
use Rattle.model.specs.Emission.{with_free}
use Rattle.model.specs.Discharge.{discharge_kind, discharge_vars}
use Rattle.labelled.specs.Code.{same_refl, Rk, glob, idx, CT, cfix, cva, cct, cbase, twidth, Instr, setw, callw, pl, Code, size, edit, Act}
use Rattle.labelled.specs.Edits.{size_edit}
use Rattle.labelled.specs.Emission.{St, flush, push, here, one}
use Rattle.labelled.specs.Discharge.{K4, kc, kr, kx, kj, K, kd, kl, kg, ki, kcl, kva, Pair, lift4, dv_k, dv_s, dv}
use Rattle.labelled.specs.Sound.{OkK4, OkK}
use Rattle.labelled.specs.Owning.{Own, dv_own}
use Rattle.labelled.specs.Fresh.{dv_new}
use Rattle.threads.specs.Represents.{set_h}
use Rattle.threads.specs.Emitting.{edit_none}
use Rattle.threads.specs.Holding.{Ends, gives, ends_then}
use Rattle.threads.specs.Coded.{CodesC}
use Rattle.simulation.specs.Sim.{Env, Sim, drop, SimD, Sound}
use Rattle.simulation.specs.Steps.{sim_emit, set_other}
use Rattle.simulation.specs.Registers.{free_is, sim_fewer}

-- the last word of a call
module _ (t : List Constant) (F : ℕ) (ws : List ℕ) where
  pub record LastC (b c : ℕ) (w : ℕ) : Type 0 where
    pub count : ℕ
    pub is : w ≡ abc_of op.Call b count c
    pub below : b < F

  pub last_call : (n c : ℕ) (u : CT) (q : ℕ) → CodesC t F ws n c u → suc q ≡ twidth u + n → LastC (cbase u) c (word ws q)
  last_call n c (cfix b k) q h e = let z : q ≡ n = omega arith in record { count = suc k; is = rw z h.1; below = omega (arith, h.0) }
  last_call n c (cva b k) q h e = let z : q ≡ 1 + n = omega arith in record { count = 0; is = rw z h.1.1; below = omega (arith, h.0) }
  last_call n c (cct b k u) q h e = let z : q ≡ twidth u + n = omega arith in record { count = 0; is = rw z h.1.1.1; below = omega (arith, h.0) }

-- ---- code without jumps to here

tails : {A : Type 0} (x y : A) (a b : List A) → (x ∷ a) ≡ (y ∷ b) → a ≡ b
tails x y a b e = cc

pub no_here : {Γ : Env} {s : State} {m : Buffers} {H : ℕ → ℕ} {i : Instr} {c : Code} {f : ℕ} {t : List Constant} → Sim Γ s m H (i ∷ c) f t → H 0 ≡ 0 → (a : Act) → edit (one 0 a) c ≡ c
unfolding edit
no_here {i = i} {c = c} h z a = tails _ _ _ _ (edit_none h.holds.rep 0 a z)

discharge_at : (k : ExprKind) (e : ExprContext) (s : State) (m : Buffers) → e.kind ≡ k → discharge_vars e s m ≡ discharge_kind k e s m
discharge_at k e s m q = ap (λ z. discharge_kind z e s m) q

module _ (Γ : Env) (s : State) (m : Buffers) (e : ExprContext) (σ : St) (tl fl : ℕ) (t1 : 1 ≤ tl) (f1 : 1 ≤ fl) where
  abbrev P : K → Pair
  P k = record { st = σ; de = record { kind = k; tl = tl; fl = fl } }

  abbrev Goal : K → Type 0
  Goal k = Ends (discharge_vars e s m) (λ e' s' m'. (e'.t ≡ e.t) × ((e'.f ≡ e.f) × SimD Γ s' m' e' (lift4 (dv (P k)))))

  -- a value stays as it is
  dv_same : (x : ExprKind) (k : K4) → e.kind ≡ x → discharge_kind x e s m ≡ done e s m → SimD Γ s m e (P (kd k)) → Goal (kd k)
  unfolding dv_s
  dv_same x k q z d = gives e s m (discharge_at x e s m q ∙ z) (refl, (refl, record { heads = d.heads; is = d.is; trues = d.trues; falses = d.falses }))

  dv_con : (v : Constant) → SimD Γ s m e (P (kd (kc v))) → Goal (kd (kc v))
  unfolding discharge_kind
  dv_con nil d = dv_same kind.Nil (kc nil) d.is.0 refl d
  dv_con (truth true) d = dv_same kind.True (kc (truth true)) d.is.0 refl d
  dv_con (truth false) d = dv_same kind.False (kc (truth false)) d.is.0 refl d
  dv_con (number n) d = dv_same kind.KNum (kc (number n)) d.is.0.0 refl d
  dv_con (text x) d = dv_same kind.K (kc (text x)) d.is.0.0 refl d

  dv_4 : (k : K4) → SimD Γ s m e (P (kd k)) → Goal (kd k)
  unfolding discharge_kind
  dv_4 (kc v) d = dv_con v d
  dv_4 (kr u r) d = dv_same kind.NonReloc (kr u r) d.is.0 refl d
  dv_4 (kx x) d = dv_same kind.Relocable (kx x) d.is.0 refl d
  dv_4 (kj o k x y) d = dv_same kind.Jmp (kj o k x y) d.is.0 refl d

  dv_local : (r : ℕ) → SimD Γ s m e (P (kl r)) → Goal (kl r)
  unfolding discharge_kind dv_s
  dv_local r d = gives _ s m (discharge_at kind.Local e s m d.is.0) (refl, (refl, record { heads = d.heads; is = (refl, (d.is.1.0, (d.is.1.1.0, d.is.1.1.1))); trues = d.trues; falses = d.falses }))

  head_other : (H : ℕ → ℕ) (ℓ : ℕ) → 1 ≤ ℓ → H ℓ ≡ set_h 0 0 H ℓ
  head_other H ℓ l = sym (set_other 0 0 H ℓ (λ z. omega arith))

  head_zero : (H : ℕ → ℕ) → set_h 0 0 H 0 ≡ 0
  head_zero H = rw (same_refl 0) refl

  -- a word is emitted that still wants its register
  dv_global : (g : List ℕ) → SimD Γ s m e (P (kg g)) → Goal (kg g)
  unfolding discharge_kind dv_s flush
  dv_global g d = rw (discharge_at kind.Global e s m d.is.0)
      (ends_then (sim_emit now (setw 0 (glob g)) (a_bx_of op.GetGlobal 0 e.info) refl (λ us z. (omega (arith, now.two), (d.is.1.1.0, z ∙ ap (a_bx_of op.GetGlobal 0) d.is.1.0))))
      (λ pc s' m' q. gives _ s' m' refl (refl, (refl, record { heads = set_h 0 0 d.heads; is = (refl, (q.0 ∙ sym (size_edit (here σ.code) σ.code), (head_zero d.heads, q.1.1))); trues = d.trues ∙ head_other d.heads tl t1; falses = d.falses ∙ head_other d.heads fl f1 }))))
    where
      now : Sim Γ s m d.heads σ.code σ.free σ.tab
      now = d.is.1.1.1

  dv_indexed : (f r : ℕ) (x : Rk) → f ≤ σ.free → SimD Γ s m e (P (ki f r x)) → Goal (ki f r x)
  unfolding discharge_kind dv_s flush and_then
  dv_indexed f r x l d = rw (discharge_at kind.Indexed e s m d.is.0, free_is e.aux s m)
      (rw (free_is e.info (with_free (drop s.active e.aux s.free) s) m, freed)
      (ends_then (sim_emit (sim_fewer now f l) (setw 0 (idx r x)) (abc_of op.GetTable 0 e.info e.aux) refl (λ us z. (omega (arith, now.two), (e.aux, (d.is.1.1.0, (d.is.1.1.1.0, z ∙ ap (λ i. abc_of op.GetTable 0 i e.aux) d.is.1.0))))))
      (λ pc s' m' q. gives _ s' m' refl (refl, (refl, record { heads = set_h 0 0 d.heads; is = (refl, (q.0 ∙ sym (size_edit (here σ.code) σ.code), (head_zero d.heads, q.1.1))); trues = d.trues ∙ head_other d.heads tl t1; falses = d.falses ∙ head_other d.heads fl f1 })))))
    where
      now : Sim Γ s m d.heads σ.code σ.free σ.tab
      now = d.is.1.1.1.1.1

      freed : drop s.active e.info (drop s.active e.aux s.free) ≡ f
      freed = rw (now.locals, now.free, d.is.1.0) d.is.1.1.1.1.0

  -- the call's word is as it should be
  dv_call : (u : CT) → SimD Γ s m e (P (kcl u)) → Goal (kcl u)
  unfolding discharge_kind dv_s push and_then
  dv_call u d = rw (discharge_at kind.Call e s m d.is.0, words_same) (gives _ s m refl (
    refl,
    (
      refl,
      record {
        heads = d.heads;
        is = (refl, (rw w.is (a_abc op.Call (cbase u) w.count 2 ∙ omega (arith, w.below, now.most)), (w.below, rw (no_here now d.is.1.1.0 _) now)));
        trues = d.trues;
        falses = d.falses;
      },
    ),
  ))
    where
      now : Sim Γ s m d.heads (pl (callw u) ∷ σ.code) σ.free σ.tab
      now = d.is.1.1.1

      w : LastC σ.tab s.frame m.code (cbase u) 2 (word m.code e.info)
      w = last_call σ.tab s.frame m.code (size σ.code) 2 u e.info now.holds.rep.enc.0 d.is.1.0

      word_same : set_c_of (word m.code e.info) 2 ≡ word m.code e.info
      word_same = rw w.is (set_c_abc op.Call (cbase u) w.count 2 2)

      words_same : set m.code e.info (set_c_of (word m.code e.info) 2) ≡ m.code
      words_same = rw word_same (set-get_or m.code e.info 0)

  dv_vararg : SimD Γ s m e (P kva) → Goal kva
  unfolding discharge_kind dv_s and_then
  dv_vararg d = rw (discharge_at kind.VarArg e s m d.is.0, d.is.1.0, d.is.1.1.1.0, set_b_abc op.VarArg 0 1 0 2) (gives _ s _ refl (refl, (refl, record { heads = d.heads; is = (refl, (refl, (d.is.1.1.0, d.is.1.1.1.1))); trues = d.trues; falses = d.falses })))

  dv_at : (f : ℕ) (k : K) → Own Γ.active f k σ.free → SimD Γ s m e (P k) → Goal k
  dv_at f (kd k) o d = dv_4 k d
  dv_at f (kl r) o d = dv_local r d
  dv_at f (kg g) o d = dv_global g d
  dv_at f (ki g r x) o d = dv_indexed g r x (omega (arith, o.0, o.1)) d
  dv_at f (kcl u) o d = dv_call u d
  dv_at f kva o d = dv_vararg d

-- `discharge_vars`
pub sim_dv : {Γ : Env} {s : State} {m : Buffers} {e : ExprContext} {f : ℕ} (p : Pair) → Sound Γ f p → SimD Γ s m e p → Ends (discharge_vars e s m) (λ e' s' m'. (e'.t ≡ e.t) × ((e'.f ≡ e.f) × SimD Γ s' m' e' (lift4 (dv p))))
sim_dv {Γ = Γ} {s = s} {m = m} {e = e} {f = f} p h d = dv_at Γ s m e p.st p.de.tl p.de.fl (omega (arith, h.new.tl_new, h.some)) (omega (arith, h.new.fl_new, h.some)) f p.de.kind h.own d

pub dv_tab : (k : K) (s : St) → (dv_s k s).tab ≡ s.tab
unfolding dv_s flush push
dv_tab (kd k) s = refl
dv_tab (kl r) s = refl
dv_tab (kg g) s = refl
dv_tab (ki f t x) s = refl
dv_tab (kcl u) s = refl
dv_tab kva s = refl

-- and what labelled code says of it
dv_ok : (k : K) (s : St) → OkK s.tab k → OkK4 (dv_s k s).tab (dv_k k)
unfolding dv_s flush push
dv_ok (kd k) s h = h
dv_ok (kl r) s h = tt
dv_ok (kg g) s h = h
dv_ok (ki f t x) s h = h
dv_ok (kcl u) s h = tt
dv_ok kva s h = tt

pub sound_dv : {Γ : Env} {f : ℕ} (p : Pair) → Sound Γ f p → Sound Γ f (lift4 (dv p))
sound_dv {Γ = Γ} {f = f} p h =
    let n = dv_new Γ.n h.some p h.new in
    record { own = dv_own Γ.active p.de.kind f p.st h.own; new = record { on = n.on; tl_new = n.tl_new; tl_old = n.tl_old; fl_new = n.fl_new; fl_old = n.fl_old }; ok = dv_ok p.de.kind p.st h.ok; differ = h.differ; some = h.some; locals = h.locals }
