-- `exp2anyreg` and `exp2val` stand for `anyreg` and for a discharged descriptor: a register without jumps stays where it is; one with jumps lands in itself, which is what the next register would be.
use Rattle.std.specs.Prelude.{ℕ, suc, Bool, ◌≡◌, List, leb}
use Rattle.std.proofs.Math.Bool.{true, false}
use Rattle.std.proofs.Math.Path.{refl}
use Rattle.std.proofs.Common.{sym, ap, ◌∙◌, arith, le-leb}
use Rattle.std.proofs.lemmas.Bool.{lt-leb}
use Rattle.constants.specs.Entry.{Constant, nil, truth, number, text}
use Rattle.model.specs.declared.ExprKind.TheVariants as kind
use Rattle.model.specs.declared.ExprContext.{ExprContext}
use Rattle.model.specs.declared.State.{State}
use Rattle.model.specs.Descriptor.{is_kind, has_jumps}
use Rattle.model.specs.Steps.{Buffers, done, Step, and_then, return}
use Rattle.model.specs.Discharge.{discharge_vars, exp2reg, exp2nextreg, exp2anyreg, exp2val}
use Rattle.labelled.specs.Code.{same_ne, Code}
use Rattle.labelled.specs.Machine.{pick}
use Rattle.labelled.specs.Emission.{St, set_free, hit}
use Rattle.labelled.specs.Firm.{true≢false}
use Rattle.labelled.specs.Discharge.{K4, kc, kr, kx, kj, Pair, Par4, lift4, dv, e2r, via_reg, any_k, anyreg}
use Rattle.threads.specs.Needs.{has_jumps_hit}
use Rattle.threads.specs.Holding.{Ends, gives, ends_then, ends_map}
use Rattle.simulation.specs.Sim.{Env, Sim, Sims, Is4, SimD, SimR, Sound}
use Rattle.simulation.specs.Absent.{no_lists}
use Rattle.simulation.specs.Registers.{chosen}
use Rattle.simulation.specs.Discharging.{sim_dv, sound_dv}
use Rattle.simulation.specs.Loading.{kind_of, kind_is, dv_idle, is_reg, is_reg_lem}
use Rattle.simulation.specs.ToRegister.{sim_exp2reg, sims_next, sim_next₄}

-- ---- whether there are jumps

-- the word or comparison that is held has none of them
module _ {Γ : Env} {s : State} {m : Buffers} {e : ExprContext} {f : ℕ} (q : Par4) (h : Sound Γ f (lift4 q)) (d : SimD Γ s m e (lift4 q)) where
  has_in : (c : Code) (g : ℕ) (t : List Constant) → Sim Γ s m d.heads c g t → has_jumps e ≡ hit false q.de.tl q.de.fl c
  has_in c g t x = rw (d.trues, d.falses) (has_jumps_hit x.holds.rep q.de.tl q.de.fl (λ z. h.differ (sym z)))

  has_held : (k : K4) → Is4 Γ s m d.heads e q.st k → has_jumps e ≡ hit false q.de.tl q.de.fl q.st.code
  unfolding hit
  has_held (kc nil) x = has_in _ _ _ x.1
  has_held (kc (truth true)) x = has_in _ _ _ x.1
  has_held (kc (truth false)) x = has_in _ _ _ x.1
  has_held (kc (number n)) x = has_in _ _ _ x.1
  has_held (kc (text y)) x = has_in _ _ _ x.1
  has_held (kr u r) x = has_in _ _ _ x.1.1.1
  has_held (kx y) x = has_in _ _ _ x.1.1.1
  has_held (kj o c y z) x = has_in _ _ _ x.1.1.1.1.1.1 ∙
      rw (same_ne x.1.1.1.0 q.de.tl (λ w. omega (arith, x.1.1.1.1.0, h.new.tl_old)), same_ne x.1.1.1.0 q.de.fl (λ w. omega (arith, x.1.1.1.1.0, h.new.fl_old))) refl

  pub has_is : has_jumps e ≡ hit false q.de.tl q.de.fl q.st.code
  has_is = has_held q.de.k4 d.is

-- ---- `exp2anyreg`

abbrev any_step : ExprContext → Step ExprContext
any_step e s = elim (is_kind kind.NonReloc e) as (λ (_ : Bool). Step ExprContext) [
  | true ↦ elim (has_jumps e) as (λ (_ : Bool). Step ExprContext) [
    | true ↦ elim (leb s.active e.info) as (λ (_ : Bool). Step ExprContext) [ true ↦ exp2reg e e.info | false ↦ exp2nextreg e ]
    | false ↦ return e
  ]
  | false ↦ exp2nextreg e
] s

any_pick : (e : ExprContext) (s : State) (m : Buffers) → any_step e s m ≡ pick (is_kind kind.NonReloc e) (pick (has_jumps e) (pick (leb s.active e.info) (exp2reg e e.info s m) (exp2nextreg e s m)) (done e s m)) (exp2nextreg e s m)
any_pick e s m = chosen (is_kind kind.NonReloc e) _ (exp2nextreg e) s m ∙ ap (λ z. pick (is_kind kind.NonReloc e) z (exp2nextreg e s m)) (chosen (has_jumps e) _ (return e) s m ∙ ap (λ z. pick (has_jumps e) z (done e s m)) (chosen (leb s.active e.info) (exp2reg e e.info) (exp2nextreg e) s m))

module _ (Γ : Env) (s : State) (m : Buffers) (e : ExprContext) (f : ℕ) (σ : St) (tl fl : ℕ) where
  abbrev Q : K4 → Par4
  Q k = record { st = σ; de = record { k4 = k; tl = tl; fl = fl } }

  abbrev Goal : K4 → Type 0
  Goal k = Sound Γ f (lift4 (Q k)) → SimD Γ s m e (lift4 (Q k)) → Ends (any_step e s m) (λ e' s' m'. SimR Γ s' m' e' (anyreg (Q k)))

  -- no register: it goes to the next one
  next_any : (k : K4) → (e.kind ≡ kind_of k → is_kind kind.NonReloc e ≡ false) → ((b : Bool) → any_k b k (Q k) ≡ via_reg (Q k)) → Goal k
  unfolding anyreg
  next_any k z w h d = rw (any_pick e s m, z (kind_is Γ s m d.heads e σ k d.is), w (hit false tl fl σ.code)) (sim_next₄ (Q k) h d)

  via : (k : K4) (b : Bool) → is_reg k ≡ false → any_k b k (Q k) ≡ via_reg (Q k)
  unfolding any_k
  via (kc v) true z = refl
  via (kc v) false z = refl
  via (kr u r) b z = absurd (true≢false z)
  via (kx x) true z = refl
  via (kx x) false z = refl
  via (kj o c x y) true z = refl
  via (kj o c x y) false z = refl

  -- a register with jumps stays in itself
  stay : (u : Bool) (r : ℕ) → Goal (kr u r)
  unfolding any_k anyreg
  stay u r h d = rw (any_pick e s m, is_reg_lem (kr u r) e d.is.0, has_is (Q (kr u r)) h d) (go (hit false tl fl σ.code) refl)
    where
      now : Sim Γ s m d.heads σ.code σ.free σ.tab
      now = d.is.1.1.1

      test : (b : Bool) → leb Γ.active r ≡ b → leb s.active e.info ≡ b
      test b z = rw (now.locals, d.is.1.0) z

      in_itself : (u : Bool) → Sound Γ f (lift4 (Q (kr u r))) → SimD Γ s m e (lift4 (Q (kr u r))) → Ends (pick (leb s.active e.info) (exp2reg e e.info s m) (exp2nextreg e s m)) (λ e' s' m'. SimR Γ s' m' e' (via_reg (Q (kr u r))))
      in_itself false h d = rw (test false (lt-leb Γ.active r h.own.1)) (sim_next₄ (Q (kr false r)) h d)
      in_itself true h d = rw (test true (le-leb Γ.active r (omega (arith, h.own.0, h.locals)))) (ends_map
          (sim_exp2reg Γ s m d.heads e σ (kr true r) tl fl e.info h.new.tl_new h.new.fl_new h.some h.differ h.new.tl_old h.new.fl_old h.new.on.old (omega (arith, d.is.1.0, d.is.1.1.0)) d.trues d.falses d.is)
          (λ e' s' m' x. record { kind = x.kind; info = x.info ∙ d.is.1.0; below = omega (arith, x.below, d.is.1.0); trues = x.trues; falses = x.falses; now = sims_next (Q (kr true r)) f h.own.0 (moved h d x.now) }))
        where
          moved : {s' : State} {m' : Buffers} → Sound Γ f (lift4 (Q (kr true r))) → SimD Γ s m e (lift4 (Q (kr true r))) → Sims Γ s' m' (e2r (Q (kr true r)).de e.info σ) → Sims Γ s' m' (e2r (Q (kr true r)).de f (set_free (suc f) σ))
          moved h d x = rw (← h.own.1, ← (d.is.1.0 ∙ h.own.0)) x

      go : (b : Bool) → hit false tl fl σ.code ≡ b → Ends (pick b (pick (leb s.active e.info) (exp2reg e e.info s m) (exp2nextreg e s m)) (done e s m)) (λ e' s' m'. SimR Γ s' m' e' (any_k b (kr u r) (Q (kr u r))))
      go true z = in_itself u h d
      go false z = let n = no_lists now tl fl z in gives e s m refl (record { kind = d.is.0; info = d.is.1.0; below = d.is.1.1.0; trues = d.trues ∙ n.0; falses = d.falses ∙ n.1; now = record { heads = d.heads; sim = now } })

  any4 : (k : K4) → Goal k
  any4 (kc v) = next_any (kc v) (is_reg_lem (kc v) e) (λ b. via (kc v) b refl)
  any4 (kr u r) = stay u r
  any4 (kx x) = next_any (kx x) (is_reg_lem (kx x) e) (λ b. via (kx x) b refl)
  any4 (kj o c x y) = next_any (kj o c x y) (is_reg_lem (kj o c x y) e) (λ b. via (kj o c x y) b refl)

-- of a discharged descriptor
pub sim_any₄ : {Γ : Env} {s : State} {m : Buffers} {e : ExprContext} {f : ℕ} (q : Par4) → Sound Γ f (lift4 q) → SimD Γ s m e (lift4 q) → Ends (exp2anyreg e s m) (λ e' s' m'. SimR Γ s' m' e' (anyreg q))
unfolding exp2anyreg and_then
sim_any₄ {Γ = Γ} {s = s} {m = m} {e = e} {f = f} q h d = rw (dv_idle q.de.k4 e s m (kind_is Γ s m d.heads e q.st q.de.k4 d.is)) (any4 Γ s m e f q.st q.de.tl q.de.fl q.de.k4 h d)

pub sim_any : {Γ : Env} {s : State} {m : Buffers} {e : ExprContext} {f : ℕ} (p : Pair) → Sound Γ f p → SimD Γ s m e p → Ends (exp2anyreg e s m) (λ e' s' m'. SimR Γ s' m' e' (anyreg (dv p)))
unfolding exp2anyreg and_then
sim_any {Γ = Γ} {f = f} p h d = ends_then (sim_dv p h d) (λ e₁ s₁ m₁ x. any4 Γ s₁ m₁ e₁ f (dv p).st p.de.tl p.de.fl (dv p).de.k4 (sound_dv p h) x.1.1)

-- ---- `exp2val`

-- a register without jumps, where there were some; else the discharged descriptor
pub data SimV (Γ : Env) (s : State) (m : Buffers) (e : ExprContext) (q : Par4) : Type 0 where
  landed : hit false q.de.tl q.de.fl q.st.code ≡ true → SimR Γ s m e (anyreg q) → SimV Γ s m e q
  plain : hit false q.de.tl q.de.fl q.st.code ≡ false → SimD Γ s m e (lift4 q) → SimV Γ s m e q

pub sim_val : {Γ : Env} {s : State} {m : Buffers} {e : ExprContext} {f : ℕ} (p : Pair) → Sound Γ f p → SimD Γ s m e p → Ends (exp2val e s m) (λ e' s' m'. SimV Γ s' m' e' (dv p))
unfolding exp2val exp2anyreg and_then
sim_val {Γ = Γ} {s = s} {m = m} {e = e} {f = f} p h d = rw (chosen (has_jumps e) (exp2anyreg e) (discharge_vars e) s m) (go (has_jumps e) refl)
  where
    -- whether there are jumps is the same before and behind `discharge_vars`
    test : {s₁ : State} {m₁ : Buffers} (e₁ : ExprContext) → (e₁.t ≡ e.t) × ((e₁.f ≡ e.f) × SimD Γ s₁ m₁ e₁ (lift4 (dv p))) → has_jumps e ≡ hit false p.de.tl p.de.fl (dv p).st.code
    test e₁ x = rw (← x.0, ← x.1.0) (has_is (dv p) (sound_dv p h) x.1.1)

    go : (b : Bool) → has_jumps e ≡ b → Ends (pick b (exp2anyreg e s m) (discharge_vars e s m)) (λ e' s' m'. SimV Γ s' m' e' (dv p))
    go true z = ends_then (sim_dv p h d) (λ e₁ s₁ m₁ x. ends_map (any4 Γ s₁ m₁ e₁ f (dv p).st p.de.tl p.de.fl (dv p).de.k4 (sound_dv p h) x.1.1) (λ e₂ s₂ m₂ y. landed (sym (test e₁ x) ∙ z) y))
    go false z = ends_map (sim_dv p h d) (λ e₁ s₁ m₁ x. plain (sym (test e₁ x) ∙ z) x.1.1)
