-- A descriptor goes to a register: `exp2reg` and `exp2nextreg` stand for `e2r` and `nextreg`. Labelled code gives the register before it is free: none of its steps look at that.
use Rattle.std.specs.Prelude.{ℕ, suc, ◌+◌, ◌≤◌, ◌<◌, Bool, ◌≡◌, refl, [], ◌∷◌, leb}
use Rattle.std.proofs.Math.Bool.{true, false}
use Rattle.std.proofs.Math.Path.{sym}
use Rattle.std.proofs.Common.{ap, ◌∙◌, arith}
use Rattle.constants.specs.Entry.{nil, truth, number, text}
use Rattle.model.specs.declared.ExprKind.TheVariants as kind
use Rattle.model.specs.declared.ExprContext.{ExprContext}
use Rattle.model.specs.declared.State.{State}
use Rattle.model.specs.Descriptor.{with_kind, with_jumps, has_jumps}
use Rattle.model.specs.Steps.{Buffers, Result, done, refused, Step, and_then, ◌>>=◌, ◌>>◌, return, when, skip}
use Rattle.model.specs.Emission.{with_free, alloc_reg}
use Rattle.model.specs.Discharge.{free_expr, load_kind, discharge2reg, join_jump, settle as settle_jumps, exp2reg, exp2nextreg}
use Rattle.labelled.specs.Code.{same, cp, setw, lbs, mark, nilw, callw, selfw, pl, br, Code}
use Rattle.labelled.specs.Machine.{pick}
use Rattle.labelled.specs.Emission.{St, set_free, labelled_with_free, labelled_emit_jump, push, nil_top, extend, in_range, hit}
use Rattle.labelled.specs.Loads.{d2r_nxt}
use Rattle.labelled.specs.Discharge.{K4, kc, kr, kx, kj, Pair, Des4, Par4, lift4, freed, d2r, is_cmp, dv, settle, load_pair, land_all, e2r, nextreg, via_reg}
use Rattle.labelled.specs.Owning.{freed_own, own_le}
use Rattle.labelled.specs.Firm.{true≢false}
use Rattle.labelled.specs.Fresh.{Under, d2r_u}
use Rattle.threads.specs.Needs.{has_jumps_hit}
use Rattle.threads.specs.Holding.{Ends, gives, ends_then, ends_map}
use Rattle.simulation.specs.Sim.{Env, Sim, Sims, Is4, SimD, SimR, Sound}
use Rattle.simulation.specs.Steps.{settled_c, sim_settle}
use Rattle.simulation.specs.Absent.{under_list}
use Rattle.simulation.specs.Registers.{chosen, Moves, sim_alloc, sim_fewer}
use Rattle.simulation.specs.Discharging.{sim_dv, sound_dv}
use Rattle.simulation.specs.Loading.{kind_of, kind_is, is4_free, some_of, dv_idle, free_expr_is, Loaded, loads, then_done, sim_loads}

-- ---- `exp2reg`

pub then_assoc : {A B D : Type 0} (x : Result A) (f : A → Step B) (g : B → Step D) → and_then x (λ a s m. and_then (f a s m) g) ≡ and_then (and_then x f) g
unfolding and_then
then_assoc (done a s m) f g = refl
then_assoc (refused k m) f g = refl

abbrev ends_in : ℕ → ExprContext → Step ExprContext
ends_in r e = when (has_jumps e) (settle_jumps e r) >> return (with_kind kind.NonReloc r (with_jumps 0 0 e))

exp2reg_is : (k : K4) (e : ExprContext) (r : ℕ) (s : State) (m : Buffers) → e.kind ≡ kind_of k → exp2reg e r s m ≡ and_then (loads k e r s m) (ends_in r)
unfolding exp2reg discharge2reg
exp2reg_is k e r s m q =
    ap (λ x. and_then (and_then x (λ e₁. load_kind e₁.kind e₁ r)) (λ e₁. join_jump e₁ >>= ends_in r)) (dv_idle k e s m q) ∙
    ap (λ x. and_then x (λ e₁. join_jump e₁ >>= ends_in r)) (then_done e s m (λ e₁. load_kind e₁.kind e₁ r)) ∙
    ap (λ z. and_then (load_kind z e r s m) (λ e₁. join_jump e₁ >>= ends_in r)) q ∙ then_assoc (load_kind (kind_of k) e r s m) join_jump (ends_in r)

-- the end: jumps land
settled_sim : {Γ : Env} {s : State} {m : Buffers} {H : ℕ → ℕ} (v k : Bool) (j : ℕ) (e : Des4) (r : ℕ) (τ : St) → Sim Γ s m H (settled_c τ.code j e.tl e.fl r v k) τ.free τ.tab → Sims Γ s m (settle true v k j e r τ)
unfolding settle load_pair land_all labelled_emit_jump
settled_sim true true j e r τ h = record { heads = _; sim = h }
settled_sim true false j e r τ h = record { heads = _; sim = h }
settled_sim false true j e r τ h = record { heads = _; sim = h }
settled_sim false false j e r τ h = record { heads = _; sim = h }

module _ (Γ : Env) (s : State) (m : Buffers) (H : ℕ → ℕ) (e : ExprContext) (σ : St) (k : K4) (tl fl r : ℕ) (nt : Γ.n ≤ tl) (nf : Γ.n ≤ fl) (o : 1 ≤ Γ.n) (tf : fl ≡ tl → ⊥) (lt : tl < σ.nxt) (lf : fl < σ.nxt) (old : Under σ.nxt σ.code) (below : r < s.frame) (et : e.t ≡ H tl) (ef : e.f ≡ H fl) where
  abbrev D : Des4
  D = record { k4 = k; tl = tl; fl = fl }

  abbrev τ : St
  τ = d2r k tl r σ

  ended : (e₂ : ExprContext) (s₂ : State) (m₂ : Buffers) → Loaded Γ s s₂ m₂ e.t e.f e₂ k τ tl fl r → Ends (ends_in r e₂ s₂ m₂) (λ e' s' m'. SimR Γ s' m' e' (record { st = e2r D r σ; rgn = r }))
  unfolding e2r settle
  ended e₂ s₂ m₂ h = rw (chosen (has_jumps e₂) (settle_jumps e₂ r) skip s₂ m₂, has) (go (hit false tl fl τ.code) (hit true tl fl τ.code) refl)
    where
      has : has_jumps e₂ ≡ hit false tl fl τ.code
      has = rw (h.trues, h.falses) (has_jumps_hit h.sim.holds.rep tl fl (λ z. tf (sym z)))

      nx : τ.nxt ≡ σ.nxt
      nx = d2r_nxt k tl r σ

      go : (b v : Bool) → hit true tl fl τ.code ≡ v → Ends (and_then (pick b (settle_jumps e₂ r s₂ m₂) (skip s₂ m₂)) (λ _. return (with_kind kind.NonReloc r (with_jumps 0 0 e₂)))) (λ e' s' m'. SimR Γ s' m' e' (record { st = settle b v (is_cmp k) τ.nxt D r τ; rgn = r }))
      go false v z = gives _ s₂ m₂ (then_done tt s₂ m₂ _) (record { kind = refl; info = refl; below = rw h.frame below; trues = refl; falses = refl; now = record { heads = h.heads; sim = h.sim } })
      go true v z = ends_then
          (sim_settle h.sim e₂ τ.nxt tl fl (under_list h.sim σ.nxt τ.nxt (omega (arith, nx)) (d2r_u σ.nxt (omega arith) k tl r σ lt old)) h.trues h.falses (omega (arith, nx)) nt nf o (λ y. omega (arith, nx)) (λ y. omega (arith, nx)) (λ y. tf (sym y)) r (rw h.frame below))
          (λ u s' m' q. gives _ s' m' refl (record { kind = refl; info = refl; below = rw (q.0.frame, h.frame) below; trues = refl; falses = refl; now = settled_sim v (is_cmp k) τ.nxt D r τ (rw (z, h.jmp) at q.1) }))

  -- `exp2reg`
  pub sim_exp2reg : Is4 Γ s m H e σ k → Ends (exp2reg e r s m) (λ e' s' m'. SimR Γ s' m' e' (record { st = e2r D r σ; rgn = r }))
  sim_exp2reg h = rw (exp2reg_is k e r s m (kind_is Γ s m H e σ k h)) (ends_then (sim_loads Γ s m H e σ tl fl r nt nf o tf lt lf old below et ef k h) ended)

-- ---- labelled code does not look at how many registers are taken

nil_free : (c : Code) (r g : ℕ) (s : St) → nil_top c r (set_free g s) ≡ set_free g (nil_top c r s)
unfolding push
nil_free [] r g s = refl
nil_free (pl (setw a x) ∷ c) r g s = refl
nil_free (pl (lbs a b) ∷ c) r g s = refl
nil_free (pl mark ∷ c) r g s = refl
nil_free (pl (nilw a k) ∷ c) r g s = go (in_range a k r)
  where
    go : (b : Bool) → extend b (leb r (k + a)) a k r c (set_free g s) ≡ set_free g (extend b (leb r (k + a)) a k r c s)
    go true = refl
    go false = refl
nil_free (pl (callw u) ∷ c) r g s = refl
nil_free (pl (selfw a o k) ∷ c) r g s = refl
nil_free (br k t ∷ c) r g s = refl

pub d2r_free : (k : K4) (t r g : ℕ) (s : St) → d2r k t r (set_free g s) ≡ set_free g (d2r k t r s)
unfolding d2r push
d2r_free (kc nil) t r g s = nil_free s.code r g s
d2r_free (kc (truth b)) t r g s = refl
d2r_free (kc (number n)) t r g s = refl
d2r_free (kc (text x)) t r g s = refl
d2r_free (kr u k) t r g s = go (same r k)
  where
    go : (b : Bool) → pick b (set_free g s) (push (pl (setw r (cp k))) (set_free g s)) ≡ set_free g (pick b s (push (pl (setw r (cp k))) s))
    go true = refl
    go false = refl
d2r_free (kx x) t r g s = refl
d2r_free (kj o c x y) t r g s = refl

-- what is no comparison has no use for the label, and the registers taken are as they were
pub d2r_label : (k : K4) (t u r : ℕ) (s : St) → is_cmp k ≡ false → d2r k t r s ≡ d2r k u r s
unfolding d2r
d2r_label (kc v) t u r s z = refl
d2r_label (kr b k) t u r s z = refl
d2r_label (kx x) t u r s z = refl
d2r_label (kj o c x y) t u r s z = absurd (true≢false z)

settle_free : (a v k : Bool) (j : ℕ) (e : Des4) (r g : ℕ) (s : St) → settle a v k j e r (set_free g s) ≡ set_free g (settle a v k j e r s)
unfolding settle load_pair land_all labelled_emit_jump
settle_free false v k j e r g s = refl
settle_free true false k j e r g s = refl
settle_free true true true j e r g s = refl
settle_free true true false j e r g s = refl

pub e2r_free : (e : Des4) (r g : ℕ) (s : St) → e2r e r (set_free g s) ≡ set_free g (e2r e r s)
unfolding e2r
e2r_free e r g s = rw (d2r_free e.k4 e.tl r g s) (settle_free _ _ (is_cmp e.k4) _ e r g (d2r e.k4 e.tl r s))

-- ---- `exp2nextreg`

-- of a discharged descriptor
next_of : ExprContext → Step ExprContext
next_of e = free_expr e >> (alloc_reg >>= exp2reg e)

pub sims_next : {Γ : Env} {s : State} {m : Buffers} (q : Par4) (f : ℕ) → freed q.de.k4 q.st.free ≡ f → Sims Γ s m (e2r q.de f (set_free (suc f) q.st)) → Sims Γ s m (nextreg q)
unfolding nextreg
sims_next {Γ = Γ} {s = s} {m = m} q f e h = rw e (go (rw (e2r_free q.de f (suc f) q.st) at h))
  where
    go : Sims Γ s m (set_free (suc f) (e2r q.de f q.st)) → Sims Γ s m (labelled_with_free (e2r q.de f q.st) (suc f) (suc (e2r q.de f q.st).nxt))
    go x = record { heads = x.heads; sim = x.sim }

module _ {Γ : Env} {s : State} {m : Buffers} {e : ExprContext} {f : ℕ} (q : Par4) (h : Sound Γ f (lift4 q)) (d : SimD Γ s m e (lift4 q)) where
  abbrev k : K4
  k = q.de.k4

  next4 : Ends (next_of e s m) (λ e' s' m'. SimR Γ s' m' e' (via_reg q))
  unfolding next_of
  next4 = rw (free_expr_is Γ s m d.heads e q.st f h.locals k h.own d.is, then_done {A = Unit {0}} tt (with_free f s) m (λ _. alloc_reg >>= exp2reg e))
      (ends_then (sim_alloc Γ {s = with_free f s} {m = m} {f = f} refl) (λ r s₁ m₁ p. rw p.0 (ends_map
      (sim_exp2reg Γ s₁ m₁ d.heads e (set_free (suc f) q.st) k q.de.tl q.de.fl f h.new.tl_new h.new.fl_new h.some h.differ h.new.tl_old h.new.fl_old h.new.on.old (room p) d.trues d.falses (there s₁ m₁ p))
      (λ e' s' m' x. record { kind = x.kind; info = x.info ∙ sym own; below = rw own x.below; trues = x.trues; falses = x.falses; now = sims_next q f own x.now }))))
    where
      own : freed k q.st.free ≡ f
      own = freed_own Γ.active k f q.st.free h.own

      freed_is : Is4 Γ (with_free f s) m d.heads e (set_free f q.st) k
      freed_is = is4_free Γ s m d.heads e q.st k (with_free f s) m f refl (omega arith) (λ H c t x. sim_fewer x f (own_le Γ.active k f q.st.free h.own)) d.is

      there : (s₁ : State) (m₁ : Buffers) {r : ℕ} → (r ≡ f) × ((m₁ ≡ m) × ((s.frame ≤ s₁.frame) × Moves Γ (with_free f s) m f s₁ m₁ (suc f))) → Is4 Γ s₁ m₁ d.heads e (set_free (suc f) q.st) k
      there s₁ m₁ p = is4_free Γ (with_free f s) m d.heads e (set_free f q.st) k s₁ m₁ (suc f) p.1.0 p.1.1.0 p.1.1.1 freed_is

      room : {s₁ : State} {m₁ : Buffers} {r : ℕ} → (r ≡ f) × ((m₁ ≡ m) × ((s.frame ≤ s₁.frame) × Moves Γ (with_free f s) m f s₁ m₁ (suc f))) → f < s₁.frame
      room {s₁ = s₁} {m₁ = m₁} p = omega (arith, (some_of Γ s₁ m₁ d.heads e (set_free (suc f) q.st) k (there s₁ m₁ p)).1.taken)

  -- of a discharged descriptor
  pub sim_next₄ : Ends (exp2nextreg e s m) (λ e' s' m'. SimR Γ s' m' e' (via_reg q))
  unfolding exp2nextreg next_of
  sim_next₄ = rw (dv_idle k e s m (kind_is Γ s m d.heads e q.st k d.is), then_done e s m next_of) next4

pub sim_next : {Γ : Env} {s : State} {m : Buffers} {e : ExprContext} {f : ℕ} (p : Pair) → Sound Γ f p → SimD Γ s m e p → Ends (exp2nextreg e s m) (λ e' s' m'. SimR Γ s' m' e' (via_reg (dv p)))
unfolding exp2nextreg next_of
sim_next p h d = ends_then (sim_dv p h d) (λ e₁ s₁ m₁ x. next4 (dv p) (sound_dv p h) x.1.1)
