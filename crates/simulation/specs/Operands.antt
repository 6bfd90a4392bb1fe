-- `exp2rk` stands for labelled code's: a constant up to 255 is named, all else goes to a register; the tests look at the same places in the table. A second conversion changes nothing.
use Rattle.std.specs.Prelude.{ℕ, ◌+◌, ◌≤◌, Bool, true, false, ◌≡◌, eqb, leb}
use Rattle.std.proofs.Math.Path.{refl, ap, subst}
use Rattle.std.proofs.Common.{sym, ◌∙◌, arith, le-leb}
use mathlib.Core.List.{List, []}
use Rattle.instructions.specs.Limits.{max_index_rk, bit_rk}
use Rattle.constants.specs.Entry.{Constant, nil, truth, number, text, constant_of}
use Rattle.constants.specs.declared.Val.{Val}
use Rattle.constants.specs.declared.Val.TheVariants as val
use Rattle.constants.specs.Distinct.{Short}
use Rattle.model.specs.Values.{value_of}
use Rattle.model.specs.declared.ExprKind.{ExprKind}
use Rattle.model.specs.declared.ExprKind.TheVariants as kind
use Rattle.model.specs.declared.ExprContext.{ExprContext}
use Rattle.model.specs.declared.State.{State}
use Rattle.model.specs.Descriptor.{with_kind, is_kind, tag_of, has_jumps}
use Rattle.model.specs.Steps.{Buffers, done, and_then, return}
use Rattle.model.specs.Emission.{add_constant}
use Rattle.model.specs.Discharge.{discharge_vars, discharge_kind, exp2anyreg, exp2val, small, near, rk_kind, exp2rk}
use Rattle.labelled.specs.Code.{Rk, reg, con}
use Rattle.labelled.specs.Machine.{pick}
use Rattle.labelled.specs.Table.{place, include, roomy, is_near}
use Rattle.labelled.specs.Places.{Listed, listed_include, place_include, near_place, roomy_place}
use Rattle.labelled.specs.Emission.{St, add_k, hit}
use Rattle.labelled.specs.Discharge.{K4, kc, kr, kx, kj, Pair, Par4, RgS, lift4, add_p, dv, anyreg, as_rk, con_rk, small_rk, rk_c, rk_k, exp2rk as exp2rk_l}
use Rattle.threads.specs.Holding.{Ends, gives, ends_then, ends_map}
use Rattle.simulation.specs.Sim.{Env, Sim, SimD, SimR, Operand, SimK, Sound}
use Rattle.simulation.specs.Registers.{chosen}
use Rattle.simulation.specs.Adding.{sim_add, near_is, roomy_is}
use Rattle.simulation.specs.Loading.{kind_of, kind_is, then_done}
use Rattle.simulation.specs.Absent.{no_lists}
use Rattle.simulation.specs.Discharging.{sound_dv}
use Rattle.simulation.specs.AnyRegister.{sim_any₄, SimV, landed, plain, sim_val}

-- ---- a register without jumps stays as it is

module _ (e : ExprContext) (s : State) (m : Buffers) (k : e.kind ≡ kind.NonReloc) (t : e.t ≡ 0) (f : e.f ≡ 0) where
  no_jumps : has_jumps e ≡ false
  no_jumps = rw (t, f) refl

  idle : discharge_vars e s m ≡ done e s m
  unfolding discharge_kind
  idle = ap (λ z. discharge_kind z e s m) k

  is_register : is_kind kind.NonReloc e ≡ true
  is_register = ap (λ z. eqb (tag_of z) 10) k

  pub any_stays : exp2anyreg e s m ≡ done e s m
  unfolding exp2anyreg and_then
  any_stays = rw idle (chosen (is_kind kind.NonReloc e) _ _ s m ∙ rw is_register (chosen (has_jumps e) _ (return e) s m ∙ rw no_jumps refl))

  pub kind_stays : rk_kind e.kind e s m ≡ done e s m
  unfolding rk_kind
  kind_stays = ap (λ z. rk_kind z e s m) k ∙ any_stays

  pub rk_stays : exp2rk e s m ≡ done e s m
  unfolding exp2rk exp2val
  rk_stays = ap (λ x. and_then x (λ e₁. rk_kind e₁.kind e₁)) (chosen (has_jumps e) (exp2anyreg e) (discharge_vars e) s m ∙ rw no_jumps idle) ∙ then_done e s m (λ e₁. rk_kind e₁.kind e₁) ∙ kind_stays

-- nor does a constant's index of at most 255
module _ (e : ExprContext) (s : State) (m : Buffers) (k : e.kind ≡ kind.K) (t : e.t ≡ 0) (f : e.f ≡ 0) (l : e.info ≤ max_index_rk) where
  no_jump : has_jumps e ≡ false
  no_jump = rw (t, f) refl

  idle_k : discharge_vars e s m ≡ done e s m
  unfolding discharge_kind
  idle_k = ap (λ z. discharge_kind z e s m) k

  near_k : rk_kind e.kind e s m ≡ done e s m
  unfolding rk_kind near
  near_k = ap (λ z. rk_kind z e s m) k ∙ chosen (leb e.info max_index_rk) (return (with_kind kind.K e.info e)) (exp2anyreg e) s m ∙ rw (le-leb e.info max_index_rk l) (ap (λ z. done (with_kind z e.info e) s m) (sym k))

  pub constant_stays : exp2rk e s m ≡ done e s m
  unfolding exp2rk exp2val
  constant_stays = ap (λ x. and_then x (λ e₁. rk_kind e₁.kind e₁)) (chosen (has_jumps e) (exp2anyreg e) (discharge_vars e) s m ∙ rw no_jump idle_k) ∙ then_done e s m (λ e₁. rk_kind e₁.kind e₁) ∙ near_k

-- so an operand stays as it is
pub operand_stays : (e : ExprContext) (s₀ s : State) (m : Buffers) (σ : St) (x : Rk) → Operand s₀ e σ x → e.t ≡ 0 → e.f ≡ 0 → exp2rk e s m ≡ done e s m
operand_stays e s₀ s m σ (reg r) h t f = rk_stays e s m h.0 t f
operand_stays e s₀ s m σ (con v) h t f = constant_stays e s m h.0 t f (omega (arith, h.1.1.1.1.0, h.1.1.1.1.1))

-- ---- kinds

rk_at : (x : ExprKind) (e : ExprContext) (s : State) (m : Buffers) → e.kind ≡ x → rk_kind e.kind e s m ≡ rk_kind x e s m
rk_at x e s m q = ap (λ z. rk_kind z e s m) q

pub as_rk_lem : {Γ : Env} {s : State} {m : Buffers} {e : ExprContext} (q : RgS) → SimR Γ s m e q → SimK Γ s m e (as_rk q)
as_rk_lem q h = record { is = (h.kind, (h.info, h.below)); trues = h.trues; falses = h.falses; now = h.now }

module _ (Γ : Env) (s : State) (m : Buffers) (e : ExprContext) (f : ℕ) (σ : St) (tl fl : ℕ) where
  abbrev Q : K4 → Par4
  Q k = record { st = σ; de = record { k4 = k; tl = tl; fl = fl } }

  abbrev Goal : K4 → Type 0
  Goal k = Sound Γ f (lift4 (Q k)) → SimD Γ s m e (lift4 (Q k)) → hit false tl fl σ.code ≡ false → Ends (rk_kind e.kind e s m) (λ e' s' m'. SimK Γ s' m' e' (rk_k false k (Q k)))

  -- a register, a word to come, a comparison
  rk_any : (k : K4) → ((s : State) (m : Buffers) → rk_kind (kind_of k) e s m ≡ exp2anyreg e s m) → rk_k false k (Q k) ≡ as_rk (anyreg (Q k)) → Goal k
  rk_any k z w h d n = rw (rk_at (kind_of k) e s m (kind_is Γ s m d.heads e σ k d.is), z s m, w) (ends_map (sim_any₄ (Q k) h d) (λ e' s' m' x. as_rk_lem (anyreg (Q k)) x))

  -- a constant with its index
  named : {s' : State} {m' : Buffers} {H : ℕ → ℕ} (c : Constant) (i : ℕ) (τ : St) → e.t ≡ 0 → e.f ≡ 0 → i ≡ place c τ.tab → Listed c τ.tab → place c τ.tab ≤ max_index_rk → Sim Γ s' m' H τ.code τ.free τ.tab →
      SimK Γ s' m' (with_kind kind.K i e) (record { st = τ; rkv = con (value_of c) })
  named c i τ t f z l n x = record { is = (refl, (c, (refl, (l, (n, ap (λ j. j + bit_rk) z))))); trues = t; falses = f; now = record { heads = _; sim = x } }

  -- nil, true and false
  rk_small : (v : Val) → Short [] v → ((s : State) (m : Buffers) → rk_kind (kind_of (kc (constant_of [] v))) e s m ≡ small e (add_constant [] v) s m) →
      rk_k false (kc (constant_of [] v)) (Q (kc (constant_of [] v))) ≡ small_rk (roomy σ.tab) (constant_of [] v) (Q (kc (constant_of [] v))) → Goal (kc (constant_of [] v))
  unfolding small and_then
  rk_small v sh z w h d n = rw (rk_at (kind_of k) e s m (kind_is Γ s m d.heads e σ k d.is), z s m, w, chosen (leb s.table.count max_index_rk) _ (exp2anyreg e) s m, roomy_is now) (go (roomy σ.tab) refl)
    where
      c : Constant
      c = constant_of [] v

      k : K4
      k = kc c

      now : Sim Γ s m d.heads σ.code σ.free σ.tab
      now = d.is.1

      none : (d.heads tl ≡ 0) × (d.heads fl ≡ 0)
      none = no_lists now tl fl n

      go : (b : Bool) → roomy σ.tab ≡ b → Ends (pick b (and_then (add_constant [] v s m) (λ i. return (with_kind kind.K i e))) (exp2anyreg e s m)) (λ e' s' m'. SimK Γ s' m' e' (small_rk b c (Q (kc c))))
      go true r = ends_then (sim_add now [] v sh) (λ i s' m' p. gives _ s' m' refl
          (named c i (add_k c σ) (d.trues ∙ none.0) (d.falses ∙ none.1) (p.0 ∙ sym (place_include c σ.tab)) (listed_include c σ.tab) (roomy_place c σ.tab r) p.1.1.1))
      go false r = ends_map (sim_any₄ (Q (kc c)) h d) (λ e' s' m' x. as_rk_lem (anyreg (Q (kc c))) x)

  -- a text, which is listed
  rk_text : (x : List ℕ) → Goal (kc (text x))
  unfolding rk_kind near rk_k rk_c
  rk_text x h d n = rw (rk_at kind.K e s m d.is.0.0, chosen (leb e.info max_index_rk) (return (with_kind kind.K e.info e)) (exp2anyreg e) s m, near_is now e.info (text x) d.is.0.1.0) (go (is_near (text x) σ.tab) refl)
    where
      now : Sim Γ s m d.heads σ.code σ.free σ.tab
      now = d.is.1

      none : (d.heads tl ≡ 0) × (d.heads fl ≡ 0)
      none = no_lists now tl fl n

      go : (b : Bool) → is_near (text x) σ.tab ≡ b → Ends (pick b (return (with_kind kind.K e.info e) s m) (exp2anyreg e s m)) (λ e' s' m'. SimK Γ s' m' e' (con_rk b (text x) (Q (kc (text x)))))
      go true r = gives _ s m refl (named (text x) e.info σ (d.trues ∙ none.0) (d.falses ∙ none.1) d.is.0.1.0 d.is.0.1.1 (near_place (text x) σ.tab r) now)
      go false r = ends_map (sim_any₄ (Q (kc (text x))) h d) (λ e' s' m' y. as_rk_lem (anyreg (Q (kc (text x)))) y)

  -- a numeral, which is listed now
  rk_number : Goal (kc (number e.bits))
  unfolding rk_kind near rk_k rk_c
  rk_number h d n = rw (rk_at kind.KNum e s m d.is.0.0) (ends_then (sim_add now [] (val.Num e.nval e.bits) tt) (λ i s' m' p.
      rw (chosen (leb i max_index_rk) (return (with_kind kind.K i e)) (exp2anyreg e) s' m', near_is now i c p.0) (go i s' m' p (is_near c σ.tab) refl)))
    where
      c : Constant
      c = number e.bits

      q : Par4
      q = add_p c (Q (kc c))

      now : Sim Γ s m d.heads σ.code σ.free σ.tab
      now = d.is.1

      none : (d.heads tl ≡ 0) × (d.heads fl ≡ 0)
      none = no_lists now tl fl n

      go : (i : ℕ) (s' : State) (m' : Buffers) → (i ≡ place c σ.tab) × ((s'.frame ≡ s.frame) × ((m'.code ≡ m.code) × Sim Γ s' m' d.heads σ.code σ.free (include c σ.tab))) → (b : Bool) → is_near c σ.tab ≡ b →
          Ends (pick b (return (with_kind kind.K i e) s' m') (exp2anyreg e s' m')) (λ e' s'' m''. SimK Γ s'' m'' e' (con_rk b c q))
      go i s' m' p true r = gives _ s' m' refl (named c i (add_k c σ) (d.trues ∙ none.0) (d.falses ∙ none.1) (p.0 ∙ sym (place_include c σ.tab)) (listed_include c σ.tab) (rw (place_include c σ.tab) (near_place c σ.tab r)) p.1.1.1)
      go i s' m' p false r = ends_map
          (sim_any₄ q (record { own = h.own; new = record { on = record { up = h.new.on.up; old = h.new.on.old }; tl_new = h.new.tl_new; tl_old = h.new.tl_old; fl_new = h.new.fl_new; fl_old = h.new.fl_old }; ok = tt; differ = h.differ; some = h.some; locals = h.locals })
          (record { heads = d.heads; is = (d.is.0, p.1.1.1); trues = d.trues; falses = d.falses }))
          (λ e' s'' m'' y. as_rk_lem (anyreg q) y)

  rk_con : (v : Constant) → Goal (kc v)
  unfolding rk_kind rk_k rk_c
  rk_con nil = rk_small val.Nil tt (λ s m. refl) refl
  rk_con (truth true) = rk_small (val.Bool true) tt (λ s m. refl) refl
  rk_con (truth false) = rk_small (val.Bool false) tt (λ s m. refl) refl
  rk_con (number n) = λ h d z. subst (λ i. Goal (kc (number i))) d.is.0.1.0 rk_number h d z
  rk_con (text x) = rk_text x

  rk_of : (k : K4) → Goal k
  unfolding rk_kind rk_k
  rk_of (kc v) = rk_con v
  rk_of (kr u r) = rk_any (kr u r) (λ s m. refl) refl
  rk_of (kx x) = rk_any (kx x) (λ s m. refl) refl
  rk_of (kj o c x y) = rk_any (kj o c x y) (λ s m. refl) refl

-- ---- `exp2rk`

pub sim_rk : {Γ : Env} {s : State} {m : Buffers} {e : ExprContext} {f : ℕ} (p : Pair) → Sound Γ f p → SimD Γ s m e p → Ends (exp2rk e s m) (λ e' s' m'. SimK Γ s' m' e' (exp2rk_l (dv p)))
unfolding exp2rk exp2rk_l rk_k
sim_rk {Γ = Γ} {f = f} p h d = ends_then (sim_val p h d) go
  where
    q : Par4
    q = dv p

    go : (e₁ : ExprContext) (s₁ : State) (m₁ : Buffers) → SimV Γ s₁ m₁ e₁ q → Ends (rk_kind e₁.kind e₁ s₁ m₁) (λ e' s' m'. SimK Γ s' m' e' (rk_k (hit false q.de.tl q.de.fl q.st.code) q.de.k4 q))
    go e₁ s₁ m₁ (landed z x) = rw z (gives e₁ s₁ m₁ (kind_stays e₁ s₁ m₁ x.kind x.trues x.falses) (as_rk_lem (anyreg q) x))
    go e₁ s₁ m₁ (plain z x) = rw z (rk_of Γ s₁ m₁ e₁ f q.st q.de.tl q.de.fl q.de.k4 (sound_dv p h) x z)
