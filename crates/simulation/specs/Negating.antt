-- `code_not` stands for `labelled_code_not`: a constant is negated at once, a comparison inverted, a value gets a `Not` to come; the lists change places, stripped of their values.
use Prim.Native.Nat.{ℕ, suc, ◌≤◌, ◌<◌}
use Rattle.std.specs.Prelude.{Bool, true, false, ◌≡◌, ◌∷◌, length}
use Rattle.std.proofs.Math.Path.{refl, sym, ap, subst}
use Rattle.std.proofs.Common.{◌∙◌, arith}
use Rattle.std.proofs.Math.Option.{none}
use Rattle.instructions.specs.Word.{abc_of}
use Rattle.opcodes.specs.declared.OpCode.TheVariants as op
use Rattle.constants.specs.Entry.{Constant, nil, truth, number, text}
use Rattle.model.specs.Values.{StepKind}
use Rattle.model.specs.declared.ExprKind.TheVariants as kind
use Rattle.model.specs.declared.ExprContext.{ExprContext}
use Rattle.model.specs.declared.State.{State}
use Rattle.model.specs.Descriptor.{with_kind, with_jumps}
use Rattle.model.specs.Steps.{Buffers, done, Step, and_then, ◌>>=◌, ◌>>◌, return, change_words}
use Rattle.model.specs.Jumps.{remove_values}
use Rattle.model.specs.Emission.{emit}
use Rattle.model.specs.Conditions.{emit_not, negate, code_not}
use Rattle.labelled.specs.Code.{same_refl, same_ne, Rk, Ex, notx, cmp, lbl, setw, pl, br, size, land, re, edit}
use Rattle.labelled.specs.Edits.{size_edit}
use Rattle.labelled.specs.Binary.{not_nxt}
use Rattle.labelled.specs.Emission.{St, set_free, flush, push, here, one, strip}
use Rattle.labelled.specs.Discharge.{K4, kc, kr, kx, kj, kd, Pair, Par4, lift4, dv, d2r, is_cmp}
use Rattle.labelled.specs.Conditions.{not_k, not_s, labelled_code_not}
use Rattle.labelled.specs.Owning.{Own4, freed_own}
use Rattle.labelled.specs.Fresh.{Under}
use Rattle.threads.specs.Represents.{set_h}
use Rattle.threads.specs.Holding.{Ends, gives, ends_then, with_code}
use Rattle.threads.specs.Last.{inverted}
use Rattle.simulation.specs.Sim.{Env, Sim, Is4, SimD, Sound}
use Rattle.simulation.specs.Steps.{set_other, sim_emit, sim_strip, sim_invert}
use Rattle.simulation.specs.Absent.{edit_landed}
use Rattle.simulation.specs.Discharging.{sim_dv, sound_dv}
use Rattle.simulation.specs.Loading.{kind_of, kind_is, then_done}
use Rattle.simulation.specs.InRegister.{reg_k, code_k, in_register}

-- ---- the negated value

module _ (Γ : Env) (s : State) (m : Buffers) (H : ℕ → ℕ) (e : ExprContext) (σ : St) (tl fl f : ℕ) (nt : Γ.n ≤ tl) (nf : Γ.n ≤ fl) (o : 1 ≤ Γ.n) (tf : fl ≡ tl → ⊥) (lt : tl < σ.nxt) (lf : fl < σ.nxt) (old : Under σ.nxt σ.code) (et : e.t ≡ H tl) (ef : e.f ≡ H fl) (la : Γ.active ≤ f) where
  abbrev N : K4 → Pair
  N k = record { st = not_s k σ; de = record { kind = kd (not_k k σ.free); tl = tl; fl = fl } }

  abbrev Goal : K4 → Type 0
  Goal k = Ends (negate (kind_of k) e s m) (λ e' s' m'. SimD Γ s' m' e' (N k))

  -- a constant
  not_con : (v : Constant) → Is4 Γ s m H e σ (kc v) → Goal (kc v)
  unfolding negate not_s
  not_con nil h = gives _ s m refl (record { heads = H; is = (refl, h.1); trues = et; falses = ef })
  not_con (truth true) h = gives _ s m refl (record { heads = H; is = (refl, h.1); trues = et; falses = ef })
  not_con (truth false) h = gives _ s m refl (record { heads = H; is = (refl, h.1); trues = et; falses = ef })
  not_con (number n) h = gives _ s m refl (record { heads = H; is = (refl, h.1); trues = et; falses = ef })
  not_con (text x) h = gives _ s m refl (record { heads = H; is = (refl, h.1); trues = et; falses = ef })

  -- a comparison
  not_jump : (a : StepKind) (d : Bool) (x y : Rk) → Is4 Γ s m H e σ (kj a d x y) → Goal (kj a d x y)
  unfolding negate not_s
  not_jump a d x y h =
      let q = sim_invert e (h.1.0 ∙ omega arith) h.1.1.1.1.1.1 in
      rw (q.0, then_done {A = Unit {0}} tt s (with_code (inverted m.code e.info) m) (λ _. return e))
      (gives e s _ refl (record { heads = H; is = (h.0, (h.1.0, (h.1.1.0, (h.1.1.1.0, (h.1.1.1.1.0, (h.1.1.1.1.1.0, q.1)))))); trues = et; falses = ef }))

  -- another value: a `Not` to come
  abbrev nots : ExprContext → Step ExprContext
  nots e₁ = emit (abc_of op.Not 0 e₁.info 0) >>= (λ pc. return (with_kind kind.Relocable pc e₁))

  not_value : (k : K4) → is_cmp k ≡ false → Own4 Γ.active f k σ.free → Is4 Γ s m H e σ k → Ends (emit_not e s m) (λ e' s' m'. SimD Γ s' m' e' (record { st = set_free f (flush (code_k k tl f σ)); de = record { kind = kd (kx (notx (reg_k k f))); tl = tl; fl = fl } }))
  unfolding emit_not flush
  not_value k z w h = in_register Γ s m H e σ tl fl f nt nf o tf lt lf old et ef la nots _ k z w h (λ e₁ s₁ m₁ x. rw x.info
      (ends_then (sim_emit x.sim (setw 0 (notx (reg_k k f))) (abc_of op.Not 0 (reg_k k f) 0) refl (λ us y. (omega (arith, x.sim.two), (x.below, y))))
      (λ pc s₂ m₂ q. gives _ s₂ m₂ refl (record {
        heads = set_h 0 0 x.heads;
        is = (refl, (q.0 ∙ sym (size_edit (here (code_k k tl f σ).code) (code_k k tl f σ).code), (rw (same_refl 0) refl, q.1.1)));
        trues = x.same_t ∙ x.trues ∙ sym (set_other 0 0 x.heads tl (λ y. omega arith));
        falses = x.same_f ∙ x.falses ∙ sym (set_other 0 0 x.heads fl (λ y. omega arith));
      }))))

  -- a word to come is loaded, and nothing leads behind it
  flushed : (x : Ex) → σ.free ≡ f → set_free f (flush (d2r (kx x) tl f σ)) ≡ d2r (kx x) 0 σ.free σ
  unfolding d2r push flush edit
  flushed x w = rw (w, edit_landed (land (size (pl (setw f x) ∷ edit (here σ.code) σ.code)) none (size (pl (setw f x) ∷ edit (here σ.code) σ.code))) (size σ.code) (size σ.code) σ.code) refl

  not_of : (k : K4) → Own4 Γ.active f k σ.free → Is4 Γ s m H e σ k → Goal k
  unfolding negate not_s
  not_of (kc v) w h = not_con v h
  not_of (kr u r) w h = subst (λ (g : ℕ). Ends (emit_not e s m) (λ e' s' m'. SimD Γ s' m' e' (record { st = set_free g (flush σ); de = record { kind = kd (kx (notx r)); tl = tl; fl = fl } }))) (sym (freed_own Γ.active (kr u r) f σ.free w)) (not_value (kr u r) refl w h)
  not_of (kx x) w h = subst (λ p. Ends (emit_not e s m) (λ e' s' m'. SimD Γ s' m' e' p)) there (not_value (kx x) refl w h)
    where
      there : record { st = set_free f (flush (d2r (kx x) tl f σ)); de = record { kind = kd (kx (notx f)); tl = tl; fl = fl } } ≡ N (kx x)
      there = ap (λ (τ : St). record { st = τ; de = record { kind = kd (kx (notx f)); tl = tl; fl = fl } }) (flushed x w.0) ∙ ap (λ (r : ℕ). record { st = d2r (kx x) 0 σ.free σ; de = record { kind = kd (kx (notx r)); tl = tl; fl = fl } }) (sym w.0)
  not_of (kj a d x y) w h = not_jump a d x y h

-- ---- the lists, without their values

abbrev stripped : (ℕ → ℕ) → ℕ → Buffers → Buffers
stripped H a m = with_code (remove_values (length m.code) m.code (H a)) m

module _ (Γ : Env) (s : State) (m : Buffers) (H : ℕ → ℕ) (e : ExprContext) (σ : St) (a : ℕ) (la : a < σ.nxt) where
  is4_strip : (k : K4) → Is4 Γ s m H e σ k → Is4 Γ s (stripped H a m) H e (strip a σ) k
  unfolding strip edit
  is4_strip (kc nil) h = (h.0, sim_strip h.1 a)
  is4_strip (kc (truth true)) h = (h.0, sim_strip h.1 a)
  is4_strip (kc (truth false)) h = (h.0, sim_strip h.1 a)
  is4_strip (kc (number n)) h = (h.0, sim_strip h.1 a)
  is4_strip (kc (text x)) h = (h.0, sim_strip h.1 a)
  is4_strip (kr u r) h = (h.0, (h.1.0, (h.1.1.0, sim_strip h.1.1.1 a)))
  is4_strip (kx x) h = (h.0, (h.1.0 ∙ sym (size_edit (one a (re a true)) σ.code), (h.1.1.0, sim_strip h.1.1.1 a)))
  is4_strip (kj o k x y) h = (h.0, (h.1.0 ∙ ap suc (sym (size_edit (one a (re a true)) σ.code)), (h.1.1.0, (h.1.1.1.0, (h.1.1.1.1.0, (h.1.1.1.1.1.0, other (sim_strip h.1.1.1.1.1.1 a)))))))
    where
      j : ℕ
      j = h.1.1.1.0

      other : Sim Γ s (stripped H a m) H (edit (one a (re a true)) (br (cmp o k x y) (lbl j) ∷ σ.code)) σ.free σ.tab → Sim Γ s (stripped H a m) H (br (cmp o k x y) (lbl j) ∷ edit (one a (re a true)) σ.code) σ.free σ.tab
      other q = rw (same_ne j a (λ z. omega (arith, h.1.1.1.1.0))) at q

-- the lists are no part of what a descriptor is
pub is4_jumps : (Γ : Env) (s : State) (m : Buffers) (H : ℕ → ℕ) (e : ExprContext) (σ : St) (a b : ℕ) (k : K4) → Is4 Γ s m H e σ k → Is4 Γ s m H (with_jumps a b e) σ k
is4_jumps Γ s m H e σ a b (kc nil) h = h
is4_jumps Γ s m H e σ a b (kc (truth true)) h = h
is4_jumps Γ s m H e σ a b (kc (truth false)) h = h
is4_jumps Γ s m H e σ a b (kc (number n)) h = h
is4_jumps Γ s m H e σ a b (kc (text x)) h = h
is4_jumps Γ s m H e σ a b (kr u r) h = h
is4_jumps Γ s m H e σ a b (kx x) h = h
is4_jumps Γ s m H e σ a b (kj o c x y) h = h

abbrev both : ℕ → ℕ → Buffers → Buffers
both a b m = with_code (remove_values (length (remove_values (length m.code) m.code a)) (remove_values (length m.code) m.code a) b) (with_code (remove_values (length m.code) m.code a) m)

two_strips : {A : Type 0} (a b : ℕ) (r : A) (s : State) (m : Buffers) → (change_words (λ code. remove_values (length code) code a) >> (change_words (λ code. remove_values (length code) code b) >> return r)) s m ≡
    done r s (both a b m)
unfolding and_then
two_strips a b r s m = refl

-- ---- `code_not`

pub sim_not : {Γ : Env} {s : State} {m : Buffers} {e : ExprContext} {f : ℕ} (p : Pair) → Sound Γ f p → SimD Γ s m e p → Ends (code_not e s m) (λ e' s' m'. SimD Γ s' m' e' (lift4 (labelled_code_not (dv p))))
unfolding code_not labelled_code_not strip
sim_not {Γ = Γ} {f = f} p h d = ends_then (sim_dv p h d) (λ e₁ s₁ m₁ x. ends_then (negated e₁ s₁ m₁ x.1.1) ended)
  where
    q : Par4
    q = dv p

    k : Sound Γ f (lift4 q)
    k = sound_dv p h

    Np : Pair
    Np = record { st = not_s q.de.k4 q.st; de = record { kind = kd (not_k q.de.k4 q.st.free); tl = p.de.tl; fl = p.de.fl } }

    negated : (e₁ : ExprContext) (s₁ : State) (m₁ : Buffers) → SimD Γ s₁ m₁ e₁ (lift4 q) → Ends (negate e₁.kind e₁ s₁ m₁) (λ e' s' m'. SimD Γ s' m' e' Np)
    negated e₁ s₁ m₁ x = rw (ap (λ z. negate z e₁ s₁ m₁) (kind_is Γ s₁ m₁ x.heads e₁ q.st q.de.k4 x.is))
        (not_of Γ s₁ m₁ x.heads e₁ q.st p.de.tl p.de.fl f k.new.tl_new k.new.fl_new k.some k.differ k.new.tl_old k.new.fl_old k.new.on.old x.trues x.falses k.locals q.de.k4 k.own x.is)

    τ : St
    τ = not_s q.de.k4 q.st

    next : τ.nxt ≡ q.st.nxt
    next = not_nxt q.de.k4 q.st

    ended : (e₂ : ExprContext) (s₂ : State) (m₂ : Buffers) → SimD Γ s₂ m₂ e₂ Np →
        Ends ((change_words (λ code. remove_values (length code) code e₂.t) >> (change_words (λ code. remove_values (length code) code e₂.f) >> return (with_jumps e₂.f e₂.t e₂))) s₂ m₂) (λ e' s' m'. SimD Γ s' m' e' (lift4 (labelled_code_not q)))
    ended e₂ s₂ m₂ y = gives _ s₂ _ (two_strips e₂.t e₂.f _ s₂ m₂) (record {
      heads = H;
      is = is4_jumps Γ s₂ _ H e₂ _ e₂.f e₂.t (not_k q.de.k4 q.st.free) (listed (is4_strip Γ s₂ (stripped H p.de.tl m₂) H e₂ (strip p.de.tl τ) p.de.fl (strip_nxt (omega (arith, next, k.new.fl_old))) (not_k q.de.k4 q.st.free) (is4_strip Γ s₂ m₂ H e₂ τ p.de.tl (omega (arith, next, k.new.tl_old)) (not_k q.de.k4 q.st.free) y.is)));
      trues = y.falses;
      falses = y.trues;
    })
      where
        H : ℕ → ℕ
        H = y.heads

        k_n : K4
        k_n = not_k q.de.k4 q.st.free

        listed : Is4 Γ s₂ (both (H p.de.tl) (H p.de.fl) m₂) H e₂ (strip p.de.fl (strip p.de.tl τ)) k_n → Is4 Γ s₂ (both e₂.t e₂.f m₂) H e₂ (strip p.de.fl (strip p.de.tl τ)) k_n
        listed z = subst (λ a. Is4 Γ s₂ (both a e₂.f m₂) H e₂ (strip p.de.fl (strip p.de.tl τ)) k_n) (sym y.trues) (subst (λ b. Is4 Γ s₂ (both (H p.de.tl) b m₂) H e₂ (strip p.de.fl (strip p.de.tl τ)) k_n) (sym y.falses) z)

        strip_nxt : p.de.fl < τ.nxt → p.de.fl < (strip p.de.tl τ).nxt
        strip_nxt l = l
