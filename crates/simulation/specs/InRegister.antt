-- A value that is no comparison, brought to a register that is then free: `discharge2anyreg` and `free_expr`, before a test or a `Not`. A register stays; all else is loaded into the next one.
use Rattle.std.specs.Prelude.{ℕ, suc, ◌≤◌, ◌<◌, Bool, true, false, ◌≡◌, refl}
use Rattle.std.proofs.Common.{sym, ◌∙◌, arith}
use Rattle.std.proofs.Math.Path.{ap}
use Rattle.model.specs.declared.ExprKind.TheVariants as kind
use Rattle.model.specs.declared.ExprContext.{ExprContext}
use Rattle.model.specs.declared.State.{State}
use Rattle.model.specs.Descriptor.{is_kind}
use Rattle.model.specs.Steps.{Buffers, done, Step, and_then, ◌>>=◌, ◌>>◌, return}
use Rattle.model.specs.Emission.{with_free, alloc_reg}
use Rattle.model.specs.Discharge.{free_expr, load_kind, discharge2reg, discharge2anyreg}
use Rattle.labelled.specs.Machine.{pick}
use Rattle.labelled.specs.Emission.{St, set_free}
use Rattle.labelled.specs.Discharge.{K4, kc, kr, kx, kj, d2r, is_cmp}
use Rattle.labelled.specs.Owning.{Own4, own_le}
use Rattle.labelled.specs.Firm.{true≢false}
use Rattle.labelled.specs.Fresh.{Under, d2r_u}
use Rattle.threads.specs.Holding.{Ends, ends_then, ends_map}
use Rattle.simulation.specs.Sim.{Env, Sim, Is4}
use Rattle.simulation.specs.Registers.{chosen, Moves, sim_alloc, sim_fewer}
use Rattle.simulation.specs.Loading.{kind_of, kind_is, is4_free, some_of, dv_idle, is_reg, is_reg_lem, free_expr_is, Loaded, then_done, sim_load}
use Rattle.simulation.specs.ToRegister.{d2r_free}

-- the register, f being taken before the value, and the code
abbrev pub reg_k : K4 → ℕ → ℕ
reg_k (kc v) f = f
reg_k (kr u r) f = r
reg_k (kx x) f = f
reg_k (kj o c x y) f = f

abbrev pub code_k : K4 → ℕ → ℕ → St → St
code_k (kc v) t f σ = d2r (kc v) t f σ
code_k (kr u r) t f σ = σ
code_k (kx x) t f σ = d2r (kx x) t f σ
code_k (kj o c x y) t f σ = d2r (kj o c x y) t f σ

pub reg_loaded : (k : K4) (f : ℕ) → is_reg k ≡ false → reg_k k f ≡ f
reg_loaded (kc v) f z = refl
reg_loaded (kr u r) f z = absurd (true≢false z)
reg_loaded (kx x) f z = refl
reg_loaded (kj o c x y) f z = refl

pub code_loaded : (k : K4) (t f : ℕ) (σ : St) → is_reg k ≡ false → code_k k t f σ ≡ d2r k t f σ
code_loaded (kc v) t f σ z = refl
code_loaded (kr u r) t f σ z = absurd (true≢false z)
code_loaded (kx x) t f σ z = refl
code_loaded (kj o c x y) t f σ z = refl

-- as many registers are taken as before
pub loaded_code : (k : K4) (t f : ℕ) (σ : St) → is_reg k ≡ false → σ.free ≡ f → set_free f (code_k k t f σ) ≡ d2r k t f σ
loaded_code k t f σ z q = ap (set_free f) (code_loaded k t f σ z) ∙ sym (d2r_free k t f f σ) ∙ ap (λ x. d2r k t f x) (same q)
  where
    same : σ.free ≡ f → set_free f σ ≡ σ
    same q = rw (← q) refl

pub code_under : (k : K4) (n : ℕ) (o : 1 ≤ n) (t f : ℕ) (σ : St) → t < n → Under n σ.code → Under n (code_k k t f σ).code
code_under (kc v) n o t f σ l h = d2r_u n o (kc v) t f σ l h
code_under (kr u r) n o t f σ l h = h
code_under (kx x) n o t f σ l h = d2r_u n o (kx x) t f σ l h
code_under (kj a c x y) n o t f σ l h = d2r_u n o (kj a c x y) t f σ l h

-- e stands in register r, and f registers are taken
pub record InReg (Γ : Env) (t₀ f₀ tl fl : ℕ) (s : State) (m : Buffers) (e : ExprContext) (τ : St) (r f : ℕ) : Type 0 where
  pub info : e.info ≡ r
  pub below : r < s.frame
  pub heads : ℕ → ℕ
  pub sim : Sim Γ s m heads τ.code f τ.tab
  pub trues : t₀ ≡ heads tl
  pub falses : f₀ ≡ heads fl
  pub same_t : e.t ≡ t₀
  pub same_f : e.f ≡ f₀

module _ (Γ : Env) (s : State) (m : Buffers) (H : ℕ → ℕ) (e : ExprContext) (σ : St) (tl fl f : ℕ) (nt : Γ.n ≤ tl) (nf : Γ.n ≤ fl) (o : 1 ≤ Γ.n) (tf : fl ≡ tl → ⊥) (lt : tl < σ.nxt) (lf : fl < σ.nxt) (old : Under σ.nxt σ.code) (et : e.t ≡ H tl) (ef : e.f ≡ H fl) (la : Γ.active ≤ f) where
  any_is : discharge2anyreg e s m ≡ pick (is_kind kind.NonReloc e) (done e s m) ((alloc_reg >>= discharge2reg e) s m)
  unfolding discharge2anyreg
  any_is = chosen (is_kind kind.NonReloc e) (return e) (alloc_reg >>= discharge2reg e) s m

  load_is : (k : K4) (r : ℕ) (s₁ : State) (m₁ : Buffers) → e.kind ≡ kind_of k → discharge2reg e r s₁ m₁ ≡ load_kind (kind_of k) e r s₁ m₁
  unfolding discharge2reg
  load_is k r s₁ m₁ q = ap (λ x. and_then x (λ e₁. load_kind e₁.kind e₁ r)) (dv_idle k e s₁ m₁ q) ∙ then_done e s₁ m₁ (λ e₁. load_kind e₁.kind e₁ r) ∙ ap (λ z. load_kind z e r s₁ m₁) q

  module _ {B : Type 0} (rest : ExprContext → Step B) (Q : B → State → Buffers → Type 0) where
    abbrev Then : K4 → Type 0
    Then k = (e₁ : ExprContext) (s₁ : State) (m₁ : Buffers) → InReg Γ e.t e.f tl fl s₁ m₁ e₁ (code_k k tl f σ) (reg_k k f) f → Ends (rest e₁ s₁ m₁) Q

    abbrev Goal : K4 → Type 0
    Goal k = Ends (and_then (discharge2anyreg e s m) (λ e₁. free_expr e₁ >> rest e₁)) Q

    -- a register stays
    kept : (u : Bool) (r : ℕ) → Own4 Γ.active f (kr u r) σ.free → Is4 Γ s m H e σ (kr u r) → Then (kr u r) → Goal (kr u r)
    kept u r w h g = rw (any_is, is_reg_lem (kr u r) e h.0, then_done e s m (λ e₁. free_expr e₁ >> rest e₁), free_expr_is Γ s m H e σ f la (kr u r) w h, then_done {A = Unit {0}} tt (with_free f s) m (λ _. rest e))
        (g e (with_free f s) m (record { info = h.1.0; below = h.1.1.0; heads = H; sim = sim_fewer h.1.1.1 f (own_le Γ.active (kr u r) f σ.free w); trues = et; falses = ef; same_t = refl; same_f = refl }))

    -- all else goes to the next one
    loaded : (k : K4) → is_cmp k ≡ false → is_reg k ≡ false → σ.free ≡ f → Is4 Γ s m H e σ k → ((e₁ : ExprContext) (s₁ : State) (m₁ : Buffers) → InReg Γ e.t e.f tl fl s₁ m₁ e₁ (d2r k tl f σ) f f → Ends (rest e₁ s₁ m₁) Q) → Goal k
    loaded k z y w h g = rw (any_is, is_reg_lem k e (kind_is Γ s m H e σ k h) ∙ y) (ends_then (ends_then (sim_alloc Γ ((some_of Γ s m H e σ k h).1.free ∙ w)) loading) freeing)
      where
        τ₁ : St
        τ₁ = d2r k tl f (set_free (suc f) σ)

        Ld : ExprContext → State → Buffers → Type 0
        Ld e₁ s₂ m₂ = (s₁ : State) × Loaded Γ s₁ s₂ m₂ e.t e.f e₁ k τ₁ tl fl f

        loading : (i : ℕ) (s₁ : State) (m₁ : Buffers) → (i ≡ f) × ((m₁ ≡ m) × ((s.frame ≤ s₁.frame) × Moves Γ s m f s₁ m₁ (suc f))) → Ends (discharge2reg e i s₁ m₁) Ld
        loading i s₁ m₁ p = rw (p.0, load_is k f s₁ m₁ (kind_is Γ s m H e σ k h))
            (ends_map (sim_load Γ s₁ m₁ H e (set_free (suc f) σ) tl fl f nt nf o tf lt lf old (omega (arith, (some_of Γ s₁ m₁ H e (set_free (suc f) σ) k there).1.taken)) et ef k z there) (λ e₁ s₂ m₂ x. (s₁, x)))
          where
            there : Is4 Γ s₁ m₁ H e (set_free (suc f) σ) k
            there = is4_free Γ s m H e σ k s₁ m₁ (suc f) p.1.0 p.1.1.0 (λ G c t x. p.1.1.1 G c t (rw w at x)) h

        taken : τ₁.free ≡ suc f
        taken = ap (λ x. x.free) (d2r_free k tl f (suc f) σ)

        freeing : (e₁ : ExprContext) (s₂ : State) (m₂ : Buffers) → Ld e₁ s₂ m₂ → Ends ((free_expr e₁ >> rest e₁) s₂ m₂) Q
        freeing e₁ s₂ m₂ (s₁, x) = rw (free_expr_is Γ s₂ m₂ x.heads e₁ τ₁ f la (kr true f) (refl, taken) ((x.place z).0, ((x.place z).1.0, (low, x.sim))), then_done {A = Unit {0}} tt (with_free f s₂) m₂ (λ _. rest e₁))
            (g e₁ (with_free f s₂) m₂ (record { info = (x.place z).1.0; below = low; heads = x.heads; sim = moved (sim_fewer x.sim f (omega (arith, taken))); trues = sym (x.place z).1.1.0 ∙ x.trues; falses = sym (x.place z).1.1.1 ∙ x.falses; same_t = (x.place z).1.1.0; same_f = (x.place z).1.1.1 }))
          where
            low : f < s₂.frame
            low = omega (arith, x.sim.taken, taken)

            moved : {G : ℕ → ℕ} → Sim Γ (with_free f s₂) m₂ G τ₁.code f τ₁.tab → Sim Γ (with_free f s₂) m₂ G (d2r k tl f σ).code f (d2r k tl f σ).tab
            moved y = rw (d2r_free k tl f (suc f) σ) at y

    pub in_register : (k : K4) → is_cmp k ≡ false → Own4 Γ.active f k σ.free → Is4 Γ s m H e σ k → Then k → Goal k
    in_register (kc v) z w h g = loaded (kc v) refl refl w h g
    in_register (kr u r) z w h g = kept u r w h g
    in_register (kx x) z w h g = loaded (kx x) refl refl w.0 h g
    in_register (kj a c x y) z w h g = absurd (true≢false z)
