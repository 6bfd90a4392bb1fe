-- `goiftrue` and `goiffalse` stand for `go_if`: the jump joins its list, and the other list leads to here. Where that list has jumps the last word is no `LoadNil`, so labelled code's mark changes nothing.
use Prim.Native.Nat.{ℕ, ◌≤◌, ◌<◌}
use Rattle.std.specs.Prelude.{Bool, not, ◌≡◌, ◌∷◌}
use Rattle.std.proofs.Math.Bool.{true, false}
use Rattle.std.proofs.Math.Path.{refl}
use Rattle.std.proofs.Common.{sym, ap, ◌∙◌, subst, arith}
use Rattle.model.specs.declared.ExprContext.{ExprContext}
use Rattle.model.specs.declared.State.{State}
use Rattle.model.specs.Descriptor.{with_jumps}
use Rattle.model.specs.Steps.{Buffers, done, Step, ◌>>=◌, ◌>>◌, return}
use Rattle.model.specs.Jumps.{concat_jumps, linked}
use Rattle.model.specs.Emission.{with_jpc, concat, patch_to_here}
use Rattle.model.specs.Conditions.{goiftrue, goiffalse}
use Rattle.labelled.specs.Code.{same_refl, same_ne, lbl, mark, pl, br, Code, re, edit}
use Rattle.labelled.specs.Machine.{pick}
use Rattle.labelled.specs.Emission.{St, one, hit, here_if, labelled_to_here}
use Rattle.labelled.specs.Discharge.{Pair, Par4, lab, lift4, dv}
use Rattle.labelled.specs.Conditions.{go_jump, go_if}
use Rattle.labelled.specs.Marks.{nil_last}
use Rattle.threads.specs.Represents.{set_h}
use Rattle.threads.specs.Words.{linked_none}
use Rattle.threads.specs.Holding.{Ends, gives, ends_then, ends_map, with_code, concat_is, concat_zero}
use Rattle.threads.specs.Stepping.{to_here}
use Rattle.simulation.specs.Sim.{Env, Sim, SimD, Sound}
use Rattle.simulation.specs.Steps.{sim_concat, sim_here}
use Rattle.simulation.specs.Discharging.{sim_dv, sound_dv}
use Rattle.simulation.specs.Loading.{kind_of, kind_is, then_done}
use Rattle.simulation.specs.Branching.{Jumps, jumped, stayed, jump_if, at_kind}

-- code τ with these heads, of which the list is one
pub record Gone (Γ : Env) (s : State) (m : Buffers) (list ℓ : ℕ) (τ : St) : Type 0 where
  pub heads : ℕ → ℕ
  pub sim : Sim Γ s m heads τ.code τ.free τ.tab
  pub list_is : list ≡ heads ℓ

here_sim : {Γ : Env} {s : State} {m : Buffers} {G : ℕ → ℕ} (a : ℕ) (τ : St) (c : Code) → τ.code ≡ c → Sim Γ s m G (to_here a c) τ.free τ.tab → Sim Γ s m G (labelled_to_here a τ).code (labelled_to_here a τ).free (labelled_to_here a τ).tab
unfolding labelled_to_here
here_sim {Γ = Γ} {s = s} {m = m} {G = G} a τ c e h = go (hit false a a τ.code) (rw (← e) at h)
  where
    go : (b : Bool) → Sim Γ s m G (pick b (pl mark ∷ edit (one a (re 0 false)) τ.code) τ.code) τ.free τ.tab → Sim Γ s m G (here_if b a τ).code (here_if b a τ).free (here_if b a τ).tab
    go true x = x
    go false x = x

-- the new jump joins the list of ℓ, and that of a leads to here
module _ (Γ : Env) (t₀ f₀ tl fl n ℓ a l₁ l₂ : ℕ) (o : 1 ≤ Γ.n) (nℓ : Γ.n ≤ ℓ) (na : Γ.n ≤ a) (aℓ : a ≡ ℓ → ⊥) (lℓ : ℓ < n) (la : a < n) where
  abbrev join : ExprContext → (ℕ → ExprContext → ExprContext) → ℕ → Step ExprContext
  join e g list = concat l₁ list >>= (λ x. patch_to_here l₂ >> return (g x e))

  joins : {s : State} {m : Buffers} (e : ExprContext) (g : ℕ → ExprContext → ExprContext) (list : ℕ) (τ : St) → ((G : ℕ → ℕ) → t₀ ≡ G tl → f₀ ≡ G fl → (l₁ ≡ G ℓ) × (l₂ ≡ G a)) → (hit false a a τ.code ≡ true → nil_last τ.code ≡ false) →
      Jumps Γ t₀ f₀ tl fl n s m list ℓ τ → Ends (join e g list s m) (λ e' s' m'. (x : ℕ) × ((e' ≡ g x e) × Gone Γ s' m' x ℓ (labelled_to_here a τ)))
  unfolding edit
  joins {s = s} {m = m} e g list τ at nl (stayed x) = rw (joined, then_done (H ℓ) s m (λ y. patch_to_here l₂ >> return (g y e)), (at H x.trues x.falses).1, q.0, then_done {A = Unit {0}} tt _ _ (λ _. return (g (H ℓ) e)))
      (gives _ _ _ refl (H ℓ, (refl, record { heads = _; sim = here_sim a τ τ.code refl q.1; list_is = rw (same_ne ℓ 0 (λ z. omega arith), same_ne ℓ a (λ z. aℓ (sym z))) refl })))
    where
      H : ℕ → ℕ
      H = x.heads

      q : (patch_to_here (H a) s m ≡ done tt (with_jpc (concat_jumps s.jpc (H a)) s) (with_code (linked m.code s.jpc (H a)) m)) ×
          Sim Γ (with_jpc (concat_jumps s.jpc (H a)) s) (with_code (linked m.code s.jpc (H a)) m) (set_h 0 (concat_jumps (H 0) (H a)) (set_h a 0 H)) (to_here a τ.code) τ.free τ.tab
      q = sim_here x.sim a na (omega arith) nl

      alone : done (concat_jumps l₁ 0) s (with_code (linked m.code l₁ 0) m) ≡ done l₁ s m
      alone = rw (concat_zero l₁, linked_none m.code l₁) refl

      joined : concat l₁ list s m ≡ done (H ℓ) s m
      joined = ap (λ z. concat l₁ z s m) x.list_is ∙ concat_is l₁ 0 s m ∙ alone ∙ ap (λ z. done z s m) (at H x.trues x.falses).0
  joins {s = s} {m = m} e g list τ at nl (jumped x) = rw (x.list_is, (at G x.trues x.falses).0, (at G x.trues x.falses).1, q.0, then_done y s m₁ (λ y. patch_to_here (G a) >> return (g y e)), there, r.0, then_done {A = Unit {0}} tt _ _ (λ _. return (g y e)))
      (gives _ _ _ refl (y, (refl, record { heads = _; sim = here_sim a τ (br x.ctrl (lbl ℓ) ∷ x.under) x.code r.1; list_is = rw (same_ne ℓ 0 (λ z. omega arith), same_ne ℓ a (λ z. aℓ (sym z)), same_refl ℓ) refl })))
    where
      G : ℕ → ℕ
      G = x.heads

      y : ℕ
      y = concat_jumps (G ℓ) (G x.J)

      m₁ : Buffers
      m₁ = with_code (linked m.code (G ℓ) (G x.J)) m

      G₁ : ℕ → ℕ
      G₁ = set_h ℓ y (set_h x.J 0 G)

      q : (concat (G ℓ) (G x.J) s m ≡ done y s m₁) × Sim Γ s m₁ G₁ (edit (one x.J (re ℓ false)) (br x.ctrl (lbl x.J) ∷ x.below)) τ.free τ.tab
      q = sim_concat x.sim x.J ℓ (omega (arith, x.new)) nℓ (omega (arith, x.new)) (omega arith) (λ z. omega (arith, x.new))

      q' : Sim Γ s m₁ G₁ (br x.ctrl (lbl ℓ) ∷ x.under) τ.free τ.tab
      q' = rw (same_refl x.J, x.through) at q.1

      there : G a ≡ G₁ a
      there = sym (rw (same_ne a ℓ aℓ, same_ne a x.J (λ z. omega (arith, x.new))) refl)

      r : (patch_to_here (G₁ a) s m₁ ≡ done tt (with_jpc (concat_jumps s.jpc (G₁ a)) s) (with_code (linked m₁.code s.jpc (G₁ a)) m₁)) ×
          Sim Γ (with_jpc (concat_jumps s.jpc (G₁ a)) s) (with_code (linked m₁.code s.jpc (G₁ a)) m₁) (set_h 0 (concat_jumps (G₁ 0) (G₁ a)) (set_h a 0 G₁)) (to_here a (br x.ctrl (lbl ℓ) ∷ x.under)) τ.free τ.tab
      r = sim_here q' a na (omega arith) (subst (λ c. hit false a a c ≡ true → nil_last c ≡ false) x.code nl)

-- ---- both

module _ {Γ : Env} {s : State} {m : Buffers} {e : ExprContext} {f : ℕ} (p : Pair) (h : Sound Γ f p) (d : SimD Γ s m e p) where
  -- where the other list has jumps, the last word is no `LoadNil`
  abbrev pub Quiet : Bool → Type 0
  Quiet c = hit false (lab (not c) (dv p).de) (lab (not c) (dv p).de) (go_jump c (dv p).de.k4 (lab c (dv p).de) (dv p).st).code ≡ true → nil_last (go_jump c (dv p).de.k4 (lab c (dv p).de) (dv p).st).code ≡ false

  abbrev q₄ : Par4
  q₄ = dv p

  went : (c : Bool) (e₁ : ExprContext) (s₁ : State) (m₁ : Buffers) → SimD Γ s₁ m₁ e₁ (lift4 q₄) →
      Ends (jump_if e₁ c e₁.kind s₁ m₁) (λ list s' m'. Jumps Γ e₁.t e₁.f p.de.tl p.de.fl q₄.st.nxt s' m' list (lab c q₄.de) (go_jump c q₄.de.k4 (lab c q₄.de) q₄.st))
  went c e₁ s₁ m₁ x = rw (at_k c) (at_kind Γ s₁ m₁ x.heads e₁ q₄.st p.de.tl p.de.fl (lab c q₄.de) f k.new.tl_new k.new.fl_new k.some k.differ k.new.tl_old k.new.fl_old k.new.on.old x.trues x.falses (low c) k.locals c q₄.de.k4 k.own x.is)
    where
      k : Sound Γ f (lift4 q₄)
      k = sound_dv p h

      low : (c : Bool) → lab c q₄.de < q₄.st.nxt
      low true = k.new.tl_old
      low false = k.new.fl_old

      at_k : (c : Bool) → jump_if e₁ c e₁.kind s₁ m₁ ≡ jump_if e₁ c (kind_of q₄.de.k4) s₁ m₁
      at_k c = ap (λ z. jump_if e₁ c z s₁ m₁) (kind_is Γ s₁ m₁ x.heads e₁ q₄.st q₄.de.k4 x.is)

  -- `goiftrue`
  pub sim_go_true : Quiet false → Ends (goiftrue e s m) (λ e' s' m'. Gone Γ s' m' e'.f p.de.fl (go_if false (dv p)))
  unfolding goiftrue go_if
  sim_go_true nl = ends_then (sim_dv p h d) (λ e₁ s₁ m₁ x. ends_then (went false e₁ s₁ m₁ x.1.1) (λ list s₂ m₂ y.
      ends_map (joins Γ e₁.t e₁.f p.de.tl p.de.fl q₄.st.nxt p.de.fl p.de.tl e₁.f e₁.t h.some h.new.fl_new h.new.tl_new (λ z. h.differ (sym z)) (sound_dv p h).new.fl_old (sound_dv p h).new.tl_old e₁ (λ z. with_jumps 0 z) list _ (λ G a b. (b, a)) nl y)
      (λ e' s' m' z. record { heads = z.1.1.heads; sim = z.1.1.sim; list_is = rw z.1.0 z.1.1.list_is })))

  -- `goiffalse`
  pub sim_go_false : Quiet true → Ends (goiffalse e s m) (λ e' s' m'. Gone Γ s' m' e'.t p.de.tl (go_if true (dv p)))
  unfolding goiffalse go_if
  sim_go_false nl = ends_then (sim_dv p h d) (λ e₁ s₁ m₁ x. ends_then (went true e₁ s₁ m₁ x.1.1) (λ list s₂ m₂ y.
      ends_map (joins Γ e₁.t e₁.f p.de.tl p.de.fl q₄.st.nxt p.de.tl p.de.fl e₁.t e₁.f h.some h.new.tl_new h.new.fl_new h.differ (sound_dv p h).new.tl_old (sound_dv p h).new.fl_old e₁ (λ z. with_jumps z 0) list _ (λ G a b. (a, b)) nl y)
      (λ e' s' m' z. record { heads = z.1.1.heads; sim = z.1.1.sim; list_is = rw z.1.0 z.1.1.list_is })))
