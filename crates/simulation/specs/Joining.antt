-- Behind the right operand of `and` and `or`: `code_and` and `code_or` stand for `log₂`. The right value stays as it is, and the list of the left one gets the label of the right.
use Prim.Native.Nat.{ℕ, suc, ◌≤◌, ◌<◌}
use Rattle.std.specs.Prelude.{Bool, ◌≡◌, List, ◌∷◌}
use Rattle.std.proofs.Math.Bool.{true, false}
use Rattle.std.proofs.Math.Path.{refl, sym, ap}
use Rattle.std.proofs.Common.{◌∙◌, arith}
use Rattle.constants.specs.Entry.{Constant, nil, truth, number, text}
use Rattle.model.specs.declared.ExprContext.{ExprContext}
use Rattle.model.specs.declared.State.{State}
use Rattle.model.specs.Descriptor.{with_jumps}
use Rattle.model.specs.Steps.{Buffers, return}
use Rattle.model.specs.Jumps.{concat_jumps, linked}
use Rattle.model.specs.Operators.{code_and, code_or}
use Rattle.labelled.specs.Code.{same_refl, same_ne, cmp, lbl, br, Code, re, edit}
use Rattle.labelled.specs.Edits.{size_edit}
use Rattle.labelled.specs.Emission.{St, one, relabel}
use Rattle.labelled.specs.Discharge.{K4, kc, kr, kx, kj, kd, Pair, Par4, lab, lift4, dv}
use Rattle.labelled.specs.Operators.{log₂}
use Rattle.threads.specs.Represents.{set_h}
use Rattle.threads.specs.Holding.{Ends, gives, ends_then, with_code, concat_is}
use Rattle.simulation.specs.Sim.{Env, Sim, Is4, SimD, Sound}
use Rattle.simulation.specs.Steps.{sim_concat}
use Rattle.simulation.specs.Discharging.{sim_dv, sound_dv}
use Rattle.simulation.specs.Loading.{then_done}
use Rattle.simulation.specs.Negating.{is4_jumps}
use Rattle.simulation.specs.Parts.{is_map, inner, outward, others_d}

-- ---- `and`, `or`

-- list a goes behind list b, beside a word or a comparison that is held
module _ (Γ : Env) (s : State) (m : Buffers) (H : ℕ → ℕ) (e : ExprContext) (σ : St) (a b : ℕ) (na : Γ.n ≤ a) (nb : Γ.n ≤ b) (o : 1 ≤ Γ.n) (ab : a ≡ b → ⊥) (la : a < σ.nxt) (lb : b < σ.nxt) where
  abbrev m₁ : Buffers
  m₁ = with_code (linked m.code (H b) (H a)) m

  abbrev H₁ : ℕ → ℕ
  H₁ = set_h b (concat_jumps (H b) (H a)) (set_h a 0 H)

  relabelled : (c : Code) (f : ℕ) (t : List Constant) → Sim Γ s m H c f t → Sim Γ s m₁ H₁ (edit (one a (re b false)) c) f t
  relabelled c f t x = (sim_concat x a b na nb (omega arith) (omega arith) ab).1

  H₁-zero : H 0 ≡ 0 → H₁ 0 ≡ 0
  H₁-zero z = rw (same_ne 0 b (λ y. omega arith), same_ne 0 a (λ y. omega arith)) z

  is4_relabel : (k : K4) → Is4 Γ s m H e σ k → Is4 Γ s m₁ H₁ e (relabel a b σ) k
  unfolding relabel edit
  is4_relabel (kc nil) h = (h.0, relabelled _ _ _ h.1)
  is4_relabel (kc (truth true)) h = (h.0, relabelled _ _ _ h.1)
  is4_relabel (kc (truth false)) h = (h.0, relabelled _ _ _ h.1)
  is4_relabel (kc (number n)) h = (h.0, relabelled _ _ _ h.1)
  is4_relabel (kc (text x)) h = (h.0, relabelled _ _ _ h.1)
  is4_relabel (kr u r) h = (h.0, (h.1.0, (h.1.1.0, relabelled _ _ _ h.1.1.1)))
  is4_relabel (kx x) h = (h.0, (h.1.0 ∙ sym (size_edit (one a (re b false)) σ.code), (H₁-zero h.1.1.0, relabelled _ _ _ h.1.1.1)))
  is4_relabel (kj k c x y) h = (h.0, (h.1.0 ∙ ap suc (sym (size_edit (one a (re b false)) σ.code)), (H₁-zero h.1.1.0, (h.1.1.1.0, (h.1.1.1.1.0, (own ∙ h.1.1.1.1.1.0, other (relabelled _ _ _ h.1.1.1.1.1.1)))))))
    where
      j : ℕ
      j = h.1.1.1.0

      own : H₁ j ≡ H j
      own = rw (same_ne j b (λ z. omega (arith, h.1.1.1.1.0)), same_ne j a (λ z. omega (arith, h.1.1.1.1.0))) refl

      other : Sim Γ s m₁ H₁ (edit (one a (re b false)) (br (cmp k c x y) (lbl j) ∷ σ.code)) σ.free σ.tab → Sim Γ s m₁ H₁ (br (cmp k c x y) (lbl j) ∷ edit (one a (re b false)) σ.code) σ.free σ.tab
      other q = rw (same_ne j a (λ z. omega (arith, h.1.1.1.1.0))) at q

-- the right side was lowered inside of Γ: the left one's list has label a there
module _ (Γ : Env) (F n : ℕ) (L : ℕ → ℕ) (more : Γ.least ≤ F) (up : Γ.n ≤ n) (same : (ℓ : ℕ) → 1 ≤ ℓ → ℓ < Γ.n → L ℓ ≡ Γ.lists ℓ) (one : 1 ≤ Γ.n) where
  abbrev Δ : Env
  Δ = inner Γ F n L

  module _ {s : State} {m : Buffers} {e₂ : ExprContext} {g : ℕ} (p : Pair) (h : Sound Δ g p) (d : SimD Δ s m e₂ p) (list a : ℕ) (na : Γ.n ≤ a) (la : a < n) (is_list : list ≡ L a) where
    abbrev q : Par4
    q = dv p

    k : Sound Δ g (lift4 q)
    k = sound_dv p h

    old : a < q.st.nxt
    old = omega (arith, k.new.on.up)

    -- the list of the jumps that the left side takes goes behind that of the right
    joined : (c : Bool) (e₃ : ExprContext) (s₃ : State) (m₃ : Buffers) (x : SimD Δ s₃ m₃ e₃ (lift4 q)) → Is4 Γ s₃ (with_code (linked m₃.code (x.heads (lab c q.de)) (x.heads a)) m₃) (set_h (lab c q.de) (concat_jumps (x.heads (lab c q.de)) (x.heads a)) (set_h a 0 x.heads)) e₃ (relabel a (lab c q.de) q.st) q.de.k4
    joined c e₃ s₃ m₃ x = is4_relabel Γ s₃ m₃ x.heads e₃ q.st a (lab c q.de) na (omega (arith, new c)) one (λ z. omega (arith, new c)) old (low c) q.de.k4 (is_map Δ Γ s₃ refl (λ m c f t y. outward Γ F n L more up same y) m₃ e₃ q.st (kd q.de.k4) x.is)
      where
        new : (c : Bool) → n ≤ lab c q.de
        new true = k.new.tl_new
        new false = k.new.fl_new

        low : (c : Bool) → lab c q.de < q.st.nxt
        low true = k.new.tl_old
        low false = k.new.fl_old

    pub sim_and : (e₁ : ExprContext) → e₁.f ≡ list → Ends (code_and e₁ e₂ s m) (λ e' s' m'. SimD Γ s' m' e' (lift4 (log₂ false a q)))
    unfolding code_and log₂
    sim_and e₁ z = ends_then (sim_dv p h d) (λ e₃ s₃ m₃ y. let x = y.1.1 in
        rw (z ∙ is_list ∙ sym (others_d (lift4 q) x a (omega arith) la), x.falses, concat_is (x.heads p.de.fl) (x.heads a) s₃ m₃, then_done (concat_jumps (x.heads p.de.fl) (x.heads a)) s₃ (with_code (linked m₃.code (x.heads p.de.fl) (x.heads a)) m₃) (λ f. return (with_jumps e₃.t f e₃)))
        (gives _ s₃ _ refl (record {
          heads = set_h p.de.fl (concat_jumps (x.heads p.de.fl) (x.heads a)) (set_h a 0 x.heads);
          is = is4_jumps Γ s₃ _ _ e₃ (relabel a p.de.fl q.st) e₃.t (concat_jumps (x.heads p.de.fl) (x.heads a)) q.de.k4 (joined false e₃ s₃ m₃ x);
          trues = x.trues ∙ sym (rw (same_ne p.de.tl p.de.fl (λ y. k.differ (sym y)), same_ne p.de.tl a (λ y. omega (arith, k.new.tl_new))) refl);
          falses = sym (rw (same_refl p.de.fl) refl);
        })))

    pub sim_or : (e₁ : ExprContext) → e₁.t ≡ list → Ends (code_or e₁ e₂ s m) (λ e' s' m'. SimD Γ s' m' e' (lift4 (log₂ true a q)))
    unfolding code_or log₂
    sim_or e₁ z = ends_then (sim_dv p h d) (λ e₃ s₃ m₃ y. let x = y.1.1 in
        rw (z ∙ is_list ∙ sym (others_d (lift4 q) x a (omega arith) la), x.trues, concat_is (x.heads p.de.tl) (x.heads a) s₃ m₃, then_done (concat_jumps (x.heads p.de.tl) (x.heads a)) s₃ (with_code (linked m₃.code (x.heads p.de.tl) (x.heads a)) m₃) (λ t. return (with_jumps t e₃.f e₃)))
        (gives _ s₃ _ refl (record {
          heads = set_h p.de.tl (concat_jumps (x.heads p.de.tl) (x.heads a)) (set_h a 0 x.heads);
          is = is4_jumps Γ s₃ _ _ e₃ (relabel a p.de.tl q.st) (concat_jumps (x.heads p.de.tl) (x.heads a)) e₃.f q.de.k4 (joined true e₃ s₃ m₃ x);
          trues = sym (rw (same_refl p.de.tl) refl);
          falses = x.falses ∙ sym (rw (same_ne p.de.fl p.de.tl (λ y. k.differ y), same_ne p.de.fl a (λ y. omega (arith, k.new.fl_new))) refl);
        })))
