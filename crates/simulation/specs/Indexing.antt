-- An index read waits in its descriptor: `set_indexed` stands for `indexed`, the key being an operand. Freeing the key and then the table gives back what both took.
use Rattle.std.specs.Prelude.{ℕ, ◌≤◌, ◌<◌, ◌≡◌, refl}
use Rattle.std.proofs.Common.{arith}
use Rattle.model.specs.declared.ExprContext.{ExprContext}
use Rattle.model.specs.declared.State.{State}
use Rattle.model.specs.Steps.{Buffers}
use Rattle.model.specs.Discharge.{rk}
use Rattle.model.specs.Expressions.{set_indexed}
use Rattle.labelled.specs.Code.{reg}
use Rattle.labelled.specs.Fresh.{On, rk_on, dv_new}
use Rattle.labelled.specs.Discharge.{ki, Pair, RkS, dv, exp2rk as exp2rk_l}
use Rattle.labelled.specs.Operators.{indexed}
use Rattle.threads.specs.Holding.{Ends, gives, ends_then}
use Rattle.simulation.specs.Sim.{Env, Sims, SimD, Sound}
use Rattle.simulation.specs.Discharging.{sound_dv}
use Rattle.simulation.specs.Operands.{sim_rk}
use Rattle.simulation.specs.Freeing.{Takes, rk_takes, drop_two, operand_number}
use Rattle.simulation.specs.Parts.{framed, outward_s, known_d, raise_d, sound_raise}
use Rattle.simulation.specs.Late.{fresh_desc}
use Rattle.simulation.specs.Arithmetic.{operand_codes}

pub sim_indexed : {Γ : Env} {s : State} {m : Buffers} {e₂ : ExprContext} (e₁ : ExprContext) (f g r : ℕ) (p : Pair) → Γ.active ≤ f → e₁.info ≡ r → r < s.frame → e₁.t ≡ 0 → e₁.f ≡ 0 → Takes Γ.active f g (reg r) → Sound Γ g p → SimD Γ s m e₂ p → Ends (set_indexed e₁ e₂ s m) (λ e' s' m'. SimD Γ s' m' e' (indexed f r (exp2rk_l (dv p))))
unfolding set_indexed
sim_indexed {Γ = Γ} {s = s} e₁ f g r p la i l t u k h d = ends_then (sim_rk {Γ = framed Γ s} p (sound_raise s.frame p h) (raise_d p d)) (λ c s₁ m₁ x.
    let now : Sims Γ s₁ m₁ y.st = outward_s Γ s.frame Γ.n Γ.lists (known_d p d).least (omega arith) (λ ℓ a b. refl) x.now in
    gives _ s₁ m₁ refl (fresh_desc _ (ki f r y.rkv) y.st.free y.st on.old t u now
    (refl, (i, (omega (arith, x.now.sim.least), (operand_codes s₁ c y.st y.rkv x.is, (drop_two Γ.active f g la y.st.free (reg r) y.rkv r (rk c) k takes h.locals (refl, omega (arith, x.now.sim.least, now.sim.most)) (operand_number c s₁ y.st y.rkv now.sim.most x.is), now.sim)))))))
  where
    y : RkS
    y = exp2rk_l (dv p)

    takes : Takes Γ.active g y.st.free y.rkv
    takes = rk_takes Γ.active (dv p) g (sound_dv p h).own

    on : On Γ.n y.st
    on = rk_on Γ.n h.some (dv p) (dv_new Γ.n h.some p h.new)
