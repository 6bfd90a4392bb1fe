-- Operators: concatenation, not, and, or, arithmetic with folding, comparisons, negation, length. A numeral that waits may be loaded last, for the right operand survives it.
use Prim.Native.Nat.{ℕ, ◌≤◌}
use Rattle.std.specs.Prelude.{Bool, not}
use Rattle.std.proofs.Math.Bool.{true, false}
use Rattle.std.proofs.Common.{arith as nat}
use Rattle.model.specs.Values.{Value, Taken}
use Rattle.labelled.specs.Machine.{Hist, Setting}
use Rattle.labelled.specs.Emission.{St, relabel}
use Rattle.labelled.specs.Discharge.{Par4, lab}
use Rattle.labelled.specs.Conditions.{go_if}
use Rattle.labelled.specs.Operators.{log₂}
use Rattle.labelled.specs.Firm.{re_pass}
use Rattle.labelled.specs.Branching.{go_if_nxt}
use Rattle.labelled.proofs.Branching.{go_if_res, go_if_pass}
use Rattle.labelled.specs.Owning.{own_le}
use Rattle.labelled.specs.Good.{Good4, labs₀}
use Rattle.labelled.specs.Binary.{b0, lab_lo, log_a, log_main, lo₂, m0}

module _ (Γ : Setting) where
  module _ (c : Bool) (D₁ D₂ : Hist → Taken Value) (f : ℕ) (s : St) (p₁ p₂ : Par4) (l : 1 ≤ s.nxt) (na : Γ.active ≤ f) (g₁ : Good4 Γ (λ R h. D₁ h) f s p₁) (g₂ : Good4 Γ (λ R h. D₂ h) f (go_if c p₁) p₂) where
    abbrev m : ℕ
    m = lab c p₁.de

    pub log_good : Good4 Γ (λ R h. log_a c D₂ (D₁ h)) f s (log₂ c m p₂)
    unfolding log₂ relabel
    log_good = record {
      own = g₂.own;
      nx = omega (nat, g₁.nx, g₂.nx, go_if_nxt c p₁);
      tlo = omega (nat, g₁.nx, lo₂ Γ c D₁ D₂ f s p₁ p₂ l na g₁ g₂ true);
      thi = g₂.thi;
      flo = omega (nat, g₁.nx, lo₂ Γ c D₁ D₂ f s p₁ p₂ l na g₁ g₂ false);
      fhi = g₂.fhi;
      ft = g₂.ft;
      pass = λ ℓ b R h l0 ln e. re_pass Γ m (lab c p₂.de) p₂.st ℓ b R h (m0 Γ c D₁ D₂ f s p₁ p₂ l na g₁ g₂) (b0 Γ c D₁ D₂ f s p₁ p₂ l na g₁ g₂ c) (omega (nat, lab_lo Γ (λ R h. D₁ h) f s p₁ c g₁))
          (g₂.pass ℓ b R h l0 (omega (nat, g₁.nx, go_if_nxt c p₁)) (go_if_pass Γ c p₁ ℓ b R h (labs₀ Γ (λ R h. D₁ h) f s p₁ l g₁) (omega (nat, lab_lo Γ (λ R h. D₁ h) f s p₁ (not c) g₁)) (g₁.pass ℓ b R h l0 ln e)));
      main = λ R h ag e. log_main Γ c D₁ D₂ f s p₁ p₂ l na g₁ g₂ R h ag (go_if_res Γ c p₁ f R (D₁ h) (labs₀ Γ (λ R h. D₁ h) f s p₁ l g₁) (own_le Γ.active p₁.de.k4 f p₁.st.free g₁.own) na (g₁.main R h ag e));
    }
