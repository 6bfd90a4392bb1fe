-- goiftrue, goiffalse and not: the truth of the value decides which list a run leaves by, and a value that goes on has the other truth.
use Rattle.std.specs.Prelude.{ℕ, ◌≤◌, Bool, not, ◌≡◌}
use Rattle.std.proofs.Math.Option.{Option}
use Rattle.model.specs.Values.{Value, Taken}
use Rattle.labelled.specs.Machine.{Hist, Regs, Setting, exit}
use Rattle.labelled.specs.Discharge.{Par4, lab}
use Rattle.labelled.specs.Conditions.{go_jump, go_if}
use Rattle.labelled.specs.Firm.{C, Z, here_pass}
use Rattle.labelled.specs.Loads.{Res4, fell, left}
use Rattle.labelled.specs.Branching.{Lab₀, Went, go_jump_at, go_jump_pass, here_left, here_went, lab_0}

module _ (Γ : Setting) where
  pub go_if_res : (c : Bool) (p : Par4) (n : ℕ) (R : Regs) (a : Taken Value) → Lab₀ p.de → n ≤ p.st.free → Γ.active ≤ n → Res4 Γ p.de (Z p.st) (C Γ p.st) n R a →
      Went c (lab c p.de) (Z (go_if c p)) (C Γ (go_if c p)) n R a
  unfolding go_if
  go_if_res c p n R a L l na (fell R' h q ag w) = here_went Γ c p.de L n (go_jump c p.de.k4 (lab c p.de) p.st) R a
      (rw w at (go_jump_at Γ c p.de.k4 (lab c p.de) n p.st R R' h (lab_0 c p.de L) l na q ag))
  go_if_res c p n R a L l na (left d b R' v h q ag z w y) = here_left Γ c d p.de L n (go_jump c p.de.k4 (lab c p.de) p.st) b R R' v h a
      (go_jump_pass Γ c p.de.k4 (lab c p.de) p.st (lab d p.de) b R' h (lab_0 c p.de L) q) ag z w y

  pub go_if_pass : (c : Bool) (p : Par4) (ℓ : ℕ) (b : Option ℕ) (R : Regs) (h : Hist) → Lab₀ p.de → (ℓ ≡ lab (not c) p.de → ⊥) → C Γ p.st ≡ exit ℓ b R h → C Γ (go_if c p) ≡ exit ℓ b R h
  unfolding go_if
  go_if_pass c p ℓ b R h L l q = here_pass Γ (lab (not c) p.de) _ ℓ b R h (lab_0 (not c) p.de L) l
      (go_jump_pass Γ c p.de.k4 (lab c p.de) p.st ℓ b R h (lab_0 c p.de L) q)
