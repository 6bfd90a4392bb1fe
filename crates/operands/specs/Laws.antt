-- Operands step by step: what a definition comes to once its tests and its steps' answers are known. Assumes nothing.
use Rattle.std.specs.Prelude.{ℕ, ◌+◌, ◌%◌, ◌<◌, ◌≤◌, Bool, true, false, ◌≡◌, refl, leb}
use Rattle.std.proofs.Math.Bool.{and-false}
use Rattle.std.proofs.Common.{sym, ◌∙◌}
use Rattle.std.proofs.Math.Path.{ap}
use Rattle.std.proofs.Math.Dec.{ltb}
use borrow.Author.Tests.{lt-ltb, le-ltb}
use Rattle.instructions.specs.Limits.{bit_rk}
use Rattle.model.specs.declared.ExprKind.TheVariants.{K, NonReloc}
use Rattle.emission.specs.Laws.{branch, freed_none, free_to}
use Rattle.model.specs.declared.ExprContext.{ExprContext}
use Rattle.model.specs.declared.State.{State}
use Rattle.model.specs.Steps.{Buffers, Step, done, and_then, skip}
use Rattle.model.specs.Descriptor.{is_kind}
use Rattle.model.specs.Emission.{with_free, free_reg}
use Rattle.model.specs.Discharge.{free_expr, rk}
use Rattle.model.specs.Operators.{free_in_turn, free_both}

module _ (e : ExprContext) where
  abbrev operand : Bool → ℕ
  operand b = elim b [ true ↦ e.info % bit_rk + bit_rk | false ↦ e.info ]

  pub rk_constant : is_kind K e ≡ true → rk e ≡ e.info % bit_rk + bit_rk
  rk_constant h = ap operand h

  pub rk_register : is_kind K e ≡ false → rk e ≡ e.info
  rk_register h = ap operand h

-- the register of a value in one; of another what is no register
abbrev pub register_of : ExprContext → ℕ
register_of e = elim (is_kind NonReloc e) [ true ↦ e.info | false ↦ bit_rk ]

module _ (e : ExprContext) where
  abbrev own : Bool → ℕ
  own b = elim b [ true ↦ e.info | false ↦ bit_rk ]

  pub register_own : is_kind NonReloc e ≡ true → register_of e ≡ e.info
  register_own h = ap own h

  pub register_none : is_kind NonReloc e ≡ false → register_of e ≡ bit_rk
  register_none h = ap own h

-- what is no register is never free again
none_freed : (s : State) (m : Buffers) → free_reg bit_rk s m ≡ done tt s m
none_freed s m = free_to bit_rk s m ∙ ap (λ (n : ℕ). done tt (with_free n s) m) (freed_none s.active s.free bit_rk (and-false (leb s.active bit_rk)))

pub freed : (e : ExprContext) (s : State) (m : Buffers) → free_expr e s m ≡ free_reg (register_of e) s m
unfolding free_expr
freed e s m = go (is_kind NonReloc e)
  where
    go : (b : Bool) → branch b (free_reg e.info) skip s m ≡ free_reg (own e b) s m
    go true = refl
    go false = sym (none_freed s m)

abbrev in_turn : ExprContext → ExprContext → Bool → Step (Unit {0})
in_turn e₁ e₂ b = branch b (free_in_turn e₁ e₂) (free_in_turn e₂ e₁)

module _ (e₁ e₂ : ExprContext) (s : State) (m : Buffers) {x y : ℕ} (p : rk e₁ ≡ x) (q : rk e₂ ≡ y) where
  pub free_left : {t u : State} → y < x → free_expr e₁ s m ≡ done tt t m → free_expr e₂ t m ≡ done tt u m → free_both e₁ e₂ s m ≡ done tt u m
  unfolding free_both free_in_turn and_then
  free_left l h i = ap (λ (b : Bool). in_turn e₁ e₂ b s m) (ap (λ (a : ℕ). ltb a (rk e₁)) q ∙ ap (λ (a : ℕ). ltb y a) p ∙ lt-ltb y x l) ∙ simp (free_in_turn, h, i)

  pub free_right : {t u : State} → x ≤ y → free_expr e₂ s m ≡ done tt t m → free_expr e₁ t m ≡ done tt u m → free_both e₁ e₂ s m ≡ done tt u m
  unfolding free_both free_in_turn and_then
  free_right l h i = ap (λ (b : Bool). in_turn e₁ e₂ b s m) (ap (λ (a : ℕ). ltb a (rk e₁)) q ∙ ap (λ (a : ℕ). ltb y a) p ∙ le-ltb y x l) ∙ simp (free_in_turn, h, i)
