-- What discharging takes. A descriptor's value costs a word, unless one stands for it already, and the constant that it may become; its jumps cost three words, for the loads of both truth values. `discharge_vars` takes no more than it lightens;
-- what `exp2reg` and the like leave is a register without jumps, so that bringing it once more is cheap.
-- ---- prices
use Rattle.std.specs.Prelude.{ℕ, ◌+◌, ◌≤◌, not, ◌≡◌, [], eqb, leb}
use Rattle.std.proofs.Math.Path.{refl}
use Rattle.std.proofs.Common.{◌∙◌}
use native.Mathlib.Omega.{arith}
use Rattle.instructions.specs.Word.{set_a_of}
use Rattle.constants.specs.declared.Val.TheVariants as val
use Rattle.model.specs.declared.ExprKind.{ExprKind}
use Rattle.model.specs.declared.ExprKind.TheVariants.{Nil, True, False, K, KNum, Local, Global, Indexed, Jmp, Relocable, NonReloc, Call, VarArg}
use Rattle.model.specs.declared.ExprContext.{ExprContext}
use Rattle.model.specs.Descriptor.{with_jumps, has_jumps, is_kind}
use Rattle.model.specs.Jumps.{jump_list}
use Rattle.model.specs.Discharge.{number_constant, load_kind, discharge2reg, discharge2anyreg, join_jump, exp2reg, exp2nextreg, exp2anyreg}
use Rattle.bound.specs.Takes.{Resource, per_constant, Gives, Takes, at_most, spends_less, takes, gives_then, takes_then, nothing_then, then_nothing, gives_return, takes_return, takes_get, spends_if, takes_when}
use Rattle.bound.specs.Emission.{takes_change_word, takes_emit, takes_concat, takes_emit_nil, takes_alloc_reg}
use Rattle.bound.proofs.Emission.{takes_add_constant}
use Rattle.bound.specs.Discharge.{Bare, Same, brings, due, dv_then, gives_kept, gives_loaded, jumps_cost, jumps_cost_same, load, nonreloc, settles, takes_free_expr, takes_move, takes_settle, takes_settled, three, three_most, three_or, three_true, value}

module _ {R : Resource} {cap : ℕ} where
  takes_number_constant : (e : ExprContext) → Takes R cap (per_constant R) (number_constant e)
  takes_number_constant e = takes_add_constant [] (val.Num e.nval e.bits)

  gives_load : (k : ExprKind) (e : ExprContext) (reg : ℕ) → e.kind ≡ k → Gives R cap (load R k + due R k) (load_kind k e reg) (Same e)
  unfolding load_kind
  gives_load Nil e reg p = at_most (then_nothing (takes_emit_nil reg) (λ _. gives_loaded reg e (rw p refl))) (omega arith)
  gives_load True e reg p = at_most (then_nothing (takes_emit _) (λ _. gives_loaded reg e (rw p refl))) (omega arith)
  gives_load False e reg p = at_most (then_nothing (takes_emit _) (λ _. gives_loaded reg e (rw p refl))) (omega arith)
  gives_load K e reg p = at_most (then_nothing (takes_emit _) (λ _. gives_loaded reg e (rw p refl))) (omega arith)
  gives_load KNum e reg p = at_most (takes_then (takes_number_constant e) (λ n. then_nothing (takes_emit _) (λ _. gives_loaded reg e (rw p refl)))) (omega arith)
  gives_load Local e reg p = gives_kept e
  gives_load Global e reg p = gives_kept e
  gives_load Indexed e reg p = gives_kept e
  gives_load Jmp e reg p = gives_kept e
  gives_load Relocable e reg p = at_most (nothing_then (takes_change_word e.info (λ w. set_a_of w reg)) (λ _. gives_loaded reg e (rw p refl))) (omega arith)
  gives_load NonReloc e reg p = at_most (then_nothing (takes_when (not (eqb reg e.info)) (takes_move reg e.info)) (λ _. gives_loaded reg e (rw p refl))) (omega arith)
  gives_load Call e reg p = gives_kept e
  gives_load VarArg e reg p = gives_kept e

  gives_discharge2reg : (e : ExprContext) (reg : ℕ) → Gives R cap (value R e) (discharge2reg e reg) (Same e)
  unfolding discharge2reg
  gives_discharge2reg e reg = at_most (dv_then e 0 (λ e₁ h. at_most (spends_less (gives_load e₁.kind e₁ reg refl) (λ e₂ g. (omega arith, record { has = g.has ∙ h.has; pending = g.pending ∙ h.pending }))) (omega arith))) (omega arith)

  pub takes_discharge2anyreg : (e : ExprContext) → Takes R cap (value R e) (discharge2anyreg e)
  unfolding discharge2anyreg
  takes_discharge2anyreg e = spends_if (is_kind NonReloc e) (λ _. at_most (takes_return e) (omega arith)) (λ _. nothing_then takes_alloc_reg (λ reg. takes (gives_discharge2reg e reg)))

  gives_join : (e : ExprContext) → Gives R cap 0 (join_jump e) (λ e₂. three R (has_jumps e₂) ≤ jumps_cost R e)
  unfolding join_jump
  gives_join e = spends_if (is_kind Jmp e)
      (λ h. nothing_then (takes_concat e.t (jump_list e.info)) (λ t. gives_return _ (omega (arith, three_most R (has_jumps (with_jumps t e.f e)), three_true R (has_jumps e) (is_kind Jmp e) h))))
      (λ _. gives_return e (three_or R (has_jumps e) (is_kind Jmp e)))

  pub gives_settled : (e e₁ : ExprContext) (reg : ℕ) → Same e e₁ → Gives R cap (jumps_cost R e) (settles e₁ reg) Bare
  gives_settled e e₁ reg h = at_most (gives_then (gives_join e₁) (λ e₂ j.
      at_most {d = jumps_cost R e} (then_nothing (takes_settled (has_jumps e₂) (takes_settle e₂ reg)) (λ _. gives_return _ (record { kind = refl; jumps = refl }))) (omega (arith, j, jumps_cost_same R h)))) (omega arith)

  gives_exp2reg : (e : ExprContext) (reg : ℕ) → Gives R cap (brings R e) (exp2reg e reg) Bare
  unfolding exp2reg
  gives_exp2reg e reg = gives_then (gives_discharge2reg e reg) (λ e₁ h. gives_settled e e₁ reg h)

  pub gives_exp2nextreg : (e : ExprContext) → Gives R cap (brings R e) (exp2nextreg e) Bare
  unfolding exp2nextreg
  gives_exp2nextreg e = dv_then e (jumps_cost R e) (λ e₁ h. at_most (nothing_then (takes_free_expr e₁) (λ _. nothing_then takes_alloc_reg (λ reg. gives_exp2reg e₁ reg))) (omega (arith, jumps_cost_same R h)))

  pub gives_exp2anyreg : (e : ExprContext) → Gives R cap (brings R e) (exp2anyreg e) Bare
  unfolding exp2anyreg
  gives_exp2anyreg e = dv_then e (jumps_cost R e) (λ e₁ h. at_most (nothing_then takes_get (λ s.
      spends_if {c = brings R e₁} (is_kind NonReloc e₁)
      (λ n. spends_if (has_jumps e₁) (λ _. spends_if (leb s.active e₁.info) (λ _. gives_exp2reg e₁ e₁.info) (λ _. gives_exp2nextreg e₁)) (λ j. at_most (gives_return e₁ (record { kind = nonreloc e₁.kind n; jumps = j })) (omega arith)))
      (λ _. gives_exp2nextreg e₁))) (omega (arith, jumps_cost_same R h)))
