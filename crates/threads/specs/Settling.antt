-- The end of `exp2reg`, `settle`, from a state that holds represented code: it is refused, or done and holds the code in which the jumps of both lists have landed,
-- with the loads of false and true where `hit` says that some jump brings no value, and with a jump over them unless a comparison came last.
-- What rests on something that a must-fail edit breaks stands in proofs/Settling.antt.
use Rattle.std.specs.Prelude.{ℕ, Bool, true, false, ◌||◌, ◌≡◌, refl, length}
use Rattle.std.proofs.Common.{ap, ◌∙◌}
use Rattle.model.specs.declared.State.{State}
use Rattle.model.specs.declared.ExprContext.{ExprContext}
use Rattle.model.specs.Steps.{Buffers, Step, and_then, ◌>>=◌}
use Rattle.model.specs.Jumps.{need_value}
use Rattle.model.specs.Emission.{get_label, emit_jump}
use Rattle.model.specs.declared.ExprKind.TheVariants.{Jmp}
use Rattle.model.specs.Descriptor.{is_kind}
use Rattle.model.specs.Discharge.{land as land_both, load_both, settle}
use Rattle.threads.specs.Landing.{both}
use Rattle.labelled.specs.Machine.{pick}

-- ---- `load_both`, of a comparison, whose jump is in a list already, and of another value, which jumps over the loads

pub load_both_jmp : (e : ExprContext) (reg : ℕ) (s : State) (m : Buffers) → is_kind Jmp e ≡ true → load_both e reg s m ≡ both e reg 0 s m
unfolding load_both and_then
load_both_jmp e reg s m k = rw k refl

pub load_both_over : (e : ExprContext) (reg : ℕ) (s : State) (m : Buffers) → is_kind Jmp e ≡ false → load_both e reg s m ≡ and_then (emit_jump s m) (both e reg)
unfolding load_both and_then
load_both_over e reg s m k = rw k refl

pub settle_is : (e : ExprContext) (reg : ℕ) (s : State) (m : Buffers) (v : Bool) → (need_value (length m.code) m.code e.t || need_value (length m.code) m.code e.f) ≡ v →
    settle e reg s m ≡ pick v (load_both e reg s m) ((get_label >>= (λ final. land_both e reg final final final)) s m)
unfolding settle and_then
settle_is e reg s m v z = choose (need_value (length m.code) m.code e.t || need_value (length m.code) m.code e.f) (load_both e reg) (get_label >>= (λ final. land_both e reg final final final)) ∙
    ap (λ (b : Bool). pick b (load_both e reg s m) ((get_label >>= (λ final. land_both e reg final final final)) s m)) z
  where
    choose : (b : Bool) (x y : Step (Unit {0})) → (elim b as (λ (_ : Bool). Step (Unit {0})) [ true ↦ x | false ↦ y ]) s m ≡ pick b (x s m) (y s m)
    choose true x y = refl
    choose false x y = refl
