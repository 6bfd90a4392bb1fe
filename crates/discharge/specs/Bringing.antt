-- Bringing step by step: what is wanted of a descriptor is what is wanted of the value that it becomes; that is a constant, or the value where it goes. Assumes nothing.
use Rattle.std.specs.Prelude.{ℕ, ◌≤◌, ◌<◌, Bool, ◌≡◌, leb}
use Rattle.std.proofs.Math.Bool.{true, false}
use Rattle.std.proofs.Common.{true≢false, ◌∙◌}
use Rattle.std.proofs.lemmas.Bool.{false≢true, not-true, not-false}
use Rattle.std.proofs.Math.Path.{refl, sym, ap, subst}
use Rattle.refusals.specs.declared.Refusal.{Refusal}
use Rattle.opcodes.specs.declared.OpCode.TheVariants as op
use Rattle.model.specs.declared.ExprKind.{ExprKind}
use Rattle.model.specs.declared.ExprKind.TheVariants as kind
use Rattle.model.specs.declared.ExprContext.{ExprContext}
use Rattle.model.specs.declared.State.{State}
use Rattle.model.specs.Steps.{Buffers, Step, Result, done, refused, and_then, skip}
use Rattle.model.specs.Descriptor.{with_kind, with_jumps, has_jumps, is_kind}
use Rattle.model.specs.Emission.{emit_abc, emit_abx, alloc_reg, free_reg}
use Rattle.model.specs.Discharge.{discharge_kind, discharge_vars, free_expr, load_kind, discharge2reg, settle, join_jump, exp2reg, exp2nextreg, exp2anyreg, exp2val, rk_kind, exp2rk}
use Rattle.emission.specs.Laws.{branch}
use Rattle.discharge.specs.Want.{Want}
use Rattle.discharge.specs.Want.{Vars, Load, Reg, Next, Any, Val, Rk}
use Rattle.discharge.specs.Operand.{Operand}
use Rattle.discharge.specs.Operand as operand
use Rattle.discharge.specs.Spot.{Spot}
use Rattle.discharge.specs.Spot as spot
use Rattle.discharge.specs.Kinds.{kind_is, give, placed, any_of}
use Rattle.discharge.specs.Laws.{to_reg, to_reg_refused, reg_refused, next_done, next_refused, any_done, any_refused, taken_done, taken_refused, any_jumps, any_there, any_reused, any_next, any_elsewhere, val_jumps, val_plain, operand_done, operand_refused}
use Rattle.discharge.specs.Wants.{wanted, only_value, keeps_open, value_kind, is_value, is_plain, wants_operand, reg_of, landing_of, there_of, rest_is, spot_is}

-- ---- values

-- a value stays as it is
kept : (k : ExprKind) (e : ExprContext) (s : State) (m : Buffers) → value_kind k ≡ true → discharge_kind k e s m ≡ done e s m
unfolding discharge_kind
kept kind.Nil e s m h = refl
kept kind.True e s m h = refl
kept kind.False e s m h = refl
kept kind.K e s m h = refl
kept kind.KNum e s m h = refl
kept kind.Local e s m h = absurd (false≢true h)
kept kind.Global e s m h = absurd (false≢true h)
kept kind.Indexed e s m h = absurd (false≢true h)
kept kind.Jmp e s m h = refl
kept kind.Relocable e s m h = refl
kept kind.NonReloc e s m h = refl
kept kind.Call e s m h = absurd (false≢true h)
kept kind.VarArg e s m h = absurd (false≢true h)

pub value_stays : (e : ExprContext) (s : State) (m : Buffers) → is_value e ≡ true → discharge_vars e s m ≡ done e s m
value_stays e = kept e.kind e

-- what is discharged is a value, with the same jumps
unfoldable Valued : ExprContext → Result ExprContext → Type 0
Valued e (done d s m) = (is_value d ≡ true) × (has_jumps d ≡ has_jumps e)
Valued e (refused k m) = Unit {0}

module _ (e : ExprContext) where
  relocable : (x : Result ℕ) → Valued e (and_then x (λ (pc : ℕ) (s : State) (m : Buffers). done (with_kind kind.Relocable pc e) s m))
  unfolding and_then Valued
  relocable (done pc s m) = (refl, refl)
  relocable (refused k m) = tt

  freed : (x : Result (Unit {0})) (f : Unit {0} → Step ExprContext) → ((s : State) (m : Buffers) → Valued e (f tt s m)) → Valued e (and_then x f)
  unfolding and_then Valued
  freed (done tt s m) f h = h s m
  freed (refused k m) f h = tt

  valued : (k : ExprKind) (s : State) (m : Buffers) → e.kind ≡ k → Valued e (discharge_kind k e s m)
  unfolding discharge_kind and_then Valued
  valued kind.Nil s m q = (ap value_kind q, refl)
  valued kind.True s m q = (ap value_kind q, refl)
  valued kind.False s m q = (ap value_kind q, refl)
  valued kind.K s m q = (ap value_kind q, refl)
  valued kind.KNum s m q = (ap value_kind q, refl)
  valued kind.Local s m q = (refl, refl)
  valued kind.Global s m q = relocable (emit_abx op.GetGlobal 0 e.info s m)
  valued kind.Indexed s m q = freed (free_reg e.aux s m) _ (λ a b. freed (free_reg e.info a b) _ (λ c d. relocable (emit_abc op.GetTable 0 e.info e.aux c d)))
  valued kind.Jmp s m q = (ap value_kind q, refl)
  valued kind.Relocable s m q = (ap value_kind q, refl)
  valued kind.NonReloc s m q = (ap value_kind q, refl)
  valued kind.Call s m q = (refl, refl)
  valued kind.VarArg s m q = (refl, refl)

  told : (s : State) (m : Buffers) {d : ExprContext} {t : State} {n : Buffers} → discharge_vars e s m ≡ done d t n → (is_value d ≡ true) × (has_jumps d ≡ has_jumps e)
  unfolding Valued
  told s m h = subst (Valued e) h (valued e.kind s m refl)

  pub told_value : (s : State) (m : Buffers) {d : ExprContext} {t : State} {n : Buffers} → discharge_vars e s m ≡ done d t n → is_value d ≡ true
  told_value s m h = (told s m h).0

-- ---- what is wanted of the value

reg_is : (e : ExprContext) (reg : ℕ) (s : State) (m : Buffers) → exp2reg e reg s m ≡ and_then (discharge2reg e reg s m) (λ (d : ExprContext). placed d reg)
unfolding exp2reg
reg_is e reg s m = refl

rk_is : (e : ExprContext) (s : State) (m : Buffers) → exp2rk e s m ≡ and_then (exp2val e s m) (λ (d : ExprContext). rk_kind d.kind d)
unfolding exp2rk
rk_is e s m = refl

module _ (e : ExprContext) (s : State) (m : Buffers) {d : ExprContext} {t : State} {n : Buffers} (h : discharge_vars e s m ≡ done d t n) where
  again : discharge_vars d t n ≡ done d t n
  again = value_stays d t n (told_value e s m h)

  val_done : (b : Bool) → has_jumps e ≡ b → exp2val e s m ≡ exp2val d t n
  val_done true q = val_jumps e s m q ∙ any_done e s m h ∙ sym (val_jumps d t n ((told e s m h).1 ∙ q) ∙ any_done d t n again)
  val_done false q = val_plain e s m q ∙ h ∙ sym (val_plain d t n ((told e s m h).1 ∙ q) ∙ again)

  pub wanted_done : (w : Want) (reg : ℕ) → wanted w reg e s m ≡ wanted w reg d t n
  wanted_done Vars reg = h ∙ sym again
  wanted_done Load reg = to_reg e reg s m h ∙ sym (to_reg d reg t n again)
  wanted_done Reg reg =
      reg_is e reg s m
      ∙ ap (λ (y : Result ExprContext). and_then y (λ (x : ExprContext). placed x reg)) (to_reg e reg s m h ∙ sym (to_reg d reg t n again))
      ∙ sym (reg_is d reg t n)
  wanted_done Next reg = next_done e s m h ∙ sym (next_done d t n again)
  wanted_done Any reg = any_done e s m h ∙ sym (any_done d t n again)
  wanted_done Val reg = val_done (has_jumps e) refl
  wanted_done Rk reg = rk_is e s m ∙ ap (λ (y : Result ExprContext). and_then y (λ (x : ExprContext). rk_kind x.kind x)) (val_done (has_jumps e) refl) ∙ sym (rk_is d t n)

  -- and where only a value is
  pub value_done : (w : Want) (reg : ℕ) → only_value w ≡ true → wanted w reg e s m ≡ done d t n
  value_done Vars reg q = h
  value_done Load reg q = absurd (false≢true q)
  value_done Reg reg q = absurd (false≢true q)
  value_done Next reg q = absurd (false≢true q)
  value_done Any reg q = absurd (false≢true q)
  value_done Val reg q = absurd (false≢true q)
  value_done Rk reg q = absurd (false≢true q)

module _ (e : ExprContext) (s : State) (m : Buffers) {k : Refusal} {n : Buffers} (h : discharge_vars e s m ≡ refused k n) where
  val_refused : (b : Bool) → has_jumps e ≡ b → exp2val e s m ≡ refused k n
  val_refused true q = val_jumps e s m q ∙ any_refused e s m h
  val_refused false q = val_plain e s m q ∙ h

  pub wanted_refused : (w : Want) (reg : ℕ) → wanted w reg e s m ≡ refused k n
  wanted_refused Vars reg = h
  wanted_refused Load reg = to_reg_refused e reg s m h
  wanted_refused Reg reg = reg_refused e reg s m (to_reg_refused e reg s m h)
  wanted_refused Next reg = next_refused e s m h
  wanted_refused Any reg = any_refused e s m h
  wanted_refused Val reg = val_refused (has_jumps e) refl
  wanted_refused Rk reg = operand_refused e s m (val_refused (has_jumps e) refl)

-- ---- as an operand

-- a value that jumps brought to a register is an operand
abbrev as_rk : Result ExprContext → Result ExprContext
as_rk x = and_then x (λ (d : ExprContext). rk_kind d.kind d)

as_rk_then : {A : Type 0} (x : Result A) (f : A → Step ExprContext) → ((a : A) (s : State) (m : Buffers) → as_rk (f a s m) ≡ f a s m) → as_rk (and_then x f) ≡ and_then x f
unfolding and_then
as_rk_then (done a s m) f h = h a s m
as_rk_then (refused k m) f h = refl

module _ (reg : ℕ) where
  landed : (d : ExprContext) (s : State) (m : Buffers) → as_rk (placed d reg s m) ≡ placed d reg s m
  unfolding and_then rk_kind exp2anyreg discharge_kind
  landed d s m = as_rk_then (join_jump d s m) _ (λ x a b. as_rk_then (branch (has_jumps x) (settle x reg) skip a b) (give (with_kind kind.NonReloc reg (with_jumps 0 0 x))) (λ _ c o. refl))

  reg_landed : (e : ExprContext) (s : State) (m : Buffers) → as_rk (exp2reg e reg s m) ≡ exp2reg e reg s m
  unfolding exp2reg
  reg_landed e s m = as_rk_then (discharge2reg e reg s m) _ landed

next_landed : (e : ExprContext) (s : State) (m : Buffers) → as_rk (exp2nextreg e s m) ≡ exp2nextreg e s m
unfolding exp2nextreg
next_landed e s m = as_rk_then (discharge_vars e s m) _ (λ d a b. as_rk_then (free_expr d a b) _ (λ _ c o. as_rk_then (alloc_reg c o) _ (λ reg. reg_landed reg d)))

branched : (c : Bool) (x y : Step ExprContext) (s : State) (m : Buffers) → as_rk (x s m) ≡ x s m → as_rk (y s m) ≡ y s m → as_rk (branch c x y s m) ≡ branch c x y s m
branched true x y s m p q = p
branched false x y s m p q = q

rk_register : (e : ExprContext) (s : State) (m : Buffers) → rk_kind kind.NonReloc e s m ≡ exp2anyreg e s m
unfolding rk_kind
rk_register e s m = refl

module _ (d : ExprContext) (s : State) (m : Buffers) (q : is_kind kind.NonReloc d ≡ true) where
  stay_landed : has_jumps d ≡ false → rk_kind d.kind d s m ≡ done d s m
  stay_landed j =
      ap (λ (k : ExprKind). rk_kind k d s m) (kind_is kind.NonReloc d q)
      ∙ rk_register d s m
      ∙ any_done d s m (value_stays d s m (ap value_kind (kind_is kind.NonReloc d q)))
      ∙ any_there d s m q j

  -- what is in a register without jumps is an operand
  pub rk_stays : has_jumps d ≡ false → exp2rk d s m ≡ done d s m
  rk_stays j = operand_done d s m (val_plain d s m j ∙ value_stays d s m (ap value_kind (kind_is kind.NonReloc d q))) ∙ stay_landed j

  in_register : (b : Bool) → has_jumps d ≡ b → as_rk (any_of d s m) ≡ any_of d s m
  unfolding and_then
  in_register true j = ap as_rk (any_jumps d s m q j) ∙ branched (leb s.active d.info) (exp2reg d d.info) (exp2nextreg d) s m (reg_landed d.info d s m) (next_landed d s m) ∙ sym (any_jumps d s m q j)
  in_register false j = ap as_rk (any_there d s m q j) ∙ stay_landed j ∙ sym (any_there d s m q j)

anywhere : (d : ExprContext) (s : State) (m : Buffers) (b : Bool) → is_kind kind.NonReloc d ≡ b → as_rk (any_of d s m) ≡ any_of d s m
anywhere d s m true q = in_register d s m q (has_jumps d) refl
anywhere d s m false q = ap as_rk (any_elsewhere d s m q) ∙ next_landed d s m ∙ sym (any_elsewhere d s m q)

any_landed : (e : ExprContext) (s : State) (m : Buffers) → as_rk (exp2anyreg e s m) ≡ exp2anyreg e s m
unfolding exp2anyreg
any_landed e s m = as_rk_then (discharge_vars e s m) _ (λ d a b. anywhere d a b (is_kind kind.NonReloc d) refl)

-- an answer that was found to be one of its kinds
pub rest_told : (w : Want) (reg : ℕ) (e : ExprContext) (g : Operand) (m : Buffers) {x : Result ExprContext} {h : Operand} → x ≡ rest_is w reg e g m → g ≡ h → x ≡ rest_is w reg e h m
rest_told w reg e g m q h = q ∙ ap (λ (o : Operand). rest_is w reg e o m) h

pub spot_told : (w : Want) (e : ExprContext) (s : State) (g : Spot) (m : Buffers) {x : Result ExprContext} {h : Spot} → x ≡ spot_is w e s g m → g ≡ h → x ≡ spot_is w e s h m
spot_told w e s g m q h = q ∙ ap (λ (o : Spot). spot_is w e s o m) h

-- a register is named to no purpose where an operand is wanted
rest_rk : (reg : ℕ) (e : ExprContext) (r : Operand) (n : Buffers) → rest_is Rk 0 e r n ≡ rest_is Rk reg e r n
rest_rk reg e (operand.Constant s k) n = refl
rest_rk reg e (operand.Other s) n = refl
rest_rk reg e (operand.Refused k) n = refl

-- a constant will do
pub operand_wanted : (w : Want) (reg : ℕ) (e : ExprContext) (s : State) (m : Buffers) (r : Operand) (n : Buffers) → is_value e ≡ true → wants_operand w e ≡ true →
    rk_kind e.kind e s m ≡ rest_is Rk 0 e r n → wanted w reg e s m ≡ rest_is w reg e r n
operand_wanted Vars reg e s m r n v q h = absurd (false≢true q)
operand_wanted Load reg e s m r n v q h = absurd (false≢true q)
operand_wanted Reg reg e s m r n v q h = absurd (false≢true q)
operand_wanted Next reg e s m r n v q h = absurd (false≢true q)
operand_wanted Any reg e s m r n v q h = absurd (false≢true q)
operand_wanted Val reg e s m r n v q h = absurd (false≢true q)
operand_wanted Rk reg e s m r n v q h = operand_done e s m (val_plain e s m (not-true _ q) ∙ value_stays e s m v) ∙ h ∙ rest_rk reg e r n

-- and where none will
pub other_wanted : (w : Want) (reg : ℕ) (e : ExprContext) (s : State) (m : Buffers) → wants_operand w e ≡ false → wanted w reg e s m ≡ reg_of w reg e s m
other_wanted Vars reg e s m q = refl
other_wanted Load reg e s m q = refl
other_wanted Reg reg e s m q = refl
other_wanted Next reg e s m q = refl
other_wanted Any reg e s m q = refl
other_wanted Val reg e s m q = refl
other_wanted Rk reg e s m q = rk_is e s m ∙ ap as_rk (val_jumps e s m (not-false _ q)) ∙ any_landed e s m

-- ---- where it goes

pub reg_at : (e : ExprContext) (s : State) (m : Buffers) → is_value e ≡ true → (reg : ℕ) → exp2reg e reg s m ≡ there_of Next e reg s m
reg_at e s m v reg = reg_is e reg s m ∙ ap (λ (y : Result ExprContext). and_then y (λ (d : ExprContext). placed d reg)) (to_reg e reg s m (value_stays e s m v))

module _ (e : ExprContext) (s : State) (m : Buffers) (v : is_value e ≡ true) where
  pub load_at : (reg : ℕ) → discharge2reg e reg s m ≡ there_of Load e reg s m
  unfolding and_then
  load_at reg = to_reg e reg s m (value_stays e s m v) ∙ whole (load_kind e.kind e reg s m)
    where
      whole : (x : Result ExprContext) → x ≡ and_then x (landing_of Load reg)
      whole (done d a b) = refl
      whole (refused k b) = refl

  module _ {t : State} (f : free_expr e s m ≡ done tt t m) where
    pub next_at : {reg : ℕ} {u : State} → alloc_reg t m ≡ done reg u m → exp2nextreg e s m ≡ there_of Next e reg u m
    next_at {reg} {u} h = next_done e s m (value_stays e s m v) ∙ taken_done e s m f h ∙ reg_at e u m v reg

    pub next_none : {k : Refusal} → alloc_reg t m ≡ refused k m → exp2nextreg e s m ≡ refused k m
    next_none h = next_done e s m (value_stays e s m v) ∙ taken_refused e s m f h

  pub any_at_next : is_kind kind.NonReloc e ≡ false → exp2anyreg e s m ≡ exp2nextreg e s m
  any_at_next q = any_done e s m (value_stays e s m v) ∙ any_elsewhere e s m q

  module _ (q : is_kind kind.NonReloc e ≡ true) where
    pub any_stays : has_jumps e ≡ false → exp2anyreg e s m ≡ done e s m
    any_stays j = any_done e s m (value_stays e s m v) ∙ any_there e s m q j

    pub any_at_own : has_jumps e ≡ true → s.active ≤ e.info → exp2anyreg e s m ≡ there_of Next e e.info s m
    any_at_own j l = any_done e s m (value_stays e s m v) ∙ any_reused e s m q j l ∙ reg_at e s m v e.info

    pub any_from_local : has_jumps e ≡ true → e.info < s.active → exp2anyreg e s m ≡ exp2nextreg e s m
    any_from_local j l = any_done e s m (value_stays e s m v) ∙ any_next e s m q j l

-- the jumps of all but `Load` land
pub spot_as : (w : Want) (e : ExprContext) (s : State) (r : Spot) (m : Buffers) → landing_of w ≡ landing_of Next → spot_is Next e s r m ≡ spot_is w e s r m
spot_as w e s spot.Stay m q = refl
spot_as w e s (spot.At t reg) m q = ap (λ (f : ℕ → ExprContext → Step ExprContext). and_then (load_kind e.kind e reg t m) (f reg)) (sym q)
spot_as w e s (spot.Refused k) m q = refl

-- what was found to be wanted
pub as_told : (w : Want) (reg : ℕ) (e : ExprContext) (s : State) (r : Spot) (m : Buffers) {u : Want} → w ≡ u → reg_of u reg e s m ≡ spot_is u e s r m → reg_of w reg e s m ≡ spot_is w e s r m
as_told w reg e s r m q h = ap (λ (x : Want). reg_of x reg e s m) q ∙ h ∙ ap (λ (x : Want). spot_is x e s r m) (sym q)

pub plain_stays : (w : Want) (reg : ℕ) (e : ExprContext) (s : State) (m : Buffers) → is_value e ≡ true → is_plain w e ≡ true → reg_of w reg e s m ≡ done e s m
plain_stays Vars reg e s m v q = value_stays e s m v
plain_stays Load reg e s m v q = absurd (false≢true q)
plain_stays Reg reg e s m v q = absurd (false≢true q)
plain_stays Next reg e s m v q = absurd (false≢true q)
plain_stays Any reg e s m v q = absurd (false≢true q)
plain_stays Val reg e s m v q = val_plain e s m (not-true _ q) ∙ value_stays e s m v
plain_stays Rk reg e s m v q = absurd (false≢true q)

-- ---- there

module _ (w : Want) (e : ExprContext) (reg : ℕ) (s : State) (m : Buffers) where
  pub there_done : {d : ExprContext} {t : State} {n : Buffers} → load_kind e.kind e reg s m ≡ done d t n → there_of w e reg s m ≡ landing_of w reg d t n
  unfolding and_then
  there_done h = ap (λ (y : Result ExprContext). and_then y (landing_of w reg)) h

  pub there_refused : {k : Refusal} {n : Buffers} → load_kind e.kind e reg s m ≡ refused k n → there_of w e reg s m ≡ refused k n
  unfolding and_then
  there_refused h = ap (λ (y : Result ExprContext). and_then y (landing_of w reg)) h

pub left_open : (w : Want) (reg : ℕ) (e : ExprContext) (s : State) (m : Buffers) → keeps_open w ≡ true → landing_of w reg e s m ≡ done e s m
left_open Vars reg e s m q = absurd (false≢true q)
left_open Load reg e s m q = refl
left_open Reg reg e s m q = absurd (false≢true q)
left_open Next reg e s m q = absurd (false≢true q)
left_open Any reg e s m q = absurd (false≢true q)
left_open Val reg e s m q = absurd (false≢true q)
left_open Rk reg e s m q = absurd (false≢true q)

pub all_land : (w : Want) (reg : ℕ) (e : ExprContext) (s : State) (m : Buffers) → keeps_open w ≡ false → landing_of w reg e s m ≡ placed e reg s m
all_land Vars reg e s m q = refl
all_land Load reg e s m q = absurd (true≢false q)
all_land Reg reg e s m q = refl
all_land Next reg e s m q = refl
all_land Any reg e s m q = refl
all_land Val reg e s m q = refl
all_land Rk reg e s m q = refl
