-- What discharging takes. A descriptor's value costs a word, unless one stands for it already, and the constant that it may become; its jumps cost three words, for the loads of both truth values. `discharge_vars` takes no more than it lightens;
-- what `exp2reg` and the like leave is a register without jumps, so that bringing it once more is cheap.
-- What rests on something that a must-fail edit breaks stands in proofs/Discharge.antt.
use Rattle.std.specs.Prelude.{ℕ, ◌+◌, ◌*◌, ◌≤◌, Bool, true, false, ◌||◌, ◌≡◌, length, eqb}
use Rattle.std.proofs.Math.Path.{refl, ap}
use Rattle.std.proofs.Common.{sym, ◌∙◌}
use native.Mathlib.Omega.{arith}
use Rattle.instructions.specs.Word.{set_b_of, set_c_of}
use Rattle.model.specs.declared.ExprKind.{ExprKind}
use Rattle.model.specs.declared.ExprKind.TheVariants.{Nil, True, False, K, KNum, Local, Global, Indexed, Jmp, Relocable, NonReloc, Call, VarArg}
use Rattle.model.specs.declared.ExprContext.{ExprContext}
use Rattle.model.specs.Descriptor.{with_kind, with_jumps, has_jumps, tag_of, is_kind}
use Rattle.model.specs.Steps.{Step, and_then, ◌>>=◌, ◌>>◌, return, when}
use Rattle.model.specs.Jumps.{need_value}
use Rattle.model.specs.Discharge.{discharge_kind, discharge_vars, free_expr, move, land, load_both, settle, join_jump, exp2anyreg}
use Rattle.bound.specs.Takes.{Resource, per_word, per_constant, left, Spends, Gives, Takes, Any, at_most, spends_less, spends_then, takes_then, nothing_then, then_nothing, spends_return, gives_return, takes_return, takes_skip, takes_code_now, spends_if, takes_when}
use Rattle.bound.specs.Emission.{takes_change_word, takes_emit, takes_patch_list, takes_emit_jump, takes_patch_to_here, takes_get_label, takes_code_label, takes_free_reg}

-- ---- prices

-- the word that loads a value of this kind
abbrev pub load : Resource → ExprKind → ℕ
load R Nil = per_word R
load R True = per_word R
load R False = per_word R
load R K = per_word R
load R KNum = per_word R
load R Local = per_word R
load R Global = per_word R
load R Indexed = per_word R
load R Jmp = 0
load R Relocable = 0
load R NonReloc = per_word R
load R Call = per_word R
load R VarArg = 0

-- the constant that it may become
abbrev pub due : Resource → ExprKind → ℕ
due R Nil = per_constant R
due R True = per_constant R
due R False = per_constant R
due R K = 0
due R KNum = per_constant R
due R Local = 0
due R Global = 0
due R Indexed = 0
due R Jmp = 0
due R Relocable = 0
due R NonReloc = 0
due R Call = 0
due R VarArg = 0

-- a jump over two loads, and the loads
abbrev pub three : Resource → Bool → ℕ
three R true = 3 * per_word R
three R false = 0

-- has jumps, or is a comparison, which is a jump
abbrev pub pending : ExprContext → Bool
pending e = has_jumps e || is_kind Jmp e

-- what its jumps cost
abbrev pub jumps_cost : Resource → ExprContext → ℕ
jumps_cost R e = three R (pending e)

-- what it owes of constants, its value, and all that brings it to a register
abbrev pub owes : Resource → ExprContext → ℕ
owes R e = due R e.kind

abbrev pub value : Resource → ExprContext → ℕ
value R e = load R e.kind + owes R e

abbrev pub brings : Resource → ExprContext → ℕ
brings R e = value R e + jumps_cost R e

-- one word brings it, and what it owes
abbrev pub Light : Resource → ExprContext → Type 0
Light R e = brings R e ≤ per_word R + owes R e

-- in a register, without jumps
pub record Bare (e : ExprContext) : Type 0 where
  pub kind : e.kind ≡ NonReloc
  pub jumps : has_jumps e ≡ false

pub load_most : (R : Resource) (k : ExprKind) → load R k ≤ per_word R
load_most R Nil = omega arith
load_most R True = omega arith
load_most R False = omega arith
load_most R K = omega arith
load_most R KNum = omega arith
load_most R Local = omega arith
load_most R Global = omega arith
load_most R Indexed = omega arith
load_most R Jmp = omega arith
load_most R Relocable = omega arith
load_most R NonReloc = omega arith
load_most R Call = omega arith
load_most R VarArg = omega arith

pub three_or : (R : Resource) (a b : Bool) → three R a ≤ three R (a || b)
three_or R true b = omega arith
three_or R false true = omega arith
three_or R false false = omega arith

pub three_true : (R : Resource) (a b : Bool) → b ≡ true → 3 * per_word R ≤ three R (a || b)
three_true R true b h = omega arith
three_true R false b h = rw h (omega arith)

pub three_most : (R : Resource) (b : Bool) → three R b ≤ 3 * per_word R
three_most R true = omega arith
three_most R false = omega arith

pub brings_most : (R : Resource) (e : ExprContext) → brings R e ≤ 4 * per_word R + owes R e
brings_most R e = omega (arith, load_most R e.kind, three_most R (pending e))

-- without jumps, and no comparison
pub light : (R : Resource) (e : ExprContext) → has_jumps e ≡ false → is_kind Jmp e ≡ false → Light R e
light R e h j = let z : jumps_cost R e ≡ 0 = rw (h, j) refl in omega (arith, load_most R e.kind, z)

pub bare_light : (R : Resource) (e : ExprContext) → Bare e → (owes R e ≤ 0) × Light R e
bare_light R e b = let z : owes R e ≡ 0 = ap (due R) b.kind in (omega (arith, z), light R e b.jumps (rw b.kind refl))

pub nonreloc : (k : ExprKind) → eqb (tag_of k) 10 ≡ true → k ≡ NonReloc
nonreloc Nil h = absurd (let z : ◌≡◌ {A = ℕ} 0 1 = cc in omega arith)
nonreloc True h = absurd (let z : ◌≡◌ {A = ℕ} 0 1 = cc in omega arith)
nonreloc False h = absurd (let z : ◌≡◌ {A = ℕ} 0 1 = cc in omega arith)
nonreloc K h = absurd (let z : ◌≡◌ {A = ℕ} 0 1 = cc in omega arith)
nonreloc KNum h = absurd (let z : ◌≡◌ {A = ℕ} 0 1 = cc in omega arith)
nonreloc Local h = absurd (let z : ◌≡◌ {A = ℕ} 0 1 = cc in omega arith)
nonreloc Global h = absurd (let z : ◌≡◌ {A = ℕ} 0 1 = cc in omega arith)
nonreloc Indexed h = absurd (let z : ◌≡◌ {A = ℕ} 0 1 = cc in omega arith)
nonreloc Jmp h = absurd (let z : ◌≡◌ {A = ℕ} 0 1 = cc in omega arith)
nonreloc Relocable h = absurd (let z : ◌≡◌ {A = ℕ} 0 1 = cc in omega arith)
nonreloc NonReloc h = refl
nonreloc Call h = absurd (let z : ◌≡◌ {A = ℕ} 0 1 = cc in omega arith)
nonreloc VarArg h = absurd (let z : ◌≡◌ {A = ℕ} 0 1 = cc in omega arith)

-- the end of `exp2reg`
abbrev pub settles : ExprContext → ℕ → Step ExprContext
settles e₁ reg = do
  e₂ ← join_jump e₁
  when (has_jumps e₂) (settle e₂ reg)
  return (with_kind NonReloc reg (with_jumps 0 0 e₂))

-- ---- the value

-- it has jumps, or jumps or a comparison's, where the other does
pub record Same (e e₁ : ExprContext) : Type 0 where
  pub has : has_jumps e₁ ≡ has_jumps e
  pub pending : pending e₁ ≡ pending e

pub jumps_cost_same : (R : Resource) {e e₁ : ExprContext} → Same e e₁ → jumps_cost R e₁ ≡ jumps_cost R e
jumps_cost_same R h = ap (three R) h.pending

same : (e : ExprContext) → Same e e
same e = record { has = refl; pending = refl }

-- another kind, neither that of a comparison
pub same_kind : (k : ExprKind) (i : ℕ) (e : ExprContext) → is_kind Jmp (with_kind k i e) ≡ false → is_kind Jmp e ≡ false → Same e (with_kind k i e)
same_kind k i e j h = record { has = refl; pending = ap (λ b. has_jumps e || b) (j ∙ sym h) }

module _ {R : Resource} {cap : ℕ} where
  -- a word whose register is open owes nothing
  pub spends_open : {c pc : ℕ} (e : ExprContext) → Spends R cap c (return (with_kind Relocable pc e)) (owes R) Any
  spends_open e = at_most (spends_return _ tt) (omega arith)

  spends_dv : (k : ExprKind) (e : ExprContext) → e.kind ≡ k → Spends R cap (value R e) (discharge_kind k e) (value R) (Same e)
  unfolding discharge_kind
  spends_dv Nil e p = spends_return e (same e)
  spends_dv True e p = spends_return e (same e)
  spends_dv False e p = spends_return e (same e)
  spends_dv K e p = spends_return e (same e)
  spends_dv KNum e p = spends_return e (same e)
  spends_dv Local e p = at_most (spends_return _ (same_kind NonReloc e.info e refl (rw p refl))) (omega (arith, ap (load R) p))
  spends_dv Global e p = at_most (takes_then (takes_emit _) (λ pc. at_most {d = 0} (spends_return _ (same_kind Relocable pc e refl (rw p refl))) (omega arith))) (omega (arith, ap (load R) p))
  spends_dv Indexed e p = at_most (nothing_then (takes_free_reg e.aux) (λ _. nothing_then (takes_free_reg e.info) (λ _. takes_then (takes_emit _) (λ pc. at_most {d = 0} (spends_return _ (same_kind Relocable pc e refl (rw p refl))) (omega arith))))) (omega (arith, ap (load R) p))
  spends_dv Jmp e p = spends_return e (same e)
  spends_dv Relocable e p = spends_return e (same e)
  spends_dv NonReloc e p = spends_return e (same e)
  spends_dv Call e p = at_most (nothing_then (takes_change_word e.info (λ w. set_c_of w 2)) (λ _. nothing_then takes_code_now (λ code. at_most {d = per_word R} (spends_return _ (same_kind NonReloc _ e refl (rw p refl))) (omega arith)))) (omega (arith, ap (load R) p))
  spends_dv VarArg e p = at_most (nothing_then (takes_change_word e.info (λ w. set_b_of w 2)) (λ _. at_most {d = 0} (spends_return _ (same_kind Relocable e.info e refl (rw p refl))) (omega arith))) (omega arith)

  -- what follows `discharge_vars` may take what its descriptor's value costs
  pub dv_then : (e : ExprContext) (d : ℕ) {B : Type 0} {f : ExprContext → Step B} {ψ : B → ℕ} {Q : B → Type 0} → ((e₁ : ExprContext) → Same e e₁ → Spends R cap (value R e₁ + d) (f e₁) ψ Q) → Spends R cap (value R e + d) (discharge_vars e >>= f) ψ Q
  dv_then e d g = spends_then d (spends_dv e.kind e refl) g

  pub spends_discharge_vars : (e : ExprContext) → Spends R cap (value R e) (discharge_vars e) (owes R) (Same e)
  spends_discharge_vars e = spends_less (spends_dv e.kind e refl) (λ e₁ h. (omega arith, h))

  pub takes_free_expr : (e : ExprContext) → Takes R cap 0 (free_expr e)
  unfolding free_expr
  takes_free_expr e = takes_when (is_kind NonReloc e) (takes_free_reg e.info)

  pub takes_move : (to from : ℕ) → Takes R cap (per_word R) (move to from)
  takes_move to from = then_nothing (takes_emit _) (λ _. takes_skip)

  -- a value that was loaded
  pub gives_loaded : (reg : ℕ) (e : ExprContext) → is_kind Jmp e ≡ false → Gives R cap 0 (return (with_kind NonReloc reg e)) (Same e)
  gives_loaded reg e h = gives_return _ (same_kind NonReloc reg e refl h)

  -- a kind that isn't loaded
  pub gives_kept : {c : ℕ} (e : ExprContext) → Gives R cap c (return e) (Same e)
  gives_kept e = at_most (gives_return e (same e)) (omega arith)

  -- ---- the jumps

  takes_land : (e : ExprContext) (reg final on_false on_true : ℕ) → Takes R cap 0 (land e reg final on_false on_true)
  unfolding land
  takes_land e reg final on_false on_true = nothing_then (takes_patch_list e.f final reg on_false) (λ _. takes_patch_list e.t final reg on_true)

  takes_load_both : (e : ExprContext) (reg : ℕ) → Takes R cap (3 * per_word R) (load_both e reg)
  unfolding load_both
  takes_load_both e reg =
      at_most (takes_then (spends_if {c = per_word R} (is_kind Jmp e) (λ _. at_most (takes_return 0) (omega arith)) (λ _. takes_emit_jump)) (λ over.
      takes_then (takes_code_label reg 0 1) (λ on_false.
      then_nothing (takes_code_label reg 1 0) (λ on_true.
      nothing_then (takes_patch_to_here over) (λ _.
      nothing_then takes_get_label (λ final. takes_land e reg final on_false on_true)))))) (omega arith)

  pub takes_settle : (e : ExprContext) (reg : ℕ) → Takes R cap (3 * per_word R) (settle e reg)
  unfolding settle
  takes_settle e reg = nothing_then takes_code_now (λ code.
      spends_if (need_value (length code) code e.t || need_value (length code) code e.f) (λ _. takes_load_both e reg) (λ _. at_most (nothing_then takes_get_label (λ final. takes_land e reg final final final)) (omega arith)))

  -- only where there are jumps
  pub takes_settled : (b : Bool) {x : Step (Unit {0})} → Takes R cap (3 * per_word R) x → Takes R cap (three R b) (when b x)
  takes_settled true g = g
  takes_settled false g = takes_skip

  -- once more takes nothing
  pub gives_again : (e : ExprContext) → Bare e → Gives R cap 0 (exp2anyreg e) Bare
  unfolding exp2anyreg discharge_kind and_then
  gives_again e b s m l = rw (b.kind, b.jumps) (left _ s m (record { kind = refl; jumps = b.jumps }) (omega arith) refl refl l)
