-- What operands take: nil, a truth value or a number may become a constant or go to a register; a number whose constant lies above 255 is listed and then loaded, and the second time it is found, so it costs one entry and not two.
-- ---- a number that was added is found
use Rattle.std.specs.Prelude.{ℕ, ◌+◌, max, Bool, ◌≡◌, leb, Some, Ok, Err}
use Rattle.std.proofs.Math.Bool.{true, false}
use Rattle.std.proofs.Math.Path.{refl, subst}
use Rattle.std.proofs.Common.{sym, ap, ◌∙◌, arith}
use mathlib.Core.List.{List, []}
use Rattle.refusals.specs.declared.Refusal.TheVariants.{Registers}
use Rattle.instructions.specs.Limits.{max_index_rk, max_stack}
use Rattle.constants.specs.Entry.{holds}
use Rattle.constants.specs.Table.{added as added_to, out, find, Added}
use Rattle.constants.specs.declared.Table.{Table}
use Rattle.constants.specs.declared.Val.{Val}
use Rattle.constants.specs.declared.Val.TheVariants as val
use Rattle.model.specs.declared.ExprKind.{ExprKind}
use Rattle.model.specs.declared.ExprKind.TheVariants.{Nil, True, False, K, KNum, Local, Global, Indexed, Jmp, Relocable, NonReloc, Call, VarArg}
use Rattle.model.specs.declared.ExprContext.{ExprContext}
use Rattle.model.specs.declared.State.{State}
use Rattle.model.specs.Descriptor.{with_kind, has_jumps}
use Rattle.model.specs.Steps.{Buffers, Result, done, refused, Step, and_then, ◌>>=◌, return}
use Rattle.model.specs.Emission.{with_table, with_free, with_frame, stored_in, add_constant}
use Rattle.model.specs.Discharge.{discharge_kind, discharge_vars, free_expr, number_constant, exp2reg, exp2nextreg, exp2anyreg, exp2val, small, near, rk_kind, exp2rk}
use Rattle.labelled.specs.Machine.{pick}
use Rattle.simulation.specs.Registers.{reserve_is, alloc_is}
use Rattle.bound.specs.Takes.{Resource, per_word, per_constant, used, Room, Leaves, left, none, Spends, Takes, later, at_most, not_wanting, spends_less, then_leaves, gives_then, takes_then, nothing_then, takes_get, spends_if, used_same}
use Rattle.bound.specs.Emission.{price, Fair}
use Rattle.bound.proofs.Emission.{fair_added, takes_add_constant}
use Rattle.bound.specs.Discharge.{due, jumps_cost, owes, brings, Light, light, bare_light, jumps_cost_same, dv_then}
use Rattle.bound.proofs.Discharge.{gives_settled, gives_exp2anyreg}
use Rattle.bound.specs.Operands.{far_load, listed, number_brings, numeral, numeral_same, rk_again, room, spends_k}

module _ (e : ExprContext) where
  abbrev num : Val
  num = val.Num e.nval e.bits

module _ {R : Resource} {cap : ℕ} where
  far_register : (e : ExprContext) (s : State) (m : Buffers) (j : ℕ) → find (holds m.pool [] (num e)) s.table.count m.kinds m.values ≡ Some j → has_jumps e ≡ false → Room R cap m → Leaves R cap (per_word R) (used R s) s.at s.line (owes R) (Light R) (exp2anyreg (numeral e) s m)
  unfolding exp2anyreg exp2nextreg exp2reg discharge_kind free_expr and_then
  far_register e s m j f h l = rw (alloc_is s m, reserve_is 1 s m) (go (leb (s.free + 1) max_stack))
    where
      s₁ : State
      s₁ = with_free (s.free + 1) (with_frame (max s.frame (s.free + 1)) s)

      go : (b : Bool) → Leaves R cap (per_word R) (used R s) s.at s.line (owes R) (Light R) (and_then (and_then (pick b (done (tt {0}) s₁ m) (refused Registers m)) (λ _ s₂ m₂. done s.free s₂ m₂)) (λ reg. exp2reg (numeral e) reg))
      go false = none Registers m (λ k. not_wanting R Registers (omega arith))
      go true = later (then_leaves 0 (far_load e s.free s₁ m j f l) (λ e₁ s₂ m₂ same p q r.
          later (spends_less (gives_settled (numeral e) e₁ s.free same) (bare_light R) s₂ m₂ r) (let z : jumps_cost R (numeral e) ≡ 0 = rw h refl in omega (arith, z)) p q)) (omega (arith, used_same R s s₁ refl refl)) refl refl

-- listed, and then an operand or loaded
module _ (R : Resource) (cap : ℕ) (e : ExprContext) (p : e.kind ≡ KNum) (h : has_jumps e ≡ false) (s : State) (m : Buffers) (l : Room R cap m) where
  abbrev Brought : Result ExprContext → Type 0
  Brought r = Leaves R cap (brings R e) (used R s) s.at s.line (owes R) (Light R) r

  abbrev Adding : Added → List ℕ → List ℕ → List ℕ → Type 0
  Adding r ks vs pool = added_to [] s.table (num e) m.kinds m.values m.pool ≡ out r ks vs pool

  module _ (i : ℕ) (t : Table) (ks vs pool : List ℕ) (q : Adding (Ok (i, t)) ks vs pool) (f : Fair R cap s (per_constant R) (Ok (i, t))) where
    abbrev m₁ : Buffers
    m₁ = record { code = m.code; lines = m.lines; kinds = ks; values = vs; pool = pool }

    near_or_far : (b : Bool) → Brought ((elim b as (λ (_ : Bool). Step ExprContext) [ true ↦ return (with_kind K i e) | false ↦ exp2anyreg e ]) (with_table t s) m₁)
    near_or_far true = left (with_kind K i e) (with_table t s) m₁ (light R (with_kind K i e) h refl) (omega (arith, f, number_brings R cap e p h s m l)) refl refl (room R cap e p h s m l i t ks vs pool q f)
    near_or_far false =
        let found = listed e s.table m.kinds m.values m.pool i t ks vs pool q in
        later (subst (λ y. Leaves R cap (per_word R) (used R (with_table t s)) s.at s.line (owes R) (Light R) (exp2anyreg y (with_table t s) m₁)) (sym (numeral_same e p)) (far_register e (with_table t s) m₁ found.0 found.1 h (room R cap e p h s m l i t ks vs pool q f))) (omega (arith, f, number_brings R cap e p h s m l)) refl refl

  brought : (r : Added) (ks vs pool : List ℕ) → Adding r ks vs pool → Fair R cap s (per_constant R) r → Brought (and_then (stored_in s m (out r ks vs pool)) (λ k. near e k))
  unfolding near and_then
  brought (Err x) ks vs pool q f = none x _ (λ k. f (omega (arith, k, number_brings R cap e p h s m l)))
  brought (Ok (i, t)) ks vs pool q f = near_or_far i t ks vs pool q f (leb i max_index_rk)

module _ {R : Resource} {cap : ℕ} where
  spends_number : (e : ExprContext) → e.kind ≡ KNum → has_jumps e ≡ false → Spends R cap (brings R e) (number_constant e >>= (λ k. near e k)) (owes R) (Light R)
  unfolding add_constant
  spends_number e p h s m l = brought R cap e p h s m l _ _ _ _ refl (fair_added cap s m R l [] (num e))

  spends_register : (e : ExprContext) → Spends R cap (brings R e) (exp2anyreg e) (owes R) (Light R)
  spends_register e = spends_less (gives_exp2anyreg e) (bare_light R)

  spends_small : (e : ExprContext) {constant : Step ℕ} → has_jumps e ≡ false → Takes R cap (owes R e) constant → Spends R cap (brings R e) (small e constant) (owes R) (Light R)
  unfolding small
  spends_small e h g = nothing_then takes_get (λ s. spends_if (leb s.table.count max_index_rk) (λ _. at_most (takes_then g (λ k. spends_k k e h)) (omega arith)) (λ _. spends_register e))

  spends_near : (e : ExprContext) (k : ℕ) → has_jumps e ≡ false → Spends R cap (brings R e) (near e k) (owes R) (Light R)
  unfolding near
  spends_near e k h = spends_if (leb k max_index_rk) (λ _. at_most (spends_k k e h) (omega arith)) (λ _. spends_register e)

  -- nil or a truth value
  takes_owed : (e : ExprContext) (k : ExprKind) (v : Val) → e.kind ≡ k → price R v ≡ due R k → Takes R cap (owes R e) (add_constant [] v)
  takes_owed e k v p q = at_most (takes_add_constant [] v) (omega (arith, q, ap (due R) p))

  spends_rk_kind : (k : ExprKind) (e : ExprContext) → e.kind ≡ k → has_jumps e ≡ false → Spends R cap (brings R e) (rk_kind k e) (owes R) (Light R)
  unfolding rk_kind
  spends_rk_kind Nil e p h = spends_small e h (takes_owed e Nil val.Nil p refl)
  spends_rk_kind True e p h = spends_small e h (takes_owed e True (val.Bool true) p refl)
  spends_rk_kind False e p h = spends_small e h (takes_owed e False (val.Bool false) p refl)
  spends_rk_kind K e p h = spends_near e e.info h
  spends_rk_kind KNum e p h = spends_number e p h
  spends_rk_kind Local e p h = spends_register e
  spends_rk_kind Global e p h = spends_register e
  spends_rk_kind Indexed e p h = spends_register e
  spends_rk_kind Jmp e p h = spends_register e
  spends_rk_kind Relocable e p h = spends_register e
  spends_rk_kind NonReloc e p h = spends_register e
  spends_rk_kind Call e p h = spends_register e
  spends_rk_kind VarArg e p h = spends_register e

  pub spends_exp2rk : (e : ExprContext) → Spends R cap (brings R e) (exp2rk e) (owes R) (Light R)
  unfolding exp2rk exp2val
  spends_exp2rk e = go (has_jumps e) refl
    where
      go : (b : Bool) → has_jumps e ≡ b → Spends R cap (brings R e) {A = ExprContext} ((elim b as (λ (_ : Bool). Step ExprContext) [ true ↦ exp2anyreg e | false ↦ discharge_vars e ]) >>= (λ e₁. rk_kind e₁.kind e₁)) (owes R) (Light R)
      go true j = at_most (gives_then (gives_exp2anyreg e) (λ e₁ b. rk_again e₁ b)) (omega arith)
      go false j = dv_then e (jumps_cost R e) (λ e₁ h. at_most (spends_rk_kind e₁.kind e₁ refl (h.has ∙ j)) (omega (arith, jumps_cost_same R h)))

  -- what follows `exp2val` may take what its descriptor costs; a register that was taken costs a word again
  pub val_then : (e : ExprContext) (d : ℕ) {B : Type 0} {f : ExprContext → Step B} {ψ : B → ℕ} {Q : B → Type 0} → ((e₁ : ExprContext) → Spends R cap (brings R e₁ + d) (f e₁) ψ Q) → Spends R cap (brings R e + per_word R + d) (exp2val e >>= f) ψ Q
  unfolding exp2val
  val_then e d {B} {f} {ψ} {Q} g = go (has_jumps e)
    where
      go : (b : Bool) → Spends R cap (brings R e + per_word R + d) {A = B} ((elim b as (λ (_ : Bool). Step ExprContext) [ true ↦ exp2anyreg e | false ↦ discharge_vars e ]) >>= f) ψ Q
      go true = at_most (gives_then (gives_exp2anyreg e) (λ e₁ b. at_most {d = per_word R + d} (g e₁) (omega (arith, (bare_light R e₁ b).0, (bare_light R e₁ b).1)))) (omega arith)
      go false = at_most (dv_then e (jumps_cost R e + d) (λ e₁ h. at_most (g e₁) (omega (arith, jumps_cost_same R h)))) (omega arith)
