-- What operands take: nil, a truth value or a number may become a constant or go to a register; a number whose constant lies above 255 is listed and then loaded, and the second time it is found, so it costs one entry and not two.
-- What rests on something that a must-fail edit breaks stands in proofs/Operands.antt.
use Rattle.std.specs.Prelude.{ℕ, ◌+◌, ◌<◌, Bool, ◌≡◌, length, get_or, set, Some, None, Ok, Err}
use Rattle.std.proofs.Math.Bool.{true, false}
use Rattle.std.proofs.Math.Path.{refl, subst}
use Rattle.std.proofs.Common.{sym, ap, ◌∙◌, arith, length-set}
use mathlib.Core.List.{List, []}
use Rattle.std.proofs.Math.Option.{some}
use Rattle.std.proofs.Math.Seq.{get_or-set_same}
use Rattle.constants.specs.Entry.{number, entry_of, holds}
use Rattle.constants.specs.Table.{added as added_to, append, out, find, full, Found, Added}
use Rattle.constants.specs.Laws.{holds_false, find_nothing, not_full, added_there, added_full, added_new}
use Rattle.constants.specs.Distinct.{Kept, kept_added}
use Rattle.constants.specs.declared.Table.{Table}
use Rattle.constants.specs.declared.Val.{Val}
use Rattle.constants.specs.declared.Val.TheVariants as val
use Rattle.model.specs.declared.ExprKind.TheVariants.{K, KNum, NonReloc}
use Rattle.model.specs.declared.ExprContext.{ExprContext}
use Rattle.model.specs.declared.State.{State}
use Rattle.model.specs.Descriptor.{with_kind, has_jumps}
use Rattle.model.specs.Steps.{Buffers, and_then, return}
use Rattle.model.specs.Emission.{with_table, add_constant}
use Rattle.model.specs.Discharge.{discharge_kind, load_kind, discharge2reg, rk_kind}
use Rattle.bound.specs.Takes.{Resource, per_word, per_constant, used, Room, Leaves, Spends, later, at_most, spends_less, then_nothing, spends_return, gives_return, used_same, room_same}
use Rattle.bound.specs.Emission.{Fair, takes_emit}
use Rattle.bound.specs.Discharge.{load, due, jumps_cost, owes, brings, Light, light, Bare, bare_light, Same, same_kind, gives_again}

-- ---- a number that was added is found

-- the entries of an answer
abbrev count_in : Added → ℕ
count_in (Ok (i, t)) = t.count
count_in (Err x) = 0

-- 1 for an answer that isn't a refusal
abbrev is_at : Added → ℕ
is_at (Ok (i, t)) = 1
is_at (Err x) = 0

module _ (e : ExprContext) where
  abbrev num : Val
  num = val.Num e.nval e.bits

  -- the last entry
  new_found : (count : ℕ) (ks vs pool : List ℕ) → count < length ks → count < length vs → (j : ℕ) × (find (holds pool [] num) (count + 1) (set ks count 3) (set vs count e.bits) ≡ Some j)
  unfolding entry_of
  new_found count ks vs pool k v = go (find (holds pool [] num) (count + 1) (set ks count 3) (set vs count e.bits)) refl
    where
      is_number : entry_of pool (get_or (set ks count 3) count 0) (get_or (set vs count e.bits) count 0) ≡ some (number e.bits)
      is_number = rw (get_or-set_same ks count 3 0 k, get_or-set_same vs count e.bits 0 v) refl

      go : (f : Found) → find (holds pool [] num) (count + 1) (set ks count 3) (set vs count e.bits) ≡ f → (j : ℕ) × (find (holds pool [] num) (count + 1) (set ks count 3) (set vs count e.bits) ≡ Some j)
      go (Some j) h = (j, h)
      go None h = absurd (holds_false pool [] num _ _ (find_nothing (holds pool [] num) (count + 1) (set ks count 3) (set vs count e.bits) h count (omega arith) (omega (arith, length-set ks count 3, k)) (omega (arith, length-set vs count e.bits, v))) is_number)

  pub listed : (t : Table) (ks vs pool : List ℕ) (i : ℕ) (t' : Table) (ks' vs' pool' : List ℕ) → added_to [] t num ks vs pool ≡ out (Ok (i, t')) ks' vs' pool' → (j : ℕ) × (find (holds pool' [] num) t'.count ks' vs' ≡ Some j)
  unfolding append
  listed t ks vs pool i t' ks' vs' pool' h = search (find (holds pool [] num) t.count ks vs) refl
    where
      Goal : Type 0
      Goal = (j : ℕ) × (find (holds pool' [] num) t'.count ks' vs' ≡ Some j)

      unlisted : find (holds pool [] num) t.count ks vs ≡ None → (b : Bool) → full t.count ks vs ≡ b → Goal
      unlisted f true g = absurd (let z : ◌≡◌ {A = ℕ} 0 1 = ap (λ o. is_at o.answer) (sym (added_full [] t num ks vs pool f refl g refl) ∙ h) in omega (arith, z))
      unlisted f false g =
          let w : out (Ok (t.count, record { count = t.count + 1; used = t.used + 0 })) (set ks t.count 3) (set vs t.count e.bits) pool ≡ out (Ok (i, t')) ks' vs' pool' = sym (added_new [] t num ks vs pool f refl g refl refl) ∙ h in
          let a : t.count + 1 ≡ t'.count = ap (λ o. count_in o.answer) w in
          let b : set ks t.count 3 ≡ ks' = ap (λ o. o.kinds) w in
          let c : set vs t.count e.bits ≡ vs' = ap (λ o. o.values) w in
          let d : pool ≡ pool' = ap (λ o. o.pool) w in
          rw (sym a, sym b, sym c, sym d) (new_found t.count ks vs pool (not_full t.count ks vs g).0 (not_full t.count ks vs g).1)

      search : (f : Found) → find (holds pool [] num) t.count ks vs ≡ f → Goal
      search None f = unlisted f (full t.count ks vs) refl
      search (Some j) f =
          let w : out (Ok (j, t)) ks vs pool ≡ out (Ok (i, t')) ks' vs' pool' = sym (added_there [] t num ks vs pool f refl) ∙ h in
          let a : t.count ≡ t'.count = ap (λ o. count_in o.answer) w in
          let b : ks ≡ ks' = ap (λ o. o.kinds) w in
          let c : vs ≡ vs' = ap (λ o. o.values) w in
          let d : pool ≡ pool' = ap (λ o. o.pool) w in
          (j, rw (sym a, sym b, sym c, sym d) f)

-- ---- a number whose constant lies above 255

-- the descriptor of a number, by itself
abbrev pub numeral : ExprContext → ExprContext
numeral e = with_kind KNum e.info e

pub numeral_same : (e : ExprContext) → e.kind ≡ KNum → e ≡ numeral e
numeral_same e p = ap (λ k. with_kind k e.info e) p

module _ {R : Resource} {cap : ℕ} where
  -- loaded where it is listed
  pub far_load : (e : ExprContext) (reg : ℕ) (s : State) (m : Buffers) (j : ℕ) → find (holds m.pool [] (num e)) s.table.count m.kinds m.values ≡ Some j → Room R cap m → Leaves R cap (per_word R) (used R s) s.at s.line (λ e₁. 0) (Same (numeral e)) (discharge2reg (numeral e) reg s m)
  unfolding discharge2reg discharge_kind load_kind add_constant and_then
  far_load e reg s m j f l = rw (added_there [] s.table (num e) m.kinds m.values m.pool f refl)
      (later (then_nothing (takes_emit _) (λ _. gives_return (with_kind NonReloc reg (numeral e)) (same_kind NonReloc reg (numeral e) refl refl)) (with_table s.table s) m l) (omega (arith, used_same R s (with_table s.table s) refl refl)) refl refl)

-- listed, and then an operand or loaded
module _ (R : Resource) (cap : ℕ) (e : ExprContext) (p : e.kind ≡ KNum) (h : has_jumps e ≡ false) (s : State) (m : Buffers) (l : Room R cap m) where
  abbrev Adding : Added → List ℕ → List ℕ → List ℕ → Type 0
  Adding r ks vs pool = added_to [] s.table (num e) m.kinds m.values m.pool ≡ out r ks vs pool

  pub number_brings : brings R e ≡ per_word R + per_constant R
  number_brings = let z : jumps_cost R e ≡ 0 = rw (p, h) refl in omega (arith, z, ap (due R) p, ap (load R) p)

  module _ (i : ℕ) (t : Table) (ks vs pool : List ℕ) (q : Adding (Ok (i, t)) ks vs pool) (f : Fair R cap s (per_constant R) (Ok (i, t))) where
    abbrev m₁ : Buffers
    m₁ = record { code = m.code; lines = m.lines; kinds = ks; values = vs; pool = pool }

    pub room : Room R cap m₁
    room = let k : Kept m.kinds m.values m.pool t ks vs pool = kept_added [] s.table (num e) m.kinds m.values m.pool q in room_same R cap m m₁ refl refl k.kinds_length k.values_length k.pool_length l

module _ {R : Resource} {cap : ℕ} where
  -- ---- operands

  pub spends_k : (k : ℕ) (e : ExprContext) → has_jumps e ≡ false → Spends R cap 0 (return (with_kind K k e)) (owes R) (Light R)
  spends_k k e h = at_most (spends_return _ (light R (with_kind K k e) h refl)) (omega arith)

  pub rk_again : (e : ExprContext) → Bare e → Spends R cap 0 (rk_kind e.kind e) (owes R) (Light R)
  unfolding rk_kind
  rk_again e b = subst (λ k. Spends R cap 0 (rk_kind k e) (owes R) (Light R)) (sym b.kind) (spends_less (gives_again e b) (bare_light R))
