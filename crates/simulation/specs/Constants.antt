-- Adding a constant to the model's table is including it in the list: the search finds its place, or there is none and it goes to the end. So near and far are the same on both sides.
-- It holds because the entries are the list's, none twice.
use Rattle.std.specs.Prelude.{ℕ, ◌+◌, ◌*◌, ◌≤◌, ◌<◌, ◌^◌, Bool, true, false, ◌≡◌, refl, List, [], ◌∷◌, ◌++◌, length, get_or, ltb, Some, None, Ok, Err}
use Rattle.std.proofs.Common.{sym, ap, ◌∙◌, subst, arith, length-append, ltb-true, ltb-false}
use Rattle.std.proofs.Math.Option.{some}
use Rattle.std.proofs.Math.ListN.{get_or-append}
use Rattle.std.proofs.Math.Seq.{get_or-append_seam}
use Rattle.constants.specs.Entry.{Constant, nil, constant_of, holds, constant_at}
use Rattle.constants.specs.Laws.{holds_true, holds_false, find_at, find_nothing, added_there}
use Rattle.constants.specs.Table.{Out, out, find, added as added_to, Found, Added}
use Rattle.constants.specs.Distinct.{Short, Grew, good_added, good_empty}
use Rattle.constants.specs.declared.Table.{Table}
use Rattle.constants.specs.declared.Val.{Val}
use Rattle.labelled.specs.Table.{place, include}
use Rattle.labelled.specs.Places.{Listed, place_at_most, entry_there, none_before, include_there, include_new}
use Rattle.simulation.specs.Tabled.{Tabled}

some_inj : (a b : Constant) → some a ≡ some b → a ≡ b
some_inj a b e = cc

pub tabled_empty : (ks ws pool : List ℕ) → Tabled [] (record { count = 0; used = 0 }) ks ws pool
tabled_empty ks ws pool = record { good = good_empty ks ws pool; count = refl; few = omega arith; bytes = omega arith; entries = λ i l. absurd (omega arith) }

module _ {t : List Constant} {b : Table} {ks ws pool : List ℕ} (h : Tabled t b ks ws pool) (chunk : List ℕ) (v : Val) where
  abbrev c : Constant
  c = constant_of chunk v

  abbrev f : Found
  f = find (holds pool chunk v) b.count ks ws

  -- the entry of a listed constant
  pub entry_of : Listed c t → constant_at pool ks ws (place c t) ≡ some c
  entry_of l = h.entries (place c t) l ∙ ap some (entry_there c t l)

  -- an entry that is the constant stands at its place
  entry_place : (i : ℕ) → i < length t → constant_at pool ks ws i ≡ some c → (i ≡ place c t) × Listed c t
  entry_place i l e =
      let is : get_or t i nil ≡ c = some_inj (get_or t i nil) c (sym (h.entries i l) ∙ e) in
      let not_later : i < place c t → ⊥ = λ z. none_before c t i z is in
      let l' : Listed c t = go (ltb i (place c t)) refl not_later in
      (same_place l' (ltb (place c t) i) refl (go (ltb i (place c t)) refl not_later) not_later, l')
    where
      go : (x : Bool) → ltb i (place c t) ≡ x → (i < place c t → ⊥) → Listed c t
      go true z n = absurd (n (ltb-true i (place c t) z))
      go false z n = omega (arith, ltb-false i (place c t) z)

      same_place : Listed c t → (x : Bool) → ltb (place c t) i ≡ x → Listed c t → (i < place c t → ⊥) → i ≡ place c t
      same_place l' true z k n = absurd (h.good.differ (place c t) i (ltb-true (place c t) i z) (omega (arith, h.count)) (entry_of l' ∙ sym e))
      same_place l' false z k n = least (ltb i (place c t)) refl
        where
          least : (y : Bool) → ltb i (place c t) ≡ y → i ≡ place c t
          least true y = absurd (n (ltb-true i (place c t) y))
          least false y = omega (arith, ltb-false i (place c t) y, ltb-false (place c t) i z)

  -- what the search finds is the constant's place
  pub found_place : (i : ℕ) → f ≡ Some i → (i ≡ place c t) × Listed c t
  found_place i e = let q = find_at (holds pool chunk v) b.count ks ws i e in
      entry_place i (omega (arith, q.below, h.count)) (holds_true pool chunk v (get_or ks i 0) (get_or ws i 0) q.meets)

  pub found_none : f ≡ None → place c t ≡ length t
  found_none e = go (ltb (place c t) (length t)) refl
    where
      go : (x : Bool) → ltb (place c t) (length t) ≡ x → place c t ≡ length t
      go false z = omega (arith, ltb-false (place c t) (length t) z, place_at_most c t)
      go true z = let l : place c t < length t = ltb-true (place c t) (length t) z in
          absurd (holds_false pool chunk v (get_or ks (place c t) 0) (get_or ws (place c t) 0) (find_nothing (holds pool chunk v) b.count ks ws e (place c t) (omega (arith, h.count)) (omega (arith, h.count, h.good.kinds_fit)) (omega (arith, h.count, h.good.values_fit))) (entry_of l))

  -- fewer than 2 ^ 48 bytes are in use
  few_bytes : b.used < 2 ^ 48
  few_bytes = let z : b.count * 65535 ≤ 262144 * 65535 = omega (arith, h.few) in omega (arith, h.bytes)

  -- `add_constant` gives the constant's place, in a table that includes it
  abbrev pub AddedAs : Out → Type 0
  AddedAs o = AddedIs o.answer o.kinds o.values o.pool
    where
      AddedIs : Added → List ℕ → List ℕ → List ℕ → Type 0
      AddedIs (Ok (i, b')) ks' ws' pool' = (i ≡ place c t) × Tabled (include c t) b' ks' ws' pool'
      AddedIs (Err k) ks' ws' pool' = Unit {0}

  pub tabled_added : Short chunk v → (i : ℕ) (b' : Table) (ks' ws' pool' : List ℕ) → added_to chunk b v ks ws pool ≡ out (Ok (i, b')) ks' ws' pool' → (i ≡ place c t) × Tabled (include c t) b' ks' ws' pool'
  tabled_added short i b' ks' ws' pool' e = search f refl
    where
      new : place c t ≡ length t → Grew chunk b v ks ws pool i b' ks' ws' pool' → (i ≡ place c t) × Tabled (include c t) b' ks' ws' pool'
      new n g = rw (include_new c t n) (
        i_is ∙ h.count ∙ sym n,
        record {
          good = g.good;
          count = count_is ∙ omega (arith, h.count, length-append t (c ∷ []));
          few = g.few h.few;
          bytes = g.bytes h.bytes;
          entries = λ j l. entry j (ltb j (length t)) refl (omega (arith, l, length-append t (c ∷ [])));
        },
      )
        where
          old : i < b.count → ⊥
          old l = let q = entry_place i (omega (arith, h.count)) (sym (g.unchanged i l) ∙ g.there) in omega (arith, q.1, n)

          i_is : i ≡ b.count
          i_is = go (ltb i b.count) refl
            where
              go : (x : Bool) → ltb i b.count ≡ x → i ≡ b.count
              go true z = absurd (old (ltb-true i b.count z))
              go false z = omega (arith, ltb-false i b.count z, g.below, g.at_most)

          count_is : b'.count ≡ b.count + 1
          count_is = omega (arith, i_is, g.below, g.at_most)

          entry : (j : ℕ) (x : Bool) → ltb j (length t) ≡ x → j < length t + 1 → constant_at pool' ks' ws' j ≡ some (get_or (t ++ (c ∷ [])) j nil)
          entry j true z l = let k : j < length t = ltb-true j (length t) z in
              g.unchanged j (omega (arith, h.count)) ∙ h.entries j k ∙ ap some (sym (get_or-append t (c ∷ []) nil j k))
          entry j false z l = let k : j ≡ length t = omega (arith, ltb-false j (length t) z) in
              let k' : j ≡ i = k ∙ sym h.count ∙ sym i_is in
              let new_one : constant_at pool' ks' ws' j ≡ some c = rw k' g.there in
              let last : get_or (t ++ (c ∷ [])) j nil ≡ c = rw k (get_or-append_seam t c [] nil) in
              new_one ∙ ap some (sym last)

      search : (r : Found) → f ≡ r → (i ≡ place c t) × Tabled (include c t) b' ks' ws' pool'
      search (Some j) z =
          let q = found_place j z in
          let y : out (Ok (j, b)) ks ws pool ≡ out (Ok (i, b')) ks' ws' pool' = sym (added_there chunk b v ks ws pool z refl) ∙ e in
          subst (λ (o : Out). AddedAs o) y (q.0, rw (include_there c t q.1) h)
      search None z = new (found_none z) (good_added chunk b v ks ws pool e h.good few_bytes short)
