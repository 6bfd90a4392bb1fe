-- What a constant table is and stays: no two of its entries are the same constant. `added` finds the constant or puts it behind the others, and changes nothing else, since a search found it nowhere and a text's bytes go behind those in use.
-- Assumes nothing.
use Rattle.std.specs.Prelude.{◌≡◌, refl, Bool, true, false, List, [], ◌∷◌, ℕ, zero, suc, ◌+◌, ◌*◌, ◌/◌, ◌%◌, ◌^◌, ◌≤◌, ◌<◌, length, get_or, take, drop, set, leb, None, Some, Ok, Err}
use Rattle.std.proofs.Common.{sym, ap, ◌∙◌, subst, append_assoc, zero-add, suc-add, mod-eq_of_lt, arith, length-set, take-take, drop_at, length-take-le, get_or-set_same, get_or-set_other, leb-true, below_more}
use Rattle.std.proofs.Math.Option.{some}
use Rattle.std.proofs.lemmas.List.Edits.{sets, sets-eq}
use Rattle.std.proofs.Math.Seq.{length-sets, take-nil, take-append_seam}
use Rattle.std.proofs.lemmas.List.{take-set-le}
use Rattle.refusals.specs.declared.Refusal.{Refusal}
use Rattle.constants.specs.declared.Val.{Val}
use Rattle.constants.specs.declared.Val.TheVariants as val
use Rattle.constants.specs.declared.Table.{Table}
use Rattle.constants.specs.Entry.{Constant, part, constant_of, entry_of, constant_at, Inside, holds}
use Rattle.instructions.specs.Limits.{max_constants}
use Rattle.constants.specs.Table.{Out, out, find, full, stored, stored_text, append, added, Found, Added}
use Rattle.constants.specs.Laws.{holds_true, holds_false, find_at, find_nothing, not_full, not_most, added_there, added_full, added_new}

-- ---- what is said

-- a well-formed table
pub record Good (t : Table) (ks ws pool : List ℕ) : Type 0 where
  pub kinds_fit : t.count ≤ length ks
  pub values_fit : t.count ≤ length ws
  pub texts_fit : t.used ≤ length pool
  pub constants : (i : ℕ) → i < t.count → (c : Constant) × (constant_at pool ks ws i ≡ some c)
  pub texts : (i : ℕ) → i < t.count → get_or ks i 0 ≡ 4 → Inside t.used (get_or ws i 0)
  pub differ : (i j : ℕ) → i < j → j < t.count → constant_at pool ks ws i ≡ constant_at pool ks ws j → ⊥

-- a text is shorter than 65,536 bytes
abbrev pub Short : List ℕ → Val → Type 0
Short chunk val.Nil = Unit {0}
Short chunk (val.Bool b) = Unit {0}
Short chunk (val.Num x b) = Unit {0}
Short chunk (val.Str s n) = length (part chunk s n) < 65536

-- the constant v is entry i of a table that has the entries of t, and at most one more
pub record Grew (chunk : List ℕ) (t : Table) (v : Val) (ks ws pool : List ℕ) (i : ℕ) (t' : Table) (ks' ws' pool' : List ℕ) : Type 0 where
  pub good : Good t' ks' ws' pool'
  pub below : i < t'.count
  pub there : constant_at pool' ks' ws' i ≡ some (constant_of chunk v)
  pub unchanged : (j : ℕ) → j < t.count → constant_at pool' ks' ws' j ≡ constant_at pool ks ws j
  pub at_least : t.count ≤ t'.count
  pub at_most : t'.count ≤ t.count + 1
  pub few : t.count ≤ max_constants → t'.count ≤ max_constants
  pub bytes : t.used ≤ t.count * 65535 → t'.used ≤ t'.count * 65535

-- lengths are as before, and so is what lies behind the table's entries and behind its bytes
pub record Kept (ks ws pool : List ℕ) (t' : Table) (ks' ws' pool' : List ℕ) : Type 0 where
  pub kinds_length : length ks' ≡ length ks
  pub values_length : length ws' ≡ length ws
  pub pool_length : length pool' ≡ length pool
  pub kinds_behind : (j : ℕ) → t'.count ≤ j → get_or ks' j 0 ≡ get_or ks j 0
  pub values_behind : (j : ℕ) → t'.count ≤ j → get_or ws' j 0 ≡ get_or ws j 0
  pub pool_behind : (j : ℕ) → t'.used ≤ j → get_or pool' j 0 ≡ get_or pool j 0

-- the tables that begin empty and grow
pub data Grown : Table → List ℕ → List ℕ → List ℕ → Type 0 where
  empty : (ks ws pool : List ℕ) → length pool < 2 ^ 48 → Grown (record { count = 0; used = 0 }) ks ws pool
  grow : {t : Table} {ks ws pool : List ℕ} (chunk : List ℕ) (v : Val) (i : ℕ) {t' : Table} {ks' ws' pool' : List ℕ} → Grown t ks ws pool → Short chunk v
      → added chunk t v ks ws pool ≡ out (Ok (i, t')) ks' ws' pool' → Grown t' ks' ws' pool'

-- ---- bytes stored in a pool

sets_behind : (l : List ℕ) (i : ℕ) (vs : List ℕ) (j : ℕ) → i + length vs ≤ j → get_or (sets l i vs) j 0 ≡ get_or l j 0
sets_behind l i [] j h = refl
sets_behind l i (a ∷ vs) j h = sets_behind (set l i a) (suc i) vs j (omega arith) ∙ get_or-set_other l i j a 0 (λ e. omega arith)

take_sets : (n : ℕ) (l : List ℕ) (i : ℕ) (vs : List ℕ) → n ≤ i → take n (sets l i vs) ≡ take n l
take_sets n l i [] h = refl
take_sets n l i (a ∷ vs) h = take_sets n (set l i a) (suc i) vs (omega arith) ∙ take-set-le n l i a h

part_sets : (l : List ℕ) (i : ℕ) (vs : List ℕ) → i + length vs ≤ length l → part (sets l i vs) i (length vs) ≡ vs
part_sets l i vs h =
    let m : length (take i l) ≡ i = length-take-le i l (omega arith) in
    rw (sets-eq vs l i h, append_assoc, drop_at) (take-append_seam vs (drop (i + length vs) l))

part_of_front : (a n : ℕ) (l : List ℕ) → part l a n ≡ drop a (take (a + n) l)
part_of_front zero n l = rw zero-add
part_of_front (suc a) n [] = rw (take-nil (suc a + n), take-nil n)
part_of_front (suc a) n (x ∷ l) = rw suc-add (part_of_front a n l)

part_kept : (l m : List ℕ) (u a n : ℕ) → take u l ≡ take u m → a + n ≤ u → part l a n ≡ part m a n
part_kept l m u a n e h =
    part_of_front a n l ∙ ap (drop a) (sym (take-take (a + n) u l h) ∙ ap (take (a + n)) e ∙ take-take (a + n) u m h) ∙ sym (part_of_front a n m)

-- an entry whose text, if it has one, lies in bytes that two pools share is the same in both
entry_kept : (pool pool' : List ℕ) (u k w : ℕ) → take u pool' ≡ take u pool → (k ≡ 4 → Inside u w) → entry_of pool' k w ≡ entry_of pool k w
unfolding entry_of
entry_kept pool pool' u zero w e h = refl
entry_kept pool pool' u (suc zero) w e h = refl
entry_kept pool pool' u (suc (suc zero)) w e h = refl
entry_kept pool pool' u (suc (suc (suc zero))) w e h = refl
entry_kept pool pool' u (suc (suc (suc (suc zero)))) w e h = rw (part_kept pool' pool u (w / 65536) (w % 65536) e (h refl))
entry_kept pool pool' u (suc (suc (suc (suc (suc k))))) w e h = refl

-- ---- a new entry, of kind k and value w, with `bytes` behind those in use

-- what makes it the constant v
record Made (chunk : List ℕ) (t : Table) (v : Val) (pool : List ℕ) (k w : ℕ) (bytes : List ℕ) : Type 0 where
  pub fits : t.used + length bytes ≤ length pool
  pub short : length bytes ≤ 65535
  pub inside : k ≡ 4 → Inside (t.used + length bytes) w
  pub is : entry_of (sets pool t.used bytes) k w ≡ some (constant_of chunk v)

module _ (chunk : List ℕ) (t : Table) (v : Val) (ks ws pool : List ℕ) where
  -- what an answer says of the lists that come with it
  abbrev Right : Added → List ℕ → List ℕ → List ℕ → Type 0
  Right (Ok (i, t')) ks' ws' pool' = Kept ks ws pool t' ks' ws' pool' × (Good t ks ws pool → t.used < 2 ^ 48 → Short chunk v → Grew chunk t v ks ws pool i t' ks' ws' pool')
  Right (Err r) ks' ws' pool' = (ks' ≡ ks) × (ws' ≡ ws) × (pool' ≡ pool)

  abbrev RightOut : Out → Type 0
  RightOut o = Right o.answer o.kinds o.values o.pool

  right_found : (i : ℕ) → find (holds pool chunk v) t.count ks ws ≡ Some i → RightOut (out (Ok (i, t)) ks ws pool)
  right_found i e =
      let f = find_at (holds pool chunk v) t.count ks ws i e in (
        record { kinds_length = refl; values_length = refl; pool_length = refl; kinds_behind = λ j h. refl; values_behind = λ j h. refl; pool_behind = λ j h. refl },
        λ g small short. record { good = g; below = f.below; there = holds_true pool chunk v (get_or ks i 0) (get_or ws i 0) f.meets; unchanged = λ j h. refl; at_least = omega arith; at_most = omega arith; few = λ z. z; bytes = λ z. z },
      )

  module _ (k w : ℕ) (bytes : List ℕ) (nowhere : find (holds pool chunk v) t.count ks ws ≡ None) (free : full t.count ks ws ≡ false) where
    room : (t.count < length ks) × (t.count < length ws)
    room = not_full t.count ks ws free

    abbrev t⁺ : Table
    t⁺ = record { count = t.count + 1; used = t.used + length bytes }

    abbrev ks⁺ : List ℕ
    ks⁺ = set ks t.count k

    abbrev ws⁺ : List ℕ
    ws⁺ = set ws t.count w

    abbrev pool⁺ : List ℕ
    pool⁺ = sets pool t.used bytes

    kind_other : (j : ℕ) → (j ≡ t.count → ⊥) → get_or ks⁺ j 0 ≡ get_or ks j 0
    kind_other j d = get_or-set_other ks t.count j k 0 d

    value_other : (j : ℕ) → (j ≡ t.count → ⊥) → get_or ws⁺ j 0 ≡ get_or ws j 0
    value_other j d = get_or-set_other ws t.count j w 0 d

    new_kept : Kept ks ws pool t⁺ ks⁺ ws⁺ pool⁺
    new_kept = record {
      kinds_length = length-set ks t.count k;
      values_length = length-set ws t.count w;
      pool_length = length-sets pool t.used bytes;
      kinds_behind = λ j h. kind_other j (λ e. omega arith);
      values_behind = λ j h. value_other j (λ e. omega arith);
      pool_behind = λ j h. sets_behind pool t.used bytes j h;
    }

    module _ (g : Good t ks ws pool) (m : Made chunk t v pool k w bytes) where
      old_entry : (j : ℕ) → j < t.count → constant_at pool⁺ ks⁺ ws⁺ j ≡ constant_at pool ks ws j
      old_entry j h =
          rw (kind_other j (λ e. omega arith), value_other j (λ e. omega arith))
          (entry_kept pool pool⁺ t.used (get_or ks j 0) (get_or ws j 0) (take_sets t.used pool t.used bytes (omega arith)) (g.texts j h))

      new_kind : get_or ks⁺ t.count 0 ≡ k
      new_kind = get_or-set_same ks t.count k 0 room.0

      new_value : get_or ws⁺ t.count 0 ≡ w
      new_value = get_or-set_same ws t.count w 0 room.1

      new_entry : constant_at pool⁺ ks⁺ ws⁺ t.count ≡ some (constant_of chunk v)
      new_entry = rw (new_kind, new_value) m.is

      constants⁺ : (i : ℕ) → i < t.count + 1 → (c : Constant) × (constant_at pool⁺ ks⁺ ws⁺ i ≡ some c)
      constants⁺ = below_more (λ i. (c : Constant) × (constant_at pool⁺ ks⁺ ws⁺ i ≡ some c)) t.count
          (λ i h. ((g.constants i h).0, old_entry i h ∙ (g.constants i h).1))
          (constant_of chunk v, new_entry)

      texts⁺ : (i : ℕ) → i < t.count + 1 → get_or ks⁺ i 0 ≡ 4 → Inside (t.used + length bytes) (get_or ws⁺ i 0)
      texts⁺ = below_more (λ i. get_or ks⁺ i 0 ≡ 4 → Inside (t.used + length bytes) (get_or ws⁺ i 0)) t.count
          (λ i h. rw (kind_other i (λ e. omega arith), value_other i (λ e. omega arith)) (λ q. omega (arith, g.texts i h q)))
          (rw (new_kind, new_value) m.inside)

      differ⁺ : (j : ℕ) → j < t.count + 1 → (i : ℕ) → i < j → constant_at pool⁺ ks⁺ ws⁺ i ≡ constant_at pool⁺ ks⁺ ws⁺ j → ⊥
      differ⁺ = below_more (λ j. (i : ℕ) → i < j → constant_at pool⁺ ks⁺ ws⁺ i ≡ constant_at pool⁺ ks⁺ ws⁺ j → ⊥) t.count
          (λ j l i h e. g.differ i j h l (sym (old_entry i (omega arith)) ∙ e ∙ old_entry j l))
          (λ i h e. holds_false pool chunk v (get_or ks i 0) (get_or ws i 0) (find_nothing (holds pool chunk v) t.count ks ws nowhere i h (omega (arith, room)) (omega (arith, room))) (sym (old_entry i h) ∙ e ∙ new_entry))

      new_good : Good t⁺ ks⁺ ws⁺ pool⁺
      new_good = record {
        kinds_fit = omega (arith, room, length-set ks t.count k);
        values_fit = omega (arith, room, length-set ws t.count w);
        texts_fit = omega (arith, m.fits, length-sets pool t.used bytes);
        constants = constants⁺;
        texts = texts⁺;
        differ = λ i j h l. differ⁺ j l i h;
      }

    right_new : (Good t ks ws pool → t.used < 2 ^ 48 → Short chunk v → Made chunk t v pool k w bytes) → RightOut (stored t k w (length bytes) ks ws pool⁺)
    right_new make = (
      new_kept,
      λ g small short.
          let m = make g small short in
          record {
            good = new_good g m;
            below = omega arith;
            there = new_entry g m;
            unchanged = old_entry g m;
            at_least = omega arith;
            at_most = omega arith;
            few = λ z. omega (arith, not_most t.count ks ws free);
            bytes = λ z. omega (arith, m.short);
          },
    )

-- ---- each answer of `added`

-- a text's value has its start and its length
module _ (start len : ℕ) (h : start < 2 ^ 48) (l : len < 65536) where
  digits : start % 281474976710656 * 65536 + len % 65536 ≡ start * 65536 + len
  digits = rw (mod-eq_of_lt {n = start} {m = 281474976710656} h, mod-eq_of_lt {n = len} {m = 65536} l)

  place_start : (start % 281474976710656 * 65536 + len % 65536) / 65536 ≡ start
  place_start = rw digits (omega arith)

  place_length : (start % 281474976710656 * 65536 + len % 65536) % 65536 ≡ len
  place_length = rw digits (omega arith)

right_text : (chunk : List ℕ) (t : Table) (s n : ℕ) (ks ws pool : List ℕ) → find (holds pool chunk (val.Str s n)) t.count ks ws ≡ None → full t.count ks ws ≡ false
    → (b : Bool) → leb (t.used + length (part chunk s n)) (length pool) ≡ b → RightOut chunk t (val.Str s n) ks ws pool (stored_text b t (part chunk s n) ks ws pool)
unfolding entry_of
right_text chunk t s n ks ws pool nowhere free false e = (refl, refl, refl)
right_text chunk t s n ks ws pool nowhere free true e =
    right_new chunk t (val.Str s n) ks ws pool 4 (t.used % 281474976710656 * 65536 + length (part chunk s n) % 65536) (part chunk s n) nowhere free
    (λ g small short.
    let h = leb-true (t.used + length (part chunk s n)) (length pool) e in
    let start = place_start t.used (length (part chunk s n)) small short in
    let len = place_length t.used (length (part chunk s n)) small short in
    record { fits = h; short = omega (arith, short); inside = λ q. omega (arith, start, len); is = rw (start, len, part_sets pool t.used (part chunk s n) h) })

right_bare : (chunk : List ℕ) (t : Table) (v : Val) (ks ws pool : List ℕ) (k w : ℕ) → find (holds pool chunk v) t.count ks ws ≡ None → full t.count ks ws ≡ false
    → (k ≡ 4 → ⊥) → entry_of pool k w ≡ some (constant_of chunk v) → RightOut chunk t v ks ws pool (stored t k w 0 ks ws pool)
right_bare chunk t v ks ws pool k w nowhere free bare e =
    right_new chunk t v ks ws pool k w [] nowhere free (λ g small short. record { fits = omega (arith, g.texts_fit); short = omega arith; inside = λ q. absurd (bare q); is = e })

right_append : (chunk : List ℕ) (t : Table) (v : Val) (ks ws pool : List ℕ) → find (holds pool chunk v) t.count ks ws ≡ None → full t.count ks ws ≡ false
    → RightOut chunk t v ks ws pool (append chunk t v ks ws pool)
unfolding append entry_of
right_append chunk t val.Nil ks ws pool nowhere free = right_bare chunk t val.Nil ks ws pool 0 0 nowhere free (λ e. omega arith) refl
right_append chunk t (val.Bool false) ks ws pool nowhere free = right_bare chunk t (val.Bool false) ks ws pool 1 0 nowhere free (λ e. omega arith) refl
right_append chunk t (val.Bool true) ks ws pool nowhere free = right_bare chunk t (val.Bool true) ks ws pool 2 0 nowhere free (λ e. omega arith) refl
right_append chunk t (val.Num x b) ks ws pool nowhere free = right_bare chunk t (val.Num x b) ks ws pool 3 b nowhere free (λ e. omega arith) refl
right_append chunk t (val.Str s n) ks ws pool nowhere free = right_text chunk t s n ks ws pool nowhere free (leb (t.used + length (part chunk s n)) (length pool)) refl

module _ (chunk : List ℕ) (t : Table) (v : Val) (ks ws pool : List ℕ) where
  right_added : RightOut chunk t v ks ws pool (added chunk t v ks ws pool)
  right_added = search (find (holds pool chunk v) t.count ks ws) refl
    where
      room : find (holds pool chunk v) t.count ks ws ≡ None → (b : Bool) → full t.count ks ws ≡ b → RightOut chunk t v ks ws pool (added chunk t v ks ws pool)
      room e true f = rw (added_full chunk t v ks ws pool e refl f refl) (refl, refl, refl)
      room e false f = rw (added_new chunk t v ks ws pool e refl f refl refl) (right_append chunk t v ks ws pool e f)

      search : (f : Found) → find (holds pool chunk v) t.count ks ws ≡ f → RightOut chunk t v ks ws pool (added chunk t v ks ws pool)
      search (Some i) e = rw (added_there chunk t v ks ws pool e refl) (right_found chunk t v ks ws pool i e)
      search None e = room e (full t.count ks ws) refl

  -- ---- the theorems

  -- a refusal leaves the lists as they are
  pub refused_added : {r : Refusal} {ks' ws' pool' : List ℕ} → added chunk t v ks ws pool ≡ out (Err r) ks' ws' pool' → (ks' ≡ ks) × (ws' ≡ ws) × (pool' ≡ pool)
  refused_added e = subst (RightOut chunk t v ks ws pool) e right_added

  module _ {i : ℕ} {t' : Table} {ks' ws' pool' : List ℕ} (e : added chunk t v ks ws pool ≡ out (Ok (i, t')) ks' ws' pool') where
    -- what lies behind the table stays, in lists of the same lengths
    pub kept_added : Kept ks ws pool t' ks' ws' pool'
    kept_added = (subst (RightOut chunk t v ks ws pool) e right_added).0

    -- a well-formed table stays one, and has the constant at the index
    pub good_added : Good t ks ws pool → t.used < 2 ^ 48 → Short chunk v → Grew chunk t v ks ws pool i t' ks' ws' pool'
    good_added = (subst (RightOut chunk t v ks ws pool) e right_added).1

pub good_empty : (ks ws pool : List ℕ) → Good (record { count = 0; used = 0 }) ks ws pool
good_empty ks ws pool = record {
  kinds_fit = omega arith;
  values_fit = omega arith;
  texts_fit = omega arith;
  constants = λ i h. absurd (omega arith);
  texts = λ i h. absurd (omega arith);
  differ = λ i j h l. absurd (omega arith);
}

pub good_grown : {t : Table} {ks ws pool : List ℕ} → Grown t ks ws pool → Good t ks ws pool × (length pool < 2 ^ 48)
good_grown (empty ks ws pool h) = (good_empty ks ws pool, h)
good_grown (grow {t} {ks} {ws} {pool} chunk v i {t'} {ks'} {ws'} {pool'} before short e) =
    let (g, small) = good_grown before in
    ((good_added chunk t v ks ws pool e g (omega (arith, g.texts_fit, small)) short).good, rw (kept_added chunk t v ks ws pool e).pool_length small)

-- no two entries are the same constant
pub distinct : {t : Table} {ks ws pool : List ℕ} → Grown t ks ws pool → (i j : ℕ) → i < j → j < t.count → constant_at pool ks ws i ≡ constant_at pool ks ws j → ⊥
distinct table = (good_grown table).0.differ
