-- The laws of the tests and of the search: `same` is true of equal constants and of no others, an entry that holds a constant is that constant, and a search finds an entry that meets its test, or none does; and what adding answers.
-- Each holds by its definition, case by case. Assumes nothing.
use Rattle.std.specs.Prelude.{◌≡◌, refl, Bool, true, false, List, [], ◌∷◌, ℕ, zero, suc, ◌+◌, ◌<◌, length, get_or, eqb, leb, Some, None, Ok, Err}
use Rattle.std.proofs.Common.{sym, ap, ◌∙◌, subst, arith, eqb-true, eq-eqb, ne_eqb, leb-false}
use Rattle.std.proofs.Math.Bool.{false≢true}
use Rattle.std.proofs.Math.Option.{Option, some, none}
use Rattle.std.proofs.lemmas.Bool.{eqb-false}
use Rattle.laws.specs.Truth.{or_false}
use Rattle.constants.specs.declared.Val.{Val}
use Rattle.constants.specs.declared.Val.TheVariants as val
use Rattle.constants.specs.declared.Table.{Table}
use Rattle.refusals.specs.Stage.{stage_of, steps}
use Rattle.refusals.specs.declared.Refusal.{Refusal}
use Rattle.refusals.specs.declared.Refusal.TheVariants.{Constants}
use Rattle.instructions.specs.Limits.{max_constants}
use Rattle.constants.specs.Entry.{Constant, nil, truth, number, text, kind_of, constant_of, entry_of, part, same_bytes, same_truth, same, is_constant, holds}
use Rattle.constants.specs.Table.{find, later, full, Out, out, stored_text, append, added, Found, Added}

unless_true : (t : Bool) → (t ≡ true → ⊥) → t ≡ false
unless_true true n = absurd (n refl)
unless_true false n = refl

-- ---- the same bytes

bytes_same : (x y : ℕ) (a b : List ℕ) → x ≡ y → same_bytes (x ∷ a) (y ∷ b) ≡ same_bytes a b
unfolding same_bytes
bytes_same x y a b e = rw (eq-eqb x y e, same_bytes)

bytes_differ : (x y : ℕ) (a b : List ℕ) → (x ≡ y → ⊥) → same_bytes (x ∷ a) (y ∷ b) ≡ false
unfolding same_bytes
bytes_differ x y a b e = rw (ne_eqb x y e, same_bytes)

pub same_bytes_true : (a b : List ℕ) → same_bytes a b ≡ true → a ≡ b
unfolding same_bytes
same_bytes_true [] [] h = refl
same_bytes_true [] (y ∷ b) h = absurd (false≢true h)
same_bytes_true (x ∷ a) [] h = absurd (false≢true h)
same_bytes_true (x ∷ a) (y ∷ b) h = head (eqb x y) refl (same_bytes_true a b)
  where
    head : (t : Bool) → eqb x y ≡ t → (same_bytes a b ≡ true → a ≡ b) → x ∷ a ≡ y ∷ b
    head true e tail =
        let p : x ≡ y = eqb-true x y e in
        let q : a ≡ b = tail (sym (bytes_same x y a b p) ∙ h) in
        cc
    head false e tail = absurd (false≢true (sym (bytes_differ x y a b (eqb-false x y e)) ∙ h))

pub same_bytes_false : (a b : List ℕ) → (a ≡ b → ⊥) → same_bytes a b ≡ false
same_bytes_false a b n = unless_true (same_bytes a b) (λ e. n (same_bytes_true a b e))

pub same_bytes_refl : (a : List ℕ) → same_bytes a a ≡ true
unfolding same_bytes
same_bytes_refl [] = refl
same_bytes_refl (x ∷ a) = bytes_same x x a a refl ∙ same_bytes_refl a

-- ---- the same constant

same_truth_true : (a b : Bool) → same_truth a b ≡ true → a ≡ b
same_truth_true true b h = sym h
same_truth_true false true h = h
same_truth_true false false h = refl

same_truth_refl : (a : Bool) → same_truth a a ≡ true
same_truth_refl true = refl
same_truth_refl false = refl

pub same_true : (c d : Constant) → same c d ≡ true → c ≡ d
unfolding same
same_true nil nil h = refl
same_true (truth a) (truth b) h = ap truth (same_truth_true a b h)
same_true (number a) (number b) h = ap number (eqb-true a b h)
same_true (text a) (text b) h = ap text (same_bytes_true a b h)
same_true nil (truth b) h = absurd (false≢true h)
same_true nil (number b) h = absurd (false≢true h)
same_true nil (text b) h = absurd (false≢true h)
same_true (truth a) nil h = absurd (false≢true h)
same_true (truth a) (number b) h = absurd (false≢true h)
same_true (truth a) (text b) h = absurd (false≢true h)
same_true (number a) nil h = absurd (false≢true h)
same_true (number a) (truth b) h = absurd (false≢true h)
same_true (number a) (text b) h = absurd (false≢true h)
same_true (text a) nil h = absurd (false≢true h)
same_true (text a) (truth b) h = absurd (false≢true h)
same_true (text a) (number b) h = absurd (false≢true h)

pub same_refl : (c : Constant) → same c c ≡ true
unfolding same
same_refl nil = refl
same_refl (truth a) = same_truth_refl a
same_refl (number a) = eq-eqb a a refl
same_refl (text a) = same_bytes_refl a

-- ---- an entry that holds a constant

is_constant_true : (o : Option Constant) (c : Constant) → is_constant o c ≡ true → o ≡ some c
is_constant_true none c h = absurd (false≢true h)
is_constant_true (some d) c h = ap some (same_true d c h)

abbrev IsOfKind : ℕ → Option Constant → Type 0
IsOfKind k none = Unit {0}
IsOfKind k (some c) = k ≡ kind_of c

of_kind : (pool : List ℕ) (k w : ℕ) → IsOfKind k (entry_of pool k w)
unfolding entry_of
of_kind pool zero w = refl
of_kind pool (suc zero) w = refl
of_kind pool (suc (suc zero)) w = refl
of_kind pool (suc (suc (suc zero))) w = refl
of_kind pool (suc (suc (suc (suc zero)))) w = refl
of_kind pool (suc (suc (suc (suc (suc k))))) w = tt

module _ (pool : List ℕ) (k w : ℕ) (c : Constant) where
  pub entry_kind : entry_of pool k w ≡ some c → k ≡ kind_of c
  entry_kind e = subst (IsOfKind k) e (of_kind pool k w)

  -- an entry of another kind isn't this constant
  pub other_kind : (k ≡ kind_of c → ⊥) → is_constant (entry_of pool k w) c ≡ false
  other_kind n = unless_true _ (λ e. n (entry_kind (is_constant_true (entry_of pool k w) c e)))

module _ (pool chunk : List ℕ) (v : Val) (k w : ℕ) where
  pub holds_true : holds pool chunk v k w ≡ true → entry_of pool k w ≡ some (constant_of chunk v)
  unfolding holds
  holds_true h = is_constant_true (entry_of pool k w) (constant_of chunk v) h

  pub holds_false : holds pool chunk v k w ≡ false → entry_of pool k w ≡ some (constant_of chunk v) → ⊥
  unfolding holds
  holds_false h e = false≢true (sym h ∙ rw e (same_refl (constant_of chunk v)))

-- ---- the search

pub record FoundAt (p : ℕ → ℕ → Bool) (n : ℕ) (ks ws : List ℕ) (i : ℕ) : Type 0 where
  pub below : i < n
  pub in_kinds : i < length ks
  pub in_values : i < length ws
  pub meets : p (get_or ks i 0) (get_or ws i 0) ≡ true

abbrev pub FoundNowhere : (ℕ → ℕ → Bool) → ℕ → List ℕ → List ℕ → Type 0
FoundNowhere p n ks ws = (j : ℕ) → j < n → j < length ks → j < length ws → p (get_or ks j 0) (get_or ws j 0) ≡ false

abbrev Means : (ℕ → ℕ → Bool) → ℕ → List ℕ → List ℕ → Found → Type 0
Means p n ks ws (Some i) = FoundAt p n ks ws i
Means p n ks ws None = FoundNowhere p n ks ws

module _ (p : ℕ → ℕ → Bool) (n k w : ℕ) (ks ws : List ℕ) where
  pub find_hit : p k w ≡ true → find p (suc n) (k ∷ ks) (w ∷ ws) ≡ Some 0
  unfolding find
  find_hit e = rw (e, find)

  pub find_miss : p k w ≡ false → find p (suc n) (k ∷ ks) (w ∷ ws) ≡ later (find p n ks ws)
  unfolding find
  find_miss e = rw (e, find)

  means_later : p k w ≡ false → (f : Found) → Means p n ks ws f → Means p (suc n) (k ∷ ks) (w ∷ ws) (later f)
  means_later e (Some i) m = record { below = omega arith; in_kinds = omega arith; in_values = omega arith; meets = m.meets }
  means_later e None m = after
    where
      after : FoundNowhere p (suc n) (k ∷ ks) (w ∷ ws)
      after zero h a b = e
      after (suc j) h a b = m j (omega arith) (omega arith) (omega arith)

  means_more : (t : Bool) → p k w ≡ t → Means p n ks ws (find p n ks ws) → Means p (suc n) (k ∷ ks) (w ∷ ws) (find p (suc n) (k ∷ ks) (w ∷ ws))
  means_more true e m = rw (find_hit e) (record { below = omega arith; in_kinds = omega arith; in_values = omega arith; meets = e })
  means_more false e m = rw (find_miss e) (means_later e (find p n ks ws) m)

find_means : (p : ℕ → ℕ → Bool) (n : ℕ) (ks ws : List ℕ) → Means p n ks ws (find p n ks ws)
unfolding find
find_means p zero ks ws = λ j h. absurd (omega arith)
find_means p (suc n) [] ws = λ j h a. absurd (omega arith)
find_means p (suc n) (k ∷ ks) [] = λ j h a b. absurd (omega arith)
find_means p (suc n) (k ∷ ks) (w ∷ ws) = means_more p n k w ks ws (p k w) refl (find_means p n ks ws)

module _ (p : ℕ → ℕ → Bool) (n : ℕ) (ks ws : List ℕ) where
  pub find_at : (i : ℕ) → find p n ks ws ≡ Some i → FoundAt p n ks ws i
  find_at i e = subst (Means p n ks ws) e (find_means p n ks ws)

  pub find_nothing : find p n ks ws ≡ None → FoundNowhere p n ks ws
  find_nothing e = subst (Means p n ks ws) e (find_means p n ks ws)

-- ---- a free entry

pub not_full : (count : ℕ) (ks ws : List ℕ) → full count ks ws ≡ false → (count < length ks) × (count < length ws)
not_full count ks ws h =
    let (a, b) = or_false (leb (length ks) count) _ h in
    (leb-false (length ks) count a, leb-false (length ws) count (or_false (leb (length ws) count) _ b).0)

pub not_most : (count : ℕ) (ks ws : List ℕ) → full count ks ws ≡ false → count < max_constants
not_most count ks ws h = leb-false max_constants count (or_false (leb (length ws) count) _ (or_false (leb (length ks) count) _ h).1).1

-- ---- the three ways of adding, by what the search and the test came to

module _ (chunk : List ℕ) (t : Table) (v : Val) (ks ws pool : List ℕ) {f : Found} (search : find (holds pool chunk v) t.count ks ws ≡ f) where
  pub added_there : {i : ℕ} → f ≡ Some i → added chunk t v ks ws pool ≡ out (Ok (i, t)) ks ws pool
  unfolding added
  added_there e = rw (search ∙ e, added)

  module _ {b : Bool} (nowhere : f ≡ None) (test : full t.count ks ws ≡ b) where
    pub added_full : b ≡ true → added chunk t v ks ws pool ≡ out (Err Constants) ks ws pool
    unfolding added
    added_full e = rw (search ∙ nowhere, test ∙ e, added)

    pub added_new : {r : Added} {ks' ws' pool' : List ℕ} → b ≡ false → append chunk t v ks ws pool ≡ out r ks' ws' pool' → added chunk t v ks ws pool ≡ out r ks' ws' pool'
    unfolding added
    added_new e h = rw (search ∙ nowhere, test ∙ e, added) h

-- ---- refusals of adding

abbrev Late : Added → Type 0
Late (Ok (i, b)) = Unit {0}
Late (Err r) = stage_of r ≡ steps

late_text : (fits : Bool) (b : Table) (bytes ks ws pool : List ℕ) → Late (stored_text fits b bytes ks ws pool).answer
late_text true b bytes ks ws pool = tt
late_text false b bytes ks ws pool = refl

late_append : (chunk : List ℕ) (b : Table) (v : Val) (ks ws pool : List ℕ) → Late (append chunk b v ks ws pool).answer
unfolding append
late_append chunk b val.Nil ks ws pool = tt
late_append chunk b (val.Bool false) ks ws pool = tt
late_append chunk b (val.Bool true) ks ws pool = tt
late_append chunk b (val.Num x n) ks ws pool = tt
late_append chunk b (val.Str s n) ks ws pool = late_text (leb (b.used + length (part chunk s n)) (length pool)) b (part chunk s n) ks ws pool

-- adding refuses as steps do: with 11 and 12, as `added` shows
pub late_added : (chunk : List ℕ) (b : Table) (v : Val) (ks ws pool : List ℕ) (r : Refusal) → (added chunk b v ks ws pool).answer ≡ Err r → stage_of r ≡ steps
unfolding added
late_added chunk b v ks ws pool r e = subst Late e (go (find (holds pool chunk v) b.count ks ws) (full b.count ks ws))
  where
    go : (f : Found) (x : Bool) →
        Late (elim f as (λ (_ : Found). Out) [ Some i ↦ out (Ok (i, b)) ks ws pool | None ↦ elim x as (λ (_ : Bool). Out) [ true ↦ out (Err Constants) ks ws pool | false ↦ append chunk b v ks ws pool ] ]).answer
    go (Some i) x = tt
    go None true = refl
    go None false = late_append chunk b v ks ws pool
