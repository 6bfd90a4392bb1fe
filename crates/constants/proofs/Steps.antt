-- What the code's proofs cite: one step of each loop and each way out of it (bytes compared, entries searched), and one law for each answer of `find`, `append` and `store_text`.
-- Each holds by the definition, at the list's next element or at the constant's case. Assumes nothing.
use Rattle.std.specs.Prelude.{Some, None, Err}
use mathlib.Core.Path.{◌≡◌, refl, sym, ap, ◌∙◌, fun_ext}
use mathlib.Core.Bool.{Bool, true, false, ◌&&◌, and-true, and-false, false≢true}
use mathlib.Core.List.{List, [], ◌∷◌}
use Prim.Native.Nat.{ℕ, zero, suc, ◌+◌, ◌*◌, ◌-◌, ◌/◌, ◌%◌, ◌≤◌, ◌<◌, min}
use native.Mathlib.Nat.{zero-min, min-zero}
use native.Mathlib.Omega.{arith}
use lib.ListN.{length, get_or, take, drop, drop_of_length-le, length-drop}
use lib.Seq.{drop-cons, take-nil, take_all, length-take-le, get_or-take, get_or-drop, sets}
use lib.Dec.{eqb, leb}
use borrow.Author.Count.{below_more}
use borrow.Author.Tests.{eqb-true, eqb-false, eq-eqb, le-leb, leb-true, leb-false}
use mathlib.Core.Bool.{cond}
use lib.Dec.{ltb}
use borrow.Author.Tests.{ltb-true, ltb-false, lt-ltb, le-ltb}
use Rattle.std.specs.Prelude.{position}
use Rattle.std.specs.List.{position_or_len}
use Rattle.laws.specs.Truth.{or_false}
use Rattle.refusals.specs.declared.Refusal.TheVariants.{Pool}
use Rattle.constants.specs.declared.Val.{Val}
use Rattle.constants.specs.declared.Val.TheVariants as val
use Rattle.constants.specs.declared.Table.{Table}
use Rattle.constants.specs.Entry.{Constant, truth, constant_of, entry_of, is_constant, same, same_bytes, holds, kind_of}
use Rattle.constants.specs.Fours.{four_of, FourBytes, in_four, Without}
use Rattle.constants.specs.Texts.{tail_of, ends_alike}
use Rattle.constants.specs.Table.{find, later, stored, stored_text, append, out, Found, Added}
use Rattle.constants.specs.Laws.{same_bytes_refl, same_bytes_false, find_hit, find_miss, find_at, other_kind}

-- ---- bytes compared

-- behind both ends there is nothing
pub tails_end : (a b : List ℕ) (k : ℕ) → length a ≤ k → length b ≤ k → drop k a ≡ drop k b
tails_end a b k h g = rw (drop_of_length-le a h, drop_of_length-le b g)

-- tails that are the same, and the element before each
tails_cons : (a b : List ℕ) (i : ℕ) → i < length a → i < length b → drop (suc i) a ≡ drop (suc i) b → get_or a i 0 ≡ get_or b i 0 → drop i a ≡ drop i b
tails_cons a b i h g e q = rw (drop-cons a i 0 h, drop-cons b i 0 g, e, q)

pub tails_more : (a b : List ℕ) (k : ℕ) → 0 < k → k ≤ length a → k ≤ length b → drop k a ≡ drop k b → get_or a (k - 1) 0 ≡ get_or b (k - 1) 0 → drop (k - 1) a ≡ drop (k - 1) b
tails_more a b k m h g e q =
    let s : suc (k - 1) ≡ k = omega arith in
    tails_cons a b (k - 1) (omega arith) (omega arith) (rw s e) q

-- bytes below 256 are the digits of their number
four_same : (x y z w x' y' z' w' : ℕ) → x < 256 → y < 256 → z < 256 → w < 256 → x' < 256 → y' < 256 → z' < 256 → w' < 256
    → x + 256 * y + 65536 * z + 16777216 * w ≡ x' + 256 * y' + 65536 * z' + 16777216 * w' → (x ≡ x') × (y ≡ y') × (z ≡ z') × (w ≡ w')
four_same x y z w x' y' z' w' a b c d a' b' c' d' e = (omega arith, omega arith, omega arith, omega arith)

-- and the four bytes before each
pub tails_four : (a b : List ℕ) (k : ℕ) → k + 4 ≤ length a → k + 4 ≤ length b → drop (k + 4) a ≡ drop (k + 4) b → FourBytes a k → FourBytes b k → four_of a k ≡ four_of b k → drop k a ≡ drop k b
tails_four a b k h g e (x, y, z, w) (x', y', z', w') q =
    let (p₀, p₁, p₂, p₃) = four_same _ _ _ _ _ _ _ _ x y z w x' y' z' w' q in
    let s : suc (k + 3) ≡ k + 4 = omega arith in
    let t : suc (k + 2) ≡ k + 3 = omega arith in
    let u : suc (k + 1) ≡ k + 2 = omega arith in
    let v : suc k ≡ k + 1 = omega arith in
    let d₃ : drop (k + 3) a ≡ drop (k + 3) b = tails_cons a b (k + 3) (omega arith) (omega arith) (rw s e) p₃ in
    let d₂ : drop (k + 2) a ≡ drop (k + 2) b = tails_cons a b (k + 2) (omega arith) (omega arith) (rw t d₃) p₂ in
    let d₁ : drop (k + 1) a ≡ drop (k + 1) b = tails_cons a b (k + 1) (omega arith) (omega arith) (rw u d₂) p₁ in
    tails_cons a b k (omega arith) (omega arith) (rw v d₁) p₀

-- ---- an entry and a constant

module _ (pool chunk : List ℕ) (v : Val) where
  -- an entry that is a constant is of its kind, and then its value decides
  pub holds_kind : (c : Constant) → constant_of chunk v ≡ c → (k w : ℕ) → holds pool chunk v k w ≡ (is_constant (entry_of pool (kind_of c) w) c && eqb k (kind_of c))
  unfolding holds
  holds_kind c e k w = rw e (by (eqb k (kind_of c)) refl)
    where
      by : (t : Bool) → eqb k (kind_of c) ≡ t → is_constant (entry_of pool k w) c ≡ (is_constant (entry_of pool (kind_of c) w) c && eqb k (kind_of c))
      by true q = rw (q, and-true, eqb-true k (kind_of c) q)
      by false q = rw (q, and-false) (other_kind pool k w c (eqb-false k (kind_of c) q))

  -- a truth value is its kind alone
  pub holds_truth : (b : Bool) {t : ℕ} → constant_of chunk v ≡ truth b → kind_of (truth b) ≡ t → (k w : ℕ) → holds pool chunk v k w ≡ eqb k t
  unfolding entry_of same
  holds_truth true e q k w = holds_kind (truth true) e k w ∙ ap (eqb k) q
  holds_truth false e q k w = holds_kind (truth false) e k w ∙ ap (eqb k) q

-- ---- a part of a slice

-- two lengths that both go to the end give the same part
pub part_ends : (s : List ℕ) (start m n : ℕ) → length s - start ≤ m → length s - start ≤ n → take m (drop start s) ≡ take n (drop start s)
part_ends s start m n h g = take_all m (drop start s) (rw length-drop h) ∙ sym (take_all n (drop start s) (rw length-drop g))

-- a part that lies in the slice is as long as it is meant to be
pub part_length : (s : List ℕ) (start len : ℕ) → start + len ≤ length s → length (take len (drop start s)) ≡ len
part_length s start len h = length-take-le len (drop start s) (rw length-drop (omega arith))

-- two starts at or behind the end give the empty part
pub part_outside : (s : List ℕ) (i j m n : ℕ) → length s ≤ i → length s ≤ j → take m (drop i s) ≡ take n (drop j s)
part_outside s i j m n h g = rw (drop_of_length-le s h, drop_of_length-le s g) (take-nil m ∙ sym (take-nil n))

-- ---- texts passed over

-- the part up to the end is all that lies behind the start
pub part_rest : (s : List ℕ) (start : ℕ) → take (length s - start) (drop start s) ≡ drop start s
part_rest s start = take_all (length s - start) (drop start s) (rw length-drop (omega arith))

module _ (pool text : List ℕ) where
  -- a pool that is shorter than a text doesn't end in it
  pub no_tail : length pool < length text → same_bytes (tail_of (length text) pool) text ≡ false
  no_tail h = same_bytes_false _ _ λ e. let q : length pool - (length pool - length text) ≡ length text = sym (length-drop (length pool - length text) pool) ∙ ap length e in omega arith

  module _ (start n : ℕ) (e : take n (drop start pool) ≡ text) where
    -- bytes of a text that is a part of the pool
    in_pool : (i : ℕ) → i < n → get_or pool (start + i) 0 ≡ get_or text i 0
    in_pool i h = sym (get_or-drop start pool i 0) ∙ sym (get_or-take n (drop start pool) i 0 h) ∙ ap (λ l. get_or l i 0) e

    four_in_pool : (i : ℕ) → i + 3 < n → four_of pool (start + i) ≡ four_of text i
    four_in_pool i h =
        let s₁ : start + i + 1 ≡ start + (i + 1) = omega arith in
        let s₂ : start + i + 2 ≡ start + (i + 2) = omega arith in
        let s₃ : start + i + 3 ≡ start + (i + 3) = omega arith in
        rw (s₁, s₂, s₃, in_pool i (omega arith), in_pool (i + 1) (omega arith), in_pool (i + 2) (omega arith), in_pool (i + 3) h)

    -- one that the pool's end cuts off is the pool's tail
    cut_off : length pool < start + n → 0 < length text → tail_of (length text) pool ≡ text
    cut_off h l =
        let whole : drop start pool ≡ text = sym (take_all n (drop start pool) (rw length-drop (omega arith))) ∙ e in
        let q : length pool - start ≡ length text = sym (length-drop start pool) ∙ ap length whole in
        let s : length pool - length text ≡ start = omega arith in
        rw s whole

  -- where the pool doesn't end in the text, an entry of another length or ending isn't the text
  pub not_alike : (w : ℕ) → 4 ≤ length text → same_bytes (tail_of (length text) pool) text ≡ false → ends_alike pool (length text) (four_of text (length text - 4)) w ≡ false →
      same_bytes (take (w % 65536) (drop (w / 65536) pool)) text ≡ false
  not_alike w long other differs = same_bytes_false _ _ (go (leb (w / 65536 + w % 65536) (length pool)) refl)
    where
      go : (b : Bool) → leb (w / 65536 + w % 65536) (length pool) ≡ b → take (w % 65536) (drop (w / 65536) pool) ≡ text → ⊥
      go false h e =
          false≢true (sym other ∙ ap (λ l. same_bytes l text) (cut_off (w / 65536) (w % 65536) e (leb-false _ _ h) (omega arith)) ∙ same_bytes_refl text)
      go true h e =
          let inside : w / 65536 + w % 65536 ≤ length pool = leb-true _ _ h in
          let n : w % 65536 ≡ length text = sym (part_length pool (w / 65536) (w % 65536) inside) ∙ ap length e in
          let s : w / 65536 + length text - 4 ≡ w / 65536 + (length text - 4) = omega arith in
          let four : four_of pool (w / 65536 + length text - 4) ≡ four_of text (length text - 4) = rw s (four_in_pool (w / 65536) (w % 65536) e (length text - 4) (omega arith)) in
          false≢true (sym differs ∙ rw (eq-eqb _ _ n, le-leb (w / 65536 + length text) (length pool) (omega arith), eq-eqb _ _ four))

-- ---- entries searched

-- a value that isn't among four and isn't before them
pub without_four : (ws : List ℕ) (i b : ℕ) → Without ws i b → in_four ws i b ≡ false → Without ws (i + 4) b
without_four ws i b before none j l q =
    let (n₀, r₀) = or_false (eqb (get_or ws i 0) b) _ none in
    let (n₁, r₁) = or_false (eqb (get_or ws (i + 1) 0) b) _ r₀ in
    let (n₂, n₃) = or_false (eqb (get_or ws (i + 2) 0) b) _ r₁ in
    let s : i + 1 + 1 ≡ i + 2 = omega arith in
    let t : i + 2 + 1 ≡ i + 3 = omega arith in
    let w₁ : Without ws (i + 1) b = below_more _ i before (eqb-false _ _ n₀) in
    let w₂ : Without ws (i + 2) b = rw s at (below_more _ (i + 1) w₁ (eqb-false _ _ n₁)) in
    let w₃ : Without ws (i + 3) b = rw t at (below_more _ (i + 2) w₂ (eqb-false _ _ n₂)) in
    below_more (λ k. get_or ws k 0 ≡ b → ⊥) (i + 3) w₃ (eqb-false _ _ n₃) j (omega arith) q

-- no entry below i meets the test
abbrev pub Passed : (ℕ → ℕ → Bool) → List ℕ → List ℕ → ℕ → Type 0
Passed p ks ws i = (j : ℕ) → j < i → p (get_or ks j 0) (get_or ws j 0) ≡ false

module _ (p : ℕ → ℕ → Bool) where
  -- the two ways out of a loop over the entries
  pub found_first : (n : ℕ) (ks ws : List ℕ) (i : ℕ) → i < n → n ≤ length ks → n ≤ length ws → Passed p ks ws i → p (get_or ks i 0) (get_or ws i 0) ≡ true → find p n ks ws ≡ Some i
  found_first zero ks ws i m h g passed e = absurd (omega arith)
  found_first (suc n) [] ws i m h g passed e = absurd (omega arith)
  found_first (suc n) (k ∷ ks) [] i m h g passed e = absurd (omega arith)
  found_first (suc n) (k ∷ ks) (w ∷ ws) zero m h g passed e = find_hit p n k w ks ws e
  found_first (suc n) (k ∷ ks) (w ∷ ws) (suc i) m h g passed e =
      find_miss p n k w ks ws (passed 0 (omega arith)) ∙ ap later (found_first n ks ws i (omega arith) (omega arith) (omega arith) (λ j l. passed (suc j) (omega arith)) e)

  pub found_nowhere : (n : ℕ) (ks ws : List ℕ) (i : ℕ) → n ≤ i → Passed p ks ws i → find p n ks ws ≡ None
  found_nowhere n ks ws i m passed = answer (find p n ks ws) refl
    where
      answer : (f : Found) → find p n ks ws ≡ f → f ≡ None
      answer (Some j) e = let at = find_at p n ks ws j e in absurd (false≢true (sym (passed j (omega arith)) ∙ at.meets))
      answer None e = refl

  -- a search goes no further than the shorter list
  find_shorter : (count : ℕ) (ks ws : List ℕ) → find p count ks ws ≡ find p (min count (min (length ks) (length ws))) ks ws
  unfolding find
  find_shorter zero ks ws = rw zero-min
  find_shorter (suc n) [] ws = rw (zero-min, min-zero)
  find_shorter (suc n) (k ∷ ks) [] = rw (min-zero, min-zero)
  find_shorter (suc n) (k ∷ ks) (w ∷ ws) =
      let e : min (suc n) (min (suc (length ks)) (suc (length ws))) ≡ suc (min n (min (length ks) (length ws))) = omega arith in
      rw e (ap (λ f. elim (p k w) [ true ↦ Some 0 | false ↦ later f ]) (find_shorter n ks ws))

-- a search that asks for the kind alone is a position among the kinds
position_later : (p : ℕ → Bool) (k : ℕ) (xs : List ℕ) → p k ≡ false → position p (k ∷ xs) ≡ later (position p xs)
position_later p k xs e = rw e (go (ltb (position_or_len p xs) (length xs)) refl)
  where
    go : (t : Bool) → ltb (position_or_len p xs) (length xs) ≡ t → cond (ltb (1 + position_or_len p xs) (suc (length xs))) (Some (1 + position_or_len p xs)) None ≡ later (cond t (Some (position_or_len p xs)) None)
    go true q = let r : ltb (1 + position_or_len p xs) (suc (length xs)) ≡ true = lt-ltb _ _ (omega (arith, ltb-true _ _ q)) in rw r (ap Some (omega arith))
    go false q = let r : ltb (1 + position_or_len p xs) (suc (length xs)) ≡ false = le-ltb _ _ (omega (arith, ltb-false _ _ q)) in rw r refl

kind_position : (p : ℕ → Bool) (n : ℕ) (ks ws : List ℕ) → n ≤ length ks → n ≤ length ws → find (λ k w. p k) n ks ws ≡ position p (take n ks)
unfolding find
kind_position p zero ks ws h g = refl
kind_position p (suc n) [] ws h g = absurd (omega arith)
kind_position p (suc n) (k ∷ ks) [] h g = absurd (omega arith)
kind_position p (suc n) (k ∷ ks) (w ∷ ws) h g = go (p k) refl (kind_position p n ks ws (omega arith) (omega arith))
  where
    go : (t : Bool) → p k ≡ t → find (λ k w. p k) n ks ws ≡ position p (take n ks) → find (λ k w. p k) (suc n) (k ∷ ks) (w ∷ ws) ≡ position p (k ∷ take n ks)
    go true e i = let r : ltb 0 (suc (length (take n ks))) ≡ true = lt-ltb _ _ (omega arith) in find_hit (λ k w. p k) n k w ks ws e ∙ rw (e, r) refl
    go false e i = find_miss (λ k w. p k) n k w ks ws e ∙ ap later i ∙ sym (position_later p k (take n ks) e)

pub found_kind : (kind n : ℕ) (ks ws : List ℕ) {f : Found} → f ≡ position (λ k. eqb k kind) (take n ks) → n ≤ length ks → n ≤ length ws → find (λ k w. eqb k kind) n ks ws ≡ f
found_kind kind n ks ws e h g = kind_position (λ k. eqb k kind) n ks ws h g ∙ sym e

-- another test that tells the same finds the same
pub found_by : (p q : ℕ → ℕ → Bool) (count m n : ℕ) (ks ws : List ℕ) {f : Found} → min (length ks) (length ws) ≡ m → min count m ≡ n
    → ((k w : ℕ) → p k w ≡ q k w) → find q n ks ws ≡ f → find p count ks ws ≡ f
found_by p q count m n ks ws shorter least alike e = rw (fun_ext (λ k. fun_ext (alike k)), find_shorter q count ks ws, shorter, least) e

-- ---- a constant added: each law's hypotheses are in the code's order

pub append_truth : (chunk : List ℕ) (t : Table) (b : Bool) (ks ws pool : List ℕ) → append chunk t (val.Bool b) ks ws pool ≡ stored t (kind_of (truth b)) 0 0 ks ws pool
unfolding append
append_truth chunk t true ks ws pool = refl
append_truth chunk t false ks ws pool = refl

module _ (t : Table) (bytes ks ws pool : List ℕ) {b : Bool} (fits : leb (t.used + length bytes) (length pool) ≡ b) where
  pub text_fits : {w : ℕ} {r : Added} {ks' ws' pool' : List ℕ} → b ≡ true → sets pool t.used bytes ≡ pool' → t.used % 281474976710656 * 65536 + length bytes % 65536 ≡ w
      → ((p : List ℕ) → stored t 4 w (length bytes) ks ws p ≡ out r ks' ws' p)
      → stored_text (leb (t.used + length bytes) (length pool)) t bytes ks ws pool ≡ out r ks' ws' pool'
  text_fits {w} {r} {ks'} {ws'} {pool'} b_true copied placed done = rw (fits ∙ b_true, copied, placed) (done pool')

  pub text_too_long : b ≡ false → stored_text (leb (t.used + length bytes) (length pool)) t bytes ks ws pool ≡ out (Err Pool) ks ws pool
  text_too_long b_false = rw (fits ∙ b_false)
