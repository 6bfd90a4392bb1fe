-- The floor. A double with a fraction is an odd m over 2 ^ (k + 1), with m below 2 ^ 53. So the definition rounds nothing: `floor_exact` and `floor_exact_below` say which whole number it is.
-- And the code's floor is the definition's: a double that is 2 ^ 52 or more in size is whole, and a smaller one is cut to a whole number below 2 ^ 52, which is compared with it. Assumes nothing.
use Rattle.std.proofs.Common.{◌≡◌, ℕ, zero, suc, ◌+◌, ◌-◌, ◌*◌, ◌/◌, ◌%◌, ◌^◌, ◌<◌, ◌≤◌, Bool, true, false, not, ◌&&◌, T, eqb, ltb, leb, ℤ, pos, negsuc, sym, refl, ap, ◌∙◌, subst, mod-lt, div-lt_iff_lt-mul, add-mul, mul-le-mul_left, div-add-mod', mul-one, div-le_self, mul_right_comm, div-one, mul_left_comm, arith, eqb→eq, ltb→lt, lt→ltb, pow_pos, ltb-false, ltb-true, eq-eqb, ne_eqb, eqb-true}
use native.Mathlib.Nat.{div-eq_of_lt-le, eq_of_mul-eq-mul_right, pow-succ'}
use borrow.Author.Tests.{eqb-false}
use lib.Ieee.{Float, nan, inf, fin, up, down, lt, eq, neg, fits, of_int, round, to_unsigned, binary64}
use lib.Ieee.Fits.{and_l, and_r, round-fits, down_pos}
use lib.Ieee.Exact.{HasValue}
use lib.Ieee.Back.{round_whole, whole_unique}
use Rattle.folding.specs.Floor.{floor, ceiling}

-- the literals of the code
abbrev top52 : Float
top52 = fin false 1 (pos 52)

abbrev low52 : Float
low52 = fin true 1 (pos 52)

abbrev nought : Float
nought = fin false 0 (pos 0)

abbrev Fits : Float → Type 0
Fits x = fits binary64 x ≡ true

false_true : {A : Type 0} → ◌≡◌ {A = Bool} false true → A
false_true h = absurd (subst T (sym h) tt)

two_pow : (k : ℕ) → 2 ^ suc k ≡ 2 * 2 ^ k
two_pow k = pow-succ' 2 k

-- ---- a double with a fraction
part : (s : Bool) (m k : ℕ) → Fits (fin s m (negsuc k)) → (m % 2 ≡ 1) × (m < 2 ^ 53)
unfolding fits
part s zero k h = absurd (no_half (eqb-true (1 * 2 ^ suc k) 1 h))
  where
    no_half : 1 * 2 ^ suc k ≡ 1 → ⊥
    no_half g = omega (arith, two_pow k, pow_pos k)
part s (suc m) k h = (eqb→eq (suc m % 2) 1 (and_l odd small both), ltb→lt (suc m) (2 ^ 53) (and_r odd small both))
  where
    odd : Bool
    odd = eqb (suc m % 2) 1

    small : Bool
    small = ltb (suc m) (2 ^ 53)

    fine : Bool
    fine = leb (2 ^ suc k) (2 ^ 1074)

    both : T (odd && small)
    both = and_l (odd && small) fine (and_l (odd && small && fine) (ltb (suc m * 1) (2 ^ 1024 * 2 ^ suc k)) (subst T (sym h) tt))

-- ---- the definition rounds nothing: the floor of m / 2 ^ (k + 1) has the value m / 2 ^ (k + 1) without its fraction, and below zero the next whole number down
pub floor_exact : (m k : ℕ) → Fits (fin false m (negsuc k)) → HasValue (floor (fin false m (negsuc k))) false (m / 2 ^ suc k) 1
unfolding floor of_int
floor_exact m k h = round_whole binary64 false (m / 2 ^ suc k) (omega (arith, div-le_self m (2 ^ suc k), part false m k h))

neg_value : (x : Float) (a c : ℕ) → HasValue x false a c → HasValue (neg x) true a c
unfolding neg
neg_value nan a c v = v
neg_value (inf s) a c v = v
neg_value (fin s m e) a c v = (ap not v.0, v.1)

ceiling_le : (m d : ℕ) → 0 < d → ceiling m d ≤ m
ceiling_le m d p = go ((div-lt_iff_lt-mul {k = d} {x = m + (d - 1)} {y = m + 1} p).1 fits_in)
  where
    fits_in : m + (d - 1) < (m + 1) * d
    fits_in = omega (arith, add-mul m 1 d, mul-le-mul_left m p)

    go : (m + (d - 1)) / d < m + 1 → ceiling m d ≤ m
    go h = omega arith

pub floor_exact_below : (m k : ℕ) → Fits (fin true m (negsuc k)) → HasValue (floor (fin true m (negsuc k))) true (ceiling m (2 ^ suc k)) 1
unfolding floor of_int
floor_exact_below m k h =
    neg_value (round binary64 false (ceiling m (2 ^ suc k)) 1) (ceiling m (2 ^ suc k)) 1
    (round_whole binary64 false (ceiling m (2 ^ suc k)) (omega (arith, ceiling_le m (2 ^ suc k) (pow_pos (suc k)), part true m k h)))

-- ---- where the code answers x itself after its first tests: a fraction is below 2 ^ 52 in size, and is no zero
pub high_whole : (x : Float) → Fits x → lt x top52 ≡ false → floor x ≡ x
unfolding floor lt
high_whole nan h t = refl
high_whole (inf s) h t = refl
high_whole (fin s m (pos k)) h t = refl
high_whole (fin false m (negsuc k)) h t = absurd (omega (arith, part false m k h, two_pow k, pow_pos k, ltb-false (m * 1 * 1) (1 * 2 ^ 52 * 2 ^ suc k) t))
high_whole (fin true m (negsuc k)) h t = absurd (omega (arith, pow_pos (suc k), ltb-false 0 (m * 1 * 1 + 1 * 2 ^ 52 * 2 ^ suc k) t))

pub low_whole : (x : Float) → Fits x → lt low52 x ≡ false → floor x ≡ x
unfolding floor lt
low_whole nan h t = refl
low_whole (inf s) h t = refl
low_whole (fin s m (pos k)) h t = refl
low_whole (fin true m (negsuc k)) h t = absurd (omega (arith, part true m k h, two_pow k, pow_pos k, ltb-false (m * 1 * 1) (1 * 2 ^ 52 * 2 ^ suc k) t))
low_whole (fin false m (negsuc k)) h t = absurd (omega (arith, pow_pos (suc k), ltb-false 0 (1 * 2 ^ 52 * 2 ^ suc k + m * 1 * 1) t))

pub zero_whole : (x : Float) → Fits x → lt x nought ≡ false → lt nought x ≡ false → floor x ≡ x
unfolding floor lt
zero_whole nan h t u = refl
zero_whole (inf s) h t u = refl
zero_whole (fin s m (pos k)) h t u = refl
zero_whole (fin true m (negsuc k)) h t u = absurd (omega (arith, part true m k h, ltb-false 0 (m * 1 * 1 + 0 * 1 * 2 ^ suc k) t))
zero_whole (fin false m (negsuc k)) h t u = absurd (omega (arith, part false m k h, ltb-false (0 * 1 * 2 ^ suc k) (m * 1 * 1) u))

-- ---- what is left is below 2 ^ 52 in size
pub data Under (s : Bool) : Float → Type 0 where
  under : (m : ℕ) (e : ℤ) → m * up e < 2 ^ 52 * down e → Under s (fin s m e)

pub above_zero : (x : Float) → lt nought x ≡ true → lt x top52 ≡ true → Under false x
unfolding lt
above_zero nan t u = false_true t
above_zero (inf true) t u = false_true t
above_zero (inf false) t u = false_true u
above_zero (fin true m e) t u = false_true t
above_zero (fin false m e) t u = under m e (omega (arith, ltb-true (m * up e * 1) (1 * 2 ^ 52 * down e) u))

-- the code cuts the negation
pub below_zero : (x : Float) → lt x nought ≡ true → lt low52 x ≡ true → Under true x
unfolding lt
below_zero nan t u = false_true t
below_zero (inf true) t u = false_true u
below_zero (inf false) t u = false_true t
below_zero (fin true m e) t u = under m e (omega (arith, ltb-true (m * up e * 1) (1 * 2 ^ 52 * down e) u))
below_zero (fin false m e) t u = absurd (omega (arith, ltb-true (m * up e * 1) (0 * 1 * down e) t))

pub negated : {x : Float} → Under true x → Under false (neg x)
unfolding neg
negated (under m e l) = under m e l

-- ---- the cut
pub cut_asks : {x : Float} → Under false x → T (lt (fin true 1 (pos 0)) x) × T (lt x (fin false 1 (pos 64)))
unfolding lt
cut_asks (under m e l) =
    (lt→ltb 0 (1 * 1 * down e + m * up e * 1) (omega (arith, down_pos e)), lt→ltb (m * up e * 1) (1 * 2 ^ 64 * down e) (omega arith))

module _ (m : ℕ) (e : ℤ) (l : m * up e < 2 ^ 52 * down e) where
  cut_lt : m * up e / down e < 2 ^ 52
  cut_lt = (div-lt_iff_lt-mul {k = down e} {x = m * up e} {y = 2 ^ 52} (down_pos e)).1 l

  cut_is : to_unsigned 64 (fin false m e) ≡ m * up e / down e
  unfolding to_unsigned
  cut_is = omega (arith, cut_lt)

pub cut_small : {x : Float} → Under false x → to_unsigned 64 x < 2 ^ 52
cut_small (under m e l) = omega (arith, cut_is m e l, cut_lt m e l)

-- a whole number below 2 ^ 53 is the double of that value
whole_back : (s : Bool) (m k : ℕ) → Fits (fin s m (pos k)) → m * 2 ^ k ≤ 2 ^ 53 → fin s m (pos k) ≡ round binary64 s (m * 2 ^ k) 1
whole_back s m k h l =
    whole_unique binary64 (fin s m (pos k)) (round binary64 s (m * 2 ^ k) 1) s (m * 2 ^ k) (subst T (sym h) tt) (round-fits binary64 s (m * 2 ^ k) 1)
    (refl, refl) (round_whole binary64 s (m * 2 ^ k) l)

pub above : {x : Float} → Fits x → Under false x → floor x ≡ of_int binary64 (pos (to_unsigned 64 x))
unfolding floor of_int
above h (under m (pos k) l) = whole_back false m k h (omega arith) ∙ ap (λ (n : ℕ). round binary64 false n 1) (sym (cut_is m (pos k) l ∙ div-one (m * 2 ^ k)))
above h (under m (negsuc k) l) = ap (λ (n : ℕ). round binary64 false n 1) (ap (λ (n : ℕ). n / 2 ^ suc k) (sym (mul-one m)) ∙ sym (cut_is m (negsuc k) l))

-- ---- the cut compared with what was cut: a double y of the whole value q equals m * 2 ^ e exactly where q does
module _ (n : ℕ) (d : ℤ) (m : ℕ) (e : ℤ) (q : ℕ) (v : n * up d * 1 ≡ q * down d) where
  scaled : n * up d * down e ≡ q * down e * down d
  scaled = ap (λ (z : ℕ). z * down e) (sym (mul-one (n * up d)) ∙ v) ∙ mul_right_comm q (down d) (down e)

  equal : eqb (n * up d * down e) (m * up e * down d) && true ≡ eqb (q * down e) (m * up e)
  equal = go (eqb (q * down e) (m * up e)) refl
    where
      go : (t : Bool) → eqb (q * down e) (m * up e) ≡ t → eqb (n * up d * down e) (m * up e * down d) && true ≡ t
      go true g = rw (eq-eqb (n * up d * down e) (m * up e * down d) (scaled ∙ ap (λ (z : ℕ). z * down d) (eqb-true (q * down e) (m * up e) g)))
      go false g =
          rw (ne_eqb (n * up d * down e) (m * up e * down d)
          (λ (h : n * up d * down e ≡ m * up e * down d). eqb-false (q * down e) (m * up e) g (eq_of_mul-eq-mul_right (down d) (down_pos d) (q * down e) (m * up e) (sym scaled ∙ h))))

eq_whole : (y : Float) (m : ℕ) (e : ℤ) (q : ℕ) → HasValue y false q 1 → eq y (fin false m e) ≡ eqb (q * down e) (m * up e)
unfolding eq
eq_whole nan m e q v = absurd v
eq_whole (inf s) m e q v = absurd v
eq_whole (fin true n d) m e q v = false_true (sym v.0)
eq_whole (fin false n d) m e q v = equal n d m e q v.1

cut_test : (m : ℕ) (e : ℤ) → m * up e < 2 ^ 52 * down e → eq (of_int binary64 (pos (to_unsigned 64 (fin false m e)))) (fin false m e) ≡ eqb (m * up e / down e * down e) (m * up e)
unfolding of_int
cut_test m e l =
    rw (cut_is m e l) (eq_whole (round binary64 false (m * up e / down e) 1) m e (m * up e / down e) (round_whole binary64 false (m * up e / down e) (omega (arith, cut_lt m e l))))

-- ---- below zero, where the negation is whole: an odd m over 2 ^ (k + 1) is not
pub below_whole : {x : Float} → Fits x → Under true x → eq (of_int binary64 (pos (to_unsigned 64 (neg x)))) (neg x) ≡ true → floor x ≡ x
unfolding floor neg
below_whole h (under m (pos k) l) w = refl
below_whole h (under m (negsuc k) l) w = absurd (odd_even (m * 1 / 2 ^ suc k) (eqb-true (m * 1 / 2 ^ suc k * 2 ^ suc k) (m * 1) (sym (cut_test m (negsuc k) l) ∙ w)))
  where
    even : (t : ℕ) → 2 * t ≡ m * 1 → ⊥
    even t g = omega (arith, part true m k h)

    odd_even : (q : ℕ) → q * 2 ^ suc k ≡ m * 1 → ⊥
    odd_even q g = even (q * 2 ^ k) (sym (mul_left_comm q 2 (2 ^ k)) ∙ ap (λ (z : ℕ). q * z) (sym (two_pow k)) ∙ g)

-- ---- and where it is not
ceiling_is : (m d : ℕ) → 0 < d → (m * 1 / d * d ≡ m * 1 → ⊥) → ceiling m d ≡ m * 1 / d + 1
ceiling_is m d p n =
    let q = m * 1 / d in
    let a : q * d + m * 1 % d ≡ m * 1 = div-add-mod' (m * 1) d in
    let b : m * 1 % d < d = mod-lt (m * 1) p in
    let c : (q + 1) * d ≡ q * d + 1 * d = add-mul q 1 d in
    let e : (q + 1 + 1) * d ≡ (q + 1) * d + 1 * d = add-mul (q + 1) 1 d in
    let z : 0 < m * 1 % d = some_left (m * 1 % d) (λ (r : m * 1 % d ≡ 0). n (omega arith)) in
    div-eq_of_lt-le d (omega arith) (omega arith)
  where
    some_left : (r : ℕ) → (r ≡ 0 → ⊥) → 0 < r
    some_left zero h = absurd (h refl)
    some_left (suc r) h = omega arith

pub below_part : {x : Float} → Under true x → eq (of_int binary64 (pos (to_unsigned 64 (neg x)))) (neg x) ≡ false → floor x ≡ neg (of_int binary64 (pos (to_unsigned 64 (neg x) + 1)))
unfolding floor neg
below_part (under m (pos k) l) w = absurd (eqb-false (m * 2 ^ k / 1 * 1) (m * 2 ^ k) (sym (cut_test m (pos k) l) ∙ w) (mul-one (m * 2 ^ k / 1) ∙ div-one (m * 2 ^ k)))
below_part (under m (negsuc k) l) w =
    ap (λ (n : ℕ). neg (of_int binary64 (pos n)))
    (ceiling_is m (2 ^ suc k) (pow_pos (suc k)) (eqb-false (m * 1 / 2 ^ suc k * 2 ^ suc k) (m * 1) (sym (cut_test m (negsuc k) l) ∙ w)) ∙ ap (λ (n : ℕ). n + 1) (sym (cut_is m (negsuc k) l)))
