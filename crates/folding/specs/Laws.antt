-- What a caller knows of a numeral that folding answers: it is no NaN, its bits are those of its double and a number of 64 bits, so that it is the numeral of its bits.
-- `add`, `sub`, `mul` and `div` round to a double of the format and `neg` keeps one, so that `of_bits-to_bits` gives the double back. Assumes nothing.
use Rattle.std.specs.Prelude.{◌≡◌, ℕ, Bool, true, false, T, is_nan, to_bits, refl, Float, Some, None}
use Rattle.std.proofs.Common.{sym, ap, arith}
use Rattle.std.specs.Float.{nan, binary64}
use Rattle.std.specs.Float.Ieee.{add, sub, mul, div, neg, fits}
use Rattle.std.specs.Float.Ieee.Bits.{of_bits-to_bits}
use Rattle.folding.specs.Numeral.{numeral_of, Sound, unless, folded}
use Rattle.folding.specs.Folding.{modulo, on_divisor}
use Rattle.folding.specs.declared.Numeral.{Numeral}
use Rattle.folding.specs.declared.Arith.{Arith}
use Rattle.folding.specs.declared.Arith.TheVariants.{Add, Sub, Mul, Div, Mod, Pow, Unm}

-- the double that an operation makes; ^ makes none
abbrev pub made_by : Arith → Float → Float → Float
made_by Add a b = add binary64 a b
made_by Sub a b = sub binary64 a b
made_by Mul a b = mul binary64 a b
made_by Div a b = div binary64 a b
made_by Mod a b = modulo a b
made_by Pow a b = nan
made_by Unm a b = neg a

-- a numeral of what an operation made, no NaN
pub record Made (x : Float) (n : Numeral) : Type 0 where
  pub number : is_nan x ≡ false
  pub value_is : n.value ≡ x
  pub bits_are : n.bits ≡ to_bits binary64 x

pub kept_is : {A : Type 0} {n : Numeral} → None ≡ Some n → A
kept_is h = absurd (let z : ◌≡◌ {A = ℕ} 0 1 = cc in omega arith)

pub folded_is : {n : Numeral} (x : Float) → folded x ≡ Some n → Made x n
folded_is {n} x h = go (is_nan x) refl h
  where
    go : (t : Bool) → is_nan x ≡ t → unless t x ≡ Some n → Made x n
    go true e g = kept_is g
    go false e g =
        let same : record { value = x; bits = to_bits binary64 x } ≡ n = cc in
        record { number = e; value_is = sym (ap (λ (m : Numeral). m.value) same); bits_are = sym (ap (λ (m : Numeral). m.bits) same) }

pub divided_is : {n : Numeral} (t : Bool) (x : Float) → on_divisor t x ≡ Some n → Made x n
divided_is true x h = kept_is h
divided_is false x h = folded_is x h

-- ---- the double of a numeral is that of its bits
pub numeral_sound : (b : ℕ) → Sound (numeral_of b)
numeral_sound b = refl

pub made_sound : {n : Numeral} {x : Float} → T (fits binary64 x) → Made x n → Sound n
made_sound {n} {x} f m = rw (m.value_is, m.bits_are) (sym (of_bits-to_bits binary64 x f))
