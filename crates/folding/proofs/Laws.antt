-- What a caller knows of a numeral that folding answers: it is no NaN, its bits are those of its double and a number of 64 bits, so that it is the numeral of its bits.
-- `add`, `sub`, `mul` and `div` round to a double of the format and `neg` keeps one, so that `of_bits-to_bits` gives the double back. Assumes nothing.
use Rattle.std.specs.Prelude.{◌≡◌, ℕ, ◌^◌, ◌<◌, true, not, T, from_bits, is_nan, Float, Some}
use Rattle.std.proofs.Common.{sym, ap, subst}
use Rattle.std.specs.Float.{binary64}
use Rattle.std.specs.Float.Ieee.{add, sub, mul, div, neg, fits}
use Rattle.std.specs.Float.Ieee.Bits.{of_bits-fits, to_bits-lt}
use Rattle.std.specs.Float.Ieee.Fits.{nan-fits, add-fits, sub-fits, mul-fits, div-fits, neg-fits}
use Rattle.folding.specs.Floor.{floor}
use Rattle.folding.specs.Numeral.{numeral_of, Sound}
use Rattle.folding.specs.Folding.{modulo, is_zero, fold_of}
use Rattle.folding.specs.declared.Numeral.{Numeral}
use Rattle.folding.specs.declared.Arith.{Arith}
use Rattle.folding.specs.declared.Arith.TheVariants.{Add, Sub, Mul, Div, Mod, Pow, Unm}
use Rattle.folding.specs.Laws.{made_by, Made, kept_is, folded_is, divided_is, made_sound}

pub made_fits : (op : Arith) (a b : Float) → T (fits binary64 a) → T (fits binary64 (made_by op a b))
made_fits Add a b f = add-fits binary64 a b
made_fits Sub a b f = sub-fits binary64 a b
made_fits Mul a b f = mul-fits binary64 a b
made_fits Div a b f = div-fits binary64 a b
made_fits Mod a b f = sub-fits binary64 a (mul binary64 (floor (div binary64 a b)) b)
made_fits Pow a b f = nan-fits binary64
made_fits Unm a b f = neg-fits binary64 a f

pub fold_is : {n : Numeral} (op : Arith) (a b : Float) → fold_of op a b ≡ Some n → Made (made_by op a b) n
unfolding fold_of
fold_is Add a b h = folded_is (add binary64 a b) h
fold_is Sub a b h = folded_is (sub binary64 a b) h
fold_is Mul a b h = folded_is (mul binary64 a b) h
fold_is Div a b h = divided_is (is_zero b) (div binary64 a b) h
fold_is Mod a b h = divided_is (is_zero b) (modulo a b) h
fold_is Pow a b h = kept_is h
fold_is Unm a b h = folded_is (neg a) h

pub folded_no_nan : {n : Numeral} (op : Arith) (a b : Float) → fold_of op a b ≡ Some n → T (not (is_nan n.value))
folded_no_nan op a b h = let m = fold_is op a b h in rw (m.value_is, m.number) tt

-- the second operand needs no condition, since only negation answers an operand
pub fold_sound : {n : Numeral} (op : Arith) (a b : Float) → fits binary64 a ≡ true → fold_of op a b ≡ Some n → Sound n
fold_sound op a b f h = made_sound (made_fits op a b (subst T (sym f) tt)) (fold_is op a b h)

-- ---- folding numerals of bits answers the numeral of its bits
module _ {n : Numeral} (op : Arith) (x y : ℕ) (h : fold_of op (from_bits binary64 x) (from_bits binary64 y) ≡ Some n) where
  answer : Made (made_by op (from_bits binary64 x) (from_bits binary64 y)) n
  answer = fold_is op (from_bits binary64 x) (from_bits binary64 y) h

  answer_fits : T (fits binary64 (made_by op (from_bits binary64 x) (from_bits binary64 y)))
  answer_fits = made_fits op (from_bits binary64 x) (from_bits binary64 y) (of_bits-fits binary64 x)

  pub fold_bits : n ≡ numeral_of n.bits
  fold_bits = ap (λ (v : Float). record { value = v; bits = n.bits }) (made_sound answer_fits answer)

  pub fold_bits_lt : n.bits < 2 ^ 64
  fold_bits_lt = rw answer.bits_are (to_bits-lt binary64 (made_by op (from_bits binary64 x) (from_bits binary64 y)) answer_fits)
