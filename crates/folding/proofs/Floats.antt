-- The library's NaN is the double of each NaN's pattern, since the logic has one NaN. Assumes nothing.
use Rattle.std.proofs.Common.{◌≡◌, ℕ, true, T, sym, refl, ◌∙◌, subst}
use lib.Ieee.{Float, nan, inf, fin, is_nan, of_bits, binary64, nan_bits}
use lib.Ieee.Bits.{nan_bits_is}

nan_of : (x : Float) → is_nan x ≡ true → x ≡ nan
unfolding is_nan
nan_of nan h = refl
nan_of (inf s) h = absurd (subst T (sym h) tt)
nan_of (fin s m e) h = absurd (subst T (sym h) tt)

-- the library's `f64::NAN`
the_nan : of_bits binary64 0x7ff8000000000000 ≡ nan
unfolding of_bits
the_nan = refl

pub nan_made : (b : ℕ) → nan_bits binary64 b ≡ true → of_bits binary64 b ≡ of_bits binary64 0x7ff8000000000000
nan_made b h = nan_of (of_bits binary64 b) (sym (nan_bits_is binary64 b) ∙ h) ∙ sym the_nan
