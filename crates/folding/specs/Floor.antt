-- The floor of a double, exactly (`f64::floor` of the Rust's `const_fold`): the largest whole number that is not above x. Infinities, NaN and whole numbers, -0 among them, are themselves.
-- A double with a fraction is m / 2 ^ (k + 1) with m below 2 ^ 53, so its floor is a whole number that `of_int` holds exactly (`floor_exact` and `floor_exact_below` of proofs/Whole.antt).
-- Assumes nothing.
use Rattle.std.specs.Prelude.{ℕ, suc, ◌+◌, ◌-◌, ◌/◌, ◌^◌, true, false, pos, negsuc, Float}
use Rattle.std.specs.Float.{nan, inf, fin, binary64}
use Rattle.std.specs.Float.Ieee.{neg, of_int}

-- a / d, and the next whole number up where that leaves something
abbrev pub ceiling : ℕ → ℕ → ℕ
ceiling a d = (a + (d - 1)) / d

unfoldable pub floor : Float → Float
unfolding of_int neg
floor nan = nan
floor (inf s) = inf s
floor (fin s m (pos k)) = fin s m (pos k)
floor (fin false m (negsuc k)) = of_int binary64 (pos (m / 2 ^ suc k))
floor (fin true m (negsuc k)) = neg (of_int binary64 (pos (ceiling m (2 ^ suc k))))
