-- A numeral carries its bits and the double that they stand for; the logic has one NaN, and the bits tell numerals apart. Assumes nothing.
use Rattle.std.specs.Prelude.{◌≡◌, ℕ, Bool, true, false, from_bits, is_nan, to_bits, Float, Option, Some, None}
use Rattle.std.specs.Float.{binary64}
use Rattle.folding.specs.declared.Numeral.{Numeral}

-- the numeral of a pattern: `of_bits` takes every NaN's pattern to the one NaN
abbrev pub numeral_of : ℕ → Numeral
numeral_of b = record { value = from_bits binary64 b; bits = b }

-- the double is that of the bits
abbrev pub Sound : Numeral → Type 0
Sound n = n.value ≡ from_bits binary64 n.bits

-- what folding answers: a numeral, or nothing where the operation is kept for the run
abbrev pub Fold : Type 0
Fold = Option Numeral

-- nothing where it is a NaN, which the truth value says
abbrev pub unless : Bool → Float → Fold
unless true x = None
unless false x = Some (record { value = x; bits = to_bits binary64 x })

-- a result that isn't a NaN, with its bits
abbrev pub folded : Float → Fold
folded x = unless (is_nan x) x
