-- Document 01, "Lowering": + - * / % and negation of numerals; not on a divisor of zero of either sign in / and %, nor to a NaN. ^ isn't folded (difference 3).
-- Assumes nothing.
use Rattle.std.specs.Prelude.{Bool, true, false, pos, Float, None}
use Rattle.std.specs.Float.{fin, binary64}
use Rattle.std.specs.Float.Ieee.{add, sub, mul, div, neg, eq}
use Rattle.folding.specs.Floor.{floor}
use Rattle.folding.specs.Numeral.{folded, Fold}
use Rattle.folding.specs.declared.Arith.{Arith}
use Rattle.folding.specs.declared.Arith.TheVariants.{Add, Sub, Mul, Div, Mod, Pow, Unm}

-- a - floor (a / b) * b, each operation rounded once
abbrev pub modulo : Float → Float → Float
modulo a b = sub binary64 a (mul binary64 (floor (div binary64 a b)) b)

-- a zero of either sign
abbrev pub is_zero : Float → Bool
is_zero b = eq b (fin false 0 (pos 0))

-- the result, unless the divisor is zero, which the truth value says
abbrev pub on_divisor : Bool → Float → Fold
on_divisor true x = None
on_divisor false x = folded x

-- `const_fold` on doubles
unfoldable pub fold_of : Arith → Float → Float → Fold
fold_of Add a b = folded (add binary64 a b)
fold_of Sub a b = folded (sub binary64 a b)
fold_of Mul a b = folded (mul binary64 a b)
fold_of Div a b = on_divisor (is_zero b) (div binary64 a b)
fold_of Mod a b = on_divisor (is_zero b) (modulo a b)
fold_of Pow a b = None
fold_of Unm a b = folded (neg a)
