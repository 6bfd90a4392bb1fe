-- Worked examples of folding, on the bits of doubles: each answer is computed by the definition and compared with its bits and their double. Assumes nothing.
use Rattle.std.specs.Prelude.{ℕ, List, [], ◌∷◌, Some, None}
use Rattle.std.specs.Float.{binary64}
use Rattle.std.specs.Float.Ieee.{of_bits}
use Rattle.folding.specs.Numeral.{numeral_of, Fold}
use Rattle.folding.specs.Folding.{fold_of}
use Rattle.folding.specs.declared.Arith.{Arith}
use Rattle.folding.specs.declared.Arith.TheVariants.{Add, Mul, Div, Mod, Pow, Unm}

-- the operands by their bits; negation has the second for nothing
pub record Row : Type 0 where
  pub op : Arith
  pub left : ℕ
  pub right : ℕ
  pub answer : Fold

abbrev is : ℕ → Fold
is b = Some (numeral_of b)

unfoldable pub rows : List Row
rows =
    -- 7 % -3 is -2, with the divisor's sign
    record { op = Mod; left = 0x401c000000000000; right = 0xc008000000000000; answer = is 0xc000000000000000 }
    -- -5.5 % 2 is 0.5
    ∷ record { op = Mod; left = 0xc016000000000000; right = 0x4000000000000000; answer = is 0x3fe0000000000000 }
    -- -0.0 % 5 is 0.0
    ∷ record { op = Mod; left = 0x8000000000000000; right = 0x4014000000000000; answer = is 0 }
    -- 5 % infinity is a NaN
    ∷ record { op = Mod; left = 0x4014000000000000; right = 0x7ff0000000000000; answer = None }
    -- 5 % 0
    ∷ record { op = Mod; left = 0x4014000000000000; right = 0; answer = None }
    -- 1 / 0, 1 / -0.0 and 0 / 0
    ∷ record { op = Div; left = 0x3ff0000000000000; right = 0; answer = None }
    ∷ record { op = Div; left = 0x3ff0000000000000; right = 0x8000000000000000; answer = None }
    ∷ record { op = Div; left = 0; right = 0; answer = None }
    -- 1.5 + 2.25 is 3.75
    ∷ record { op = Add; left = 0x3ff8000000000000; right = 0x4002000000000000; answer = is 0x400e000000000000 }
    -- 0.1 + 0.2 is 0.30000000000000004
    ∷ record { op = Add; left = 0x3fb999999999999a; right = 0x3fc999999999999a; answer = is 0x3fd3333333333334 }
    -- 1e308 * 10 is an infinity
    ∷ record { op = Mul; left = 0x7fe1ccf385ebc8a0; right = 0x4024000000000000; answer = is 0x7ff0000000000000 }
    -- 2 ^ 3
    ∷ record { op = Pow; left = 0x4000000000000000; right = 0x4008000000000000; answer = None }
    -- the negation of 0.0 is -0.0, and that of a NaN is one
    ∷ record { op = Unm; left = 0; right = 0; answer = is 0x8000000000000000 }
    ∷ record { op = Unm; left = 0x7ff8000000000000; right = 0; answer = None }
    ∷ []

unfoldable pub found : List Row → List Fold
found [] = []
found (r ∷ l) = fold_of r.op (of_bits binary64 r.left) (of_bits binary64 r.right) ∷ found l

unfoldable pub expected : List Row → List Fold
expected [] = []
expected (r ∷ l) = r.answer ∷ expected l
