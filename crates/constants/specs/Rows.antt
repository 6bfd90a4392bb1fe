-- Worked examples: what `added` answers to constants one after another, from an empty table over zeros unless said. They hold by computation. Assumes nothing.
use Rattle.std.specs.Prelude.{ℕ, ◌≡◌, refl, true, false, List, [], ◌∷◌, None, Ok, Err}
use Rattle.std.proofs.Math.Option.{some}
use Rattle.std.specs.Float.{binary64}
use Rattle.std.specs.Float.Ieee.{of_bits, eq}
use Rattle.refusals.specs.declared.Refusal.TheVariants.{Constants, Pool}
use Rattle.constants.specs.declared.Val.{Val}
use Rattle.constants.specs.declared.Val.TheVariants as val
use Rattle.constants.specs.declared.Table.{Table}
use Rattle.constants.specs.Entry.{nil, entry_of, same_bytes, same, holds}
use Rattle.constants.specs.Table.{out, find, append, added, Added}

abbrev table : ℕ → ℕ → Table
table count used = record { count = count; used = used }

-- the table after an answer
abbrev after : Table → Added → Table
after t (Ok (i, t')) = t'
after t (Err r) = t

unfoldable pub answers : List ℕ → Table → List Val → List ℕ → List ℕ → List ℕ → List Added
answers chunk t [] ks ws pool = []
answers chunk t (v ∷ vs) ks ws pool =
    let o = added chunk t v ks ws pool in
    o.answer ∷ answers chunk (after t o.answer) vs o.kinds o.values o.pool

-- a number by its bits
abbrev bits : ℕ → Val
bits b = val.Num (of_bits binary64 b) b

abbrev zeros : List ℕ
zeros = 0 ∷ 0 ∷ 0 ∷ []

-- the name x and then the string "x", each with its own byte in the chunk: one entry, and the table is unchanged
pub name_and_string : answers (120 ∷ 1 ∷ 120 ∷ []) (table 0 0) (val.Str 0 1 ∷ val.Str 2 1 ∷ []) zeros zeros zeros ≡ Ok (0, (table 1 1)) ∷ Ok (0, (table 1 1)) ∷ []
unfolding answers added find holds entry_of same same_bytes append
name_and_string = refl

-- 0.0 and -0.0 are equal as doubles, and two entries
pub equal_zeros : eq (of_bits binary64 0) (of_bits binary64 9223372036854775808) ≡ true
unfolding eq of_bits
equal_zeros = refl

pub two_zeros : answers [] (table 0 0) (bits 0 ∷ bits 9223372036854775808 ∷ []) zeros zeros zeros ≡ Ok (0, (table 1 0)) ∷ Ok (1, (table 2 0)) ∷ []
unfolding answers added find holds entry_of same append
two_zeros = refl

-- a NaN is unequal to itself as a double, and one entry; other bits are another
pub unequal_nans : eq (of_bits binary64 9221120237041090561) (of_bits binary64 9221120237041090561) ≡ false
unfolding eq of_bits
unequal_nans = refl

pub equal_nans : answers [] (table 0 0) (bits 9221120237041090561 ∷ bits 9221120237041090561 ∷ bits 9221120237041090562 ∷ []) zeros zeros zeros
    ≡ Ok (0, (table 1 0)) ∷ Ok (0, (table 1 0)) ∷ Ok (1, (table 2 0)) ∷ []
unfolding answers added find holds entry_of same append
equal_nans = refl

-- zeros look like entries of nil, and aren't seen where they aren't in the table: nil isn't found, gets entry 0, and is then found there
pub zeros_are_nil : entry_of zeros 0 0 ≡ some nil
unfolding entry_of
zeros_are_nil = refl

pub nil_not_found : find (holds zeros [] val.Nil) 0 zeros zeros ≡ None
unfolding find
nil_not_found = refl

pub nil_twice : answers [] (table 0 0) (val.Bool true ∷ val.Nil ∷ val.Nil ∷ []) zeros zeros zeros ≡ Ok (0, (table 1 0)) ∷ Ok (1, (table 2 0)) ∷ Ok (1, (table 2 0)) ∷ []
unfolding answers added find holds entry_of same append
nil_twice = refl

-- kinds and the pool both full: 11
pub eleven_before_twelve : added (97 ∷ []) (table 1 3) (val.Str 0 1) (0 ∷ []) zeros zeros ≡ out (Err Constants) (0 ∷ []) zeros zeros
unfolding added find holds entry_of same
eleven_before_twelve = refl

-- a text longer than the pool: 12
pub too_long : added (97 ∷ 98 ∷ 99 ∷ 100 ∷ []) (table 0 0) (val.Str 0 4) zeros zeros zeros ≡ out (Err Pool) zeros zeros zeros
unfolding added find append
too_long = refl

-- the empty text takes no byte of a full pool
pub empty_text : added [] (table 0 3) (val.Str 0 0) zeros zeros zeros ≡ out (Ok (0, (table 1 3))) (4 ∷ 0 ∷ 0 ∷ []) (196608 ∷ 0 ∷ 0 ∷ []) zeros
unfolding added find append
empty_text = refl
