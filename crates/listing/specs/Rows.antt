-- Document 01's own example of the list, and its line for a refusal, computed. Assumes nothing.
use Rattle.std.specs.Prelude.{◌≡◌, refl, [], ◌∷◌, Some, None}
use Rattle.refusals.specs.declared.Refusal.TheVariants as refusal
use Rattle.std.specs.Prelude as answer
use Rattle.listing.specs.Listing.{ascii, decimal, hex, word_lines, constant_lines, listing}
use Rattle.listing.specs.Page.{sheet, written}
use Rattle.buffers.specs.Pad.{pad}

-- 1 + x, with zeros behind the result
pub one_plus_x :
    listing (answer.Ok (record { words = 3; constants = 2; text = 1; frame = 2 })) (5 ∷ 2155872268 ∷ 16777246 ∷ 0 ∷ []) (1 ∷ 1 ∷ 1 ∷ 0 ∷ []) (4 ∷ 3 ∷ 0 ∷ []) (1 ∷ 4607182418800017408 ∷ 0 ∷ [])
    ≡ ascii "words 3 constants 2 text 1\n0 1 00000005\n1 1 8080000c\n2 1 0100001e\nc0 4 0000000000000001\nc1 3 3ff0000000000000\n"
unfolding decimal hex word_lines constant_lines
one_plus_x = refl

pub refused_kind : listing (answer.Err refusal.Kind) [] [] [] [] ≡ ascii "refused 4\n"
unfolding decimal
refused_kind = refl

-- numbers at the edges: no leading zeros in decimal, all 16 digits in hex
pub numbers : decimal 20 0 ≡ ascii "0"
unfolding decimal
numbers = refl

pub largest : decimal 20 18446744073709551615 ≡ ascii "18446744073709551615"
unfolding decimal
largest = refl

pub tens : decimal 20 100 ≡ ascii "100"
unfolding decimal
tens = refl

pub digits : hex 16 18364758544493064720 ≡ ascii "fedcba9876543210"
unfolding hex
digits = refl

-- a buffer that just fits, one that is longer, one that is too short
pub fits : written 2 (65 ∷ 66 ∷ []) ≡ sheet (Some 2) (65 ∷ 66 ∷ [])
unfolding written pad
fits = refl

pub longer : written 4 (65 ∷ 66 ∷ []) ≡ sheet (Some 2) (65 ∷ 66 ∷ 0 ∷ 0 ∷ [])
unfolding written pad
longer = refl

pub too_short : written 1 (65 ∷ 66 ∷ []) ≡ sheet None (0 ∷ [])
unfolding written pad
too_short = refl
