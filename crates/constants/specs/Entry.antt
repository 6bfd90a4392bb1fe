-- Constants and the entries that hold them (document 01, "Constants"). Assumes nothing.
use Rattle.std.specs.Prelude.{ℕ, zero, suc, ◌+◌, ◌/◌, ◌%◌, ◌≤◌, List, [], ◌∷◌, Bool, true, false, get_or, take, drop, eqb}
use Rattle.std.proofs.Math.Option.{Option, some, none}
use Rattle.constants.specs.declared.Val.{Val}
use Rattle.constants.specs.declared.Val.TheVariants as val

-- the len bytes from start, as far as there are any
abbrev pub part : List ℕ → ℕ → ℕ → List ℕ
part l start len = take len (drop start l)

-- a constant: numbers are told apart by their bits, texts by their bytes
pub data Constant : Type 0 where
  nil : Constant
  truth : Bool → Constant
  number : ℕ → Constant
  text : List ℕ → Constant

-- what `Val` stands for, its text lying in the chunk
abbrev pub constant_of : List ℕ → Val → Constant
constant_of chunk val.Nil = nil
constant_of chunk (val.Bool b) = truth b
constant_of chunk (val.Num x b) = number b
constant_of chunk (val.Str s n) = text (part chunk s n)

-- what an entry's kind and value stand for, its text lying in the pool: 0 nil, 1 false, 2 true, 3 number, 4 text (start × 65,536 + length); no other kind is a constant's
unfoldable pub entry_of : List ℕ → ℕ → ℕ → Option Constant
entry_of pool zero w = some nil
entry_of pool (suc zero) w = some (truth false)
entry_of pool (suc (suc zero)) w = some (truth true)
entry_of pool (suc (suc (suc zero))) w = some (number w)
entry_of pool (suc (suc (suc (suc zero)))) w = some (text (part pool (w / 65536) (w % 65536)))
entry_of pool (suc (suc (suc (suc (suc k))))) w = none

-- the kind of a constant's entry
abbrev pub kind_of : Constant → ℕ
kind_of nil = 0
kind_of (truth false) = 1
kind_of (truth true) = 2
kind_of (number b) = 3
kind_of (text l) = 4

-- the constant of entry i
abbrev pub constant_at : List ℕ → List ℕ → List ℕ → ℕ → Option Constant
constant_at pool ks ws i = entry_of pool (get_or ks i 0) (get_or ws i 0)

-- the text of the value w, start × 65,536 + length, lies in the first `used` bytes
abbrev pub Inside : ℕ → ℕ → Type 0
Inside used w = w / 65536 + w % 65536 ≤ used

unfoldable pub same_bytes : List ℕ → List ℕ → Bool
same_bytes [] [] = true
same_bytes [] (y ∷ b) = false
same_bytes (x ∷ a) [] = false
same_bytes (x ∷ a) (y ∷ b) = elim (eqb x y) [ true ↦ same_bytes a b | false ↦ false ]

abbrev pub same_truth : Bool → Bool → Bool
same_truth true b = b
same_truth false true = false
same_truth false false = true

unfoldable pub same : Constant → Constant → Bool
same nil nil = true
same (truth a) (truth b) = same_truth a b
same (number a) (number b) = eqb a b
same (text a) (text b) = same_bytes a b
same nil (truth b) = false
same nil (number b) = false
same nil (text b) = false
same (truth a) nil = false
same (truth a) (number b) = false
same (truth a) (text b) = false
same (number a) nil = false
same (number a) (truth b) = false
same (number a) (text b) = false
same (text a) nil = false
same (text a) (truth b) = false
same (text a) (number b) = false

-- whether what an entry stands for, if anything, is the constant c
abbrev pub is_constant : Option Constant → Constant → Bool
is_constant none c = false
is_constant (some d) c = same d c

-- whether the entry of kind k and value w is the constant v
unfoldable pub holds : List ℕ → List ℕ → Val → ℕ → ℕ → Bool
holds pool chunk v k w = is_constant (entry_of pool k w) (constant_of chunk v)
