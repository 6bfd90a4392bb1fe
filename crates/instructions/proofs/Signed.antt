-- Signed numbers as 32 and 64 bits hold them: a small number less another fits an `i32`, and an `i32` with 2 ^ 31 or more added is a natural number.
-- Assumes nothing.
use Prim.Native.Nat.{ℕ, suc, ◌+◌, ◌-◌, ◌%◌, ◌<◌, ◌≤◌, ◌^◌}
use mathlib.Core.Bool.{Bool, true, false, cond}
use mathlib.Core.Path.{◌≡◌, refl}
use native.Mathlib.Omega.{arith}
use lib.IntN.{ℤ, pos, negsuc, ◌+ℤ◌, nat_abs}
use lib.Dec.{T, ltb}
use lib.Signed.{non_neg}
use borrow.Author.Tests.{le-ltb}
use mir.Syntax.{w32, w64}
use mir.Val.{Fits, SFits, to_z, of_z}
use mir.ValLaws.{to_z_pos, to_z-of_z}
use Rattle.instructions.specs.Limits.{bx_size, max_arg_sbx}
use Rattle.instructions.specs.Word.{excess}

-- the machine's steps from r to r - (k + 1)
module _ (r k : ℕ) (h : r < 2 ^ 31) (l : k < 2 ^ 31) where
  pub less_fits : SFits w32 (to_z w32 r +ℤ negsuc k)
  less_fits = rw (to_z_pos w32 r h) (go (ltb r (suc k)))
    where
      go : (t : Bool) → SFits w32 (cond t (negsuc (suc k - suc r)) (pos (r - suc k)))
      go true = record { sfits = omega arith }
      go false = record { sfits = omega arith }

  pub less_is : pos r +ℤ negsuc k ≡ to_z w32 (of_z w32 (to_z w32 r +ℤ negsuc k))
  less_is = rw (to_z-of_z w32 (to_z w32 r +ℤ negsuc k) less_fits, to_z_pos w32 r h)

-- v + k, where that is no less than 0
abbrev raised : ℕ → ℤ → ℕ
raised k (pos n) = n + k
raised k (negsuc n) = k - suc n

-- the machine's steps from v to v + k, and to that modulo the field
module _ (v : ℤ) (f : SFits w32 v) where
  pub wider : SFits w64 (to_z w32 (of_z w32 v))
  wider = rw (to_z-of_z w32 v f) (record { sfits = omega arith })

  module _ (k : ℕ) (l : 2 ^ 31 ≤ k) (h : k < 2 ^ 62) where
    abbrev sum : ℤ
    sum = to_z w64 (of_z w64 (to_z w32 (of_z w32 v))) +ℤ pos k

    sum_is : sum ≡ pos (raised k v)
    sum_is = rw (to_z-of_z w64 (to_z w32 (of_z w32 v)) wider, to_z-of_z w32 v f) (go v f)
      where
        go : (v : ℤ) → SFits w32 v → v +ℤ pos k ≡ pos (raised k v)
        go (pos n) f = refl
        go (negsuc n) f = rw (le-ltb k (suc n) (omega arith))

    small : raised k v < 2 ^ 63
    small = go v f
      where
        go : (v : ℤ) → SFits w32 v → raised k v < 2 ^ 63
        go (pos n) f = omega arith
        go (negsuc n) f = omega arith

    back : to_z w64 (of_z w64 sum) ≡ pos (raised k v)
    back = rw sum_is (to_z_pos w64 (raised k v) small)

    pub sum_fits : SFits w64 sum
    sum_fits = rw sum_is (record { sfits = small })

    pub not_less : T (non_neg (to_z w64 (of_z w64 sum))) × Fits w64 (nat_abs (to_z w64 (of_z w64 sum)))
    not_less = rw back (tt, record { fits = omega (arith, small) })

    pub modulo : k % bx_size ≡ max_arg_sbx → excess v ≡ nat_abs (to_z w64 (of_z w64 sum)) % bx_size
    unfolding excess
    modulo e = rw back (go v f)
      where
        go : (v : ℤ) → SFits w32 v → excess v ≡ raised k v % bx_size
        go (pos n) f = omega arith
        go (negsuc n) f = omega arith
