-- The header by the code's steps: the names skipped a text at a turn, by the definition of `names_at`, and the test of the varargs bit, at each of the four maps. Assumes nothing.
use Prim.Native.Nat.{ℕ, zero, suc, ◌-◌, ◌/◌, ◌%◌, ◌<◌, ◌≤◌}
use Rattle.std.specs.Prelude.{◌≡◌, List, eqb, leb, Some, None}
use Rattle.std.proofs.Math.Path.{refl}
use native.Mathlib.Omega.{arith}
use Rattle.cursor.specs.Fields.{text_at, end_of}
use Rattle.cursor.specs.declared.Text.{Text}
use Rattle.chunk.specs.Headers.{Names, names, missing, before, names_at, skipped}

-- a turn of the loop over the names, at a count that the code lowers by one
module _ (s : List ℕ) (at : ℕ) where
  skip_before : (t : Text) (r : Names) → skipped (before t r) ≡ skipped r
  skip_before t (names ts n) = refl
  skip_before t missing = refl

  pub skip_more : (k : ℕ) (t : Text) → 0 < k → text_at s at ≡ Some t → skipped (names_at s k at) ≡ skipped (names_at s (k - 1) (end_of t))
  unfolding names_at
  skip_more zero t h e = absurd (omega arith)
  skip_more (suc k) t h e = let q : suc k - 1 ≡ k = omega arith in rw q (rw e (skip_before t (names_at s k (end_of t))))

  pub skip_cut : (k : ℕ) → 0 < k → text_at s at ≡ None → skipped (names_at s k at) ≡ None
  unfolding names_at
  skip_cut zero h e = absurd (omega arith)
  skip_cut (suc k) h e = rw e

  pub skip_end : (k : ℕ) → k ≤ 0 → skipped (names_at s k at) ≡ Some at
  unfolding names_at
  skip_end zero h = refl
  skip_end (suc k) h = absurd (omega arith)

-- a map is at most 3, so that its bit 1 stands from 2 on
pub varargs_bit : (m : ℕ) → m ≤ 3 → eqb (m / 2 % 2) 1 ≡ leb 2 m
varargs_bit zero h = refl
varargs_bit (suc zero) h = refl
varargs_bit (suc (suc zero)) h = refl
varargs_bit (suc (suc (suc zero))) h = refl
varargs_bit (suc (suc (suc (suc m)))) h = absurd (omega arith)
