-- Signed numbers as 32 bits hold them: what the tests and differences of `behind` and `offset` say of the number itself. Assumes nothing.
use Prim.Native.Nat.{ℕ, zero, suc, ◌+◌, ◌-◌, ◌%◌, ◌<◌, ◌≤◌, ◌^◌}
use mathlib.Core.Bool.{Bool, true, false, cond}
use mathlib.Core.List.{List}
use mathlib.Core.Path.{◌≡◌, refl, sym, ap, ◌∙◌}
use native.Mathlib.Omega.{arith}
use lib.Dec.{T, ltb}
use lib.IntN.{ℤ, pos, negsuc, neg_ℤ, nat_abs, ◌+ℤ◌, ◌-ℤ◌, +ℤ_assoc, neg_ℤ-+ℤ}
use lib.ListN.{length, get_or-eq_default}
use lib.Signed.{non_neg, le_z, mag}
use borrow.Author.Tests.{le-ltb, ltb-true, ltb-false, leb-false}
use mir.Syntax.{w32, w64}
use mir.Val.{Fits, SFits, to_z, of_z}
use mir.ValLaws.{to_z_pos, to_z-of_z}
use Rattle.instructions.specs.Limits.{bx_size}
use Rattle.instructions.specs.Word.{sbx_of, excess}
use Rattle.instructions.specs.Laws.{InSbx, sbx_in, sbx_zero}
use Rattle.instructions.specs.Offset.{excess_modulo}
use Rattle.model.specs.Jumps.{word, behind}
use Rattle.jumps.specs.Walk.{Fitting}

-- a number that 32 bits hold is what they are read as
pub held : (v : ℤ) → mag v < 2 ^ 31 → to_z w32 (of_z w32 v) ≡ v
held v h = to_z-of_z w32 v (record { sfits = h })

-- ---- the list behind a jump

-- the bits of -1
pub at_end : (list : ℕ) (v : ℤ) → SFits w32 v → of_z w32 v ≡ 4294967295 → behind (list - 1) v ≡ 0
at_end list (pos n) f e = absurd (omega arith)
at_end list (negsuc zero) f e = refl
at_end list (negsuc (suc n)) f e = absurd (omega arith)

-- v as the machine reads it
module _ (list : ℕ) (v : ℤ) (f : SFits w32 v) (p : Fitting list v) where
  abbrev value : ℤ
  value = to_z w32 (of_z w32 v)

  is : value ≡ v
  is = to_z-of_z w32 v f

  module _ (t : le_z (pos 0) value ≡ true) where
    pub ahead : T (non_neg value) × Fits w64 (nat_abs value)
    ahead = rw is (go v f (rw is at t))
      where
        go : (v : ℤ) → SFits w32 v → le_z (pos 0) v ≡ true → T (non_neg v) × Fits w64 (nat_abs v)
        go (pos n) f t = (tt, record { fits = omega arith })
        go (negsuc n) f t = absurd (let z : ◌≡◌ {A = ℕ} 0 1 = cc in omega arith)

    pub ahead_fits : list + 1 + nat_abs value < 2 ^ 64
    ahead_fits = rw is (go v p (rw is at t))
      where
        go : (v : ℤ) → Fitting list v → le_z (pos 0) v ≡ true → list + 1 + nat_abs v < 2 ^ 64
        go (pos n) p t = p.1
        go (negsuc n) p t = absurd (let z : ◌≡◌ {A = ℕ} 0 1 = cc in omega arith)

    pub ahead_is : behind (list - 1) v ≡ list + 1 + nat_abs value
    ahead_is = rw is (go v p (rw is at t))
      where
        go : (v : ℤ) → Fitting list v → le_z (pos 0) v ≡ true → behind (list - 1) v ≡ list + 1 + nat_abs v
        go (pos n) p t = omega (arith, p.0)
        go (negsuc n) p t = absurd (let z : ◌≡◌ {A = ℕ} 0 1 = cc in omega arith)

  module _ (t : le_z (pos 0) value ≡ false) where
    less : negsuc 0 -ℤ value ≡ pos (mag v)
    less = rw is (go v (rw is at t))
      where
        go : (v : ℤ) → le_z (pos 0) v ≡ false → negsuc 0 -ℤ v ≡ pos (mag v)
        go (pos n) t = absurd (omega (arith, leb-false 0 n t))
        go (negsuc n) t = rw (le-ltb (suc n) 1 (omega arith)) (ap pos (omega arith))

    small : mag v < 2 ^ 31
    small = f.sfits

    pub back_fits : SFits w32 (negsuc 0 -ℤ value)
    back_fits = rw less (record { sfits = small })

    back : to_z w32 (of_z w32 (negsuc 0 -ℤ value)) ≡ pos (mag v)
    back = rw less (to_z_pos w32 (mag v) small)

    pub back_cast : T (non_neg (to_z w32 (of_z w32 (negsuc 0 -ℤ value)))) × Fits w64 (nat_abs (to_z w32 (of_z w32 (negsuc 0 -ℤ value))))
    back_cast = rw back (tt, record { fits = omega (arith, small) })

    module _ (n : of_z w32 v ≡ 4294967295 → ⊥) where
      pub back_none : list ≤ nat_abs (to_z w32 (of_z w32 (negsuc 0 -ℤ value))) → behind (list - 1) v ≡ 0
      back_none h = go v p (rw is at t) n (rw back at h)
        where
          go : (v : ℤ) → Fitting list v → le_z (pos 0) v ≡ false → (of_z w32 v ≡ 4294967295 → ⊥) → list ≤ mag v → behind (list - 1) v ≡ 0
          go (pos n) p t e h = absurd (omega (arith, leb-false 0 n t))
          go (negsuc zero) p t e h = refl
          go (negsuc (suc n)) p t e h = omega arith

      pub back_is : nat_abs (to_z w32 (of_z w32 (negsuc 0 -ℤ value))) < list → behind (list - 1) v ≡ list - nat_abs (to_z w32 (of_z w32 (negsuc 0 -ℤ value)))
      back_is h = rw back (go v p (rw is at t) n)
        where
          go : (v : ℤ) → Fitting list v → le_z (pos 0) v ≡ false → (of_z w32 v ≡ 4294967295 → ⊥) → behind (list - 1) v ≡ list - mag v
          go (pos n) p t e = absurd (omega (arith, leb-false 0 n t))
          go (negsuc zero) p t e = absurd (e refl)
          go (negsuc (suc n)) p t e = omega arith

near : (list w : ℕ) → 0 < list → list < 2 ^ 63 + 1 → Fitting list (sbx_of w)
near list w h k = go (sbx_of w) (sbx_in w)
  where
    go : (v : ℤ) → InSbx v → Fitting list v
    go (pos n) i = (h, omega (arith, i))
    go (negsuc n) i = h

zeros : (list : ℕ) → 0 < list → Fitting list (sbx_of 0)
zeros list h = rw sbx_zero h

-- a word's own jump leads to at most the 131,073rd word behind it, and past the end all words are 0, whose jump leads back
pub fitting : (code : List ℕ) (list : ℕ) → 0 < list → length code < 2 ^ 63 → Fitting list (sbx_of (word code (list - 1)))
fitting code list h l = go (ltb (list - 1) (length code)) refl
  where
    go : (t : Bool) → ltb (list - 1) (length code) ≡ t → Fitting list (sbx_of (word code (list - 1)))
    go true e = near list (word code (list - 1)) h (omega (arith, ltb-true (list - 1) (length code) e))
    go false e = rw (get_or-eq_default code 0 (ltb-false (list - 1) (length code) e)) (zeros list h)

-- ---- the difference of two words

less_fits : (a b : ℕ) → a < 2 ^ 30 → b < 2 ^ 30 → SFits w32 (pos a -ℤ pos b)
less_fits a zero h l = record { sfits = omega arith }
less_fits a (suc b) h l = go (ltb a (suc b))
  where
    go : (t : Bool) → SFits w32 (cond t (negsuc (suc b - suc a)) (pos (a - suc b)))
    go true = record { sfits = omega arith }
    go false = record { sfits = omega arith }

-- one less
lower : (a b : ℕ) → pos a -ℤ pos b -ℤ pos 1 ≡ pos a -ℤ pos (b + 1)
lower a b = +ℤ_assoc (pos a) (neg_ℤ (pos b)) (negsuc 0) ∙ ap (λ (z : ℤ). pos a +ℤ z) (sym (neg_ℤ-+ℤ (pos b) (pos 1)))

module _ (a b : ℕ) where
  abbrev difference : ℤ
  difference = to_z w32 (a % bx_size) -ℤ to_z w32 (b % bx_size)

  plain : difference ≡ pos (a % bx_size) -ℤ pos (b % bx_size)
  plain = rw (to_z_pos w32 (a % bx_size) (omega arith), to_z_pos w32 (b % bx_size) (omega arith))

  pub difference_fits : SFits w32 difference
  difference_fits = rw plain (less_fits (a % bx_size) (b % bx_size) (omega arith) (omega arith))

  lowered : to_z w32 (of_z w32 difference) -ℤ pos 1 ≡ pos (a % bx_size) -ℤ pos (b % bx_size + 1)
  lowered = rw (to_z-of_z w32 difference difference_fits, plain) (lower (a % bx_size) (b % bx_size))

  pub lowered_fits : SFits w32 (to_z w32 (of_z w32 difference) -ℤ pos 1)
  lowered_fits = rw lowered (less_fits (a % bx_size) (b % bx_size + 1) (omega arith) (omega arith))

  pub lowered_is : excess (pos a -ℤ pos (b + 1)) ≡ excess (to_z w32 (of_z w32 (to_z w32 (of_z w32 difference) -ℤ pos 1)))
  lowered_is =
      rw (to_z-of_z w32 (to_z w32 (of_z w32 difference) -ℤ pos 1) lowered_fits, lowered)
      (excess_modulo a (b + 1) (a % bx_size) (b % bx_size + 1) (omega arith))
