-- `has_bytes` is true just where a field ends within the bytes; so what was read lies in them.
-- A field that was read isn't what stands for missing bytes, so its test of `has_bytes` was true. Assumes nothing.
use Rattle.std.specs.Prelude.{ℕ, ◌+◌, ◌≤◌, ◌<◌, List, Bool, true, false, length, get_or, Option, Some, None}
use Rattle.std.proofs.Math.Path.{◌≡◌, refl}
use Rattle.std.proofs.Common.{arith}
use borrow.Author.Tests.{le-leb, lt-leb, leb-true}
use Rattle.cursor.specs.declared.Text.{Text}
use Rattle.cursor.specs.Fields.{le2, le4, le8, has_bytes, byte_at, line_at, bits_at, text_at, end_of}

module _ (s : List ℕ) (at n : ℕ) where
  pub has_yes : at + n ≤ length s → has_bytes s at n ≡ true
  unfolding has_bytes
  has_yes h = le-leb (at + n) (length s) h

  pub has_no : length s < at + n → has_bytes s at n ≡ false
  unfolding has_bytes
  has_no h = lt-leb (at + n) (length s) h

  pub has_true : has_bytes s at n ≡ true → at + n ≤ length s
  unfolding has_bytes
  has_true e = leb-true (at + n) (length s) e

-- what was read lies in the bytes: it isn't what stands for missing ones
module _ (s : List ℕ) (at : ℕ) where
  there : {A : Type 0} (n : ℕ) (a b r : A) → (b ≡ r → ⊥) → elim (has_bytes s at n) [ true ↦ a | false ↦ b ] ≡ r → at + n ≤ length s
  there n a b r differ e = go (has_bytes s at n) refl e
    where
      go : (t : Bool) → has_bytes s at n ≡ t → elim t [ true ↦ a | false ↦ b ] ≡ r → at + n ≤ length s
      go true h g = has_true s at n h
      go false h g = absurd (differ g)

  pub byte_inside : (b : ℕ) → byte_at s at ≡ Some b → at + 1 ≤ length s
  unfolding byte_at
  byte_inside b e = there 1 (Some (get_or s at 0)) None (Some b) (λ q. let z : ◌≡◌ {A = ℕ} 0 1 = cc in omega arith) e

  pub line_inside : (l : ℕ) → line_at s at ≡ Some l → at + 4 ≤ length s
  unfolding line_at
  line_inside l e = there 4 (Some (le4 s at)) None (Some l) (λ q. let z : ◌≡◌ {A = ℕ} 0 1 = cc in omega arith) e

  pub bits_inside : (b : ℕ) → bits_at s at ≡ Some b → at + 8 ≤ length s
  unfolding bits_at
  bits_inside b e = there 8 (Some (le8 s at)) None (Some b) (λ q. let z : ◌≡◌ {A = ℕ} 0 1 = cc in omega arith) e

  pub text_inside : (t : Text) → text_at s at ≡ Some t → (at + 2 ≤ end_of t) × (end_of t ≤ length s)
  unfolding text_at
  text_inside t e = go (has_bytes s at 2) (has_bytes s (at + 2) (le2 s at)) refl e
    where
      whole : Text
      whole = record { start = at + 2; len = le2 s at }

      go : (u v : Bool) → has_bytes s (at + 2) (le2 s at) ≡ v
          → ◌≡◌ {A = Option Text} (elim u [ true ↦ elim v [ true ↦ Some whole | false ↦ None ] | false ↦ None ]) (Some t)
          → (at + 2 ≤ end_of t) × (end_of t ≤ length s)
      go true true h g = let k : whole ≡ t = cc in rw (← k) (omega arith, has_true s (at + 2) (le2 s at) h)
      go true false h g = absurd (let z : ◌≡◌ {A = ℕ} 0 1 = cc in omega arith)
      go false v h g = absurd (let z : ◌≡◌ {A = ℕ} 0 1 = cc in omega arith)
