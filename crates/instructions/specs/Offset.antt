-- The signed field holds a difference of two words modulo the field, so only the remainders of the two count. Assumes nothing.
use Rattle.std.specs.Prelude.{ℕ, zero, suc, ◌+◌, ◌-◌, ◌%◌, Bool, true, false, cond, ◌≡◌, refl, ltb, pos, negsuc, ◌-ℤ◌}
use Rattle.std.proofs.Common.{sym, ◌∙◌, arith, ltb-true, ltb-false}
use Rattle.instructions.specs.Limits.{bx_size, max_arg_sbx}
use Rattle.instructions.specs.Word.{excess}

-- what the field holds for a - b, with no signed number: a + (131,071 - b) modulo the field
pub excess_less : (a b : ℕ) → excess (pos a -ℤ pos b) ≡ (a + max_arg_sbx + (bx_size - b % bx_size)) % bx_size
unfolding excess
excess_less a zero = omega arith
excess_less a (suc b) = go (ltb a (suc b)) refl
  where
    go : (t : Bool) → ltb a (suc b) ≡ t → excess (cond t (negsuc (suc b - suc a)) (pos (a - suc b))) ≡ (a + max_arg_sbx + (bx_size - suc b % bx_size)) % bx_size
    go true e = omega (arith, ltb-true a (suc b) e)
    go false e = omega (arith, ltb-false a (suc b) e)

-- what is added to both sides modulo the field may be taken away
cancel : (p q k : ℕ) → (p + k) % bx_size ≡ (q + k) % bx_size → p % bx_size ≡ q % bx_size
cancel p q k h = omega arith

-- a + 131,071 - b + (b + d)
without : (a b d k : ℕ) → k ≡ b + d → (a + max_arg_sbx + (bx_size - b % bx_size) + k) % bx_size ≡ (a + d + max_arg_sbx) % bx_size
without a b d k e = omega arith

-- two differences that are equal modulo the field
pub excess_modulo : (a b c d : ℕ) → (a + d) % bx_size ≡ (c + b) % bx_size → excess (pos a -ℤ pos b) ≡ excess (pos c -ℤ pos d)
excess_modulo a b c d h =
    let moved : (a + d + max_arg_sbx) % bx_size ≡ (c + b + max_arg_sbx) % bx_size = omega arith in
    rw (excess_less a b, excess_less c d)
    (cancel
    (a + max_arg_sbx + (bx_size - b % bx_size))
    (c + max_arg_sbx + (bx_size - d % bx_size))
    (b + d)
    (without a b d (b + d) refl ∙ moved ∙ sym (without c d b (b + d) (omega arith))))
