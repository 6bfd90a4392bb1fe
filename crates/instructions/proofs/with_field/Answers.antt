-- `instructions::with_field` meets its contract: the whole is below 2 ^ 32 by `set_lt`, and so is each part of it. Assumes nothing.
-- what stands above the place, with the field
use Prim.Native.Nat.{ℕ, ◌+◌, ◌*◌, ◌/◌, ◌%◌, ◌<◌, ◌^◌}
use Rattle.std.proofs.Common.{◌≡◌}
use native.Mathlib.Nat.{le-mul_of_pos_right}
use Rattle.instructions.specs.Field.{set_at}
use Rattle.instructions.specs.Laws.{set_lt}
use native.Mathlib.Omega.{arith}
use borrow.Author.Rules.{rules}
use Rattle.instructions.proofs.with_field.Goals as goal

whole : (place size x v : ℕ) → (0 < place) × (0 < size) × (2 ^ 32 / (place * size) * size * place ≡ 2 ^ 32) → x < 2 ^ 32 → set_at place size x v < 2 ^ 32
whole place size x v r below = rw (← r.2) (set_lt place size _ x v r.0 r.1 (rw r.2 below))

upper : (place size x v : ℕ) → 0 < place → set_at place size x v < 2 ^ 32 → x / place / size * size + v % size < 2 ^ 32
unfolding set_at
upper place size x v p h = omega (arith, h, le-mul_of_pos_right {m = place} (x / place / size * size + v % size) p)

pub overflow_add-result : goal.overflow_add-result
overflow_add-result c = omega (arith, upper c.args.place c.args.size c.args.x c.args.v c.requires.0 (whole c.args.place c.args.size c.args.x c.args.v c.requires (omega arith)))

pub overflow_mul-result-2 : goal.overflow_mul-result-2
unfolding set_at
overflow_mul-result-2 c = omega (arith, whole c.args.place c.args.size c.args.x c.args.v c.requires (omega arith))

pub overflow_add-result-2 : goal.overflow_add-result-2
unfolding set_at
overflow_add-result-2 c = omega (arith, whole c.args.place c.args.size c.args.x c.args.v c.requires (omega arith))

pub returns : goal.returns
unfolding set_at
returns c = search rules
