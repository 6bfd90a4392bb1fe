-- `instructions::Instruction::sbx` meets its contract: Bx is below 2 ^ 18, so Bx less 131,071 fits. Assumes nothing.
use Rattle.std.proofs.Common.{◌≡◌, ℕ, ◌<◌}
use Rattle.instructions.specs.Limits.{bx_place, bx_size}
use Rattle.instructions.specs.Laws.{get_lt}
use Rattle.instructions.specs.Word.{bx_of, sbx_of}
use Rattle.instructions.proofs.Signed.{less_fits, less_is}
use native.Mathlib.Omega.{arith}
use borrow.Author.Rules.{rules}
use Rattle.instructions.proofs.Instruction.sbx.Goals as goal

small : (w b : ℕ) → bx_of w ≡ b → b < bx_size
small w b e = rw (← e) (get_lt bx_place bx_size w (search rules))

pub overflow_cast-result : goal.overflow_cast-result
overflow_cast-result c = record { sfits = omega (arith, small _ _ c.bx-b.ensures) }

pub overflow_sub-result : goal.overflow_sub-result
overflow_sub-result c = less_fits c.bx-b.result _ (omega (arith, small _ _ c.bx-b.ensures)) (omega arith)

pub returns : goal.returns
unfolding sbx_of
returns c = rw c.bx-b.ensures (less_is c.bx-b.result _ (omega (arith, small _ _ c.bx-b.ensures)) (omega arith))
