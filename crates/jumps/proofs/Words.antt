-- `retest` by its three cases. Of a register only what fits the field A counts. Assumes nothing.
use Prim.Native.Nat.{ℕ, ◌%◌}
use mathlib.Core.Bool.{or-true}
use mathlib.Core.Path.{◌≡◌, sym}
use lib.Dec.{eqb}
use borrow.Author.Tests.{eq-eqb, ne_eqb}
use Rattle.instructions.specs.Limits.{a_size, no_reg}
use Rattle.instructions.specs.Word.{b_of, c_of, set_a_of, abc_of}
use Rattle.instructions.specs.Laws.{set_a_mod}
use Rattle.opcodes.specs.declared.OpCode.TheVariants.{Test}
use Rattle.model.specs.Jumps.{retest}

module _ (reg w : ℕ) where
  pub retest_own : reg ≡ b_of w → retest reg w ≡ abc_of Test (b_of w) 0 (c_of w)
  unfolding retest
  retest_own e = simp (retest, eq-eqb _ _ e, or-true (eqb reg no_reg))

  pub retest_none : reg ≡ no_reg → retest reg w ≡ abc_of Test (b_of w) 0 (c_of w)
  unfolding retest
  retest_none e = simp (retest, eq-eqb _ _ e)

  pub retest_other : (reg ≡ b_of w → ⊥) → (reg ≡ no_reg → ⊥) → retest reg w ≡ set_a_of w (reg % a_size)
  unfolding retest
  retest_other e h = simp (retest, ne_eqb _ _ h, ne_eqb _ _ e) (sym (set_a_mod w reg))
