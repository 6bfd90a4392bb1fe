-- Emitting words, registers and constants keep the tails clean: a word goes with its line to the first free place, and a new constant to the first free entry, with its text behind those in use.
-- ---- constants
use Rattle.std.specs.Prelude.{ℕ, List}
use Rattle.std.proofs.Math.Path.{refl}
use Rattle.constants.specs.declared.Val.{Val}
use Rattle.model.specs.Emission.{add_constant}
use Rattle.model.specs.Lowering.{Sizes}
use Rattle.padding.specs.Clean.{Keeps}
use Rattle.padding.specs.Emission.{grows_added, stored_leaves}

module _ {z : Sizes} where
  pub keeps_add_constant : (chunk : List ℕ) (v : Val) → Keeps z (add_constant chunk v)
  unfolding add_constant
  keeps_add_constant chunk v s m c = stored_leaves chunk v s m _ _ _ _ refl (grows_added chunk s.table v m.kinds m.values m.pool) c
