-- `jumps::retest` meets its contract where the register is another than the tested one (proofs/Words.antt); the cases of the same one and of none are found. Assumes nothing.
use Rattle.std.proofs.Common.{arith, ◌∙◌}
use Rattle.jumps.proofs.Words.{retest_other}
use Rattle.jumps.proofs.retest.Goals as goal

pub returns : goal.returns
returns c = retest_other _ _ (λ e. omega (arith, e, c.b-own.ensures)) (λ e. omega arith) ∙ c.set_a.ensures
