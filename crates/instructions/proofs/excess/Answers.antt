-- `instructions::excess` meets its contract: what is added is 131,071 modulo the field, and large enough for every `i32`. Assumes nothing.
use Rattle.instructions.proofs.Signed.{modulo}
use native.Mathlib.Omega.{arith}
use Rattle.instructions.proofs.excess.Goals as goal

pub returns : goal.returns
returns c = modulo _ c.ranges.v _ (omega arith) (omega arith) (omega arith)
