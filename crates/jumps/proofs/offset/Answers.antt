-- `jumps::offset` meets its contract: the difference of the remainders is the difference modulo the field (specs/Offset.antt). Assumes nothing.
use Rattle.jumps.proofs.Signed.{lowered_is}
use Rattle.jumps.proofs.offset.Goals as goal

pub returns : goal.returns
returns c = lowered_is c.args.target c.args.pc
