-- What is above 37 lies past the end of the list of opcodes.
use Rattle.std.proofs.Common.{arith, ◌≤◌}
use Rattle.std.proofs.Math.ListN.{get_or-eq_default}
use Rattle.opcodes.specs.OpCodes.{op_codes, op_code_of}
use Rattle.opcodes.specs.declared.OpCode.TheVariants.{Move}
use Rattle.opcodes.proofs.OpCodeFromU32.from.Goals as goal

pub returns-in_default : goal.returns-in_default
unfolding op_code_of
returns-in_default c = let above : 38 ≤ c.args.n = omega arith in get_or-eq_default op_codes Move above
