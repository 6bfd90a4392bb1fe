-- `replay_test::build` ends further on in the list: each piece does. Assumes nothing.
use Rattle.std.proofs.Common.{◌<◌, length}
use Rattle.replay_test.proofs.build.Given as goal

abbrev pub invariant-loop : goal.invariant-loop
invariant-loop l = length l.end < length l.list
