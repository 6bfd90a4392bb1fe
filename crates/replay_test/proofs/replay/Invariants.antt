-- `replay_test::replay` ends: the measure is what is left of the list. Assumes nothing.
use Rattle.std.proofs.Common.{length}
use Rattle.replay_test.proofs.replay.Given as goal

abbrev pub decreases-loop-list : goal.decreases-loop-list
decreases-loop-list l = length l.list
