-- `jumps::patch_test_reg` meets its contract, by those of `control`, `word_at`, `is_test_set`, `retest` and `put_word`. Assumes nothing.
use Rattle.model.specs.Jumps.{patch_test_reg}
use Rattle.jumps.proofs.patch_test_reg.Goals as goal

pub returns-then-is_test_set : goal.returns-then-is_test_set
unfolding patch_test_reg
returns-then-is_test_set c = (rw (c.control-at.ensures, c.word_at-w.ensures, c.is_test_set.ensures) c.if-is_test_set.true, simp (patch_test_reg, c.control-at.ensures, c.word_at-w.ensures, c.is_test_set.ensures, c.if-is_test_set.true, c.retest.ensures, c.put_word.ensures))

pub returns : goal.returns
unfolding patch_test_reg
returns c = (rw (c.control-at.ensures, c.word_at-w.ensures, c.is_test_set.ensures) c.if-is_test_set.false, simp (patch_test_reg, c.control-at.ensures, c.word_at-w.ensures, c.is_test_set.ensures, c.if-is_test_set.false))
