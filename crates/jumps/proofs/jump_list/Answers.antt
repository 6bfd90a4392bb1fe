-- By whether it is a word.
use borrow.Author.Tests.{lt-ltb, le-ltb}
use Rattle.model.specs.Jumps.{jump_list}
use Rattle.jumps.proofs.jump_list.Goals as goal

pub returns-then-pc-lt-MAX_WORDS : goal.returns-then-pc-lt-MAX_WORDS
unfolding jump_list
returns-then-pc-lt-MAX_WORDS c = simp (jump_list, lt-ltb _ _ c.if-pc-lt-MAX_WORDS.true)

pub returns : goal.returns
unfolding jump_list
returns c = simp (jump_list, le-ltb _ _ c.if-pc-lt-MAX_WORDS.false)
