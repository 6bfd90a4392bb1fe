-- `jumps::get_jump_target` meets its contract, by those of `word_at`, `sbx` and `behind`; the list behind a word of the code fits, since no code is near 2 ^ 64 words. Assumes nothing.
use native.Mathlib.Omega.{arith}
use Rattle.model.specs.Jumps.{get_jump_target}
use Rattle.jumps.specs.Walk.{target_some}
use Rattle.jumps.proofs.Signed.{held, fitting}
use Rattle.jumps.proofs.get_jump_target.Goals as goal

pub returns-then-list-eq0 : goal.returns-then-list-eq0
unfolding get_jump_target
returns-then-list-eq0 c = rw c.if-list-eq0.true

pub behind-requires : goal.behind-requires
behind-requires c = rw (held _ c.sbx.type_inv, ← c.sbx.ensures, ← c.word_at.ensures) (fitting c.args.code.now c.args.list (omega arith) (omega arith))

pub returns : goal.returns
returns c = rw (target_some _ _ c.if-list-eq0.false, c.word_at.ensures, c.sbx.ensures) (rw (held _ c.sbx.type_inv) at c.behind.ensures)
