-- `jumps::patch_jump` meets its contract, by those of `word_at`, `offset`, `set_sbx` and `put_word`. Assumes nothing.
use Rattle.jumps.proofs.Signed.{held}
use Rattle.model.specs.Jumps.{patch_jump}
use Rattle.jumps.specs.Walk.{patch_some}
use Rattle.jumps.proofs.patch_jump.Goals as goal

pub returns-then-list-eq0 : goal.returns-then-list-eq0
unfolding patch_jump
returns-then-list-eq0 c = rw c.if-list-eq0.true

pub returns : goal.returns
returns c = rw (patch_some _ _ _ c.if-list-eq0.false, c.word_at.ensures, c.offset.ensures, rw (held _ c.offset.type_inv) at c.set_sbx-patched.ensures) c.put_word.ensures
