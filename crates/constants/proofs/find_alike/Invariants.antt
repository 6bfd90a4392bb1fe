-- `constants::find_alike` meets its contract. The loop's invariant: no entry below i is the text.
use Rattle.constants.specs.Texts.{is_text}
use Rattle.constants.proofs.Steps.{Passed}
use Rattle.constants.proofs.find_alike.Given as goal

abbrev pub invariant-loop-i : goal.invariant-loop-i
invariant-loop-i l = Passed (is_text l.pool l.text) l.kinds l.values l.i
