-- Behind the text stands the count of a call.
use Rattle.std.proofs.Common.{◌≡◌, ◌∙◌, arith}
use Rattle.std.specs.Prelude.{Some}
use Rattle.cursor.specs.Fields.{text_at}
use Rattle.nodes.specs.Nodes.{fields_at}
use Rattle.nodes.proofs.skip.skip_method_call.Goals as goal

pub returns : goal.returns
unfolding fields_at
returns c =
    let there : c.read_text.result ≡ Some c.in_ok-t.t = grind arith in
    let text : text_at c.args.chunk.now c.args.at ≡ Some c.in_ok-t.t = c.read_text.ensures ∙ there in
    λ va. rw text (c.skip_call.ensures _)
