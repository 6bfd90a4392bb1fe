-- `program::weavelist` meets its contract: the list of `list_input` is whole, since none is longer than the page (`read_whole`). Assumes nothing.
use Rattle.std.proofs.Common.{◌≤◌, arith}
use Rattle.program.specs.Fits.{read_whole}
use Rattle.program.proofs.weavelist.Goals as goal

pub returns : goal.returns
returns c =
    let within : c.list_input.result.read ≤ 65537 = omega arith in
    (read_whole c.list_input.result.read _ (omega arith) c.list_input.ensures.1 c.list_input.ensures.0, within)
