-- `controller::tell` meets its contract: zeros, and over them the four counts; beside a refusal zeros alone. Assumes nothing.
use lib.ListN.{length}
use Rattle.controller.specs.Laws.{tell_done, tell_refused}
use Rattle.controller.proofs.tell.Goals as goal

pub returns-in-Ok : goal.returns-in-Ok
returns-in-Ok c = tell_done (length c.args.counts.now) c.clear.ensures _ c.in-Ok.is c.put.ensures c.put-in-Ok.ensures c.put-in-Ok-2.ensures c.put-in-Ok-3.ensures

pub returns-in-Err : goal.returns-in-Err
returns-in-Err c = tell_refused (length c.args.counts.now) c.clear.ensures c.in-Err.is c.from.ensures
