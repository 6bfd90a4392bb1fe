-- `lowering::lower` meets its contract: clearing, form check, the scratch's length, then the lowering give what the definition says (`entry`), and with it demands 1 and 3. Assumes nothing.
use lib.ListN.{length}
use Rattle.model.specs.Steps.{bufs}
use Rattle.lowering.specs.Entry.{at_unformed, at_short, at_done, at_refused}
use Rattle.lowering.specs.Running.{entry}
use native.Mathlib.Omega.{arith}
use Rattle.std.proofs.lemmas.Result.{err_from_is_err_and}
use Rattle.lowering.proofs.lower.Goals as goal

pub returns-then-scratch-n : goal.returns-then-scratch-n
returns-then-scratch-n c = entry _ c.args.chunk.now (λ i. omega (arith, c.type_inv.chunk i)) _ (at_short (bufs c.args.code.now c.args.lines.now c.args.kinds.now c.args.values.now c.args.pool.now) c.args.chunk.now (length c.args.scratch.now) c.clear.ensures (omega (arith, c.clear.auto)) c.check_form.ensures c.in_ok-n.was (omega (arith, c.if-scratch-n.true, c.check_form.auto.scratch)) c.clear_scratch.ensures (omega (arith, c.check_form.auto.scratch, c.clear_scratch.auto.scratch)))

pub returns-in-Ok : goal.returns-in-Ok
returns-in-Ok c = entry _ c.args.chunk.now (λ i. omega (arith, c.type_inv.chunk i)) _ (at_done (bufs c.args.code.now c.args.lines.now c.args.kinds.now c.args.values.now c.args.pool.now) c.args.chunk.now (length c.args.scratch.now) c.clear.ensures (omega (arith, c.clear.auto)) c.check_form.ensures c.in_ok-n.was (omega (arith, c.if-scratch-n.false, c.check_form.auto.scratch)) c.lower_cleared.ensures c.in-Ok.is)

pub returns-in-Err : goal.returns-in-Err
returns-in-Err c = entry _ c.args.chunk.now (λ i. omega (arith, c.type_inv.chunk i)) _ (at_refused (bufs c.args.code.now c.args.lines.now c.args.kinds.now c.args.values.now c.args.pool.now) c.args.chunk.now (length c.args.scratch.now) c.clear.ensures (omega (arith, c.clear.auto)) c.check_form.ensures c.in_ok-n.was (omega (arith, c.if-scratch-n.false, c.check_form.auto.scratch)) c.lower_cleared.ensures c.in-Err.is c.clear_scratch-in-Err.ensures (omega (arith, c.check_form.auto.scratch, c.clear_scratch-in-Err.auto.scratch)))

pub returns-in_err-n : goal.returns-in_err-n
returns-in_err-n c =
    let p = err_from_is_err_and c.from_residual.result c.from_residual.ensures.1 in
    rw (p.1, p.2) (entry _ c.args.chunk.now (λ i. omega (arith, c.type_inv.chunk i)) _ (at_unformed (bufs c.args.code.now c.args.lines.now c.args.kinds.now c.args.values.now c.args.pool.now) c.args.chunk.now (length c.args.scratch.now) c.clear.ensures (omega (arith, c.clear.auto)) c.check_form.ensures c.in_err-n.was))
