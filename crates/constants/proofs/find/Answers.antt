-- `constants::find` meets its contract where the kind alone decides: the kind's position is what the search finds.
use Rattle.std.proofs.Common.{ap, arith, eqb}
use Rattle.constants.specs.Entry.{nil, constant_of, holds, entry_of, same}
use Rattle.constants.proofs.Steps.{found_by, found_kind, holds_kind, holds_truth}
use Rattle.constants.proofs.find.Goals as goal

pub returns-in-Nil : goal.returns-in-Nil
unfolding entry_of same
returns-in-Nil c =
    let a = c.args in
    found_by (holds a.pool.now a.chunk.now a.v) (λ k w. eqb k 0) a.count c.min.result c.min-n.result a.kinds.now a.values.now (omega arith) (omega arith)
    (holds_kind a.pool.now a.chunk.now a.v nil (ap (constant_of a.chunk.now) c.in-Nil.is))
    (found_kind 0 c.min-n.result a.kinds.now a.values.now c.find_kind.ensures (omega arith) (omega arith))

pub returns-in-Bool : goal.returns-in-Bool
returns-in-Bool c =
    let a = c.args in
    found_by (holds a.pool.now a.chunk.now a.v) (λ k w. eqb k c.truth_kind.result) a.count c.min.result c.min-n.result a.kinds.now a.values.now (omega arith) (omega arith)
    (holds_truth a.pool.now a.chunk.now a.v c.in-Bool.b (ap (constant_of a.chunk.now) c.in-Bool.is) c.truth_kind.ensures)
    (found_kind c.truth_kind.result c.min-n.result a.kinds.now a.values.now c.find_kind-in-Bool.ensures (omega arith) (omega arith))
