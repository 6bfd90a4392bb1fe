-- `constants::append` meets its contract: each arm's call stores the definition's entry for its constant.
use Rattle.constants.specs.Table.{append}
use Rattle.constants.proofs.Steps.{append_truth}
use Rattle.constants.proofs.append.Goals as goal

pub returns-in-Nil : goal.returns-in-Nil
unfolding append
returns-in-Nil c = rw c.in-Nil.is (c.store.ensures c.args.pool.now)

pub returns-in-Bool : goal.returns-in-Bool
returns-in-Bool c =
    let a = c.args in
    rw (c.in-Bool.is, append_truth, c.truth_kind.ensures) (c.store-in-Bool.ensures a.pool.now)

pub returns-in-Num : goal.returns-in-Num
unfolding append
returns-in-Num c = rw c.in-Num.is (c.store-in-Num.ensures c.args.pool.now)

pub returns-in-Str : goal.returns-in-Str
unfolding append
returns-in-Str c = rw (c.in-Str.is, c.part.ensures) c.store_text.ensures
