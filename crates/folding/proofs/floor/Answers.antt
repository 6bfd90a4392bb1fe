-- Below 2 ^ 52 the truncated number is exact (`Whole`); everything else is a whole number, an infinity or NaN already.
use lib.Ieee.{of_bits, neg}
use Rattle.folding.proofs.Whole.{high_whole, low_whole, zero_whole, above_zero, below_zero, negated, cut_asks, cut_small, above, below_whole, below_part}
use Rattle.std.proofs.Common.{arith}
use Rattle.folding.proofs.floor.Goals as goal

pub truncating_f64_to_u64-q-requires-clause-lower_bound : goal.truncating_f64_to_u64-q-requires-clause-lower_bound
unfolding of_bits neg
truncating_f64_to_u64-q-requires-clause-lower_bound c = (cut_asks (negated (below_zero c.args.x c.if-x-3.true c.if-x-2.true))).0

pub truncating_f64_to_u64-q-requires-clause-upper_bound : goal.truncating_f64_to_u64-q-requires-clause-upper_bound
unfolding of_bits neg
truncating_f64_to_u64-q-requires-clause-upper_bound c = (cut_asks (negated (below_zero c.args.x c.if-x-3.true c.if-x-2.true))).1

pub returns-then-nearest_u64_to_f64-y : goal.returns-then-nearest_u64_to_f64-y
unfolding of_bits neg
returns-then-nearest_u64_to_f64-y c =
    below_whole c.well_formed.0.1 (below_zero c.args.x c.if-x-3.true c.if-x-2.true)
    (rw (← c.truncating_f64_to_u64-q.ensures, ← c.nearest_u64_to_f64.ensures) c.if-nearest_u64_to_f64-y.true)

pub overflow_add-q : goal.overflow_add-q
unfolding of_bits neg
overflow_add-q c = omega (arith, cut_small (negated (below_zero c.args.x c.if-x-3.true c.if-x-2.true)), c.truncating_f64_to_u64-q.ensures)

pub returns-then-x-3 : goal.returns-then-x-3
unfolding of_bits neg
returns-then-x-3 c =
    rw (c.nearest_u64_to_f64-then-x-3.ensures, c.truncating_f64_to_u64-q.ensures)
    (below_part (below_zero c.args.x c.if-x-3.true c.if-x-2.true)
    (rw (← c.truncating_f64_to_u64-q.ensures, ← c.nearest_u64_to_f64.ensures) c.if-nearest_u64_to_f64-y.false))

pub truncating_f64_to_u64-requires-clause-lower_bound : goal.truncating_f64_to_u64-requires-clause-lower_bound
unfolding of_bits
truncating_f64_to_u64-requires-clause-lower_bound c = (cut_asks (above_zero c.args.x c.if-x-4.true c.if-x.true)).0

pub truncating_f64_to_u64-requires-clause-upper_bound : goal.truncating_f64_to_u64-requires-clause-upper_bound
unfolding of_bits
truncating_f64_to_u64-requires-clause-upper_bound c = (cut_asks (above_zero c.args.x c.if-x-4.true c.if-x.true)).1

pub returns-then-x-4 : goal.returns-then-x-4
unfolding of_bits
returns-then-x-4 c = rw (c.nearest_u64_to_f64-then-x-4.ensures, c.truncating_f64_to_u64.ensures) (above c.well_formed.0.1 (above_zero c.args.x c.if-x-4.true c.if-x.true))

pub returns-else-x-4 : goal.returns-else-x-4
unfolding of_bits
returns-else-x-4 c = zero_whole c.args.x c.well_formed.0.1 c.if-x-3.false c.if-x-4.false

pub returns-else-x-2 : goal.returns-else-x-2
unfolding of_bits neg
returns-else-x-2 c = low_whole c.args.x c.well_formed.0.1 c.if-x-2.false

pub returns-else-x : goal.returns-else-x
unfolding of_bits
returns-else-x c = high_whole c.args.x c.well_formed.0.1 c.if-x.false
