-- Each arm is `fields_at` at its kind: here those whose kind has no fields, and those whose head a closure makes of a text or an operator.
use Rattle.std.proofs.Common.{arith}
use Rattle.std.proofs.lemmas.Grind.{common_steps}
use Rattle.ast.specs.Refused.{bin_op_refused, un_op_refused}
use Rattle.nodes.specs.Nodes.{fields_at}
use Rattle.nodes.proofs.node.read_fields.Goals as goal

pub returns-in-Nil : goal.returns-in-Nil
unfolding fields_at
returns-in-Nil c = rw c.in-Nil.is c.bare.ensures

pub returns-in-True : goal.returns-in-True
unfolding fields_at
returns-in-True c = rw c.in-True.is c.bare-in-True.ensures

pub returns-in-False : goal.returns-in-False
unfolding fields_at
returns-in-False c = rw c.in-False.is c.bare-in-False.ensures

pub returns-in-Index : goal.returns-in-Index
unfolding fields_at
returns-in-Index c = rw c.in-Index.is c.bare-in-Index.ensures

pub returns-in-Paren : goal.returns-in-Paren
unfolding fields_at
returns-in-Paren c = rw c.in-Paren.is c.bare-in-Paren.ensures

pub returns-in-Str : goal.returns-in-Str
unfolding fields_at
returns-in-Str c = rw c.in-Str.is (grind (arith, common_steps))

pub returns-in-Name : goal.returns-in-Name
unfolding fields_at
returns-in-Name c = rw c.in-Name.is (grind (arith, common_steps))

pub returns-in-Field : goal.returns-in-Field
unfolding fields_at
returns-in-Field c = rw c.in-Field.is (grind (arith, common_steps))

pub returns-in-Binary : goal.returns-in-Binary
unfolding fields_at
returns-in-Binary c = rw c.in-Binary.is (grind (arith, common_steps, bin_op_refused))

pub returns-in-Unary : goal.returns-in-Unary
unfolding fields_at
returns-in-Unary c = rw c.in-Unary.is (grind (arith, common_steps, un_op_refused))
