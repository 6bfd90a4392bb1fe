-- Each arm is `fields_at` at its kind: what its function ensures, or a node with no fields. An operator that is refused is so with 4.
use Rattle.std.proofs.Common.{refl, inl, inr, arith}
use Rattle.std.proofs.lemmas.Grind.{common_steps}
use Rattle.ast.specs.Refused.{bin_op_refused, un_op_refused}
use Rattle.nodes.specs.Nodes.{fields_at}
use Rattle.nodes.proofs.skip.skip_fields.Goals as goal

pub returns-in-Nil : goal.returns-in-Nil
unfolding fields_at
returns-in-Nil c = elim c.in-Nil.is [ inl e ↦ rw e c.ends.ensures | inr d ↦ elim d [ inl e ↦ rw e c.ends.ensures | inr e ↦ rw e c.ends.ensures ] ]

pub returns-in-Str : goal.returns-in-Str
unfolding fields_at
returns-in-Str c = elim c.in-Str.is [ inl e ↦ rw e (c.skip_text.ensures _ (λ _. refl)) | inr e ↦ rw e (c.skip_text.ensures _ (λ _. refl)) ]

pub returns-in-Index : goal.returns-in-Index
unfolding fields_at
returns-in-Index c = rw c.in-Index.is c.ends-in-Index.ensures

pub returns-in-Field : goal.returns-in-Field
unfolding fields_at
returns-in-Field c = rw c.in-Field.is (c.skip_text-in-Field.ensures _ (λ _. refl))

pub returns-in-Call : goal.returns-in-Call
unfolding fields_at
returns-in-Call c = rw c.in-Call.is (c.skip_call.ensures _)

pub returns-in-Paren : goal.returns-in-Paren
unfolding fields_at
returns-in-Paren c = rw c.in-Paren.is c.ends-in-Paren.ensures

pub returns-in-Binary : goal.returns-in-Binary
unfolding fields_at
returns-in-Binary c = rw c.in-Binary.is (grind (arith, common_steps, bin_op_refused))

pub returns-in-Unary : goal.returns-in-Unary
unfolding fields_at
returns-in-Unary c = rw c.in-Unary.is (grind (arith, common_steps, un_op_refused))
