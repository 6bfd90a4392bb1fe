-- That the hypotheses of `suffices` can be met: by P1 of document 01 with what its length alone asks for, and by P4 with the buffers that `weavelist` lends. P4 is refused with 10, the one refusal that is left (model/specs/Rows.antt).
-- By computing the form.
use Rattle.std.specs.Prelude.{◌≡◌}
use Rattle.refusals.specs.declared.Refusal.{Refusal}
use Rattle.refusals.specs.declared.Refusal.TheVariants as refusal
use Rattle.std.specs.Prelude as answer
use Rattle.model.specs.Lowering.{lowered}
use Rattle.model.specs.Rows.{weavelist}
use Rattle.bound.proofs.Suffices.{suffices, by_length}
use Rattle.bound.specs.Examples.{for_p1, p1, p1_bytes, p1_counted, p1_lends, p4, p4_bytes, p4_counted, p4_suffices}

-- so it is lowered, or refused with 10
p1_only_registers : (x : Refusal) → (lowered for_p1 p1).answer ≡ answer.Err x → x ≡ refusal.Registers
p1_only_registers = suffices for_p1 p1 p1_bytes p1_counted.tree p1_counted.form (by_length for_p1 p1 p1_counted.tree p1_counted.form p1_lends)

p4_only_registers : (x : Refusal) → (lowered weavelist p4).answer ≡ answer.Err x → x ≡ refusal.Registers
p4_only_registers = suffices weavelist p4 p4_bytes p4_counted.tree p4_counted.form p4_suffices
