-- That the hypotheses of `suffices` can be met: by P1 of document 01 with what its length alone asks for, and by P4 with the buffers that `weavelist` lends. P4 is refused with 10, the one refusal that is left (model/specs/Rows.antt).
-- By computing the form.
-- What rests on something that a must-fail edit breaks stands in proofs/Examples.antt.
use Rattle.std.specs.Prelude.{ℕ, ◌≡◌, refl, List, [], ◌∷◌, length}
use Rattle.std.proofs.Common.{arith}
use Rattle.cursor.specs.Fields.{has_bytes, byte_at, line_at, bits_at, text_at}
use Rattle.ast.specs.Kinds.{kind_of}
use Rattle.nodes.specs.Nodes.{fields_at, node_at}
use Rattle.ast.specs.Operators.{bin_op_of, un_op_of}
use Rattle.chunk.specs.Ast.{Chunk, spans, spans_of}
use Rattle.chunk.specs.Form.{formed, exprs_at, rest, expr_at, ended, form_of}
use Rattle.chunk.specs.Headers.{names_at, formulas_at, header_at}
use Rattle.model.specs.Claims.{Bytes}
use Rattle.model.specs.Lowering.{Sizes}
use Rattle.model.specs.Rows.{weavelist, nils}
use Rattle.faithful.specs.Examples.{all_bytes, each_byte}
use Rattle.bound.specs.Bounded.{nodes}
use Rattle.bound.specs.Suffices.{Suffices, Lends}

-- a chunk that has the form, with its nodes counted
pub record Counted (chunk : List ℕ) (n : ℕ) : Type 0 where
  pub tree : Chunk
  pub form : form_of chunk ≡ formed tree
  pub count : nodes tree ≡ n

-- P1: 1 + x
abbrev pub p1 : List ℕ
p1 = 0 ∷ 1 ∷ 7 ∷ 8 ∷ 0 ∷ 3 ∷ 2 ∷ 0 ∷ 0 ∷ 0 ∷ 0 ∷ 0 ∷ 0 ∷ 240 ∷ 63 ∷ 6 ∷ 4 ∷ 1 ∷ 0 ∷ 120 ∷ []

pub p1_bytes : Bytes p1
unfolding all_bytes
p1_bytes = each_byte p1 refl

pub p1_counted : Counted p1 3
unfolding has_bytes byte_at line_at bits_at text_at kind_of fields_at node_at bin_op_of un_op_of spans spans_of exprs_at rest expr_at ended form_of names_at formulas_at header_at
p1_counted = record { tree = _; form = refl; count = refl }

-- for its 20 bytes
abbrev pub for_p1 : Sizes
for_p1 = record { code = 81; lines = 81; kinds = 10; values = 10; pool = 20; scratch = 10 }

pub p1_lends : Lends for_p1 (length p1)
p1_lends = record { short = omega arith; code = omega arith; lines = omega arith; kinds = omega arith; values = omega arith; pool = omega arith; scratch = omega arith }

-- P4: 251 nils
abbrev pub p4 : List ℕ
p4 = 0 ∷ 251 ∷ nils 251 []

pub p4_bytes : Bytes p4
unfolding all_bytes nils
p4_bytes = each_byte p4 refl

pub p4_counted : Counted p4 251
unfolding has_bytes byte_at line_at bits_at text_at kind_of fields_at node_at bin_op_of un_op_of spans spans_of exprs_at rest expr_at ended form_of names_at formulas_at header_at nils
p4_counted = record { tree = _; form = refl; count = refl }

p4_length : length p4 ≡ 504
unfolding nils
p4_length = refl

pub p4_suffices : Suffices weavelist p4 p4_counted.tree
p4_suffices = record {
  few = omega (arith, p4_counted.count);
  code = omega (arith, p4_counted.count);
  lines = omega (arith, p4_counted.count);
  kinds = omega (arith, p4_counted.count);
  values = omega (arith, p4_counted.count);
  pool = omega (arith, p4_length);
  scratch = omega (arith, p4_counted.count);
}
