-- Worked examples of the form: chunks and what document 01 says of each, computed by the definition. Assumes nothing.
use Rattle.std.specs.Prelude.{ℕ, zero, suc, ◌+◌, ◌≡◌, refl, List, [], ◌∷◌, Bool, true, false, length, replicate}
use Rattle.refusals.specs.Number.{number_of}
use Rattle.cursor.specs.Fields.{has_bytes, byte_at, line_at, bits_at, text_at}
use Rattle.ast.specs.Kinds.{kind_of}
use Rattle.ast.specs.Operators.{bin_op_of, un_op_of}
use Rattle.nodes.specs.Nodes.{fields_at, node_at}
use Rattle.ast.specs.declared.BinOp.TheVariants as op
use Rattle.ast.specs.declared.Leaf.TheVariants as leaf
use Rattle.ast.specs.declared.Two.TheVariants as two
use Rattle.chunk.specs.Ast.{Span, leaf as leaf_of, two as two_of, none, more, spans, spans_of}
use Rattle.chunk.specs.Headers.{names_at, formulas_at, header_at}
use Rattle.chunk.specs.Form.{exprs_at, rest, expr_at, Formed, formed, unformed, ended, form_of}

-- the refusal's number; or how many locals, whether there are varargs, and where the nodes stand in reading order
pub data Answer : Type 0 where
  refused : ℕ → Answer
  accepted : ℕ → Bool → List Span → Answer

abbrev pub answer_of : Formed → Answer
answer_of (unformed k) = refused (number_of k)
answer_of (formed c) = accepted (length c.names) c.varargs (spans_of c.formulas)

pub record Row : Type 0 where
  pub chunk : List ℕ
  pub answer : Answer

abbrev at : ℕ → ℕ → ℕ → Span
at place line nesting = record { line = line; place = place; nesting = nesting }

-- 1 + x
abbrev sum : List ℕ
sum = 0x00 ∷ 0x01 ∷ 0x07 ∷ 0x08 ∷ 0x00 ∷ 0x03 ∷ 0x02 ∷ 0x00 ∷ 0x00 ∷ 0x00 ∷ 0x00 ∷ 0x00 ∷ 0x00 ∷ 0xf0 ∷ 0x3f ∷ 0x06 ∷ 0x04 ∷ 0x01 ∷ 0x00 ∷ 0x78 ∷ []

-- as many parentheses opened before the rest; and where as many nodes stand in each other
abbrev opened : ℕ → List ℕ → List ℕ
opened zero l = l
opened (suc n) l = 0x0d ∷ 0x00 ∷ opened n l

abbrev stairs : ℕ → ℕ → ℕ → List Span
stairs zero place nesting = []
stairs (suc n) place nesting = at place 1 nesting ∷ stairs n (place + 2) (nesting + 1)

unfoldable pub rows : List Row
rows =
    -- 1 + x
    record { chunk = sum; answer = accepted 0 false (at 2 1 1 ∷ at 5 1 2 ∷ at 15 1 2 ∷ []) }
    -- no formula; locals, of which there are none, and no formula
    ∷ record { chunk = 0x00 ∷ 0x00 ∷ []; answer = accepted 0 false [] }
    ∷ record { chunk = 0x01 ∷ 0x00 ∷ 0x00 ∷ []; answer = accepted 0 false [] }
    -- varargs and two locals, the second with an empty name; the length of an empty string
    ∷ record { chunk = 0x03 ∷ 0x02 ∷ 0x01 ∷ 0x00 ∷ 0x61 ∷ 0x00 ∷ 0x00 ∷ 0x01 ∷ 0x08 ∷ 0x08 ∷ 0x02 ∷ 0x04 ∷ 0x04 ∷ 0x00 ∷ 0x00 ∷ []; answer = accepted 2 true (at 8 1 1 ∷ at 11 1 2 ∷ []) }
    -- the header: no byte; no formula count; a map with bit 2; 201 locals, and 200 without their names; a name cut in its length and in its bytes; locals and no formula count
    ∷ record { chunk = []; answer = refused 2 }
    ∷ record { chunk = 0x00 ∷ []; answer = refused 2 }
    ∷ record { chunk = 0x04 ∷ []; answer = refused 3 }
    ∷ record { chunk = 0x01 ∷ 0xc9 ∷ []; answer = refused 6 }
    ∷ record { chunk = 0x01 ∷ 0xc8 ∷ []; answer = refused 2 }
    ∷ record { chunk = 0x01 ∷ 0x01 ∷ 0x01 ∷ []; answer = refused 2 }
    ∷ record { chunk = 0x01 ∷ 0x01 ∷ 0x02 ∷ 0x00 ∷ 0x61 ∷ []; answer = refused 2 }
    ∷ record { chunk = 0x01 ∷ 0x00 ∷ []; answer = refused 2 }
    -- a node: no kind byte; kind 14, with no map behind it; a kind and no map
    ∷ record { chunk = 0x00 ∷ 0x01 ∷ []; answer = refused 2 }
    ∷ record { chunk = 0x00 ∷ 0x01 ∷ 0x0e ∷ []; answer = refused 4 }
    ∷ record { chunk = 0x00 ∷ 0x01 ∷ 0x00 ∷ []; answer = refused 2 }
    -- maps: nil with bit 5 and with a number's bit, a number without it, a method call without a count
    ∷ record { chunk = 0x00 ∷ 0x01 ∷ 0x00 ∷ 0x20 ∷ []; answer = refused 3 }
    ∷ record { chunk = 0x00 ∷ 0x01 ∷ 0x00 ∷ 0x02 ∷ []; answer = refused 3 }
    ∷ record { chunk = 0x00 ∷ 0x01 ∷ 0x03 ∷ 0x00 ∷ []; answer = refused 3 }
    ∷ record { chunk = 0x00 ∷ 0x01 ∷ 0x0b ∷ 0x04 ∷ []; answer = refused 3 }
    -- cut fields: a line, a number, a text, an operator, a count behind its text
    ∷ record { chunk = 0x00 ∷ 0x01 ∷ 0x00 ∷ 0x01 ∷ 0x05 ∷ 0x00 ∷ 0x00 ∷ []; answer = refused 2 }
    ∷ record { chunk = 0x00 ∷ 0x01 ∷ 0x03 ∷ 0x02 ∷ 0x00 ∷ 0x00 ∷ 0x00 ∷ 0x00 ∷ 0x00 ∷ 0x00 ∷ 0xf0 ∷ []; answer = refused 2 }
    ∷ record { chunk = 0x00 ∷ 0x01 ∷ 0x04 ∷ 0x04 ∷ 0x03 ∷ 0x00 ∷ 0x61 ∷ 0x62 ∷ []; answer = refused 2 }
    ∷ record { chunk = 0x00 ∷ 0x01 ∷ 0x07 ∷ 0x08 ∷ []; answer = refused 2 }
    ∷ record { chunk = 0x00 ∷ 0x01 ∷ 0x0b ∷ 0x14 ∷ 0x01 ∷ 0x00 ∷ 0x6d ∷ []; answer = refused 2 }
    -- unknown operators: 15 of two operands, 3 of one
    ∷ record { chunk = 0x00 ∷ 0x01 ∷ 0x07 ∷ 0x08 ∷ 0x0f ∷ []; answer = refused 4 }
    ∷ record { chunk = 0x00 ∷ 0x01 ∷ 0x08 ∷ 0x08 ∷ 0x03 ∷ []; answer = refused 4 }
    -- a vararg in a chunk without varargs, the same with a cut line, and in a chunk with varargs
    ∷ record { chunk = 0x00 ∷ 0x01 ∷ 0x05 ∷ 0x00 ∷ []; answer = refused 7 }
    ∷ record { chunk = 0x00 ∷ 0x01 ∷ 0x05 ∷ 0x01 ∷ 0x00 ∷ 0x00 ∷ []; answer = refused 2 }
    ∷ record { chunk = 0x02 ∷ 0x01 ∷ 0x05 ∷ 0x00 ∷ []; answer = accepted 0 true (at 2 1 1 ∷ []) }
    -- a child and a formula that aren't there
    ∷ record { chunk = 0x00 ∷ 0x01 ∷ 0x0d ∷ 0x00 ∷ []; answer = refused 2 }
    ∷ record { chunk = 0x00 ∷ 0x02 ∷ 0x00 ∷ 0x00 ∷ []; answer = refused 2 }
    -- a byte behind the last formula, and behind none
    ∷ record { chunk = 0x00 ∷ 0x01 ∷ 0x00 ∷ 0x00 ∷ 0x00 ∷ []; answer = refused 8 }
    ∷ record { chunk = 0x00 ∷ 0x00 ∷ 0x00 ∷ []; answer = refused 8 }
    -- nil, then (true) with the lines 7 and 265, then false: lines are carried from formula to formula
    ∷ record { chunk = 0x00 ∷ 0x03 ∷ 0x00 ∷ 0x00 ∷ 0x0d ∷ 0x01 ∷ 0x07 ∷ 0x00 ∷ 0x00 ∷ 0x00 ∷ 0x01 ∷ 0x01 ∷ 0x09 ∷ 0x01 ∷ 0x00 ∷ 0x00 ∷ 0x02 ∷ 0x00 ∷ []; answer = accepted 0 false (at 2 1 1 ∷ at 4 7 1 ∷ at 10 265 2 ∷ at 16 265 1 ∷ []) }
    -- f(nil, (true))
    ∷ record { chunk = 0x00 ∷ 0x01 ∷ 0x0c ∷ 0x10 ∷ 0x02 ∷ 0x06 ∷ 0x04 ∷ 0x01 ∷ 0x00 ∷ 0x66 ∷ 0x00 ∷ 0x00 ∷ 0x0d ∷ 0x00 ∷ 0x01 ∷ 0x00 ∷ []; answer = accepted 0 false (at 2 1 1 ∷ at 5 1 2 ∷ at 10 1 2 ∷ at 12 1 2 ∷ at 14 1 3 ∷ []) }
    -- o:m(x.y, z[nil]) on line 3
    ∷ record { chunk = 0x00 ∷ 0x01 ∷ 0x0b ∷ 0x15 ∷ 0x03 ∷ 0x00 ∷ 0x00 ∷ 0x00 ∷ 0x01 ∷ 0x00 ∷ 0x6d ∷ 0x02 ∷ 0x06 ∷ 0x04 ∷ 0x01 ∷ 0x00 ∷ 0x6f ∷ 0x0a ∷ 0x04 ∷ 0x01 ∷ 0x00 ∷ 0x79 ∷ 0x06 ∷ 0x04 ∷ 0x01 ∷ 0x00 ∷ 0x78 ∷ 0x09 ∷ 0x00 ∷ 0x06 ∷ 0x04 ∷ 0x01 ∷ 0x00 ∷ 0x7a ∷ 0x00 ∷ 0x00 ∷ []; answer = accepted 0 false (at 2 3 1 ∷ at 12 3 2 ∷ at 17 3 2 ∷ at 22 3 3 ∷ at 27 3 2 ∷ at 29 3 3 ∷ at 34 3 3 ∷ []) }
    -- nil at nesting 200 and at 201; only the parentheses of these
    ∷ record { chunk = 0x00 ∷ 0x01 ∷ opened 199 (0x00 ∷ 0x00 ∷ []); answer = accepted 0 false (stairs 200 2 1) }
    ∷ record { chunk = 0x00 ∷ 0x01 ∷ opened 200 (0x00 ∷ 0x00 ∷ []); answer = refused 5 }
    ∷ record { chunk = 0x00 ∷ 0x01 ∷ opened 199 []; answer = refused 2 }
    ∷ record { chunk = 0x00 ∷ 0x01 ∷ opened 200 []; answer = refused 5 }
    -- 200 locals with empty names
    ∷ record { chunk = 0x01 ∷ 0xc8 ∷ replicate 401 0x00; answer = accepted 200 false [] }
    ∷ []

unfoldable pub found : List Row → List Answer
found [] = []
found (r ∷ l) = answer_of (form_of r.chunk) ∷ found l

unfoldable pub expected : List Row → List Answer
expected [] = []
expected (r ∷ l) = r.answer ∷ expected l

pub each_row : found rows ≡ expected rows
unfolding rows found expected form_of header_at names_at formulas_at exprs_at expr_at rest ended node_at fields_at kind_of bin_op_of un_op_of has_bytes byte_at line_at bits_at text_at spans spans_of
each_row = refl

-- 1 + x as a tree: the number by its bits, the name by its place
pub sum_tree : form_of sum ≡ formed (record {
  names = [];
  varargs = false;
  formulas = more (two_of (at 2 1 1) (two.Binary op.Add)
      (leaf_of (at 5 1 2) (leaf.Number 0x3ff0_0000_0000_0000))
      (leaf_of (at 15 1 2) (leaf.Name (record { start = 19; len = 1 })))) none;
})
unfolding form_of header_at names_at formulas_at exprs_at expr_at rest ended node_at fields_at kind_of bin_op_of has_bytes byte_at bits_at text_at
sum_tree = refl
