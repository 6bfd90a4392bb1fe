-- Worked examples, computed: the labelled code and the constants of P1, P5 and P10 of document 01, of a call with an open list, and of nils beside each other. Assumes nothing.
use Rattle.std.specs.Prelude.{ℕ, ◌≡◌, refl, List, [], ◌∷◌, true, false}
use Rattle.folding.specs.declared.Arith.TheVariants as arith
use Rattle.constants.specs.Entry.{Constant, number as knumber, text as ktext, same_bytes, same}
use Rattle.cursor.specs.Fields.{has_bytes, byte_at, line_at, bits_at, text_at}
use Rattle.ast.specs.Kinds.{kind_of}
use Rattle.nodes.specs.Nodes.{fields_at, node_at}
use Rattle.ast.specs.Operators.{bin_op_of, un_op_of}
use Rattle.chunk.specs.Form.{exprs_at, rest, expr_at, ended, form_of, Formed, formed, unformed}
use Rattle.chunk.specs.Headers.{names_at, formulas_at, header_at}
use Rattle.model.specs.Expressions.{search_local}
use Rattle.model.specs.Rows.{p5_chunk}
use Rattle.model.specs.Values.{truth, number}
use Rattle.labelled.specs.Code.{same as same_number, reg, con, val, glob, ari, cat, cva, cct, always, test, to, setw, lbs, mark, nilw, callw, Instr, pl, br, Code, size, edit}
use Rattle.labelled.specs.Table.{place, include, roomy, is_near}
use Rattle.labelled.specs.Emission.{flush, push, labelled_emit_jump, relabel, strip, hit, labelled_to_here}
use Rattle.labelled.specs.Discharge.{fresh, dv_s, d2r, load_pair, land_all, settle, e2r, nextreg, any_k, anyreg, rk_c, rk_k, exp2rk}
use Rattle.labelled.specs.Conditions.{on_load, on_x, go_jump, go_if, not_s, labelled_code_not}
use Rattle.labelled.specs.Operators.{numeral, right_first, left_first, ari_join, cmp_join, neg_join, len_join, log₂, cat_x, cat_k, join_c, comp_two}
use Rattle.labelled.specs.Expressions.{last_arg, labelled_code_self, comp_leaf, comp_one, callee, comp, comp_args, comp_all, labelled}

-- the labelled code of a chunk, in order, and its constants
record Program : Type 0 where
  code : List Instr
  constants : List Constant

in_order : Code → List Instr → List Instr
in_order [] later = later
in_order (i ∷ c) later = in_order c (i ∷ later)

abbrev of_form : List ℕ → Formed → Program
of_form chunk (formed c) = record { code = in_order (labelled chunk c.names c.formulas).code []; constants = (labelled chunk c.names c.formulas).tab }
of_form chunk (unformed k) = record { code = []; constants = [] }

programs : List (List ℕ) → List Program
programs [] = []
programs (c ∷ cs) = of_form c (form_of c) ∷ programs cs

examples : programs (
    -- P1: 1 + x
    (0 ∷ 1 ∷ 7 ∷ 8 ∷ 0 ∷ 3 ∷ 2 ∷ 0 ∷ 0 ∷ 0 ∷ 0 ∷ 0 ∷ 0 ∷ 240 ∷ 63 ∷ 6 ∷ 4 ∷ 1 ∷ 0 ∷ 120 ∷ []) ∷
    -- P5: ((1 or false) and true) or false: nine words, and the Return behind
    p5_chunk ∷
    -- P10: a .. b .. c
    (0 ∷ 1 ∷ 7 ∷ 8 ∷ 6 ∷ 6 ∷ 4 ∷ 1 ∷ 0 ∷ 97 ∷ 7 ∷ 8 ∷ 6 ∷ 6 ∷ 4 ∷ 1 ∷ 0 ∷ 98 ∷ 6 ∷ 4 ∷ 1 ∷ 0 ∷ 99 ∷ []) ∷
    -- f(a, g(...))
    (2 ∷ 1 ∷ 12 ∷ 16 ∷ 2 ∷ 6 ∷ 4 ∷ 1 ∷ 0 ∷ 102 ∷ 6 ∷ 4 ∷ 1 ∷ 0 ∷ 97 ∷ 12 ∷ 16 ∷ 1 ∷ 6 ∷ 4 ∷ 1 ∷ 0 ∷ 103 ∷ 5 ∷ 0 ∷ []) ∷
    -- x, nil, nil: one LoadNil
    (0 ∷ 3 ∷ 6 ∷ 4 ∷ 1 ∷ 0 ∷ 120 ∷ 0 ∷ 0 ∷ 0 ∷ 0 ∷ []) ∷ [])
    ≡
    record { code = pl (setw 0 (glob (120 ∷ []))) ∷ pl (setw 0 (ari arith.Add (con (number 4607182418800017408)) (reg 0))) ∷ []; constants = ktext (120 ∷ []) ∷ knumber 4607182418800017408 ∷ [] } ∷
    record {
      code = pl (setw 0 (val (number 4607182418800017408))) ∷ br (test 0 true) (to 8) ∷ br always (to 5) ∷ pl mark ∷ br always (to 8) ∷ pl mark ∷ pl (setw 0 (val (truth false))) ∷ br always (to 9) ∷ pl (lbs 0 false) ∷ pl (setw 0 (val (truth true))) ∷ [];
      constants = knumber 4607182418800017408 ∷ [];
    } ∷
    record {
      code = pl (setw 0 (glob (97 ∷ []))) ∷ pl (setw 1 (glob (98 ∷ []))) ∷ pl (setw 2 (glob (99 ∷ []))) ∷ pl (setw 0 (cat 0 2)) ∷ [];
      constants = ktext (97 ∷ []) ∷ ktext (98 ∷ []) ∷ ktext (99 ∷ []) ∷ [];
    } ∷
    record {
      code = pl (setw 0 (glob (102 ∷ []))) ∷ pl (setw 1 (glob (97 ∷ []))) ∷ pl (setw 2 (glob (103 ∷ []))) ∷ pl (callw (cct 0 1 (cva 2 0))) ∷ [];
      constants = ktext (102 ∷ []) ∷ ktext (97 ∷ []) ∷ ktext (103 ∷ []) ∷ [];
    } ∷
    record { code = pl (setw 0 (glob (120 ∷ []))) ∷ pl (nilw 1 1) ∷ []; constants = ktext (120 ∷ []) ∷ [] } ∷ []
unfolding in_order programs same_bytes same has_bytes byte_at line_at bits_at text_at kind_of fields_at node_at bin_op_of un_op_of exprs_at rest expr_at ended form_of names_at formulas_at header_at search_local same_number size edit place include roomy is_near flush push labelled_emit_jump relabel strip hit labelled_to_here fresh dv_s d2r load_pair land_all settle e2r nextreg any_k anyreg rk_c rk_k exp2rk on_load on_x go_jump go_if not_s labelled_code_not numeral right_first left_first ari_join cmp_join neg_join len_join log₂ cat_x cat_k join_c comp_two last_arg labelled_code_self comp_leaf comp_one callee comp comp_args comp_all
examples = refl
