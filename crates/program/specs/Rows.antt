-- P1 as document 01 prints it, byte for byte, computed from the definition of the program. Assumes nothing.
use Rattle.std.specs.Prelude.{ℕ, ◌≡◌, refl, List, [], ◌∷◌}
use Rattle.listing.specs.Listing.{decimal, hex, word_lines, constant_lines}
use Rattle.program.specs.Weavelist.{weavelist}
use Rattle.buffers.specs.Pad.{pad}
use Rattle.opcodes.specs.OpCodes.{op_code_of}
use Rattle.instructions.specs.Field.{get_at, set_at}
use Rattle.instructions.specs.Word.{sbx_of, excess, abc_of, a_bx_of}
use Rattle.folding.specs.Floor.{floor}
use Rattle.folding.specs.Folding.{fold_of}
use Rattle.constants.specs.Entry.{entry_of, same_bytes, same, holds}
use Rattle.constants.specs.Table.{find, append, added}
use Rattle.cursor.specs.Fields.{has_bytes, byte_at, line_at, bits_at, text_at}
use Rattle.ast.specs.Kinds.{kind_of}
use Rattle.ast.specs.Operators.{bin_op_of, un_op_of}
use Rattle.nodes.specs.Nodes.{fields_at, node_at}
use Rattle.chunk.specs.Ast.{spans, spans_of}
use Rattle.chunk.specs.Form.{exprs_at, rest, expr_at, ended, form_of}
use Rattle.chunk.specs.Headers.{names_at, formulas_at, header_at}
use Rattle.model.specs.Conditions.{pop, invertjump, jumponcond, jump_if_false, jump_if_true, goiftrue, goiffalse, emit_not, negate, code_not}
use Rattle.model.specs.Discharge.{discharge_kind, free_expr, load_kind, discharge2reg, discharge2anyreg, land, load_both, settle, join_jump, exp2reg, exp2nextreg, exp2anyreg, exp2val, small, near, rk_kind, exp2rk}
use Rattle.model.specs.Emission.{discharge_jpc, push, emit_at, emit, concat, emit_jump, patch_to_here, get_label, code_label, load_nil, emit_nil, check_stack, reserve_regs, alloc_reg, free_reg, add_constant}
use Rattle.model.specs.Expressions.{search_local, set_multret, above, emit_call, closed_call, last_argument, compile_funcargs, set_indexed, code_self, resolve_var, leaf_expr, after_one, between, after_two, callee, compile_head, compile_expr}
use Rattle.model.specs.Jumps.{jump_list, get_jump_target, patch_jump, last_jump, linked, get_jump_control, need_value, retest, patch_test_reg, remove_values, patch_list_aux}
use Rattle.model.specs.Lowering.{formulas, lower_chunk, lower_formed, lowered}
use Rattle.model.specs.Operators.{free_in_turn, free_both, emit_arith, code_arith, code_unary, code_concat, far_numeral, compare_operands, emit_comp, code_comp, operand, before_right, code_and, code_or, join_concat, after_right, code_unop}
use Rattle.model.specs.Reading.{local_named, read_leaf, read_one, read_binary, read_two, read_many, read_formulas, read_expr, read_args}
use Rattle.model.specs.Running.{regs, puts, joined, execute, run_from}
use Rattle.model.specs.Steps.{and_then}
use Rattle.model.specs.Values.{compute, negation}
use Rattle.std.specs.Float.Ieee.{span, climb, size, odd, units, round, neg, sum, add, sub, mul, div, lt, eq, le, ne, of_int, of_fields, of_bits, nan_bits, to_bits, is_nan}

-- 1 + x: hex 00 01 07 08 00 03 02 00 00 00 00 00 00 F0 3F 06 04 01 00 78
abbrev p1 : List ℕ
p1 = 0 ∷ 1 ∷ 7 ∷ 8 ∷ 0 ∷ 3 ∷ 2 ∷ 0 ∷ 0 ∷ 0 ∷ 0 ∷ 0 ∷ 0 ∷ 240 ∷ 63 ∷ 6 ∷ 4 ∷ 1 ∷ 0 ∷ 120 ∷ []

-- a line of the list in a line of numbers, each ended by byte 10
p1_printed :
    weavelist p1 ≡
    -- words 3 constants 2 text 1
    119 ∷ 111 ∷ 114 ∷ 100 ∷ 115 ∷ 32 ∷ 51 ∷ 32 ∷ 99 ∷ 111 ∷ 110 ∷ 115 ∷ 116 ∷ 97 ∷ 110 ∷ 116 ∷ 115 ∷ 32 ∷ 50 ∷ 32 ∷ 116 ∷ 101 ∷ 120 ∷ 116 ∷ 32 ∷ 49 ∷ 10 ∷
    -- 0 1 00000005
    48 ∷ 32 ∷ 49 ∷ 32 ∷ 48 ∷ 48 ∷ 48 ∷ 48 ∷ 48 ∷ 48 ∷ 48 ∷ 53 ∷ 10 ∷
    -- 1 1 8080000c
    49 ∷ 32 ∷ 49 ∷ 32 ∷ 56 ∷ 48 ∷ 56 ∷ 48 ∷ 48 ∷ 48 ∷ 48 ∷ 99 ∷ 10 ∷
    -- 2 1 0100001e
    50 ∷ 32 ∷ 49 ∷ 32 ∷ 48 ∷ 49 ∷ 48 ∷ 48 ∷ 48 ∷ 48 ∷ 49 ∷ 101 ∷ 10 ∷
    -- c0 4 0000000000000001
    99 ∷ 48 ∷ 32 ∷ 52 ∷ 32 ∷ 48 ∷ 48 ∷ 48 ∷ 48 ∷ 48 ∷ 48 ∷ 48 ∷ 48 ∷ 48 ∷ 48 ∷ 48 ∷ 48 ∷ 48 ∷ 48 ∷ 48 ∷ 49 ∷ 10 ∷
    -- c1 3 3ff0000000000000
    99 ∷ 49 ∷ 32 ∷ 51 ∷ 32 ∷ 51 ∷ 102 ∷ 102 ∷ 48 ∷ 48 ∷ 48 ∷ 48 ∷ 48 ∷ 48 ∷ 48 ∷ 48 ∷ 48 ∷ 48 ∷ 48 ∷ 48 ∷ 48 ∷ 10 ∷
    []
unfolding pad op_code_of get_at set_at sbx_of excess abc_of a_bx_of floor fold_of entry_of same_bytes same holds find append added has_bytes byte_at line_at bits_at text_at kind_of bin_op_of un_op_of fields_at node_at spans spans_of exprs_at rest expr_at ended form_of names_at formulas_at header_at pop invertjump jumponcond jump_if_false jump_if_true goiftrue goiffalse emit_not negate code_not discharge_kind free_expr load_kind discharge2reg discharge2anyreg land load_both settle join_jump exp2reg exp2nextreg exp2anyreg exp2val small near rk_kind exp2rk discharge_jpc push emit_at emit concat emit_jump patch_to_here get_label code_label load_nil emit_nil check_stack reserve_regs alloc_reg free_reg add_constant search_local set_multret above emit_call closed_call last_argument compile_funcargs set_indexed code_self resolve_var leaf_expr after_one between after_two callee compile_head compile_expr jump_list get_jump_target patch_jump last_jump linked get_jump_control need_value retest patch_test_reg remove_values patch_list_aux formulas lower_chunk lower_formed lowered free_in_turn free_both emit_arith code_arith code_unary code_concat far_numeral compare_operands emit_comp code_comp operand before_right code_and code_or join_concat after_right code_unop local_named read_leaf read_one read_binary read_two read_many read_formulas read_expr read_args regs puts joined execute run_from and_then compute negation span climb size odd units round neg sum add sub mul div lt eq le ne of_int of_fields of_bits nan_bits to_bits is_nan decimal hex word_lines constant_lines weavelist
p1_printed = refl
