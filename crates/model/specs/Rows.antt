-- Worked examples, computed with the buffers that `weavelist` lends: P1 to P12 of document 01, and further chunks; and chunks with shorter buffers. Assumes nothing.
use Rattle.std.specs.Prelude.{ℕ, zero, suc, ◌≡◌, refl, List, [], ◌∷◌, map, true, false, take}
use Rattle.std.proofs.Math.Option.{Option, some, none}
use Rattle.buffers.specs.Pad.{pad}
use Rattle.instructions.specs.Field.{get_at, set_at}
use Rattle.opcodes.specs.OpCodes.{op_code_of}
use Rattle.instructions.specs.Word.{sbx_of, excess, abc_of, a_bx_of}
use Rattle.folding.specs.Floor.{floor}
use Rattle.folding.specs.Folding.{fold_of}
use Rattle.constants.specs.Entry.{entry_of, same_bytes, same, holds}
use Rattle.constants.specs.Table.{find, append, added}
use Rattle.cursor.specs.Fields.{has_bytes, byte_at, line_at, bits_at, text_at}
use Rattle.ast.specs.Kinds.{kind_of}
use Rattle.nodes.specs.Nodes.{fields_at, node_at}
use Rattle.ast.specs.Operators.{bin_op_of, un_op_of}
use Rattle.chunk.specs.Ast.{spans, spans_of}
use Rattle.chunk.specs.Form.{exprs_at, rest, expr_at, ended, form_of}
use Rattle.chunk.specs.Headers.{names_at, formulas_at, header_at}
use Rattle.model.specs.Conditions.{pop, invertjump, jumponcond, jump_if_false, jump_if_true, goiftrue, goiffalse, emit_not, negate, code_not}
use Rattle.model.specs.Discharge.{discharge_kind, free_expr, load_kind, discharge2reg, discharge2anyreg, land, load_both, settle, join_jump, exp2reg, exp2nextreg, exp2anyreg, exp2val, small, near, rk_kind, exp2rk}
use Rattle.model.specs.Emission.{discharge_jpc, push, emit_at, emit, concat, emit_jump, patch_to_here, get_label, code_label, load_nil, emit_nil, check_stack, reserve_regs, alloc_reg, free_reg, add_constant}
use Rattle.model.specs.Expressions.{search_local, set_multret, above, emit_call, closed_call, last_argument, compile_funcargs, set_indexed, code_self, resolve_var, leaf_expr, after_one, between, after_two, callee, compile_head, compile_expr}
use Rattle.model.specs.Jumps.{jump_list, get_jump_target, patch_jump, last_jump, linked, get_jump_control, need_value, retest, patch_test_reg, remove_values, patch_list_aux}
use Rattle.model.specs.Operators.{free_in_turn, free_both, emit_arith, code_arith, code_unary, code_concat, far_numeral, compare_operands, emit_comp, code_comp, operand, before_right, code_and, code_or, join_concat, after_right, code_unop}
use Rattle.model.specs.Reading.{local_named, read_leaf, read_one, read_binary, read_two, read_many, read_formulas, read_expr, read_args}
use Rattle.model.specs.Running.{regs, puts, joined, execute, run_from, Run, returned, stuck_run, run}
use Rattle.model.specs.Steps.{and_then, Buffers}
use Rattle.model.specs.Values.{compute, negation, Value, nil, truth, World}
use Rattle.std.specs.Float.Ieee.{span, climb, size, odd, units, round, neg, sum, add, sub, mul, div, lt, eq, le, ne, of_int, of_fields, of_bits, nan_bits, to_bits, is_nan}
use Rattle.model.specs.Lowering.{formulas, lower_chunk, lower_formed, lowered, Sizes, Out}
use Rattle.refusals.specs.Number.{number_of}
use Rattle.model.specs.Claims.{program}
use Rattle.model.specs.Lowered.{Lowered}
use Rattle.std.specs.Prelude as answer

-- the buffers that `weavelist` lends
abbrev pub weavelist : Sizes
weavelist = record { code = 8192; lines = 8192; kinds = 2048; values = 2048; pool = 32768; scratch = 16384 }

-- what is in use of code, lines, kinds and values, the bytes of text, and the frame; or the refusal's number
pub data Summary : Type 0 where
  words : List ℕ → List ℕ → List ℕ → List ℕ → ℕ → ℕ → Summary
  refusal : ℕ → Summary

abbrev of_answer : Lowered → Buffers → Summary
of_answer (answer.Ok c) m = words (take c.words m.code) (take c.words m.lines) (take c.constants m.kinds) (take c.constants m.values) c.text c.frame
of_answer (answer.Err k) m = refusal (number_of k)

abbrev summary : Out → Summary
summary o = of_answer o.answer o.buffers

found : List (List ℕ) → List Summary
found [] = []
found (c ∷ cs) = summary (lowered weavelist c) ∷ found cs

-- ROWS

pub record Row : Type 0 where
  pub chunk : List ℕ
  pub answer : Summary
  -- what running the words returns, where document 01 says it
  pub value : Option (List Value)

-- n times the formula nil, and then more
unfoldable pub nils : ℕ → List ℕ → List ℕ
nils zero more = more
nils (suc n) more = 0 ∷ 0 ∷ nils n more

-- the bytes of P5, which other examples are about too
abbrev pub p5_chunk : List ℕ
p5_chunk = 0 ∷ 1 ∷ 7 ∷ 8 ∷ 14 ∷ 7 ∷ 8 ∷ 13 ∷ 7 ∷ 8 ∷ 14 ∷ 3 ∷ 2 ∷ 0 ∷ 0 ∷ 0 ∷ 0 ∷ 0 ∷ 0 ∷ 240 ∷ 63 ∷ 2 ∷ 0 ∷ 1 ∷ 0 ∷ 2 ∷ 0 ∷ []

-- P1 to P12
unfoldable pub rows : List Row
unfolding nils
rows =
    -- P1: 1 + x
    record { chunk = (0 ∷ 1 ∷ 7 ∷ 8 ∷ 0 ∷ 3 ∷ 2 ∷ 0 ∷ 0 ∷ 0 ∷ 0 ∷ 0 ∷ 0 ∷ 240 ∷ 63 ∷ 6 ∷ 4 ∷ 1 ∷ 0 ∷ 120 ∷ []); answer = words (5 ∷ 2155872268 ∷ 16777246 ∷ []) (1 ∷ 1 ∷ 1 ∷ []) (4 ∷ 3 ∷ []) (1 ∷ 4607182418800017408 ∷ []) 1 2; value = none } ∷
    -- P2: nil: one word
    record { chunk = (0 ∷ 1 ∷ 0 ∷ 0 ∷ []); answer = words (16777246 ∷ []) (1 ∷ []) ([]) ([]) 0 2; value = none } ∷
    -- P3: 250 nils: one word, B = 251
    record { chunk = (0 ∷ 250 ∷ nils 250 []); answer = words (2105540638 ∷ []) (1 ∷ []) ([]) ([]) 0 250; value = none } ∷
    -- P4: 251 nils
    record { chunk = (0 ∷ 251 ∷ nils 251 []); answer = refusal 10; value = none } ∷
    -- P5: ((1 or false) and true) or false: ten words, returns true (the Rust returns 1)
    record { chunk = p5_chunk; answer = words (1 ∷ 16410 ∷ 2147549206 ∷ 2147483670 ∷ 2147516438 ∷ 2 ∷ 2147500054 ∷ 16386 ∷ 8388610 ∷ 16777246 ∷ []) (1 ∷ 1 ∷ 1 ∷ 1 ∷ 1 ∷ 1 ∷ 1 ∷ 1 ∷ 1 ∷ 1 ∷ []) (3 ∷ []) (4607182418800017408 ∷ []) 0 2; value = some (truth true ∷ []) } ∷
    -- P5 as it is written, in parentheses
    record { chunk = (0 ∷ 1 ∷ 7 ∷ 8 ∷ 14 ∷ 13 ∷ 0 ∷ 7 ∷ 8 ∷ 13 ∷ 13 ∷ 0 ∷ 7 ∷ 8 ∷ 14 ∷ 3 ∷ 2 ∷ 0 ∷ 0 ∷ 0 ∷ 0 ∷ 0 ∷ 0 ∷ 240 ∷ 63 ∷ 2 ∷ 0 ∷ 1 ∷ 0 ∷ 2 ∷ 0 ∷ []); answer = words (1 ∷ 16410 ∷ 2147549206 ∷ 2147483670 ∷ 2147516438 ∷ 2 ∷ 2147500054 ∷ 16386 ∷ 8388610 ∷ 16777246 ∷ []) (1 ∷ 1 ∷ 1 ∷ 1 ∷ 1 ∷ 1 ∷ 1 ∷ 1 ∷ 1 ∷ 1 ∷ []) (3 ∷ []) (4607182418800017408 ∷ []) 0 2; value = some (truth true ∷ []) } ∷
    -- P6: 1 / 0: Div 0 257 256
    record { chunk = (0 ∷ 1 ∷ 7 ∷ 8 ∷ 3 ∷ 3 ∷ 2 ∷ 0 ∷ 0 ∷ 0 ∷ 0 ∷ 0 ∷ 0 ∷ 240 ∷ 63 ∷ 3 ∷ 2 ∷ 0 ∷ 0 ∷ 0 ∷ 0 ∷ 0 ∷ 0 ∷ 0 ∷ 0 ∷ []); answer = words (2160066575 ∷ 16777246 ∷ []) (1 ∷ 1 ∷ []) (3 ∷ 3 ∷ []) (0 ∷ 4607182418800017408 ∷ []) 0 2; value = none } ∷
    -- P7: 7 % -3 folds to -2
    record { chunk = (0 ∷ 1 ∷ 7 ∷ 8 ∷ 4 ∷ 3 ∷ 2 ∷ 0 ∷ 0 ∷ 0 ∷ 0 ∷ 0 ∷ 0 ∷ 28 ∷ 64 ∷ 3 ∷ 2 ∷ 0 ∷ 0 ∷ 0 ∷ 0 ∷ 0 ∷ 0 ∷ 8 ∷ 192 ∷ []); answer = words (1 ∷ 16777246 ∷ []) (1 ∷ 1 ∷ []) (3 ∷ []) (13835058055282163712 ∷ []) 0 2; value = none } ∷
    -- P7 as it is written: 3 under a minus
    record { chunk = (0 ∷ 1 ∷ 7 ∷ 8 ∷ 4 ∷ 3 ∷ 2 ∷ 0 ∷ 0 ∷ 0 ∷ 0 ∷ 0 ∷ 0 ∷ 28 ∷ 64 ∷ 8 ∷ 8 ∷ 0 ∷ 3 ∷ 2 ∷ 0 ∷ 0 ∷ 0 ∷ 0 ∷ 0 ∷ 0 ∷ 8 ∷ 64 ∷ []); answer = words (1 ∷ 16777246 ∷ []) (1 ∷ 1 ∷ []) (3 ∷ []) (13835058055282163712 ∷ []) 0 2; value = none } ∷
    -- P8: 5 % infinity isn't folded
    record { chunk = (0 ∷ 1 ∷ 7 ∷ 8 ∷ 4 ∷ 3 ∷ 2 ∷ 0 ∷ 0 ∷ 0 ∷ 0 ∷ 0 ∷ 0 ∷ 20 ∷ 64 ∷ 3 ∷ 2 ∷ 0 ∷ 0 ∷ 0 ∷ 0 ∷ 0 ∷ 0 ∷ 240 ∷ 127 ∷ []); answer = words (2160066576 ∷ 16777246 ∷ []) (1 ∷ 1 ∷ []) (3 ∷ 3 ∷ []) (9218868437227405312 ∷ 4617315517961601024 ∷ []) 0 2; value = none } ∷
    -- P9: 0 and then -0: two constants
    record { chunk = (0 ∷ 2 ∷ 3 ∷ 2 ∷ 0 ∷ 0 ∷ 0 ∷ 0 ∷ 0 ∷ 0 ∷ 0 ∷ 0 ∷ 3 ∷ 2 ∷ 0 ∷ 0 ∷ 0 ∷ 0 ∷ 0 ∷ 0 ∷ 0 ∷ 128 ∷ []); answer = words (1 ∷ 16449 ∷ 25165854 ∷ []) (1 ∷ 1 ∷ 1 ∷ []) (3 ∷ 3 ∷ []) (0 ∷ 9223372036854775808 ∷ []) 0 2; value = none } ∷
    -- P9 as it is written: 0 under a minus
    record { chunk = (0 ∷ 2 ∷ 3 ∷ 2 ∷ 0 ∷ 0 ∷ 0 ∷ 0 ∷ 0 ∷ 0 ∷ 0 ∷ 0 ∷ 8 ∷ 8 ∷ 0 ∷ 3 ∷ 2 ∷ 0 ∷ 0 ∷ 0 ∷ 0 ∷ 0 ∷ 0 ∷ 0 ∷ 0 ∷ []); answer = words (1 ∷ 16449 ∷ 25165854 ∷ []) (1 ∷ 1 ∷ 1 ∷ []) (3 ∷ 3 ∷ []) (0 ∷ 9223372036854775808 ∷ []) 0 2; value = none } ∷
    -- P10: a .. b .. c: Concat 0 0 2, five words
    record { chunk = (0 ∷ 1 ∷ 7 ∷ 8 ∷ 6 ∷ 6 ∷ 4 ∷ 1 ∷ 0 ∷ 97 ∷ 7 ∷ 8 ∷ 6 ∷ 6 ∷ 4 ∷ 1 ∷ 0 ∷ 98 ∷ 6 ∷ 4 ∷ 1 ∷ 0 ∷ 99 ∷ []); answer = words (5 ∷ 16453 ∷ 32901 ∷ 32789 ∷ 16777246 ∷ []) (1 ∷ 1 ∷ 1 ∷ 1 ∷ 1 ∷ []) (4 ∷ 4 ∷ 4 ∷ []) (1 ∷ 65537 ∷ 131073 ∷ []) 3 3; value = none } ∷
    -- P11: 249 nils, then f(...)
    record { chunk = (2 ∷ 250 ∷ nils 249 (12 ∷ 16 ∷ 1 ∷ 6 ∷ 4 ∷ 1 ∷ 0 ∷ 102 ∷ 5 ∷ 0 ∷ [])); answer = refusal 10; value = none } ∷
    -- P12: 248 nils, then f(...)
    record { chunk = (2 ∷ 249 ∷ nils 248 (12 ∷ 16 ∷ 1 ∷ 6 ∷ 4 ∷ 1 ∷ 0 ∷ 102 ∷ 5 ∷ 0 ∷ [])); answer = words (15877 ∷ 15973 ∷ 48668 ∷ 2097152030 ∷ []) (1 ∷ 1 ∷ 1 ∷ 1 ∷ []) (4 ∷ []) (1 ∷ []) 1 250; value = none } ∷
    []

-- the outside of a run that takes no outward step
abbrev nobody : World
nobody = record { one = λ h. nil; many = λ h. []; holds = λ h. false }

abbrev values_of : Run → Option (List Value)
values_of (returned vs h n) = some vs
values_of stuck_run = none

abbrev of_run : Lowered → Buffers → Option (List Value)
of_run (answer.Ok k) m = values_of (run nobody (program k m) [] [])
of_run (answer.Err x) m = none

-- asked only where a row says something of it
abbrev if_said : Option (List Value) → Out → Option (List Value)
if_said none o = none
if_said (some vs) o = of_run o.answer o.buffers

record Seen : Type 0 where
  answer : Summary
  value : Option (List Value)

p_rows : map (λ r. record { answer = summary (lowered weavelist r.chunk); value = if_said r.value (lowered weavelist r.chunk) }) rows ≡ map {B = Seen} (λ r. record { answer = r.answer; value = r.value }) rows
unfolding pad get_at set_at op_code_of sbx_of excess abc_of a_bx_of floor fold_of entry_of same_bytes same holds find append added has_bytes byte_at line_at bits_at text_at kind_of fields_at node_at bin_op_of un_op_of spans spans_of exprs_at rest expr_at ended form_of names_at formulas_at header_at pop invertjump jumponcond jump_if_false jump_if_true goiftrue goiffalse emit_not negate code_not discharge_kind free_expr load_kind discharge2reg discharge2anyreg land load_both settle join_jump exp2reg exp2nextreg exp2anyreg exp2val small near rk_kind exp2rk discharge_jpc push emit_at emit concat emit_jump patch_to_here get_label code_label load_nil emit_nil check_stack reserve_regs alloc_reg free_reg add_constant search_local set_multret above emit_call closed_call last_argument compile_funcargs set_indexed code_self resolve_var leaf_expr after_one between after_two callee compile_head compile_expr jump_list get_jump_target patch_jump last_jump linked get_jump_control need_value retest patch_test_reg remove_values patch_list_aux formulas lower_chunk lower_formed lowered free_in_turn free_both emit_arith code_arith code_unary code_concat far_numeral compare_operands emit_comp code_comp operand before_right code_and code_or join_concat after_right code_unop local_named read_leaf read_one read_binary read_two read_many read_formulas read_expr read_args regs puts joined execute run_from and_then compute negation span climb size odd units round neg sum add sub mul div lt eq le ne of_int of_fields of_bits nan_bits to_bits is_nan found rows nils
p_rows = refl

-- further chunks, which catch faults that P1 to P12 let pass
more_rows : List Row
more_rows =
    -- self-test: f() or 1: the register tested is the target, so `Test`
    record { chunk = (0 ∷ 1 ∷ 7 ∷ 8 ∷ 14 ∷ 12 ∷ 16 ∷ 0 ∷ 6 ∷ 4 ∷ 1 ∷ 0 ∷ 102 ∷ 3 ∷ 2 ∷ 0 ∷ 0 ∷ 0 ∷ 0 ∷ 0 ∷ 0 ∷ 240 ∷ 63 ∷ []); answer = words (5 ∷ 8421404 ∷ 16410 ∷ 2147483670 ∷ 16385 ∷ 16777246 ∷ []) (1 ∷ 1 ∷ 1 ∷ 1 ∷ 1 ∷ 1 ∷ []) (4 ∷ 3 ∷ []) (1 ∷ 4607182418800017408 ∷ []) 1 2; value = none } ∷
    -- popped-not: not a and b, over four lines: the `Not` gives its word and its line back
    record { chunk = (0 ∷ 1 ∷ 7 ∷ 9 ∷ 4 ∷ 0 ∷ 0 ∷ 0 ∷ 13 ∷ 8 ∷ 9 ∷ 2 ∷ 0 ∷ 0 ∷ 0 ∷ 1 ∷ 6 ∷ 5 ∷ 1 ∷ 0 ∷ 0 ∷ 0 ∷ 1 ∷ 0 ∷ 97 ∷ 6 ∷ 5 ∷ 3 ∷ 0 ∷ 0 ∷ 0 ∷ 1 ∷ 0 ∷ 98 ∷ []); answer = words (5 ∷ 16410 ∷ 2147500054 ∷ 16389 ∷ 2147500054 ∷ 16386 ∷ 8388610 ∷ 16777246 ∷ []) (1 ∷ 1 ∷ 1 ∷ 3 ∷ 3 ∷ 3 ∷ 3 ∷ 3 ∷ []) (4 ∷ 4 ∷ []) (1 ∷ 65537 ∷ []) 2 2; value = none } ∷
    -- power: 2 ^ 3 isn't folded (difference 3)
    record { chunk = (0 ∷ 1 ∷ 7 ∷ 8 ∷ 5 ∷ 3 ∷ 2 ∷ 0 ∷ 0 ∷ 0 ∷ 0 ∷ 0 ∷ 0 ∷ 0 ∷ 64 ∷ 3 ∷ 2 ∷ 0 ∷ 0 ∷ 0 ∷ 0 ∷ 0 ∷ 0 ∷ 8 ∷ 64 ∷ []); answer = words (2160066577 ∷ 16777246 ∷ []) (1 ∷ 1 ∷ []) (3 ∷ 3 ∷ []) (4613937818241073152 ∷ 4611686018427387904 ∷ []) 0 2; value = none } ∷
    -- nan: a negated NaN numeral: `Unm` has a register (difference 6)
    record { chunk = (0 ∷ 1 ∷ 8 ∷ 8 ∷ 0 ∷ 3 ∷ 2 ∷ 1 ∷ 0 ∷ 0 ∷ 0 ∷ 0 ∷ 0 ∷ 248 ∷ 127 ∷ []); answer = words (1 ∷ 18 ∷ 16777246 ∷ []) (1 ∷ 1 ∷ 1 ∷ []) (3 ∷ []) (9221120237041090561 ∷ []) 0 2; value = none } ∷
    -- call-line: f(a) over two lines: `Call` has the line before its arguments
    record { chunk = (0 ∷ 1 ∷ 12 ∷ 17 ∷ 1 ∷ 0 ∷ 0 ∷ 0 ∷ 1 ∷ 6 ∷ 5 ∷ 1 ∷ 0 ∷ 0 ∷ 0 ∷ 1 ∷ 0 ∷ 102 ∷ 6 ∷ 5 ∷ 2 ∷ 0 ∷ 0 ∷ 0 ∷ 1 ∷ 0 ∷ 97 ∷ []); answer = words (5 ∷ 16453 ∷ 16810012 ∷ 16777246 ∷ []) (1 ∷ 2 ∷ 1 ∷ 2 ∷ []) (4 ∷ 4 ∷ []) (1 ∷ 65537 ∷ []) 2 2; value = none } ∷
    -- open-call-line: f(...) over two lines: so has an open one
    record { chunk = (2 ∷ 1 ∷ 12 ∷ 17 ∷ 1 ∷ 0 ∷ 0 ∷ 0 ∷ 1 ∷ 6 ∷ 5 ∷ 1 ∷ 0 ∷ 0 ∷ 0 ∷ 1 ∷ 0 ∷ 102 ∷ 5 ∷ 1 ∷ 2 ∷ 0 ∷ 0 ∷ 0 ∷ []); answer = words (5 ∷ 101 ∷ 32796 ∷ 16777246 ∷ []) (1 ∷ 2 ∷ 1 ∷ 2 ∷ []) (4 ∷ []) (1 ∷ []) 1 2; value = none } ∷
    -- lengthened: x, nil, nil: the second nil lengthens the first one's `LoadNil`
    record { chunk = (0 ∷ 3 ∷ 6 ∷ 4 ∷ 1 ∷ 0 ∷ 120 ∷ 0 ∷ 0 ∷ 0 ∷ 1 ∷ 2 ∷ 0 ∷ 0 ∷ 0 ∷ []); answer = words (5 ∷ 16777283 ∷ 33554462 ∷ []) (1 ∷ 1 ∷ 2 ∷ []) (4 ∷ []) (1 ∷ []) 1 3; value = none } ∷
    -- local-kept: (a and nil).a with a local a: the local's register isn't overwritten
    record { chunk = (1 ∷ 1 ∷ 1 ∷ 0 ∷ 97 ∷ 1 ∷ 10 ∷ 4 ∷ 1 ∷ 0 ∷ 97 ∷ 7 ∷ 8 ∷ 13 ∷ 0 ∷ 0 ∷ 6 ∷ 4 ∷ 1 ∷ 0 ∷ 97 ∷ []); answer = words (90 ∷ 2147483670 ∷ 64 ∷ 12582982 ∷ 16777310 ∷ []) (1 ∷ 1 ∷ 1 ∷ 1 ∷ 1 ∷ []) (4 ∷ []) (1 ∷ []) 1 2; value = none } ∷
    -- at-least: a >= b is b <= a
    record { chunk = (0 ∷ 1 ∷ 7 ∷ 8 ∷ 10 ∷ 6 ∷ 4 ∷ 1 ∷ 0 ∷ 97 ∷ 6 ∷ 4 ∷ 1 ∷ 0 ∷ 98 ∷ []); answer = words (5 ∷ 16453 ∷ 8388697 ∷ 2147483670 ∷ 16386 ∷ 8388610 ∷ 16777246 ∷ []) (1 ∷ 1 ∷ 1 ∷ 1 ∷ 1 ∷ 1 ∷ 1 ∷ []) (4 ∷ 4 ∷ []) (1 ∷ 65537 ∷ []) 2 2; value = none } ∷
    -- nil-key: true[nil]: nil as RK
    record { chunk = (0 ∷ 1 ∷ 9 ∷ 0 ∷ 1 ∷ 0 ∷ 0 ∷ 0 ∷ []); answer = words (8388610 ∷ 4194310 ∷ 16777246 ∷ []) (1 ∷ 1 ∷ 1 ∷ []) (0 ∷ []) (0 ∷ []) 0 2; value = none } ∷
    -- nil-or: nil or true: no test
    record { chunk = (0 ∷ 1 ∷ 7 ∷ 8 ∷ 14 ∷ 0 ∷ 0 ∷ 1 ∷ 0 ∷ []); answer = words (8388610 ∷ 16777246 ∷ []) (1 ∷ 1 ∷ []) ([]) ([]) 0 2; value = none } ∷
    -- text-and: "" and nil: no test
    record { chunk = (0 ∷ 1 ∷ 7 ∷ 8 ∷ 13 ∷ 4 ∷ 4 ∷ 0 ∷ 0 ∷ 0 ∷ 0 ∷ []); answer = words (16777246 ∷ []) (1 ∷ []) (4 ∷ []) (0 ∷ []) 0 2; value = none } ∷
    -- not-or: not (... or true): both lists lose their `TestSet`
    record { chunk = (2 ∷ 1 ∷ 8 ∷ 8 ∷ 1 ∷ 7 ∷ 8 ∷ 14 ∷ 5 ∷ 0 ∷ 1 ∷ 0 ∷ []); answer = words (16777253 ∷ 16410 ∷ 2147500054 ∷ 2 ∷ 2147500054 ∷ 16386 ∷ 8388610 ∷ 16777246 ∷ []) (1 ∷ 1 ∷ 1 ∷ 1 ∷ 1 ∷ 1 ∷ 1 ∷ 1 ∷ []) ([]) ([]) 0 2; value = none } ∷
    -- other-words-1: the unchanged Rust gives other words (difference 1)
    record { chunk = (3 ∷ 1 ∷ 1 ∷ 0 ∷ 97 ∷ 1 ∷ 13 ∷ 0 ∷ 7 ∷ 8 ∷ 13 ∷ 7 ∷ 8 ∷ 14 ∷ 7 ∷ 8 ∷ 13 ∷ 6 ∷ 4 ∷ 1 ∷ 0 ∷ 99 ∷ 1 ∷ 0 ∷ 8 ∷ 8 ∷ 1 ∷ 4 ∷ 4 ∷ 0 ∷ 0 ∷ 3 ∷ 2 ∷ 0 ∷ 0 ∷ 0 ∷ 0 ∷ 0 ∷ 0 ∷ 240 ∷ 127 ∷ []); answer = words (69 ∷ 90 ∷ 2147532822 ∷ 2147483670 ∷ 2147500054 ∷ 32833 ∷ 2147500054 ∷ 16450 ∷ 8388674 ∷ 16777310 ∷ []) (1 ∷ 1 ∷ 1 ∷ 1 ∷ 1 ∷ 1 ∷ 1 ∷ 1 ∷ 1 ∷ 1 ∷ []) (4 ∷ 4 ∷ 3 ∷ []) (1 ∷ 65536 ∷ 9218868437227405312 ∷ []) 1 2; value = none } ∷
    -- other-words-2: the unchanged Rust gives other words (difference 1)
    record { chunk = (2 ∷ 1 ∷ 7 ∷ 8 ∷ 2 ∷ 7 ∷ 8 ∷ 14 ∷ 7 ∷ 8 ∷ 13 ∷ 6 ∷ 4 ∷ 1 ∷ 0 ∷ 98 ∷ 3 ∷ 2 ∷ 0 ∷ 0 ∷ 0 ∷ 0 ∷ 0 ∷ 0 ∷ 248 ∷ 63 ∷ 7 ∷ 8 ∷ 14 ∷ 1 ∷ 0 ∷ 1 ∷ 0 ∷ 3 ∷ 2 ∷ 0 ∷ 0 ∷ 0 ∷ 0 ∷ 0 ∷ 0 ∷ 12 ∷ 64 ∷ []); answer = words (5 ∷ 26 ∷ 2147581974 ∷ 16385 ∷ 16410 ∷ 2147549206 ∷ 2147516438 ∷ 8388610 ∷ 2147500054 ∷ 16386 ∷ 8388610 ∷ 4227086 ∷ 16777246 ∷ []) (1 ∷ 1 ∷ 1 ∷ 1 ∷ 1 ∷ 1 ∷ 1 ∷ 1 ∷ 1 ∷ 1 ∷ 1 ∷ 1 ∷ 1 ∷ []) (4 ∷ 3 ∷ 3 ∷ []) (1 ∷ 4609434218613702656 ∷ 4615063718147915776 ∷ []) 1 2; value = none } ∷
    -- other-words-3: the unchanged Rust gives other words (difference 1)
    record { chunk = (1 ∷ 1 ∷ 1 ∷ 0 ∷ 97 ∷ 2 ∷ 13 ∷ 0 ∷ 7 ∷ 8 ∷ 14 ∷ 7 ∷ 8 ∷ 13 ∷ 7 ∷ 8 ∷ 13 ∷ 6 ∷ 4 ∷ 1 ∷ 0 ∷ 120 ∷ 2 ∷ 0 ∷ 7 ∷ 8 ∷ 3 ∷ 6 ∷ 4 ∷ 1 ∷ 0 ∷ 121 ∷ 0 ∷ 0 ∷ 7 ∷ 8 ∷ 13 ∷ 13 ∷ 0 ∷ 2 ∷ 0 ∷ 7 ∷ 8 ∷ 9 ∷ 1 ∷ 0 ∷ 4 ∷ 4 ∷ 4 ∷ 0 ∷ 115 ∷ 50 ∷ 53 ∷ 53 ∷ 6 ∷ 4 ∷ 1 ∷ 0 ∷ 99 ∷ []); answer = words (69 ∷ 90 ∷ 2147598358 ∷ 2147581974 ∷ 16453 ∷ 12615759 ∷ 16474 ∷ 2147549206 ∷ 2147500054 ∷ 2185281624 ∷ 2147483670 ∷ 16450 ∷ 8388674 ∷ 82053 ∷ 25165918 ∷ []) (1 ∷ 1 ∷ 1 ∷ 1 ∷ 1 ∷ 1 ∷ 1 ∷ 1 ∷ 1 ∷ 1 ∷ 1 ∷ 1 ∷ 1 ∷ 1 ∷ 1 ∷ []) (4 ∷ 4 ∷ 0 ∷ 2 ∷ 4 ∷ 4 ∷ []) (1 ∷ 65537 ∷ 0 ∷ 0 ∷ 131076 ∷ 393217 ∷ []) 7 3; value = none } ∷
    []

-- chunks with short buffers (differences 4 and 5, and which of 9 to 13 comes first): the number of the refusal, 0 where it is accepted
record Sized : Type 0 where
  sizes : Sizes
  chunk : List ℕ
  number : ℕ

sized : List Sized
unfolding nils
sized =
    -- no-constant: 1 with no room for a constant: 11
    record { sizes = record { code = 64; lines = 64; kinds = 0; values = 8; pool = 8; scratch = 512 }; chunk = (0 ∷ 1 ∷ 3 ∷ 2 ∷ 0 ∷ 0 ∷ 0 ∷ 0 ∷ 0 ∷ 0 ∷ 240 ∷ 63 ∷ []); number = 11 } ∷
    -- short-values: 1 with a shorter values buffer: 11
    record { sizes = record { code = 64; lines = 64; kinds = 8; values = 0; pool = 8; scratch = 512 }; chunk = (0 ∷ 1 ∷ 3 ∷ 2 ∷ 0 ∷ 0 ∷ 0 ∷ 0 ∷ 0 ∷ 0 ∷ 240 ∷ 63 ∷ []); number = 11 } ∷
    -- no-register: 250 nils, then ((1 < 2) and 3) == 4 with room for two constants: 10, and not the 11 that 3 would get
    record { sizes = record { code = 64; lines = 64; kinds = 2; values = 8; pool = 8; scratch = 512 }; chunk = (0 ∷ 251 ∷ nils 250 (7 ∷ 8 ∷ 11 ∷ 7 ∷ 8 ∷ 13 ∷ 7 ∷ 8 ∷ 7 ∷ 3 ∷ 2 ∷ 0 ∷ 0 ∷ 0 ∷ 0 ∷ 0 ∷ 0 ∷ 240 ∷ 63 ∷ 3 ∷ 2 ∷ 0 ∷ 0 ∷ 0 ∷ 0 ∷ 0 ∷ 0 ∷ 0 ∷ 64 ∷ 3 ∷ 2 ∷ 0 ∷ 0 ∷ 0 ∷ 0 ∷ 0 ∷ 0 ∷ 8 ∷ 64 ∷ 3 ∷ 2 ∷ 0 ∷ 0 ∷ 0 ∷ 0 ∷ 0 ∷ 0 ∷ 16 ∷ 64 ∷ [])); number = 10 } ∷
    -- eleven-first: x with neither an entry nor text bytes: 11 before 12
    record { sizes = record { code = 64; lines = 64; kinds = 0; values = 8; pool = 0; scratch = 512 }; chunk = (0 ∷ 1 ∷ 6 ∷ 4 ∷ 1 ∷ 0 ∷ 120 ∷ []); number = 11 } ∷
    -- no-text: x with no text bytes: 12
    record { sizes = record { code = 64; lines = 64; kinds = 8; values = 8; pool = 0; scratch = 512 }; chunk = (0 ∷ 1 ∷ 6 ∷ 4 ∷ 1 ∷ 0 ∷ 120 ∷ []); number = 12 } ∷
    -- no-word: x with one word and two lines: 13
    record { sizes = record { code = 1; lines = 2; kinds = 8; values = 8; pool = 8; scratch = 512 }; chunk = (0 ∷ 1 ∷ 6 ∷ 4 ∷ 1 ∷ 0 ∷ 120 ∷ []); number = 13 } ∷
    -- no-line: x with two words and one line: 13
    record { sizes = record { code = 2; lines = 1; kinds = 8; values = 8; pool = 8; scratch = 512 }; chunk = (0 ∷ 1 ∷ 6 ∷ 4 ∷ 1 ∷ 0 ∷ 120 ∷ []); number = 13 } ∷
    -- enough: x with two words, one constant and one byte: accepted
    record { sizes = record { code = 2; lines = 2; kinds = 1; values = 1; pool = 1; scratch = 1 }; chunk = (0 ∷ 1 ∷ 6 ∷ 4 ∷ 1 ∷ 0 ∷ 120 ∷ []); number = 0 } ∷
    -- word-first: 250 nils, then x with no word: 13 for `GetGlobal`, before the 10 of its register
    record { sizes = record { code = 0; lines = 64; kinds = 8; values = 8; pool = 8; scratch = 512 }; chunk = (0 ∷ 251 ∷ nils 250 (6 ∷ 4 ∷ 1 ∷ 0 ∷ 120 ∷ [])); number = 13 } ∷
    -- register-first: the same with one word: 10, before the 13 of `Return`
    record { sizes = record { code = 1; lines = 64; kinds = 8; values = 8; pool = 8; scratch = 512 }; chunk = (0 ∷ 251 ∷ nils 250 (6 ∷ 4 ∷ 1 ∷ 0 ∷ 120 ∷ [])); number = 10 } ∷
    -- text-first: the same with no text bytes and no word: 12, before 13 and 10
    record { sizes = record { code = 0; lines = 64; kinds = 8; values = 8; pool = 0; scratch = 512 }; chunk = (0 ∷ 251 ∷ nils 250 (6 ∷ 4 ∷ 1 ∷ 0 ∷ 120 ∷ [])); number = 12 } ∷
    -- register-before-text: 250 nils, then x .. y with one text byte: 10 for x, before the 12 of y
    record { sizes = record { code = 64; lines = 64; kinds = 8; values = 8; pool = 1; scratch = 512 }; chunk = (0 ∷ 251 ∷ nils 250 (7 ∷ 8 ∷ 6 ∷ 6 ∷ 4 ∷ 1 ∷ 0 ∷ 120 ∷ 6 ∷ 4 ∷ 1 ∷ 0 ∷ 121 ∷ [])); number = 10 } ∷
    -- word-before-constant: x, then y with one entry and no word: 13 for x, before the 11 of y
    record { sizes = record { code = 64; lines = 0; kinds = 1; values = 8; pool = 8; scratch = 512 }; chunk = (0 ∷ 2 ∷ 6 ∷ 4 ∷ 1 ∷ 0 ∷ 120 ∷ 6 ∷ 4 ∷ 1 ∷ 0 ∷ 121 ∷ []); number = 13 } ∷
    -- word-before-text: the same with one text byte: 13 for x, before the 12 of y
    record { sizes = record { code = 64; lines = 0; kinds = 8; values = 8; pool = 1; scratch = 512 }; chunk = (0 ∷ 2 ∷ 6 ∷ 4 ∷ 1 ∷ 0 ∷ 120 ∷ 6 ∷ 4 ∷ 1 ∷ 0 ∷ 121 ∷ []); number = 13 } ∷
    -- constant-before-word: the same with one entry and one word: 11 for y, before the 13 of its word
    record { sizes = record { code = 64; lines = 1; kinds = 1; values = 8; pool = 8; scratch = 512 }; chunk = (0 ∷ 2 ∷ 6 ∷ 4 ∷ 1 ∷ 0 ∷ 120 ∷ 6 ∷ 4 ∷ 1 ∷ 0 ∷ 121 ∷ []); number = 11 } ∷
    -- scratch: -x, with a scratch of one: 9 before 11
    record { sizes = record { code = 64; lines = 64; kinds = 0; values = 8; pool = 8; scratch = 1 }; chunk = (0 ∷ 1 ∷ 8 ∷ 8 ∷ 0 ∷ 6 ∷ 4 ∷ 1 ∷ 0 ∷ 120 ∷ []); number = 9 } ∷
    []

numbered : Summary → ℕ
numbered (refusal n) = n
numbered (words c l k v t f) = 0

sized_found : map (λ r. numbered (summary (lowered r.sizes r.chunk))) sized ≡ map (λ r. r.number) sized
unfolding pad get_at set_at op_code_of sbx_of excess abc_of a_bx_of floor fold_of entry_of same_bytes same holds find append added has_bytes byte_at line_at bits_at text_at kind_of fields_at node_at bin_op_of un_op_of spans spans_of exprs_at rest expr_at ended form_of names_at formulas_at header_at pop invertjump jumponcond jump_if_false jump_if_true goiftrue goiffalse emit_not negate code_not discharge_kind free_expr load_kind discharge2reg discharge2anyreg land load_both settle join_jump exp2reg exp2nextreg exp2anyreg exp2val small near rk_kind exp2rk discharge_jpc push emit_at emit concat emit_jump patch_to_here get_label code_label load_nil emit_nil check_stack reserve_regs alloc_reg free_reg add_constant search_local set_multret above emit_call closed_call last_argument compile_funcargs set_indexed code_self resolve_var leaf_expr after_one between after_two callee compile_head compile_expr jump_list get_jump_target patch_jump last_jump linked get_jump_control need_value retest patch_test_reg remove_values patch_list_aux formulas lower_chunk lower_formed lowered free_in_turn free_both emit_arith code_arith code_unary code_concat far_numeral compare_operands emit_comp code_comp operand before_right code_and code_or join_concat after_right code_unop local_named read_leaf read_one read_binary read_two read_many read_formulas read_expr read_args regs puts joined execute run_from and_then compute negation span climb size odd units round neg sum add sub mul div lt eq le ne of_int of_fields of_bits nan_bits to_bits is_nan sized nils numbered
sized_found = refl

more_found : found (map (λ r. r.chunk) more_rows) ≡ map (λ r. r.answer) more_rows
unfolding pad get_at set_at op_code_of sbx_of excess abc_of a_bx_of floor fold_of entry_of same_bytes same holds find append added has_bytes byte_at line_at bits_at text_at kind_of fields_at node_at bin_op_of un_op_of spans spans_of exprs_at rest expr_at ended form_of names_at formulas_at header_at pop invertjump jumponcond jump_if_false jump_if_true goiftrue goiffalse emit_not negate code_not discharge_kind free_expr load_kind discharge2reg discharge2anyreg land load_both settle join_jump exp2reg exp2nextreg exp2anyreg exp2val small near rk_kind exp2rk discharge_jpc push emit_at emit concat emit_jump patch_to_here get_label code_label load_nil emit_nil check_stack reserve_regs alloc_reg free_reg add_constant search_local set_multret above emit_call closed_call last_argument compile_funcargs set_indexed code_self resolve_var leaf_expr after_one between after_two callee compile_head compile_expr jump_list get_jump_target patch_jump last_jump linked get_jump_control need_value retest patch_test_reg remove_values patch_list_aux formulas lower_chunk lower_formed lowered free_in_turn free_both emit_arith code_arith code_unary code_concat far_numeral compare_operands emit_comp code_comp operand before_right code_and code_or join_concat after_right code_unop local_named read_leaf read_one read_binary read_two read_many read_formulas read_expr read_args regs puts joined execute run_from and_then compute negation span climb size odd units round neg sum add sub mul div lt eq le ne of_int of_fields of_bits nan_bits to_bits is_nan found more_rows
more_found = refl
