-- That the hypotheses of `faithful` can be met: P5 and P12 of document 01, and a sum of a local and a number, are accepted with buffers that just fit, so their runs are their readings,
-- whatever the outside, the varargs and the local.
-- By computing the form and the lowering.
use Rattle.std.specs.Prelude.{ℕ, zero, suc, ◌≤◌, Bool, true, false, ◌≡◌, refl, List, [], ◌∷◌, length, ltb, T}
use Rattle.std.proofs.Common.{sym, ap, subst, ◌∙◌, arith, ltb→lt}
use Rattle.buffers.specs.Pad.{pad}
use Rattle.instructions.specs.Field.{get_at, set_at}
use Rattle.opcodes.specs.OpCodes.{op_code_of}
use Rattle.instructions.specs.Word.{sbx_of, excess, abc_of, a_bx_of}
use Rattle.folding.specs.Floor.{floor}
use Rattle.folding.specs.Folding.{fold_of}
use Rattle.constants.specs.Entry.{entry_of, same_bytes, same, holds}
use Rattle.constants.specs.Table.{find, append, added}
use Rattle.cursor.specs.Fields.{has_bytes, byte_at, line_at, bits_at, text_at}
use Rattle.ast.specs.Kinds.{kind_of}
use Rattle.nodes.specs.Nodes.{fields_at, node_at}
use Rattle.ast.specs.Operators.{bin_op_of, un_op_of}
use Rattle.chunk.specs.Ast.{spans, spans_of}
use Rattle.chunk.specs.Form.{exprs_at, rest, expr_at, ended, form_of}
use Rattle.chunk.specs.Headers.{names_at, formulas_at, header_at}
use Rattle.model.specs.Conditions.{pop, invertjump, jumponcond, jump_if_false, jump_if_true, goiftrue, goiffalse, emit_not, negate, code_not}
use Rattle.model.specs.Discharge.{discharge_kind, free_expr, load_kind, discharge2reg, discharge2anyreg, land, load_both, settle, join_jump, exp2reg, exp2nextreg, exp2anyreg, exp2val, small, near, rk_kind, exp2rk}
use Rattle.model.specs.Emission.{discharge_jpc, push, emit_at, emit, concat, emit_jump, patch_to_here, get_label, code_label, load_nil, emit_nil, check_stack, reserve_regs, alloc_reg, free_reg, add_constant}
use Rattle.model.specs.Expressions.{search_local, set_multret, above, emit_call, closed_call, last_argument, compile_funcargs, set_indexed, code_self, resolve_var, leaf_expr, after_one, between, after_two, callee, compile_head, compile_expr}
use Rattle.model.specs.Jumps.{jump_list, get_jump_target, patch_jump, last_jump, linked, get_jump_control, need_value, retest, patch_test_reg, remove_values, patch_list_aux}
use Rattle.model.specs.Operators.{free_in_turn, free_both, emit_arith, code_arith, code_unary, code_concat, far_numeral, compare_operands, emit_comp, code_comp, operand, before_right, code_and, code_or, join_concat, after_right, code_unop}
use Rattle.model.specs.Steps.{and_then}
use Rattle.std.specs.Float.Ieee.{span, climb, size, odd, units, round, neg, sum, add, sub, mul, div, lt, eq, le, ne, of_int, of_fields, of_bits, nan_bits, to_bits, is_nan}
use Rattle.model.specs.Lowering.{formulas, lower_chunk, lower_formed, lowered}
use Rattle.chunk.specs.Ast.{Chunk}
use Rattle.chunk.specs.Form.{formed}
use Rattle.model.specs.declared.Counts.{Counts}
use Rattle.std.specs.Prelude as answer
use Rattle.model.specs.Lowering.{Sizes}
use Rattle.model.specs.Rows.{nils, p5_chunk as p5}
use Rattle.model.specs.Values.{Value, truth, World}
use Rattle.model.specs.Reading.{reading, read_leaf, read_one, read_binary, read_two, read_expr, read_formulas}
use Rattle.model.specs.Running.{returned, run}
use Rattle.model.specs.Claims.{program, RunsAsRead, Bytes}
use Rattle.faithful.specs.Faithful.{faithful}

-- whether each entry is a byte
unfoldable pub all_bytes : List ℕ → Bool
all_bytes [] = true
all_bytes (b ∷ s) = elim (ltb b 256) [ true ↦ all_bytes s | false ↦ false ]

pub each_byte : (s : List ℕ) → all_bytes s ≡ true → Bytes s
unfolding all_bytes
each_byte [] h i = omega arith
each_byte (b ∷ s) h i = go (ltb b 256) refl h (each_byte s) i
  where
    go : (t : Bool) → ltb b 256 ≡ t → elim t as (λ (_ : Bool). Bool) [ true ↦ all_bytes s | false ↦ false ] ≡ true → (all_bytes s ≡ true → Bytes s) → Bytes (b ∷ s)
    go false e z r i = absurd (let u : ◌≡◌ {A = ℕ} 0 1 = cc in omega arith)
    go true e z r zero = ltb→lt b 256 (subst T (sym e) tt)
    go true e z r (suc i) = r z i

-- accepted, with n locals: the form, and the counts
record Met (z : Sizes) (chunk : List ℕ) (n : ℕ) : Type 0 where
  tree : Chunk
  form : form_of chunk ≡ formed tree
  named : n ≡ length tree.names
  counts : Counts
  answers : (lowered z chunk).answer ≡ answer.Ok counts

-- the run of what is accepted, whatever the outside, the locals and the varargs
runs : (z : Sizes) (chunk : List ℕ) → Bytes chunk → (w : World) (locals varargs : List Value) (h : Met z chunk (length locals)) →
    RunsAsRead chunk h.tree w locals varargs h.counts (lowered z chunk).buffers
runs z chunk b w locals varargs h = faithful z chunk b h.tree h.form h.counts h.answers w locals varargs h.named

-- P5: ((1 or false) and true) or false
abbrev for_p5 : Sizes
for_p5 = record { code = 10; lines = 10; kinds = 1; values = 1; pool = 0; scratch = 7 }

p5_met : Met for_p5 p5 0
unfolding pad get_at set_at op_code_of sbx_of excess abc_of a_bx_of floor fold_of entry_of same_bytes same holds find append added has_bytes byte_at line_at bits_at text_at kind_of fields_at node_at bin_op_of un_op_of spans spans_of exprs_at rest expr_at ended form_of names_at formulas_at header_at pop invertjump jumponcond jump_if_false jump_if_true goiftrue goiffalse emit_not negate code_not discharge_kind free_expr load_kind discharge2reg discharge2anyreg land load_both settle join_jump exp2reg exp2nextreg exp2anyreg exp2val small near rk_kind exp2rk discharge_jpc push emit_at emit concat emit_jump patch_to_here get_label code_label load_nil emit_nil check_stack reserve_regs alloc_reg free_reg add_constant search_local set_multret above emit_call closed_call last_argument compile_funcargs set_indexed code_self resolve_var leaf_expr after_one between after_two callee compile_head compile_expr jump_list get_jump_target patch_jump last_jump linked get_jump_control need_value retest patch_test_reg remove_values patch_list_aux formulas lower_chunk lower_formed lowered free_in_turn free_both emit_arith code_arith code_unary code_concat far_numeral compare_operands emit_comp code_comp operand before_right code_and code_or join_concat after_right code_unop and_then span climb size odd units round neg sum add sub mul div lt eq le ne of_int of_fields of_bits nan_bits to_bits is_nan
p5_met = record { tree = _; form = refl; named = refl; counts = record { words = 10; constants = 1; text = 0; frame = 2 }; answers = refl }

p5_bytes : Bytes p5
unfolding all_bytes
p5_bytes = each_byte p5 refl

-- P12: 248 nils, then f(...)
abbrev p12 : List ℕ
p12 = 2 ∷ 249 ∷ nils 248 (12 ∷ 16 ∷ 1 ∷ 6 ∷ 4 ∷ 1 ∷ 0 ∷ 102 ∷ 5 ∷ 0 ∷ [])

abbrev for_p12 : Sizes
for_p12 = record { code = 4; lines = 4; kinds = 1; values = 1; pool = 1; scratch = 251 }

p12_met : Met for_p12 p12 0
unfolding pad get_at set_at op_code_of sbx_of excess abc_of a_bx_of floor fold_of entry_of same_bytes same holds find append added has_bytes byte_at line_at bits_at text_at kind_of fields_at node_at bin_op_of un_op_of spans spans_of exprs_at rest expr_at ended form_of names_at formulas_at header_at pop invertjump jumponcond jump_if_false jump_if_true goiftrue goiffalse emit_not negate code_not discharge_kind free_expr load_kind discharge2reg discharge2anyreg land load_both settle join_jump exp2reg exp2nextreg exp2anyreg exp2val small near rk_kind exp2rk discharge_jpc push emit_at emit concat emit_jump patch_to_here get_label code_label load_nil emit_nil check_stack reserve_regs alloc_reg free_reg add_constant search_local set_multret above emit_call closed_call last_argument compile_funcargs set_indexed code_self resolve_var leaf_expr after_one between after_two callee compile_head compile_expr jump_list get_jump_target patch_jump last_jump linked get_jump_control need_value retest patch_test_reg remove_values patch_list_aux formulas lower_chunk lower_formed lowered free_in_turn free_both emit_arith code_arith code_unary code_concat far_numeral compare_operands emit_comp code_comp operand before_right code_and code_or join_concat after_right code_unop and_then span climb size odd units round neg sum add sub mul div lt eq le ne of_int of_fields of_bits nan_bits to_bits is_nan nils
p12_met = record { tree = _; form = refl; named = refl; counts = record { words = 4; constants = 1; text = 1; frame = 250 }; answers = refl }

p12_bytes : Bytes p12
unfolding all_bytes nils
p12_bytes = each_byte p12 refl

-- one local: x + 1
abbrev one : List ℕ
one = 1 ∷ 1 ∷ 1 ∷ 0 ∷ 120 ∷ 1 ∷ 7 ∷ 8 ∷ 0 ∷ 6 ∷ 4 ∷ 1 ∷ 0 ∷ 120 ∷ 3 ∷ 2 ∷ 0 ∷ 0 ∷ 0 ∷ 0 ∷ 0 ∷ 0 ∷ 240 ∷ 63 ∷ []

abbrev for_one : Sizes
for_one = record { code = 2; lines = 2; kinds = 1; values = 1; pool = 0; scratch = 3 }

one_met : Met for_one one 1
unfolding pad get_at set_at op_code_of sbx_of excess abc_of a_bx_of floor fold_of entry_of same_bytes same holds find append added has_bytes byte_at line_at bits_at text_at kind_of fields_at node_at bin_op_of un_op_of spans spans_of exprs_at rest expr_at ended form_of names_at formulas_at header_at pop invertjump jumponcond jump_if_false jump_if_true goiftrue goiffalse emit_not negate code_not discharge_kind free_expr load_kind discharge2reg discharge2anyreg land load_both settle join_jump exp2reg exp2nextreg exp2anyreg exp2val small near rk_kind exp2rk discharge_jpc push emit_at emit concat emit_jump patch_to_here get_label code_label load_nil emit_nil check_stack reserve_regs alloc_reg free_reg add_constant search_local set_multret above emit_call closed_call last_argument compile_funcargs set_indexed code_self resolve_var leaf_expr after_one between after_two callee compile_head compile_expr jump_list get_jump_target patch_jump last_jump linked get_jump_control need_value retest patch_test_reg remove_values patch_list_aux formulas lower_chunk lower_formed lowered free_in_turn free_both emit_arith code_arith code_unary code_concat far_numeral compare_operands emit_comp code_comp operand before_right code_and code_or join_concat after_right code_unop and_then span climb size odd units round neg sum add sub mul div lt eq le ne of_int of_fields of_bits nan_bits to_bits is_nan
one_met = record { tree = _; form = refl; named = refl; counts = record { words = 2; constants = 1; text = 0; frame = 2 }; answers = refl }

one_bytes : Bytes one
unfolding all_bytes
one_bytes = each_byte one refl

-- the theorem on the three
p5_runs : (w : World) (varargs : List Value) → RunsAsRead p5 p5_met.tree w [] varargs p5_met.counts (lowered for_p5 p5).buffers
p5_runs w varargs = runs for_p5 p5 p5_bytes w [] varargs p5_met

p12_runs : (w : World) (varargs : List Value) → RunsAsRead p12 p12_met.tree w [] varargs p12_met.counts (lowered for_p12 p12).buffers
p12_runs w varargs = runs for_p12 p12 p12_bytes w [] varargs p12_met

one_runs : (w : World) (x : Value) (varargs : List Value) → RunsAsRead one one_met.tree w (x ∷ []) varargs one_met.counts (lowered for_one one).buffers
one_runs w x varargs = runs for_one one one_bytes w (x ∷ []) varargs one_met

-- so P5 returns true and takes no step, whatever the outside and the varargs (the Rust returns 1): its reading does
p5_reads_true : (w : World) (varargs : List Value) → ((reading w p5 p5_met.tree [] varargs).gives ≡ truth true ∷ []) × ((reading w p5 p5_met.tree [] varargs).steps ≡ [])
unfolding p5_met read_leaf read_one read_binary read_two read_expr read_formulas
p5_reads_true w varargs = (refl, refl)

p5_words : p5_met.counts.words ≡ 10
unfolding p5_met
p5_words = refl

p5_returns_true : (w : World) (varargs : List Value) → (n : ℕ) × ((n ≤ 10) × (run w (program p5_met.counts (lowered for_p5 p5).buffers) [] varargs ≡ returned (truth true ∷ []) [] n))
p5_returns_true w varargs =
    let r = p5_runs w varargs in
    let (gives, steps) = p5_reads_true w varargs in
    (r.0, (omega (arith, r.1.0, p5_words), r.1.1 ∙ ap (λ v. returned v (reading w p5 p5_met.tree [] varargs).steps r.0) gives ∙ ap (λ h. returned (truth true ∷ []) h r.0) steps))
