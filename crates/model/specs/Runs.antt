-- Worked examples, computed: running the words that a chunk is lowered to gives what reading its formulas gives, for three outsides. Assumes nothing.
use Rattle.std.specs.Prelude.{ℕ, zero, suc, ◌+◌, ◌*◌, ◌%◌, ◌≡◌, refl, List, [], ◌∷◌, ◌++◌, map, true, false, length, replicate, eqb, ltb, Result as Read, Ok, Err}
use Rattle.buffers.specs.Pad.{pad, zeros}
use Rattle.instructions.specs.Field.{get_at, set_at}
use Rattle.opcodes.specs.OpCodes.{op_code_of}
use Rattle.instructions.specs.Word.{sbx_of, excess, abc_of, a_bx_of}
use Rattle.folding.specs.Floor.{floor}
use Rattle.folding.specs.Folding.{fold_of}
use Rattle.constants.specs.Entry.{entry_of, same_bytes, same, holds}
use Rattle.constants.specs.Table.{find, append, added}
use Rattle.cursor.specs.Fields.{has_bytes, byte_at, line_at, bits_at, text_at}
use Rattle.ast.specs.Kinds.{kind_of}
use Rattle.nodes.specs.Nodes.{fields_at, node_at}
use Rattle.ast.specs.Operators.{bin_op_of, un_op_of}
use Rattle.chunk.specs.Ast.{spans, spans_of}
use Rattle.chunk.specs.Form.{exprs_at, rest, expr_at, ended, form_of, Formed, formed, unformed}
use Rattle.chunk.specs.Headers.{names_at, formulas_at, header_at}
use Rattle.model.specs.Conditions.{pop, invertjump, jumponcond, jump_if_false, jump_if_true, goiftrue, goiffalse, emit_not, negate, code_not}
use Rattle.model.specs.Discharge.{discharge_kind, free_expr, load_kind, discharge2reg, discharge2anyreg, land, load_both, settle, join_jump, exp2reg, exp2nextreg, exp2anyreg, exp2val, small, near, rk_kind, exp2rk}
use Rattle.model.specs.Emission.{discharge_jpc, push, emit_at, emit, concat, emit_jump, patch_to_here, get_label, code_label, load_nil, emit_nil, check_stack, reserve_regs, alloc_reg, free_reg, add_constant, with_table}
use Rattle.model.specs.Expressions.{search_local, set_multret, above, emit_call, closed_call, last_argument, compile_funcargs, set_indexed, code_self, resolve_var, leaf_expr, after_one, between, after_two, callee, compile_head, compile_expr}
use Rattle.model.specs.Jumps.{jump_list, get_jump_target, patch_jump, last_jump, linked, get_jump_control, need_value, retest, patch_test_reg, remove_values, patch_list_aux}
use Rattle.model.specs.Operators.{free_in_turn, free_both, emit_arith, code_arith, code_unary, code_concat, far_numeral, compare_operands, emit_comp, code_comp, operand, before_right, code_and, code_or, join_concat, after_right, code_unop}
use Rattle.model.specs.Reading.{local_named, read_leaf, read_one, read_binary, read_two, read_many, read_formulas, read_expr, read_args, reading}
use Rattle.model.specs.Running.{regs, puts, joined, execute, run_from, Program, Run, returned, stuck_run, run}
use Rattle.model.specs.Steps.{and_then, Buffers, Result, done, refused}
use Rattle.model.specs.Values.{compute, negation, Value, nil, truth, number, text, other, StepKind, global_read, index_read, call, equal, less, less_or_equal, length_of, concatenation, arithmetic, Outward, World}
use Rattle.std.specs.Float.Ieee.{span, climb, size, odd, units, round, neg, sum, add, sub, mul, div, lt, eq, le, ne, of_int, of_fields, of_bits, nan_bits, to_bits, is_nan}
use Rattle.model.specs.Claims.{program}
use Rattle.model.specs.Lowering.{formulas, lower_chunk, lower_formed, lowered, start, counts_of}
use Rattle.model.specs.Rows.{Summary, words, refusal, Row, rows, nils}
use Rattle.model.specs.declared.State.{State}
use Rattle.refusals.specs.declared.Refusal.{Refusal}
use Rattle.chunk.specs.declared.header.Header.{Header}

-- ---- runs against readings

-- a chunk, how many numbers are listed before it is lowered, and how many locals it has
record Case : Type 0 where
  chunk : List ℕ
  before : ℕ
  locals : ℕ

-- n different numbers
numbers : ℕ → List ℕ
numbers zero = []
numbers (suc n) = suc n ∷ numbers n

abbrev filled : ℕ → Buffers
filled n = record { code = zeros 64; lines = zeros 64; kinds = replicate n 3 ++ zeros 16; values = numbers n ++ zeros 16; pool = zeros 64 }

abbrev program_of : State → Buffers → Program
program_of s m = program (counts_of s) m

-- the values of the locals, and the varargs
some_values : ℕ → List Value
some_values zero = []
some_values (suc n) = other (100 + n) ∷ some_values n

abbrev some_varargs : List Value
some_varargs = number 7 ∷ nil ∷ text (97 ∷ []) ∷ []

-- the values and the outward steps of a run or of a reading
data Outcome : Type 0 where
  outcome : List Value → List Outward → Outcome
  stuck : Outcome
  not_accepted : Outcome

abbrev of_run : Run → Outcome
of_run (returned vs h n) = outcome vs h
of_run stuck_run = stuck

abbrev run_result : World → ℕ → Result (Unit {0}) → Outcome
run_result w locals (done _ s m) = of_run (run w (program_of s m) (some_values locals) some_varargs)
run_result w locals (refused k m) = not_accepted

abbrev run_header : World → Case → Read Header Refusal → Outcome
run_header w r (Ok h) =
    run_result w r.locals
    (lower_chunk r.chunk h (with_table (record { count = r.before; used = 0 }) (start h.next h.locals)) (filled r.before))
run_header w r (Err k) = not_accepted

ran : World → Case → Outcome
ran w r = run_header w r (header_at r.chunk)

abbrev read_form : World → Case → Formed → Outcome
read_form w r (formed c) = outcome (reading w r.chunk c (some_values r.locals) some_varargs).gives (reading w r.chunk c (some_values r.locals) some_varargs).steps
read_form w r (unformed k) = not_accepted

read : World → Case → Outcome
read w r = read_form w r (form_of r.chunk)

-- three outsides. The first answers by number and content of all steps so far
weigh : Value → ℕ
weigh nil = 1
weigh (truth true) = 2
weigh (truth false) = 3
weigh (number b) = b % 997 + 5
weigh (text t) = 7 + length t
weigh (other i) = i + 11

weigh_all : List Value → ℕ
weigh_all [] = 1
weigh_all (v ∷ vs) = weigh v + 3 * weigh_all vs

sort : StepKind → ℕ
sort global_read = 1
sort index_read = 2
sort call = 3
sort equal = 4
sort less = 5
sort less_or_equal = 6
sort length_of = 7
sort concatenation = 8
sort (arithmetic o) = 9

digest : List Outward → ℕ
digest [] = 1
digest (s ∷ h) = (digest h * 31 + sort s.kind * 7 + weigh_all s.values) % 9973

varied : ℕ → ℕ → Value
varied zero d = nil
varied (suc zero) d = truth false
varied (suc (suc zero)) d = number d
varied (suc (suc (suc n))) d = other d

-- 0, 1 or 3 values
several : ℕ → ℕ → List Value
several zero d = []
several (suc zero) d = other d ∷ []
several (suc (suc n)) d = other d ∷ nil ∷ truth true ∷ []

by_content : World
by_content = record { one = λ h. varied (digest h % 5) (digest h); many = λ h. several (digest h % 3) (digest h); holds = λ h. eqb (digest h % 2) 0 }

-- the second answers calls with 0, 1 and 3 values in turn
calls_in_turn : World
calls_in_turn = record { one = λ h. other (length h); many = λ h. several (length h % 3) (length h); holds = λ h. true }

-- the third alternates truth
alternating : World
alternating = record { one = λ h. truth (eqb (length h % 2) 0); many = λ h. truth (eqb (length h % 2) 1) ∷ []; holds = λ h. eqb (length h % 2) 1 }

worlds : List World
worlds = by_content ∷ calls_in_turn ∷ alternating ∷ []

each : {A B C : Type 0} → (A → B → C) → List A → List B → List (List C)
each f [] bs = []
each f (a ∷ as₁) bs = map (f a) bs ∷ each f as₁ bs

-- the rows of P1 to P12 that are accepted, but for the wide ones, P3 and P12, whose runs take long to compute: they are instances of the theorem (crate faithful)
abbrev accepted : Summary → List ℕ → List Case → List Case
accepted (refusal n) c cs = cs
accepted (words w l k v t f) c cs = record { chunk = c; before = 0; locals = 0 } ∷ cs

of_rows : List Row → List Case
of_rows [] = []
of_rows (r ∷ rs) =
    elim (ltb (length r.chunk) 100) [
      | true ↦ accepted r.answer r.chunk (of_rows rs)
      | false ↦ of_rows rs
    ]

cases : List Case
cases =
    -- not-and: not (a and b): no `TestSet` is left by `not`
    record { chunk = (0 ∷ 1 ∷ 8 ∷ 8 ∷ 1 ∷ 7 ∷ 8 ∷ 13 ∷ 6 ∷ 4 ∷ 1 ∷ 0 ∷ 97 ∷ 6 ∷ 4 ∷ 1 ∷ 0 ∷ 98 ∷ []); before = 0; locals = 0 } ∷
    -- label: (a .. b) and nil, nil: a label keeps the second nil apart
    record { chunk = (0 ∷ 2 ∷ 7 ∷ 8 ∷ 13 ∷ 7 ∷ 8 ∷ 6 ∷ 6 ∷ 4 ∷ 1 ∷ 0 ∷ 97 ∷ 6 ∷ 4 ∷ 1 ∷ 0 ∷ 98 ∷ 0 ∷ 0 ∷ 0 ∷ 0 ∷ []); before = 0; locals = 0 } ∷
    -- greater: a > b is b < a
    record { chunk = (0 ∷ 1 ∷ 7 ∷ 8 ∷ 9 ∷ 6 ∷ 4 ∷ 1 ∷ 0 ∷ 97 ∷ 6 ∷ 4 ∷ 1 ∷ 0 ∷ 98 ∷ []); before = 0; locals = 0 } ∷
    -- index-argument: f(a[b]): key and table are freed, the higher first
    record { chunk = (0 ∷ 1 ∷ 12 ∷ 16 ∷ 1 ∷ 6 ∷ 4 ∷ 1 ∷ 0 ∷ 102 ∷ 9 ∷ 0 ∷ 6 ∷ 4 ∷ 1 ∷ 0 ∷ 97 ∷ 6 ∷ 4 ∷ 1 ∷ 0 ∷ 98 ∷ []); before = 0; locals = 0 } ∷
    -- sum-argument: f(x + y): both operands are freed, the higher first
    record { chunk = (0 ∷ 1 ∷ 12 ∷ 16 ∷ 1 ∷ 6 ∷ 4 ∷ 1 ∷ 0 ∷ 102 ∷ 7 ∷ 8 ∷ 0 ∷ 6 ∷ 4 ∷ 1 ∷ 0 ∷ 120 ∷ 6 ∷ 4 ∷ 1 ∷ 0 ∷ 121 ∷ []); before = 0; locals = 0 } ∷
    -- open-argument: f(a, g(...)): the last argument gives all its values
    record { chunk = (2 ∷ 1 ∷ 12 ∷ 16 ∷ 2 ∷ 6 ∷ 4 ∷ 1 ∷ 0 ∷ 102 ∷ 6 ∷ 4 ∷ 1 ∷ 0 ∷ 97 ∷ 12 ∷ 16 ∷ 1 ∷ 6 ∷ 4 ∷ 1 ∷ 0 ∷ 103 ∷ 5 ∷ 0 ∷ []); before = 0; locals = 0 } ∷
    -- paren-argument: f((...)): parentheses keep one value
    record { chunk = (2 ∷ 1 ∷ 12 ∷ 16 ∷ 1 ∷ 6 ∷ 4 ∷ 1 ∷ 0 ∷ 102 ∷ 13 ∷ 0 ∷ 5 ∷ 0 ∷ []); before = 0; locals = 0 } ∷
    -- method: o:m(1, x) with o and x local, x twice
    record { chunk = (1 ∷ 3 ∷ 1 ∷ 0 ∷ 120 ∷ 1 ∷ 0 ∷ 111 ∷ 1 ∷ 0 ∷ 120 ∷ 1 ∷ 11 ∷ 20 ∷ 1 ∷ 0 ∷ 109 ∷ 2 ∷ 6 ∷ 4 ∷ 1 ∷ 0 ∷ 111 ∷ 3 ∷ 2 ∷ 0 ∷ 0 ∷ 0 ∷ 0 ∷ 0 ∷ 0 ∷ 240 ∷ 63 ∷ 6 ∷ 4 ∷ 1 ∷ 0 ∷ 120 ∷ []); before = 0; locals = 3 } ∷
    -- far-sum: f(1.5 + x) with 256 constants before (difference 2): `Call` has B = 2
    record { chunk = (0 ∷ 1 ∷ 12 ∷ 16 ∷ 1 ∷ 6 ∷ 4 ∷ 1 ∷ 0 ∷ 102 ∷ 7 ∷ 8 ∷ 0 ∷ 3 ∷ 2 ∷ 0 ∷ 0 ∷ 0 ∷ 0 ∷ 0 ∷ 0 ∷ 248 ∷ 63 ∷ 6 ∷ 4 ∷ 1 ∷ 0 ∷ 120 ∷ []); before = 256; locals = 0 } ∷
    -- far-equal: 1.5 == (a < b) with 256 constants before (difference 2)
    record { chunk = (0 ∷ 1 ∷ 7 ∷ 8 ∷ 11 ∷ 3 ∷ 2 ∷ 0 ∷ 0 ∷ 0 ∷ 0 ∷ 0 ∷ 0 ∷ 248 ∷ 63 ∷ 7 ∷ 8 ∷ 7 ∷ 6 ∷ 4 ∷ 1 ∷ 0 ∷ 97 ∷ 6 ∷ 4 ∷ 1 ∷ 0 ∷ 98 ∷ []); before = 256; locals = 0 } ∷
    -- far-true: x == true with 255 constants before, so that x is the 256th: true is in a register
    record { chunk = (0 ∷ 1 ∷ 7 ∷ 8 ∷ 11 ∷ 6 ∷ 4 ∷ 1 ∷ 0 ∷ 120 ∷ 1 ∷ 0 ∷ []); before = 255; locals = 0 } ∷
    -- values: a and 1 or b .. 2, not not c, #a, -a ^ 2, a.b <= c
    record { chunk = (0 ∷ 5 ∷ 7 ∷ 8 ∷ 14 ∷ 7 ∷ 8 ∷ 13 ∷ 6 ∷ 4 ∷ 1 ∷ 0 ∷ 97 ∷ 3 ∷ 2 ∷ 0 ∷ 0 ∷ 0 ∷ 0 ∷ 0 ∷ 0 ∷ 240 ∷ 63 ∷ 7 ∷ 8 ∷ 6 ∷ 6 ∷ 4 ∷ 1 ∷ 0 ∷ 98 ∷ 3 ∷ 2 ∷ 0 ∷ 0 ∷ 0 ∷ 0 ∷ 0 ∷ 0 ∷ 0 ∷ 64 ∷ 8 ∷ 8 ∷ 1 ∷ 8 ∷ 8 ∷ 1 ∷ 6 ∷ 4 ∷ 1 ∷ 0 ∷ 99 ∷ 8 ∷ 8 ∷ 2 ∷ 6 ∷ 4 ∷ 1 ∷ 0 ∷ 97 ∷ 8 ∷ 8 ∷ 0 ∷ 7 ∷ 8 ∷ 5 ∷ 6 ∷ 4 ∷ 1 ∷ 0 ∷ 97 ∷ 3 ∷ 2 ∷ 0 ∷ 0 ∷ 0 ∷ 0 ∷ 0 ∷ 0 ∷ 0 ∷ 64 ∷ 7 ∷ 8 ∷ 8 ∷ 10 ∷ 4 ∷ 1 ∷ 0 ∷ 98 ∷ 6 ∷ 4 ∷ 1 ∷ 0 ∷ 97 ∷ 6 ∷ 4 ∷ 1 ∷ 0 ∷ 99 ∷ []); before = 0; locals = 0 } ∷
    -- many-calls: f()(g(), nil, f(...)), ... , (f(...))
    record { chunk = (2 ∷ 3 ∷ 12 ∷ 16 ∷ 3 ∷ 12 ∷ 16 ∷ 0 ∷ 6 ∷ 4 ∷ 1 ∷ 0 ∷ 102 ∷ 12 ∷ 16 ∷ 0 ∷ 6 ∷ 4 ∷ 1 ∷ 0 ∷ 103 ∷ 0 ∷ 0 ∷ 12 ∷ 16 ∷ 1 ∷ 6 ∷ 4 ∷ 1 ∷ 0 ∷ 102 ∷ 5 ∷ 0 ∷ 5 ∷ 0 ∷ 13 ∷ 0 ∷ 12 ∷ 16 ∷ 1 ∷ 6 ∷ 4 ∷ 1 ∷ 0 ∷ 102 ∷ 5 ∷ 0 ∷ []); before = 0; locals = 0 } ∷
    -- conditions: (a < b and b < c or not (c == a)) and (a ~= 1 or x)
    record { chunk = (0 ∷ 1 ∷ 7 ∷ 8 ∷ 13 ∷ 7 ∷ 8 ∷ 14 ∷ 7 ∷ 8 ∷ 13 ∷ 7 ∷ 8 ∷ 7 ∷ 6 ∷ 4 ∷ 1 ∷ 0 ∷ 97 ∷ 6 ∷ 4 ∷ 1 ∷ 0 ∷ 98 ∷ 7 ∷ 8 ∷ 7 ∷ 6 ∷ 4 ∷ 1 ∷ 0 ∷ 98 ∷ 6 ∷ 4 ∷ 1 ∷ 0 ∷ 99 ∷ 8 ∷ 8 ∷ 1 ∷ 7 ∷ 8 ∷ 11 ∷ 6 ∷ 4 ∷ 1 ∷ 0 ∷ 99 ∷ 6 ∷ 4 ∷ 1 ∷ 0 ∷ 97 ∷ 7 ∷ 8 ∷ 14 ∷ 7 ∷ 8 ∷ 12 ∷ 6 ∷ 4 ∷ 1 ∷ 0 ∷ 97 ∷ 3 ∷ 2 ∷ 0 ∷ 0 ∷ 0 ∷ 0 ∷ 0 ∷ 0 ∷ 240 ∷ 63 ∷ 6 ∷ 4 ∷ 1 ∷ 0 ∷ 120 ∷ []); before = 0; locals = 0 } ∷
    []

p_runs_are_readings : each ran worlds (of_rows rows) ≡ each read worlds (of_rows rows)
unfolding pad get_at set_at op_code_of sbx_of excess abc_of a_bx_of floor fold_of entry_of same_bytes same holds find append added has_bytes byte_at line_at bits_at text_at kind_of fields_at node_at bin_op_of un_op_of spans spans_of exprs_at rest expr_at ended form_of names_at formulas_at header_at pop invertjump jumponcond jump_if_false jump_if_true goiftrue goiffalse emit_not negate code_not discharge_kind free_expr load_kind discharge2reg discharge2anyreg land load_both settle join_jump exp2reg exp2nextreg exp2anyreg exp2val small near rk_kind exp2rk discharge_jpc push emit_at emit concat emit_jump patch_to_here get_label code_label load_nil emit_nil check_stack reserve_regs alloc_reg free_reg add_constant search_local set_multret above emit_call closed_call last_argument compile_funcargs set_indexed code_self resolve_var leaf_expr after_one between after_two callee compile_head compile_expr jump_list get_jump_target patch_jump last_jump linked get_jump_control need_value retest patch_test_reg remove_values patch_list_aux formulas lower_chunk lower_formed lowered free_in_turn free_both emit_arith code_arith code_unary code_concat far_numeral compare_operands emit_comp code_comp operand before_right code_and code_or join_concat after_right code_unop local_named read_leaf read_one read_binary read_two read_many read_formulas read_expr read_args regs puts joined execute run_from and_then compute negation span climb size odd units round neg sum add sub mul div lt eq le ne of_int of_fields of_bits nan_bits to_bits is_nan ran read numbers some_values weigh weigh_all sort digest varied several by_content calls_in_turn alternating worlds each of_rows rows nils
p_runs_are_readings = refl

runs_are_readings : each ran worlds cases ≡ each read worlds cases
unfolding pad get_at set_at op_code_of sbx_of excess abc_of a_bx_of floor fold_of entry_of same_bytes same holds find append added has_bytes byte_at line_at bits_at text_at kind_of fields_at node_at bin_op_of un_op_of spans spans_of exprs_at rest expr_at ended form_of names_at formulas_at header_at pop invertjump jumponcond jump_if_false jump_if_true goiftrue goiffalse emit_not negate code_not discharge_kind free_expr load_kind discharge2reg discharge2anyreg land load_both settle join_jump exp2reg exp2nextreg exp2anyreg exp2val small near rk_kind exp2rk discharge_jpc push emit_at emit concat emit_jump patch_to_here get_label code_label load_nil emit_nil check_stack reserve_regs alloc_reg free_reg add_constant search_local set_multret above emit_call closed_call last_argument compile_funcargs set_indexed code_self resolve_var leaf_expr after_one between after_two callee compile_head compile_expr jump_list get_jump_target patch_jump last_jump linked get_jump_control need_value retest patch_test_reg remove_values patch_list_aux formulas lower_chunk lower_formed lowered free_in_turn free_both emit_arith code_arith code_unary code_concat far_numeral compare_operands emit_comp code_comp operand before_right code_and code_or join_concat after_right code_unop local_named read_leaf read_one read_binary read_two read_many read_formulas read_expr read_args regs puts joined execute run_from and_then compute negation span climb size odd units round neg sum add sub mul div lt eq le ne of_int of_fields of_bits nan_bits to_bits is_nan ran read numbers some_values weigh weigh_all sort digest varied several by_content calls_in_turn alternating worlds each cases
runs_are_readings = refl
