-- Outcomes written out by hand from document 01, "Running and reading", and the VM paper: of each formula its bytes, its words, the outside, and then literally the outward steps
-- with their values in order, the values returned and how many words are carried out. Reading, running and lowering are held to them each by itself; and runs that are stuck, one for each reason.
use Rattle.std.specs.Prelude.{ℕ, ◌+◌, ◌*◌, ◌-◌, ◌≡◌, refl, List, [], ◌∷◌, ◌++◌, map, reverse, true, false, length}
use Rattle.folding.specs.declared.Arith.TheVariants as arith
use Rattle.buffers.specs.Pad.{pad}
use Rattle.chunk.specs.Form.{Formed, formed, unformed, form_of, exprs_at, rest, expr_at, ended}
use Rattle.model.specs.Lowered.{Lowered}
use Rattle.std.specs.Prelude as answer
use Rattle.model.specs.Values.{Value, nil, truth, number, text, other, StepKind, global_read, index_read, call, equal, less, less_or_equal, length_of, concatenation, arithmetic, Outward, World, compute, negation}
use Rattle.model.specs.Reading.{reading, local_named, read_leaf, read_one, read_binary, read_two, read_many, read_formulas, read_expr, read_args}
use Rattle.model.specs.Running.{Program, returned, stuck_run, run, regs, puts, joined, execute, run_from}
use Rattle.model.specs.Steps.{Buffers, and_then}
use Rattle.model.specs.Claims.{program}
use Rattle.model.specs.Lowering.{Sizes, lowered, formulas, lower_chunk, lower_formed}
use Rattle.opcodes.specs.OpCodes.{op_code_of}
use Rattle.instructions.specs.Field.{get_at, set_at}
use Rattle.instructions.specs.Word.{sbx_of, excess, abc_of, a_bx_of}
use Rattle.folding.specs.Floor.{floor}
use Rattle.folding.specs.Folding.{fold_of}
use Rattle.constants.specs.Entry.{entry_of, same_bytes, same, holds}
use Rattle.constants.specs.Table.{find, append, added}
use Rattle.cursor.specs.Fields.{has_bytes, byte_at, line_at, bits_at, text_at}
use Rattle.ast.specs.Kinds.{kind_of}
use Rattle.ast.specs.Operators.{bin_op_of, un_op_of}
use Rattle.nodes.specs.Nodes.{fields_at, node_at}
use Rattle.chunk.specs.Ast.{spans, spans_of}
use Rattle.chunk.specs.Headers.{names_at, formulas_at, header_at}
use Rattle.model.specs.Conditions.{pop, invertjump, jumponcond, jump_if_false, jump_if_true, goiftrue, goiffalse, emit_not, negate, code_not}
use Rattle.model.specs.Discharge.{discharge_kind, free_expr, load_kind, discharge2reg, discharge2anyreg, land, load_both, settle, join_jump, exp2reg, exp2nextreg, exp2anyreg, exp2val, small, near, rk_kind, exp2rk}
use Rattle.model.specs.Emission.{discharge_jpc, push, emit_at, emit, concat, emit_jump, patch_to_here, get_label, code_label, load_nil, emit_nil, check_stack, reserve_regs, alloc_reg, free_reg, add_constant}
use Rattle.model.specs.Expressions.{search_local, set_multret, above, emit_call, closed_call, last_argument, compile_funcargs, set_indexed, code_self, resolve_var, leaf_expr, after_one, between, after_two, callee, compile_head, compile_expr}
use Rattle.model.specs.Jumps.{jump_list, get_jump_target, patch_jump, last_jump, linked, get_jump_control, need_value, retest, patch_test_reg, remove_values, patch_list_aux}
use Rattle.model.specs.Operators.{free_in_turn, free_both, emit_arith, code_arith, code_unary, code_concat, far_numeral, compare_operands, emit_comp, code_comp, operand, before_right, code_and, code_or, join_concat, after_right, code_unop}
use Rattle.std.specs.Float.Ieee.{span, climb, size, odd, units, round, neg, sum, add, sub, mul, div, lt, eq, le, ne, of_int, of_fields, of_bits, nan_bits, to_bits, is_nan}

-- ---- outsides

-- each step is answered by its number, calls by that and 100 more, comparisons by true
abbrev counting : World
counting = record { one = λ h. other (length h); many = λ h. other (length h) ∷ other (100 + length h) ∷ []; holds = λ h. true }

-- comparisons are answered by false
abbrev denying : World
denying = record { one = λ h. other (length h); many = λ h. other (length h) ∷ []; holds = λ h. false }

-- nothing comes back
abbrev silent : World
silent = record { one = λ h. nil; many = λ h. []; holds = λ h. false }

-- everything is 2
abbrev two : World
two = record { one = λ h. number 4611686018427387904; many = λ h. number 4611686018427387904 ∷ []; holds = λ h. true }

-- ---- words, by document 01's layout: opcode bits 0-5, A bits 6-13, C bits 14-22, B bits 23-31; Bx bits 14-31; sBx is Bx minus 131,071

abbrev abc : ℕ → ℕ → ℕ → ℕ → ℕ
abc o a b c = o + 64 * a + 8388608 * b + 16384 * c

abbrev abx : ℕ → ℕ → ℕ → ℕ
abx o a bx = o + 64 * a + 16384 * bx

-- `Jmp` to a word further on, and back: from the word behind it
abbrev jmp : ℕ → ℕ
jmp on = abx 22 0 (131071 + on)

abbrev jmp_back : ℕ → ℕ
jmp_back n = abx 22 0 (131071 - n)

-- ---- what is told of a formula

record Told : Type 0 where
  -- the chunk, and its words with the constants and the frame
  chunk : List ℕ
  words : List ℕ
  kinds : List ℕ
  values : List ℕ
  pool : List ℕ
  frame : ℕ
  -- what it is given
  outside : World
  locals : List Value
  -- the outward steps in order, the values, and how many words are carried out
  steps : List Outward
  gives : List Value
  carried : ℕ

-- the varargs, where there are some
abbrev given : List Value
given = number 4619567317775286272 ∷ nil ∷ []

-- bytes: a name, the numerals 1, 2, 3 and 0, and a chunk that is one formula
abbrev name : ℕ → List ℕ
name n = 6 ∷ 4 ∷ 1 ∷ 0 ∷ n ∷ []

abbrev numeral : ℕ → ℕ → List ℕ
numeral x y = 3 ∷ 2 ∷ 0 ∷ 0 ∷ 0 ∷ 0 ∷ 0 ∷ 0 ∷ x ∷ y ∷ []

abbrev n0 : List ℕ
n0 = numeral 0 0

abbrev n1 : List ℕ
n1 = numeral 240 63

abbrev n2 : List ℕ
n2 = numeral 0 64

abbrev n3 : List ℕ
n3 = numeral 8 64

abbrev binary : ℕ → List ℕ → List ℕ → List ℕ
binary o a b = 0 ∷ 1 ∷ 7 ∷ 8 ∷ o ∷ (a ++ b)

abbrev unary : ℕ → List ℕ → List ℕ
unary o a = 0 ∷ 1 ∷ 8 ∷ 8 ∷ o ∷ a

-- the bits of 1, 2 and 3
abbrev one_bits : ℕ
one_bits = 4607182418800017408

abbrev two_bits : ℕ
two_bits = 4611686018427387904

abbrev three_bits : ℕ
three_bits = 4613937818241073152

-- steps
abbrev step : StepKind → List Value → Outward
step k vs = record { kind = k; values = vs }

-- a global is read: its name has one letter
abbrev reads : ℕ → Outward
reads n = step global_read (text (n ∷ []) ∷ [])

abbrev told : List Told
told =
    -- a.b
    record {
      chunk = 0 ∷ 1 ∷ 10 ∷ 4 ∷ 1 ∷ 0 ∷ 98 ∷ name 97;
      words = (abx 5 0 0 ∷ abc 6 0 0 257 ∷ abc 30 0 2 0 ∷ []);
      kinds = (4 ∷ 4 ∷ []);
      values = (1 ∷ 65537 ∷ []);
      pool = (97 ∷ 98 ∷ []);
      frame = 2;
      outside = counting;
      locals = [];
      steps = (reads 97 ∷ step index_read (other 1 ∷ text (98 ∷ []) ∷ []) ∷ []);
      gives = (other 2 ∷ []);
      carried = 3;
    } ∷
    -- a[b]
    record {
      chunk = 0 ∷ 1 ∷ 9 ∷ 0 ∷ (name 97 ++ name 98);
      words = (abx 5 0 0 ∷ abx 5 1 1 ∷ abc 6 0 0 1 ∷ abc 30 0 2 0 ∷ []);
      kinds = (4 ∷ 4 ∷ []);
      values = (1 ∷ 65537 ∷ []);
      pool = (97 ∷ 98 ∷ []);
      frame = 2;
      outside = counting;
      locals = [];
      steps = (reads 97 ∷ reads 98 ∷ step index_read (other 1 ∷ other 2 ∷ []) ∷ []);
      gives = (other 3 ∷ []);
      carried = 4;
    } ∷
    -- f(x, y)
    record {
      chunk = 0 ∷ 1 ∷ 12 ∷ 16 ∷ 2 ∷ (name 102 ++ (name 120 ++ name 121));
      words = (abx 5 0 0 ∷ abx 5 1 1 ∷ abx 5 2 2 ∷ abc 28 0 3 2 ∷ abc 30 0 2 0 ∷ []);
      kinds = (4 ∷ 4 ∷ 4 ∷ []);
      values = (1 ∷ 65537 ∷ 131073 ∷ []);
      pool = (102 ∷ 120 ∷ 121 ∷ []);
      frame = 3;
      outside = counting;
      locals = [];
      steps = (reads 102 ∷ reads 120 ∷ reads 121 ∷ step call (other 1 ∷ other 2 ∷ other 3 ∷ []) ∷ []);
      gives = (other 4 ∷ []);
      carried = 5;
    } ∷
    -- f() where nothing comes back: nil
    record {
      chunk = 0 ∷ 1 ∷ 12 ∷ 16 ∷ 0 ∷ name 102;
      words = (abx 5 0 0 ∷ abc 28 0 1 2 ∷ abc 30 0 2 0 ∷ []);
      kinds = (4 ∷ []);
      values = (1 ∷ []);
      pool = (102 ∷ []);
      frame = 2;
      outside = silent;
      locals = [];
      steps = (reads 102 ∷ step call (nil ∷ []) ∷ []);
      gives = (nil ∷ []);
      carried = 3;
    } ∷
    -- o:m(1)
    record {
      chunk = 0 ∷ 1 ∷ 11 ∷ 20 ∷ 1 ∷ 0 ∷ 109 ∷ 1 ∷ (name 111 ++ n1);
      words = (abx 5 0 0 ∷ abc 11 0 0 257 ∷ abx 1 2 2 ∷ abc 28 0 3 2 ∷ abc 30 0 2 0 ∷ []);
      kinds = (4 ∷ 4 ∷ 3 ∷ []);
      values = (1 ∷ 65537 ∷ one_bits ∷ []);
      pool = (111 ∷ 109 ∷ []);
      frame = 3;
      outside = counting;
      locals = [];
      steps = (reads 111 ∷ step index_read (other 1 ∷ text (109 ∷ []) ∷ []) ∷ step call (other 2 ∷ other 1 ∷ number one_bits ∷ []) ∷ []);
      gives = (other 3 ∷ []);
      carried = 5;
    } ∷
    -- f(g(...), ...): the first argument gives one value, the last all
    record {
      chunk = 2 ∷ 1 ∷ 12 ∷ 16 ∷ 2 ∷ (name 102 ++ (12 ∷ 16 ∷ 1 ∷ (name 103 ++ (5 ∷ 0 ∷ 5 ∷ 0 ∷ []))));
      words = (abx 5 0 0 ∷ abx 5 1 1 ∷ abc 37 2 0 0 ∷ abc 28 1 0 2 ∷ abc 37 2 0 0 ∷ abc 28 0 0 2 ∷ abc 30 0 2 0 ∷ []);
      kinds = (4 ∷ 4 ∷ []);
      values = (1 ∷ 65537 ∷ []);
      pool = (102 ∷ 103 ∷ []);
      frame = 3;
      outside = counting;
      locals = [];
      steps = (reads 102 ∷ reads 103 ∷ step call (other 2 ∷ number 4619567317775286272 ∷ nil ∷ []) ∷ step call (other 1 ∷ other 3 ∷ number 4619567317775286272 ∷ nil ∷ []) ∷ []);
      gives = (other 4 ∷ []);
      carried = 7;
    } ∷
    -- f(x, g()): the list begins behind x
    record {
      chunk = 0 ∷ 1 ∷ 12 ∷ 16 ∷ 2 ∷ (name 102 ++ (name 120 ++ (12 ∷ 16 ∷ 0 ∷ name 103)));
      words = (abx 5 0 0 ∷ abx 5 1 1 ∷ abx 5 2 2 ∷ abc 28 2 1 0 ∷ abc 28 0 0 2 ∷ abc 30 0 2 0 ∷ []);
      kinds = (4 ∷ 4 ∷ 4 ∷ []);
      values = (1 ∷ 65537 ∷ 131073 ∷ []);
      pool = (102 ∷ 120 ∷ 103 ∷ []);
      frame = 3;
      outside = counting;
      locals = [];
      steps = (reads 102 ∷ reads 120 ∷ reads 103 ∷ step call (other 3 ∷ []) ∷ step call (other 1 ∷ other 2 ∷ other 4 ∷ other 104 ∷ []) ∷ []);
      gives = (other 5 ∷ []);
      carried = 6;
    } ∷
    -- a .. b .. c, from the right
    record {
      chunk = binary 6 (name 97) (7 ∷ 8 ∷ 6 ∷ (name 98 ++ name 99));
      words = (abx 5 0 0 ∷ abx 5 1 1 ∷ abx 5 2 2 ∷ abc 21 0 0 2 ∷ abc 30 0 2 0 ∷ []);
      kinds = (4 ∷ 4 ∷ 4 ∷ []);
      values = (1 ∷ 65537 ∷ 131073 ∷ []);
      pool = (97 ∷ 98 ∷ 99 ∷ []);
      frame = 3;
      outside = counting;
      locals = [];
      steps = (reads 97 ∷ reads 98 ∷ reads 99 ∷ step concatenation (other 2 ∷ other 3 ∷ []) ∷ step concatenation (other 1 ∷ other 4 ∷ []) ∷ []);
      gives = (other 5 ∷ []);
      carried = 5;
    } ∷
    -- a < b
    record {
      chunk = binary 7 (name 97) (name 98);
      words = (abx 5 0 0 ∷ abx 5 1 1 ∷ abc 24 1 0 1 ∷ jmp 1 ∷ abc 2 0 0 1 ∷ abc 2 0 1 0 ∷ abc 30 0 2 0 ∷ []);
      kinds = (4 ∷ 4 ∷ []);
      values = (1 ∷ 65537 ∷ []);
      pool = (97 ∷ 98 ∷ []);
      frame = 2;
      outside = counting;
      locals = [];
      steps = (reads 97 ∷ reads 98 ∷ step less (other 1 ∷ other 2 ∷ []) ∷ []);
      gives = (truth true ∷ []);
      carried = 6;
    } ∷
    -- a <= b
    record {
      chunk = binary 8 (name 97) (name 98);
      words = (abx 5 0 0 ∷ abx 5 1 1 ∷ abc 25 1 0 1 ∷ jmp 1 ∷ abc 2 0 0 1 ∷ abc 2 0 1 0 ∷ abc 30 0 2 0 ∷ []);
      kinds = (4 ∷ 4 ∷ []);
      values = (1 ∷ 65537 ∷ []);
      pool = (97 ∷ 98 ∷ []);
      frame = 2;
      outside = counting;
      locals = [];
      steps = (reads 97 ∷ reads 98 ∷ step less_or_equal (other 1 ∷ other 2 ∷ []) ∷ []);
      gives = (truth true ∷ []);
      carried = 6;
    } ∷
    -- a > b is b < a
    record {
      chunk = binary 9 (name 97) (name 98);
      words = (abx 5 0 0 ∷ abx 5 1 1 ∷ abc 24 1 1 0 ∷ jmp 1 ∷ abc 2 0 0 1 ∷ abc 2 0 1 0 ∷ abc 30 0 2 0 ∷ []);
      kinds = (4 ∷ 4 ∷ []);
      values = (1 ∷ 65537 ∷ []);
      pool = (97 ∷ 98 ∷ []);
      frame = 2;
      outside = counting;
      locals = [];
      steps = (reads 97 ∷ reads 98 ∷ step less (other 2 ∷ other 1 ∷ []) ∷ []);
      gives = (truth true ∷ []);
      carried = 6;
    } ∷
    -- a > b, denied
    record {
      chunk = binary 9 (name 97) (name 98);
      words = (abx 5 0 0 ∷ abx 5 1 1 ∷ abc 24 1 1 0 ∷ jmp 1 ∷ abc 2 0 0 1 ∷ abc 2 0 1 0 ∷ abc 30 0 2 0 ∷ []);
      kinds = (4 ∷ 4 ∷ []);
      values = (1 ∷ 65537 ∷ []);
      pool = (97 ∷ 98 ∷ []);
      frame = 2;
      outside = denying;
      locals = [];
      steps = (reads 97 ∷ reads 98 ∷ step less (other 2 ∷ other 1 ∷ []) ∷ []);
      gives = (truth false ∷ []);
      carried = 5;
    } ∷
    -- a >= b is b <= a
    record {
      chunk = binary 10 (name 97) (name 98);
      words = (abx 5 0 0 ∷ abx 5 1 1 ∷ abc 25 1 1 0 ∷ jmp 1 ∷ abc 2 0 0 1 ∷ abc 2 0 1 0 ∷ abc 30 0 2 0 ∷ []);
      kinds = (4 ∷ 4 ∷ []);
      values = (1 ∷ 65537 ∷ []);
      pool = (97 ∷ 98 ∷ []);
      frame = 2;
      outside = counting;
      locals = [];
      steps = (reads 97 ∷ reads 98 ∷ step less_or_equal (other 2 ∷ other 1 ∷ []) ∷ []);
      gives = (truth true ∷ []);
      carried = 6;
    } ∷
    -- a == b
    record {
      chunk = binary 11 (name 97) (name 98);
      words = (abx 5 0 0 ∷ abx 5 1 1 ∷ abc 23 1 0 1 ∷ jmp 1 ∷ abc 2 0 0 1 ∷ abc 2 0 1 0 ∷ abc 30 0 2 0 ∷ []);
      kinds = (4 ∷ 4 ∷ []);
      values = (1 ∷ 65537 ∷ []);
      pool = (97 ∷ 98 ∷ []);
      frame = 2;
      outside = counting;
      locals = [];
      steps = (reads 97 ∷ reads 98 ∷ step equal (other 1 ∷ other 2 ∷ []) ∷ []);
      gives = (truth true ∷ []);
      carried = 6;
    } ∷
    -- a ~= b is not (a == b)
    record {
      chunk = binary 12 (name 97) (name 98);
      words = (abx 5 0 0 ∷ abx 5 1 1 ∷ abc 23 0 0 1 ∷ jmp 1 ∷ abc 2 0 0 1 ∷ abc 2 0 1 0 ∷ abc 30 0 2 0 ∷ []);
      kinds = (4 ∷ 4 ∷ []);
      values = (1 ∷ 65537 ∷ []);
      pool = (97 ∷ 98 ∷ []);
      frame = 2;
      outside = counting;
      locals = [];
      steps = (reads 97 ∷ reads 98 ∷ step equal (other 1 ∷ other 2 ∷ []) ∷ []);
      gives = (truth false ∷ []);
      carried = 5;
    } ∷
    -- a ~= b, denied
    record {
      chunk = binary 12 (name 97) (name 98);
      words = (abx 5 0 0 ∷ abx 5 1 1 ∷ abc 23 0 0 1 ∷ jmp 1 ∷ abc 2 0 0 1 ∷ abc 2 0 1 0 ∷ abc 30 0 2 0 ∷ []);
      kinds = (4 ∷ 4 ∷ []);
      values = (1 ∷ 65537 ∷ []);
      pool = (97 ∷ 98 ∷ []);
      frame = 2;
      outside = denying;
      locals = [];
      steps = (reads 97 ∷ reads 98 ∷ step equal (other 1 ∷ other 2 ∷ []) ∷ []);
      gives = (truth true ∷ []);
      carried = 6;
    } ∷
    -- #x
    record {
      chunk = unary 2 (name 120);
      words = (abx 5 0 0 ∷ abc 20 0 0 0 ∷ abc 30 0 2 0 ∷ []);
      kinds = (4 ∷ []);
      values = (1 ∷ []);
      pool = (120 ∷ []);
      frame = 2;
      outside = counting;
      locals = [];
      steps = (reads 120 ∷ step length_of (other 1 ∷ []) ∷ []);
      gives = (other 2 ∷ []);
      carried = 3;
    } ∷
    -- -x
    record {
      chunk = unary 0 (name 120);
      words = (abx 5 0 0 ∷ abc 18 0 0 0 ∷ abc 30 0 2 0 ∷ []);
      kinds = (4 ∷ []);
      values = (1 ∷ []);
      pool = (120 ∷ []);
      frame = 2;
      outside = counting;
      locals = [];
      steps = (reads 120 ∷ step (arithmetic arith.Unm) (other 1 ∷ []) ∷ []);
      gives = (other 2 ∷ []);
      carried = 3;
    } ∷
    -- not x
    record {
      chunk = unary 1 (name 120);
      words = (abx 5 0 0 ∷ abc 19 0 0 0 ∷ abc 30 0 2 0 ∷ []);
      kinds = (4 ∷ []);
      values = (1 ∷ []);
      pool = (120 ∷ []);
      frame = 2;
      outside = counting;
      locals = [];
      steps = (reads 120 ∷ []);
      gives = (truth false ∷ []);
      carried = 3;
    } ∷
    -- x + 1
    record {
      chunk = binary 0 (name 120) n1;
      words = (abx 5 0 0 ∷ abc 12 0 0 257 ∷ abc 30 0 2 0 ∷ []);
      kinds = (4 ∷ 3 ∷ []);
      values = (1 ∷ one_bits ∷ []);
      pool = (120 ∷ []);
      frame = 2;
      outside = counting;
      locals = [];
      steps = (reads 120 ∷ step (arithmetic arith.Add) (other 1 ∷ number one_bits ∷ []) ∷ []);
      gives = (other 2 ∷ []);
      carried = 3;
    } ∷
    -- x - 1
    record {
      chunk = binary 1 (name 120) n1;
      words = (abx 5 0 0 ∷ abc 13 0 0 257 ∷ abc 30 0 2 0 ∷ []);
      kinds = (4 ∷ 3 ∷ []);
      values = (1 ∷ one_bits ∷ []);
      pool = (120 ∷ []);
      frame = 2;
      outside = counting;
      locals = [];
      steps = (reads 120 ∷ step (arithmetic arith.Sub) (other 1 ∷ number one_bits ∷ []) ∷ []);
      gives = (other 2 ∷ []);
      carried = 3;
    } ∷
    -- x * 1
    record {
      chunk = binary 2 (name 120) n1;
      words = (abx 5 0 0 ∷ abc 14 0 0 257 ∷ abc 30 0 2 0 ∷ []);
      kinds = (4 ∷ 3 ∷ []);
      values = (1 ∷ one_bits ∷ []);
      pool = (120 ∷ []);
      frame = 2;
      outside = counting;
      locals = [];
      steps = (reads 120 ∷ step (arithmetic arith.Mul) (other 1 ∷ number one_bits ∷ []) ∷ []);
      gives = (other 2 ∷ []);
      carried = 3;
    } ∷
    -- x / 1
    record {
      chunk = binary 3 (name 120) n1;
      words = (abx 5 0 0 ∷ abc 15 0 0 257 ∷ abc 30 0 2 0 ∷ []);
      kinds = (4 ∷ 3 ∷ []);
      values = (1 ∷ one_bits ∷ []);
      pool = (120 ∷ []);
      frame = 2;
      outside = counting;
      locals = [];
      steps = (reads 120 ∷ step (arithmetic arith.Div) (other 1 ∷ number one_bits ∷ []) ∷ []);
      gives = (other 2 ∷ []);
      carried = 3;
    } ∷
    -- x % 1
    record {
      chunk = binary 4 (name 120) n1;
      words = (abx 5 0 0 ∷ abc 16 0 0 257 ∷ abc 30 0 2 0 ∷ []);
      kinds = (4 ∷ 3 ∷ []);
      values = (1 ∷ one_bits ∷ []);
      pool = (120 ∷ []);
      frame = 2;
      outside = counting;
      locals = [];
      steps = (reads 120 ∷ step (arithmetic arith.Mod) (other 1 ∷ number one_bits ∷ []) ∷ []);
      gives = (other 2 ∷ []);
      carried = 3;
    } ∷
    -- x ^ 1
    record {
      chunk = binary 5 (name 120) n1;
      words = (abx 5 0 0 ∷ abc 17 0 0 257 ∷ abc 30 0 2 0 ∷ []);
      kinds = (4 ∷ 3 ∷ []);
      values = (1 ∷ one_bits ∷ []);
      pool = (120 ∷ []);
      frame = 2;
      outside = counting;
      locals = [];
      steps = (reads 120 ∷ step (arithmetic arith.Pow) (other 1 ∷ number one_bits ∷ []) ∷ []);
      gives = (other 2 ∷ []);
      carried = 3;
    } ∷
    -- x + 1 where x is 2: folding takes the values, and no step is taken
    record {
      chunk = binary 0 (name 120) n1;
      words = (abx 5 0 0 ∷ abc 12 0 0 257 ∷ abc 30 0 2 0 ∷ []);
      kinds = (4 ∷ 3 ∷ []);
      values = (1 ∷ one_bits ∷ []);
      pool = (120 ∷ []);
      frame = 2;
      outside = two;
      locals = [];
      steps = (reads 120 ∷ []);
      gives = (number three_bits ∷ []);
      carried = 3;
    } ∷
    -- x + 1 where x is a local that holds 2
    record {
      chunk = 1 ∷ 1 ∷ 1 ∷ 0 ∷ 120 ∷ 1 ∷ 7 ∷ 8 ∷ 0 ∷ (name 120 ++ n1);
      words = (abc 12 1 0 256 ∷ abc 30 1 2 0 ∷ []);
      kinds = (3 ∷ []);
      values = (one_bits ∷ []);
      pool = ([]);
      frame = 2;
      outside = counting;
      locals = (number two_bits ∷ []);
      steps = ([]);
      gives = (number three_bits ∷ []);
      carried = 2;
    } ∷
    -- 2 ^ 3 isn't folded
    record {
      chunk = binary 5 n2 n3;
      words = (abc 17 0 257 256 ∷ abc 30 0 2 0 ∷ []);
      kinds = (3 ∷ 3 ∷ []);
      values = (three_bits ∷ two_bits ∷ []);
      pool = ([]);
      frame = 2;
      outside = counting;
      locals = [];
      steps = (step (arithmetic arith.Pow) (number two_bits ∷ number three_bits ∷ []) ∷ []);
      gives = (other 1 ∷ []);
      carried = 2;
    } ∷
    -- 1 / 0 isn't folded
    record {
      chunk = binary 3 n1 n0;
      words = (abc 15 0 257 256 ∷ abc 30 0 2 0 ∷ []);
      kinds = (3 ∷ 3 ∷ []);
      values = (0 ∷ one_bits ∷ []);
      pool = ([]);
      frame = 2;
      outside = counting;
      locals = [];
      steps = (step (arithmetic arith.Div) (number one_bits ∷ number 0 ∷ []) ∷ []);
      gives = (other 1 ∷ []);
      carried = 2;
    } ∷
    -- a and b: a is true, b is read
    record {
      chunk = binary 13 (name 97) (name 98);
      words = (abx 5 0 0 ∷ abc 26 0 0 0 ∷ jmp 1 ∷ abx 5 0 1 ∷ abc 30 0 2 0 ∷ []);
      kinds = (4 ∷ 4 ∷ []);
      values = (1 ∷ 65537 ∷ []);
      pool = (97 ∷ 98 ∷ []);
      frame = 2;
      outside = counting;
      locals = [];
      steps = (reads 97 ∷ reads 98 ∷ []);
      gives = (other 2 ∷ []);
      carried = 4;
    } ∷
    -- a and b: a is nil, b is left unread
    record {
      chunk = binary 13 (name 97) (name 98);
      words = (abx 5 0 0 ∷ abc 26 0 0 0 ∷ jmp 1 ∷ abx 5 0 1 ∷ abc 30 0 2 0 ∷ []);
      kinds = (4 ∷ 4 ∷ []);
      values = (1 ∷ 65537 ∷ []);
      pool = (97 ∷ 98 ∷ []);
      frame = 2;
      outside = silent;
      locals = [];
      steps = (reads 97 ∷ []);
      gives = (nil ∷ []);
      carried = 4;
    } ∷
    -- a or b: a is true, b is left unread
    record {
      chunk = binary 14 (name 97) (name 98);
      words = (abx 5 0 0 ∷ abc 26 0 0 1 ∷ jmp 1 ∷ abx 5 0 1 ∷ abc 30 0 2 0 ∷ []);
      kinds = (4 ∷ 4 ∷ []);
      values = (1 ∷ 65537 ∷ []);
      pool = (97 ∷ 98 ∷ []);
      frame = 2;
      outside = counting;
      locals = [];
      steps = (reads 97 ∷ []);
      gives = (other 1 ∷ []);
      carried = 4;
    } ∷
    -- a or b: a is nil, b is read
    record {
      chunk = binary 14 (name 97) (name 98);
      words = (abx 5 0 0 ∷ abc 26 0 0 1 ∷ jmp 1 ∷ abx 5 0 1 ∷ abc 30 0 2 0 ∷ []);
      kinds = (4 ∷ 4 ∷ []);
      values = (1 ∷ 65537 ∷ []);
      pool = (97 ∷ 98 ∷ []);
      frame = 2;
      outside = silent;
      locals = [];
      steps = (reads 97 ∷ reads 98 ∷ []);
      gives = (nil ∷ []);
      carried = 4;
    } ∷
    -- two formulas, in order
    record {
      chunk = 0 ∷ 2 ∷ (name 98 ++ name 97);
      words = (abx 5 0 0 ∷ abx 5 1 1 ∷ abc 30 0 3 0 ∷ []);
      kinds = (4 ∷ 4 ∷ []);
      values = (1 ∷ 65537 ∷ []);
      pool = (98 ∷ 97 ∷ []);
      frame = 2;
      outside = counting;
      locals = [];
      steps = (reads 98 ∷ reads 97 ∷ []);
      gives = (other 1 ∷ other 2 ∷ []);
      carried = 3;
    } ∷
    []

-- ---- what a reading, a run and a lowering are held to

data Outcome : Type 0 where
  outcome : List Value → List Outward → Outcome
  no_form : Outcome

abbrev read_form : Told → Formed → Outcome
read_form t (formed c) = outcome (reading t.outside t.chunk c t.locals given).gives (reverse (reading t.outside t.chunk c t.locals given).steps)
read_form t (unformed k) = no_form

abbrev program_of : Told → Program
program_of t = record { words = t.words; constants = length t.kinds; kinds = t.kinds; values = t.values; pool = t.pool; frame = t.frame }

-- the words by hand are those of the lowering, in buffers of so many numbers: `program` takes what is counted, and nothing behind it
abbrev lent : Sizes
lent = record { code = 16; lines = 16; kinds = 8; values = 8; pool = 8; scratch = 16 }

data LowersTo : Type 0 where
  lowers_to : Program → LowersTo
  refuses : LowersTo

abbrev lowers : Lowered → Buffers → LowersTo
lowers (answer.Ok k) m = lowers_to (program k m)
lowers (answer.Err x) m = refuses

-- ---- stuck

-- two constants are listed, the number 1 and the text a, and three registers are there; behind the listed ones stands a third entry, and one of an unknown kind is listed in `unknown`
abbrev machine : List ℕ → Program
machine ws = record { words = ws; constants = 2; kinds = 3 ∷ 4 ∷ 3 ∷ []; values = one_bits ∷ 1 ∷ one_bits ∷ []; pool = 97 ∷ []; frame = 3 }

abbrev unknown : List ℕ → Program
unknown ws = record { words = ws; constants = 1; kinds = 9 ∷ []; values = 0 ∷ []; pool = []; frame = 3 }

-- R0, R1, R2 are 10, 11, 12
abbrev start : List Value
start = other 10 ∷ other 11 ∷ other 12 ∷ []

abbrev stuck_runs : List Program
stuck_runs =
    -- a register at the frame is read: by `Move`, as RK, as an argument, by `Return`
    machine (abc 0 0 3 0 ∷ abc 30 0 2 0 ∷ []) ∷
    machine (abc 12 0 3 256 ∷ abc 30 0 2 0 ∷ []) ∷
    machine (abc 28 1 3 2 ∷ abc 30 0 2 0 ∷ []) ∷
    machine (abc 30 2 3 0 ∷ []) ∷
    -- a register at the frame is written: by `Move`, by `LoadNil`, as a result
    machine (abc 0 3 0 0 ∷ abc 30 0 2 0 ∷ []) ∷
    machine (abc 3 2 3 0 ∷ abc 30 0 2 0 ∷ []) ∷
    machine (abc 28 2 1 3 ∷ abc 30 0 2 0 ∷ []) ∷
    -- a constant that isn't listed: by `LoadK`, as RK; one of an unknown kind
    machine (abx 1 0 2 ∷ abc 30 0 2 0 ∷ []) ∷
    machine (abc 12 0 0 258 ∷ abc 30 0 2 0 ∷ []) ∷
    unknown (abx 1 0 0 ∷ abc 30 0 2 0 ∷ []) ∷
    -- a word past the end: no word at all, no `Return`, a jump behind it
    machine [] ∷
    machine (abc 0 0 1 0 ∷ []) ∷
    machine (jmp 1 ∷ abc 30 0 2 0 ∷ []) ∷
    -- an open list that isn't there
    machine (abc 28 0 0 2 ∷ abc 30 0 2 0 ∷ []) ∷
    -- one that is still open: at `Return`, and where another is made by `VarArg` and by `Call`
    machine (abc 37 1 0 0 ∷ abc 30 0 1 0 ∷ []) ∷
    machine (abc 37 1 0 0 ∷ abc 37 1 0 0 ∷ abc 28 0 0 2 ∷ abc 30 0 2 0 ∷ []) ∷
    machine (abc 37 2 0 0 ∷ abc 28 1 1 0 ∷ abc 28 0 0 2 ∷ abc 30 0 2 0 ∷ []) ∷
    -- one that begins at the register that takes it
    machine (abc 37 0 0 0 ∷ abc 28 0 0 2 ∷ abc 30 0 2 0 ∷ []) ∷
    -- a global's name that is a number
    machine (abx 5 0 0 ∷ abc 30 0 2 0 ∷ []) ∷
    -- a `LoadNil` of no register, a `Concat` of one, a `Return` with B = 0
    machine (abc 3 1 0 0 ∷ abc 30 0 2 0 ∷ []) ∷
    machine (abc 21 0 1 1 ∷ abc 30 0 2 0 ∷ []) ∷
    machine (abc 30 0 0 0 ∷ []) ∷
    -- a word that isn't later: a jump back to a `Return`, and one to itself
    machine (jmp 1 ∷ abc 30 0 2 0 ∷ jmp_back 2 ∷ abc 30 0 2 0 ∷ []) ∷
    machine (jmp_back 1 ∷ abc 30 0 2 0 ∷ []) ∷
    -- opcodes that the lowering never emits
    map (λ o. machine (abc o 0 0 0 ∷ abc 30 0 1 0 ∷ [])) (4 ∷ 7 ∷ 8 ∷ 9 ∷ 10 ∷ 29 ∷ 31 ∷ 32 ∷ 33 ∷ 34 ∷ 35 ∷ 36 ∷ [])

-- the same words within frame and constants run to their end: what is stuck above is so for the reason that is named
abbrev ran_runs : List Program
ran_runs =
    machine (abc 0 0 2 0 ∷ abc 30 0 2 0 ∷ []) ∷
    machine (abc 12 0 2 256 ∷ abc 30 0 2 0 ∷ []) ∷
    machine (abc 28 1 2 2 ∷ abc 30 1 2 0 ∷ []) ∷
    machine (abc 3 1 2 0 ∷ abc 30 0 4 0 ∷ []) ∷
    machine (abx 1 0 0 ∷ abc 30 0 2 0 ∷ []) ∷
    machine (abx 5 0 1 ∷ abc 30 0 2 0 ∷ []) ∷
    machine (abc 21 0 1 2 ∷ abc 30 0 2 0 ∷ []) ∷
    machine (jmp 1 ∷ abc 30 0 2 0 ∷ abc 30 1 2 0 ∷ []) ∷
    machine (abc 37 1 3 0 ∷ abc 30 0 4 0 ∷ []) ∷
    -- an opcode above 37 reads as `Move`; `Return` with B = 1 uses no register
    machine (abc 38 0 1 0 ∷ abc 30 0 2 0 ∷ []) ∷
    machine (abc 30 255 1 0 ∷ []) ∷
    []

-- ---- the scratch: the places of the nodes' kind bytes, counted from 0, and then zeros

abbrev placed : List (List ℕ)
placed =
    -- a.b: the field, a
    (0 ∷ 1 ∷ 10 ∷ 4 ∷ 1 ∷ 0 ∷ 98 ∷ name 97) ∷
    -- f(x, y): the call, f, x, y
    (0 ∷ 1 ∷ 12 ∷ 16 ∷ 2 ∷ (name 102 ++ (name 120 ++ name 121))) ∷
    -- x + 1 behind a header that names the local x: the sum, x, 1
    (1 ∷ 1 ∷ 1 ∷ 0 ∷ 120 ∷ 1 ∷ 7 ∷ 8 ∷ 0 ∷ (name 120 ++ n1)) ∷
    []

-- ---- all of it

record AsTold : Type 0 where
  -- the reading gives them, with these steps
  read_as_told : map (λ t. read_form t (form_of t.chunk)) told ≡ map (λ t. outcome t.gives t.steps) told
  -- so does the run of the words by hand, which carries out so many
  run_as_told : map (λ t. run t.outside (program_of t) t.locals given) told ≡ map (λ t. returned t.gives (reverse t.steps) t.carried) told
  -- the lowering writes these words
  lowered_as_told : map (λ t. lowers (lowered lent t.chunk).answer (lowered lent t.chunk).buffers) told ≡ map (λ t. lowers_to (program_of t)) told
  -- and leaves these places in a scratch of 16
  placed_as_told :
      map (λ c. (lowered lent c).scratch) placed ≡
      (2 ∷ 7 ∷ 0 ∷ 0 ∷ 0 ∷ 0 ∷ 0 ∷ 0 ∷ 0 ∷ 0 ∷ 0 ∷ 0 ∷ 0 ∷ 0 ∷ 0 ∷ 0 ∷ []) ∷
      (2 ∷ 5 ∷ 10 ∷ 15 ∷ 0 ∷ 0 ∷ 0 ∷ 0 ∷ 0 ∷ 0 ∷ 0 ∷ 0 ∷ 0 ∷ 0 ∷ 0 ∷ 0 ∷ []) ∷
      (6 ∷ 9 ∷ 14 ∷ 0 ∷ 0 ∷ 0 ∷ 0 ∷ 0 ∷ 0 ∷ 0 ∷ 0 ∷ 0 ∷ 0 ∷ 0 ∷ 0 ∷ 0 ∷ []) ∷
      []
  -- none of these runs to an end
  all_stuck : map (λ p. run counting p start given) stuck_runs ≡ map (λ _. stuck_run) stuck_runs
  -- and these do, as said
  ran_as_told : map (λ p. run counting p start given) ran_runs ≡
      returned (other 12 ∷ []) [] 2 ∷
      returned (other 1 ∷ []) (step (arithmetic arith.Add) (other 12 ∷ number one_bits ∷ []) ∷ []) 2 ∷
      returned (other 1 ∷ []) (step call (other 11 ∷ other 12 ∷ []) ∷ []) 2 ∷
      returned (other 10 ∷ nil ∷ nil ∷ []) [] 2 ∷
      returned (number one_bits ∷ []) [] 2 ∷
      returned (other 1 ∷ []) (reads 97 ∷ []) 2 ∷
      returned (other 1 ∷ []) (step concatenation (other 11 ∷ other 12 ∷ []) ∷ []) 2 ∷
      returned (other 11 ∷ []) [] 2 ∷
      returned (other 10 ∷ number 4619567317775286272 ∷ nil ∷ []) [] 2 ∷
      returned (other 11 ∷ []) [] 2 ∷
      returned [] [] 1 ∷
      []

as_told : AsTold
unfolding pad op_code_of get_at set_at sbx_of excess abc_of a_bx_of floor fold_of entry_of same_bytes same holds find append added has_bytes byte_at line_at bits_at text_at kind_of bin_op_of un_op_of fields_at node_at spans spans_of exprs_at rest expr_at ended form_of names_at formulas_at header_at pop invertjump jumponcond jump_if_false jump_if_true goiftrue goiffalse emit_not negate code_not discharge_kind free_expr load_kind discharge2reg discharge2anyreg land load_both settle join_jump exp2reg exp2nextreg exp2anyreg exp2val small near rk_kind exp2rk discharge_jpc push emit_at emit concat emit_jump patch_to_here get_label code_label load_nil emit_nil check_stack reserve_regs alloc_reg free_reg add_constant search_local set_multret above emit_call closed_call last_argument compile_funcargs set_indexed code_self resolve_var leaf_expr after_one between after_two callee compile_head compile_expr jump_list get_jump_target patch_jump last_jump linked get_jump_control need_value retest patch_test_reg remove_values patch_list_aux formulas lower_chunk lower_formed lowered free_in_turn free_both emit_arith code_arith code_unary code_concat far_numeral compare_operands emit_comp code_comp operand before_right code_and code_or join_concat after_right code_unop local_named read_leaf read_one read_binary read_two read_many read_formulas read_expr read_args regs puts joined execute run_from and_then compute negation span climb size odd units round neg sum add sub mul div lt eq le ne of_int of_fields of_bits nan_bits to_bits is_nan
as_told = record { read_as_told = refl; run_as_told = refl; lowered_as_told = refl; placed_as_told = refl; all_stuck = refl; ran_as_told = refl }
