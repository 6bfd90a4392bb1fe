-- Emitting words, registers and constants: the lower part of codegen.rs. Assumes nothing.
use Rattle.std.specs.Prelude.{ℕ, ◌+◌, ◌-◌, max, List, Bool, true, false, ◌&&◌, ◌||◌, length, set, negsuc, eqb, leb, ltb, Ok, Err}
use Rattle.refusals.specs.declared.Refusal.TheVariants.{Registers, Words}
use Rattle.instructions.specs.Limits.{no_reg, bit_rk, max_stack, max_words}
use Rattle.instructions.specs.Word.{a_of, b_of, set_b_of, abc_of, a_bx_of, a_sbx_of}
use Rattle.opcodes.specs.declared.OpCode.{OpCode}
use Rattle.opcodes.specs.declared.OpCode.TheVariants.{LoadBool, LoadNil, Jmp}
use Rattle.constants.specs.Table.{added as added_to, Out, Added}
use Rattle.constants.specs.declared.Table.{Table}
use Rattle.constants.specs.declared.Val.{Val}
use Rattle.model.specs.declared.State.{State}
use Rattle.model.specs.Steps.{Buffers, Result, done, refused, Step, ◌>>=◌, ◌>>◌, return, refuse, get, change, code_now, change_words, skip}
use Rattle.model.specs.Jumps.{word, is_op, concat_jumps, linked, remove_values, patch_list_aux}

-- ---- the state with other fields

abbrev pub with_place : ℕ → ℕ → State → State
with_place a l s = record { at = a; line = l; pc = s.pc; table = s.table; active = s.active; free = s.free; frame = s.frame; jpc = s.jpc; label = s.label }

abbrev pub with_pc : ℕ → State → State
with_pc n s = record { at = s.at; line = s.line; pc = n; table = s.table; active = s.active; free = s.free; frame = s.frame; jpc = s.jpc; label = s.label }

abbrev pub with_table : Table → State → State
with_table t s = record { at = s.at; line = s.line; pc = s.pc; table = t; active = s.active; free = s.free; frame = s.frame; jpc = s.jpc; label = s.label }

abbrev pub with_free : ℕ → State → State
with_free r s = record { at = s.at; line = s.line; pc = s.pc; table = s.table; active = s.active; free = r; frame = s.frame; jpc = s.jpc; label = s.label }

abbrev pub with_frame : ℕ → State → State
with_frame n s = record { at = s.at; line = s.line; pc = s.pc; table = s.table; active = s.active; free = s.free; frame = n; jpc = s.jpc; label = s.label }

abbrev pub with_jpc : ℕ → State → State
with_jpc l s = record { at = s.at; line = s.line; pc = s.pc; table = s.table; active = s.active; free = s.free; frame = s.frame; jpc = l; label = s.label }

abbrev pub with_label : ℕ → State → State
with_label n s = record { at = s.at; line = s.line; pc = s.pc; table = s.table; active = s.active; free = s.free; frame = s.frame; jpc = s.jpc; label = n }

-- ---- words

-- `discharge_jpc`: the pending jumps lead to the word to come
unfoldable pub discharge_jpc : Step (Unit {0})
discharge_jpc = do
  s ← get
  change_words (λ code. patch_list_aux (length code) code s.jpc s.pc no_reg s.pc)
  change (with_jpc 0)

-- no word is left: refusal 13, a limit that the Rust lacks (difference 5)
abbrev pub no_room : State → Buffers → Bool
no_room s m = leb (length m.code) s.pc || (leb (length m.lines) s.pc || leb max_words s.pc)

-- a word and its line behind the others
abbrev pub store : ℕ → ℕ → State → Buffers → Buffers
store w line s m = record { code = set m.code s.pc w; lines = set m.lines s.pc line; kinds = m.kinds; values = m.values; pool = m.pool }

-- the end of `emit`: the word is stored where one is left
unfoldable pub push : ℕ → ℕ → Step ℕ
push w line s m = elim (no_room s m) [ true ↦ refused Words m | false ↦ done s.pc (with_pc (s.pc + 1) s) (store w line s m) ]

-- `emit`, at a line: where the word is
unfoldable pub emit_at : ℕ → ℕ → Step ℕ
emit_at w line = do
  discharge_jpc
  push w line

-- `emit` on the current line
unfoldable pub emit : ℕ → Step ℕ
emit w = do
  s ← get
  emit_at w s.line

-- `emit_abc`, `emit_abx`
abbrev pub emit_abc : OpCode → ℕ → ℕ → ℕ → Step ℕ
emit_abc op a b c = emit (abc_of op a b c)

abbrev pub emit_abx : OpCode → ℕ → ℕ → Step ℕ
emit_abx op a bx = emit (a_bx_of op a bx)

-- `concat_jumps`: the list of both
unfoldable pub concat : ℕ → ℕ → Step ℕ
concat l1 l2 = do
  change_words (λ code. linked code l1 l2)
  return (concat_jumps l1 l2)

-- `emit_jump`: a list of the new jump and the pending ones, which it takes over; their `TestSet` become `Test` first (difference 1)
unfoldable pub emit_jump : Step ℕ
emit_jump = do
  s ← get
  change_words (λ code. remove_values (length code) code s.jpc)
  change (with_jpc 0)
  pc ← emit (a_sbx_of Jmp 0 (negsuc 0))
  concat (pc + 1) s.jpc

-- `patch_to_here`
unfoldable pub patch_to_here : ℕ → Step (Unit {0})
patch_to_here list = do
  s ← get
  l ← concat s.jpc list
  change (with_jpc l)

-- `get_label`: the word to come, recorded as a label; a place above 131,071, which no code reaches, isn't recorded
unfoldable pub get_label : Step ℕ
get_label = do
  s ← get
  change (λ s₁. elim (leb s₁.pc max_words) [ true ↦ with_label (s₁.pc + 1) s₁ | false ↦ s₁ ])
  return s.pc

-- `code_label`
unfoldable pub code_label : ℕ → ℕ → ℕ → Step ℕ
code_label reg b jump = do
  get_label
  emit_abc LoadBool reg b jump

-- a `LoadNil` that reaches or adjoins the register
abbrev pub adjoins : ℕ → ℕ → Bool
adjoins w from = is_op LoadNil w && (leb (a_of w) from && leb from (b_of w + 1))

-- a `LoadNil` of its own, for one register
unfoldable pub load_nil : ℕ → Step (Unit {0})
load_nil r = do
  emit_abc LoadNil r r 0
  skip

-- `emit_nil` for one register: nothing at word 0, where all registers above the locals are nil; an adjoining `LoadNil` is lengthened; both unless a label lies at the word to come
unfoldable pub emit_nil : ℕ → Step (Unit {0})
emit_nil from = do
  s ← get
  code ← code_now
  elim (leb s.label s.pc) [
    | true ↦ elim (eqb s.pc 0) [
      | true ↦ skip
      | false ↦ elim (adjoins (word code (s.pc - 1)) from) [
        | true ↦ elim (ltb (b_of (word code (s.pc - 1))) from) [
          | true ↦ change_words (λ c. set c (s.pc - 1) (set_b_of (word c (s.pc - 1)) from))
          | false ↦ skip
        ]
        | false ↦ load_nil from
      ]
    ]
    | false ↦ load_nil from
  ]

-- ---- registers

-- `check_stack`: refusal 10 above 250 registers
unfoldable pub check_stack : ℕ → Step (Unit {0})
check_stack n = do
  s ← get
  elim (leb (s.free + n) max_stack) [
    | true ↦ change (with_frame (max s.frame (s.free + n)))
    | false ↦ refuse Registers
  ]

-- `reserve_regs`
unfoldable pub reserve_regs : ℕ → Step (Unit {0})
reserve_regs n = do
  check_stack n
  s ← get
  change (with_free (s.free + n))

-- `alloc_reg`
unfoldable pub alloc_reg : Step ℕ
alloc_reg = do
  s ← get
  reserve_regs 1
  return s.free

-- `free_reg`: the topmost temporary only
unfoldable pub free_reg : ℕ → Step (Unit {0})
free_reg r = do
  s ← get
  elim (leb s.active r && (ltb r bit_rk && eqb (r + 1) s.free)) [
    | true ↦ change (with_free r)
    | false ↦ skip
  ]

-- ---- constants

-- the table's answer: the state with the table as it then is, or the refusal
abbrev pub keep : Added → Step ℕ
keep (Ok (i, t)) s m = done i (with_table t s) m
keep (Err k) s m = refused k m

-- the same in the buffers as they then are
abbrev pub stored_in : State → Buffers → Out → Result ℕ
stored_in s m o = keep o.answer s (record { code = m.code; lines = m.lines; kinds = o.kinds; values = o.values; pool = o.pool })

-- `add_constant`, `string_constant`, `nil_constant`: the constant's index; refusals 11 and 12, for lent buffers that the Rust lacks (difference 5). The text of a string lies in the chunk
unfoldable pub add_constant : List ℕ → Val → Step ℕ
add_constant chunk v s m = stored_in s m (added_to chunk s.table v m.kinds m.values m.pool)
