-- Code words as numbers below 2 ^ 32: `Instruction` of instructions.rs. A value too wide for its field counts modulo the field, as the Rust's masks do. Assumes nothing.
use Rattle.std.specs.Prelude.{ℕ, ◌+◌, ◌*◌, ◌%◌, ◌-◌, ℤ, pos, negsuc, ◌-ℤ◌}
use Rattle.instructions.specs.Limits.{op_size, a_size, b_size, c_size, bx_size, op_place, a_place, b_place, c_place, bx_place, max_arg_sbx}
use Rattle.instructions.specs.Field.{get_at, set_at}
use Rattle.opcodes.specs.OpCodes.{code_of, op_code_of}
use Rattle.opcodes.specs.declared.OpCode.{OpCode}

-- the fields of a word: `opcode` as its number, `a`, `b`, `c`, `bx`
abbrev pub op_of : ℕ → ℕ
op_of w = get_at op_place op_size w

abbrev pub a_of : ℕ → ℕ
a_of w = get_at a_place a_size w

abbrev pub b_of : ℕ → ℕ
b_of w = get_at b_place b_size w

abbrev pub c_of : ℕ → ℕ
c_of w = get_at c_place c_size w

abbrev pub bx_of : ℕ → ℕ
bx_of w = get_at bx_place bx_size w

-- `Instruction::opcode`: above 37 reads as `Move`
abbrev pub opcode_of : ℕ → OpCode
opcode_of w = op_code_of (op_of w)

-- `Instruction::sbx`: Bx less 131,071
unfoldable pub sbx_of : ℕ → ℤ
sbx_of w = pos (bx_of w) -ℤ pos max_arg_sbx

-- `Instruction::set_a`, `set_b`, `set_c`
abbrev pub set_a_of : ℕ → ℕ → ℕ
set_a_of w v = set_at a_place a_size w v

abbrev pub set_b_of : ℕ → ℕ → ℕ
set_b_of w v = set_at b_place b_size w v

abbrev pub set_c_of : ℕ → ℕ → ℕ
set_c_of w v = set_at c_place c_size w v

abbrev pub set_bx_of : ℕ → ℕ → ℕ
set_bx_of w v = set_at bx_place bx_size w v

-- v + 131,071 modulo the field: what Bx holds for the signed v
unfoldable pub excess : ℤ → ℕ
excess (pos n) = (n + max_arg_sbx) % bx_size
-- -(n + 1) + 131,071
excess (negsuc n) = (max_arg_sbx - 1 + (bx_size - n % bx_size)) % bx_size

-- `Instruction::set_sbx`
abbrev pub set_sbx_of : ℕ → ℤ → ℕ
set_sbx_of w v = set_bx_of w (excess v)

-- `Instruction::abc`, `a_bx`, `a_sbx`
unfoldable pub abc_of : OpCode → ℕ → ℕ → ℕ → ℕ
abc_of op a b c = code_of op * op_place + a % a_size * a_place + c % c_size * c_place + b % b_size * b_place

unfoldable pub a_bx_of : OpCode → ℕ → ℕ → ℕ
a_bx_of op a bx = code_of op * op_place + a % a_size * a_place + bx % bx_size * bx_place

abbrev pub a_sbx_of : OpCode → ℕ → ℤ → ℕ
a_sbx_of op a v = a_bx_of op a (excess v)
