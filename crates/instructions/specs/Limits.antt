-- The limits of the word layout and of the machine, each beside its name of instructions.rs where it has one: sizes and place values of a word's fields, and what follows from them.
-- The definitions have these numbers from here; the code has its limits and the sizes of A, B and Bx by name too (src/lib.rt), and writes out, in this crate alone, the fields' sizes and place values, and what is added to or taken from sBx. Assumes nothing.
use Rattle.std.specs.Prelude.{ℕ}

-- SIZE_OP, SIZE_A, SIZE_B, SIZE_C as numbers of values: 6, 8, 9 and 9 bits
abbrev pub op_size : ℕ
op_size = 64

abbrev pub a_size : ℕ
a_size = 256

abbrev pub b_size : ℕ
b_size = 512

abbrev pub c_size : ℕ
c_size = 512

-- SIZE_BX: B and C together
abbrev pub bx_size : ℕ
bx_size = 262144

-- POS_OP, POS_A, POS_C, POS_B, POS_BX as place values: bits 0, 6, 14, 23 and 14
abbrev pub op_place : ℕ
op_place = 1

abbrev pub a_place : ℕ
a_place = 64

abbrev pub c_place : ℕ
c_place = 16384

abbrev pub b_place : ℕ
b_place = 8388608

abbrev pub bx_place : ℕ
bx_place = 16384

-- MAXARG_SBX: sBx is Bx less this
abbrev pub max_arg_sbx : ℕ
max_arg_sbx = 131071

-- BITRK: an RK operand below this is a register, else the constant RK - 256
abbrev pub bit_rk : ℕ
bit_rk = 256

-- MAXINDEXRK: the last constant that an RK operand can name
abbrev pub max_index_rk : ℕ
max_index_rk = 255

-- NO_REG: no register
abbrev pub no_reg : ℕ
no_reg = 255

-- MAXSTACK: the most registers of a frame
abbrev pub max_stack : ℕ
max_stack = 250

-- MAXARG_BX + 1: the most entries of a constant table
abbrev pub max_constants : ℕ
max_constants = 262144

-- the most words of a code, so that every jump fits sBx (document 01, refusal 13)
abbrev pub max_words : ℕ
max_words = 131071
