-- Worked examples: the words of document 01's listing, its P6 and P10, a jump to its own word, and the ends of sBx. Each is computed. Assumes nothing.
use Rattle.std.specs.Prelude.{◌≡◌, refl, pos, negsuc}
use Rattle.instructions.specs.Field.{get_at, set_at}
use Rattle.opcodes.specs.OpCodes.{op_code_of}
use Rattle.instructions.specs.Word.{opcode_of, sbx_of, excess, set_sbx_of, abc_of, a_bx_of, a_sbx_of}
use Rattle.opcodes.specs.declared.OpCode.TheVariants.{GetGlobal, Add, Div, Concat, Jmp, Return}

-- 1 + x: x into register 0, constant 1 and register 0 added, one value returned
pub get_global : a_bx_of GetGlobal 0 0 ≡ 0x0000_0005
unfolding a_bx_of
get_global = refl

pub add : abc_of Add 0 257 0 ≡ 0x8080_000c
unfolding abc_of
add = refl

pub return : abc_of Return 0 2 0 ≡ 0x0100_001e
unfolding abc_of
return = refl

-- P6, both operands constants, and P10
pub div : abc_of Div 0 257 256 ≡ 0x80c0_000f
unfolding abc_of
div = refl

pub concat : abc_of Concat 0 0 2 ≡ 0x0000_8015
unfolding abc_of
concat = refl

-- a jump by -1, which ends a list, made, read, and set to 0
pub jump : a_sbx_of Jmp 0 (negsuc 0) ≡ 0x7fff_8016
unfolding a_bx_of excess
jump = refl

pub jump_opcode : opcode_of 0x7fff_8016 ≡ Jmp
unfolding get_at op_code_of
jump_opcode = refl

pub jump_sbx : sbx_of 0x7fff_8016 ≡ negsuc 0
unfolding get_at sbx_of
jump_sbx = refl

pub jump_set : set_sbx_of 0x7fff_8016 (pos 0) ≡ 0x7fff_c016
unfolding set_at excess
jump_set = refl

pub least : excess (negsuc 131070) ≡ 0
unfolding excess
least = refl

pub most : excess (pos 131072) ≡ 262143
unfolding excess
most = refl
