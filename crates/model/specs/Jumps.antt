-- Jump lists: pending jumps threaded through their own sBx. A list is 0 for none, or k + 1 for the word k; sBx leads from a word to the next of the list, and -1 ends it.
-- Where the Rust would panic, a word past the end reads 0 and nothing is stored there; a walk takes at most as many turns as there are words. Assumes nothing.
use Rattle.std.specs.Prelude.{ℕ, zero, suc, ◌+◌, ◌-◌, List, Bool, true, false, ◌||◌, length, get_or, set, ℤ, pos, negsuc, ◌-ℤ◌, eqb, ltb}
use Rattle.instructions.specs.Limits.{no_reg, max_words}
use Rattle.opcodes.specs.OpCodes.{code_of, test_mode}
use Rattle.instructions.specs.Word.{op_of, opcode_of, b_of, c_of, sbx_of, set_a_of, set_sbx_of, abc_of}
use Rattle.opcodes.specs.declared.OpCode.{OpCode}
use Rattle.opcodes.specs.declared.OpCode.TheVariants.{Test, TestSet}

-- `get_instruction`
abbrev pub word : List ℕ → ℕ → ℕ
word code pc = get_or code pc 0

-- whether the word is of this opcode
abbrev pub is_op : OpCode → ℕ → Bool
is_op op w = eqb (op_of w) (code_of op)

-- the list behind the jump at pc, whose sBx this is: from word pc the jump leads to word pc + 1 + sBx, and -1 leads nowhere
abbrev pub behind : ℕ → ℤ → ℕ
behind pc (pos n) = suc (pc + 1 + n)
behind pc (negsuc zero) = 0
behind pc (negsuc (suc n)) = suc (pc + 1) - suc (suc n)

-- the list of the jump at a word; what is no word of any code has none
unfoldable pub jump_list : ℕ → ℕ
jump_list pc = elim (ltb pc max_words) [ true ↦ pc + 1 | false ↦ 0 ]

-- `get_jump_target`
unfoldable pub get_jump_target : List ℕ → ℕ → ℕ
get_jump_target code zero = 0
get_jump_target code (suc pc) = behind pc (sbx_of (word code pc))

-- `patch_jump`: the list's first jump leads to word `target`
unfoldable pub patch_jump : List ℕ → ℕ → ℕ → List ℕ
patch_jump code zero target = code
patch_jump code (suc pc) target = set code pc (set_sbx_of (word code pc) (pos target -ℤ pos (pc + 1)))

-- the last jump of a list
unfoldable pub last_jump : ℕ → List ℕ → ℕ → ℕ
last_jump zero code list = list
last_jump (suc fuel) code list =
    elim (eqb (get_jump_target code list) 0) [ true ↦ list | false ↦ last_jump fuel code (get_jump_target code list) ]

-- `concat_jumps`: the list of both, l2 hanging on the last jump of l1
abbrev pub concat_jumps : ℕ → ℕ → ℕ
concat_jumps zero l2 = l2
concat_jumps (suc pc) l2 = suc pc

-- and the words, in which the last jump of l1 leads to the first word of l2
unfoldable pub linked : List ℕ → ℕ → ℕ → List ℕ
linked code zero l2 = code
linked code (suc pc) zero = code
linked code (suc pc) (suc to) = patch_jump code (last_jump (length code) code (suc pc)) to

-- `get_jump_control`: the test before the jump at pc, else the jump itself
unfoldable pub get_jump_control : List ℕ → ℕ → ℕ
get_jump_control code zero = 0
get_jump_control code (suc pc) = elim (test_mode (opcode_of (word code pc))) [ true ↦ pc | false ↦ suc pc ]

-- the word that controls a list's first jump
abbrev pub control : List ℕ → ℕ → ℕ
control code zero = 0
control code (suc pc) = get_jump_control code pc

-- whether a list's first jump is controlled by a `TestSet`
abbrev pub keeps_value : List ℕ → ℕ → Bool
keeps_value code list = is_op TestSet (word code (control code list))

-- `need_value`: some jump of the list isn't controlled by a `TestSet`
unfoldable pub need_value : ℕ → List ℕ → ℕ → Bool
need_value zero code list = false
need_value (suc fuel) code zero = false
need_value (suc fuel) code (suc pc) =
    elim (keeps_value code (suc pc)) [ true ↦ need_value fuel code (get_jump_target code (suc pc)) | false ↦ true ]

-- a `TestSet` with the register for its value, or a `Test` where there is none or it is the tested one
unfoldable pub retest : ℕ → ℕ → ℕ
retest reg w = elim (eqb reg no_reg || eqb reg (b_of w)) [ true ↦ abc_of Test (b_of w) 0 (c_of w) | false ↦ set_a_of w reg ]

-- `patch_test_reg`
unfoldable pub patch_test_reg : List ℕ → ℕ → ℕ → List ℕ
patch_test_reg code list reg =
    elim (keeps_value code list) [ true ↦ set code (control code list) (retest reg (word code (control code list))) | false ↦ code ]

-- `remove_values`: no `TestSet` of the list keeps its value
unfoldable pub remove_values : ℕ → List ℕ → ℕ → List ℕ
remove_values zero code list = code
remove_values (suc fuel) code zero = code
remove_values (suc fuel) code (suc pc) =
    let patched = patch_test_reg code (suc pc) no_reg in remove_values fuel patched (get_jump_target patched (suc pc))

-- `patch_list_aux`: jumps with a value lead to `vtarget` and leave it in `reg`, the others to `dtarget`
unfoldable pub patch_list_aux : ℕ → List ℕ → ℕ → ℕ → ℕ → ℕ → List ℕ
patch_list_aux zero code list vtarget reg dtarget = code
patch_list_aux (suc fuel) code zero vtarget reg dtarget = code
patch_list_aux (suc fuel) code (suc pc) vtarget reg dtarget =
    let target : ℕ = elim (keeps_value code (suc pc)) [ true ↦ vtarget | false ↦ dtarget ] in
    patch_list_aux fuel (patch_jump (patch_test_reg code (suc pc) reg) (suc pc) target) (get_jump_target code (suc pc)) vtarget reg dtarget
