-- Opcodes are told apart by their numbers, which are below 38. Assumes nothing.
use Rattle.std.specs.Prelude.{◌<◌, true, ◌&&◌, List, map, ◌≡◌, refl, leb, ltb, get_or}
use Rattle.std.proofs.Common.{sym, ap, subst, ◌∙◌, ltb-true}
use Rattle.std.proofs.Math.ListN.{get_or-map}
use Rattle.opcodes.specs.OpCodes.{code_of, op_codes, op_code_of, test_mode}
use Rattle.opcodes.specs.declared.OpCode.{OpCode}
use Rattle.opcodes.specs.declared.OpCode.TheVariants.{Move, LoadK, LoadBool, LoadNil, GetUpval, GetGlobal, GetTable, SetGlobal, SetUpval, SetTable, NewTable, OpSelf, Add, Sub, Mul, Div, Mod, Pow, Unm, Not, Len, Concat, Jmp, Eq, Lt, Le, Test, TestSet, Call, TailCall, Return, ForLoop, ForPrep, TForLoop, SetList, Close, Closure, VarArg}

pub opcode_code : (op : OpCode) → op_code_of (code_of op) ≡ op
unfolding op_code_of
opcode_code Move = refl
opcode_code LoadK = refl
opcode_code LoadBool = refl
opcode_code LoadNil = refl
opcode_code GetUpval = refl
opcode_code GetGlobal = refl
opcode_code GetTable = refl
opcode_code SetGlobal = refl
opcode_code SetUpval = refl
opcode_code SetTable = refl
opcode_code NewTable = refl
opcode_code OpSelf = refl
opcode_code Add = refl
opcode_code Sub = refl
opcode_code Mul = refl
opcode_code Div = refl
opcode_code Mod = refl
opcode_code Pow = refl
opcode_code Unm = refl
opcode_code Not = refl
opcode_code Len = refl
opcode_code Concat = refl
opcode_code Jmp = refl
opcode_code Eq = refl
opcode_code Lt = refl
opcode_code Le = refl
opcode_code Test = refl
opcode_code TestSet = refl
opcode_code Call = refl
opcode_code TailCall = refl
opcode_code Return = refl
opcode_code ForLoop = refl
opcode_code ForPrep = refl
opcode_code TForLoop = refl
opcode_code SetList = refl
opcode_code Close = refl
opcode_code Closure = refl
opcode_code VarArg = refl

-- two functions that agree on the list of opcodes, which antt computes, agree on every opcode
pub agree : {B : Type 0} (f g : OpCode → B) → map f op_codes ≡ map g op_codes → (op : OpCode) → f op ≡ g op
unfolding op_code_of
agree f g h op =
    let n = code_of op in
    let first = ap (λ (l : List _). get_or l 0 (f Move)) h in
    subst (λ (o : OpCode). f o ≡ g o) (opcode_code op)
    (sym (get_or-map f op_codes n Move) ∙ rw (h, first) refl ∙ get_or-map g op_codes n Move)

pub code_lt : (op : OpCode) → code_of op < 38
code_lt op = ltb-true (code_of op) 38 (agree (λ o. ltb (code_of o) 38) (λ o. true) refl op)

-- those that stand before a jump are the opcodes 23 to 27
pub test_code : (op : OpCode) → test_mode op ≡ (leb 23 (code_of op) && ltb (code_of op) 28)
test_code = agree test_mode (λ o. leb 23 (code_of o) && ltb (code_of o) 28) refl
