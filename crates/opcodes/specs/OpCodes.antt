-- The numbers of the 38 opcodes: `OpCode` of instructions.rs. Assumes nothing.
use Rattle.std.specs.Prelude.{ℕ, Bool, true, false, List, [], ◌∷◌, get_or}
use Rattle.opcodes.specs.declared.OpCode.{OpCode}
use Rattle.opcodes.specs.declared.OpCode.TheVariants.{Move, LoadK, LoadBool, LoadNil, GetUpval, GetGlobal, GetTable, SetGlobal, SetUpval, SetTable, NewTable, OpSelf, Add, Sub, Mul, Div, Mod, Pow, Unm, Not, Len, Concat, Jmp, Eq, Lt, Le, Test, TestSet, Call, TailCall, Return, ForLoop, ForPrep, TForLoop, SetList, Close, Closure, VarArg}

-- the opcode's number
abbrev pub code_of : OpCode → ℕ
code_of Move = 0
code_of LoadK = 1
code_of LoadBool = 2
code_of LoadNil = 3
code_of GetUpval = 4
code_of GetGlobal = 5
code_of GetTable = 6
code_of SetGlobal = 7
code_of SetUpval = 8
code_of SetTable = 9
code_of NewTable = 10
code_of OpSelf = 11
code_of Add = 12
code_of Sub = 13
code_of Mul = 14
code_of Div = 15
code_of Mod = 16
code_of Pow = 17
code_of Unm = 18
code_of Not = 19
code_of Len = 20
code_of Concat = 21
code_of Jmp = 22
code_of Eq = 23
code_of Lt = 24
code_of Le = 25
code_of Test = 26
code_of TestSet = 27
code_of Call = 28
code_of TailCall = 29
code_of Return = 30
code_of ForLoop = 31
code_of ForPrep = 32
code_of TForLoop = 33
code_of SetList = 34
code_of Close = 35
code_of Closure = 36
code_of VarArg = 37

-- all opcodes in the order of their numbers
abbrev pub op_codes : List OpCode
op_codes = Move ∷ LoadK ∷ LoadBool ∷ LoadNil ∷ GetUpval ∷ GetGlobal ∷ GetTable ∷ SetGlobal ∷ SetUpval ∷ SetTable ∷ NewTable ∷ OpSelf ∷ Add ∷ Sub ∷ Mul ∷ Div ∷ Mod ∷ Pow ∷ Unm ∷ Not ∷ Len ∷ Concat ∷ Jmp ∷ Eq ∷ Lt ∷ Le ∷ Test ∷ TestSet ∷ Call ∷ TailCall ∷ Return ∷ ForLoop ∷ ForPrep ∷ TForLoop ∷ SetList ∷ Close ∷ Closure ∷ VarArg ∷ []

-- `OpCode::from_u8`, with `Move` for what is no opcode
unfoldable pub op_code_of : ℕ → OpCode
op_code_of n = get_or op_codes n Move

-- `OpCode::is_test_mode`: these stand before a jump and decide whether it is carried out
abbrev pub test_mode : OpCode → Bool
test_mode Move = false
test_mode LoadK = false
test_mode LoadBool = false
test_mode LoadNil = false
test_mode GetUpval = false
test_mode GetGlobal = false
test_mode GetTable = false
test_mode SetGlobal = false
test_mode SetUpval = false
test_mode SetTable = false
test_mode NewTable = false
test_mode OpSelf = false
test_mode Add = false
test_mode Sub = false
test_mode Mul = false
test_mode Div = false
test_mode Mod = false
test_mode Pow = false
test_mode Unm = false
test_mode Not = false
test_mode Len = false
test_mode Concat = false
test_mode Jmp = false
test_mode Eq = true
test_mode Lt = true
test_mode Le = true
test_mode Test = true
test_mode TestSet = true
test_mode Call = false
test_mode TailCall = false
test_mode Return = false
test_mode ForLoop = false
test_mode ForPrep = false
test_mode TForLoop = false
test_mode SetList = false
test_mode Close = false
test_mode Closure = false
test_mode VarArg = false
