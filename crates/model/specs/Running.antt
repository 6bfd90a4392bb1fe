-- Running code words as the VM paper says (document 01, "Running and reading"). Whatever uses a register at or above the frame, a constant that isn't listed, a word past the end,
-- an open list that isn't there, is still open or begins at or below the register that takes it, a global's name that is no text, an opcode that the lowering never emits,
-- a `LoadNil` of no register, a `Concat` of fewer than two, a `Return` with B = 0, or goes to a word that isn't later, is stuck; and the words carried out are counted. Assumes nothing.
use Rattle.std.specs.Prelude.{ℕ, zero, suc, ◌+◌, ◌-◌, List, [], ◌∷◌, ◌++◌, Bool, true, false, not, length, get_or, set, ℤ, pos, negsuc, eqb, leb, ltb}
use Rattle.std.proofs.Math.Option.{Option, some, none}
use Rattle.instructions.specs.Limits.{bit_rk}
use Rattle.instructions.specs.Word.{opcode_of, a_of, b_of, c_of, bx_of, sbx_of}
use Rattle.opcodes.specs.declared.OpCode.{OpCode}
use Rattle.opcodes.specs.declared.OpCode.TheVariants as op
use Rattle.folding.specs.declared.Arith.TheVariants as arith
use Rattle.constants.specs.Entry.{Constant, entry_of}
use Rattle.model.specs.Values.{Value, nil, truth, number, text, other, value_of, is_true, fit, StepKind, global_read, index_read, equal, less, less_or_equal, length_of, concatenation, Outward, World, Taken, taken, ask, ask_many, ask_truth, compute, negation}

-- what is run: words, the constants with their texts, and the frame
pub record Program : Type 0 where
  pub words : List ℕ
  pub constants : ℕ
  pub kinds : List ℕ
  pub values : List ℕ
  pub pool : List ℕ
  pub frame : ℕ

-- values beside the frame, and the register of the word that made them
pub record Open : Type 0 where
  pub base : ℕ
  pub values : List Value

-- the machine between two words: the next word, the registers of the frame, the open list if there is one, and the outward steps so far, the newest first
pub record Machine : Type 0 where
  pub pc : ℕ
  pub registers : List Value
  pub list : Option Open
  pub steps : List Outward

-- after a word: the machine at a later word, or the end with the values returned
pub data After : Type 0 where
  goes : Machine → After
  ends : List Value → List Outward → After
  stuck : After

-- a run: the values returned, the outward steps, and the number of words carried out
pub data Run : Type 0 where
  returned : List Value → List Outward → ℕ → Run
  stuck_run : Run

-- a field as a truth value
abbrev pub flag : ℕ → Bool
flag n = not (eqb n 0)

-- both true or both false
abbrev pub same : Bool → Bool → Bool
same true b = b
same false b = not b

-- the machine with another part
abbrev pub at : ℕ → Machine → Machine
at pc m = record { pc = pc; registers = m.registers; list = m.list; steps = m.steps }

abbrev pub with_registers : List Value → Machine → Machine
with_registers rs m = record { pc = m.pc; registers = rs; list = m.list; steps = m.steps }

abbrev pub with_list : Option Open → Machine → Machine
with_list l m = record { pc = m.pc; registers = m.registers; list = l; steps = m.steps }

abbrev pub with_steps : List Outward → Machine → Machine
with_steps h m = record { pc = m.pc; registers = m.registers; list = m.list; steps = h }

-- stuck unless it is so
abbrev pub require : Bool → After → After
require t a = elim t [ true ↦ a | false ↦ stuck ]

-- on to the next word, or over it
abbrev pub next : Machine → After
next m = goes (at (m.pc + 1) m)

abbrev pub skip_if : Bool → Machine → After
skip_if true m = goes (at (m.pc + 2) m)
skip_if false m = next m

-- a jump leads from its own word to the one behind it and sBx further, which may be back
abbrev pub jump : Machine → ℤ → After
jump m (pos n) = goes (at (m.pc + 1 + n) m)
jump m (negsuc n) = goes (at (m.pc - n) m)

-- a name is a text
abbrev pub name_of : Value → (Value → After) → After
name_of (text t) f = f (text t)
name_of nil f = stuck
name_of (truth b) f = stuck
name_of (number b) f = stuck
name_of (other i) f = stuck

module _ (w : World) (p : Program) (varargs : List Value) where
  -- a register, several from a on, a constant, and an operand that is either
  abbrev pub reg : Machine → ℕ → (Value → After) → After
  reg m a f = elim (ltb a p.frame) [ true ↦ f (get_or m.registers a nil) | false ↦ stuck ]

  unfoldable pub regs : Machine → ℕ → ℕ → (List Value → After) → After
  regs m a zero f = f []
  regs m a (suc n) f = reg m a λ v. regs m (suc a) n λ vs. f (v ∷ vs)

  abbrev pub listed : Option Constant → (Value → After) → After
  listed (some k) f = f (value_of k)
  listed none f = stuck

  abbrev pub constant : ℕ → (Value → After) → After
  constant i f = require (ltb i p.constants) (listed (entry_of p.pool (get_or p.kinds i 0) (get_or p.values i 0)) f)

  abbrev pub rk_value : Machine → ℕ → (Value → After) → After
  rk_value m x f = elim (ltb x bit_rk) [ true ↦ reg m x f | false ↦ constant (x - bit_rk) f ]

  -- values into registers from a on
  abbrev pub put : Machine → ℕ → Value → (Machine → After) → After
  put m a v f = require (ltb a p.frame) (f (with_registers (set m.registers a v) m))

  unfoldable pub puts : Machine → ℕ → List Value → (Machine → After) → After
  puts m a [] f = f m
  puts m a (v ∷ vs) f = put m a v λ n. puts n (suc a) vs f

  -- a value into a register, and on
  abbrev pub to : Machine → ℕ → Value → After
  to m a v = put m a v next

  -- what a computation gives goes to a register, with its steps
  abbrev pub computed : Machine → ℕ → Taken Value → After
  computed m a t = to (with_steps t.steps m) a t.gives

  abbrev pub asked : Machine → ℕ → StepKind → List Value → After
  asked m a k vs = computed m a (ask w k vs m.steps)

  -- a comparison skips the next word unless the answer is the one asked for
  abbrev pub compared : Machine → Bool → Taken Bool → After
  compared m a t = skip_if (not (same t.gives a)) (with_steps t.steps m)

  -- k values make k - 1 concatenations, from the right
  unfoldable pub joined : List Value → List Outward → Taken Value
  joined [] h = taken nil h
  joined (v ∷ []) h = taken v h
  joined (v ∷ u ∷ vs) h = ask w concatenation (v ∷ (joined (u ∷ vs) h).gives ∷ []) (joined (u ∷ vs) h).steps

  -- no open list may be there
  abbrev pub none_open : Option Open → After → After
  none_open none a = a
  none_open (some l) a = stuck

  abbrev pub no_list : Machine → After → After
  no_list m a = none_open m.list a

  -- B - 1 arguments, or with B = 0 those up to the open list, and the list, which is taken
  abbrev pub with_open : Machine → ℕ → Option Open → (Machine → List Value → After) → After
  with_open m a none f = stuck
  with_open m a (some l) f = require (ltb a l.base) (regs m (a + 1) (l.base - (a + 1)) λ vs. f (with_list none m) (vs ++ l.values))

  abbrev pub arguments : Machine → ℕ → ℕ → (Machine → List Value → After) → After
  arguments m a zero f = with_open m a m.list f
  arguments m a (suc b) f = regs m (a + 1) b λ vs. f m vs

  -- C - 1 results, or with C = 0 all of them as an open list
  abbrev pub results : Machine → ℕ → ℕ → Taken (List Value) → After
  results m a zero t = no_list m (next (with_list (some (record { base = a; values = t.gives })) (with_steps t.steps m)))
  results m a (suc c) t = puts (with_steps t.steps m) a (fit c t.gives) next

  -- one word carried out
  unfoldable pub execute : OpCode → ℕ → Machine → After
  -- MOVE: R(A) := R(B)
  execute op.Move x m = reg m (b_of x) λ v. to m (a_of x) v
  -- LOADK: R(A) := Kst(Bx)
  execute op.LoadK x m = constant (bx_of x) λ v. to m (a_of x) v
  -- LOADBOOL: R(A) := (Bool)B; if (C) pc++
  execute op.LoadBool x m = put m (a_of x) (truth (flag (b_of x))) λ n. skip_if (flag (c_of x)) n
  -- LOADNIL: R(A) := ... := R(B) := nil
  execute op.LoadNil x m = require (leb (a_of x) (b_of x)) (puts m (a_of x) (fit ((b_of x) + 1 - (a_of x)) []) next)
  -- GETGLOBAL: R(A) := Gbl[Kst(Bx)]; the constant is the name
  execute op.GetGlobal x m = constant (bx_of x) λ k. name_of k λ n. asked m (a_of x) global_read (n ∷ [])
  -- GETTABLE: R(A) := R(B)[RK(C)]
  execute op.GetTable x m = reg m (b_of x) λ o. rk_value m (c_of x) λ k. asked m (a_of x) index_read (o ∷ k ∷ [])
  -- SELF: R(A+1) := R(B); R(A) := R(B)[RK(C)]
  execute op.OpSelf x m = reg m (b_of x) λ o. put m ((a_of x) + 1) o λ n. rk_value n (c_of x) λ k. asked n (a_of x) index_read (o ∷ k ∷ [])
  -- ADD: R(A) := RK(B) + RK(C)
  execute op.Add x m = rk_value m (b_of x) λ a. rk_value m (c_of x) λ b. computed m (a_of x) (compute w arith.Add a b m.steps)
  -- SUB: R(A) := RK(B) - RK(C)
  execute op.Sub x m = rk_value m (b_of x) λ a. rk_value m (c_of x) λ b. computed m (a_of x) (compute w arith.Sub a b m.steps)
  -- MUL: R(A) := RK(B) * RK(C)
  execute op.Mul x m = rk_value m (b_of x) λ a. rk_value m (c_of x) λ b. computed m (a_of x) (compute w arith.Mul a b m.steps)
  -- DIV: R(A) := RK(B) / RK(C)
  execute op.Div x m = rk_value m (b_of x) λ a. rk_value m (c_of x) λ b. computed m (a_of x) (compute w arith.Div a b m.steps)
  -- MOD: R(A) := RK(B) % RK(C)
  execute op.Mod x m = rk_value m (b_of x) λ a. rk_value m (c_of x) λ b. computed m (a_of x) (compute w arith.Mod a b m.steps)
  -- POW: R(A) := RK(B) ^ RK(C)
  execute op.Pow x m = rk_value m (b_of x) λ a. rk_value m (c_of x) λ b. computed m (a_of x) (compute w arith.Pow a b m.steps)
  -- UNM: R(A) := -R(B)
  execute op.Unm x m = reg m (b_of x) λ v. computed m (a_of x) (negation w v m.steps)
  -- NOT: R(A) := not R(B)
  execute op.Not x m = reg m (b_of x) λ v. to m (a_of x) (truth (not (is_true v)))
  -- LEN: R(A) := length of R(B)
  execute op.Len x m = reg m (b_of x) λ v. asked m (a_of x) length_of (v ∷ [])
  -- CONCAT: R(A) := R(B).. ... ..R(C), from the right
  execute op.Concat x m = require (ltb (b_of x) (c_of x)) (regs m (b_of x) ((c_of x) + 1 - (b_of x)) λ vs. computed m (a_of x) (joined vs m.steps))
  -- JMP: pc += sBx
  execute op.Jmp x m = jump m (sbx_of x)
  -- EQ: if ((RK(B) == RK(C)) ~= A) then pc++
  execute op.Eq x m = rk_value m (b_of x) λ a. rk_value m (c_of x) λ b. compared m (flag (a_of x)) (ask_truth w equal (a ∷ b ∷ []) m.steps)
  -- LT: if ((RK(B) < RK(C)) ~= A) then pc++
  execute op.Lt x m = rk_value m (b_of x) λ a. rk_value m (c_of x) λ b. compared m (flag (a_of x)) (ask_truth w less (a ∷ b ∷ []) m.steps)
  -- LE: if ((RK(B) <= RK(C)) ~= A) then pc++
  execute op.Le x m = rk_value m (b_of x) λ a. rk_value m (c_of x) λ b. compared m (flag (a_of x)) (ask_truth w less_or_equal (a ∷ b ∷ []) m.steps)
  -- TEST: if not (R(A) <=> C) then pc++
  execute op.Test x m = reg m (a_of x) λ v. skip_if (not (same (is_true v) (flag (c_of x)))) m
  -- TESTSET: if (R(B) <=> C) then R(A) := R(B) else pc++
  execute op.TestSet x m = reg m (b_of x) λ v. elim (same (is_true v) (flag (c_of x))) [ true ↦ to m (a_of x) v | false ↦ skip_if true m ]
  -- CALL: R(A), ..., R(A+C-2) := R(A)(R(A+1), ..., R(A+B-1)); B = 0 takes the open list, C = 0 makes one
  execute op.Call x m = reg m (a_of x) λ f. arguments m (a_of x) (b_of x) λ n vs. results n (a_of x) (c_of x) (ask_many w (f ∷ vs) n.steps)
  -- RETURN: return R(A), ..., R(A+B-2)
  execute op.Return x m = require (not (eqb (b_of x) 0)) (no_list m (regs m (a_of x) ((b_of x) - 1) λ vs. ends vs m.steps))
  -- VARARG: R(A), R(A+1), ..., R(A+B-2) = vararg; B = 0 makes an open list
  execute op.VarArg x m = results m (a_of x) (b_of x) (taken varargs m.steps)
  -- never emitted
  execute op.GetUpval x m = stuck
  execute op.SetGlobal x m = stuck
  execute op.SetUpval x m = stuck
  execute op.SetTable x m = stuck
  execute op.NewTable x m = stuck
  execute op.TailCall x m = stuck
  execute op.ForLoop x m = stuck
  execute op.ForPrep x m = stuck
  execute op.TForLoop x m = stuck
  execute op.SetList x m = stuck
  execute op.Close x m = stuck
  execute op.Closure x m = stuck

  -- from the word at pc on, for at most `fuel` words: a word past the end, and a word that isn't later, are stuck
  unfoldable pub run_from : ℕ → Machine → ℕ → Run
  run_from zero m n = stuck_run
  run_from (suc fuel) m n =
      elim (ltb m.pc (length p.words)) [
        | false ↦ stuck_run
        | true ↦ elim (execute (opcode_of (get_or p.words m.pc 0)) (get_or p.words m.pc 0) m) [
          | stuck ↦ stuck_run
          | ends vs h ↦ returned vs h (suc n)
          | goes k ↦ elim (ltb m.pc k.pc) [ true ↦ run_from fuel k (suc n) | false ↦ stuck_run ]
        ]
      ]

-- a run starts at word 0 with the locals in the first registers and nil in the others, no open list and no steps
abbrev pub run : World → Program → List Value → List Value → Run
run w p locals varargs = run_from w p varargs (length p.words) (record { pc = 0; registers = fit p.frame locals; list = none; steps = [] }) 0
