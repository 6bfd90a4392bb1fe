-- Discharging: a descriptor becomes a value, a register or an RK operand. The middle part of codegen.rs. Assumes nothing.
use Rattle.std.specs.Prelude.{ℕ, ◌+◌, ◌%◌, [], true, false, not, ◌||◌, length, set, eqb, leb}
use Rattle.instructions.specs.Limits.{bit_rk, max_index_rk}
use Rattle.instructions.specs.Word.{a_of, set_a_of, set_b_of, set_c_of}
use Rattle.opcodes.specs.declared.OpCode.TheVariants as op
use Rattle.constants.specs.declared.Val.TheVariants as val
use Rattle.model.specs.declared.ExprKind.{ExprKind}
use Rattle.model.specs.declared.ExprKind.TheVariants.{Nil, True, False, K, KNum, Local, Global, Indexed, Jmp, Relocable, NonReloc, Call, VarArg}
use Rattle.model.specs.declared.ExprContext.{ExprContext}
use Rattle.model.specs.Descriptor.{with_kind, with_jumps, has_jumps, is_kind}
use Rattle.model.specs.Steps.{Step, ◌>>=◌, ◌>>◌, return, get, code_now, change_words, skip, when}
use Rattle.model.specs.Jumps.{word, jump_list, need_value, patch_list_aux}
use Rattle.model.specs.Emission.{emit_abc, emit_abx, emit_jump, emit_nil, concat, patch_to_here, get_label, code_label, alloc_reg, free_reg, add_constant}

-- a word changed in place
abbrev pub change_word : ℕ → (ℕ → ℕ) → Step (Unit {0})
change_word pc f = change_words (λ code. set code pc (f (word code pc)))

-- `discharge_vars` with `set_one_ret`, kind by kind: a variable, an indexed value, a call or a vararg becomes a value
unfoldable pub discharge_kind : ExprKind → ExprContext → Step ExprContext
discharge_kind Nil e = return e
discharge_kind True e = return e
discharge_kind False e = return e
discharge_kind K e = return e
discharge_kind KNum e = return e
discharge_kind Local e = return (with_kind NonReloc e.info e)
discharge_kind Global e = do
  pc ← emit_abx op.GetGlobal 0 e.info
  return (with_kind Relocable pc e)
discharge_kind Indexed e = do
  free_reg e.aux
  free_reg e.info
  pc ← emit_abc op.GetTable 0 e.info e.aux
  return (with_kind Relocable pc e)
discharge_kind Jmp e = return e
discharge_kind Relocable e = return e
discharge_kind NonReloc e = return e
discharge_kind Call e = do
  change_word e.info (λ w. set_c_of w 2)
  code ← code_now
  return (with_kind NonReloc (a_of (word code e.info)) e)
discharge_kind VarArg e = do
  change_word e.info (λ w. set_b_of w 2)
  return (with_kind Relocable e.info e)

-- `discharge_vars`
abbrev pub discharge_vars : ExprContext → Step ExprContext
discharge_vars e = discharge_kind e.kind e

-- `free_expr`
unfoldable pub free_expr : ExprContext → Step (Unit {0})
free_expr e = when (is_kind NonReloc e) (free_reg e.info)

-- a number's constant
abbrev pub number_constant : ExprContext → Step ℕ
number_constant e = add_constant [] (val.Num e.nval e.bits)

-- a value goes from a register to another
abbrev pub move : ℕ → ℕ → Step (Unit {0})
move to from = do
  emit_abc op.Move to from 0
  skip

-- `discharge2reg`, of a value, to a register; an error of its constant is refused (difference 4)
unfoldable pub load_kind : ExprKind → ExprContext → ℕ → Step ExprContext
load_kind Nil e reg = do
  emit_nil reg
  return (with_kind NonReloc reg e)
load_kind True e reg = do
  emit_abc op.LoadBool reg 1 0
  return (with_kind NonReloc reg e)
load_kind False e reg = do
  emit_abc op.LoadBool reg 0 0
  return (with_kind NonReloc reg e)
load_kind K e reg = do
  emit_abx op.LoadK reg e.info
  return (with_kind NonReloc reg e)
load_kind KNum e reg = do
  n ← number_constant e
  emit_abx op.LoadK reg n
  return (with_kind NonReloc reg e)
load_kind Local e reg = return e
load_kind Global e reg = return e
load_kind Indexed e reg = return e
load_kind Jmp e reg = return e
load_kind Relocable e reg = do
  change_word e.info (λ w. set_a_of w reg)
  return (with_kind NonReloc reg e)
load_kind NonReloc e reg = do
  when (not (eqb reg e.info)) (move reg e.info)
  return (with_kind NonReloc reg e)
load_kind Call e reg = return e
load_kind VarArg e reg = return e

-- `discharge2reg`
unfoldable pub discharge2reg : ExprContext → ℕ → Step ExprContext
discharge2reg e reg = do
  e₁ ← discharge_vars e
  load_kind e₁.kind e₁ reg

-- `discharge2anyreg`
unfoldable pub discharge2anyreg : ExprContext → Step ExprContext
discharge2anyreg e =
    elim (is_kind NonReloc e) [
      | true ↦ return e
      | false ↦ do
        reg ← alloc_reg
        discharge2reg e reg
    ]

-- the end of `exp2reg`: the jumps of both lists land, those with a value behind the loads and those without on the load of false or of true
unfoldable pub land : ExprContext → ℕ → ℕ → ℕ → ℕ → Step (Unit {0})
land e reg final on_false on_true = do
  change_words (λ code. patch_list_aux (length code) code e.f final reg on_false)
  change_words (λ code. patch_list_aux (length code) code e.t final reg on_true)

-- loads of false and true, where some jump brings no value; the value that fell through jumps over them
unfoldable pub load_both : ExprContext → ℕ → Step (Unit {0})
load_both e reg = do
  over ← elim (is_kind Jmp e) [ true ↦ return 0 | false ↦ emit_jump ]
  on_false ← code_label reg 0 1
  on_true ← code_label reg 1 0
  patch_to_here over
  final ← get_label
  land e reg final on_false on_true

-- the jumps of `exp2reg`: loads of both truth values only where some jump brings no value
unfoldable pub settle : ExprContext → ℕ → Step (Unit {0})
settle e reg = do
  code ← code_now
  elim (need_value (length code) code e.t || need_value (length code) code e.f) [
    | true ↦ load_both e reg
    | false ↦ do
      final ← get_label
      land e reg final final final
  ]

-- a comparison's own jump joins the true list
unfoldable pub join_jump : ExprContext → Step ExprContext
join_jump e =
    elim (is_kind Jmp e) [
      | true ↦ do
        t ← concat e.t (jump_list e.info)
        return (with_jumps t e.f e)
      | false ↦ return e
    ]

-- `exp2reg`
unfoldable pub exp2reg : ExprContext → ℕ → Step ExprContext
exp2reg e reg = do
  e₁ ← discharge2reg e reg
  e₂ ← join_jump e₁
  when (has_jumps e₂) (settle e₂ reg)
  return (with_kind NonReloc reg (with_jumps 0 0 e₂))

-- `exp2nextreg`
unfoldable pub exp2nextreg : ExprContext → Step ExprContext
exp2nextreg e = do
  e₁ ← discharge_vars e
  free_expr e₁
  reg ← alloc_reg
  exp2reg e₁ reg

-- `exp2anyreg`: the register is then the descriptor's info
unfoldable pub exp2anyreg : ExprContext → Step ExprContext
exp2anyreg e = do
  e₁ ← discharge_vars e
  s ← get
  elim (is_kind NonReloc e₁) [
    | true ↦ elim (has_jumps e₁) [
      | true ↦ elim (leb s.active e₁.info) [ true ↦ exp2reg e₁ e₁.info | false ↦ exp2nextreg e₁ ]
      | false ↦ return e₁
    ]
    | false ↦ exp2nextreg e₁
  ]

-- `exp2val`; an error is refused (difference 4)
unfoldable pub exp2val : ExprContext → Step ExprContext
exp2val e = elim (has_jumps e) [ true ↦ exp2anyreg e | false ↦ discharge_vars e ]

-- nil, true or false as a constant, only while the table has at most 255 entries
unfoldable pub small : ExprContext → Step ℕ → Step ExprContext
small e constant = do
  s ← get
  elim (leb s.table.count max_index_rk) [
    | true ↦ do
      k ← constant
      return (with_kind K k e)
    | false ↦ exp2anyreg e
  ]

-- a constant above 255 goes to a register
unfoldable pub near : ExprContext → ℕ → Step ExprContext
near e k = elim (leb k max_index_rk) [ true ↦ return (with_kind K k e) | false ↦ exp2anyreg e ]

-- `exp2rk`, of what `exp2val` leaves, kind by kind
unfoldable pub rk_kind : ExprKind → ExprContext → Step ExprContext
rk_kind Nil e = small e (add_constant [] val.Nil)
rk_kind True e = small e (add_constant [] (val.Bool true))
rk_kind False e = small e (add_constant [] (val.Bool false))
rk_kind K e = near e e.info
rk_kind KNum e = do
  k ← number_constant e
  near e k
rk_kind Local e = exp2anyreg e
rk_kind Global e = exp2anyreg e
rk_kind Indexed e = exp2anyreg e
rk_kind Jmp e = exp2anyreg e
rk_kind Relocable e = exp2anyreg e
rk_kind NonReloc e = exp2anyreg e
rk_kind Call e = exp2anyreg e
rk_kind VarArg e = exp2anyreg e

-- `exp2rk`: a constant up to 255, or a register
unfoldable pub exp2rk : ExprContext → Step ExprContext
exp2rk e = do
  e₁ ← exp2val e
  rk_kind e₁.kind e₁

-- the operand that it then is: a constant's index is at most 255
abbrev pub rk : ExprContext → ℕ
rk e = elim (is_kind K e) [ true ↦ e.info % bit_rk + bit_rk | false ↦ e.info ]
