-- Conditional jumps, and `not`: goiftrue, goiffalse and what they call. Assumes nothing.
use Rattle.std.specs.Prelude.{ℕ, ◌-◌, List, Bool, true, false, not, ◌&&◌, length, set, eqb}
use Rattle.instructions.specs.Limits.{no_reg}
use Rattle.instructions.specs.Word.{a_of, b_of, set_a_of}
use Rattle.opcodes.specs.declared.OpCode.TheVariants as op
use Rattle.model.specs.declared.ExprKind.{ExprKind}
use Rattle.model.specs.declared.ExprKind.TheVariants.{Nil, True, False, K, KNum, Local, Global, Indexed, Jmp, Relocable, NonReloc, Call, VarArg}
use Rattle.model.specs.declared.ExprContext.{ExprContext}
use Rattle.model.specs.Descriptor.{with_kind, with_jumps, is_kind}
use Rattle.model.specs.Steps.{done, Step, ◌>>=◌, ◌>>◌, return, code_now, change_words}
use Rattle.model.specs.Jumps.{word, is_op, jump_list, get_jump_control, remove_values}
use Rattle.model.specs.Emission.{with_pc, emit_abc, emit_jump, concat, patch_to_here}
use Rattle.model.specs.Discharge.{change_word, discharge_vars, free_expr, discharge2anyreg}

-- a truth value as a field
abbrev pub bit : Bool → ℕ
bit true = 1
bit false = 0

-- the last word and its line are taken back
unfoldable pub pop : Step (Unit {0})
pop s m = done tt (with_pc (s.pc - 1) s) (record { code = set m.code (s.pc - 1) 0; lines = set m.lines (s.pc - 1) 0; kinds = m.kinds; values = m.values; pool = m.pool })

-- `invertjump`: the comparison before the jump tests for the other answer
unfoldable pub invertjump : ExprContext → Step (Unit {0})
invertjump e = do
  code ← code_now
  change_word (get_jump_control code e.info) (λ w. set_a_of w (bit (eqb (a_of w) 0)))

-- a `Not` that is still to get its register, and so the last word
abbrev pub is_not : List ℕ → ExprContext → Bool
is_not code e = is_kind Relocable e && is_op op.Not (word code e.info)

-- `jumponcond`: the list of the jump that is taken where the value's truth is cond. (The register that the Rust leaves in the descriptor is read by nobody.)
unfoldable pub jumponcond : ExprContext → Bool → Step ℕ
jumponcond e cond = do
  code ← code_now
  elim (is_not code e) [
    | true ↦ do
      pop
      emit_abc op.Test (b_of (word code e.info)) 0 (bit (not cond))
      emit_jump
    | false ↦ do
      e₁ ← discharge2anyreg e
      free_expr e₁
      emit_abc op.TestSet no_reg e₁.info (bit cond)
      emit_jump
  ]

-- the jump that a false value takes; none where the value is true
unfoldable pub jump_if_false : ExprKind → ExprContext → Step ℕ
jump_if_false Nil e = jumponcond e false
jump_if_false True e = return 0
jump_if_false False e = emit_jump
jump_if_false K e = return 0
jump_if_false KNum e = return 0
jump_if_false Local e = jumponcond e false
jump_if_false Global e = jumponcond e false
jump_if_false Indexed e = jumponcond e false
jump_if_false Jmp e = do
  invertjump e
  return (jump_list e.info)
jump_if_false Relocable e = jumponcond e false
jump_if_false NonReloc e = jumponcond e false
jump_if_false Call e = jumponcond e false
jump_if_false VarArg e = jumponcond e false

-- the jump that a true value takes; none where the value is false
unfoldable pub jump_if_true : ExprKind → ExprContext → Step ℕ
jump_if_true Nil e = return 0
jump_if_true True e = emit_jump
jump_if_true False e = return 0
jump_if_true K e = jumponcond e true
jump_if_true KNum e = jumponcond e true
jump_if_true Local e = jumponcond e true
jump_if_true Global e = jumponcond e true
jump_if_true Indexed e = jumponcond e true
jump_if_true Jmp e = return (jump_list e.info)
jump_if_true Relocable e = jumponcond e true
jump_if_true NonReloc e = jumponcond e true
jump_if_true Call e = jumponcond e true
jump_if_true VarArg e = jumponcond e true

-- `goiftrue`: goes on if true, and jumps to the false list if not
unfoldable pub goiftrue : ExprContext → Step ExprContext
goiftrue e = do
  e₁ ← discharge_vars e
  list ← jump_if_false e₁.kind e₁
  f ← concat e₁.f list
  patch_to_here e₁.t
  return (with_jumps 0 f e₁)

-- `goiffalse`
unfoldable pub goiffalse : ExprContext → Step ExprContext
goiffalse e = do
  e₁ ← discharge_vars e
  list ← jump_if_true e₁.kind e₁
  t ← concat e₁.t list
  patch_to_here e₁.f
  return (with_jumps t 0 e₁)

unfoldable pub emit_not : ExprContext → Step ExprContext
emit_not e = do
  e₁ ← discharge2anyreg e
  free_expr e₁
  pc ← emit_abc op.Not 0 e₁.info 0
  return (with_kind Relocable pc e₁)

-- the negated value of a kind
unfoldable pub negate : ExprKind → ExprContext → Step ExprContext
negate Nil e = return (with_kind True e.info e)
negate True e = return (with_kind False e.info e)
negate False e = return (with_kind True e.info e)
negate K e = return (with_kind False e.info e)
negate KNum e = return (with_kind False e.info e)
negate Local e = return e
negate Global e = return e
negate Indexed e = return e
negate Jmp e = do
  invertjump e
  return e
negate Relocable e = emit_not e
negate NonReloc e = emit_not e
negate Call e = return e
negate VarArg e = return e

-- `code_not`: the lists change places, and none of their jumps brings a value any more
unfoldable pub code_not : ExprContext → Step ExprContext
code_not e = do
  e₁ ← discharge_vars e
  e₂ ← negate e₁.kind e₁
  change_words (λ code. remove_values (length code) code e₂.t)
  change_words (λ code. remove_values (length code) code e₂.f)
  return (with_jumps e₂.f e₂.t e₂)
