-- Expressions and argument lists, over the chunk's bytes: `compile_expr` and `compile_funcargs`. Nesting falls from node to sub-expression. Assumes nothing.
use Rattle.std.specs.Prelude.{ℕ, zero, suc, ◌+◌, ◌-◌, List, [], ◌∷◌, Bool, true, false, ◌||◌, ltb, Result, Ok, Err}
use Rattle.std.proofs.Math.Option.{Option, some, none}
use Rattle.instructions.specs.Limits.{no_reg}
use Rattle.refusals.specs.declared.Refusal.TheVariants as refusal
use Rattle.instructions.specs.Word.{set_a_of, set_b_of, set_c_of, abc_of}
use Rattle.opcodes.specs.declared.OpCode.TheVariants as op
use Rattle.folding.specs.Numeral.{numeral_of}
use Rattle.constants.specs.declared.Val.TheVariants as val
use Rattle.cursor.specs.Fields.{bytes_of}
use Rattle.cursor.specs.declared.Text.{Text}
use Rattle.nodes.specs.Nodes.{node_at}
use Rattle.ast.specs.declared.Leaf.{Leaf}
use Rattle.ast.specs.declared.Leaf.TheVariants as leaf
use Rattle.ast.specs.declared.One.{One}
use Rattle.ast.specs.declared.One.TheVariants as one
use Rattle.ast.specs.declared.Two.{Two}
use Rattle.ast.specs.declared.Two.TheVariants as two
use Rattle.ast.specs.declared.Many.{Many}
use Rattle.ast.specs.declared.Many.TheVariants as many
use Rattle.ast.specs.declared.Head.{Head}
use Rattle.ast.specs.declared.Head.TheVariants as head
use Rattle.ast.specs.declared.Node.{Node}
use Rattle.chunk.specs.Headers.{names_at}
use Rattle.chunk.specs.Form.{names_of}
use Rattle.chunk.specs.declared.header.Header.{Header}
use Rattle.model.specs.declared.ExprKind.TheVariants.{Nil, True, False, K, Local, Global, Indexed, NonReloc, Call, VarArg}
use Rattle.model.specs.declared.ExprContext.{ExprContext}
use Rattle.model.specs.Descriptor.{new_of, descriptor_of, with_kind, is_kind}
use Rattle.model.specs.Values.{last_wins, named}
use Rattle.model.specs.Steps.{Step, ◌>>=◌, ◌>>◌, return, refuse, get, change}
use Rattle.model.specs.Emission.{with_place, with_free, emit_at, emit_abc, reserve_regs, add_constant}
use Rattle.model.specs.Discharge.{change_word, discharge_vars, free_expr, exp2nextreg, exp2anyreg, exp2rk, rk}
use Rattle.model.specs.Operators.{before_right, after_right, code_unop}
use Rattle.refusals.specs.declared.Refusal.{Refusal}

-- ---- variables

-- `search_local`: the last of the names, from register r on, whose bytes these are
unfoldable pub search_local : List ℕ → List ℕ → List Text → ℕ → Option ℕ
search_local chunk name [] r = none
search_local chunk name (t ∷ ts) r = last_wins (search_local chunk name ts (suc r)) (named chunk name t r)

-- ---- calls

-- `set_multret`: the call or vararg gives all its values; an error is refused (difference 4)
unfoldable pub set_multret : ExprContext → Step (Unit {0})
set_multret e =
    elim (is_kind Call e) [
      | true ↦ change_word e.info (λ w. set_c_of w 0)
      | false ↦ do
        s ← get
        change_word e.info (λ w. set_a_of (set_b_of w 0) s.free)
        reserve_regs 1
    ]

-- the register above one; none lies above 255, which is no register
unfoldable pub above : ℕ → ℕ
above r = elim (ltb r no_reg) [ true ↦ r + 1 | false ↦ no_reg ]

-- the `Call` with B = b, on the line that was current before its arguments; then only its own register is taken
unfoldable pub emit_call : ExprContext → ℕ → ℕ → Step ExprContext
emit_call func b line = do
  pc ← emit_at (abc_of op.Call func.info b 2) line
  change (with_free (above func.info))
  return (with_kind Call pc func)

-- the call of as many arguments as there are registers above the function's
unfoldable pub closed_call : ExprContext → ℕ → Step ExprContext
closed_call func line = do
  s ← get
  emit_call func (s.free - above func.info + 1) line

-- an expression that gives a list of values
abbrev pub is_open : ExprContext → Bool
is_open e = is_kind Call e || is_kind VarArg e

-- the end of `compile_funcargs`: a call or vararg as the last argument gives all its values, and B is then 0
unfoldable pub last_argument : ExprContext → ℕ → ExprContext → Step ExprContext
last_argument func line e =
    elim (is_open e) [
      | true ↦ do
        set_multret e
        emit_call func 0 line
      | false ↦ do
        exp2nextreg e
        closed_call func line
    ]

-- `compile_funcargs` of n arguments, each lowered by f
unfoldable pub compile_funcargs : Step ExprContext → ExprContext → ℕ → ℕ → Step ExprContext
compile_funcargs f func line zero = closed_call func line
compile_funcargs f func line (suc zero) = do
  e ← f
  last_argument func line e
compile_funcargs f func line (suc (suc n)) = do
  e ← f
  exp2nextreg e
  compile_funcargs f func line (suc n)

-- `set_indexed`
unfoldable pub set_indexed : ExprContext → ExprContext → Step ExprContext
set_indexed t key = do
  k ← exp2rk key
  return (record { kind = Indexed; info = t.info; aux = rk k; nval = t.nval; bits = t.bits; t = t.t; f = t.f })

-- `code_self`
unfoldable pub code_self : ExprContext → ExprContext → Step ExprContext
code_self e key = do
  e₁ ← exp2anyreg e
  free_expr e₁
  s ← get
  reserve_regs 2
  k ← exp2rk key
  emit_abc op.OpSelf s.free e₁.info (rk k)
  free_expr k
  return (with_kind NonReloc s.free e₁)

-- ---- nodes

module _ (chunk : List ℕ) (h : Header) where
  -- `string_constant`
  abbrev pub string_constant : Text → Step ℕ
  string_constant t = add_constant chunk (val.Str t.start t.len)

  -- the local that was found, else a global
  abbrev pub resolved : Text → Option ℕ → Step ExprContext
  resolved t (some r) = return (new_of Local r)
  resolved t none = do
    k ← string_constant t
    return (new_of Global k)

  -- the register of the last local of that name
  abbrev pub register_named : Text → Option ℕ
  register_named t = search_local chunk (bytes_of chunk t) (names_of (names_at chunk h.locals h.names)) 0

  -- `resolve_var`: a local by its last name, else a global
  unfoldable pub resolve_var : Text → Step ExprContext
  resolve_var t = resolved t (register_named t)

  -- `compile_expr` of a node that has no sub-expression
  unfoldable pub leaf_expr : Leaf → Step ExprContext
  leaf_expr leaf.Nil = return (new_of Nil 0)
  leaf_expr leaf.True = return (new_of True 0)
  leaf_expr leaf.False = return (new_of False 0)
  leaf_expr (leaf.Number b) = return (descriptor_of (numeral_of b))
  leaf_expr (leaf.Str t) = do
    k ← string_constant t
    return (new_of K k)
  leaf_expr leaf.VarArg = do
    pc ← emit_abc op.VarArg 0 1 0
    return (new_of VarArg pc)
  leaf_expr (leaf.Name t) = resolve_var t

  -- behind the sub-expression of a node that has one
  unfoldable pub after_one : One → ExprContext → Step ExprContext
  after_one (one.Unary o) e = code_unop o e
  after_one (one.Field t) e = do
    e₁ ← exp2anyreg e
    k ← string_constant t
    set_indexed e₁ (new_of K k)
  after_one one.Paren e = discharge_vars e

  -- between and behind the sub-expressions of a node that has two
  unfoldable pub between : Two → ExprContext → Step ExprContext
  between (two.Binary o) e = before_right o e
  between two.Index e = exp2anyreg e

  unfoldable pub after_two : Two → ExprContext → ExprContext → Step ExprContext
  after_two (two.Binary o) e₁ e₂ = after_right o e₁ e₂
  after_two two.Index e₁ e₂ = set_indexed e₁ e₂

  -- the function of a call in its register, with the object behind it for a method
  unfoldable pub callee : Many → ExprContext → Step ExprContext
  callee many.Call e = exp2nextreg e
  callee (many.MethodCall t) e = do
    e₁ ← exp2anyreg e
    k ← string_constant t
    code_self e₁ (new_of K k)

  -- `compile_expr` of a node: its sub-expressions, each lowered by f, and what comes of them
  unfoldable pub compile_head : Step ExprContext → Head → Step ExprContext
  compile_head f (head.Leaf l) = leaf_expr l
  compile_head f (head.One o) = do
    e ← f
    after_one o e
  compile_head f (head.Two t) = do
    e ← f
    e₁ ← between t e
    e₂ ← f
    after_two t e₁ e₂
  compile_head f (head.Many m n) = do
    e ← f
    func ← callee m e
    s ← get
    compile_funcargs f func s.line n

  -- a node that was read: its line is current from here on
  abbrev pub compile_node : Step ExprContext → Result Node Refusal → Step ExprContext
  compile_node f (Err k) = refuse k
  compile_node f (Ok n) = do
    change (with_place n.next n.line)
    compile_head f n.head

  -- `compile_expr`, with `left` nestings left
  unfoldable pub compile_expr : ℕ → Step ExprContext
  compile_expr zero = refuse refusal.Nesting
  compile_expr (suc left) = do
    s ← get
    compile_node (compile_expr left) (node_at chunk h.varargs s.at s.line)
