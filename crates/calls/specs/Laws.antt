-- Calls, indexing, names and leaves step by step: what a definition comes to once its first step's answer is known. Assumes nothing.
use Rattle.std.specs.Prelude.{ℕ, ◌+◌, ◌-◌, ◌≤◌, ◌<◌, Bool, ◌||◌, ◌≡◌, ltb, set}
use Rattle.std.proofs.Math.Bool.{true, false}
use mathlib.Core.List.{List}
use Rattle.std.proofs.Math.Option.{Option, some, none}
use Rattle.std.proofs.Math.Path.{refl, ap}
use Rattle.std.proofs.Common.{◌∙◌, lt-ltb, le-ltb}
use native.Mathlib.Omega.{arith}
use Rattle.refusals.specs.declared.Refusal.{Refusal}
use Rattle.instructions.specs.Limits.{no_reg}
use Rattle.instructions.specs.Word.{set_a_of, set_b_of, set_c_of, abc_of}
use Rattle.opcodes.specs.declared.OpCode.TheVariants as op
use Rattle.cursor.specs.declared.Text.{Text}
use Rattle.ast.specs.declared.Leaf.TheVariants as leaf
use Rattle.ast.specs.declared.Many.TheVariants as many
use Rattle.chunk.specs.declared.header.Header.{Header}
use Rattle.model.specs.declared.ExprKind.TheVariants.{K, Local, Global, Indexed, NonReloc, Call, VarArg}
use Rattle.model.specs.declared.ExprContext.{ExprContext}
use Rattle.model.specs.declared.State.{State}
use Rattle.model.specs.Stepped.{Stepped}
use Rattle.model.specs.Steps.{Buffers, bufs, Step, Result, done, refused, and_then, ◌>>=◌, ◌>>◌, get, stepped_is}
use Rattle.model.specs.Descriptor.{new_of, with_kind, is_kind}
use Rattle.model.specs.Jumps.{word}
use Rattle.model.specs.Emission.{with_free, emit_at, emit_abc, reserve_regs}
use Rattle.model.specs.Discharge.{change_word, free_expr, exp2nextreg, exp2anyreg, exp2rk, rk}
use Rattle.model.specs.Expressions.{set_multret, above, emit_call, closed_call, is_open, last_argument, set_indexed, code_self, string_constant, resolved, resolve_var, leaf_expr, callee, register_named}
use Rattle.emission.specs.Laws.{branch, then_done, then_refused}
use Rattle.calls.specs.Parts.{fresh_of, self_of, operand_of, key_of}

-- an answer that was found to be one of its kinds
pub stepped_told : (g : Stepped) (m : Buffers) {x : Result (Unit {0})} {h : Stepped} → x ≡ stepped_is g m → g ≡ h → x ≡ stepped_is h m
stepped_told g m q e = q ∙ ap (λ (o : Stepped). stepped_is o m) e

-- ---- calls

module _ (e : ExprContext) (s : State) (code ls ks vs p : List ℕ) where
  abbrev closing : Step (Unit {0})
  closing = change_word e.info (λ w. set_c_of w 0)

  abbrev spreading : Step (Unit {0})
  spreading = do
    t ← get
    change_word e.info (λ w. set_a_of (set_b_of w 0) t.free)
    reserve_regs 1

  pub multret_call : {after : List ℕ} → is_kind Call e ≡ true → set code e.info (set_c_of (word code e.info) 0) ≡ after →
      set_multret e s (bufs code ls ks vs p) ≡ done tt s (bufs after ls ks vs p)
  unfolding set_multret
  multret_call h q =
      ap (λ (b : Bool). branch b closing spreading s (bufs code ls ks vs p)) h ∙ ap (λ (c : List ℕ). done tt s (bufs c ls ks vs p)) q

  pub multret_vararg : {after : List ℕ} {x : Result (Unit {0})} → is_kind Call e ≡ false → set code e.info (set_a_of (set_b_of (word code e.info) 0) s.free) ≡ after →
      reserve_regs 1 s (bufs after ls ks vs p) ≡ x → set_multret e s (bufs code ls ks vs p) ≡ x
  unfolding set_multret and_then
  multret_vararg h q z =
      ap (λ (b : Bool). branch b closing spreading s (bufs code ls ks vs p)) h ∙ ap (λ (c : List ℕ). reserve_regs 1 s (bufs c ls ks vs p)) q ∙ z

module _ (r : ℕ) where
  pub above_some : r < no_reg → above r ≡ r + 1
  unfolding above
  above_some h = ap (λ (b : Bool). elim b [ true ↦ r + 1 | false ↦ no_reg ]) (lt-ltb r no_reg h)

  pub above_none : no_reg ≤ r → above r ≡ no_reg
  unfolding above
  above_none h = ap (λ (b : Bool). elim b [ true ↦ r + 1 | false ↦ no_reg ]) (le-ltb r no_reg h)

  pub above_pos : 1 ≤ above r
  unfolding above
  above_pos = go (ltb r no_reg)
    where
      go : (b : Bool) → 1 ≤ elim b [ true ↦ r + 1 | false ↦ no_reg ]
      go true = omega arith
      go false = omega arith

module _ (func : ExprContext) (b line : ℕ) (s : State) (m : Buffers) {w : ℕ} (i : abc_of op.Call func.info b 2 ≡ w) where
  calling : emit_call func b line s m ≡ and_then (emit_at w line s m) (λ (pc : ℕ) (t : State) (k : Buffers). done (with_kind Call pc func) (with_free (above func.info) t) k)
  unfolding emit_call and_then
  calling = ap (λ (x : ℕ). and_then (emit_at x line s m) (λ (pc : ℕ) (t : State) (k : Buffers). done (with_kind Call pc func) (with_free (above func.info) t) k)) i

  pub call_done : {pc : ℕ} {t : State} {k : Buffers} → emit_at w line s m ≡ done pc t k → emit_call func b line s m ≡ done (with_kind Call pc func) (with_free (above func.info) t) k
  call_done h = calling ∙ then_done _ h

  pub call_refused : {r : Refusal} {k : Buffers} → emit_at w line s m ≡ refused r k → emit_call func b line s m ≡ refused r k
  call_refused h = calling ∙ then_refused _ h

module _ (func : ExprContext) (line : ℕ) where
  pub closed_is : (s : State) (m : Buffers) → closed_call func line s m ≡ emit_call func (s.free - above func.info + 1) line s m
  unfolding closed_call and_then
  closed_is s m = refl

  module _ (e : ExprContext) (s : State) (m : Buffers) where
    abbrev spread : Step ExprContext
    spread = do
      set_multret e
      emit_call func 0 line

    abbrev settled : Step ExprContext
    settled = do
      exp2nextreg e
      closed_call func line

    module _ (h : is_open e ≡ true) where
      last_open : last_argument func line e s m ≡ spread s m
      unfolding last_argument
      last_open = ap (λ (b : Bool). branch b spread settled s m) h

      pub last_spread : {t : State} {k : Buffers} → set_multret e s m ≡ done tt t k → last_argument func line e s m ≡ emit_call func 0 line t k
      last_spread q = last_open ∙ then_done _ q

      pub last_spread_refused : {r : Refusal} {k : Buffers} → set_multret e s m ≡ refused r k → last_argument func line e s m ≡ refused r k
      last_spread_refused q = last_open ∙ then_refused _ q

    module _ (h : is_open e ≡ false) where
      last_closed : last_argument func line e s m ≡ settled s m
      unfolding last_argument
      last_closed = ap (λ (b : Bool). branch b spread settled s m) h

      pub last_settled : {d : ExprContext} {t : State} {k : Buffers} → exp2nextreg e s m ≡ done d t k → last_argument func line e s m ≡ closed_call func line t k
      last_settled q = last_closed ∙ then_done _ q

      pub last_settled_refused : {r : Refusal} {k : Buffers} → exp2nextreg e s m ≡ refused r k → last_argument func line e s m ≡ refused r k
      last_settled_refused q = last_closed ∙ then_refused _ q

pub open_call : (e : ExprContext) {b : Bool} → is_kind Call e ≡ b → is_open e ≡ (b || is_kind VarArg e)
open_call e h = ap (λ (b : Bool). b || is_kind VarArg e) h

-- ---- indexing

-- what the table has under the operand
abbrev pub indexed : ExprContext → ℕ → ExprContext
indexed t k = record { kind = Indexed; info = t.info; aux = k; nval = t.nval; bits = t.bits; t = t.t; f = t.f }

module _ (t key : ExprContext) (s : State) (m : Buffers) where
  pub indexed_done : {k : ExprContext} {u : State} {o : Buffers} → exp2rk key s m ≡ done k u o → set_indexed t key s m ≡ done (indexed t (rk k)) u o
  unfolding set_indexed
  indexed_done h = then_done _ h

  pub indexed_refused : {r : Refusal} {o : Buffers} → exp2rk key s m ≡ refused r o → set_indexed t key s m ≡ refused r o
  unfolding set_indexed
  indexed_refused h = then_refused _ h

module _ (e : ExprContext) (reg : ℕ) (s : State) (m : Buffers) where
  module _ (k : ExprContext) {n : ℕ} (i : rk k ≡ n) where
    calling_self : self_of e reg k s m ≡ and_then (emit_abc op.OpSelf reg e.info n s m) (λ _ (t : State) (o : Buffers). and_then (free_expr k t o) (λ _ (u : State) (a : Buffers). done (with_kind NonReloc reg e) u a))
    calling_self = ap (λ (x : ℕ). and_then (emit_abc op.OpSelf reg e.info x s m) (λ _ (t : State) (o : Buffers). and_then (free_expr k t o) (λ _ (u : State) (a : Buffers). done (with_kind NonReloc reg e) u a))) i

    pub self_done : {pc : ℕ} {t u : State} {o : Buffers} → emit_abc op.OpSelf reg e.info n s m ≡ done pc t o → free_expr k t o ≡ done tt u o → self_of e reg k s m ≡ done (with_kind NonReloc reg e) u o
    self_done h q = calling_self ∙ then_done _ h ∙ then_done _ q

    pub self_refused : {r : Refusal} {o : Buffers} → emit_abc op.OpSelf reg e.info n s m ≡ refused r o → self_of e reg k s m ≡ refused r o
    self_refused h = calling_self ∙ then_refused _ h

  pub operand_done : (key : ExprContext) {k : ExprContext} {t : State} {o : Buffers} → exp2rk key s m ≡ done k t o → operand_of e reg key s m ≡ self_of e reg k t o
  operand_done key h = then_done _ h

  pub operand_refused : (key : ExprContext) {r : Refusal} {o : Buffers} → exp2rk key s m ≡ refused r o → operand_of e reg key s m ≡ refused r o
  operand_refused key h = then_refused _ h

module _ (e key : ExprContext) (s : State) (m : Buffers) where
  module _ {t : State} (f : free_expr e s m ≡ done tt t m) where
    key_is : key_of e key s m ≡ and_then (reserve_regs 2 t m) (λ _. operand_of e t.free key)
    unfolding and_then
    key_is = then_done _ f

    pub key_done : {u : State} {k : Buffers} → reserve_regs 2 t m ≡ done tt u k → key_of e key s m ≡ operand_of e t.free key u k
    key_done h = key_is ∙ then_done _ h

    pub key_refused : {r : Refusal} {k : Buffers} → reserve_regs 2 t m ≡ refused r k → key_of e key s m ≡ refused r k
    key_refused h = key_is ∙ then_refused _ h

  pub code_self_done : {d : ExprContext} {t : State} {k : Buffers} → exp2anyreg e s m ≡ done d t k → code_self e key s m ≡ key_of d key t k
  unfolding code_self
  code_self_done h = then_done _ h

  pub code_self_refused : {r : Refusal} {k : Buffers} → exp2anyreg e s m ≡ refused r k → code_self e key s m ≡ refused r k
  unfolding code_self
  code_self_refused h = then_refused _ h

-- ---- names and leaves

module _ (chunk : List ℕ) (h : Header) (s : State) (m : Buffers) where
  module _ (t : Text) where
    pub local_found : {i : ℕ} → register_named chunk h t ≡ some i → resolve_var chunk h t s m ≡ done (new_of Local i) s m
    unfolding resolve_var
    local_found q = ap (λ (o : Option ℕ). resolved chunk h t o s m) q

    module _ {x : Result ℕ} {r : Result ExprContext} (c : string_constant chunk h t s m ≡ x) where
      pub global_found : register_named chunk h t ≡ none → and_then x (fresh_of Global) ≡ r → resolve_var chunk h t s m ≡ r
      unfolding resolve_var
      global_found q z = ap (λ (o : Option ℕ). resolved chunk h t o s m) q ∙ ap (λ (y : Result ℕ). and_then y (fresh_of Global)) c ∙ z

      pub text_leaf : and_then x (fresh_of K) ≡ r → leaf_expr chunk h (leaf.Str t) s m ≡ r
      unfolding leaf_expr
      text_leaf z = ap (λ (y : Result ℕ). and_then y (fresh_of K)) c ∙ z

    pub name_leaf : leaf_expr chunk h (leaf.Name t) s m ≡ resolve_var chunk h t s m
    unfolding leaf_expr
    name_leaf = refl

  pub vararg_leaf : {x : Result ℕ} {r : Result ExprContext} → emit_abc op.VarArg 0 1 0 s m ≡ x → and_then x (fresh_of VarArg) ≡ r → leaf_expr chunk h leaf.VarArg s m ≡ r
  unfolding leaf_expr
  vararg_leaf c z = ap (λ (y : Result ℕ). and_then y (fresh_of VarArg)) c ∙ z
  -- ---- a key of the chunk

-- an object or a table in a register, and then a text as its key
module _ (chunk : List ℕ) (h : Header) (f : ExprContext → ExprContext → Step ExprContext) (e : ExprContext) (n : Text) where
  abbrev pub keyed : Step ExprContext
  keyed = do
    d ← exp2anyreg e
    i ← string_constant chunk h n
    f d (new_of K i)

  module _ (s : State) (m : Buffers) where
    pub keyed_refused : {r : Refusal} {k : Buffers} → exp2anyreg e s m ≡ refused r k → keyed s m ≡ refused r k
    keyed_refused q = then_refused _ q

    module _ {d : ExprContext} {t : State} {k : Buffers} (q : exp2anyreg e s m ≡ done d t k) where
      in_register : keyed s m ≡ and_then (string_constant chunk h n t k) (λ (i : ℕ). f d (new_of K i))
      in_register = then_done _ q

      pub keyed_full : {r : Refusal} {o : Buffers} → string_constant chunk h n t k ≡ refused r o → keyed s m ≡ refused r o
      keyed_full z = in_register ∙ then_refused _ z

      pub keyed_done : {i : ℕ} {u : State} {o : Buffers} → string_constant chunk h n t k ≡ done i u o → keyed s m ≡ f d (new_of K i) u o
      keyed_done z = in_register ∙ then_done _ z

module _ (chunk : List ℕ) (h : Header) (e : ExprContext) (s : State) (m : Buffers) where
  pub callee_plain : callee chunk h many.Call e s m ≡ exp2nextreg e s m
  unfolding callee
  callee_plain = refl

  pub callee_method : (n : Text) → callee chunk h (many.MethodCall n) e s m ≡ keyed chunk h code_self e n s m
  unfolding callee
  callee_method n = refl
