-- Conditional jumps step by step: what a definition comes to once the answers of its steps are known. Assumes nothing.
use Rattle.std.specs.Prelude.{ℕ, ◌+◌, ◌-◌, Bool, true, false, not, List, ◌≡◌, eqb, negsuc, length, set}
use Rattle.std.proofs.Math.Path.{refl, ap}
use Rattle.std.proofs.Common.{sym, ◌∙◌}
use Rattle.refusals.specs.declared.Refusal.{Refusal}
use Rattle.refusals.specs.declared.Refusal.TheVariants.{Words}
use Rattle.instructions.specs.Limits.{no_reg}
use Rattle.instructions.specs.Word.{a_of, b_of, set_a_of, abc_of, a_sbx_of}
use Rattle.opcodes.specs.declared.OpCode.{OpCode}
use Rattle.opcodes.specs.declared.OpCode.TheVariants as op
use Rattle.model.specs.declared.ExprKind.{ExprKind}
use Rattle.model.specs.declared.ExprKind.TheVariants.{Nil, True, False, K, KNum, Local, Global, Indexed, Jmp, Relocable, NonReloc, Call, VarArg}
use Rattle.model.specs.declared.ExprContext.{ExprContext}
use Rattle.model.specs.declared.State.{State}
use Rattle.model.specs.Steps.{Buffers, bufs, Step, Result, done, refused, and_then, return}
use Rattle.model.specs.Descriptor.{with_kind, with_jumps, tag_of, is_kind}
use Rattle.model.specs.Jumps.{word, jump_list, get_jump_control, concat_jumps, linked, remove_values}
use Rattle.model.specs.Emission.{with_pc, with_jpc, discharge_jpc, no_room, store, push, emit_at, emit, emit_abc, emit_jump, concat, patch_to_here}
use Rattle.model.specs.Discharge.{discharge_vars, discharge2anyreg, free_expr}
use Rattle.model.specs.Conditions.{bit, pop, invertjump, is_not, jumponcond, jump_if_false, jump_if_true, goiftrue, goiffalse, emit_not, negate, code_not}
use Rattle.jumps.specs.Walk.{remove_end, linked_none, concat_none}
use Rattle.emission.specs.Laws.{branch, then_done}
use Rattle.discharge.specs.Kinds.{kind_is}
use Rattle.conditions.specs.Parts.{relocable, unary, lone_jump, tested, always_true, always_false, in_register}

-- what holds of a kind holds of a descriptor's own
pub at_kind : {A : Type 0} (f : ExprKind → Result A) (k : ExprKind) (e : ExprContext) {r : Result A} → is_kind k e ≡ true → f k ≡ r → f e.kind ≡ r
at_kind f k e h q = ap f (kind_is k e h) ∙ q

-- ---- words

module _ (s : State) (code ls ks vs p : List ℕ) where
  pub pop_is : {n : ℕ} {a b : List ℕ} {t : State} → s.pc - 1 ≡ n → set code n 0 ≡ a → set ls n 0 ≡ b → with_pc n s ≡ t → pop s (bufs code ls ks vs p) ≡ done tt t (bufs a b ks vs p)
  unfolding pop
  pop_is h i j k = simp (pop, h, i, j, k)

  pub invert_is : (e : ExprContext) {n w v : ℕ} {after : List ℕ} → get_jump_control code e.info ≡ n → word code n ≡ w → bit (eqb (a_of w) 0) ≡ v → set code n (set_a_of (word code n) v) ≡ after →
      invertjump e s (bufs code ls ks vs p) ≡ done tt s (bufs after ls ks vs p)
  unfolding invertjump and_then
  invert_is e h i j k = simp (invertjump, h, i, j, simp i at k)

  pub concat_is : (a b : ℕ) {n : ℕ} {after : List ℕ} → concat_jumps a b ≡ n → linked code a b ≡ after → concat a b s (bufs code ls ks vs p) ≡ done n s (bufs after ls ks vs p)
  unfolding concat and_then
  concat_is a b h i = simp (concat, h, i)

-- the jumps that are pending after a step
unfoldable jpc_of : Result ℕ → ℕ
jpc_of (done n t m) = t.jpc
jpc_of (refused r m) = 0

push_jpc : (w line : ℕ) (s : State) (m : Buffers) → jpc_of (push w line (with_jpc 0 s) m) ≡ 0
unfolding push jpc_of
push_jpc w line s m = go (no_room s m)
  where
    go : (b : Bool) → jpc_of (elim b [ true ↦ refused Words m | false ↦ done s.pc (with_pc (s.pc + 1) (with_jpc 0 s)) (store w line s m) ]) ≡ 0
    go true = refl
    go false = refl

-- none are after a word
emit_jpc : (w : ℕ) (s : State) (m : Buffers) {n : ℕ} {t : State} {k : Buffers} → emit w s m ≡ done n t k → t.jpc ≡ 0
unfolding emit emit_at discharge_jpc and_then jpc_of
emit_jpc w s m h = sym (ap jpc_of h) ∙ push_jpc w s.line s _

-- and where none are, a new jump takes over none
jump_lone : (s : State) (m : Buffers) → s.jpc ≡ 0 → emit_jump s m ≡ lone_jump s m
unfolding emit_jump concat and_then
jump_lone s m h =
    let words : remove_values (length m.code) m.code s.jpc ≡ m.code = remove_end _ _ _ h in
    let state : with_jpc 0 s ≡ s = ap (λ (j : ℕ). with_jpc j s) (sym h) in
    ap (λ (x : List ℕ). and_then (emit jump (with_jpc 0 s) (bufs x m.lines m.kinds m.values m.pool)) over) words ∙ ap (λ (t : State). and_then (emit jump t m) over) state ∙ go (emit jump s m)
  where
    jump : ℕ
    jump = a_sbx_of op.Jmp 0 (negsuc 0)

    over : ℕ → Step ℕ
    over pc = concat (pc + 1) s.jpc

    go : (x : Result ℕ) → and_then x over ≡ and_then x (λ pc. return (pc + 1))
    go (done pc t k) = rw (concat_none (pc + 1) s.jpc h, linked_none k.code (pc + 1) s.jpc h) refl
    go (refused r k) = refl

module _ (o : OpCode) (b c : ℕ) (s : State) (m : Buffers) where
  pub relocable_done : (e : ExprContext) {d : ExprContext} {n : ℕ} {t : State} {k : Buffers} → emit_abc o 0 b c s m ≡ done n t k → with_kind Relocable n e ≡ d → relocable o b c e s m ≡ done d t k
  unfolding and_then
  relocable_done e h i = simp (h, i)

  pub relocable_refused : (e : ExprContext) {r : Refusal} {k : Buffers} → emit_abc o 0 b c s m ≡ refused r k → relocable o b c e s m ≡ refused r k
  unfolding and_then
  relocable_refused e h = simp h

  pub tested_lone : (a : ℕ) {n : ℕ} {t : State} {k : Buffers} → emit_abc o a b c s m ≡ done n t k → tested o a b c s m ≡ lone_jump t k
  tested_lone a {t = t} {k = k} h = then_done (λ _. emit_jump) h ∙ jump_lone t k (emit_jpc (abc_of o a b c) s m h)

  pub tested_refused : (a : ℕ) {r : Refusal} {k : Buffers} → emit_abc o a b c s m ≡ refused r k → tested o a b c s m ≡ refused r k
  unfolding and_then
  tested_refused a h = simp h

-- ---- jumps by a value's truth

module _ (e : ExprContext) (cond : Bool) (s : State) (m : Buffers) where
  abbrev taken_back : Step ℕ
  taken_back a k = and_then (pop a k) (λ _. tested op.Test (b_of (word m.code e.info)) 0 (bit (not cond)))

  abbrev copied : Step ℕ
  copied a k =
      and_then
      (discharge2anyreg e a k)
      (λ (d : ExprContext) (a₁ : State) (k₁ : Buffers). and_then (free_expr d a₁ k₁) (λ _. tested op.TestSet no_reg d.info (bit cond)))

  pub cond_not : {w b v : ℕ} {t : State} {k : Buffers} {r : Result ℕ} → is_not m.code e ≡ true → word m.code e.info ≡ w → pop s m ≡ done tt t k → b_of w ≡ b → bit (not cond) ≡ v →
      tested op.Test b 0 v t k ≡ r → jumponcond e cond s m ≡ r
  unfolding jumponcond and_then
  cond_not h i j k l q = ap (λ (x : Bool). branch x taken_back copied s m) h ∙ simp (j, i, k, l, q)

  module _ (h : is_not m.code e ≡ false) where
    cond_is : jumponcond e cond s m ≡ copied s m
    unfolding jumponcond and_then
    cond_is = ap (λ (x : Bool). branch x taken_back copied s m) h

    pub cond_else : {d : ExprContext} {t u : State} {k : Buffers} {v : ℕ} {r : Result ℕ} → discharge2anyreg e s m ≡ done d t k → free_expr d t k ≡ done tt u k → bit cond ≡ v →
        tested op.TestSet no_reg d.info v u k ≡ r → jumponcond e cond s m ≡ r
    unfolding and_then
    cond_else i j k q = cond_is ∙ simp (i, j, k, q)

    pub cond_refused : {r : Refusal} {k : Buffers} → discharge2anyreg e s m ≡ refused r k → jumponcond e cond s m ≡ refused r k
    unfolding and_then
    cond_refused i = cond_is ∙ simp i

-- a value that is always true takes no jump for false ones
pub false_none : (k : ExprKind) (e : ExprContext) (s : State) (m : Buffers) → always_true k ≡ true → jump_if_false k e s m ≡ done 0 s m
unfolding jump_if_false
false_none Nil e s m h = cc
false_none True e s m h = refl
false_none False e s m h = cc
false_none K e s m h = refl
false_none KNum e s m h = refl
false_none Local e s m h = cc
false_none Global e s m h = cc
false_none Indexed e s m h = cc
false_none Jmp e s m h = cc
false_none Relocable e s m h = cc
false_none NonReloc e s m h = cc
false_none Call e s m h = cc
false_none VarArg e s m h = cc

-- other values are tested
pub false_else : (k : ExprKind) (e : ExprContext) (s : State) (m : Buffers) → always_true k ≡ false → eqb (tag_of k) (tag_of False) ≡ false → eqb (tag_of k) (tag_of Jmp) ≡ false →
    jump_if_false k e s m ≡ jumponcond e false s m
unfolding jump_if_false
false_else Nil e s m h i j = refl
false_else True e s m h i j = cc
false_else False e s m h i j = cc
false_else K e s m h i j = cc
false_else KNum e s m h i j = cc
false_else Local e s m h i j = refl
false_else Global e s m h i j = refl
false_else Indexed e s m h i j = refl
false_else Jmp e s m h i j = cc
false_else Relocable e s m h i j = refl
false_else NonReloc e s m h i j = refl
false_else Call e s m h i j = refl
false_else VarArg e s m h i j = refl

pub true_none : (k : ExprKind) (e : ExprContext) (s : State) (m : Buffers) → always_false k ≡ true → jump_if_true k e s m ≡ done 0 s m
unfolding jump_if_true
true_none Nil e s m h = refl
true_none True e s m h = cc
true_none False e s m h = refl
true_none K e s m h = cc
true_none KNum e s m h = cc
true_none Local e s m h = cc
true_none Global e s m h = cc
true_none Indexed e s m h = cc
true_none Jmp e s m h = cc
true_none Relocable e s m h = cc
true_none NonReloc e s m h = cc
true_none Call e s m h = cc
true_none VarArg e s m h = cc

pub true_else : (k : ExprKind) (e : ExprContext) (s : State) (m : Buffers) → always_false k ≡ false → eqb (tag_of k) (tag_of True) ≡ false → eqb (tag_of k) (tag_of Jmp) ≡ false →
    jump_if_true k e s m ≡ jumponcond e true s m
unfolding jump_if_true
true_else Nil e s m h i j = cc
true_else True e s m h i j = cc
true_else False e s m h i j = cc
true_else K e s m h i j = refl
true_else KNum e s m h i j = refl
true_else Local e s m h i j = refl
true_else Global e s m h i j = refl
true_else Indexed e s m h i j = refl
true_else Jmp e s m h i j = cc
true_else Relocable e s m h i j = refl
true_else NonReloc e s m h i j = refl
true_else Call e s m h i j = refl
true_else VarArg e s m h i j = refl

module _ (e : ExprContext) (s : State) (m : Buffers) where
  pub false_jumps : is_kind False e ≡ true → jump_if_false e.kind e s m ≡ emit_jump s m
  unfolding jump_if_false
  false_jumps h = at_kind (λ (k : ExprKind). jump_if_false k e s m) False e h refl

  pub true_jumps : is_kind True e ≡ true → jump_if_true e.kind e s m ≡ emit_jump s m
  unfolding jump_if_true
  true_jumps h = at_kind (λ (k : ExprKind). jump_if_true k e s m) True e h refl

  pub false_inverts : {k : Buffers} {n : ℕ} → is_kind Jmp e ≡ true → invertjump e s m ≡ done tt s k → jump_list e.info ≡ n → jump_if_false e.kind e s m ≡ done n s k
  unfolding jump_if_false and_then
  false_inverts h i j = at_kind (λ (x : ExprKind). jump_if_false x e s m) Jmp e h (simp (jump_if_false, i, j))

  pub true_own : {n : ℕ} → is_kind Jmp e ≡ true → jump_list e.info ≡ n → jump_if_true e.kind e s m ≡ done n s m
  unfolding jump_if_true
  true_own h j = at_kind (λ (x : ExprKind). jump_if_true x e s m) Jmp e h (simp (jump_if_true, j))

  module _ {d : ExprContext} {t : State} {k : Buffers} (h : discharge_vars e s m ≡ done d t k) where
    module _ {list n : ℕ} {u v : State} {o q w : Buffers} {r : ExprContext} where
      pub goes_true : jump_if_false d.kind d t k ≡ done list u o → concat d.f list u o ≡ done n u q → patch_to_here d.t u q ≡ done tt v w → with_jumps 0 n d ≡ r → goiftrue e s m ≡ done r v w
      unfolding goiftrue and_then
      goes_true i j l z = simp (goiftrue, h, i, j, l, z)

      pub goes_false : jump_if_true d.kind d t k ≡ done list u o → concat d.t list u o ≡ done n u q → patch_to_here d.f u q ≡ done tt v w → with_jumps n 0 d ≡ r → goiffalse e s m ≡ done r v w
      unfolding goiffalse and_then
      goes_false i j l z = simp (goiffalse, h, i, j, l, z)

    module _ {r : Refusal} {o : Buffers} where
      pub true_refused : jump_if_false d.kind d t k ≡ refused r o → goiftrue e s m ≡ refused r o
      unfolding goiftrue and_then
      true_refused i = simp (goiftrue, h, i)

      pub false_refused : jump_if_true d.kind d t k ≡ refused r o → goiffalse e s m ≡ refused r o
      unfolding goiffalse and_then
      false_refused i = simp (goiffalse, h, i)

      pub negate_refused : negate d.kind d t k ≡ refused r o → code_not e s m ≡ refused r o
      unfolding code_not and_then
      negate_refused i = simp (code_not, h, i)

    pub not_done : {n z : ExprContext} {u : State} {code ls ks vs p one two : List ℕ} → negate d.kind d t k ≡ done n u (bufs code ls ks vs p) →
        remove_values (length code) code n.t ≡ one → remove_values (length one) one n.f ≡ two → with_jumps n.f n.t n ≡ z → code_not e s m ≡ done z u (bufs two ls ks vs p)
    unfolding code_not and_then
    not_done i j l y = simp (code_not, h, i, j, l, y)

  module _ {r : Refusal} {k : Buffers} (h : discharge_vars e s m ≡ refused r k) where
    pub goiftrue_refused : goiftrue e s m ≡ refused r k
    unfolding goiftrue and_then
    goiftrue_refused = simp (goiftrue, h)

    pub goiffalse_refused : goiffalse e s m ≡ refused r k
    unfolding goiffalse and_then
    goiffalse_refused = simp (goiffalse, h)

    pub code_not_refused : code_not e s m ≡ refused r k
    unfolding code_not and_then
    code_not_refused = simp (code_not, h)

  -- ---- not

  pub unary_is : (o : OpCode) {t : State} {r : Result ExprContext} → free_expr e s m ≡ done tt t m → relocable o e.info 0 e t m ≡ r → unary o e s m ≡ r
  unfolding and_then
  unary_is o h q = simp (h, q)

  pub emit_not_done : {d : ExprContext} {t : State} {k : Buffers} → discharge2anyreg e s m ≡ done d t k → emit_not e s m ≡ unary op.Not d t k
  unfolding emit_not and_then
  emit_not_done h = simp (emit_not, h)

  pub emit_not_refused : {r : Refusal} {k : Buffers} → discharge2anyreg e s m ≡ refused r k → emit_not e s m ≡ refused r k
  unfolding emit_not and_then
  emit_not_refused h = simp (emit_not, h)

  pub negate_inverts : {k : Buffers} → is_kind Jmp e ≡ true → invertjump e s m ≡ done tt s k → negate e.kind e s m ≡ done e s k
  unfolding negate and_then
  negate_inverts h i = at_kind (λ (x : ExprKind). negate x e s m) Jmp e h (simp (negate, i))

pub negate_false : (k : ExprKind) (e : ExprContext) (s : State) (m : Buffers) → always_false k ≡ true → negate k e s m ≡ done (with_kind True e.info e) s m
unfolding negate
negate_false Nil e s m h = refl
negate_false True e s m h = cc
negate_false False e s m h = refl
negate_false K e s m h = cc
negate_false KNum e s m h = cc
negate_false Local e s m h = cc
negate_false Global e s m h = cc
negate_false Indexed e s m h = cc
negate_false Jmp e s m h = cc
negate_false Relocable e s m h = cc
negate_false NonReloc e s m h = cc
negate_false Call e s m h = cc
negate_false VarArg e s m h = cc

pub negate_true : (k : ExprKind) (e : ExprContext) (s : State) (m : Buffers) → always_true k ≡ true → negate k e s m ≡ done (with_kind False e.info e) s m
unfolding negate
negate_true Nil e s m h = cc
negate_true True e s m h = refl
negate_true False e s m h = cc
negate_true K e s m h = refl
negate_true KNum e s m h = refl
negate_true Local e s m h = cc
negate_true Global e s m h = cc
negate_true Indexed e s m h = cc
negate_true Jmp e s m h = cc
negate_true Relocable e s m h = cc
negate_true NonReloc e s m h = cc
negate_true Call e s m h = cc
negate_true VarArg e s m h = cc

pub negate_emits : (k : ExprKind) (e : ExprContext) (s : State) (m : Buffers) → in_register k ≡ true → negate k e s m ≡ emit_not e s m
unfolding negate
negate_emits Nil e s m h = cc
negate_emits True e s m h = cc
negate_emits False e s m h = cc
negate_emits K e s m h = cc
negate_emits KNum e s m h = cc
negate_emits Local e s m h = cc
negate_emits Global e s m h = cc
negate_emits Indexed e s m h = cc
negate_emits Jmp e s m h = cc
negate_emits Relocable e s m h = refl
negate_emits NonReloc e s m h = refl
negate_emits Call e s m h = cc
negate_emits VarArg e s m h = cc

pub negate_else : (k : ExprKind) (e : ExprContext) (s : State) (m : Buffers) → always_false k ≡ false → always_true k ≡ false → eqb (tag_of k) (tag_of Jmp) ≡ false → in_register k ≡ false → negate k e s m ≡ done e s m
unfolding negate
negate_else Nil e s m h i j l = cc
negate_else True e s m h i j l = cc
negate_else False e s m h i j l = cc
negate_else K e s m h i j l = cc
negate_else KNum e s m h i j l = cc
negate_else Local e s m h i j l = refl
negate_else Global e s m h i j l = refl
negate_else Indexed e s m h i j l = refl
negate_else Jmp e s m h i j l = cc
negate_else Relocable e s m h i j l = cc
negate_else NonReloc e s m h i j l = cc
negate_else Call e s m h i j l = refl
negate_else VarArg e s m h i j l = refl
