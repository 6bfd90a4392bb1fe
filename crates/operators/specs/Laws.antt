-- Operators step by step: what a definition comes to once the answers of its steps are known. Assumes nothing.
use Rattle.folding.specs.Numeral.{Fold}
use Rattle.std.specs.Prelude.{ℕ, Bool, not, ◌&&◌, List, [], ◌≡◌, set, Some, None}
use Rattle.std.proofs.Math.Bool.{true, false}
use Rattle.std.proofs.lemmas.Bool.{false≢true}
use Rattle.std.proofs.Common.{true≢false, ◌∙◌}
use Rattle.std.proofs.Math.Path.{refl, ap}
use Rattle.refusals.specs.declared.Refusal.{Refusal}
use Rattle.instructions.specs.Word.{set_b_of}
use Rattle.opcodes.specs.declared.OpCode.{OpCode}
use Rattle.opcodes.specs.declared.OpCode.TheVariants as op
use Rattle.folding.specs.Folding.{fold_of}
use Rattle.folding.specs.declared.Arith.{Arith}
use Rattle.folding.specs.declared.Numeral.{Numeral}
use Rattle.constants.specs.Entry.{holds}
use Rattle.constants.specs.Table.{find, Found}
use Rattle.constants.specs.declared.Val.TheVariants as val
use Rattle.ast.specs.declared.BinOp.{BinOp}
use Rattle.ast.specs.declared.BinOp.TheVariants as bin
use Rattle.ast.specs.declared.UnOp.{UnOp}
use Rattle.ast.specs.declared.UnOp.TheVariants as un
use Rattle.model.specs.declared.ExprKind.TheVariants.{Relocable, NonReloc}
use Rattle.model.specs.declared.ExprContext.{ExprContext}
use Rattle.model.specs.declared.State.{State}
use Rattle.model.specs.Steps.{Buffers, bufs, Step, Result, done, refused, and_then}
use Rattle.model.specs.Descriptor.{with_kind, with_jumps, has_jumps, is_kind, is_numeral}
use Rattle.model.specs.Jumps.{word, is_op}
use Rattle.model.specs.Emission.{emit_abc, emit_jump, concat}
use Rattle.model.specs.Discharge.{discharge_vars, free_expr, exp2nextreg, exp2anyreg, exp2val, exp2rk, rk}
use Rattle.model.specs.Conditions.{goiftrue, goiffalse, code_not, bit}
use Rattle.model.specs.Operators.{arith_op, const_fold, with_number, unless_folded, free_both, emit_arith, code_arith, code_unary, code_concat, is_far, far_numeral, compare_operands, either, emit_comp, code_comp, operand, before_right, code_and, code_or, join_concat, after_right, code_unop}
use Rattle.emission.specs.Laws.{branch, then_done, then_refused}
use Rattle.operands.specs.Operations.{operation_of}
use Rattle.conditions.specs.Parts.{relocable, unary, tested}
use Rattle.discharge.specs.Bringing.{rk_stays}
use Rattle.operands.specs.declared.Operation.{Operation}
use Rattle.operands.specs.declared.Operation.TheVariants.{And, Or, Concat, Arithmetic, Comparison}
use Rattle.operators.specs.Parts.{chosen, arith_of, arith_left, jump_of, comp_second, concat_word, concat_left, joined_to, is_not, unary_op, fold_unary}

-- ---- folding

module _ (o : Arith) (e₁ e₂ : ExprContext) where
  pub fold_both : {r : Fold} → is_numeral e₁ ≡ true → is_numeral e₂ ≡ true → fold_of o e₁.nval e₂.nval ≡ r → const_fold o e₁ e₂ ≡ r
  fold_both h i q =
      ap (λ (b : Bool). elim (b && is_numeral e₂) [ true ↦ fold_of o e₁.nval e₂.nval | false ↦ None ]) h
      ∙ ap (λ (b : Bool). elim b [ true ↦ fold_of o e₁.nval e₂.nval | false ↦ None ]) i
      ∙ q

  pub fold_right : is_numeral e₁ ≡ true → is_numeral e₂ ≡ false → const_fold o e₁ e₂ ≡ None
  fold_right h i =
      ap (λ (b : Bool). elim (b && is_numeral e₂) [ true ↦ fold_of o e₁.nval e₂.nval | false ↦ None ]) h
      ∙ ap (λ (b : Bool). elim b [ true ↦ fold_of o e₁.nval e₂.nval | false ↦ None ]) i

  pub fold_left : is_numeral e₁ ≡ false → const_fold o e₁ e₂ ≡ None
  fold_left h = ap (λ (b : Bool). elim (b && is_numeral e₂) [ true ↦ fold_of o e₁.nval e₂.nval | false ↦ None ]) h

-- ---- arithmetic

module _ (o : Arith) (e₁ : ExprContext) where
  module _ (c : ExprContext) (s : State) (m : Buffers) where
    pub arith_left_done : {b : ExprContext} {t : State} {k : Buffers} → exp2rk e₁ s m ≡ done b t k → arith_left o e₁ c s m ≡ arith_of o b c t k
    arith_left_done = then_done (λ (b : ExprContext). arith_of o b c)

    pub arith_left_refused : {r : Refusal} {k : Buffers} → exp2rk e₁ s m ≡ refused r k → arith_left o e₁ c s m ≡ refused r k
    arith_left_refused = then_refused (λ (b : ExprContext). arith_of o b c)

  module _ (e₂ : ExprContext) (s : State) (m : Buffers) where
    pub emit_arith_done : {c : ExprContext} {t : State} {k : Buffers} → exp2rk e₂ s m ≡ done c t k → emit_arith o e₁ e₂ s m ≡ arith_left o e₁ c t k
    unfolding emit_arith
    emit_arith_done = then_done (λ (c : ExprContext). arith_left o e₁ c)

    pub emit_arith_refused : {r : Refusal} {k : Buffers} → exp2rk e₂ s m ≡ refused r k → emit_arith o e₁ e₂ s m ≡ refused r k
    unfolding emit_arith
    emit_arith_refused = then_refused (λ (c : ExprContext). arith_left o e₁ c)

module _ (o : Arith) (e₁ e₂ : ExprContext) (s : State) (m : Buffers) where
  pub arith_folded : {n : Numeral} {d : ExprContext} → const_fold o e₁ e₂ ≡ Some n → with_number n e₁ ≡ d → code_arith o e₁ e₂ s m ≡ done d s m
  unfolding code_arith
  arith_folded h q = ap (λ (f : Fold). unless_folded f e₁ (emit_arith o e₁ e₂) s m) h ∙ ap (λ (d : ExprContext). done d s m) q

  pub arith_kept : const_fold o e₁ e₂ ≡ None → code_arith o e₁ e₂ s m ≡ emit_arith o e₁ e₂ s m
  unfolding code_arith
  arith_kept h = ap (λ (f : Fold). unless_folded f e₁ (emit_arith o e₁ e₂) s m) h

pub arith_word_is : (o : Arith) (b c : ExprContext) (s : State) (m : Buffers) {t : State} {w : OpCode} {x y : ℕ} {r : Result ExprContext} → free_both b c s m ≡ done tt t m → arith_op o ≡ w → rk b ≡ x → rk c ≡ y →
    relocable w x y b t m ≡ r → arith_of o b c s m ≡ r
unfolding and_then
arith_word_is o b c s m {t} {w} {x} {y} h i j l q =
    ap (λ (z : Result (Unit {0})). and_then z (λ _. relocable (arith_op o) (rk b) (rk c) b)) h
    ∙ ap (λ (z : OpCode). relocable z (rk b) (rk c) b t m) i
    ∙ ap (λ (z : ℕ). relocable w z (rk c) b t m) j
    ∙ ap (λ (z : ℕ). relocable w x z b t m) l
    ∙ q

module _ (o : OpCode) (e : ExprContext) (s : State) (m : Buffers) where
  pub unary_done : {d : ExprContext} {t : State} {k : Buffers} → exp2anyreg e s m ≡ done d t k → code_unary o e s m ≡ unary o d t k
  unfolding code_unary and_then
  unary_done h = simp (code_unary, h)

  pub unary_refused : {r : Refusal} {k : Buffers} → exp2anyreg e s m ≡ refused r k → code_unary o e s m ≡ refused r k
  unfolding code_unary and_then
  unary_refused h = simp (code_unary, h)

module _ (e₁ e₂ : ExprContext) (s : State) (m : Buffers) where
  pub concat_word_is : {t u : State} {r : Result ExprContext} → free_expr e₂ s m ≡ done tt t m → free_expr e₁ t m ≡ done tt u m → relocable op.Concat e₁.info e₂.info e₁ u m ≡ r → concat_word e₁ e₂ s m ≡ r
  unfolding and_then
  concat_word_is h i q = simp (h, i, q)

  pub concat_left_done : {b : ExprContext} {t : State} {k : Buffers} → exp2anyreg e₁ s m ≡ done b t k → concat_left e₁ e₂ s m ≡ concat_word b e₂ t k
  unfolding and_then
  concat_left_done h = simp h

  pub concat_left_refused : {r : Refusal} {k : Buffers} → exp2anyreg e₁ s m ≡ refused r k → concat_left e₁ e₂ s m ≡ refused r k
  unfolding and_then
  concat_left_refused h = simp h

  pub concat_done : {d : ExprContext} {t : State} {k : Buffers} → exp2nextreg e₂ s m ≡ done d t k → code_concat e₁ e₂ s m ≡ concat_left e₁ d t k
  unfolding code_concat and_then
  concat_done h = simp (code_concat, h)

  pub concat_refused : {r : Refusal} {k : Buffers} → exp2nextreg e₂ s m ≡ refused r k → code_concat e₁ e₂ s m ≡ refused r k
  unfolding code_concat and_then
  concat_refused h = simp (code_concat, h)

-- ---- comparisons

module _ (e : ExprContext) (s : State) (cs ls ks vs p : List ℕ) where
  abbrev listed : Found
  listed = find (holds p [] (val.Num e.nval e.bits)) s.table.count ks vs

  pub far_is : {f : Found} {b : Bool} → is_numeral e ≡ true → listed ≡ f → is_far f s.table.count ≡ b → far_numeral e s (bufs cs ls ks vs p) ≡ done b s (bufs cs ls ks vs p)
  unfolding far_numeral
  far_is h i q =
      ap (λ (b : Bool). done (b && is_far listed s.table.count) s (bufs cs ls ks vs p)) h
      ∙ ap (λ (f : Found). done (is_far f s.table.count) s (bufs cs ls ks vs p)) i
      ∙ ap (λ (b : Bool). done b s (bufs cs ls ks vs p)) q

  pub far_not : is_numeral e ≡ false → far_numeral e s (bufs cs ls ks vs p) ≡ done false s (bufs cs ls ks vs p)
  unfolding far_numeral
  far_not h = ap (λ (b : Bool). done (b && is_far listed s.table.count) s (bufs cs ls ks vs p)) h

regroup : (x : Result ℕ) (f : Step ℕ) (g : ℕ → Step ExprContext) → and_then x (λ _ (a : State) (k : Buffers). and_then (f a k) g) ≡ and_then (and_then x (λ _. f)) g
unfolding and_then
regroup (done a s m) f g = refl
regroup (refused r m) f g = refl

module _ (o : OpCode) (cond swapped : Bool) where
  abbrev word_of : ExprContext → ExprContext → Step ℕ
  word_of b c = emit_abc o (bit cond) (either swapped (rk b) (rk c)) (either swapped (rk c) (rk b))

  freed_first : (b c : ExprContext) (s : State) (m : Buffers) {t : State} → free_both b c s m ≡ done tt t m →
      emit_comp o cond swapped b c s m ≡ and_then (tested o (bit cond) (either swapped (rk b) (rk c)) (either swapped (rk c) (rk b)) t m) (jump_of b)
  unfolding emit_comp and_then
  freed_first b c s m {t} h =
      ap (λ (z : Result (Unit {0})). and_then z (λ _ (a : State) (k : Buffers). and_then (word_of b c a k) (λ _ (a₁ : State) (k₁ : Buffers). and_then (emit_jump a₁ k₁) (jump_of b)))) h
      ∙ regroup (word_of b c t m) emit_jump (jump_of b)

  -- the comparison's word, its jump, and its descriptor
  pub comp_is : (b c : ExprContext) (s : State) (m : Buffers) {t : State} {v x y i j : ℕ} {g : Result ℕ} {r : Result ExprContext} → free_both b c s m ≡ done tt t m → rk b ≡ x → rk c ≡ y → bit cond ≡ v →
      either swapped x y ≡ i → either swapped y x ≡ j → tested o v i j t m ≡ g → and_then g (jump_of b) ≡ r → emit_comp o cond swapped b c s m ≡ r
  comp_is b c s m {t} {v} {x} {y} {i} {j} h p q l a z w n =
      freed_first b c s m h
      ∙ ap (λ (k : ℕ). and_then (tested o (bit cond) (either swapped k (rk c)) (either swapped (rk c) k) t m) (jump_of b)) p
      ∙ ap (λ (k : ℕ). and_then (tested o (bit cond) (either swapped x k) (either swapped k x) t m) (jump_of b)) q
      ∙ ap (λ (k : ℕ). and_then (tested o k (either swapped x y) (either swapped y x) t m) (jump_of b)) l
      ∙ ap (λ (k : ℕ). and_then (tested o v k (either swapped y x) t m) (jump_of b)) a
      ∙ ap (λ (k : ℕ). and_then (tested o v i k t m) (jump_of b)) z
      ∙ ap (λ (k : Result ℕ). and_then k (jump_of b)) w
      ∙ n

  module _ (far : Bool) (x y : ExprContext) (s : State) (m : Buffers) where
    pub second_done : {z l r : ExprContext} {t : State} {k : Buffers} {v : Result ExprContext} → exp2rk y s m ≡ done z t k → chosen far x z ≡ l → chosen far z x ≡ r → emit_comp o cond swapped l r t k ≡ v →
        comp_second o cond swapped far x y s m ≡ v
    second_done {z} {l} {r} {t} {k} h i j n =
        then_done (λ (d : ExprContext). emit_comp o cond swapped (chosen far x d) (chosen far d x)) h
        ∙ ap (λ (d : ExprContext). emit_comp o cond swapped d (chosen far z x) t k) i
        ∙ ap (λ (d : ExprContext). emit_comp o cond swapped l d t k) j
        ∙ n

    pub second_refused : {r : Refusal} {k : Buffers} → exp2rk y s m ≡ refused r k → comp_second o cond swapped far x y s m ≡ refused r k
    second_refused = then_refused (λ (d : ExprContext). emit_comp o cond swapped (chosen far x d) (chosen far d x))

  module _ (e₁ e₂ : ExprContext) (s : State) (m : Buffers) where
    -- a far numeral goes second
    comp_of : (far : Bool) → compare_operands far e₁ e₂ (emit_comp o cond swapped) s m ≡ and_then (exp2rk (chosen far e₁ e₂) s m) (λ (x : ExprContext). comp_second o cond swapped far x (chosen far e₂ e₁))
    unfolding compare_operands
    comp_of true = refl
    comp_of false = refl

    module _ {far : Bool} {x y : ExprContext} (f : far_numeral e₁ s m ≡ done far s m) (p : chosen far e₁ e₂ ≡ x) (q : chosen far e₂ e₁ ≡ y) where
      code_comp_is : code_comp o cond swapped e₁ e₂ s m ≡ and_then (exp2rk x s m) (λ (a : ExprContext). comp_second o cond swapped far a y)
      unfolding code_comp
      code_comp_is =
          then_done (λ (b : Bool). compare_operands b e₁ e₂ (emit_comp o cond swapped)) f
          ∙ comp_of far
          ∙ ap (λ (z : ExprContext). and_then (exp2rk z s m) (λ (a : ExprContext). comp_second o cond swapped far a (chosen far e₂ e₁))) p
          ∙ ap (λ (z : ExprContext). and_then (exp2rk x s m) (λ (a : ExprContext). comp_second o cond swapped far a z)) q

      pub comp_done : {a : ExprContext} {t : State} {k : Buffers} → exp2rk x s m ≡ done a t k → code_comp o cond swapped e₁ e₂ s m ≡ comp_second o cond swapped far a y t k
      comp_done h = code_comp_is ∙ then_done (λ (a : ExprContext). comp_second o cond swapped far a y) h

      pub comp_refused : {r : Refusal} {k : Buffers} → exp2rk x s m ≡ refused r k → code_comp o cond swapped e₁ e₂ s m ≡ refused r k
      comp_refused h = code_comp_is ∙ then_refused (λ (a : ExprContext). comp_second o cond swapped far a y) h

-- ---- before and after the right operand

without_jumps : (a b : Bool) → (not a && b) ≡ true → (a ≡ false) × (b ≡ true)
without_jumps true b h = absurd (false≢true h)
without_jumps false b h = (refl, h)

module _ (e : ExprContext) (s : State) (m : Buffers) where
  -- what is in a register without jumps is an operand
  pub still_operand : (not (has_jumps e) && is_kind NonReloc e) ≡ true → exp2rk e s m ≡ done e s m
  still_operand h = let both = without_jumps (has_jumps e) (is_kind NonReloc e) h in rk_stays e s m both.1 both.0

  pub operand_waits : is_numeral e ≡ true → operand e s m ≡ done e s m
  unfolding operand
  operand_waits h = ap (λ (b : Bool). branch b (λ (a : State) (k : Buffers). done e a k) (exp2rk e) s m) h

  pub operand_goes : is_numeral e ≡ false → operand e s m ≡ exp2rk e s m
  unfolding operand
  operand_goes h = ap (λ (b : Bool). branch b (λ (a : State) (k : Buffers). done e a k) (exp2rk e) s m) h

-- by what an operator is to its operands
abbrev pub before : Operation → ExprContext → Step ExprContext
before And e = goiftrue e
before Or e = goiffalse e
before Concat e = exp2nextreg e
before (Arithmetic o) e = operand e
before (Comparison o cond swapped) e = operand e

pub before_is : (o : BinOp) (e : ExprContext) (s : State) (m : Buffers) {f : Operation} → operation_of o ≡ f → before_right o e s m ≡ before f e s m
unfolding before_right
before_is o e s m q = go o ∙ ap (λ (f : Operation). before f e s m) q
  where
    go : (o : BinOp) → before_right o e s m ≡ before (operation_of o) e s m
    go bin.Add = refl
    go bin.Sub = refl
    go bin.Mul = refl
    go bin.Div = refl
    go bin.Mod = refl
    go bin.Pow = refl
    go bin.Concat = refl
    go bin.Lt = refl
    go bin.Le = refl
    go bin.Gt = refl
    go bin.Ge = refl
    go bin.Eq = refl
    go bin.Ne = refl
    go bin.And = refl
    go bin.Or = refl

abbrev pub after : Operation → ExprContext → ExprContext → Step ExprContext
after And e₁ e₂ = code_and e₁ e₂
after Or e₁ e₂ = code_or e₁ e₂
after Concat e₁ e₂ = join_concat e₁ e₂
after (Arithmetic o) e₁ e₂ = code_arith o e₁ e₂
after (Comparison o cond swapped) e₁ e₂ = code_comp o cond swapped e₁ e₂

pub after_is : (o : BinOp) (e₁ e₂ : ExprContext) (s : State) (m : Buffers) {f : Operation} → operation_of o ≡ f → after_right o e₁ e₂ s m ≡ after f e₁ e₂ s m
unfolding after_right
after_is o e₁ e₂ s m q = go o ∙ ap (λ (f : Operation). after f e₁ e₂ s m) q
  where
    go : (o : BinOp) → after_right o e₁ e₂ s m ≡ after (operation_of o) e₁ e₂ s m
    go bin.Add = refl
    go bin.Sub = refl
    go bin.Mul = refl
    go bin.Div = refl
    go bin.Mod = refl
    go bin.Pow = refl
    go bin.Concat = refl
    go bin.Lt = refl
    go bin.Le = refl
    go bin.Gt = refl
    go bin.Ge = refl
    go bin.Eq = refl
    go bin.Ne = refl
    go bin.And = refl
    go bin.Or = refl

module _ (e₁ e₂ : ExprContext) (s : State) (m : Buffers) where
  module _ {d : ExprContext} {t : State} {k : Buffers} (h : discharge_vars e₂ s m ≡ done d t k) {n : ℕ} {o : Buffers} {z : ExprContext} where
    pub and_done : concat d.f e₁.f t k ≡ done n t o → with_jumps d.t n d ≡ z → code_and e₁ e₂ s m ≡ done z t o
    unfolding code_and and_then
    and_done i q = simp (code_and, h, i, q)

    pub or_done : concat d.t e₁.t t k ≡ done n t o → with_jumps n d.f d ≡ z → code_or e₁ e₂ s m ≡ done z t o
    unfolding code_or and_then
    or_done i q = simp (code_or, h, i, q)

  module _ {r : Refusal} {k : Buffers} (h : discharge_vars e₂ s m ≡ refused r k) where
    pub and_refused : code_and e₁ e₂ s m ≡ refused r k
    unfolding code_and and_then
    and_refused = simp (code_and, h)

    pub or_refused : code_or e₁ e₂ s m ≡ refused r k
    unfolding code_or and_then
    or_refused = simp (code_or, h)

  pub join_done : {d : ExprContext} {t : State} {k : Buffers} → exp2val e₂ s m ≡ done d t k → join_concat e₁ e₂ s m ≡ joined_to e₁ d t k
  unfolding join_concat and_then
  join_done h = ap (λ (x : Result ExprContext). and_then x (joined_to e₁)) h

  pub join_refused : {r : Refusal} {k : Buffers} → exp2val e₂ s m ≡ refused r k → join_concat e₁ e₂ s m ≡ refused r k
  unfolding join_concat and_then
  join_refused h = ap (λ (x : Result ExprContext). and_then x (joined_to e₁)) h

module _ (e₁ e₂ : ExprContext) (s : State) (code ls ks vs p : List ℕ) where
  abbrev is_concat : Bool
  is_concat = is_kind Relocable e₂ && is_op op.Concat (word code e₂.info)

  abbrev lengthened : Step ExprContext
  lengthened a k =
      and_then
      (free_expr e₁ a k)
      (λ _ (b : State) (o : Buffers). done (with_kind Relocable e₂.info e₁) b (bufs (set o.code e₂.info (set_b_of (word o.code e₂.info) e₁.info)) o.lines o.kinds o.values o.pool))

  abbrev next : Step ExprContext
  next a k = and_then (exp2nextreg e₂ a k) (λ (d : ExprContext). code_concat e₁ d)

  abbrev mem : Buffers
  mem = bufs code ls ks vs p

  pub joined_longer : {t : State} {d : ExprContext} {after : List ℕ} → is_concat ≡ true → free_expr e₁ s mem ≡ done tt t mem →
      set code e₂.info (set_b_of (word code e₂.info) e₁.info) ≡ after → with_kind Relocable e₂.info e₁ ≡ d → joined_to e₁ e₂ s mem ≡ done d t (bufs after ls ks vs p)
  unfolding and_then
  joined_longer h i j q = ap (λ (b : Bool). branch b lengthened next s mem) h ∙ simp (i, j, q)

  module _ (h : is_concat ≡ false) where
    joined_is : joined_to e₁ e₂ s mem ≡ next s mem
    unfolding and_then
    joined_is = ap (λ (b : Bool). branch b lengthened next s mem) h

    pub joined_next : {d : ExprContext} {t : State} {k : Buffers} → exp2nextreg e₂ s mem ≡ done d t k → joined_to e₁ e₂ s mem ≡ code_concat e₁ d t k
    unfolding and_then
    joined_next i = joined_is ∙ simp i

    pub joined_refused : {r : Refusal} {k : Buffers} → exp2nextreg e₂ s mem ≡ refused r k → joined_to e₁ e₂ s mem ≡ refused r k
    unfolding and_then
    joined_refused i = joined_is ∙ simp i

-- ---- unary operators

module _ (e : ExprContext) (s : State) (m : Buffers) where
  pub unop_not : (o : UnOp) → is_not o ≡ true → code_unop o e s m ≡ code_not e s m
  unfolding code_unop
  unop_not un.Neg h = absurd (false≢true h)
  unop_not un.Not h = refl
  unop_not un.Len h = absurd (false≢true h)

  unop_is : (o : UnOp) {f : Fold} → is_not o ≡ false → fold_unary o e ≡ f → code_unop o e s m ≡ unless_folded f e (code_unary (unary_op o) e) s m
  unfolding code_unop
  unop_is un.Neg h q = ap (λ (f : Fold). unless_folded f e (code_unary op.Unm e) s m) q
  unop_is un.Not h q = absurd (true≢false h)
  unop_is un.Len h q = ap (λ (f : Fold). unless_folded f e (code_unary op.Len e) s m) q

  pub unop_folded : (o : UnOp) {n : Numeral} {d : ExprContext} → is_not o ≡ false → fold_unary o e ≡ Some n → with_number n e ≡ d → code_unop o e s m ≡ done d s m
  unop_folded o h q w = unop_is o h q ∙ ap (λ (d : ExprContext). done d s m) w

  pub unop_kept : (o : UnOp) {k : OpCode} → is_not o ≡ false → fold_unary o e ≡ None → unary_op o ≡ k → code_unop o e s m ≡ code_unary k e s m
  unop_kept o h q w = unop_is o h q ∙ ap (λ (k : OpCode). code_unary k e s m) w
