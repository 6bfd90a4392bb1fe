-- Every expression of a chunk is good, by induction on the trees; all formulas after each other.
-- What rests on something that a must-fail edit breaks stands in proofs/Faithful.antt.
use Prim.Native.Nat.{ℕ, suc, ◌+◌, ◌≤◌, ◌<◌}
use Rattle.std.specs.Prelude.{Bool, ◌≡◌}
use Rattle.std.proofs.Math.Bool.{true, false}
use Rattle.std.proofs.Math.Path.{refl, ap, sym}
use Rattle.std.proofs.Common.{◌∙◌, zero-add}
use mathlib.Core.List.{List, [], ◌∷◌}
use Rattle.std.proofs.Math.Option.{Option, some, none}
use native.Mathlib.Omega.{arith as nat}
use Rattle.constants.specs.Entry.{Constant, nil as knil, truth as ktruth, number as knumber, text as ktext}
use Rattle.model.specs.Values.{Value, text, value_of, is_true, global_read, index_read, concatenation, Taken, taken, ask, compute}
use Rattle.model.specs.Running.{same as agrees}
use Rattle.labelled.specs.Machine.{Hist, Regs, Setting, then, first_value, list_of, pick, span, at}
use Rattle.labelled.specs.Emission.{St, add_k, flush}
use Rattle.labelled.specs.Discharge.{kc, kd, kl, kg, kva, Pair, Par4, fresh, dv, freed, nextreg, via_reg, anyreg, as_rk, exp2rk}
use Rattle.labelled.specs.Conditions.{labelled_code_not}
use Rattle.labelled.specs.Operators.{numeral, Form, logical, joining, arithmetic, comparing, indexing, form_of, indexed}
use Rattle.labelled.specs.Expressions.{text_c, labelled_code_self, resolved, comp_leaf, comp_one, callee, before}
use Rattle.cursor.specs.Fields.{bytes_of}
use Rattle.cursor.specs.declared.Text.{Text}
use Rattle.ast.specs.declared.BinOp.TheVariants as bin
use Rattle.ast.specs.declared.UnOp.TheVariants as un
use Rattle.ast.specs.declared.Leaf.{Leaf}
use Rattle.ast.specs.declared.Leaf.TheVariants as leaf
use Rattle.ast.specs.declared.One.{One}
use Rattle.ast.specs.declared.One.TheVariants as one
use Rattle.ast.specs.declared.Two.{Two}
use Rattle.ast.specs.declared.Two.TheVariants as two_of
use Rattle.ast.specs.declared.Many.{Many}
use Rattle.ast.specs.declared.Many.TheVariants as many
use Rattle.chunk.specs.Ast.{Expr, Exprs, none as no_more, more}
use Rattle.model.specs.Expressions.{search_local}
use Rattle.model.specs.Reading.{local_named, local_or_global, read_leaf, read_one, read_binary, read_two, read_many, read_expr, read_formulas}
use Rattle.labelled.specs.Firm.{Agree, agree_trans, C, Z, flush_keeps}
use Rattle.labelled.specs.Loads.{finish4, Done}
use Rattle.labelled.specs.Settling.{next_free, next_nxt}
use Rattle.labelled.specs.Branching.{not_a, agrees_with_true, agrees_with_false}
use Rattle.labelled.specs.Owning.{freed_own, any_low}
use Rattle.labelled.specs.Good.{finish_l, Good, Good4, dv_good, lift_good, mk_good, flush_pass, flush_is, plain_good}
use Rattle.labelled.specs.Operands.{next_op, any_op, rk_op, By, two, idx_good}
use Rattle.labelled.specs.Binary.{not_good, log_a, left_op, cmp_s, len_good, neg_good}
use Rattle.labelled.specs.Calls.{Dargs, self_pass, self_keeps, meth_at, seq_good, call_d, call_eq, cons_l, more_eq, meth_good}

abbrev pub count : Exprs → ℕ
count no_more = 0
count (more a es) = suc (count es)

module _ (Γ : Setting) where
  -- ---- nodes
  -- a constant
  con_good : (c : Constant) (s : St) → Good Γ (λ R h. taken (value_of c ∷ []) h) s.free s (fresh (kd (kc c)) s.free s)
  unfolding finish_l finish4
  con_good c s = plain_good Γ _ (kd (kc c)) s refl (λ R h ag. refl)

  text_good : (t : List ℕ) (s : St) → Good Γ (λ R h. taken (text t ∷ []) h) s.free s (text_c t s)
  unfolding finish_l finish4
  text_good t s = mk_good Γ _ (kd (kc (ktext t))) s.free s.free s (add_k (ktext t) s) (omega nat) refl (λ ℓ b R h l0 ln e. e) (λ R h ag e. record { rg = R; hs = h; is = e; kept = λ k z. refl; got = refl })

  global_good : (t : List ℕ) (s : St) → Good Γ (λ R h. list_of (ask Γ.world global_read (text t ∷ []) h)) s.free s (fresh (kg t) s.free (add_k (ktext t) s))
  unfolding finish_l
  global_good t s = mk_good Γ _ (kg t) s.free s.free s (add_k (ktext t) s) (omega nat) refl (λ ℓ b R h l0 ln e. e) (λ R h ag e. record { rg = R; hs = h; is = e; kept = λ k z. refl; got = refl })

  local_good : (r : ℕ) (s : St) → r < Γ.active → Good Γ (λ R h. taken (Γ.start r ∷ []) h) s.free s (fresh (kl r) s.free s)
  unfolding finish_l
  local_good r s w = plain_good Γ _ (kl r) s (refl, w) (λ R h ag. rw (ag r w) refl)

  vararg_good : (s : St) → Good Γ (λ R h. taken Γ.varargs h) s.free s (fresh kva s.free (flush s))
  unfolding finish_l
  vararg_good s = mk_good Γ _ kva s.free s.free s (flush s) (omega (nat, (flush_keeps s).1)) refl (flush_pass Γ s s (λ ℓ b R h l0 ln e. e))
      (λ R h ag e. record { rg = R; hs = h; is = flush_is Γ s R h e; kept = λ k z. refl; got = refl })

  -- an index read, the key lowered by a function that is good
  pub index_good : (A : Hist → Taken Value) (B : Hist → Taken (List Value)) (s : St) (p : Par4) (q : Pair) → 1 ≤ s.nxt → Γ.active ≤ s.free → Good4 Γ (By A) s.free s p → Good Γ (λ R h. B h) (anyreg p).st.free (anyreg p).st q →
      Good Γ (λ R h. list_of (two A (λ h₁. first_value (B h₁)) (λ v u h₁. ask Γ.world index_read (v ∷ u ∷ []) h₁) h)) s.free s (indexed s.free (anyreg p).rgn (exp2rk (dv q)))
  index_good A B s p q l na g₁ g₂ =
      let o₁ = any_op Γ (By A) s.free s p l na g₁ in
      idx_good Γ A (λ h. first_value (B h)) s (anyreg p).rgn (anyreg p).st (exp2rk (dv q)) na o₁
      (rk_op Γ (λ R h. first_value (B h)) (anyreg p).st.free (anyreg p).st (dv q) (omega (nat, o₁.nx)) (omega (nat, o₁.fr)) (dv_good Γ (λ R h. B h) (anyreg p).st.free (anyreg p).st q g₂))

  -- ---- two operands, by form
  abbrev pub read_form : Form → (Hist → Taken Value) → (Hist → Taken Value) → Hist → Taken Value
  read_form (logical c) A B h = log_a c B (A h)
  read_form joining A B h = two A B (λ v u h₁. ask Γ.world concatenation (v ∷ u ∷ []) h₁) h
  read_form (arithmetic o) A B h = two A B (compute Γ.world o) h
  read_form (comparing o c w) A B h = two A B (cmp_s Γ w o c) h
  read_form indexing A B h = two A B (λ v u h₁. ask Γ.world index_read (v ∷ u ∷ []) h₁) h

  -- what lowers a right operand from any state
  abbrev Right : (Hist → Taken (List Value)) → (St → Pair) → Type 0
  Right B right = (s : St) → 1 ≤ s.nxt → Γ.active ≤ s.free → Good Γ (λ R h. B h) s.free s (right s)

  module _ (A : Hist → Taken Value) (B : Hist → Taken (List Value)) (s : St) (p : Par4) (right : St → Pair) (l : 1 ≤ s.nxt) (na : Γ.active ≤ s.free) (g₁ : Good4 Γ (By A) s.free s p) (gr : Right B right) where
    abbrev B₁ : Hist → Taken Value
    B₁ h = first_value (B h)

    pub right4 : (s₂ : St) → 1 ≤ s₂.nxt → Γ.active ≤ s₂.free → Good4 Γ (By B₁) s₂.free s₂ (dv (right s₂))
    right4 s₂ l₂ n₂ = dv_good Γ (λ R h. B h) s₂.free s₂ (right s₂) (gr s₂ l₂ n₂)

    pub own₁ : freed p.de.k4 p.st.free ≡ s.free
    own₁ = freed_own Γ.active p.de.k4 s.free p.st.free g₁.own

  -- ---- THE THEOREM
  -- a local that is found stands in its register
  abbrev pub Finds : Option ℕ → Option Value → Type 0
  Finds none o = o ≡ none
  Finds (some r) o = (r < Γ.active) × (o ≡ some (Γ.start r))

  module _ (chunk : List ℕ) (names : List Text) (locals : List Value) (finds : (name : List ℕ) → Finds (search_local chunk name names 0) (local_named chunk name names locals)) where
    abbrev reads : Expr → Hist → Taken (List Value)
    reads a = read_expr Γ.world chunk names locals Γ.varargs a

    abbrev reads₁ : Expr → Hist → Taken Value
    reads₁ a h = first_value (reads a h)

    name_good : (t : Text) (i : Option ℕ) (o : Option Value) (s : St) → Finds i o → Good Γ (λ R h. list_of (local_or_global Γ.world chunk names locals Γ.varargs t o h)) s.free s (resolved chunk names (bytes_of chunk t) i s)
    name_good t none o s f = rw f (global_good (bytes_of chunk t) s)
    name_good t (some r) o s f = rw f.1 (local_good r s f.0)

    pub leaf_good : (l : Leaf) (s : St) → Good Γ (λ R h. read_leaf Γ.world chunk names locals Γ.varargs l h) s.free s (comp_leaf chunk names l s)
    unfolding comp_leaf read_leaf
    leaf_good leaf.Nil s = con_good knil s
    leaf_good leaf.True s = con_good (ktruth true) s
    leaf_good leaf.False s = con_good (ktruth false) s
    leaf_good (leaf.Number b) s = con_good (knumber b) s
    leaf_good (leaf.Str t) s = text_good (bytes_of chunk t) s
    leaf_good leaf.VarArg s = vararg_good s
    leaf_good (leaf.Name t) s = name_good t (search_local chunk (bytes_of chunk t) names 0) (local_named chunk (bytes_of chunk t) names locals) s (finds (bytes_of chunk t))

    pub one_good : (o : One) (A : Hist → Taken Value) (s : St) (p : Par4) → 1 ≤ s.nxt → Γ.active ≤ s.free → Good4 Γ (By A) s.free s p →
        Good Γ (λ R h. list_of (then (A h) (read_one Γ.world chunk names locals Γ.varargs o))) s.free s (comp_one chunk names o s.free p)
    unfolding comp_one read_one
    one_good (one.Unary un.Neg) A s p l na g = neg_good Γ A s (numeral p) p (left_op Γ (By A) s.free s p l na g) (any_op Γ (By A) s.free s p l na g)
    one_good (one.Unary un.Not) A s p l na g = lift_good Γ (λ R h. not_a (A h)) s.free s (labelled_code_not p) (not_good Γ (By A) s.free s p l g)
    one_good (one.Unary un.Len) A s p l na g = len_good Γ A s p (any_op Γ (By A) s.free s p l na g)
    one_good (one.Field t) A s p l na g = index_good A (λ h. taken (text (bytes_of chunk t) ∷ []) h) s p (text_c (bytes_of chunk t) (anyreg p).st) l na g (text_good (bytes_of chunk t) (anyreg p).st)
    one_good one.Paren A s p l na g = lift_good Γ (By A) s.free s p g

    pub form_reads : (t : Two) (A B : Hist → Taken Value) (h : Hist) → read_form (form_of t) A B h ≡ read_two Γ.world chunk names locals Γ.varargs t A B h
    unfolding read_two read_binary
    form_reads (two_of.Binary bin.And) A B h = go (is_true (A h).gives)
      where
        go : (t : Bool) → pick (agrees t false) (taken (A h).gives (A h).steps) (B (A h).steps) ≡ (elim t as (λ x. Hist → Taken Value) [ true ↦ B | false ↦ (λ h₁. taken (A h).gives h₁) ]) (A h).steps
        go true = refl
        go false = refl
    form_reads (two_of.Binary bin.Or) A B h = go (is_true (A h).gives)
      where
        go : (t : Bool) → pick (agrees t true) (taken (A h).gives (A h).steps) (B (A h).steps) ≡ (elim t as (λ x. Hist → Taken Value) [ true ↦ (λ h₁. taken (A h).gives h₁) | false ↦ B ]) (A h).steps
        go true = refl
        go false = refl
    form_reads (two_of.Binary bin.Add) A B h = refl
    form_reads (two_of.Binary bin.Sub) A B h = refl
    form_reads (two_of.Binary bin.Mul) A B h = refl
    form_reads (two_of.Binary bin.Div) A B h = refl
    form_reads (two_of.Binary bin.Mod) A B h = refl
    form_reads (two_of.Binary bin.Pow) A B h = refl
    form_reads (two_of.Binary bin.Concat) A B h = refl
    form_reads (two_of.Binary bin.Eq) A B h = rw agrees_with_true refl
    form_reads (two_of.Binary bin.Ne) A B h = rw agrees_with_false refl
    form_reads (two_of.Binary bin.Lt) A B h = rw agrees_with_true refl
    form_reads (two_of.Binary bin.Le) A B h = rw agrees_with_true refl
    form_reads (two_of.Binary bin.Gt) A B h = rw agrees_with_true refl
    form_reads (two_of.Binary bin.Ge) A B h = rw agrees_with_true refl
    form_reads two_of.Index A B h = refl

    -- arguments behind the function, or behind the method and its object
    pub many_good : (m : Many) (A : Hist → Taken Value) (L : Hist → Taken (List Value)) (s : St) (p : Par4) (args : ℕ → ℕ → St → Pair) → 1 ≤ s.nxt → Γ.active ≤ s.free → Good4 Γ (By A) s.free s p →
        ((b n : ℕ) (s₂ : St) → 1 ≤ s₂.nxt → Γ.active ≤ b → s₂.free ≡ suc (n + b) → Good Γ (Dargs Γ L b n) b s₂ (args b n s₂)) →
        Good Γ (λ R h. read_many Γ.world chunk names locals Γ.varargs m A L h) s.free s (args s.free (before chunk names m) (callee chunk names m s.free p))
    unfolding callee read_many
    many_good many.Call A L s p args l na g ga =
        let fo = freed_own Γ.active p.de.k4 s.free p.st.free g.own in
        let o₁ = next_op Γ (By A) s.free s p l na g in
        seq_good Γ (By A) (Dargs Γ L s.free 0) (λ R h. call_d Γ A L h) s.free s.free s (as_rk (via_reg p)) (args s.free 0 (nextreg p)) na (omega nat) o₁
        (ga s.free 0 (nextreg p) (omega (nat, o₁.nx)) na (next_free p ∙ ap suc (fo ∙ sym (zero-add s.free))))
        (λ R R₁ h h₁ ag e. call_eq Γ A L s.free R₁ h h₁ (ap (λ k. taken (R₁ k) h₁) (sym fo) ∙ e))
    many_good (many.MethodCall t) A L s p args l na g ga =
        let x = anyreg p in
        let lr = any_low Γ.active p s.free na g.own in
        let o₁ = any_op Γ (By A) s.free s p l na g in
        let s₂ = labelled_code_self (bytes_of chunk t) x s.free in
        let sk = self_keeps (bytes_of chunk t) x s.free in
        meth_good Γ A (text (bytes_of chunk t)) L s s₂ (args s.free 1 s₂) na (omega (nat, o₁.nx, sk.1)) (λ ℓ b R h l0 ln e. self_pass Γ (bytes_of chunk t) x s.free ℓ b R h (o₁.pass ℓ b R h l0 ln e))
        (λ R h ag e. meth_at Γ A (bytes_of chunk t) s x lr o₁ R h ag e) (ga s.free 1 s₂ (omega (nat, o₁.nx, sk.1)) na (let e : 2 + s.free ≡ suc (1 + s.free) = omega nat in sk.0 ∙ e))

    -- an argument, and those behind it
    pub next_arg : (a : Hist → Taken (List Value)) (L : Hist → Taken (List Value)) (b n : ℕ) (s : St) (q r : Pair) → 1 ≤ s.nxt → Γ.active ≤ b → s.free ≡ suc (n + b) → Good Γ (λ R h. a h) s.free s q →
        Good Γ (Dargs Γ L b (suc n)) b (nextreg (dv q)) r → Good Γ (Dargs Γ (cons_l a L) b n) b s r
    next_arg a L b n s q r l na fs g gr =
        let n₁ : Γ.active ≤ s.free = omega nat in
        let g₁ = dv_good Γ (λ R h. a h) s.free s q g in
        let fo = freed_own Γ.active (dv q).de.k4 s.free (dv q).st.free g₁.own in
        let o₁ = next_op Γ (λ R h. first_value (a h)) s.free s (dv q) l n₁ g₁ in
        seq_good Γ (λ R h. first_value (a h)) (Dargs Γ L b (suc n)) (Dargs Γ (cons_l a L) b n) b s.free s (as_rk (via_reg (dv q))) r na (omega nat) o₁ gr
        (λ R R₁ h h₁ ag e. more_eq Γ a L b n R R₁ h h₁ (λ k lt. ag k (omega nat)) (ap (λ k. taken (R₁ k) h₁) (sym (fo ∙ fs)) ∙ e))

    pub next_arg_l : (a : Hist → Taken (List Value)) (b n : ℕ) (s : St) (q : Pair) → 1 ≤ s.nxt → Γ.active ≤ b → s.free ≡ suc (n + b) → Good Γ (λ R h. a h) s.free s q → (1 ≤ (nextreg (dv q)).nxt) × ((nextreg (dv q)).free ≡ suc (suc n + b))
    next_arg_l a b n s q l na fs g =
        let g₁ = dv_good Γ (λ R h. a h) s.free s q g in
        let fo = freed_own Γ.active (dv q).de.k4 s.free (dv q).st.free g₁.own in
        let e : suc (suc (n + b)) ≡ suc (suc n + b) = omega nat in
        (omega (nat, next_nxt (dv q)), next_free (dv q) ∙ ap suc (fo ∙ fs) ∙ e)

    -- ---- all formulas

    abbrev reads_all : Exprs → Hist → Taken (List Value)
    reads_all es = read_formulas Γ.world chunk names locals Γ.varargs es

    -- the run of the code ends at its end, with the values from register f on, and what is below f is kept
    pub record Ran (es : Exprs) (f : ℕ) (s : St) (R : Regs) (h : Hist) : Type 0 where
      pub rg : Regs
      pub hs : Hist
      pub is : C Γ s ≡ at (Z s) rg hs
      pub kept : Agree f R rg
      pub got : taken (span (count es) f rg) hs ≡ reads_all es h

    cons_eq : (A : Taken Value) (v : Value) (h₁ h₂ : Hist) (vs : List Value) (L : Hist → Taken (List Value)) → taken v h₁ ≡ A → taken vs h₂ ≡ L h₁ → taken (v ∷ vs) h₂ ≡ then A (λ v h₁. then (L h₁) λ vs h₂. taken (v ∷ vs) h₂)
    cons_eq A v h₁ h₂ vs L p q = rw (← p) (rw (← q) refl)

    pub ran_cons : (a : Expr) (es : Exprs) (f : ℕ) (s₁ s₂ : St) (R : Regs) (h : Hist) (d : Done Γ s₁ f f R (reads₁ a h)) → Ran es (suc f) s₂ d.rg d.hs → Ran (more a es) f s₂ R h
    unfolding read_formulas
    ran_cons a es f s₁ s₂ R h d q = record {
      rg = q.rg;
      hs = q.hs;
      is = q.is;
      kept = agree_trans f (suc f) R d.rg q.rg (omega nat) d.kept q.kept;
      got = cons_eq (reads₁ a h) (q.rg f) d.hs q.hs (span (count es) (suc f) q.rg) (reads_all es) (ap (λ v. taken v d.hs) (q.kept f (omega nat)) ∙ d.got) q.got;
    }
