-- Expressions over the chunk's bytes: `compile_expr` and `compile_funcargs` stand for `comp` and `comp_args` of the trees that the bytes are parsed to. By induction on the nestings that are left, and on the arguments.
use Prim.Native.Nat.{ℕ, zero, suc, ◌+◌, ◌-◌, ◌≤◌}
use Rattle.std.proofs.Math.Path.{◌≡◌, refl, ap, subst}
use Rattle.std.proofs.Common.{sym, ◌∙◌}
use Rattle.std.specs.Prelude.{List, length, Ok}
use native.Mathlib.Omega.{arith}
use Rattle.cursor.specs.Fields.{bytes_of}
use Rattle.cursor.specs.declared.Text.{Text}
use Rattle.nodes.specs.Nodes.{node_at}
use Rattle.ast.specs.declared.UnOp.TheVariants as un
use Rattle.ast.specs.declared.One.{One}
use Rattle.ast.specs.declared.One.TheVariants as one
use Rattle.ast.specs.declared.Leaf.{Leaf}
use Rattle.ast.specs.declared.Two.{Two}
use Rattle.ast.specs.declared.Many.{Many}
use Rattle.ast.specs.declared.Many.TheVariants as many
use Rattle.ast.specs.declared.Head.{Head}
use Rattle.ast.specs.declared.Head.TheVariants as head
use Rattle.ast.specs.declared.Node.{Node}
use Rattle.chunk.specs.Ast.{Span, Expr, leaf as leaf_node, one as one_node, two as two_node, many as many_node, Exprs, none as no_more, more}
use Rattle.chunk.specs.Headers.{names_at}
use Rattle.chunk.specs.Form.{Parsed, parsed, exprs_at, rest, expr_at, names_of, max_nesting}
use Rattle.chunk.specs.declared.header.Header.{Header}
use Rattle.model.specs.declared.ExprContext.{ExprContext}
use Rattle.model.specs.declared.State.{State}
use Rattle.model.specs.Steps.{Buffers, Result, Step, and_then, ◌>>=◌, ◌>>◌, get}
use Rattle.model.specs.Emission.{with_place}
use Rattle.model.specs.Discharge.{exp2nextreg}
use Rattle.model.specs.Operators.{code_unop}
use Rattle.model.specs.Expressions.{compile_funcargs, leaf_expr, after_one, between, after_two, callee, compile_head, compile_expr}
use Rattle.model.specs.Claims.{Bytes}
use Rattle.labelled.specs.Code.{reg}
use Rattle.labelled.specs.Places.{listed_include}
use Rattle.labelled.specs.Emission.{St, add_k}
use Rattle.labelled.specs.Fresh.{On, any_on, next_on, dv_new, add_on, callee_on}
use Rattle.labelled.specs.Owning.{Own4, freed_own}
use Rattle.labelled.specs.Discharge.{kc, kd, Pair, Par4, RgS, dv, nextreg, anyreg}
use Rattle.constants.specs.Entry.{text}
use Rattle.labelled.specs.Expressions.{text_c, comp_one, callee as callee_l, before, comp, comp_args, labelled_code_self}
use Rattle.labelled.specs.Settling.{next_free}
use Rattle.threads.specs.Holding.{Ends, ends_then, ends_map}
use Rattle.threads.specs.Stepping.{hold_same}
use Rattle.simulation.specs.Sim.{Env, Sims, SimD, Sound}
use Rattle.simulation.specs.Steps.{marks_same}
use Rattle.simulation.specs.Discharging.{sim_dv, sound_dv}
use Rattle.simulation.specs.ToRegister.{sim_next}
use Rattle.simulation.specs.AnyRegister.{sim_any}
use Rattle.simulation.specs.Negating.{sim_not}
use Rattle.simulation.specs.Freeing.{Takes, any_takes, takes_more}
use Rattle.simulation.specs.Parts.{at_place, LowersExpr}
use Rattle.simulation.specs.Late.{sound_fresh}
use Rattle.simulation.specs.Unary.{sim_neg, sim_len}
use Rattle.simulation.specs.Chaining.{InF}
use Rattle.simulation.specs.Indexing.{sim_indexed}
use Rattle.simulation.specs.Calling.{sim_closed, sim_last}
use Rattle.simulation.specs.Texts.{ShortNode, ShortLeaf, ShortHead, ShortOne, ShortMany, short_node}
use Rattle.simulation.specs.Leaves.{text_listed, text_desc, sim_leaf}
use Rattle.simulation.specs.Methods.{sim_callee}
use Rattle.simulation.specs.Trees.{sound_comp}
use Rattle.simulation.specs.Pairing.{sim_two}
use Rattle.simulation.specs.Parsing.{invert, same_parsed, node_is, expr_is}

-- ---- another place of the chunk

sim_place : {Γ : Env} {s : State} {m : Buffers} {σ : St} (a l : ℕ) → Sims Γ s m σ → Sims (at_place Γ a l) (with_place a l s) m σ
sim_place {s = s} {m = m} {σ = σ} a l x = let h = x.sim in record {
  heads = x.heads;
  sim = record {
    holds = hold_same h.holds (with_place a l s) m refl refl refl;
    low = h.low;
    free = h.free;
    taken = h.taken;
    two = h.two;
    most = h.most;
    least = h.least;
    locals = h.locals;
    at = refl;
    line = refl;
    table = h.table;
    label = h.label;
    marks = marks_same h σ.code (with_place a l s) refl refl h.marks;
    others = h.others;
  };
}

module _ (chunk : List ℕ) (hd : Header) (names : List Text) (nm : names ≡ names_of (names_at chunk hd.locals hd.names)) where
  -- ---- one sub-expression

  sim_one : {Γ : Env} {s : State} {m : Buffers} {e : ExprContext} {f : ℕ} (o : One) (p : Pair) → ShortOne chunk o → Sound Γ f p → SimD Γ s m e p → Ends (after_one chunk hd o e s m) (λ e' s' m'. SimD Γ s' m' e' (comp_one chunk names o f (dv p)))
  unfolding after_one comp_one code_unop
  sim_one (one.Unary un.Neg) p short h d = sim_neg p h d
  sim_one (one.Unary un.Not) p short h d = sim_not p h d
  sim_one (one.Unary un.Len) p short h d = sim_len p h d
  sim_one one.Paren p short h d = ends_map (sim_dv p h d) (λ e' s' m' x. x.1.1)
  sim_one {Γ = Γ} {f = f} (one.Field t) p short h d = ends_then (sim_any p h d) (λ e₁ s₁ m₁ y. ends_then (text_listed chunk g.st on h.some y.now t short) (λ i s₂ m₂ q.
      sim_indexed e₁ f g.st.free g.rgn (text_c (bytes_of chunk t) g.st) h.locals y.info (rw q.1.0 y.below) y.trues y.falses takes key (text_desc chunk g.st on h.some y.now t i q.0 q.1.1)))
    where
      g : RgS
      g = anyreg (dv p)

      takes : Takes Γ.active f g.st.free (reg g.rgn)
      takes = any_takes Γ.active (dv p) f (sound_dv p h).own

      on : On Γ.n g.st
      on = any_on Γ.n h.some (dv p) (dv_new Γ.n h.some p h.new)

      key : Sound Γ g.st.free (text_c (bytes_of chunk t) g.st)
      key = sound_fresh (kd (kc (text (bytes_of chunk t)))) g.st.free g.st.free (add_k (text (bytes_of chunk t)) g.st) h.some (add_on Γ.n h.some (text (bytes_of chunk t)) g.st on) (omega (arith, h.locals, takes_more Γ.active f g.st.free (reg g.rgn) takes)) refl (listed_include (text (bytes_of chunk t)) g.st.tab)

  -- ---- arguments

  callee_free : (active f : ℕ) (k : Many) (q : Par4) → Own4 active f q.de.k4 q.st.free → (callee_l chunk names k f q).free ≡ suc (before chunk names k + f)
  unfolding callee_l labelled_code_self
  callee_free active f many.Call q o = next_free q ∙ ap suc (freed_own active q.de.k4 f q.st.free o ∙ omega arith)
  callee_free active f (many.MethodCall t) q o = omega arith

  -- sub-expressions are lowered by g and parsed by F
  module _ (g : Step ExprContext) (F : ℕ → ℕ → Parsed Expr) (lowers : (a : Expr) (at line at' line' : ℕ) → F at line ≡ parsed a at' line' → LowersExpr (length names) g (comp chunk names a) at line at' line') where
    -- the same tree and the same place
    same_args : {x : Result ExprContext} (Γ : Env) (b k : ℕ) (σ : St) (es es' : Exprs) (a a' l l' : ℕ) → es ≡ es' → a ≡ a' → l ≡ l' → Ends x (λ e s' m'. SimD (at_place Γ a l) s' m' e (comp_args chunk names es b k σ)) → Ends x (λ e s' m'. SimD (at_place Γ a' l') s' m' e (comp_args chunk names es' b k σ))
    same_args {x = x} Γ b k σ es es' a a' l l' p q r h = subst (λ z. Ends x (λ e s' m'. SimD (at_place Γ a' l') s' m' e (comp_args chunk names z b k σ))) p (subst (λ z. Ends x (λ e s' m'. SimD (at_place Γ a' z) s' m' e (comp_args chunk names es b k σ))) r (subst (λ z. Ends x (λ e s' m'. SimD (at_place Γ z l) s' m' e (comp_args chunk names es b k σ))) q h))

    args_at : (n : ℕ) (es : Exprs) (at line at' line' : ℕ) → exprs_at F n at line ≡ parsed es at' line' → (func : ExprContext) (line₀ k b : ℕ) → InF func b → length names ≤ b →
        (Γ : Env) (s : State) (m : Buffers) (σ : St) → Γ.active ≡ length names → 1 ≤ Γ.n → On Γ.n σ → σ.free ≡ suc (k + b) → Sims (at_place Γ at line) s m σ →
        Ends (compile_funcargs g func line₀ n s m) (λ e s' m'. SimD (at_place Γ at' line') s' m' e (comp_args chunk names es b k σ))
    unfolding exprs_at compile_funcargs comp_args
    args_at zero es at line at' line' e func line₀ k b i lb Γ s m σ act one on fr h =
        let w = same_parsed no_more es at line at' line' e in
        same_args Γ b k σ no_more es at at' line line' w.0 w.1.0 w.1.1 (sim_closed func b k line₀ i σ fr one on h)
    args_at (suc zero) es at line at' line' e func line₀ k b i lb Γ s m σ act one on fr h =
        let v = invert (F at line) _ es at' line' e in
        let w = same_parsed (more v.value no_more) es v.place v.own_line at' line' v.then in
        same_args Γ b k σ (more v.value no_more) es v.place at' v.own_line line' w.0 w.1.0 w.1.1 (ends_then (lowers v.value at line v.place v.own_line v.first Γ s m σ act one on (omega arith) h) (λ e₁ s₁ m₁ d.
        sim_last (at_place Γ v.place v.own_line) func b k line₀ i (comp chunk names v.value σ) (subst (λ z. Sound (at_place Γ v.place v.own_line) z (comp chunk names v.value σ)) fr (sound_comp chunk names (at_place Γ v.place v.own_line) v.value σ act one on (omega arith))) d))
    args_at (suc (suc n)) es at line at' line' e func line₀ k b i lb Γ s m σ act one on fr h =
        let v = invert (F at line) _ es at' line' e in
        let u = invert (exprs_at F (suc n) v.place v.own_line) _ es at' line' v.then in
        let c = invert (F v.place v.own_line) _ u.value u.place u.own_line u.first in
        let r = invert (exprs_at F n c.place c.own_line) _ u.value u.place u.own_line c.then in
        let two : more c.value r.value ≡ u.value = (same_parsed _ _ _ _ _ _ r.then).0 in
        let w = same_parsed (more v.value u.value) es u.place u.own_line at' line' u.then in
        same_args Γ b k σ (more v.value (more c.value r.value)) es at' at' line' line' (ap (λ z. more v.value z) two ∙ w.0) refl refl (ends_then (lowers v.value at line v.place v.own_line v.first Γ s m σ act one on (omega arith) h) (λ e₁ s₁ m₁ d.
        next_argument v.value v.place v.own_line s₁ m₁ e₁ d (λ s₂ m₂ fr₂ on₂ y.
        args_at (suc n) (more c.value r.value) v.place v.own_line at' line' (u.first ∙ ap (λ z. parsed z u.place u.own_line) (sym two) ∙ ap (λ z. parsed (more c.value r.value) z u.own_line) w.1.0 ∙ ap (λ z. parsed (more c.value r.value) at' z) w.1.1) func line₀ (suc k) b i lb Γ s₂ m₂ (nextreg (dv (comp chunk names v.value σ))) act one on₂ fr₂ y)))
      where
        next_argument : (a : Expr) (p l : ℕ) (s₁ : State) (m₁ : Buffers) (e₁ : ExprContext) → SimD (at_place Γ p l) s₁ m₁ e₁ (comp chunk names a σ) → {Q : ExprContext → State → Buffers → Type 0} {rest : Step ExprContext} →
            ((s₂ : State) (m₂ : Buffers) → (nextreg (dv (comp chunk names a σ))).free ≡ suc (suc k + b) → On Γ.n (nextreg (dv (comp chunk names a σ))) → Sims (at_place Γ p l) s₂ m₂ (nextreg (dv (comp chunk names a σ))) → Ends (rest s₂ m₂) Q) → Ends ((exp2nextreg e₁ >> rest) s₁ m₁) Q
        next_argument a p l s₁ m₁ e₁ d go =
            let P = comp chunk names a σ in
            let w = sound_comp chunk names (at_place Γ p l) a σ act one on (omega arith) in
            ends_then (sim_next P w d) (λ e₂ s₂ m₂ x. go s₂ m₂ (next_free (dv P) ∙ ap suc (freed_own Γ.active (dv P).de.k4 σ.free (dv P).st.free (sound_dv P w).own ∙ fr ∙ omega arith)) (next_on Γ.n one (dv P) (dv_new Γ.n one P w.new)) x.now)

    -- ---- a node behind its fields

    same_expr : {x : Result ExprContext} (Γ : Env) (σ : St) (d d' : Expr) (a a' l l' : ℕ) → d ≡ d' → a ≡ a' → l ≡ l' → Ends x (λ e s' m'. SimD (at_place Γ a l) s' m' e (comp chunk names d σ)) → Ends x (λ e s' m'. SimD (at_place Γ a' l') s' m' e (comp chunk names d' σ))
    same_expr {x = x} Γ σ d d' a a' l l' p q r h = subst (λ z. Ends x (λ e s' m'. SimD (at_place Γ a' l') s' m' e (comp chunk names z σ))) p (subst (λ z. Ends x (λ e s' m'. SimD (at_place Γ a' z) s' m' e (comp chunk names d σ))) r (subst (λ z. Ends x (λ e s' m'. SimD (at_place Γ z l) s' m' e (comp chunk names d σ))) q h))

    module _ (sp : Span) (at line : ℕ) (Γ : Env) (s : State) (m : Buffers) (σ : St) (act : Γ.active ≡ length names) (one : 1 ≤ Γ.n) (on : On Γ.n σ) (l : length names ≤ σ.free) (h : Sims (at_place Γ at line) s m σ) where
      leaf_at : (x : Leaf) → ShortLeaf chunk x → Ends (leaf_expr chunk hd x s m) (λ e s' m'. SimD (at_place Γ at line) s' m' e (comp chunk names (leaf_node sp x) σ))
      unfolding comp
      leaf_at x short = sim_leaf chunk σ on one h hd names nm x short (sound_comp chunk names (at_place Γ at line) (leaf_node sp x) σ act one on l)

      one_at : (o : One) (a : Expr) (p q : ℕ) → ShortOne chunk o → F at line ≡ parsed a p q → Ends ((g >>= after_one chunk hd o) s m) (λ e s' m'. SimD (at_place Γ p q) s' m' e (comp chunk names (one_node sp o a) σ))
      unfolding comp
      one_at o a p q short z = ends_then (lowers a at line p q z Γ s m σ act one on l h) (λ e s₁ m₁ d. sim_one o (comp chunk names a σ) short (sound_comp chunk names (at_place Γ p q) a σ act one on l) d)

      two_at : (t : Two) (a b : Expr) (p q p₂ q₂ : ℕ) → F at line ≡ parsed a p q → F p q ≡ parsed b p₂ q₂ → Ends ((g >>= (λ e. between chunk hd t e >>= (λ e₁. g >>= (λ e₂. after_two chunk hd t e₁ e₂)))) s m) (λ e s' m'. SimD (at_place Γ p₂ q₂) s' m' e (comp chunk names (two_node sp t a b) σ))
      unfolding comp
      two_at t a b p q p₂ q₂ z w = ends_then (lowers a at line p q z Γ s m σ act one on l h) (λ e s₁ m₁ d. sim_two chunk names g b p q p₂ q₂ (lowers b p q p₂ q₂ w) Γ act a σ on one l d hd t)

      many_at : (k : Many) (n : ℕ) (a : Expr) (es : Exprs) (p q p₂ q₂ : ℕ) → ShortMany chunk k → F at line ≡ parsed a p q → exprs_at F n p q ≡ parsed es p₂ q₂ →
          Ends ((g >>= (λ e. callee chunk hd k e >>= (λ func. get >>= (λ s. compile_funcargs g func s.line n)))) s m) (λ e s' m'. SimD (at_place Γ p₂ q₂) s' m' e (comp chunk names (many_node sp k a es) σ))
      unfolding comp and_then
      many_at k n a es p q p₂ q₂ short z w = ends_then (lowers a at line p q z Γ s m σ act one on l h) (λ e s₁ m₁ d. ends_then (sim_callee chunk hd names k P short sound d) (λ func s₂ m₂ x.
          args_at n es p q p₂ q₂ w func s₂.line (before chunk names k) σ.free (record { kind = x.kind; info = x.info; trues = x.trues; falses = x.falses }) l Γ s₂ m₂ (callee_l chunk names k σ.free (dv P)) act one (callee_on chunk names Γ.n one k σ.free (dv P) (dv_new Γ.n one P sound.new)) (callee_free Γ.active σ.free k (dv P) (sound_dv P sound).own) x.now))
        where
          P : Pair
          P = comp chunk names a σ

          sound : Sound (at_place Γ p q) σ.free P
          sound = sound_comp chunk names (at_place Γ p q) a σ act one on l

      head_at : (hh : Head) (d : Expr) (at' line' : ℕ) → ShortHead chunk hh → rest F sp hh at line ≡ parsed d at' line' → Ends (compile_head chunk hd g hh s m) (λ e s' m'. SimD (at_place Γ at' line') s' m' e (comp chunk names d σ))
      unfolding rest compile_head
      head_at (head.Leaf x) d at' line' short e =
          let w = same_parsed (leaf_node sp x) d at line at' line' e in
          same_expr Γ σ (leaf_node sp x) d at at' line line' w.0 w.1.0 w.1.1 (leaf_at x short)
      head_at (head.One o) d at' line' short e =
          let v = invert (F at line) _ d at' line' e in
          let w = same_parsed (one_node sp o v.value) d v.place v.own_line at' line' v.then in
          same_expr Γ σ (one_node sp o v.value) d v.place at' v.own_line line' w.0 w.1.0 w.1.1 (one_at o v.value v.place v.own_line short v.first)
      head_at (head.Two t) d at' line' short e =
          let v = invert (F at line) _ d at' line' e in
          let u = invert (F v.place v.own_line) _ d at' line' v.then in
          let w = same_parsed (two_node sp t v.value u.value) d u.place u.own_line at' line' u.then in
          same_expr Γ σ (two_node sp t v.value u.value) d u.place at' u.own_line line' w.0 w.1.0 w.1.1 (two_at t v.value u.value v.place v.own_line u.place u.own_line v.first u.first)
      head_at (head.Many k n) d at' line' short e =
          let v = invert (F at line) _ d at' line' e in
          let u = invert (exprs_at F n v.place v.own_line) _ d at' line' v.then in
          let w = same_parsed (many_node sp k v.value u.value) d u.place u.own_line at' line' u.then in
          same_expr Γ σ (many_node sp k v.value u.value) d u.place at' u.own_line line' w.0 w.1.0 w.1.1 (many_at k n v.value u.value v.place v.own_line u.place u.own_line short v.first u.first)

  -- ---- expressions

  module _ (bytes : Bytes chunk) where
    pub expr_at_lem : (left : ℕ) (a : Expr) (at line at' line' : ℕ) → expr_at chunk hd.varargs left at line ≡ parsed a at' line' → LowersExpr (length names) (compile_expr chunk hd left) (comp chunk names a) at line at' line'
    unfolding expr_at
    expr_at_lem zero a at line at' line' e Γ s m σ act one on l h = absurd (let y : ◌≡◌ {A = ℕ} 0 1 = cc in omega arith)
    expr_at_lem (suc left) a at line at' line' e Γ s m σ act one on l h =
        let v = node_is (node_at chunk hd.varargs at line) _ a at' line' e in
        let n = v.0 in
        let here : node_at chunk hd.varargs s.at s.line ≡ Ok n = rw (h.sim.at, h.sim.line) v.1.0 in
        rw (expr_is chunk hd left s m n here) (head_at (compile_expr chunk hd left) (expr_at chunk hd.varargs left) (expr_at_lem left) (record { line = n.line; place = at; nesting = max_nesting - left }) n.next n.line Γ (with_place n.next n.line s) m σ act one on l (sim_place n.next n.line h) n.head a at' line' (short v.0 v.1.0) v.1.1)
      where
        short : (n : Node) → node_at chunk hd.varargs at line ≡ Ok n → ShortHead chunk n.head
        short n z = subst (ShortNode chunk) z (short_node chunk bytes hd.varargs at line)
