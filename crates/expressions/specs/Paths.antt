-- Each way through the recursion, with what holds on the way, in the code's order. Assumes nothing.
use Prim.Native.Nat.{ℕ, zero, suc, ◌-◌, ◌<◌}
use Rattle.std.specs.Prelude.{List, ◌≡◌, Result as Read, Ok, Err}
use Rattle.std.proofs.Math.Path.{refl, ap}
use Rattle.std.proofs.Common.{◌∙◌}
use native.Mathlib.Omega.{arith}
use Rattle.refusals.specs.declared.Refusal.{Refusal}
use Rattle.refusals.specs.declared.Refusal.TheVariants.{Nesting}
use Rattle.nodes.specs.Nodes.{node_at}
use Rattle.ast.specs.declared.Leaf.{Leaf}
use Rattle.ast.specs.declared.One.{One}
use Rattle.ast.specs.declared.Two.{Two}
use Rattle.ast.specs.declared.Many.{Many}
use Rattle.ast.specs.declared.Head.{Head}
use Rattle.ast.specs.declared.Head.TheVariants as head
use Rattle.ast.specs.declared.Node.{Node}
use Rattle.chunk.specs.declared.header.Header.{Header}
use Rattle.model.specs.declared.ExprContext.{ExprContext}
use Rattle.model.specs.declared.State.{State}
use Rattle.model.specs.Steps.{Buffers, Step, Result, done, refused, and_then, ◌>>=◌, get}
use Rattle.model.specs.Emission.{with_place}
use Rattle.model.specs.Discharge.{exp2nextreg}
use Rattle.model.specs.Expressions.{closed_call, last_argument, compile_funcargs, leaf_expr, after_one, between, callee, after_two, compile_head, compile_node, compile_expr}
use Rattle.emission.specs.Laws.{then_done, then_refused}

-- ---- an expression

-- steps in a row may be taken together
together : {A B C : Type 0} (x : Result A) (f : A → Step B) (g : B → Step C) → and_then x (λ (a : A) (s : State) (m : Buffers). and_then (f a s m) g) ≡ and_then (and_then x f) g
unfolding and_then
together (done a s m) f g = refl
together (refused k m) f g = refl

module _ (chunk : List ℕ) (h : Header) where
  module _ (left : ℕ) (s : State) (m : Buffers) where
    pub expr_none : left ≡ 0 → compile_expr chunk h left s m ≡ refused Nesting m
    unfolding compile_expr
    expr_none e = ap (λ (n : ℕ). compile_expr chunk h n s m) e

    module _ (some : left ≡ 0 → ⊥) {n : Read Node Refusal} (at : node_at chunk h.varargs s.at s.line ≡ n) where
      more : compile_expr chunk h left s m ≡ compile_node chunk h (compile_expr chunk h (left - 1)) n s m
      unfolding compile_expr and_then
      more = go left some ∙ ap (λ (x : Read Node Refusal). compile_node chunk h (compile_expr chunk h (left - 1)) x s m) at
        where
          go : (k : ℕ) → (k ≡ 0 → ⊥) → compile_expr chunk h k s m ≡ compile_node chunk h (compile_expr chunk h (k - 1)) (node_at chunk h.varargs s.at s.line) s m
          go zero i = absurd (i refl)
          go (suc k) i = let q : suc k - 1 ≡ k = omega arith in rw q

      pub expr_refused : {r : Refusal} → n ≡ Err r → compile_expr chunk h left s m ≡ refused r m
      expr_refused q = more ∙ ap (λ (x : Read Node Refusal). compile_node chunk h (compile_expr chunk h (left - 1)) x s m) q

      module _ {d : Node} (q : n ≡ Ok d) {u : State} (w : with_place d.next d.line s ≡ u) where
        abbrev lowered : Head → Result ExprContext
        lowered x = compile_head chunk h (compile_expr chunk h (left - 1)) x u m

        headed : compile_expr chunk h left s m ≡ lowered d.head
        unfolding and_then
        headed =
            more
            ∙ ap (λ (x : Read Node Refusal). compile_node chunk h (compile_expr chunk h (left - 1)) x s m) q
            ∙ ap (λ (v : State). compile_head chunk h (compile_expr chunk h (left - 1)) d.head v m) w

        pub expr_leaf : {l : Leaf} {r : Result ExprContext} → d.head ≡ head.Leaf l → leaf_expr chunk h l u m ≡ r → compile_expr chunk h left s m ≡ r
        unfolding compile_head
        expr_leaf i z = headed ∙ ap lowered i ∙ z

        -- the first sub-expression, what belongs to it, and the rest
        module _ {y : Result ExprContext} (f : compile_expr chunk h (left - 1) u m ≡ y) where
          firsts : {x : Head} (g : ExprContext → Step ExprContext) → d.head ≡ x → lowered x ≡ and_then (compile_expr chunk h (left - 1) u m) g → compile_expr chunk h left s m ≡ and_then y g
          firsts g i z = headed ∙ ap lowered i ∙ z ∙ ap (λ (v : Result ExprContext). and_then v g) f

          pub expr_one : {x : One} {r : Result ExprContext} → d.head ≡ head.One x → and_then y (after_one chunk h x) ≡ r → compile_expr chunk h left s m ≡ r
          unfolding compile_head
          expr_one {x} i z = firsts (after_one chunk h x) i refl ∙ z

          module _ {x : Two} (i : d.head ≡ head.Two x) where
            abbrev right : ExprContext → Step ExprContext
            right e₁ = do
              e₂ ← compile_expr chunk h (left - 1)
              after_two chunk h x e₁ e₂

            two : compile_expr chunk h left s m ≡ and_then (and_then y (between chunk h x)) right
            unfolding compile_head
            two = firsts _ i refl ∙ together y (between chunk h x) right

            pub expr_two_stopped : {r : Refusal} {o : Buffers} → and_then y (between chunk h x) ≡ refused r o → compile_expr chunk h left s m ≡ refused r o
            expr_two_stopped g = two ∙ then_refused right g

            pub expr_two : {e : ExprContext} {t : State} {o : Buffers} {v r : Result ExprContext} → and_then y (between chunk h x) ≡ done e t o →
                compile_expr chunk h (left - 1) t o ≡ v → and_then v (after_two chunk h x e) ≡ r → compile_expr chunk h left s m ≡ r
            expr_two {e} g c z = two ∙ then_done right g ∙ ap (λ (w : Result ExprContext). and_then w (after_two chunk h x e)) c ∙ z

          module _ {x : Many} {c : ℕ} (i : d.head ≡ head.Many x c) where
            abbrev arguments : ExprContext → Step ExprContext
            arguments func = do
              t ← get
              compile_funcargs (compile_expr chunk h (left - 1)) func t.line c

            many : compile_expr chunk h left s m ≡ and_then (and_then y (callee chunk h x)) arguments
            unfolding compile_head
            many = firsts _ i refl ∙ together y (callee chunk h x) arguments

            pub expr_many_stopped : {r : Refusal} {o : Buffers} → and_then y (callee chunk h x) ≡ refused r o → compile_expr chunk h left s m ≡ refused r o
            expr_many_stopped g = many ∙ then_refused arguments g

            pub expr_many : {e : ExprContext} {t : State} {o : Buffers} {r : Result ExprContext} → and_then y (callee chunk h x) ≡ done e t o →
                compile_funcargs (compile_expr chunk h (left - 1)) e t.line c t o ≡ r → compile_expr chunk h left s m ≡ r
            unfolding and_then
            expr_many g z = many ∙ then_done arguments g ∙ z

-- ---- arguments

module _ (f : Step ExprContext) (func : ExprContext) (line n : ℕ) (s : State) (m : Buffers) where
  pub args_none : n ≡ 0 → compile_funcargs f func line n s m ≡ closed_call func line s m
  unfolding compile_funcargs
  args_none e = ap (λ (k : ℕ). compile_funcargs f func line k s m) e

  pub args_last : {e : ExprContext} {t : State} {k : Buffers} → n ≡ 1 → f s m ≡ done e t k → compile_funcargs f func line n s m ≡ last_argument func line e t k
  unfolding compile_funcargs
  args_last i q = ap (λ (k : ℕ). compile_funcargs f func line k s m) i ∙ then_done (λ (e : ExprContext). last_argument func line e) q

  module _ (some : 0 < n) where
    pub args_stopped : {r : Refusal} {k : Buffers} → f s m ≡ refused r k → compile_funcargs f func line n s m ≡ refused r k
    unfolding compile_funcargs
    args_stopped {r} {k} q = go n some
      where
        go : (i : ℕ) → 0 < i → compile_funcargs f func line i s m ≡ refused r k
        go zero l = absurd (omega arith)
        go (suc zero) l = then_refused _ q
        go (suc (suc i)) l = then_refused _ q

    module _ (many : n ≡ 1 → ⊥) {e : ExprContext} {t : State} {k : Buffers} (q : f s m ≡ done e t k) where
      further : compile_funcargs f func line n s m ≡ and_then (exp2nextreg e t k) (λ _. compile_funcargs f func line (n - 1))
      unfolding compile_funcargs
      further = go n some many
        where
          go : (i : ℕ) → 0 < i → (i ≡ 1 → ⊥) → compile_funcargs f func line i s m ≡ and_then (exp2nextreg e t k) (λ _. compile_funcargs f func line (i - 1))
          go zero l c = absurd (omega arith)
          go (suc zero) l c = absurd (c refl)
          go (suc (suc i)) l c = then_done _ q ∙ let z : suc (suc i) - 1 ≡ suc i = omega arith in rw z

      pub args_more : {d : ExprContext} {u : State} {o : Buffers} → exp2nextreg e t k ≡ done d u o → compile_funcargs f func line n s m ≡ compile_funcargs f func line (n - 1) u o
      args_more z = further ∙ then_done (λ _. compile_funcargs f func line (n - 1)) z

      pub args_full : {r : Refusal} {o : Buffers} → exp2nextreg e t k ≡ refused r o → compile_funcargs f func line n s m ≡ refused r o
      args_full z = further ∙ then_refused (λ _. compile_funcargs f func line (n - 1)) z
