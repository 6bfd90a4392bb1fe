-- Expressions and argument lists keep the tails clean: part by part, by induction on the arguments left and on the nestings left.
use Prim.Native.Nat.{ℕ, zero, suc}
use Rattle.std.specs.Prelude.{refl, List, Result, Ok, Err}
use Rattle.std.proofs.Math.Option.{Option, some, none}
use Rattle.refusals.specs.declared.Refusal.TheVariants as refusal
use Rattle.constants.specs.declared.Val.TheVariants as val
use Rattle.cursor.specs.declared.Text.{Text}
use Rattle.cursor.specs.Fields.{bytes_of}
use Rattle.nodes.specs.Nodes.{node_at}
use Rattle.ast.specs.declared.Leaf.{Leaf}
use Rattle.ast.specs.declared.Leaf.TheVariants as leaf
use Rattle.ast.specs.declared.One.{One}
use Rattle.ast.specs.declared.One.TheVariants as one
use Rattle.ast.specs.declared.Two.{Two}
use Rattle.ast.specs.declared.Two.TheVariants as two
use Rattle.ast.specs.declared.Many.{Many}
use Rattle.ast.specs.declared.Many.TheVariants as many
use Rattle.ast.specs.declared.Head.{Head}
use Rattle.ast.specs.declared.Head.TheVariants as head
use Rattle.chunk.specs.Headers.{names_at}
use Rattle.chunk.specs.Form.{names_of}
use Rattle.chunk.specs.declared.header.Header.{Header}
use Rattle.model.specs.declared.ExprKind.TheVariants.{K}
use Rattle.model.specs.declared.ExprContext.{ExprContext}
use Rattle.model.specs.Descriptor.{new_of}
use Rattle.model.specs.Steps.{Step}
use Rattle.model.specs.Emission.{with_place}
use Rattle.model.specs.Expressions.{search_local, is_open, last_argument, compile_funcargs, set_indexed, code_self, string_constant, resolved, resolve_var, leaf_expr, after_one, between, after_two, callee, compile_head, compile_node, compile_expr}
use Rattle.model.specs.Lowering.{Sizes}
use Rattle.padding.specs.Clean.{Keeps, keeps_return, keeps_refuse, keeps_get, keeps_change, keeps_then, keeps_if}
use Rattle.padding.specs.Emission.{keeps_emit, keeps_reserve_regs}
use Rattle.padding.proofs.Emission.{keeps_add_constant}
use Rattle.padding.specs.Discharge.{keeps_discharge_vars, keeps_free_expr}
use Rattle.padding.proofs.Discharge.{keeps_exp2nextreg, keeps_exp2anyreg, keeps_exp2rk}
use Rattle.padding.proofs.Operators.{keeps_before_right, keeps_after_right, keeps_code_unop}
use Rattle.padding.specs.Expressions.{keeps_closed_call, keeps_emit_call, keeps_set_multret}
use Rattle.ast.specs.declared.Node.{Node}
use Rattle.refusals.specs.declared.Refusal.{Refusal}

module _ {z : Sizes} where
  keeps_last_argument : (func : ExprContext) (line : ℕ) (e : ExprContext) → Keeps z (last_argument func line e)
  unfolding last_argument
  keeps_last_argument func line e = keeps_if (is_open e) (keeps_then (keeps_set_multret e) (λ _. keeps_emit_call func 0 line)) (keeps_then (keeps_exp2nextreg e) (λ _. keeps_closed_call func line))

  keeps_compile_funcargs : {f : Step ExprContext} → Keeps z f → (func : ExprContext) (line n : ℕ) → Keeps z (compile_funcargs f func line n)
  unfolding compile_funcargs
  keeps_compile_funcargs k func line zero = keeps_closed_call func line
  keeps_compile_funcargs k func line (suc zero) = keeps_then k (λ e. keeps_last_argument func line e)
  keeps_compile_funcargs k func line (suc (suc n)) = keeps_then k (λ e. keeps_then (keeps_exp2nextreg e) (λ _. keeps_compile_funcargs k func line (suc n)))

  keeps_set_indexed : (t key : ExprContext) → Keeps z (set_indexed t key)
  unfolding set_indexed
  keeps_set_indexed t key = keeps_then (keeps_exp2rk key) (λ k. keeps_return _)

  keeps_code_self : (e key : ExprContext) → Keeps z (code_self e key)
  unfolding code_self
  keeps_code_self e key =
      keeps_then (keeps_exp2anyreg e) (λ e₁.
      keeps_then (keeps_free_expr e₁) (λ _.
      keeps_then keeps_get (λ s.
      keeps_then (keeps_reserve_regs 2) (λ _.
      keeps_then (keeps_exp2rk key) (λ k.
      keeps_then (keeps_emit _) (λ _. keeps_then (keeps_free_expr k) (λ _. keeps_return _)))))))

  -- ---- nodes

  module _ (chunk : List ℕ) (h : Header) where
    keeps_string_constant : (t : Text) → Keeps z (string_constant chunk h t)
    keeps_string_constant t = keeps_add_constant chunk (val.Str t.start t.len)

    keeps_resolved : (t : Text) (r : Option ℕ) → Keeps z (resolved chunk h t r)
    keeps_resolved t (some r) = keeps_return _
    keeps_resolved t none = keeps_then (keeps_string_constant t) (λ k. keeps_return _)

    keeps_resolve_var : (t : Text) → Keeps z (resolve_var chunk h t)
    unfolding resolve_var
    keeps_resolve_var t = keeps_resolved t (search_local chunk (bytes_of chunk t) (names_of (names_at chunk h.locals h.names)) 0)

    keeps_leaf_expr : (l : Leaf) → Keeps z (leaf_expr chunk h l)
    unfolding leaf_expr
    keeps_leaf_expr leaf.Nil = keeps_return _
    keeps_leaf_expr leaf.True = keeps_return _
    keeps_leaf_expr leaf.False = keeps_return _
    keeps_leaf_expr (leaf.Number b) = keeps_return _
    keeps_leaf_expr (leaf.Str t) = keeps_then (keeps_string_constant t) (λ k. keeps_return _)
    keeps_leaf_expr leaf.VarArg = keeps_then (keeps_emit _) (λ pc. keeps_return _)
    keeps_leaf_expr (leaf.Name t) = keeps_resolve_var t

    keeps_after_one : (o : One) (e : ExprContext) → Keeps z (after_one chunk h o e)
    unfolding after_one
    keeps_after_one (one.Unary o) e = keeps_code_unop o e
    keeps_after_one (one.Field t) e = keeps_then (keeps_exp2anyreg e) (λ e₁. keeps_then (keeps_string_constant t) (λ k. keeps_set_indexed e₁ (new_of K k)))
    keeps_after_one one.Paren e = keeps_discharge_vars e

    keeps_between : (t : Two) (e : ExprContext) → Keeps z (between chunk h t e)
    unfolding between
    keeps_between (two.Binary o) e = keeps_before_right o e
    keeps_between two.Index e = keeps_exp2anyreg e

    keeps_after_two : (t : Two) (e₁ e₂ : ExprContext) → Keeps z (after_two chunk h t e₁ e₂)
    unfolding after_two
    keeps_after_two (two.Binary o) e₁ e₂ = keeps_after_right o e₁ e₂
    keeps_after_two two.Index e₁ e₂ = keeps_set_indexed e₁ e₂

    keeps_callee : (m : Many) (e : ExprContext) → Keeps z (callee chunk h m e)
    unfolding callee
    keeps_callee many.Call e = keeps_exp2nextreg e
    keeps_callee (many.MethodCall t) e = keeps_then (keeps_exp2anyreg e) (λ e₁. keeps_then (keeps_string_constant t) (λ k. keeps_code_self e₁ (new_of K k)))

    keeps_compile_head : {f : Step ExprContext} → Keeps z f → (n : Head) → Keeps z (compile_head chunk h f n)
    unfolding compile_head
    keeps_compile_head k (head.Leaf l) = keeps_leaf_expr l
    keeps_compile_head k (head.One o) = keeps_then k (λ e. keeps_after_one o e)
    keeps_compile_head k (head.Two t) = keeps_then k (λ e. keeps_then (keeps_between t e) (λ e₁. keeps_then k (λ e₂. keeps_after_two t e₁ e₂)))
    keeps_compile_head k (head.Many m n) = keeps_then k (λ e. keeps_then (keeps_callee m e) (λ func. keeps_then keeps_get (λ s. keeps_compile_funcargs k func s.line n)))

    keeps_compile_node : {f : Step ExprContext} → Keeps z f → (r : Result Node Refusal) → Keeps z (compile_node chunk h f r)
    keeps_compile_node k (Err r) = keeps_refuse r
    keeps_compile_node k (Ok n) = keeps_then (keeps_change (with_place n.next n.line) (λ s. refl) (λ s. refl)) (λ _. keeps_compile_head k n.head)

    pub keeps_compile_expr : (left : ℕ) → Keeps z (compile_expr chunk h left)
    unfolding compile_expr
    keeps_compile_expr zero = keeps_refuse refusal.Nesting
    keeps_compile_expr (suc left) = keeps_then keeps_get (λ s. keeps_compile_node (keeps_compile_expr left) (node_at chunk h.varargs s.at s.line))
