-- What expressions take: for each node 8 words, and its text or one other constant. Of these the answer holds on to 4 words, to be brought to a register, and to what it owes of constants. By induction on the nestings that are left, and on the arguments.
-- ---- trees
use Prim.Native.Nat.{ℕ, zero, suc, ◌+◌, ◌-◌, ◌*◌}
use Rattle.std.proofs.Math.Path.{◌≡◌, refl, ap}
use Rattle.std.specs.Prelude.{List, Ok}
use Rattle.std.proofs.Math.Option.{Option, some, none}
use native.Mathlib.Omega.{arith}
use Rattle.constants.specs.declared.Val.TheVariants as val
use Rattle.cursor.specs.Fields.{bytes_of}
use Rattle.cursor.specs.declared.Text.{Text}
use Rattle.nodes.specs.Nodes.{node_at}
use Rattle.ast.specs.declared.Leaf.{Leaf}
use Rattle.ast.specs.declared.Leaf.TheVariants as leaf
use Rattle.ast.specs.declared.One.{One}
use Rattle.ast.specs.declared.One.TheVariants as one
use Rattle.ast.specs.declared.Two.{Two}
use Rattle.ast.specs.declared.Two.TheVariants as two
use Rattle.ast.specs.declared.Many.{Many}
use Rattle.ast.specs.declared.Many.TheVariants as many
use Rattle.ast.specs.declared.Head.{Head}
use Rattle.ast.specs.declared.Head.TheVariants as head
use Rattle.chunk.specs.Ast.{Span, Expr, leaf as leaf_node, one as one_node, two as two_node, many as many_node, Exprs, none as no_more, more}
use Rattle.chunk.specs.Headers.{names_at}
use Rattle.chunk.specs.Form.{Parsed, parsed, exprs_at, rest, expr_at, names_of, max_nesting}
use Rattle.chunk.specs.declared.header.Header.{Header}
use Rattle.model.specs.declared.ExprKind.TheVariants.{K}
use Rattle.model.specs.declared.ExprContext.{ExprContext}
use Rattle.model.specs.Descriptor.{new_of}
use Rattle.model.specs.Steps.{Step}
use Rattle.model.specs.Emission.{with_place}
use Rattle.model.specs.Discharge.{exp2nextreg}
use Rattle.model.specs.Expressions.{search_local, is_open, last_argument, compile_funcargs, set_indexed, code_self, string_constant, resolved, resolve_var, leaf_expr, after_one, between, after_two, callee, compile_head, compile_expr}
use Rattle.simulation.specs.Parsing.{invert, same_parsed, node_is, expr_is}
use Rattle.bound.specs.Takes.{Resource, per_word, per_text, used, Spends, Takes, Any, later, at_most, spends_less, holding, takes, gives_then, takes_then, nothing_then, then_nothing, spends_return, takes_return, takes_get, spends_if, used_same}
use Rattle.bound.specs.Emission.{takes_emit, takes_reserve_regs}
use Rattle.bound.proofs.Emission.{takes_add_constant}
use Rattle.bound.specs.Discharge.{load_most, owes, brings, brings_most, bare_light, spends_discharge_vars, takes_free_expr}
use Rattle.bound.proofs.Discharge.{gives_exp2nextreg, gives_exp2anyreg}
use Rattle.bound.proofs.Operands.{spends_exp2rk}
use Rattle.bound.proofs.Operators.{spends_before_right, spends_after_right, spends_code_unop}
use Rattle.bound.specs.Expressions.{Reads, ReadyTwo, cost, costs, first_owes, held, more_of, moved, own_leaf, own_many, own_one, reads_then, spends_closed_call, spends_emit_call, stays, takes_set_multret}

module _ {R : Resource} {cap : ℕ} where
  pub takes_nextreg : (e : ExprContext) → Takes R cap (held R e) (exp2nextreg e)
  takes_nextreg e = at_most (takes (gives_exp2nextreg e)) (brings_most R e)

  spends_last_argument : (func : ExprContext) (line : ℕ) (e : ExprContext) → Spends R cap (held R e + per_word R) (last_argument func line e) (owes R) Any
  unfolding last_argument
  spends_last_argument func line e = spends_if (is_open e) (λ _. at_most (nothing_then (takes_set_multret e) (λ _. spends_emit_call func 0 line)) (omega arith)) (λ _. takes_then (takes_nextreg e) (λ _. spends_closed_call func line))

  spends_set_indexed : (t key : ExprContext) → Spends R cap (brings R key) (set_indexed t key) (owes R) Any
  unfolding set_indexed
  spends_set_indexed t key = at_most (takes_then (takes (spends_exp2rk key)) (λ k. at_most {d = 0} (spends_return _ tt) (omega arith))) (omega arith)

  takes_code_self : (e key : ExprContext) → Takes R cap (brings R e + brings R key + per_word R) (code_self e key)
  unfolding code_self
  takes_code_self e key =
      at_most (takes_then (takes (gives_exp2anyreg e)) (λ e₁.
      nothing_then (takes_free_expr e₁) (λ _.
      nothing_then takes_get (λ s.
      nothing_then (takes_reserve_regs 2) (λ _.
      takes_then (takes (spends_exp2rk key)) (λ k.
      then_nothing (takes_emit _) (λ _. nothing_then (takes_free_expr k) (λ _. takes_return _)))))))) (omega arith)

  -- ---- nodes

  module _ (chunk : List ℕ) (hd : Header) where
    takes_string_constant : (t : Text) → Takes R cap (per_text R t.len) (string_constant chunk hd t)
    takes_string_constant t = takes_add_constant chunk (val.Str t.start t.len)

    spends_resolved : (t : Text) (r : Option ℕ) → Spends R cap (per_text R t.len) (resolved chunk hd t r) (owes R) Any
    spends_resolved t (some r) = at_most (spends_return _ tt) (omega arith)
    spends_resolved t none = at_most (takes_then (takes_string_constant t) (λ k. at_most {d = 0} (spends_return _ tt) (omega arith))) (omega arith)

    spends_resolve_var : (t : Text) → Spends R cap (per_text R t.len) (resolve_var chunk hd t) (owes R) Any
    unfolding resolve_var
    spends_resolve_var t = spends_resolved t (search_local chunk (bytes_of chunk t) (names_of (names_at chunk hd.locals hd.names)) 0)

    spends_leaf : (l : Leaf) → Spends R cap (per_word R + own_leaf R l) (leaf_expr chunk hd l) (owes R) Any
    unfolding leaf_expr
    spends_leaf leaf.Nil = at_most (spends_return _ tt) (omega arith)
    spends_leaf leaf.True = at_most (spends_return _ tt) (omega arith)
    spends_leaf leaf.False = at_most (spends_return _ tt) (omega arith)
    spends_leaf (leaf.Number b) = at_most (spends_return _ tt) (omega arith)
    spends_leaf (leaf.Str t) = at_most (takes_then (takes_string_constant t) (λ k. at_most {d = 0} (spends_return _ tt) (omega arith))) (omega arith)
    spends_leaf leaf.VarArg = at_most (takes_then (takes_emit _) (λ pc. at_most {d = 0} (spends_return _ tt) (omega arith))) (omega arith)
    spends_leaf (leaf.Name t) = at_most (spends_resolve_var t) (omega arith)

    spends_after_one : (o : One) (e : ExprContext) → Spends R cap (owes R e + (8 * per_word R + own_one R o)) (after_one chunk hd o e) (owes R) Any
    unfolding after_one
    spends_after_one (one.Unary o) e = at_most (spends_code_unop o e) (omega arith)
    spends_after_one (one.Field t) e = at_most (takes_then (takes (gives_exp2anyreg e)) (λ e₁. takes_then (takes_string_constant t) (λ k. at_most {d = per_word R} (spends_set_indexed e₁ (new_of K k)) (omega arith)))) (omega (arith, brings_most R e))
    spends_after_one one.Paren e = at_most (spends_less (spends_discharge_vars e) (λ e₁ h. (omega arith, tt))) (omega (arith, load_most R e.kind))

    spends_between : (t : Two) (e : ExprContext) → Spends R cap (held R e) (between chunk hd t e) (first_owes R t) (ReadyTwo R t)
    unfolding between
    spends_between (two.Binary o) e = at_most (spends_before_right o e) (omega arith)
    spends_between two.Index e = at_most (takes (gives_exp2anyreg e)) (brings_most R e)

    spends_after_two : (t : Two) (e₁ e₂ : ExprContext) → ReadyTwo R t e₁ → Spends R cap (first_owes R t e₁ + owes R e₂ + 8 * per_word R) (after_two chunk hd t e₁ e₂) (owes R) Any
    unfolding after_two
    spends_after_two (two.Binary o) e₁ e₂ r = spends_after_right o e₁ e₂ r
    spends_after_two two.Index e₁ e₂ r = at_most (spends_set_indexed e₁ e₂) (omega (arith, brings_most R e₂))

    takes_callee : (k : Many) (e : ExprContext) → Takes R cap (owes R e + own_many R k + 7 * per_word R) (callee chunk hd k e)
    unfolding callee
    takes_callee many.Call e = at_most (takes_nextreg e) (omega arith)
    takes_callee (many.MethodCall t) e = at_most (gives_then (gives_exp2anyreg e) (λ e₁ b. takes_then (takes_string_constant t) (λ k. at_most {d = 3 * per_word R} (takes_code_self e₁ (new_of K k)) (omega (arith, (bare_light R e₁ b).0, (bare_light R e₁ b).1))))) (omega (arith, brings_most R e))

    -- sub-expressions are lowered by g and parsed by F
    module _ (g : Step ExprContext) (F : ℕ → ℕ → Parsed Expr) (lowers : (a : Expr) (at line at' line' : ℕ) → F at line ≡ parsed a at' line' → Reads R cap (cost R a) g (held R) at line at' line' Any) where
      args_at : (n : ℕ) (es : Exprs) (at line at' line' : ℕ) → exprs_at F n at line ≡ parsed es at' line' → (func : ExprContext) (line₀ : ℕ) → Reads R cap (costs R es + 5 * per_word R) (compile_funcargs g func line₀ n) (held R) at line at' line' Any
      unfolding exprs_at compile_funcargs costs
      args_at zero es at line at' line' e func line₀ =
          let w = same_parsed no_more es at line at' line' e in
          moved (stays (holding (4 * per_word R) (spends_closed_call func line₀)) at line) w.1.0 w.1.1 (omega arith)
      args_at (suc zero) es at line at' line' e func line₀ =
          let v = invert (F at line) _ es at' line' e in
          let w = same_parsed (more v.value no_more) es v.place v.own_line at' line' v.then in
          moved (reads_then (5 * per_word R) (lowers v.value at line v.place v.own_line v.first) (λ e₁ _. more_of (stays (holding (4 * per_word R) (spends_last_argument func line₀ e₁)) v.place v.own_line) (omega arith))) w.1.0 w.1.1
          (omega (arith, ap (costs R) w.0))
      args_at (suc (suc n)) es at line at' line' e func line₀ =
          let v = invert (F at line) _ es at' line' e in
          let u = invert (exprs_at F (suc n) v.place v.own_line) _ es at' line' v.then in
          let w = same_parsed (more v.value u.value) es u.place u.own_line at' line' u.then in
          let rest = costs R u.value + 5 * per_word R in
          moved (reads_then rest (lowers v.value at line v.place v.own_line v.first) (λ e₁ _. reads_then rest (stays (takes_nextreg e₁) v.place v.own_line) (λ e₂ _. more_of (args_at (suc n) u.value v.place v.own_line u.place u.own_line u.first func line₀) (omega arith)))) w.1.0 w.1.1
          (omega (arith, ap (costs R) w.0))

      head_at : (sp : Span) (h : Head) (d : Expr) (at line at' line' : ℕ) → rest F sp h at line ≡ parsed d at' line' → Reads R cap (cost R d) (compile_head chunk hd g h) (held R) at line at' line' Any
      unfolding rest compile_head cost
      head_at sp (head.Leaf x) d at line at' line' e =
          let w = same_parsed (leaf_node sp x) d at line at' line' e in
          moved (stays (holding (4 * per_word R) (spends_leaf x)) at line) w.1.0 w.1.1 (omega (arith, ap (cost R) w.0))
      head_at sp (head.One o) d at line at' line' e =
          let v = invert (F at line) _ d at' line' e in
          let w = same_parsed (one_node sp o v.value) d v.place v.own_line at' line' v.then in
          moved (reads_then (8 * per_word R + own_one R o) (lowers v.value at line v.place v.own_line v.first) (λ e₁ _. more_of (stays (holding (4 * per_word R) (spends_after_one o e₁)) v.place v.own_line) (omega arith))) w.1.0 w.1.1
          (omega (arith, ap (cost R) w.0))
      head_at sp (head.Two t) d at line at' line' e =
          let v = invert (F at line) _ d at' line' e in
          let u = invert (F v.place v.own_line) _ d at' line' v.then in
          let w = same_parsed (two_node sp t v.value u.value) d u.place u.own_line at' line' u.then in
          let both = cost R u.value + 8 * per_word R in
          moved (reads_then both (lowers v.value at line v.place v.own_line v.first) (λ e₁ _. reads_then both (stays (spends_between t e₁) v.place v.own_line) (λ e₂ r.
          more_of (reads_then (first_owes R t e₂ + 8 * per_word R) (lowers u.value v.place v.own_line u.place u.own_line u.first) (λ e₃ _. more_of (stays (holding (4 * per_word R) (spends_after_two t e₂ e₃ r)) u.place u.own_line) (omega arith))) (omega arith)))) w.1.0 w.1.1
          (omega (arith, ap (cost R) w.0))
      head_at sp (head.Many k n) d at line at' line' e =
          let v = invert (F at line) _ d at' line' e in
          let u = invert (exprs_at F n v.place v.own_line) _ d at' line' v.then in
          let w = same_parsed (many_node sp k v.value u.value) d u.place u.own_line at' line' u.then in
          let rest = costs R u.value + 5 * per_word R in
          moved (reads_then (rest + (own_many R k + 3 * per_word R)) (lowers v.value at line v.place v.own_line v.first) (λ e₁ _. more_of (reads_then rest (stays (takes_callee k e₁) v.place v.own_line) (λ func _. reads_then rest (stays takes_get v.place v.own_line) (λ s _.
          more_of (args_at n u.value v.place v.own_line u.place u.own_line u.first func s.line) (omega arith)))) (omega arith))) w.1.0 w.1.1
          (omega (arith, ap (cost R) w.0))

    pub expr_at_lem : (left : ℕ) (a : Expr) (at line at' line' : ℕ) → expr_at chunk hd.varargs left at line ≡ parsed a at' line' → Reads R cap (cost R a) (compile_expr chunk hd left) (held R) at line at' line' Any
    unfolding expr_at
    expr_at_lem zero a at line at' line' e s m p q k = absurd (let y : ◌≡◌ {A = ℕ} 0 1 = cc in omega arith)
    expr_at_lem (suc left) a at line at' line' e s m p q k =
        let v = node_is (node_at chunk hd.varargs at line) _ a at' line' e in
        let n = v.0 in
        let here : node_at chunk hd.varargs s.at s.line ≡ Ok n = rw (p, q) v.1.0 in
        let same : used R (with_place n.next n.line s) ≡ used R s = used_same R s (with_place n.next n.line s) refl refl in
        rw (expr_is chunk hd left s m n here) (later (head_at (compile_expr chunk hd left) (expr_at chunk hd.varargs left) (expr_at_lem left) (record { line = n.line; place = at; nesting = max_nesting - left }) n.head a n.next n.line at' line' v.1.1 (with_place n.next n.line s) m refl refl k) (omega (arith, same)) refl refl)
