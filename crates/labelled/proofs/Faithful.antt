-- Every expression of a chunk is good, by induction on the trees; all formulas after each other.
use Prim.Native.Nat.{ℕ, suc, ◌+◌, ◌≤◌}
use Rattle.std.specs.Prelude.{◌≡◌}
use Rattle.std.proofs.Math.Path.{refl, ap}
use Rattle.std.proofs.Common.{◌∙◌}
use mathlib.Core.List.{List, []}
use native.Mathlib.Omega.{arith as nat}
use Rattle.model.specs.Values.{Value, Taken}
use Rattle.labelled.specs.Code.{reg, size}
use Rattle.labelled.specs.Machine.{Hist, Regs, Setting, first_value, list_of, at, exec}
use Rattle.labelled.specs.Emission.{St}
use Rattle.labelled.specs.Discharge.{Pair, Par4, dv, nextreg, via_reg, anyreg, as_rk}
use Rattle.labelled.specs.Conditions.{go_if}
use Rattle.labelled.specs.Outcomes.{cur_c}
use Rattle.labelled.specs.Operators.{numeral, left_of, Form, logical, joining, arithmetic, comparing, indexing, form_of, comp_two}
use Rattle.labelled.specs.Expressions.{comp, comp_args, comp_all, begin}
use Rattle.cursor.specs.declared.Text.{Text}
use Rattle.chunk.specs.Ast.{Expr, leaf as leaf_node, one as one_node, two as two_node, many as many_node, Exprs, none as no_more, more}
use Rattle.model.specs.Expressions.{search_local}
use Rattle.model.specs.Reading.{local_named, read_expr, read_args, read_formulas}
use Rattle.labelled.specs.Firm.{Agree, agree_trans, CC, C, Z}
use Rattle.labelled.specs.Settling.{next_res, next_free, next_nxt}
use Rattle.labelled.specs.Branching.{go_if_nxt, go_if_free}
use Rattle.labelled.specs.Owning.{freed_own}
use Rattle.labelled.specs.Good.{Good, Good4, labs, dv_good, lift_good, good_f, good_eq}
use Rattle.labelled.specs.Operands.{next_op, any_op, rk_op, By}
use Rattle.labelled.specs.Binary.{cat_good, log_a, left_op, ari_good, cmp_good}
use Rattle.labelled.proofs.Binary.{log_good}
use Rattle.labelled.specs.Calls.{Dargs, none_good, last_good}
use Rattle.labelled.specs.Faithful.{Finds, Ran, form_reads, index_good, leaf_good, many_good, next_arg, next_arg_l, one_good, own₁, ran_cons, read_form, right4}

module _ (Γ : Setting) where
  -- what lowers a right operand from any state
  abbrev Right : (Hist → Taken (List Value)) → (St → Pair) → Type 0
  Right B right = (s : St) → 1 ≤ s.nxt → Γ.active ≤ s.free → Good Γ (λ R h. B h) s.free s (right s)

  module _ (A : Hist → Taken Value) (B : Hist → Taken (List Value)) (s : St) (p : Par4) (right : St → Pair) (l : 1 ≤ s.nxt) (na : Γ.active ≤ s.free) (g₁ : Good4 Γ (By A) s.free s p) (gr : Right B right) where
    abbrev B₁ : Hist → Taken Value
    B₁ h = first_value (B h)

    form_good : (F : Form) → Good Γ (λ R h. list_of (read_form Γ F A B₁ h)) s.free s (comp_two F s.free p right)
    unfolding comp_two
    form_good (logical c) =
        let fo : (go_if c p).free ≡ s.free = go_if_free c p ∙ own₁ Γ A B s p right l na g₁ gr in
        let g₂ = good_f Γ (By B₁) (go_if c p).free s.free (go_if c p) (dv (right (go_if c p))) fo (right4 Γ A B s p right l na g₁ gr (go_if c p) (omega (nat, g₁.nx, go_if_nxt c p)) (omega (nat, fo))) in
        lift_good Γ (λ R h. log_a c B₁ (A h)) s.free s _ (log_good Γ c A B₁ s.free s p (dv (right (go_if c p))) l na g₁ g₂)
    form_good joining =
        let o₁ = next_op Γ (By A) s.free s p l na g₁ in
        let fx : (nextreg p).free ≡ suc s.free = next_free p ∙ ap suc (own₁ Γ A B s p right l na g₁ gr) in
        cat_good Γ A B₁ s (as_rk (via_reg p)) na l o₁ (ap reg (own₁ Γ A B s p right l na g₁ gr)) fx (dv (right (nextreg p))) (right4 Γ A B s p right l na g₁ gr (nextreg p) (omega (nat, o₁.nx)) (omega (nat, o₁.fr)))
    form_good (arithmetic o) =
        let o₁ = left_op Γ (By A) s.free s p l na g₁ in
        let x = left_of (numeral p) p in
        let l₂ : 1 ≤ x.st.nxt = omega (nat, o₁.nx) in let n₂ : Γ.active ≤ x.st.free = omega (nat, o₁.fr) in
        let g₂ = right4 Γ A B s p right l na g₁ gr x.st l₂ n₂ in
        let q = dv (right x.st) in
        ari_good Γ o A B₁ s na (numeral p) (numeral q) p q o₁ (left_op Γ (By B₁) x.st.free x.st q l₂ n₂ g₂) (rk_op Γ (By B₁) x.st.free x.st q l₂ n₂ g₂)
    form_good (comparing o c w) =
        let o₁ = left_op Γ (By A) s.free s p l na g₁ in
        let x = left_of (numeral p) p in
        let l₂ : 1 ≤ x.st.nxt = omega (nat, o₁.nx) in let n₂ : Γ.active ≤ x.st.free = omega (nat, o₁.fr) in
        cmp_good Γ o c w A B₁ s na (numeral p) p (dv (right x.st)) l₂ n₂ o₁ (right4 Γ A B s p right l na g₁ gr x.st l₂ n₂)
    form_good indexing =
        let o₁ = any_op Γ (By A) s.free s p l na g₁ in
        index_good Γ A B s p (right (anyreg p).st) l na g₁ (gr (anyreg p).st (omega (nat, o₁.nx)) (omega (nat, o₁.fr)))

  module _ (chunk : List ℕ) (names : List Text) (locals : List Value) (finds : (name : List ℕ) → Finds Γ (search_local chunk name names 0) (local_named chunk name names locals)) where
    abbrev reads : Expr → Hist → Taken (List Value)
    reads a = read_expr Γ.world chunk names locals Γ.varargs a

    abbrev reads₁ : Expr → Hist → Taken Value
    reads₁ a h = first_value (reads a h)

    mutual
      unfolding comp comp_args read_expr read_args

      pub comp_good : (a : Expr) (s : St) → 1 ≤ s.nxt → Γ.active ≤ s.free → Good Γ (λ R h. reads a h) s.free s (comp chunk names a s)
      comp_good (leaf_node _ x) s l na = leaf_good Γ chunk names locals finds x s
      comp_good (one_node _ o a) s l na = one_good Γ chunk names locals finds o (reads₁ a) s (dv (comp chunk names a s)) l na (dv_good Γ (λ R h. reads a h) s.free s (comp chunk names a s) (comp_good a s l na))
      comp_good (two_node sp t a b) s l na =
          good_eq Γ (λ R h. list_of (read_form Γ (form_of t) (reads₁ a) (reads₁ b) h)) (λ R h. reads (two_node sp t a b) h) s.free s (comp_two (form_of t) s.free (dv (comp chunk names a s)) (comp chunk names b)) (λ R h. ap list_of (form_reads Γ chunk names locals finds t (reads₁ a) (reads₁ b) h))
          (form_good (reads₁ a) (reads b) s (dv (comp chunk names a s)) (comp chunk names b) l na (dv_good Γ (λ R h. reads a h) s.free s (comp chunk names a s) (comp_good a s l na)) (λ s₂ l₂ n₂. comp_good b s₂ l₂ n₂) (form_of t))
      comp_good (many_node _ m a es) s l na =
          many_good Γ chunk names locals finds m (reads₁ a) (read_args Γ.world chunk names locals Γ.varargs es) s (dv (comp chunk names a s)) (comp_args chunk names es) l na
          (dv_good Γ (λ R h. reads a h) s.free s (comp chunk names a s) (comp_good a s l na)) (λ b n s₂ l₂ nb fs. args_good es b n s₂ l₂ nb fs)

      pub args_good : (es : Exprs) (b n : ℕ) (s : St) → 1 ≤ s.nxt → Γ.active ≤ b → s.free ≡ suc (n + b) → Good Γ (Dargs Γ (read_args Γ.world chunk names locals Γ.varargs es) b n) b s (comp_args chunk names es b n s)
      args_good no_more b n s l na fs = none_good Γ b n s
      args_good (more a no_more) b n s l na fs =
          last_good Γ (reads a) b n s (comp chunk names a s).de.kind (comp chunk names a s).de.tl (comp chunk names a s).de.fl (comp chunk names a s).st l na fs (comp_good a s l (omega nat))
      args_good (more a (more c es)) b n s l na fs =
          let g = comp_good a s l (omega nat) in
          let k = next_arg_l Γ chunk names locals finds (reads a) b n s (comp chunk names a s) l na fs g in
          next_arg Γ chunk names locals finds (reads a) (read_args Γ.world chunk names locals Γ.varargs (more c es)) b n s (comp chunk names a s) (comp_args chunk names (more c es) b (suc n) (nextreg (dv (comp chunk names a s)))) l na fs g
          (args_good (more c es) b (suc n) (nextreg (dv (comp chunk names a s))) k.0 na k.1)

    pub all_ran : (es : Exprs) (f : ℕ) (s : St) → 1 ≤ s.nxt → Γ.active ≤ f → s.free ≡ f → (R : Regs) (h : Hist) → Agree Γ.active Γ.start R → C Γ s ≡ at (Z s) R h → Ran Γ chunk names locals finds es f (comp_all chunk names es s) R h
    unfolding comp_all read_formulas
    all_ran no_more f s l na ef R h ag e = record { rg = R; hs = h; is = e; kept = λ k z. refl; got = refl }
    all_ran (more a es) f s l na ef R h ag e =
        let p = dv (comp chunk names a s) in
        let g = good_f Γ (By (reads₁ a)) s.free f s p ef (dv_good Γ (λ R h. reads a h) s.free s (comp chunk names a s) (comp_good a s l (omega nat))) in
        let fo = freed_own Γ.active p.de.k4 f p.st.free g.own in
        let d = next_res Γ p f f R (reads₁ a h) (labs Γ (By (reads₁ a)) f s p l g) fo (omega nat) na (g.main R h ag e) in
        ran_cons Γ chunk names locals finds a es f (nextreg p) (comp_all chunk names es (nextreg p)) R h d
        (all_ran es (suc f) (nextreg p) (omega (nat, next_nxt p)) (omega nat) (next_free p ∙ ap suc fo) d.rg d.hs (agree_trans Γ.active f Γ.start R d.rg na ag d.kept) d.is)

    pub begun : (es : Exprs) → Ran Γ chunk names locals finds es Γ.active (comp_all chunk names es (begin Γ.active)) Γ.start []
    unfolding cur_c exec size CC
    begun es = all_ran es Γ.active (begin Γ.active) (omega nat) (omega nat) refl Γ.start [] (λ k z. refl) refl
