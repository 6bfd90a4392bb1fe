-- Operators, calls and nodes keep the constants in order, by induction on the trees; so the labelled code of all formulas has every constant listed, RK constants at most at 255, none twice.
-- ---- conditions
use Prim.Native.Nat.{ℕ, suc, ◌+◌, ◌≤◌}
use Rattle.std.specs.Prelude.{Bool, not, ◌≡◌, refl, List, [], length}
use Rattle.std.proofs.Common.{◌∙◌, subst}
use native.Mathlib.Omega.{arith as nat}
use Rattle.cursor.specs.declared.Text.{Text}
use Rattle.chunk.specs.Ast.{Expr, leaf as leaf_node, one as one_node, two as two_node, many as many_node, Exprs, none as no_more, more}
use Rattle.model.specs.Values.{Value, Taken, folds}
use Rattle.labelled.specs.Code.{CT, cbase}
use Rattle.labelled.specs.Places.{Distinct, distinct_empty}
use Rattle.labelled.specs.Emission.{St, flush}
use Rattle.labelled.specs.Discharge.{kcl, Pair, Par4, lab, dv, nextreg, anyreg}
use Rattle.labelled.specs.Conditions.{go_jump, go_if}
use Rattle.labelled.specs.Operators.{numeral, left_of, Form, logical, joining, arithmetic, comparing, indexing, form_of, comp_two}
use Rattle.labelled.specs.Expressions.{callee, before, comp, comp_args, comp_all, begin, labelled}
use Rattle.model.specs.Reading.{read_expr}
use Rattle.labelled.specs.Machine.{Hist, Regs, first_value}
use Rattle.labelled.specs.Owning.{Own}
use Rattle.labelled.specs.Settling.{next_free, next_nxt}
use Rattle.labelled.specs.Branching.{go_if_nxt, go_if_free}
use Rattle.labelled.specs.Good.{Good4, dv_good}
use Rattle.labelled.specs.Operands.{next_op, any_op}
use Rattle.labelled.specs.Binary.{left_op}
use Rattle.labelled.specs.Faithful.{next_arg_l}
use Rattle.labelled.specs.Locals.{finds}
use Rattle.labelled.specs.Shape.{silent, blank, each, quiet}
use Rattle.labelled.proofs.Shape.{comp_quiet, comp_shaped}
use Rattle.labelled.specs.Sound.{Ok, OkK4, To, then_to, same_to, flush_to, here_to, Makes, Makes4, dv_makes, lift_makes}
use Rattle.labelled.specs.Listing.{ari_makes, call_makes, callee_makes, callee_on, cmp_makes, free_own, from_any, from_makes, go_jump_to, index_makes, join_makes, last_makes, leaf_makes, left_grow, left_makes, log_makes, na, next_makes, one_makes, waiting}

go_to : (c : Bool) (p : Par4) → OkK4 p.st.tab p.de.k4 → To p.st (go_if c p)
unfolding go_if
go_to c p o = let s₁ = go_jump c p.de.k4 (lab c p.de) p.st in then_to p.st s₁ _ (go_jump_to c p.de.k4 (lab c p.de) p.st o) (here_to (lab (not c) p.de) s₁)

module _ (chunk : List ℕ) (names : List Text) where
  -- the right operand is lowered where there are labels, and above the locals
  abbrev Right : (St → Pair) → Type 0
  Right right = (u : St) → 1 ≤ u.nxt → length names ≤ u.free → Makes u (right u)

  module _ (s : St) (p : Par4) (D : Regs → Hist → Taken Value) (l : 1 ≤ s.nxt) (nb : length names ≤ s.free) (m : Makes4 s p) (g : Good4 (quiet chunk names) D s.free s p) where
    two_makes : (F : Form) (right : St → Pair) → Right right → Makes s (comp_two F s.free p right)
    unfolding comp_two
    two_makes (logical c) right r =
        let u = go_if c p in
        lift_makes s _ (log_makes c (lab c p.de) s (dv (right u)) (from_makes s u (right u) (then_to s p.st _ m.way (go_to c p m.kind_ok)) (r u (omega (nat, l, g.nx, go_if_nxt c p)) (omega (nat, nb, free_own chunk names s p D l nb m g, go_if_free c p)))))
    two_makes joining right r =
        let o = next_op (quiet chunk names) D s.free s p l (na chunk names s p D l nb m g) g in
        join_makes s.free s (dv (right (nextreg p))) (from_makes s (nextreg p) (right (nextreg p)) (next_makes s p m) (r (nextreg p) (omega (nat, l, o.nx)) (omega (nat, nb, o.fr))))
    two_makes (arithmetic o) right r =
        let n = numeral p in let x = left_of n p in
        let h = left_op (quiet chunk names) D s.free s p l (na chunk names s p D l nb m g) g in
        let a = left_makes n p m.kind_ok in
        let b = from_makes x.st x.st (right x.st) (same_to x.st) (r x.st (omega (nat, l, h.nx)) (omega (nat, nb, h.fr))) in
        let q = dv (right x.st) in
        ari_makes (folds o n (numeral q)) o s.free n x s q (left_grow n x.st.tab q.st.tab x.rkv b.way.grows a.left_ok) (record { way = then_to s x.st _ (then_to s p.st _ m.way a.way) b.way; kind_ok = b.kind_ok })
    two_makes (comparing o c w) right r =
        let n = numeral p in let x = left_of n p in
        let h = left_op (quiet chunk names) D s.free s p l (na chunk names s p D l nb m g) g in
        let a = left_makes n p m.kind_ok in
        let b = from_makes x.st x.st (right x.st) (same_to x.st) (r x.st (omega (nat, l, h.nx)) (omega (nat, nb, h.fr))) in
        let q = dv (right x.st) in
        cmp_makes o c w s.free n x s q (left_grow n x.st.tab q.st.tab x.rkv b.way.grows a.left_ok) (waiting n p) (record { way = then_to s x.st _ (then_to s p.st _ m.way a.way) b.way; kind_ok = b.kind_ok })
    two_makes indexing right r =
        let o = any_op (quiet chunk names) D s.free s p l (na chunk names s p D l nb m g) g in
        index_makes s.free (anyreg p).rgn s (anyreg p).st (right (anyreg p).st) (from_any chunk names s p D l nb m g) (r (anyreg p).st (omega (nat, l, o.nx)) (omega (nat, nb, o.fr)))

  -- an expression's descriptor, discharged, for the silent outside
  quiet4 : (a : Expr) (s : St) (l : 1 ≤ s.nxt) (nb : length names ≤ s.free) → Good4 (quiet chunk names) (λ R h. first_value (read_expr silent chunk names (blank chunk names) [] a h)) s.free s (dv (comp chunk names a s))
  quiet4 a s l nb = dv_good (quiet chunk names) _ s.free s (comp chunk names a s) (comp_quiet chunk names a s l nb)

  -- a call that is the last argument has its function right behind the others
  last_base : (a : Expr) (b n : ℕ) (s : St) → 1 ≤ s.nxt → length names ≤ b → s.free ≡ suc (n + b) → (t : CT) → (comp chunk names a s).de.kind ≡ kcl t → cbase t ≡ suc (n + b)
  last_base a b n s l nb e t k = (subst (λ z. Own (length names) s.free z (comp chunk names a s).st.free) k (comp_shaped chunk names a s l (omega nat)).own).0 ∙ e

  mutual
    unfolding comp comp_args

    pub comp_makes : (a : Expr) (s : St) → 1 ≤ s.nxt → length names ≤ s.free → Makes s (comp chunk names a s)
    comp_makes (leaf_node _ x) s l nb = leaf_makes chunk names x s
    comp_makes (one_node _ o a) s l nb = one_makes chunk names o s.free s (dv (comp chunk names a s)) (dv_makes s (comp chunk names a s) (comp_makes a s l nb))
    comp_makes (two_node _ t a b) s l nb = two_makes s (dv (comp chunk names a s)) _ l nb (dv_makes s (comp chunk names a s) (comp_makes a s l nb)) (quiet4 a s l nb) (form_of t) (comp chunk names b) (λ u lu nu. comp_makes b u lu nu)
    comp_makes (many_node _ m a es) s l nb =
        let u = callee chunk names m s.free (dv (comp chunk names a s)) in
        let d = dv_makes s (comp chunk names a s) (comp_makes a s l nb) in
        let k = callee_on chunk names s (dv (comp chunk names a s)) _ l nb d (quiet4 a s l nb) m in
        let r = args_makes es s.free (before chunk names m) u k.0 nb k.1 in
        record { way = then_to s u _ (callee_makes chunk names m s.free s (dv (comp chunk names a s)) d) r.way; kind_ok = r.kind_ok }

    pub args_makes : (es : Exprs) (b n : ℕ) (s : St) → 1 ≤ s.nxt → length names ≤ b → s.free ≡ suc (n + b) → Makes s (comp_args chunk names es b n s)
    args_makes no_more b n s l nb e = call_makes b n s s (same_to s)
    args_makes (more a no_more) b n s l nb e = last_makes b n (comp chunk names a s).de.kind s (comp chunk names a s) refl (last_base a b n s l nb e) (comp_makes a s l (omega nat))
    args_makes (more a (more c es)) b n s l nb e =
        let u = nextreg (dv (comp chunk names a s)) in
        let k = next_arg_l (quiet chunk names) chunk names (blank chunk names) (finds silent chunk names (blank chunk names) [] (each chunk names)) _ b n s (comp chunk names a s) l (omega (nat, nb, each chunk names)) e (comp_quiet chunk names a s l (omega nat)) in
        let r = args_makes (more c es) b (suc n) u k.0 nb k.1 in
        record { way = then_to s u _ (next_makes s (dv (comp chunk names a s)) (dv_makes s (comp chunk names a s) (comp_makes a s l (omega nat)))) r.way; kind_ok = r.kind_ok }

  pub all_makes : (es : Exprs) (s : St) → 1 ≤ s.nxt → length names ≤ s.free → To s (comp_all chunk names es s)
  unfolding comp_all
  all_makes no_more s l nb = same_to s
  all_makes (more a es) s l nb =
      let p = dv (comp chunk names a s) in
      let d = dv_makes s (comp chunk names a s) (comp_makes a s l nb) in
      then_to s (nextreg p) _ (next_makes s p d) (all_makes es (nextreg p) (omega (nat, next_nxt p)) (omega (nat, nb, next_free p, free_own chunk names s p _ l nb d (quiet4 a s l nb))))

  -- THE CONSTANTS AND THE CALLS of the labelled code of all formulas
  made : (fs : Exprs) → To (begin (length names)) (labelled chunk names fs)
  made fs = let s = comp_all chunk names fs (begin (length names)) in then_to (begin (length names)) s (flush s) (all_makes fs (begin (length names)) (omega nat) (omega nat)) (flush_to s)

  pub all_listed : (fs : Exprs) → Ok (labelled chunk names fs).tab (labelled chunk names fs).code
  all_listed fs = (made fs).ok tt

  pub all_once : (fs : Exprs) → Distinct (labelled chunk names fs).tab
  all_once fs = (made fs).once distinct_empty
