-- Labels in the code are below the next one: so a new label has no jump yet. Each operation keeps it, since it writes only labels of descriptors and label 0; then by induction on the trees.
-- ---- labels below n
use Rattle.std.specs.Prelude.{ℕ, suc, ◌≤◌, ◌<◌, Bool, not, List}
use Rattle.cursor.specs.declared.Text.{Text}
use Rattle.chunk.specs.Ast.{Expr, leaf as leaf_node, one as one_node, two as two_node, many as many_node, Exprs, none as no_more, more}
use Rattle.model.specs.Values.{folds}
use Rattle.labelled.specs.Emission.{St}
use Rattle.labelled.specs.Discharge.{Pair, Par4, lab, dv, nextreg, anyreg}
use Rattle.labelled.specs.Conditions.{go_if}
use Rattle.labelled.specs.Operators.{numeral, left_of, Form, logical, joining, arithmetic, comparing, indexing, form_of, comp_two}
use Rattle.labelled.specs.Expressions.{callee, before, comp, comp_args}
use Rattle.labelled.specs.Branching.{go_if_nxt}
use Rattle.labelled.specs.Fresh.{New, New4, On, Under, any_on, ari_new, at_least, before_on, call_new, callee_on, cmp_new, dv_new, go_jump_u, here_u, index_new, join_new, keep_on, lab_old, last_new, leaf_new, lift_new, log_new, next_on, one_new}

-- ---- the operations, for any bound n above label 0

module _ (n : ℕ) (pos : 1 ≤ n) where
  abbrev U : St → Type 0
  U s = Under n s.code

  go_u : (c : Bool) (p : Par4) → lab c p.de < n → U p.st → U (go_if c p)
  unfolding go_if
  go_u c p l h = here_u n pos (lab (not c) p.de) _ (go_jump_u n pos c p.de.k4 (lab c p.de) p.st l h)

module _ (n : ℕ) (pos : 1 ≤ n) where
  pub go_on : (c : Bool) (p : Par4) → New4 n p → On n (go_if c p)
  go_on c p o = keep_on n pos p.st (go_if c p) (go_if_nxt c p) o.on (go_u p.st.nxt (at_least n pos p.st o.on) c p (lab_old n pos c p o) o.on.old)

  pub two_new : (F : Form) (f : ℕ) (p : Par4) (right : St → Pair) → New4 n p → ((u : St) → On n u → New n (right u)) → New n (comp_two F f p right)
  unfolding comp_two
  two_new (logical c) f p right o r = lift_new n pos _ (log_new n pos c (lab c p.de) (dv (right (go_if c p))) (dv_new n pos (right (go_if c p)) (r (go_if c p) (go_on c p o))))
  two_new joining f p right o r = join_new n pos f (dv (right (nextreg p))) (dv_new n pos (right (nextreg p)) (r (nextreg p) (next_on n pos p o)))
  two_new (arithmetic a) f p right o r = let x = left_of (numeral p) p in let q = dv (right x.st) in
      ari_new n pos (folds a (numeral p) (numeral q)) a f (numeral p) x q (dv_new n pos (right x.st) (r x.st (before_on n pos (numeral p) p o)))
  two_new (comparing k c w) f p right o r = let x = left_of (numeral p) p in cmp_new n pos k c w f (numeral p) x (dv (right x.st)) (dv_new n pos (right x.st) (r x.st (before_on n pos (numeral p) p o)))
  two_new indexing f p right o r = index_new n pos f (anyreg p).rgn (right (anyreg p).st) (r (anyreg p).st (any_on n pos p o))

-- ---- the trees

module _ (chunk : List ℕ) (names : List Text) where
  module _ (n : ℕ) (pos : 1 ≤ n) where
    mutual
      unfolding comp comp_args

      pub comp_new : (a : Expr) (s : St) → On n s → New n (comp chunk names a s)
      comp_new (leaf_node _ l) s o = leaf_new chunk names n pos l s o
      comp_new (one_node _ x a) s o = one_new chunk names n pos x s.free (dv (comp chunk names a s)) (dv_new n pos (comp chunk names a s) (comp_new a s o))
      comp_new (two_node _ t a b) s o = two_new n pos (form_of t) s.free (dv (comp chunk names a s)) (comp chunk names b) (dv_new n pos (comp chunk names a s) (comp_new a s o)) (λ u v. comp_new b u v)
      comp_new (many_node _ m a es) s o = args_new es s.free (before chunk names m) (callee chunk names m s.free (dv (comp chunk names a s))) (callee_on chunk names n pos m s.free (dv (comp chunk names a s)) (dv_new n pos (comp chunk names a s) (comp_new a s o)))

      pub args_new : (es : Exprs) (b m : ℕ) (s : St) → On n s → New n (comp_args chunk names es b m s)
      args_new no_more b m s o = call_new n pos b m s o
      args_new (more a no_more) b m s o = last_new n pos b m (comp chunk names a s).de.kind (comp chunk names a s) (comp_new a s o)
      args_new (more a (more c es)) b m s o = args_new (more c es) b (suc m) (nextreg (dv (comp chunk names a s))) (next_on n pos (dv (comp chunk names a s)) (dv_new n pos (comp chunk names a s) (comp_new a s o)))
