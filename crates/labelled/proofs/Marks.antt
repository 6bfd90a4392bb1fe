-- Where a list of jumps is patched to here, the last word is no `LoadNil`: so the mark that is put there changes no word. For only a constant leaves the code as it was, and then its lists are new and empty;
-- all else ends in a jump or in a mark.
use Rattle.std.specs.Prelude.{ℕ, ◌≤◌, Bool, not, List}
use Rattle.std.proofs.Math.Bool.{true, false}
use Rattle.std.proofs.Math.Path.{◌≡◌, subst}
use Rattle.std.proofs.Common.{ap, sym, ◌∙◌, arith as nat}
use Rattle.std.proofs.Math.Option.{Option, some}
use Rattle.constants.specs.Entry.{number as knumber}
use Rattle.cursor.specs.declared.Text.{Text}
use Rattle.chunk.specs.Ast.{Expr, leaf as leaf_node, one as one_node, two as two_node, many as many_node}
use Rattle.labelled.specs.Code.{Code}
use Rattle.labelled.specs.Emission.{St, hit}
use Rattle.labelled.specs.Discharge.{Pair, Par4, lab, dv, nextreg, anyreg, exp2rk}
use Rattle.labelled.specs.Conditions.{go_jump, go_if}
use Rattle.labelled.specs.Operators.{numeral, left_of, log₂, Form, logical, joining, arithmetic, comparing, indexing, form_of, comp_two}
use Rattle.labelled.specs.Expressions.{callee, before, comp}
use Rattle.labelled.specs.Firm.{true≢false}
use Rattle.labelled.specs.Fresh.{Fresh, Under, On, New4, dv_new, before_on}
use Rattle.labelled.proofs.Fresh.{comp_new, go_on}
use Rattle.labelled.specs.Marks.{Con, Con4, Quiet, args_never, ari_quiet, cmp_never, dv_quiet, go_quiet, index_never, join_never, jump_quiet, leaf_quiet, lift_quiet, log_quiet, new_none, nil_last, numeral_con, on_self, one_quiet, still, then_quiet, topped}

module _ (n : ℕ) (pos : 1 ≤ n) (b : Code) (u : Under n b) where
  two_quiet : (F : Form) (f : ℕ) (p : Par4) (right : St → Pair) → New4 n p → Con4 b p → ((s : St) → On n s → Con s.code (right s)) → Con b (comp_two F f p right)
  unfolding comp_two
  two_quiet (logical c) f p right o q r =
      let s = go_if c p in
      lift_quiet b (log₂ c (lab c p.de) (dv (right s))) (log_quiet c (lab c p.de) b (dv (right s)) (new_none n pos b u c p o) (λ v e. then_quiet b s.code _ (go_quiet b c p q) (dv_quiet s.code (right s) (r s (go_on n pos c p o)) v e)))
  two_quiet joining f p right o q r = join_never f b (dv (right (nextreg p)))
  two_quiet (arithmetic a) f p right o q r = ari_quiet a (numeral p) (numeral (dv (right (left_of (numeral p) p).st))) f (left_of (numeral p) p) b (dv (right (left_of (numeral p) p).st)) (λ v w e g. both (numeral p) v e w g)
    where
      both : (m : Option ℕ) (v : ℕ) → numeral p ≡ some v → (w : ℕ) → numeral (dv (right (left_of (numeral p) p).st)) ≡ some w → Quiet b (dv (right (left_of (numeral p) p).st)).st.code
      both m v e w g =
          let s = (left_of (numeral p) p).st in
          let first : Quiet b s.code = subst (λ z. Quiet b (left_of z p).st.code) (sym e) (q (knumber v) (numeral_con p v e)) in
          then_quiet b s.code _ first (dv_quiet s.code (right s) (r s (before_on n pos (numeral p) p o)) (knumber w) (numeral_con (dv (right s)) w g))
  two_quiet (comparing k c w) f p right o q r = cmp_never w k c f (numeral p) (left_of (numeral p) p) b (dv (right (left_of (numeral p) p).st))
  two_quiet indexing f p right o q r = index_never f (anyreg p).rgn b (exp2rk (dv (right (anyreg p).st)))

module _ (chunk : List ℕ) (names : List Text) where
  new_at : (a : Expr) (s : St) → 1 ≤ s.nxt → Fresh s → New4 s.nxt (dv (comp chunk names a s))
  new_at a s l h = dv_new s.nxt l (comp chunk names a s) (comp_new chunk names s.nxt l a s (on_self chunk names s h))

  con_quiet : (a : Expr) (s : St) → 1 ≤ s.nxt → Fresh s → Con s.code (comp chunk names a s)
  unfolding comp
  con_quiet (leaf_node _ x) s l h = leaf_quiet chunk names x s
  con_quiet (one_node _ x a) s l h =
      let p = dv (comp chunk names a s) in let o = new_at a s l h in
      one_quiet chunk names x s.free s.code p (new_none s.nxt l s.code h true p o) (new_none s.nxt l s.code h false p o) (dv_quiet s.code (comp chunk names a s) (con_quiet a s l h))
  con_quiet (two_node _ t a b) s l h = two_quiet s.nxt l s.code h (form_of t) s.free (dv (comp chunk names a s)) (comp chunk names b) (new_at a s l h) (dv_quiet s.code (comp chunk names a s) (con_quiet a s l h))
      (λ u o. con_quiet b u (omega (nat, o.up)) o.old)
  con_quiet (many_node _ m a es) s l h = args_never chunk names es s.free (before chunk names m) s.code (callee chunk names m s.free (dv (comp chunk names a s)))

  -- MARKS: where goiftrue or goiffalse patches a list that has jumps to here, the last word is no `LoadNil`
  pub marks_plain : (a : Expr) (s : St) → 1 ≤ s.nxt → Fresh s → (c : Bool) (p : Par4) → p ≡ dv (comp chunk names a s) → (m : ℕ) → m ≡ lab (not c) p.de → (u : St) → u ≡ go_jump c p.de.k4 (lab c p.de) p.st →
      hit false m m u.code ≡ true → nil_last u.code ≡ false
  marks_plain a s l h c p ep m em u eu e = go (jump_quiet s.code c p.de.k4 (lab c p.de) p.st (subst (Con4 s.code) (sym ep) (dv_quiet s.code (comp chunk names a s) (con_quiet a s l h))))
    where
      unhit : hit false m m s.code ≡ false
      unhit = rw em (new_none s.nxt l s.code h (not c) p (subst (New4 s.nxt) (sym ep) (new_at a s l h)))

      go : Quiet s.code (go_jump c p.de.k4 (lab c p.de) p.st).code → nil_last u.code ≡ false
      go (topped t) = ap (λ z. nil_last z.code) eu ∙ t
      go (still f q) = absurd (true≢false (sym e ∙ ap (λ z. hit false m m z.code) eu ∙ f m unhit))
