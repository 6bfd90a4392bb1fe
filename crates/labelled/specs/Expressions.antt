-- Labelled lowering of expressions and argument lists, over the chunk's trees (model's Expressions and Lowering). Assumes nothing.
use Rattle.std.specs.Prelude.{ℕ, suc, ◌+◌, true, false, List, [], length}
use Rattle.std.proofs.Math.Option.{Option, some, none}
use Rattle.folding.specs.declared.Arith.TheVariants as arith
use Rattle.constants.specs.Entry.{nil, truth, number, text}
use Rattle.cursor.specs.Fields.{bytes_of}
use Rattle.cursor.specs.declared.Text.{Text}
use Rattle.ast.specs.declared.UnOp.TheVariants as un
use Rattle.ast.specs.declared.Leaf.{Leaf}
use Rattle.ast.specs.declared.Leaf.TheVariants as leaf
use Rattle.ast.specs.declared.One.{One}
use Rattle.ast.specs.declared.One.TheVariants as one
use Rattle.ast.specs.declared.Many.{Many}
use Rattle.ast.specs.declared.Many.TheVariants as many
use Rattle.chunk.specs.Ast.{Expr, leaf as leaf_node, one as one_node, two as two_node, many as many_node, Exprs, none as no_more, more}
use Rattle.model.specs.Values.{folds}
use Rattle.model.specs.Expressions.{search_local}
use Rattle.labelled.specs.Code.{cfix, cva, cct, selfw, pl}
use Rattle.labelled.specs.Table.{is_near}
use Rattle.labelled.specs.Emission.{St, set_free, labelled_with_free, add_k, flush, push}
use Rattle.labelled.specs.Discharge.{K, kd, kl, kg, ki, kcl, kva, kc, Pair, Par4, RkS, RgS, fresh, lift4, dv, nextreg, anyreg, exp2rk, late}
use Rattle.labelled.specs.Conditions.{labelled_code_not}
use Rattle.labelled.specs.Operators.{numeral, neg_join, len_join, form_of, indexed, comp_two}

-- a text as a key or a value: it is added to the constants at once
abbrev pub text_c : List ℕ → St → Pair
text_c t s = fresh (kd (kc (text t))) s.free (add_k (text t) s)

-- ---- calls

-- the call with b the function's register and n arguments behind it
abbrev pub labelled_closed_call : ℕ → ℕ → St → Pair
labelled_closed_call b n s = fresh (kcl (cfix b n)) (suc b) (flush s)

-- a call's last argument, behind n others
unfoldable pub last_arg : ℕ → ℕ → K → Pair → Pair
last_arg b n (kd k) p = labelled_closed_call b (suc n) (nextreg (dv p))
last_arg b n (kl r) p = labelled_closed_call b (suc n) (nextreg (dv p))
last_arg b n (kg g) p = labelled_closed_call b (suc n) (nextreg (dv p))
last_arg b n (ki f t x) p = labelled_closed_call b (suc n) (nextreg (dv p))
last_arg b n (kcl t) p = fresh (kcl (cct b n t)) (suc b) p.st
last_arg b n kva p = fresh (kcl (cva b n)) (suc b) p.st

-- `code_self`: the key, a text, in RK or in a register above the two that are taken
abbrev pub self_s : RkS → RgS → ℕ → St
self_s k x f = labelled_with_free (push (pl (selfw f x.rgn k.rkv)) k.st) (2 + f) k.st.nxt

unfoldable pub labelled_code_self : List ℕ → RgS → ℕ → St
labelled_code_self t x f = self_s (late (is_near (text t) x.st.tab) (text t) (set_free (2 + f) (add_k (text t) x.st))) x f

-- ---- nodes

module _ (chunk : List ℕ) (names : List Text) where
  -- a local by its last name, else a global
  abbrev pub resolved : List ℕ → Option ℕ → St → Pair
  resolved name (some r) s = fresh (kl r) s.free s
  resolved name none s = fresh (kg name) s.free (add_k (text name) s)

  unfoldable pub comp_leaf : Leaf → St → Pair
  comp_leaf leaf.Nil s = fresh (kd (kc nil)) s.free s
  comp_leaf leaf.True s = fresh (kd (kc (truth true))) s.free s
  comp_leaf leaf.False s = fresh (kd (kc (truth false))) s.free s
  comp_leaf (leaf.Number b) s = fresh (kd (kc (number b))) s.free s
  comp_leaf (leaf.Str t) s = text_c (bytes_of chunk t) s
  comp_leaf leaf.VarArg s = fresh kva s.free (flush s)
  comp_leaf (leaf.Name t) s = resolved (bytes_of chunk t) (search_local chunk (bytes_of chunk t) names 0) s

  -- behind the sub-expression p, f registers being taken before it
  unfoldable pub comp_one : One → ℕ → Par4 → Pair
  comp_one (one.Unary un.Neg) f p = neg_join (folds arith.Unm (numeral p) (numeral p)) f p
  comp_one (one.Unary un.Not) f p = lift4 (labelled_code_not p)
  comp_one (one.Unary un.Len) f p = len_join f p
  comp_one (one.Field t) f p = let x = anyreg p in indexed f x.rgn (exp2rk (dv (text_c (bytes_of chunk t) x.st)))
  comp_one one.Paren f p = lift4 p

  -- the function, with the object behind it for a method; and how many arguments that makes
  unfoldable pub callee : Many → ℕ → Par4 → St
  callee many.Call f p = nextreg p
  callee (many.MethodCall t) f p = labelled_code_self (bytes_of chunk t) (anyreg p) f

  abbrev pub before : Many → ℕ
  before many.Call = 0
  before (many.MethodCall t) = 1

  unfoldable mutual
    pub comp : Expr → St → Pair
    comp (leaf_node _ l) s = comp_leaf l s
    comp (one_node _ o a) s = comp_one o s.free (dv (comp a s))
    comp (two_node _ t a b) s = comp_two (form_of t) s.free (dv (comp a s)) (comp b)
    comp (many_node _ m a es) s = comp_args es s.free (before m) (callee m s.free (dv (comp a s)))

    -- arguments, n of which stand behind the function's register b
    pub comp_args : Exprs → ℕ → ℕ → St → Pair
    comp_args no_more b n s = labelled_closed_call b n s
    comp_args (more a no_more) b n s = let p = comp a s in last_arg b n p.de.kind p
    comp_args (more a (more c es)) b n s = comp_args (more c es) b (suc n) (nextreg (dv (comp a s)))

  -- each formula to the next register
  unfoldable pub comp_all : Exprs → St → St
  comp_all no_more s = s
  comp_all (more a es) s = comp_all es (nextreg (dv (comp a s)))

-- no words, the locals' registers taken, label 0 for the jumps to here, no constants
abbrev pub begin : ℕ → St
begin n = record { code = []; free = n; nxt = 1; tab = [] }

-- the labelled code of all formulas, with its constants; the jumps to the word behind it lead there
abbrev pub labelled : List ℕ → List Text → Exprs → St
labelled chunk names fs = flush (comp_all chunk names fs (begin (length names)))
