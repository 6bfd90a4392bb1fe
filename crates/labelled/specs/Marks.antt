-- Where a list of jumps is patched to here, the last word is no `LoadNil`: so the mark that is put there changes no word. For only a constant leaves the code as it was, and then its lists are new and empty;
-- all else ends in a jump or in a mark.
-- What rests on something that a must-fail edit breaks stands in proofs/Marks.antt.
use Rattle.folding.specs.Numeral.{Fold}
use Rattle.std.specs.Prelude.{ℕ, suc, ◌≤◌, Bool, not, ◌||◌, ◌&&◌, refl, List, [], ◌∷◌, Some, None}
use Rattle.std.proofs.Math.Bool.{true, false}
use Rattle.std.proofs.Math.Path.{◌≡◌, subst}
use Rattle.std.proofs.Common.{ap, sym, ◌∙◌, arith as nat}
use Rattle.std.proofs.Math.Option.{Option, some, none}
use Rattle.folding.specs.declared.Arith.{Arith}
use Rattle.folding.specs.declared.Arith.TheVariants as arith
use Rattle.constants.specs.Entry.{Constant, nil as knil, truth as ktruth, number as knumber, text as ktext}
use Rattle.cursor.specs.Fields.{bytes_of}
use Rattle.cursor.specs.declared.Text.{Text}
use Rattle.ast.specs.declared.UnOp.TheVariants as un
use Rattle.ast.specs.declared.Leaf.{Leaf}
use Rattle.ast.specs.declared.Leaf.TheVariants as leaf
use Rattle.ast.specs.declared.One.{One}
use Rattle.ast.specs.declared.One.TheVariants as one_of_lem
use Rattle.chunk.specs.Ast.{Exprs, none as no_more, more}
use Rattle.model.specs.Values.{value_of, is_true, StepKind, folds}
use Rattle.model.specs.Expressions.{search_local}
use Rattle.model.specs.Running.{same as agrees}
use Rattle.labelled.specs.Code.{same, Ex, val, cp, glob, idx, ari, neg, len, notx, cat, vfst, Ctrl, always, test, tset, tseta, cmp, to, lbl, setw, lbs, mark, nilw, callw, selfw, pl, br, Code, Act, keep, land, re, ed_br, edit}
use Rattle.labelled.specs.Machine.{pick}
use Rattle.labelled.specs.Emission.{St, one, push, labelled_emit_jump, relabel, strip, hit, here_if, labelled_to_here}
use Rattle.labelled.specs.Discharge.{K4, kc, kr, kx, kj, K, kd, kl, kg, ki, kcl, kva, Pair, Par4, RkS, lab, fresh, lift4, dv_k, dv_s, dv, nextreg, anyreg, exp2rk}
use Rattle.labelled.specs.Conditions.{on_load, on_x, is_bool, go_con, go_jump, go_if, not_k, not_s, labelled_code_not}
use Rattle.labelled.specs.Operators.{num_c, num_k, numeral, ari_join, cmp_join, neg_join, len_join, log₂, cat_x, cat_k, join_c, indexed}
use Rattle.labelled.specs.Expressions.{text_c, labelled_closed_call, last_arg, resolved, comp_leaf, comp_one, comp, comp_args}
use Rattle.labelled.specs.Firm.{true≢false}
use Rattle.labelled.specs.Fresh.{Fresh, Under, under_none, On, New4}

-- the last word is a `LoadNil`
abbrev pub nil_last : Code → Bool
nil_last [] = false
nil_last (pl (nilw a k) ∷ c) = true
nil_last (pl (setw a x) ∷ c) = false
nil_last (pl (lbs a b) ∷ c) = false
nil_last (pl mark ∷ c) = false
nil_last (pl (callw t) ∷ c) = false
nil_last (pl (selfw a o k) ∷ c) = false
nil_last (br d t ∷ c) = false

-- no label gets its first jump, and the last word stays as it is; or the last word is no `LoadNil`
pub data Quiet (c c' : Code) : Type 0 where
  still : ((ℓ : ℕ) → hit false ℓ ℓ c ≡ false → hit false ℓ ℓ c' ≡ false) → nil_last c' ≡ nil_last c → Quiet c c'
  topped : nil_last c' ≡ false → Quiet c c'

same_quiet : (c : Code) → Quiet c c
same_quiet c = still (λ ℓ h. h) refl

pub then_quiet : (c d e : Code) → Quiet c d → Quiet d e → Quiet c e
then_quiet c d e q (topped t) = topped t
then_quiet c d e (still f a) (still g b) = still (λ ℓ h. g ℓ (f ℓ h)) (b ∙ a)
then_quiet c d e (topped t) (still g b) = topped (b ∙ t)

-- ---- edits

last_br : (a : Act) (d : Ctrl) (ℓ : ℕ) (c : Code) → nil_last (ed_br a d ℓ ∷ c) ≡ false
last_br keep d ℓ c = refl
last_br (land v r t) always ℓ c = refl
last_br (land v r t) (test x y) ℓ c = refl
last_br (land v r t) (tset x y) ℓ c = refl
last_br (land v r t) (tseta x y u) ℓ c = refl
last_br (land v r t) (cmp o y x u) ℓ c = refl
last_br (re m false) d ℓ c = refl
last_br (re m true) always ℓ c = refl
last_br (re m true) (test x y) ℓ c = refl
last_br (re m true) (tset x y) ℓ c = refl
last_br (re m true) (tseta x y u) ℓ c = refl
last_br (re m true) (cmp o y x u) ℓ c = refl

last_edit : (g : ℕ → Act) (c : Code) → nil_last (edit g c) ≡ nil_last c
unfolding edit
last_edit g [] = refl
last_edit g (pl (nilw a k) ∷ c) = refl
last_edit g (pl (setw a x) ∷ c) = refl
last_edit g (pl (lbs a b) ∷ c) = refl
last_edit g (pl mark ∷ c) = refl
last_edit g (pl (callw t) ∷ c) = refl
last_edit g (pl (selfw a o k) ∷ c) = refl
last_edit g (br d (to p) ∷ c) = refl
last_edit g (br d (lbl ℓ) ∷ c) = last_br (g ℓ) d ℓ (edit g c)

-- an edit of a label that has no jump changes nothing
absent : (a : ℕ) (x : Act) (c : Code) → hit false a a c ≡ false → edit (one a x) c ≡ c
unfolding edit hit
absent a x [] h = refl
absent a x (pl w ∷ c) h = ap (λ z. pl w ∷ z) (absent a x c h)
absent a x (br d (to p) ∷ c) h = ap (λ z. br d (to p) ∷ z) (absent a x c h)
absent a x (br d (lbl ℓ) ∷ c) h = go (same ℓ a) refl h (absent a x c)
  where
    go : (t : Bool) → same ℓ a ≡ t → (((t || t) && true) || hit false a a c) ≡ false → (hit false a a c ≡ false → edit (one a x) c ≡ c) → ed_br (pick (same ℓ a) x keep) d ℓ ∷ edit (one a x) c ≡ br d (lbl ℓ) ∷ c
    go true e q r = absurd (true≢false q)
    go false e q r = rw e (ap (λ z. br d (lbl ℓ) ∷ z) (r q))

edit_quiet : (a : ℕ) (x : Act) (c d : Code) → hit false a a c ≡ false → Quiet c d → Quiet c (edit (one a x) d)
edit_quiet a x c d h (still f e) = subst (Quiet c) (sym (absent a x d (f a h))) (still f e)
edit_quiet a x c d h (topped t) = topped (last_edit (one a x) d ∙ t)

-- ---- constants

dv_con : (k : K) (c : Constant) → dv_k k ≡ kc c → k ≡ kd (kc c)
dv_con (kd k) c e = ap kd e
dv_con (kl r) c e = absurd (let z : ◌≡◌ {A = ℕ} 0 1 = cc in omega nat)
dv_con (kg g) c e = absurd (let z : ◌≡◌ {A = ℕ} 0 1 = cc in omega nat)
dv_con (ki f t x) c e = absurd (let z : ◌≡◌ {A = ℕ} 0 1 = cc in omega nat)
dv_con (kcl t) c e = absurd (let z : ◌≡◌ {A = ℕ} 0 1 = cc in omega nat)
dv_con kva c e = absurd (let z : ◌≡◌ {A = ℕ} 0 1 = cc in omega nat)

dv_code : (k k' : K) (j : K4) (s : St) → k ≡ k' → k' ≡ kd j → (dv_s k s).code ≡ s.code
unfolding dv_s
dv_code k k' j s e q = ap (λ z. (dv_s z s).code) (e ∙ q)

num_con : (c : Constant) (v : ℕ) → num_c c ≡ some v → c ≡ knumber v
num_con knil v e = absurd (let z : ◌≡◌ {A = ℕ} 0 1 = cc in omega nat)
num_con (ktruth b) v e = absurd (let z : ◌≡◌ {A = ℕ} 0 1 = cc in omega nat)
num_con (knumber m) v e = cc
num_con (ktext t) v e = absurd (let z : ◌≡◌ {A = ℕ} 0 1 = cc in omega nat)

numeral_con₁ : (t : Bool) (k : K4) (v : ℕ) → num_k t k ≡ some v → k ≡ kc (knumber v)
numeral_con₁ true k v e = absurd (let z : ◌≡◌ {A = ℕ} 0 1 = cc in omega nat)
numeral_con₁ false (kc c) v e = ap kc (num_con c v e)
numeral_con₁ false (kr u r) v e = absurd (let z : ◌≡◌ {A = ℕ} 0 1 = cc in omega nat)
numeral_con₁ false (kx x) v e = absurd (let z : ◌≡◌ {A = ℕ} 0 1 = cc in omega nat)
numeral_con₁ false (kj o c x y) v e = absurd (let z : ◌≡◌ {A = ℕ} 0 1 = cc in omega nat)

pub numeral_con : (p : Par4) (v : ℕ) → numeral p ≡ some v → p.de.k4 ≡ kc (knumber v)
unfolding numeral
numeral_con p v e = numeral_con₁ (hit false p.de.tl p.de.fl p.st.code) p.de.k4 v e

-- what is lowered to a constant from the code c was quiet
abbrev pub Con : Code → Pair → Type 0
Con c p = (v : Constant) → p.de.kind ≡ kd (kc v) → Quiet c p.st.code

abbrev pub Con4 : Code → Par4 → Type 0
Con4 c p = (v : Constant) → p.de.k4 ≡ kc v → Quiet c p.st.code

pub dv_quiet : (c : Code) (p : Pair) → Con c p → Con4 c (dv p)
dv_quiet c p q v e = let k = dv_con p.de.kind v e in subst (Quiet c) (sym (dv_code p.de.kind p.de.kind (kc v) p.st refl k)) (q v k)

pub lift_quiet : (c : Code) (p : Par4) → Con4 c p → Con c (lift4 p)
lift_quiet c p q v e = q v (un_kd e)
  where
    of_k : K → K4
    of_k (kd k) = k
    of_k (kl r) = p.de.k4
    of_k (kg g) = p.de.k4
    of_k (ki f t x) = p.de.k4
    of_k (kcl t) = p.de.k4
    of_k kva = p.de.k4

    un_kd : kd p.de.k4 ≡ kd (kc v) → p.de.k4 ≡ kc v
    un_kd z = ap of_k z

-- no other kind is a constant
x_never : {A : Type 0} (x : Ex) (v : Constant) → kd (kx x) ≡ kd (kc v) → A
x_never x v e = absurd (let z : ◌≡◌ {A = ℕ} 0 1 = cc in omega nat)

-- ---- conditions

-- a jump is emitted, or a constant leaves all as it is
data Jumped (c : Bool) (k : K4) (m : ℕ) (s : St) : Type 0 where
  none_emitted : (v : Constant) → k ≡ kc v → go_jump c k m s ≡ s → Jumped c k m s
  emitted : nil_last (go_jump c k m s).code ≡ false → Jumped c k m s

con_jumped : (t u c : Bool) (v : Constant) (m : ℕ) (s : St) → go_jump c (kc v) m s ≡ go_con t u c v m s → Jumped c (kc v) m s
unfolding labelled_emit_jump on_load push
con_jumped false u c v m s e = none_emitted v refl e
con_jumped true true c v m s e = emitted (ap (λ z. nil_last z.code) e)
con_jumped true false c v m s e = emitted (ap (λ z. nil_last z.code) e)

jumped : (c : Bool) (k : K4) (m : ℕ) (s : St) → Jumped c k m s
unfolding go_jump on_x on_load push
jumped c (kc v) m s = con_jumped (agrees (is_true (value_of v)) c) (is_bool v) c v m s refl
jumped c (kr u r) m s = emitted refl
jumped c (kx (val v)) m s = emitted refl
jumped c (kx (cp r)) m s = emitted refl
jumped c (kx (glob g)) m s = emitted refl
jumped c (kx (idx t k)) m s = emitted refl
jumped c (kx (ari o x y)) m s = emitted refl
jumped c (kx (neg r)) m s = emitted refl
jumped c (kx (len r)) m s = emitted refl
jumped c (kx (notx r)) m s = emitted refl
jumped c (kx (cat b k)) m s = emitted refl
jumped c (kx vfst) m s = emitted refl
jumped c (kj o d x y) m s = emitted refl

here_quiet : (m : ℕ) (s : St) → Quiet s.code (labelled_to_here m s).code
unfolding labelled_to_here
here_quiet m s = go (hit false m m s.code)
  where
    go : (b : Bool) → Quiet s.code (here_if b m s).code
    go true = topped refl
    go false = same_quiet s.code

pub jump_quiet : (b : Code) (c : Bool) (k : K4) (m : ℕ) (s : St) → ((v : Constant) → k ≡ kc v → Quiet b s.code) → Quiet b (go_jump c k m s).code
jump_quiet b c k m s q = go (jumped c k m s)
  where
    go : Jumped c k m s → Quiet b (go_jump c k m s).code
    go (none_emitted v e z) = subst (λ u. Quiet b u.code) (sym z) (q v e)
    go (emitted t) = topped t

pub go_quiet : (b : Code) (c : Bool) (p : Par4) → Con4 b p → Quiet b (go_if c p).code
unfolding go_if
go_quiet b c p q = let u = go_jump c p.de.k4 (lab c p.de) p.st in then_quiet b u.code _ (jump_quiet b c p.de.k4 (lab c p.de) p.st q) (here_quiet (lab (not c) p.de) u)

-- ---- operators

not_con : (k : K4) (r : ℕ) (v : Constant) → not_k k r ≡ kc v → (u : Constant) × (k ≡ kc u)
not_con (kc u) r v e = (u, refl)
not_con (kr u k) r v e = absurd (let z : ◌≡◌ {A = ℕ} 0 1 = cc in omega nat)
not_con (kx x) r v e = absurd (let z : ◌≡◌ {A = ℕ} 0 1 = cc in omega nat)
not_con (kj o c x y) r v e = absurd (let z : ◌≡◌ {A = ℕ} 0 1 = cc in omega nat)

not_s_con : (k : K4) (u : Constant) (s : St) → k ≡ kc u → not_s k s ≡ s
unfolding not_s
not_s_con k u s e = ap (λ z. not_s z s) e

not_quiet : (b : Code) (p : Par4) → hit false p.de.tl p.de.tl b ≡ false → hit false p.de.fl p.de.fl b ≡ false → Con4 b p → Con4 b (labelled_code_not p)
unfolding labelled_code_not strip
not_quiet b p t f q v e =
    let (u, k) = not_con p.de.k4 p.st.free v e in
    edit_quiet p.de.fl (re p.de.fl true) b _ f (edit_quiet p.de.tl (re p.de.tl true) b _ t (subst (λ z. Quiet b z.code) (sym (not_s_con p.de.k4 u p.st k)) (q u k)))

neg_quiet : (n : Option ℕ) (f : ℕ) (b : Code) (p : Par4) → ((v : ℕ) → n ≡ some v → Quiet b p.st.code) → Con b (neg_join (folds arith.Unm n n) f p)
unfolding neg_join fresh
neg_quiet none f b p q v e = x_never _ v e
neg_quiet (some m) f b p q v e = go (folds arith.Unm (some m) (some m)) e
  where
    go : (z : Fold) → (neg_join z f p).de.kind ≡ kd (kc v) → Quiet b (neg_join z f p).st.code
    go None e = x_never _ v e
    go (Some z) e = q m refl

pub ari_quiet : (o : Arith) (n m : Option ℕ) (f : ℕ) (x : RkS) (b : Code) (p : Par4) → ((v u : ℕ) → n ≡ some v → m ≡ some u → Quiet b p.st.code) → Con b (ari_join (folds o n m) o f n x p)
unfolding ari_join fresh
ari_quiet o none none f x b p q v e = x_never _ v e
ari_quiet o none (some u) f x b p q v e = x_never _ v e
ari_quiet o (some w) none f x b p q v e = x_never _ v e
ari_quiet o (some w) (some u) f x b p q v e = go (folds o (some w) (some u)) e
  where
    go : (z : Fold) → (ari_join z o f (some w) x p).de.kind ≡ kd (kc v) → Quiet b (ari_join z o f (some w) x p).st.code
    go None e = x_never _ v e
    go (Some z) e = q w u refl refl

pub cmp_never : (w : Bool) (k : StepKind) (c : Bool) (f : ℕ) (n : Option ℕ) (x : RkS) (b : Code) (p : Par4) → Con b (cmp_join k c w f n x p)
unfolding cmp_join fresh
cmp_never true k c f n x b p v e = absurd (let z : ◌≡◌ {A = ℕ} 0 1 = cc in omega nat)
cmp_never false k c f n x b p v e = absurd (let z : ◌≡◌ {A = ℕ} 0 1 = cc in omega nat)

cat_x_never : (x : Ex) (r : ℕ) (b : Code) (p : Par4) → Con b (cat_x x r p)
unfolding cat_x fresh
cat_x_never (val u) r b p v e = x_never _ v e
cat_x_never (cp k) r b p v e = x_never _ v e
cat_x_never (glob g) r b p v e = x_never _ v e
cat_x_never (idx t k) r b p v e = x_never _ v e
cat_x_never (ari o x y) r b p v e = x_never _ v e
cat_x_never (neg k) r b p v e = x_never _ v e
cat_x_never (len k) r b p v e = x_never _ v e
cat_x_never (notx k) r b p v e = x_never _ v e
cat_x_never (cat a k) r b p v e = x_never _ v e
cat_x_never vfst r b p v e = x_never _ v e

cat_k_never : (t : Bool) (k : K4) (r : ℕ) (b : Code) (p : Par4) → Con b (cat_k t k r p)
unfolding cat_k fresh
cat_k_never true k r b p v e = x_never _ v e
cat_k_never false (kc u) r b p v e = x_never _ v e
cat_k_never false (kr u k) r b p v e = x_never _ v e
cat_k_never false (kx x) r b p v e = cat_x_never x r b p v e
cat_k_never false (kj o c x y) r b p v e = x_never _ v e

pub join_never : (r : ℕ) (b : Code) (p : Par4) → Con b (join_c r p)
unfolding join_c
join_never r b p v e = cat_k_never (hit false p.de.tl p.de.fl p.st.code) p.de.k4 r b p v e

pub index_never : (f r : ℕ) (b : Code) (y : RkS) → Con b (indexed f r y)
unfolding fresh
index_never f r b y v e = absurd (let z : ◌≡◌ {A = ℕ} 0 1 = cc in omega nat)

-- ---- the trees

-- an edit of the left operand's list, when the right one is a constant
pub log_quiet : (c : Bool) (m : ℕ) (b : Code) (p : Par4) → hit false m m b ≡ false → Con4 b p → Con4 b (log₂ c m p)
unfolding log₂ relabel
log_quiet c m b p h q v e = edit_quiet m (re (lab c p.de) false) b p.st.code h (q v e)

module _ (n : ℕ) (pos : 1 ≤ n) (b : Code) (u : Under n b) where
  pub new_none : (c : Bool) (p : Par4) → New4 n p → hit false (lab c p.de) (lab c p.de) b ≡ false
  new_none true p o = under_none n p.de.tl o.tl_new b u
  new_none false p o = under_none n p.de.fl o.fl_new b u

call_never : (b m : ℕ) (c : Code) (s : St) → Con c (labelled_closed_call b m s)
unfolding fresh
call_never b m c s v e = absurd (let z : ◌≡◌ {A = ℕ} 0 1 = cc in omega nat)

last_never : (b m : ℕ) (k : K) (c : Code) (p : Pair) → Con c (last_arg b m k p)
unfolding last_arg fresh
last_never b m (kd k) c p v e = absurd (let z : ◌≡◌ {A = ℕ} 0 1 = cc in omega nat)
last_never b m (kl r) c p v e = absurd (let z : ◌≡◌ {A = ℕ} 0 1 = cc in omega nat)
last_never b m (kg g) c p v e = absurd (let z : ◌≡◌ {A = ℕ} 0 1 = cc in omega nat)
last_never b m (ki f t x) c p v e = absurd (let z : ◌≡◌ {A = ℕ} 0 1 = cc in omega nat)
last_never b m (kcl t) c p v e = absurd (let z : ◌≡◌ {A = ℕ} 0 1 = cc in omega nat)
last_never b m kva c p v e = absurd (let z : ◌≡◌ {A = ℕ} 0 1 = cc in omega nat)

module _ (chunk : List ℕ) (names : List Text) where
  pub args_never : (es : Exprs) (b m : ℕ) (c : Code) (s : St) → Con c (comp_args chunk names es b m s)
  unfolding comp_args
  args_never no_more b m c s = call_never b m c s
  args_never (more a no_more) b m c s = last_never b m (comp chunk names a s).de.kind c (comp chunk names a s)
  args_never (more a (more d es)) b m c s = args_never (more d es) b (suc m) c (nextreg (dv (comp chunk names a s)))

  name_never : (name : List ℕ) (i : Option ℕ) (s : St) → Con s.code (resolved chunk names name i s)
  unfolding fresh
  name_never name none s v e = absurd (let z : ◌≡◌ {A = ℕ} 0 1 = cc in omega nat)
  name_never name (some r) s v e = absurd (let z : ◌≡◌ {A = ℕ} 0 1 = cc in omega nat)

  pub leaf_quiet : (l : Leaf) (s : St) → Con s.code (comp_leaf chunk names l s)
  unfolding comp_leaf fresh
  leaf_quiet leaf.Nil s v e = same_quiet s.code
  leaf_quiet leaf.True s v e = same_quiet s.code
  leaf_quiet leaf.False s v e = same_quiet s.code
  leaf_quiet (leaf.Number b) s v e = same_quiet s.code
  leaf_quiet (leaf.Str t) s v e = same_quiet s.code
  leaf_quiet leaf.VarArg s v e = absurd (let z : ◌≡◌ {A = ℕ} 0 1 = cc in omega nat)
  leaf_quiet (leaf.Name t) s v e = name_never (bytes_of chunk t) (search_local chunk (bytes_of chunk t) names 0) s v e

  pub one_quiet : (x : One) (f : ℕ) (b : Code) (p : Par4) → hit false p.de.tl p.de.tl b ≡ false → hit false p.de.fl p.de.fl b ≡ false → Con4 b p → Con b (comp_one chunk names x f p)
  unfolding comp_one len_join fresh
  one_quiet (one_of_lem.Unary un.Neg) f b p t l q = neg_quiet (numeral p) f b p (λ v e. q (knumber v) (numeral_con p v e))
  one_quiet (one_of_lem.Unary un.Not) f b p t l q = lift_quiet b (labelled_code_not p) (not_quiet b p t l q)
  one_quiet (one_of_lem.Unary un.Len) f b p t l q = λ v e. x_never _ v e
  one_quiet (one_of_lem.Field x) f b p t l q = index_never f (anyreg p).rgn b (exp2rk (dv (text_c (bytes_of chunk x) (anyreg p).st)))
  one_quiet one_of_lem.Paren f b p t l q = lift_quiet b p q

  -- from a state whose labels are old
  pub on_self : (s : St) → Fresh s → On s.nxt s
  on_self s h = record { up = omega nat; old = h }
