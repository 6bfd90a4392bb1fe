-- Operators, calls and nodes keep the constants in order, by induction on the trees; so the labelled code of all formulas has every constant listed, RK constants at most at 255, none twice.
-- What rests on something that a must-fail edit breaks stands in proofs/Listing.antt.
use Rattle.folding.specs.Numeral.{Fold}
use Prim.Native.Nat.{ℕ, suc, ◌+◌, ◌≤◌}
use Rattle.std.specs.Prelude.{Bool, true, false, not, ◌≡◌, refl, List, length, Some, None}
use Rattle.std.proofs.Math.Path.{ap, sym}
use Rattle.std.proofs.Common.{◌∙◌, subst, zero-add}
use Rattle.std.proofs.Math.Option.{Option, some, none}
use native.Mathlib.Omega.{arith as nat}
use Rattle.instructions.specs.Limits.{max_index_rk}
use Rattle.folding.specs.declared.Arith.{Arith}
use Rattle.folding.specs.declared.Arith.TheVariants as arith
use Rattle.constants.specs.Entry.{Constant, number as knumber, text as ktext}
use Rattle.cursor.specs.Fields.{bytes_of}
use Rattle.cursor.specs.declared.Text.{Text}
use Rattle.ast.specs.declared.UnOp.TheVariants as un
use Rattle.ast.specs.declared.Leaf.{Leaf}
use Rattle.ast.specs.declared.Leaf.TheVariants as leaf
use Rattle.ast.specs.declared.One.{One}
use Rattle.ast.specs.declared.One.TheVariants as one_of_lem
use Rattle.ast.specs.declared.Many.{Many}
use Rattle.ast.specs.declared.Many.TheVariants as many
use Rattle.model.specs.Values.{Value, number, value_of, is_true, StepKind, Taken, folds}
use Rattle.model.specs.Expressions.{search_local}
use Rattle.model.specs.Running.{same as agrees}
use Rattle.labelled.specs.Code.{Rk, con, Ex, val, cp, glob, idx, ari, neg, len, notx, cat, vfst, cfix, cva, CT, cct, cbase, test, tset, cmp, lbl, setw, selfw, pl, br}
use Rattle.labelled.specs.Table.{place, include, is_near}
use Rattle.labelled.specs.Places.{Listed, Grows, grows_include, place_include, listed_include, near_place}
use Rattle.labelled.specs.Emission.{St, set_free, add_k, flush, push, relabel, strip, hit}
use Rattle.labelled.specs.Discharge.{freed, K4, kc, kr, kx, kj, K, kd, kl, kg, ki, kcl, kva, Pair, Par4, RkS, RgS, lab, fresh, add_p, dv, d2r, nextreg, anyreg, exp2rk, late}
use Rattle.labelled.specs.Conditions.{on_load, on_x, is_bool, go_con, go_jump, not_k, not_s, labelled_code_not}
use Rattle.labelled.specs.Operators.{numeral, left_of, late_of, Ops, right_first, left_if, left_first, ari_join, kcmp, cmp_join, neg_join, len_join, log₂, cat_x, cat_k, join_c, indexed}
use Rattle.labelled.specs.Expressions.{text_c, labelled_closed_call, last_arg, labelled_code_self, resolved, comp_leaf, comp_one, callee, before}
use Rattle.labelled.specs.Machine.{Hist, Regs}
use Rattle.labelled.specs.Owning.{freed_own}
use Rattle.labelled.specs.Settling.{next_free, next_nxt}
use Rattle.labelled.specs.Good.{Good4}
use Rattle.labelled.specs.Operands.{any_op}
use Rattle.labelled.specs.Calls.{self_keeps}
use Rattle.labelled.specs.Shape.{blank, each, quiet}
use Rattle.labelled.specs.Sound.{OkK, OkRk, OkV, OkX, OkCon, OkK4, rk_grow, k4_grow, To, then_to, same_to, free_to, add_to, flush_to, push_to, jump_to, relabel_to, strip_to, d2r_to, next_to, any_to, Makes, Makes4, MakesRk, fresh_makes, dv_makes, lift_makes, near_ok, rk_makes}

-- ---- conditions

onload_to : (c : Bool) (k : K4) (m : ℕ) (s : St) → OkK4 s.tab k → To s (on_load c k m s)
unfolding on_load
onload_to c k m s o = then_to s (d2r k m s.free s) _ (d2r_to k m s.free s o) (push_to (br (tset s.free c) (lbl m)) (d2r k m s.free s) tt)

on_x_to : (c : Bool) (x : Ex) (m : ℕ) (s : St) → OkX s.tab x → To s (on_x c x m s)
unfolding on_x
on_x_to c (val v) m s o = onload_to c (kx (val v)) m s o
on_x_to c (cp r) m s o = onload_to c (kx (cp r)) m s o
on_x_to c (glob g) m s o = onload_to c (kx (glob g)) m s o
on_x_to c (idx t k) m s o = onload_to c (kx (idx t k)) m s o
on_x_to c (ari a x y) m s o = onload_to c (kx (ari a x y)) m s o
on_x_to c (neg r) m s o = onload_to c (kx (neg r)) m s o
on_x_to c (len r) m s o = onload_to c (kx (len r)) m s o
on_x_to c (notx r) m s o = push_to (br (test r (not c)) (lbl m)) s tt
on_x_to c (cat b k) m s o = onload_to c (kx (cat b k)) m s o
on_x_to c vfst m s o = onload_to c (kx vfst) m s o

go_con_to : (a b c : Bool) (v : Constant) (m : ℕ) (s : St) → OkCon s.tab v → To s (go_con a b c v m s)
go_con_to false b c v m s o = same_to s
go_con_to true true c v m s o = jump_to m s
go_con_to true false c v m s o = onload_to c (kc v) m s o

pub go_jump_to : (c : Bool) (k : K4) (m : ℕ) (s : St) → OkK4 s.tab k → To s (go_jump c k m s)
unfolding go_jump
go_jump_to c (kc v) m s o = go_con_to (agrees (is_true (value_of v)) c) (is_bool v) c v m s o
go_jump_to c (kr u r) m s o = let s₁ = push (br (tset r c) (lbl m)) s in then_to s s₁ _ (push_to (br (tset r c) (lbl m)) s tt) (free_to s₁ _ s₁.nxt)
go_jump_to c (kx x) m s o = on_x_to c x m s o
go_jump_to c (kj p d x y) m s o = push_to (br (cmp p (agrees d c) x y) (lbl m)) s o

not_makes₁ : (k : K4) (s : St) → OkK4 s.tab k → To s (not_s k s) × OkK4 (not_s k s).tab (not_k k s.free)
unfolding not_s flush d2r push
not_makes₁ (kc v) s o = (same_to s, tt)
not_makes₁ (kr u r) s o = (then_to s (flush s) _ (flush_to s) (free_to (flush s) _ s.nxt), tt)
not_makes₁ (kx x) s o = (push_to (pl (setw s.free x)) s o, tt)
not_makes₁ (kj p c x y) s o = (same_to s, o)

not_makes : (s : St) (p : Par4) → Makes4 s p → Makes4 s (labelled_code_not p)
unfolding labelled_code_not strip
not_makes s p m =
    let d = not_makes₁ p.de.k4 p.st m.kind_ok in
    let n = not_s p.de.k4 p.st in
    record { way = then_to s p.st _ m.way (then_to p.st n _ d.0 (then_to n (strip p.de.tl n) _ (strip_to p.de.tl n) (strip_to p.de.fl (strip p.de.tl n)))); kind_ok = d.1 }

-- ---- operators

late_makes : (b : Bool) (c : Constant) (s : St) → Listed c s.tab → OkV s.tab (value_of c) → (b ≡ true → place c s.tab ≤ max_index_rk) → MakesRk s (late b c s)
late_makes true c s l v n = record { way = same_to s; rk_ok = near_ok c s.tab l (n refl) }
late_makes false c s l v n = let s₁ = push (pl (setw s.free (val (value_of c)))) s in record { way = then_to s s₁ _ (push_to (pl (setw s.free (val (value_of c)))) s v) (free_to s₁ _ s.nxt); rk_ok = tt }

num_late : (n : ℕ) (s : St) → MakesRk s (late (is_near (knumber n) s.tab) (knumber n) (add_k (knumber n) s))
num_late n s =
    let l = listed_include (knumber n) s.tab in
    let m = late_makes (is_near (knumber n) s.tab) (knumber n) (add_k (knumber n) s) l l (λ e. omega (nat, place_include (knumber n) s.tab, near_place (knumber n) s.tab e)) in
    record { way = then_to s (add_k (knumber n) s) _ (add_to (knumber n) s) m.way; rk_ok = m.rk_ok }

-- a left operand that waits is not listed yet
abbrev OkLeft : Option ℕ → List Constant → Rk → Type 0
OkLeft none t x = OkRk t x
OkLeft (some n) t x = Unit {0}

pub left_grow : (n : Option ℕ) (t u : List Constant) (x : Rk) → Grows t u → OkLeft n t x → OkLeft n u x
left_grow none t u x g o = rk_grow t u g x o
left_grow (some n) t u x g o = tt

pub record MakesLeft (s : St) (n : Option ℕ) (q : RkS) : Type 0 where
  pub way : To s q.st
  pub left_ok : OkLeft n q.st.tab q.rkv

pub left_makes : (n : Option ℕ) (p : Par4) → OkK4 p.st.tab p.de.k4 → MakesLeft p.st n (left_of n p)
left_makes none p o = let m = rk_makes p o in record { way = m.way; left_ok = m.rk_ok }
left_makes (some n) p o = record { way = same_to p.st; left_ok = tt }

late_of_makes : (n : Option ℕ) (x : RkS) (s : St) → OkLeft n s.tab x.rkv → MakesRk s (late_of n x s)
late_of_makes none x s o = record { way = same_to s; rk_ok = o }
late_of_makes (some n) x s o = num_late n s

record MakesOps (s : St) (z : Ops) : Type 0 where
  way : To s z.st
  lft_ok : OkRk z.st.tab z.lft
  rgt_ok : OkRk z.st.tab z.rgt

right_first_lem : (n : Option ℕ) (x : RkS) (p : Par4) → OkLeft n p.st.tab x.rkv → OkK4 p.st.tab p.de.k4 → MakesOps p.st (right_first n x p)
unfolding right_first
right_first_lem n x p l o =
    let y = rk_makes p o in
    let z = late_of_makes n x (exp2rk p).st (left_grow n p.st.tab (exp2rk p).st.tab x.rkv y.way.grows l) in
    record { way = then_to p.st (exp2rk p).st _ y.way z.way; lft_ok = z.rk_ok; rgt_ok = rk_grow (exp2rk p).st.tab _ z.way.grows (exp2rk p).rkv y.rk_ok }

left_first_lem : (n : Option ℕ) (x : RkS) (p : Par4) → OkLeft n p.st.tab x.rkv → ((k : ℕ) → n ≡ some k → x.rkv ≡ con (number k)) → OkK4 p.st.tab p.de.k4 → MakesOps p.st (left_first n x p)
unfolding left_first
left_first_lem none x p l w o = right_first_lem none x p l o
left_first_lem (some n) x p l w o = go (is_near (knumber n) p.st.tab) refl
  where
    go : (b : Bool) → is_near (knumber n) p.st.tab ≡ b → MakesOps p.st (left_if b n x p)
    go true e =
        let t = p.st.tab in
        let ok : OkRk (include (knumber n) t) (con (number n)) = near_ok (knumber n) (include (knumber n) t) (listed_include (knumber n) t) (omega (nat, place_include (knumber n) t, near_place (knumber n) t e)) in
        let m = right_first_lem none x (add_p (knumber n) p) (subst (OkRk (include (knumber n) t)) (sym (w n refl)) ok) (k4_grow t (include (knumber n) t) (grows_include (knumber n) t) p.de.k4 o) in
        record { way = then_to p.st (add_k (knumber n) p.st) _ (add_to (knumber n) p.st) m.way; lft_ok = m.lft_ok; rgt_ok = m.rgt_ok }
    go false e = right_first_lem (some n) x p tt o

pub waiting : (n : Option ℕ) (p : Par4) (k : ℕ) → n ≡ some k → (left_of n p).rkv ≡ con (number k)
waiting none p k e = absurd (let z : ◌≡◌ {A = ℕ} 0 1 = cc in omega nat)
waiting (some n) p k e = ap (λ o. con (number (or_zero o))) e
  where
    or_zero : Option ℕ → ℕ
    or_zero none = 0
    or_zero (some i) = i

cmp_ok : (w : Bool) (o : StepKind) (c : Bool) (t : List Constant) (x y : Rk) → OkRk t x → OkRk t y → OkK4 t (kcmp w o c x y)
cmp_ok true o c t x y a b = (b, a)
cmp_ok false o c t x y a b = (a, b)

-- a word to come, behind a flush
word_makes : (k : K4) (f : ℕ) (s u : St) → To s u → OkK4 u.tab k → Makes s (fresh (kd k) f (flush u))
unfolding flush
word_makes k f s u a o = fresh_makes (kd k) f s (flush u) (then_to s u (flush u) a (flush_to u)) o

pub ari_makes : (z : Fold) (o : Arith) (f : ℕ) (n : Option ℕ) (x : RkS) (s : St) (p : Par4) → OkLeft n p.st.tab x.rkv → Makes4 s p → Makes s (ari_join z o f n x p)
unfolding ari_join
ari_makes (Some z) o f n x s p l m = fresh_makes _ f s p.st m.way tt
ari_makes None o f n x s p l m = let r = right_first_lem n x p l m.kind_ok in word_makes _ f s (right_first n x p).st (then_to s p.st _ m.way r.way) (r.lft_ok, r.rgt_ok)

pub cmp_makes : (o : StepKind) (c w : Bool) (f : ℕ) (n : Option ℕ) (x : RkS) (s : St) (p : Par4) → OkLeft n p.st.tab x.rkv → ((k : ℕ) → n ≡ some k → x.rkv ≡ con (number k)) → Makes4 s p → Makes s (cmp_join o c w f n x p)
unfolding cmp_join
cmp_makes o c w f n x s p l v m = let r = left_first_lem n x p l v m.kind_ok in
    word_makes _ f s (left_first n x p).st (then_to s p.st _ m.way r.way) (cmp_ok w o c (left_first n x p).st.tab (left_first n x p).lft (left_first n x p).rgt r.lft_ok r.rgt_ok)

any_word : (x : Ex) (f : ℕ) (s : St) (p : Par4) → Makes4 s p → OkX (anyreg p).st.tab x → Makes s (fresh (kd (kx x)) f (flush (anyreg p).st))
any_word x f s p m o = word_makes (kx x) f s (anyreg p).st (then_to s p.st _ m.way (any_to p m.kind_ok)) o

neg_makes : (z : Fold) (f : ℕ) (s : St) (p : Par4) → Makes4 s p → Makes s (neg_join z f p)
unfolding neg_join
neg_makes (Some z) f s p m = fresh_makes _ f s p.st m.way tt
neg_makes None f s p m = any_word (neg (anyreg p).rgn) f s p m tt

len_makes : (f : ℕ) (s : St) (p : Par4) → Makes4 s p → Makes s (len_join f p)
unfolding len_join
len_makes f s p m = any_word (len (anyreg p).rgn) f s p m tt

pub next_makes : (s : St) (p : Par4) → Makes4 s p → To s (nextreg p)
next_makes s p m = then_to s p.st _ m.way (next_to p m.kind_ok)

cat_next : (r : ℕ) (s : St) (p : Par4) → Makes4 s p → Makes s (fresh (kd (kx (cat r 1))) r (flush (nextreg p)))
cat_next r s p m = word_makes (kx (cat r 1)) r s (nextreg p) (next_makes s p m) tt

cat_x_makes : (x : Ex) (r : ℕ) (s : St) (p : Par4) → Makes4 s p → Makes s (cat_x x r p)
unfolding cat_x
cat_x_makes (val v) r s p m = cat_next r s p m
cat_x_makes (cp k) r s p m = cat_next r s p m
cat_x_makes (glob g) r s p m = cat_next r s p m
cat_x_makes (idx t k) r s p m = cat_next r s p m
cat_x_makes (ari o x y) r s p m = cat_next r s p m
cat_x_makes (neg k) r s p m = cat_next r s p m
cat_x_makes (len k) r s p m = cat_next r s p m
cat_x_makes (notx k) r s p m = cat_next r s p m
cat_x_makes (cat b k) r s p m = fresh_makes _ r s p.st m.way tt
cat_x_makes vfst r s p m = cat_next r s p m

cat_k_makes : (t : Bool) (k : K4) (r : ℕ) (s : St) (p : Par4) → Makes4 s p → Makes s (cat_k t k r p)
unfolding cat_k
cat_k_makes true k r s p m = cat_next r s p m
cat_k_makes false (kc v) r s p m = cat_next r s p m
cat_k_makes false (kr u k) r s p m = cat_next r s p m
cat_k_makes false (kx x) r s p m = cat_x_makes x r s p m
cat_k_makes false (kj o c x y) r s p m = cat_next r s p m

pub join_makes : (r : ℕ) (s : St) (p : Par4) → Makes4 s p → Makes s (join_c r p)
unfolding join_c
join_makes r s p m = cat_k_makes (hit false p.de.tl p.de.fl p.st.code) p.de.k4 r s p m

pub log_makes : (c : Bool) (l : ℕ) (s : St) (p : Par4) → Makes4 s p → Makes4 s (log₂ c l p)
unfolding log₂ relabel
log_makes c l s p m = record { way = then_to s p.st _ m.way (relabel_to l (lab c p.de) p.st); kind_ok = m.kind_ok }

-- discharged, from an earlier state
pub from_makes : (s u : St) (p : Pair) → To s u → Makes u p → Makes4 s (dv p)
from_makes s u p a m = let d = dv_makes u p m in record { way = then_to s u _ a d.way; kind_ok = d.kind_ok }

-- an index read, with the key behind the register of the table
pub index_makes : (f r : ℕ) (s u : St) (p : Pair) → To s u → Makes u p → Makes s (indexed f r (exp2rk (dv p)))
index_makes f r s u p a m =
    let d = from_makes s u p a m in
    let y = rk_makes (dv p) d.kind_ok in
    fresh_makes (ki f r (exp2rk (dv p)).rkv) (exp2rk (dv p)).st.free s (exp2rk (dv p)).st (then_to s (dv p).st _ d.way y.way) y.rk_ok

-- ---- calls and nodes

text_makes : (t : List ℕ) (s : St) → Makes s (text_c t s)
text_makes t s = fresh_makes (kd (kc (ktext t))) s.free s (add_k (ktext t) s) (add_to (ktext t) s) (listed_include (ktext t) s.tab)

pub call_makes : (b n : ℕ) (s u : St) → To s u → Makes s (labelled_closed_call b n u)
call_makes b n s u a = fresh_makes (kcl (cfix b n)) (suc b) s (flush u) (then_to s u (flush u) a (flush_to u)) tt

pub last_makes : (b n : ℕ) (k : K) (s : St) (p : Pair) → p.de.kind ≡ k → ((t : CT) → k ≡ kcl t → cbase t ≡ suc (n + b)) → Makes s p → Makes s (last_arg b n k p)
unfolding last_arg
last_makes b n (kd k) s p e base m = call_makes b (suc n) s (nextreg (dv p)) (next_makes s (dv p) (dv_makes s p m))
last_makes b n (kl r) s p e base m = call_makes b (suc n) s (nextreg (dv p)) (next_makes s (dv p) (dv_makes s p m))
last_makes b n (kg g) s p e base m = call_makes b (suc n) s (nextreg (dv p)) (next_makes s (dv p) (dv_makes s p m))
last_makes b n (ki f t x) s p e base m = call_makes b (suc n) s (nextreg (dv p)) (next_makes s (dv p) (dv_makes s p m))
last_makes b n (kcl t) s p e base m = fresh_makes (kcl (cct b n t)) (suc b) s p.st m.way (base t refl, subst (OkK p.st.tab) e m.kind_ok)
last_makes b n kva s p e base m = fresh_makes (kcl (cva b n)) (suc b) s p.st m.way tt

self_makes : (t : List ℕ) (x : RgS) (f : ℕ) → To x.st (labelled_code_self t x f)
unfolding labelled_code_self
self_makes t x f =
    let u = set_free (2 + f) (add_k (ktext t) x.st) in
    let l = listed_include (ktext t) x.st.tab in
    let k = late (is_near (ktext t) x.st.tab) (ktext t) u in
    let m = late_makes (is_near (ktext t) x.st.tab) (ktext t) u l l (λ e. omega (nat, place_include (ktext t) x.st.tab, near_place (ktext t) x.st.tab e)) in
    let s₁ = push (pl (selfw f x.rgn k.rkv)) k.st in
    then_to x.st (add_k (ktext t) x.st) _ (add_to (ktext t) x.st) (then_to (add_k (ktext t) x.st) u _ (free_to (add_k (ktext t) x.st) (2 + f) x.st.nxt)
    (then_to u k.st _ m.way (then_to k.st s₁ _ (push_to (pl (selfw f x.rgn k.rkv)) k.st m.rk_ok) (free_to s₁ (2 + f) k.st.nxt))))

module _ (chunk : List ℕ) (names : List Text) where
  name_makes : (n : List ℕ) (i : Option ℕ) (s : St) → Makes s (resolved chunk names n i s)
  name_makes n none s = fresh_makes (kg n) s.free s (add_k (ktext n) s) (add_to (ktext n) s) (listed_include (ktext n) s.tab)
  name_makes n (some r) s = fresh_makes (kl r) s.free s s (same_to s) tt

  pub leaf_makes : (l : Leaf) (s : St) → Makes s (comp_leaf chunk names l s)
  unfolding comp_leaf
  leaf_makes leaf.Nil s = fresh_makes _ s.free s s (same_to s) tt
  leaf_makes leaf.True s = fresh_makes _ s.free s s (same_to s) tt
  leaf_makes leaf.False s = fresh_makes _ s.free s s (same_to s) tt
  leaf_makes (leaf.Number b) s = fresh_makes _ s.free s s (same_to s) tt
  leaf_makes (leaf.Str t) s = text_makes (bytes_of chunk t) s
  leaf_makes leaf.VarArg s = fresh_makes kva s.free s (flush s) (flush_to s) tt
  leaf_makes (leaf.Name t) s = name_makes (bytes_of chunk t) (search_local chunk (bytes_of chunk t) names 0) s

  pub one_makes : (o : One) (f : ℕ) (s : St) (p : Par4) → Makes4 s p → Makes s (comp_one chunk names o f p)
  unfolding comp_one
  one_makes (one_of_lem.Unary un.Neg) f s p m = neg_makes (folds arith.Unm (numeral p) (numeral p)) f s p m
  one_makes (one_of_lem.Unary un.Not) f s p m = lift_makes s (labelled_code_not p) (not_makes s p m)
  one_makes (one_of_lem.Unary un.Len) f s p m = len_makes f s p m
  one_makes (one_of_lem.Field t) f s p m = index_makes f (anyreg p).rgn s (anyreg p).st (text_c (bytes_of chunk t) (anyreg p).st) (then_to s p.st _ m.way (any_to p m.kind_ok)) (text_makes (bytes_of chunk t) (anyreg p).st)
  one_makes one_of_lem.Paren f s p m = lift_makes s p m

  pub callee_makes : (c : Many) (f : ℕ) (s : St) (p : Par4) → Makes4 s p → To s (callee chunk names c f p)
  unfolding callee
  callee_makes many.Call f s p m = next_makes s p m
  callee_makes (many.MethodCall t) f s p m = then_to s p.st _ m.way (then_to p.st (anyreg p).st _ (any_to p m.kind_ok) (self_makes (bytes_of chunk t) (anyreg p) f))

  module _ (s : St) (p : Par4) (D : Regs → Hist → Taken Value) (l : 1 ≤ s.nxt) (nb : length names ≤ s.free) (m : Makes4 s p) (g : Good4 (quiet chunk names) D s.free s p) where
    pub na : length (blank chunk names) ≤ s.free
    na = omega (nat, nb, each chunk names)

    pub free_own : freed p.de.k4 p.st.free ≡ s.free
    free_own = freed_own (length (blank chunk names)) p.de.k4 s.free p.st.free g.own

    pub from_any : To s (anyreg p).st
    from_any = then_to s p.st _ m.way (any_to p m.kind_ok)

    -- the arguments begin behind the function, or behind the method and its object
    pub callee_on : (c : Many) → (1 ≤ (callee chunk names c s.free p).nxt) × ((callee chunk names c s.free p).free ≡ suc (before chunk names c + s.free))
    unfolding callee
    callee_on many.Call = (omega (nat, next_nxt p), next_free p ∙ ap suc (free_own ∙ sym (zero-add s.free)))
    callee_on (many.MethodCall t) =
        let o = any_op (quiet chunk names) D s.free s p l na g in
        let k = self_keeps (bytes_of chunk t) (anyreg p) s.free in
        let e : 2 + s.free ≡ suc (1 + s.free) = omega nat in
        (omega (nat, l, o.nx, k.1), k.0 ∙ e)
