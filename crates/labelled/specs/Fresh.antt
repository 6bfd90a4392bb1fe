-- Labels in the code are below the next one: so a new label has no jump yet. Each operation keeps it, since it writes only labels of descriptors and label 0; then by induction on the trees.
-- What rests on something that a must-fail edit breaks stands in proofs/Fresh.antt.
use Rattle.folding.specs.Numeral.{Fold}
use Rattle.std.specs.Prelude.{ℕ, suc, ◌+◌, ◌≤◌, ◌<◌, Bool, not, ◌≡◌, refl, List, [], ◌∷◌, leb, Some, None}
use Rattle.std.proofs.Math.Bool.{true, false}
use Rattle.std.proofs.Common.{sym, subst}
use Rattle.std.proofs.Math.Option.{Option, some, none}
use native.Mathlib.Omega.{arith as nat}
use Rattle.folding.specs.declared.Arith.{Arith}
use Rattle.folding.specs.declared.Arith.TheVariants as arith
use Rattle.constants.specs.Entry.{Constant, nil as knil, truth as ktruth, number as knumber, text as ktext}
use Rattle.cursor.specs.Fields.{bytes_of}
use Rattle.cursor.specs.declared.Text.{Text}
use Rattle.ast.specs.declared.UnOp.TheVariants as un
use Rattle.ast.specs.declared.Leaf.{Leaf}
use Rattle.ast.specs.declared.Leaf.TheVariants as leaf
use Rattle.ast.specs.declared.One.{One}
use Rattle.ast.specs.declared.One.TheVariants as one_of_lem
use Rattle.ast.specs.declared.Many.{Many}
use Rattle.ast.specs.declared.Many.TheVariants as many
use Rattle.model.specs.Values.{value_of, is_true, StepKind, folds, truth, number, text}
use Rattle.model.specs.Expressions.{search_local}
use Rattle.model.specs.Running.{same as agrees}
use Rattle.labelled.specs.Code.{same, same_ne, Ex, val, cp, glob, idx, ari, neg, len, notx, cat, vfst, Ctrl, always, test, tset, tseta, cmp, to, lbl, setw, lbs, mark, nilw, callw, selfw, Instr, pl, br, Code, size, Act, keep, land, re, ed_br, edit}
use Rattle.labelled.specs.Machine.{pick}
use Rattle.labelled.specs.Table.{roomy, is_near}
use Rattle.labelled.specs.Emission.{St, set_free, add_k, one, flush, push, labelled_emit_jump, relabel, strip, hit, here_if, labelled_to_here, in_range, extend, nil_top}
use Rattle.labelled.specs.Discharge.{K4, kc, kr, kx, kj, K, kd, kl, kg, ki, kcl, kva, Des4, Pair, Par4, RkS, RgS, lab, fresh, lift4, add_p, dv_s, dv, freed, load_con, d2r, lands, pair_g, load_pair, land_all, settle, e2r, nextreg, any_k, anyreg, con_rk, small_rk, rk_c, rk_k, exp2rk, late}
use Rattle.labelled.specs.Conditions.{on_load, on_x, is_bool, go_con, go_jump, not_s, labelled_code_not}
use Rattle.labelled.specs.Operators.{numeral, left_of, late_of, right_first, left_if, left_first, ari_join, cmp_join, neg_join, len_join, log₂, cat_x, cat_k, join_c, indexed}
use Rattle.labelled.specs.Expressions.{text_c, labelled_closed_call, last_arg, labelled_code_self, resolved, comp_leaf, comp_one, callee}
use Rattle.labelled.specs.Loads.{d2r_nxt}
use Rattle.labelled.specs.Settling.{next_nxt}
use Rattle.labelled.specs.Binary.{not_nxt}

-- ---- labels below n

abbrev pub UnderI : ℕ → Instr → Type 0
UnderI n (pl w) = Unit {0}
UnderI n (br c (to p)) = Unit {0}
UnderI n (br c (lbl ℓ)) = ℓ < n

abbrev pub Under : ℕ → Code → Type 0
Under n [] = Unit {0}
Under n (i ∷ c) = UnderI n i × Under n c

abbrev pub Fresh : St → Type 0
Fresh s = Under s.nxt s.code

pub under_more : (n m : ℕ) → n ≤ m → (c : Code) → Under n c → Under m c
under_more n m l [] h = tt
under_more n m l (pl w ∷ c) h = (tt, under_more n m l c h.1)
under_more n m l (br k (to p) ∷ c) h = (tt, under_more n m l c h.1)
under_more n m l (br k (lbl ℓ) ∷ c) h = (omega (nat, h.0), under_more n m l c h.1)

-- a label at or above n has no jump
pub under_none : (n ℓ : ℕ) → n ≤ ℓ → (c : Code) → Under n c → hit false ℓ ℓ c ≡ false
unfolding hit
under_none n ℓ l [] h = refl
under_none n ℓ l (pl w ∷ c) h = under_none n ℓ l c h.1
under_none n ℓ l (br k (to p) ∷ c) h = under_none n ℓ l c h.1
under_none n ℓ l (br k (lbl m) ∷ c) h = rw (same_ne m ℓ (λ e. omega (nat, h.0))) (under_none n ℓ l c h.1)

-- ---- edits

abbrev UnderA : ℕ → Act → Type 0
UnderA n keep = Unit {0}
UnderA n (land v r d) = Unit {0}
UnderA n (re m b) = m < n

under_br : (n : ℕ) (a : Act) (c : Ctrl) (ℓ : ℕ) → UnderA n a → ℓ < n → UnderI n (ed_br a c ℓ)
under_br n keep c ℓ u h = h
under_br n (land v r d) always ℓ u h = tt
under_br n (land v r d) (test b c) ℓ u h = tt
under_br n (land v r d) (tset b c) ℓ u h = tt
under_br n (land v r d) (tseta a b c) ℓ u h = tt
under_br n (land v r d) (cmp o c x y) ℓ u h = tt
under_br n (re m false) c ℓ u h = u
under_br n (re m true) always ℓ u h = u
under_br n (re m true) (test b c) ℓ u h = u
under_br n (re m true) (tset b c) ℓ u h = u
under_br n (re m true) (tseta a b c) ℓ u h = u
under_br n (re m true) (cmp o c x y) ℓ u h = u

under_edit : (n : ℕ) (g : ℕ → Act) → ((ℓ : ℕ) → UnderA n (g ℓ)) → (c : Code) → Under n c → Under n (edit g c)
unfolding edit
under_edit n g u [] h = tt
under_edit n g u (pl w ∷ c) h = (tt, under_edit n g u c h.1)
under_edit n g u (br k (to p) ∷ c) h = (tt, under_edit n g u c h.1)
under_edit n g u (br k (lbl ℓ) ∷ c) h = (under_br n (g ℓ) k ℓ (u ℓ) h.0, under_edit n g u c h.1)

under_one : (n a : ℕ) (x : Act) → UnderA n x → (ℓ : ℕ) → UnderA n (one a x ℓ)
under_one n a x u ℓ = go (same ℓ a)
  where
    go : (t : Bool) → UnderA n (pick t x keep)
    go true = u
    go false = tt

under_lands : (n t f r a b c : ℕ) (ℓ : ℕ) → UnderA n (lands t f r a b c ℓ)
under_lands n t f r a b c ℓ = go (same ℓ t) (same ℓ f)
  where
    go : (x y : Bool) → UnderA n (pick x (land a (some r) c) (pick y (land a (some r) b) keep))
    go true y = tt
    go false true = tt
    go false false = tt

-- ---- the operations, for any bound n above label 0

module _ (n : ℕ) (pos : 1 ≤ n) where
  abbrev U : St → Type 0
  U s = Under n s.code

  pub flush_u : (s : St) → U s → U (flush s)
  unfolding flush
  flush_u s h = under_edit n _ (under_one n 0 (land (size s.code) none (size s.code)) tt) s.code h

  pub push_u : (i : Instr) (s : St) → UnderI n i → U s → U (push i s)
  unfolding push
  push_u i s o h = (o, under_edit n _ (under_one n 0 (land (size s.code) none (size s.code)) tt) s.code h)

  pub jump_u : (m : ℕ) (s : St) → m < n → U s → U (labelled_emit_jump m s)
  unfolding labelled_emit_jump
  jump_u m s l h = (l, under_edit n _ (under_one n 0 (re m true) l) s.code h)

  relabel_u : (a b : ℕ) (s : St) → b < n → U s → U (relabel a b s)
  unfolding relabel
  relabel_u a b s l h = under_edit n _ (under_one n a (re b false) l) s.code h

  pub strip_u : (a : ℕ) (s : St) → a < n → U s → U (strip a s)
  unfolding strip
  strip_u a s l h = under_edit n _ (under_one n a (re a true) l) s.code h

  pub here_u : (m : ℕ) (s : St) → U s → U (labelled_to_here m s)
  unfolding labelled_to_here
  here_u m s h = go (hit false m m s.code)
    where
      go : (b : Bool) → U (here_if b m s)
      go true = (tt, under_edit n _ (under_one n m (re 0 false) (omega nat)) s.code h)
      go false = h

  extend_u : (b z : Bool) (a k r : ℕ) (c : Code) (s : St) → s.code ≡ pl (nilw a k) ∷ c → U s → U (extend b z a k r c s)
  extend_u true true a k r c s e h = subst (Under n) e h
  extend_u true false a k r c s e h = subst (Under n) e h
  extend_u false z a k r c s e h = push_u (pl (nilw r 0)) s tt h

  nil_u : (c : Code) (r : ℕ) (s : St) → s.code ≡ c → U s → U (nil_top c r s)
  nil_u [] r s e h = h
  nil_u (pl mark ∷ c) r s e h = push_u (pl (nilw r 0)) s tt h
  nil_u (pl (setw a x) ∷ c) r s e h = push_u (pl (nilw r 0)) s tt h
  nil_u (pl (lbs a b) ∷ c) r s e h = push_u (pl (nilw r 0)) s tt h
  nil_u (pl (nilw a k) ∷ c) r s e h = extend_u (in_range a k r) (leb r (k + a)) a k r c s e h
  nil_u (pl (callw t) ∷ c) r s e h = push_u (pl (nilw r 0)) s tt h
  nil_u (pl (selfw a b d) ∷ c) r s e h = push_u (pl (nilw r 0)) s tt h
  nil_u (br d t ∷ c) r s e h = push_u (pl (nilw r 0)) s tt h

  load_u : (c : Constant) (r : ℕ) (s : St) → U s → U (load_con c r s)
  load_u knil r s h = nil_u s.code r s refl h
  load_u (ktruth b) r s h = push_u (pl (setw r (val (truth b)))) s tt h
  load_u (knumber m) r s h = push_u (pl (setw r (val (number m)))) (add_k (knumber m) s) tt h
  load_u (ktext x) r s h = push_u (pl (setw r (val (text x)))) s tt h

  pub d2r_u : (k : K4) (t r : ℕ) (s : St) → t < n → U s → U (d2r k t r s)
  unfolding d2r
  d2r_u (kc c) t r s l h = load_u c r s h
  d2r_u (kr u k) t r s l h = go (same r k)
    where
      go : (b : Bool) → U (pick b s (push (pl (setw r (cp k))) s))
      go true = h
      go false = push_u (pl (setw r (cp k))) s tt h
  d2r_u (kx x) t r s l h = push_u (pl (setw r x)) s tt h
  d2r_u (kj p c x y) t r s l h = push_u (br (cmp p c x y) (lbl t)) s l h

  pair_u : (j t f r : ℕ) (s : St) → U s → U (load_pair j t f r s)
  unfolding load_pair
  pair_u j t f r s h = (tt, (tt, under_edit n _ acts s.code h))
    where
      acts : (ℓ : ℕ) → UnderA n (pair_g s.code j t f r ℓ)
      acts ℓ = go (same ℓ 0) (same ℓ j)
        where
          go : (x y : Bool) → UnderA n (pick x (land (size s.code) none (size s.code)) (pick y (re 0 false) (lands t f r (2 + size s.code) (size s.code) (1 + size s.code) ℓ)))
          go true y = tt
          go false true = omega nat
          go false false = under_lands n t f r (2 + size s.code) (size s.code) (1 + size s.code) ℓ

  settle_u : (a b c : Bool) (j : ℕ) (e : Des4) (r : ℕ) (s : St) → j < n → U s → U (settle a b c j e r s)
  unfolding settle land_all
  settle_u false b c j e r s l h = h
  settle_u true false c j e r s l h = (tt, under_edit n _ (under_lands n e.tl e.fl r (size s.code) (size s.code) (size s.code)) s.code h)
  settle_u true true true j e r s l h = pair_u j e.tl e.fl r s h
  settle_u true true false j e r s l h = pair_u j e.tl e.fl r (labelled_emit_jump j s) (jump_u j s l h)

  pub onload_u : (c : Bool) (k : K4) (m : ℕ) (s : St) → m < n → U s → U (on_load c k m s)
  unfolding on_load
  onload_u c k m s l h = push_u (br (tset s.free c) (lbl m)) (d2r k m s.free s) l (d2r_u k m s.free s l h)

  pub on_x_u : (c : Bool) (x : Ex) (m : ℕ) (s : St) → m < n → U s → U (on_x c x m s)
  unfolding on_x
  on_x_u c (val v) m s l h = onload_u c (kx (val v)) m s l h
  on_x_u c (cp r) m s l h = onload_u c (kx (cp r)) m s l h
  on_x_u c (glob g) m s l h = onload_u c (kx (glob g)) m s l h
  on_x_u c (idx t k) m s l h = onload_u c (kx (idx t k)) m s l h
  on_x_u c (ari a x y) m s l h = onload_u c (kx (ari a x y)) m s l h
  on_x_u c (neg r) m s l h = onload_u c (kx (neg r)) m s l h
  on_x_u c (len r) m s l h = onload_u c (kx (len r)) m s l h
  on_x_u c (notx r) m s l h = push_u (br (test r (not c)) (lbl m)) s l h
  on_x_u c (cat b k) m s l h = onload_u c (kx (cat b k)) m s l h
  on_x_u c vfst m s l h = onload_u c (kx vfst) m s l h

  pub go_con_u : (a b c : Bool) (v : Constant) (m : ℕ) (s : St) → m < n → U s → U (go_con a b c v m s)
  go_con_u false b c v m s l h = h
  go_con_u true true c v m s l h = jump_u m s l h
  go_con_u true false c v m s l h = onload_u c (kc v) m s l h

  pub go_jump_u : (c : Bool) (k : K4) (m : ℕ) (s : St) → m < n → U s → U (go_jump c k m s)
  unfolding go_jump
  go_jump_u c (kc v) m s l h = go_con_u (agrees (is_true (value_of v)) c) (is_bool v) c v m s l h
  go_jump_u c (kr u r) m s l h = push_u (br (tset r c) (lbl m)) s l h
  go_jump_u c (kx x) m s l h = on_x_u c x m s l h
  go_jump_u c (kj p d x y) m s l h = push_u (br (cmp p (agrees d c) x y) (lbl m)) s l h

  pub not_s_u : (k : K4) (s : St) → U s → U (not_s k s)
  unfolding not_s
  not_s_u (kc v) s h = h
  not_s_u (kr u r) s h = flush_u s h
  not_s_u (kx x) s h = d2r_u (kx x) 0 s.free s (omega nat) h
  not_s_u (kj p c x y) s h = h

  pub not_u : (p : Par4) → p.de.tl < n → p.de.fl < n → U p.st → U (labelled_code_not p).st
  unfolding labelled_code_not
  not_u p l m h = strip_u p.de.fl (strip p.de.tl (not_s p.de.k4 p.st)) m (strip_u p.de.tl (not_s p.de.k4 p.st) l (not_s_u p.de.k4 p.st h))

  pub e2r_u : (e : Des4) (r : ℕ) (s : St) → e.tl < n → s.nxt < n → U s → U (e2r e r s)
  unfolding e2r
  e2r_u e r s l m h = settle_u _ _ _ (d2r e.k4 e.tl r s).nxt e r (d2r e.k4 e.tl r s) (omega (nat, d2r_nxt e.k4 e.tl r s)) (d2r_u e.k4 e.tl r s l h)

-- ---- states and descriptors: labels from n on are new, and all are below the next one

pub record On (n : ℕ) (s : St) : Type 0 where
  pub up : n ≤ s.nxt
  pub old : Fresh s

pub record New4 (n : ℕ) (p : Par4) : Type 0 where
  pub on : On n p.st
  pub tl_new : n ≤ p.de.tl
  pub tl_old : p.de.tl < p.st.nxt
  pub fl_new : n ≤ p.de.fl
  pub fl_old : p.de.fl < p.st.nxt

pub record New (n : ℕ) (p : Pair) : Type 0 where
  pub on : On n p.st
  pub tl_new : n ≤ p.de.tl
  pub tl_old : p.de.tl < p.st.nxt
  pub fl_new : n ≤ p.de.fl
  pub fl_old : p.de.fl < p.st.nxt

next_code : (p : Par4) → p.de.tl < suc p.st.nxt → Under (suc p.st.nxt) p.st.code → Under (suc p.st.nxt) (nextreg p).code
unfolding nextreg
next_code p l h = e2r_u (suc p.st.nxt) (omega nat) p.de (freed p.de.k4 p.st.free) p.st l (omega nat) h

module _ (n : ℕ) (pos : 1 ≤ n) where
  pub lab_old : (c : Bool) (p : Par4) → New4 n p → lab c p.de < p.st.nxt
  lab_old true p o = o.tl_old
  lab_old false p o = o.fl_old

  pub at_least : (s : St) → On n s → 1 ≤ s.nxt
  at_least s o = omega (nat, o.up)

  pub next_on : (p : Par4) → New4 n p → On n (nextreg p)
  next_on p o = record {
    up = omega (nat, o.on.up, next_nxt p);
    old = subst (λ m. Under m (nextreg p).code) (sym (next_nxt p)) (next_code p (omega (nat, o.tl_old)) (under_more p.st.nxt (suc p.st.nxt) (omega nat) p.st.code o.on.old));
  }

  any_on₁ : (t : Bool) (k : K4) (p : Par4) → New4 n p → On n (any_k t k p).st
  unfolding any_k
  any_on₁ true k p o = next_on p o
  any_on₁ false (kc v) p o = next_on p o
  any_on₁ false (kr u r) p o = o.on
  any_on₁ false (kx x) p o = next_on p o
  any_on₁ false (kj c d x y) p o = next_on p o

  pub any_on : (p : Par4) → New4 n p → On n (anyreg p).st
  unfolding anyreg
  any_on p o = any_on₁ (hit false p.de.tl p.de.fl p.st.code) p.de.k4 p o

  pub add_on : (c : Constant) (s : St) → On n s → On n (add_k c s)
  add_on c s o = record { up = o.up; old = o.old }

  pub add_new : (c : Constant) (p : Par4) → New4 n p → New4 n (add_p c p)
  add_new c p o = record { on = add_on c p.st o.on; tl_new = o.tl_new; tl_old = o.tl_old; fl_new = o.fl_new; fl_old = o.fl_old }

  pub con_on : (b : Bool) (c : Constant) (p : Par4) → New4 n p → On n (con_rk b c p).st
  con_on true c p o = o.on
  con_on false c p o = any_on p o

  pub small_on : (b : Bool) (c : Constant) (p : Par4) → New4 n p → On n (small_rk b c p).st
  small_on true c p o = add_on c p.st o.on
  small_on false c p o = any_on p o

  pub rk_c_on : (c : Constant) (p : Par4) → New4 n p → On n (rk_c c p).st
  unfolding rk_c
  rk_c_on knil p o = small_on (roomy p.st.tab) knil p o
  rk_c_on (ktruth b) p o = small_on (roomy p.st.tab) (ktruth b) p o
  rk_c_on (knumber m) p o = con_on (is_near (knumber m) p.st.tab) (knumber m) (add_p (knumber m) p) (add_new (knumber m) p o)
  rk_c_on (ktext x) p o = con_on (is_near (ktext x) p.st.tab) (ktext x) p o

  rk_on₁ : (t : Bool) (k : K4) (p : Par4) → New4 n p → On n (rk_k t k p).st
  unfolding rk_k
  rk_on₁ true k p o = any_on p o
  rk_on₁ false (kc c) p o = rk_c_on c p o
  rk_on₁ false (kr u r) p o = any_on p o
  rk_on₁ false (kx x) p o = any_on p o
  rk_on₁ false (kj c d x y) p o = any_on p o

  pub rk_on : (p : Par4) → New4 n p → On n (exp2rk p).st
  unfolding exp2rk
  rk_on p o = rk_on₁ (hit false p.de.tl p.de.fl p.st.code) p.de.k4 p o

  -- with the same next label
  pub keep_on : (s u : St) → u.nxt ≡ s.nxt → On n s → Under s.nxt u.code → On n u
  keep_on s u e o h = record { up = omega (nat, e, o.up); old = subst (λ m. Under m u.code) (sym e) h }

  pub flush_on : (s : St) → On n s → On n (flush s)
  unfolding flush
  flush_on s o = record { up = o.up; old = flush_u s.nxt (at_least s o) s o.old }

  pub push_on : (i : Instr) (s : St) → UnderI s.nxt i → On n s → On n (push i s)
  unfolding push
  push_on i s u o = record { up = o.up; old = push_u s.nxt (at_least s o) i s u o.old }

  pub late_on : (b : Bool) (c : Constant) (s : St) → On n s → On n (late b c s).st
  unfolding push
  late_on true c s o = o
  late_on false c s o = let q = push_on (pl (setw s.free (val (value_of c)))) s tt o in record { up = q.up; old = q.old }

  pub late_of_on : (m : Option ℕ) (x : RkS) (s : St) → On n s → On n (late_of m x s).st
  late_of_on none x s o = o
  late_of_on (some k) x s o = late_on (is_near (knumber k) s.tab) (knumber k) (add_k (knumber k) s) (add_on (knumber k) s o)

  pub right_on : (m : Option ℕ) (x : RkS) (p : Par4) → New4 n p → On n (right_first m x p).st
  unfolding right_first
  right_on m x p o = late_of_on m x (exp2rk p).st (rk_on p o)

  pub left_on : (m : Option ℕ) (x : RkS) (p : Par4) → New4 n p → On n (left_first m x p).st
  unfolding left_first
  left_on none x p o = right_on none x p o
  left_on (some k) x p o = go (is_near (knumber k) p.st.tab)
    where
      go : (b : Bool) → On n (left_if b k x p).st
      go true = right_on none x (add_p (knumber k) p) (add_new (knumber k) p o)
      go false = right_on (some k) x p o

  pub before_on : (m : Option ℕ) (p : Par4) → New4 n p → On n (left_of m p).st
  before_on none p o = rk_on p o
  before_on (some k) p o = o.on

  -- descriptors
  pub fresh_new : (k : K) (m : ℕ) (s : St) → On n s → New n (fresh k m s)
  unfolding fresh
  fresh_new k m s o = record {
    on = record { up = omega (nat, o.up); old = under_more s.nxt (2 + s.nxt) (omega nat) s.code o.old };
    tl_new = o.up;
    tl_old = omega nat;
    fl_new = omega (nat, o.up);
    fl_old = omega nat;
  }

  pub dv_on : (k : K) (s : St) → On n s → ((dv_s k s).nxt ≡ s.nxt) × On n (dv_s k s)
  unfolding dv_s flush push
  dv_on (kd k) s o = (refl, o)
  dv_on (kl r) s o = (refl, o)
  dv_on (kg g) s o = (refl, flush_on s o)
  dv_on (ki f r x) s o = (refl, flush_on (set_free f s) (record { up = o.up; old = o.old }))
  dv_on (kcl t) s o = (refl, push_on (pl (callw t)) s tt o)
  dv_on kva s o = (refl, o)

  pub dv_new : (p : Pair) → New n p → New4 n (dv p)
  dv_new p o = let d = dv_on p.de.kind p.st o.on in record { on = d.1; tl_new = o.tl_new; tl_old = omega (nat, o.tl_old, d.0); fl_new = o.fl_new; fl_old = omega (nat, o.fl_old, d.0) }

  pub lift_new : (p : Par4) → New4 n p → New n (lift4 p)
  lift_new p o = record { on = o.on; tl_new = o.tl_new; tl_old = o.tl_old; fl_new = o.fl_new; fl_old = o.fl_old }

  pub not_new : (p : Par4) → New4 n p → New4 n (labelled_code_not p)
  unfolding labelled_code_not strip
  not_new p o = let e = not_nxt p.de.k4 p.st in record {
    on = keep_on p.st (labelled_code_not p).st e o.on (not_u p.st.nxt (at_least p.st o.on) p o.tl_old o.fl_old o.on.old);
    tl_new = o.fl_new;
    tl_old = omega (nat, o.fl_old, e);
    fl_new = o.tl_new;
    fl_old = omega (nat, o.tl_old, e);
  }

  pub log_new : (c : Bool) (m : ℕ) (p : Par4) → New4 n p → New4 n (log₂ c m p)
  unfolding log₂ relabel
  log_new c m p o = record {
    on = record { up = o.on.up; old = relabel_u p.st.nxt (at_least p.st o.on) m (lab c p.de) p.st (lab_old c p o) o.on.old };
    tl_new = o.tl_new;
    tl_old = o.tl_old;
    fl_new = o.fl_new;
    fl_old = o.fl_old;
  }

  pub word_new : (k : K4) (f : ℕ) (s : St) → On n s → New n (fresh (kd k) f (flush s))
  word_new k f s o = fresh_new (kd k) f (flush s) (flush_on s o)

  pub ari_new : (z : Fold) (a : Arith) (f : ℕ) (m : Option ℕ) (x : RkS) (p : Par4) → New4 n p → New n (ari_join z a f m x p)
  unfolding ari_join
  ari_new (Some z) a f m x p o = fresh_new _ f p.st o.on
  ari_new None a f m x p o = word_new _ f (right_first m x p).st (right_on m x p o)

  pub cmp_new : (k : StepKind) (c w : Bool) (f : ℕ) (m : Option ℕ) (x : RkS) (p : Par4) → New4 n p → New n (cmp_join k c w f m x p)
  unfolding cmp_join
  cmp_new k c w f m x p o = word_new _ f (left_first m x p).st (left_on m x p o)

  pub neg_new : (z : Fold) (f : ℕ) (p : Par4) → New4 n p → New n (neg_join z f p)
  unfolding neg_join
  neg_new (Some z) f p o = fresh_new _ f p.st o.on
  neg_new None f p o = word_new _ f (anyreg p).st (any_on p o)

  pub len_new : (f : ℕ) (p : Par4) → New4 n p → New n (len_join f p)
  unfolding len_join
  len_new f p o = word_new _ f (anyreg p).st (any_on p o)

  pub cat_x_new : (x : Ex) (r : ℕ) (p : Par4) → New4 n p → New n (cat_x x r p)
  unfolding cat_x
  cat_x_new (val v) r p o = word_new (kx (cat r 1)) r (nextreg p) (next_on p o)
  cat_x_new (cp k) r p o = word_new (kx (cat r 1)) r (nextreg p) (next_on p o)
  cat_x_new (glob g) r p o = word_new (kx (cat r 1)) r (nextreg p) (next_on p o)
  cat_x_new (idx t k) r p o = word_new (kx (cat r 1)) r (nextreg p) (next_on p o)
  cat_x_new (ari a x y) r p o = word_new (kx (cat r 1)) r (nextreg p) (next_on p o)
  cat_x_new (neg k) r p o = word_new (kx (cat r 1)) r (nextreg p) (next_on p o)
  cat_x_new (len k) r p o = word_new (kx (cat r 1)) r (nextreg p) (next_on p o)
  cat_x_new (notx k) r p o = word_new (kx (cat r 1)) r (nextreg p) (next_on p o)
  cat_x_new (cat b k) r p o = fresh_new _ r p.st o.on
  cat_x_new vfst r p o = word_new (kx (cat r 1)) r (nextreg p) (next_on p o)

  pub cat_k_new : (t : Bool) (k : K4) (r : ℕ) (p : Par4) → New4 n p → New n (cat_k t k r p)
  unfolding cat_k
  cat_k_new true k r p o = word_new (kx (cat r 1)) r (nextreg p) (next_on p o)
  cat_k_new false (kc v) r p o = word_new (kx (cat r 1)) r (nextreg p) (next_on p o)
  cat_k_new false (kr u k) r p o = word_new (kx (cat r 1)) r (nextreg p) (next_on p o)
  cat_k_new false (kx x) r p o = cat_x_new x r p o
  cat_k_new false (kj a c x y) r p o = word_new (kx (cat r 1)) r (nextreg p) (next_on p o)

  pub join_new : (r : ℕ) (p : Par4) → New4 n p → New n (join_c r p)
  unfolding join_c
  join_new r p o = cat_k_new (hit false p.de.tl p.de.fl p.st.code) p.de.k4 r p o

  pub index_new : (f r : ℕ) (p : Pair) → New n p → New n (indexed f r (exp2rk (dv p)))
  index_new f r p o = fresh_new _ _ (exp2rk (dv p)).st (rk_on (dv p) (dv_new p o))

  pub text_new : (t : List ℕ) (s : St) → On n s → New n (text_c t s)
  text_new t s o = fresh_new (kd (kc (ktext t))) s.free (add_k (ktext t) s) (add_on (ktext t) s o)

  pub call_new : (b m : ℕ) (s : St) → On n s → New n (labelled_closed_call b m s)
  call_new b m s o = fresh_new _ (suc b) (flush s) (flush_on s o)

  pub last_new : (b m : ℕ) (k : K) (p : Pair) → New n p → New n (last_arg b m k p)
  unfolding last_arg
  last_new b m (kd k) p o = call_new b (suc m) (nextreg (dv p)) (next_on (dv p) (dv_new p o))
  last_new b m (kl r) p o = call_new b (suc m) (nextreg (dv p)) (next_on (dv p) (dv_new p o))
  last_new b m (kg g) p o = call_new b (suc m) (nextreg (dv p)) (next_on (dv p) (dv_new p o))
  last_new b m (ki f t x) p o = call_new b (suc m) (nextreg (dv p)) (next_on (dv p) (dv_new p o))
  last_new b m (kcl t) p o = fresh_new _ (suc b) p.st o.on
  last_new b m kva p o = fresh_new _ (suc b) p.st o.on

  pub self_on : (t : List ℕ) (x : RgS) (f : ℕ) → On n x.st → On n (labelled_code_self t x f)
  unfolding labelled_code_self push
  self_on t x f o =
      let u = set_free (2 + f) (add_k (ktext t) x.st) in
      let k = late (is_near (ktext t) x.st.tab) (ktext t) u in
      let q = push_on (pl (selfw f x.rgn k.rkv)) k.st tt (late_on (is_near (ktext t) x.st.tab) (ktext t) u (record { up = o.up; old = o.old })) in
      record { up = q.up; old = q.old }

-- ---- the trees

module _ (chunk : List ℕ) (names : List Text) where
  module _ (n : ℕ) (pos : 1 ≤ n) where
    name_new : (name : List ℕ) (i : Option ℕ) (s : St) → On n s → New n (resolved chunk names name i s)
    name_new name none s o = fresh_new n pos (kg name) s.free (add_k (ktext name) s) (add_on n pos (ktext name) s o)
    name_new name (some r) s o = fresh_new n pos (kl r) s.free s o

    pub leaf_new : (l : Leaf) (s : St) → On n s → New n (comp_leaf chunk names l s)
    unfolding comp_leaf
    leaf_new leaf.Nil s o = fresh_new n pos _ s.free s o
    leaf_new leaf.True s o = fresh_new n pos _ s.free s o
    leaf_new leaf.False s o = fresh_new n pos _ s.free s o
    leaf_new (leaf.Number b) s o = fresh_new n pos _ s.free s o
    leaf_new (leaf.Str t) s o = text_new n pos (bytes_of chunk t) s o
    leaf_new leaf.VarArg s o = fresh_new n pos kva s.free (flush s) (flush_on n pos s o)
    leaf_new (leaf.Name t) s o = name_new (bytes_of chunk t) (search_local chunk (bytes_of chunk t) names 0) s o

    pub one_new : (a : One) (f : ℕ) (p : Par4) → New4 n p → New n (comp_one chunk names a f p)
    unfolding comp_one
    one_new (one_of_lem.Unary un.Neg) f p o = neg_new n pos (folds arith.Unm (numeral p) (numeral p)) f p o
    one_new (one_of_lem.Unary un.Not) f p o = lift_new n pos (labelled_code_not p) (not_new n pos p o)
    one_new (one_of_lem.Unary un.Len) f p o = len_new n pos f p o
    one_new (one_of_lem.Field t) f p o = index_new n pos f (anyreg p).rgn (text_c (bytes_of chunk t) (anyreg p).st) (text_new n pos (bytes_of chunk t) (anyreg p).st (any_on n pos p o))
    one_new one_of_lem.Paren f p o = lift_new n pos p o

    pub callee_on : (c : Many) (f : ℕ) (p : Par4) → New4 n p → On n (callee chunk names c f p)
    unfolding callee
    callee_on many.Call f p o = next_on n pos p o
    callee_on (many.MethodCall t) f p o = self_on n pos (bytes_of chunk t) (anyreg p) f (any_on n pos p o)
