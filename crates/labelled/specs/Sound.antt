-- What the lowering keeps about constants, up to operands: the table only grows and has none twice, whatever a word or a descriptor loads or names is listed, and an RK constant is listed
-- at a place of at most 255; and the list of a call stands right behind its fixed arguments. Each operation keeps it, since edits change no operand and a place never changes.
use Rattle.std.specs.Prelude.{ℕ, ◌+◌, ◌≤◌, Bool, true, false, ◌≡◌, refl, leb}
use Rattle.std.proofs.Common.{subst, arith as nat}
use mathlib.Core.List.{List, [], ◌∷◌}
use Rattle.std.proofs.Math.Option.{some, none}
use Rattle.instructions.specs.Limits.{max_index_rk}
use Rattle.constants.specs.Entry.{Constant, nil as knil, truth as ktruth, number as knumber, text as ktext}
use Rattle.model.specs.Values.{Value, nil, truth, number, text, other, value_of}
use Rattle.labelled.specs.Code.{same, Rk, reg, con, Ex, val, cp, glob, idx, ari, neg, len, notx, cat, vfst, Ctrl, always, test, tset, tseta, cmp, to, lbl, PW, setw, lbs, mark, nilw, callw, selfw, Instr, pl, br, Code, Act, keep, land, re, setreg, ed_br, ed1, edit}
use Rattle.labelled.specs.Machine.{pick}
use Rattle.labelled.specs.Table.{place, include, roomy, is_near}
use Rattle.labelled.specs.Places.{Listed, Grows, grows_refl, grows_trans, grows_include, place_include, place_grows, listed_include, listed_grows, near_place, roomy_place, Distinct, distinct_include}
use Rattle.labelled.specs.Owning.{Nested}
use Rattle.labelled.specs.Emission.{St, set_free, labelled_with_free, add_k, flush, push, labelled_emit_jump, relabel, strip, hit, here_if, labelled_to_here, in_range, extend, nil_top}
use Rattle.labelled.specs.Discharge.{K4, kc, kr, kx, kj, K, kd, kl, kg, ki, kcl, kva, Des4, Pair, Par4, RkS, fresh, lift4, add_p, dv_k, dv_s, dv, freed, load_con, d2r, load_pair, land_all, settle, e2r, nextreg, any_k, anyreg, as_rk, con_rk, small_rk, rk_c, rk_k, exp2rk}

-- ---- operands, words and descriptors over a table

abbrev pub OkRk : List Constant → Rk → Type 0
OkRk t (reg r) = Unit {0}
OkRk t (con v) = (c : Constant) × ((value_of c ≡ v) × (Listed c t × (place c t ≤ max_index_rk)))

-- a value that is loaded: true and false by their own word, numbers and texts from the table
abbrev pub OkV : List Constant → Value → Type 0
OkV t nil = ⊥
OkV t (truth b) = Unit {0}
OkV t (number n) = Listed (knumber n) t
OkV t (text x) = Listed (ktext x) t
OkV t (other i) = ⊥

abbrev pub OkX : List Constant → Ex → Type 0
OkX t (val v) = OkV t v
OkX t (cp r) = Unit {0}
OkX t (glob g) = Listed (ktext g) t
OkX t (idx r k) = OkRk t k
OkX t (ari o x y) = OkRk t x × OkRk t y
OkX t (neg r) = Unit {0}
OkX t (len r) = Unit {0}
OkX t (notx r) = Unit {0}
OkX t (cat b k) = Unit {0}
OkX t vfst = Unit {0}

abbrev pub OkP : List Constant → PW → Type 0
OkP t (setw a x) = OkX t x
OkP t (lbs a b) = Unit {0}
OkP t mark = Unit {0}
OkP t (nilw a k) = Unit {0}
OkP t (callw c) = Nested c
OkP t (selfw a o k) = OkRk t k

abbrev pub OkC : List Constant → Ctrl → Type 0
OkC t always = Unit {0}
OkC t (test r c) = Unit {0}
OkC t (tset r c) = Unit {0}
OkC t (tseta a r c) = Unit {0}
OkC t (cmp o c x y) = OkRk t x × OkRk t y

abbrev pub OkI : List Constant → Instr → Type 0
OkI t (pl w) = OkP t w
OkI t (br c g) = OkC t c

abbrev pub Ok : List Constant → Code → Type 0
Ok t [] = Unit {0}
Ok t (i ∷ c) = OkI t i × Ok t c

-- a text was listed when it was read; a numeral is when it is used
abbrev pub OkCon : List Constant → Constant → Type 0
OkCon t knil = Unit {0}
OkCon t (ktruth b) = Unit {0}
OkCon t (knumber n) = Unit {0}
OkCon t (ktext x) = Listed (ktext x) t

abbrev pub OkK4 : List Constant → K4 → Type 0
OkK4 t (kc c) = OkCon t c
OkK4 t (kr u r) = Unit {0}
OkK4 t (kx x) = OkX t x
OkK4 t (kj o c x y) = OkRk t x × OkRk t y

abbrev pub OkK : List Constant → K → Type 0
OkK t (kd k) = OkK4 t k
OkK t (kl r) = Unit {0}
OkK t (kg g) = Listed (ktext g) t
OkK t (ki f r x) = OkRk t x
OkK t (kcl c) = Nested c
OkK t kva = Unit {0}

-- ---- growth keeps them

module _ (t u : List Constant) (g : Grows t u) where
  pub rk_grow : (x : Rk) → OkRk t x → OkRk u x
  rk_grow (reg r) h = tt
  rk_grow (con v) (c, (e, (l, m))) = (c, (e, (listed_grows c t u g l, omega (nat, m, place_grows c t u g l))))

  v_grow : (v : Value) → OkV t v → OkV u v
  v_grow nil h = h
  v_grow (truth b) h = tt
  v_grow (number n) h = listed_grows (knumber n) t u g h
  v_grow (text x) h = listed_grows (ktext x) t u g h
  v_grow (other i) h = h

  x_grow : (x : Ex) → OkX t x → OkX u x
  x_grow (val v) h = v_grow v h
  x_grow (cp r) h = tt
  x_grow (glob n) h = listed_grows (ktext n) t u g h
  x_grow (idx r k) h = rk_grow k h
  x_grow (ari o x y) h = (rk_grow x h.0, rk_grow y h.1)
  x_grow (neg r) h = tt
  x_grow (len r) h = tt
  x_grow (notx r) h = tt
  x_grow (cat b k) h = tt
  x_grow vfst h = tt

  i_grow : (i : Instr) → OkI t i → OkI u i
  i_grow (pl (setw a x)) h = x_grow x h
  i_grow (pl (lbs a b)) h = tt
  i_grow (pl mark) h = tt
  i_grow (pl (nilw a k)) h = tt
  i_grow (pl (callw c)) h = h
  i_grow (pl (selfw a o k)) h = rk_grow k h
  i_grow (br always p) h = tt
  i_grow (br (test r c) p) h = tt
  i_grow (br (tset r c) p) h = tt
  i_grow (br (tseta a r c) p) h = tt
  i_grow (br (cmp o c x y) p) h = (rk_grow x h.0, rk_grow y h.1)

  pub ok_grow : (c : Code) → Ok t c → Ok u c
  ok_grow [] h = tt
  ok_grow (i ∷ c) h = (i_grow i h.0, ok_grow c h.1)

  pub k4_grow : (k : K4) → OkK4 t k → OkK4 u k
  k4_grow (kc knil) h = tt
  k4_grow (kc (ktruth b)) h = tt
  k4_grow (kc (knumber n)) h = tt
  k4_grow (kc (ktext x)) h = listed_grows (ktext x) t u g h
  k4_grow (kr b r) h = tt
  k4_grow (kx x) h = x_grow x h
  k4_grow (kj o c x y) h = (rk_grow x h.0, rk_grow y h.1)

-- ---- edits keep them

module _ (t : List Constant) where
  ok_set : (b : Bool) (r k : ℕ) (c : Bool) → OkC t (setreg b r k c)
  ok_set true r k c = tt
  ok_set false r k c = tt

  ok_br : (a : Act) (c : Ctrl) (ℓ : ℕ) → OkC t c → OkI t (ed_br a c ℓ)
  ok_br keep c ℓ h = h
  ok_br (land v r d) always ℓ h = tt
  ok_br (land v r d) (test b c) ℓ h = tt
  ok_br (land v none d) (tset b c) ℓ h = tt
  ok_br (land v (some r) d) (tset b c) ℓ h = ok_set (same r b) r b c
  ok_br (land v r d) (tseta a b c) ℓ h = tt
  ok_br (land v r d) (cmp o c x y) ℓ h = h
  ok_br (re m false) c ℓ h = h
  ok_br (re m true) always ℓ h = tt
  ok_br (re m true) (test b c) ℓ h = tt
  ok_br (re m true) (tset b c) ℓ h = tt
  ok_br (re m true) (tseta a b c) ℓ h = tt
  ok_br (re m true) (cmp o c x y) ℓ h = h

  ok_ed1 : (g : ℕ → Act) (i : Instr) → OkI t i → OkI t (ed1 g i)
  ok_ed1 g (pl w) h = h
  ok_ed1 g (br c (to p)) h = h
  ok_ed1 g (br c (lbl ℓ)) h = ok_br (g ℓ) c ℓ h

  ok_edit : (g : ℕ → Act) (c : Code) → Ok t c → Ok t (edit g c)
  unfolding edit
  ok_edit g [] h = tt
  ok_edit g (i ∷ c) h = (ok_ed1 g i h.0, ok_edit g c h.1)

-- ---- from a state to a later one

pub record To (s s' : St) : Type 0 where
  pub grows : Grows s.tab s'.tab
  pub ok : Ok s.tab s.code → Ok s'.tab s'.code
  pub once : Distinct s.tab → Distinct s'.tab

pub then_to : (s u v : St) → To s u → To u v → To s v
then_to s u v a b = record { grows = grows_trans s.tab u.tab v.tab a.grows b.grows; ok = λ h. b.ok (a.ok h); once = λ d. b.once (a.once d) }

-- with the same table
code_to : (s : St) (c : Code) (f n : ℕ) → (Ok s.tab s.code → Ok s.tab c) → To s (record { code = c; free = f; nxt = n; tab = s.tab })
code_to s c f n h = record { grows = grows_refl s.tab; ok = h; once = λ d. d }

pub same_to : (s : St) → To s s
same_to s = code_to s s.code s.free s.nxt (λ h. h)

pub free_to : (s : St) (f n : ℕ) → To s (labelled_with_free s f n)
free_to s f n = code_to s s.code f n (λ h. h)

pub add_to : (c : Constant) (s : St) → To s (add_k c s)
add_to c s = record { grows = grows_include c s.tab; ok = λ h. ok_grow s.tab (include c s.tab) (grows_include c s.tab) s.code h; once = λ d. distinct_include c s.tab d }

pub flush_to : (s : St) → To s (flush s)
unfolding flush
flush_to s = code_to s _ _ _ (λ h. ok_edit s.tab _ s.code h)

pub push_to : (i : Instr) (s : St) → OkI s.tab i → To s (push i s)
unfolding push
push_to i s o = code_to s _ _ _ (λ h. (o, ok_edit s.tab _ s.code h))

pub jump_to : (m : ℕ) (s : St) → To s (labelled_emit_jump m s)
unfolding labelled_emit_jump
jump_to m s = code_to s _ _ _ (λ h. (tt, ok_edit s.tab _ s.code h))

pub relabel_to : (a b : ℕ) (s : St) → To s (relabel a b s)
unfolding relabel
relabel_to a b s = code_to s _ _ _ (λ h. ok_edit s.tab _ s.code h)

pub strip_to : (a : ℕ) (s : St) → To s (strip a s)
unfolding strip
strip_to a s = code_to s _ _ _ (λ h. ok_edit s.tab _ s.code h)

pub here_to : (m : ℕ) (s : St) → To s (labelled_to_here m s)
unfolding labelled_to_here
here_to m s = go (hit false m m s.code)
  where
    go : (b : Bool) → To s (here_if b m s)
    go true = code_to s _ _ _ (λ h. (tt, ok_edit s.tab _ s.code h))
    go false = same_to s

-- ---- discharging

extend_to : (b z : Bool) (a k r : ℕ) (c : Code) (s : St) → s.code ≡ pl (nilw a k) ∷ c → To s (extend b z a k r c s)
extend_to true true a k r c s e = code_to s _ _ _ (λ h. subst (Ok s.tab) e h)
extend_to true false a k r c s e = code_to s _ _ _ (λ h. subst (Ok s.tab) e h)
extend_to false z a k r c s e = push_to (pl (nilw r 0)) s tt

nil_to : (c : Code) (r : ℕ) (s : St) → s.code ≡ c → To s (nil_top c r s)
nil_to [] r s e = same_to s
nil_to (pl mark ∷ c) r s e = push_to (pl (nilw r 0)) s tt
nil_to (pl (setw a x) ∷ c) r s e = push_to (pl (nilw r 0)) s tt
nil_to (pl (lbs a b) ∷ c) r s e = push_to (pl (nilw r 0)) s tt
nil_to (pl (nilw a k) ∷ c) r s e = extend_to (in_range a k r) (leb r (k + a)) a k r c s e
nil_to (pl (callw t) ∷ c) r s e = push_to (pl (nilw r 0)) s tt
nil_to (pl (selfw a b d) ∷ c) r s e = push_to (pl (nilw r 0)) s tt
nil_to (br d t ∷ c) r s e = push_to (pl (nilw r 0)) s tt

load_to : (c : Constant) (r : ℕ) (s : St) → OkCon s.tab c → To s (load_con c r s)
load_to knil r s o = nil_to s.code r s refl
load_to (ktruth b) r s o = push_to (pl (setw r (val (truth b)))) s tt
load_to (knumber n) r s o = then_to s (add_k (knumber n) s) _ (add_to (knumber n) s) (push_to (pl (setw r (val (number n)))) (add_k (knumber n) s) (listed_include (knumber n) s.tab))
load_to (ktext x) r s o = push_to (pl (setw r (val (text x)))) s o

pub d2r_to : (k : K4) (t r : ℕ) (s : St) → OkK4 s.tab k → To s (d2r k t r s)
unfolding d2r
d2r_to (kc c) t r s o = load_to c r s o
d2r_to (kr u k) t r s o = go (same r k)
  where
    go : (b : Bool) → To s (pick b s (push (pl (setw r (cp k))) s))
    go true = same_to s
    go false = push_to (pl (setw r (cp k))) s tt
d2r_to (kx x) t r s o = push_to (pl (setw r x)) s o
d2r_to (kj p c x y) t r s o = push_to (br (cmp p c x y) (lbl t)) s o

pair_to : (j t f r : ℕ) (s : St) → To s (load_pair j t f r s)
unfolding load_pair
pair_to j t f r s = code_to s _ _ _ (λ h. (tt, (tt, ok_edit s.tab _ s.code h)))

settle_to : (a b c : Bool) (j : ℕ) (e : Des4) (r : ℕ) (s : St) → To s (settle a b c j e r s)
unfolding settle land_all
settle_to false b c j e r s = same_to s
settle_to true false c j e r s = code_to s _ _ _ (λ h. (tt, ok_edit s.tab _ s.code h))
settle_to true true true j e r s = pair_to j e.tl e.fl r s
settle_to true true false j e r s = then_to s (labelled_emit_jump j s) _ (jump_to j s) (pair_to j e.tl e.fl r (labelled_emit_jump j s))

e2r_to : (e : Des4) (r : ℕ) (s : St) → OkK4 s.tab e.k4 → To s (e2r e r s)
unfolding e2r
e2r_to e r s o = then_to s (d2r e.k4 e.tl r s) _ (d2r_to e.k4 e.tl r s o) (settle_to _ _ _ _ e r (d2r e.k4 e.tl r s))

pub next_to : (p : Par4) → OkK4 p.st.tab p.de.k4 → To p.st (nextreg p)
unfolding nextreg
next_to p o = let s₁ = e2r p.de (freed p.de.k4 p.st.free) p.st in then_to p.st s₁ _ (e2r_to p.de (freed p.de.k4 p.st.free) p.st o) (free_to s₁ _ _)

any_to₁ : (t : Bool) (k : K4) (p : Par4) → OkK4 p.st.tab p.de.k4 → To p.st (any_k t k p).st
unfolding any_k
any_to₁ true k p o = next_to p o
any_to₁ false (kc v) p o = next_to p o
any_to₁ false (kr u r) p o = same_to p.st
any_to₁ false (kx x) p o = next_to p o
any_to₁ false (kj c d x y) p o = next_to p o

pub any_to : (p : Par4) → OkK4 p.st.tab p.de.k4 → To p.st (anyreg p).st
unfolding anyreg
any_to p o = any_to₁ (hit false p.de.tl p.de.fl p.st.code) p.de.k4 p o

-- what comes of a state: a descriptor, a discharged one, an operand
pub record Makes (s : St) (p : Pair) : Type 0 where
  pub way : To s p.st
  pub kind_ok : OkK p.st.tab p.de.kind

pub record Makes4 (s : St) (p : Par4) : Type 0 where
  pub way : To s p.st
  pub kind_ok : OkK4 p.st.tab p.de.k4

pub record MakesRk (s : St) (q : RkS) : Type 0 where
  pub way : To s q.st
  pub rk_ok : OkRk q.st.tab q.rkv

pub fresh_makes : (k : K) (m : ℕ) (s u : St) → To s u → OkK u.tab k → Makes s (fresh k m u)
unfolding fresh
fresh_makes k m s u a o = record { way = then_to s u _ a (free_to u m (2 + u.nxt)); kind_ok = o }

dv_makes₁ : (k : K) (s u : St) → To s u → OkK u.tab k → To s (dv_s k u) × OkK4 (dv_s k u).tab (dv_k k)
unfolding dv_s flush push
dv_makes₁ (kd k) s u a o = (a, o)
dv_makes₁ (kl r) s u a o = (a, tt)
dv_makes₁ (kg g) s u a o = (then_to s u (flush u) a (flush_to u), o)
dv_makes₁ (ki f r x) s u a o = (then_to s u _ a (then_to u (set_free f u) (flush (set_free f u)) (free_to u f u.nxt) (flush_to (set_free f u))), o)
dv_makes₁ (kcl t) s u a o = (then_to s u (push (pl (callw t)) u) a (push_to (pl (callw t)) u o), tt)
dv_makes₁ kva s u a o = (a, tt)

pub dv_makes : (s : St) (p : Pair) → Makes s p → Makes4 s (dv p)
dv_makes s p m = let d = dv_makes₁ p.de.kind s p.st m.way m.kind_ok in record { way = d.0; kind_ok = d.1 }

pub lift_makes : (s : St) (p : Par4) → Makes4 s p → Makes s (lift4 p)
lift_makes s p m = record { way = m.way; kind_ok = m.kind_ok }

-- ---- operands

rk_any : (p : Par4) → OkK4 p.st.tab p.de.k4 → MakesRk p.st (as_rk (anyreg p))
rk_any p o = record { way = any_to p o; rk_ok = tt }

-- a constant that was just added or is listed, if it is near
pub near_ok : (c : Constant) (t : List Constant) → Listed c t → place c t ≤ max_index_rk → OkRk t (con (value_of c))
near_ok c t l m = (c, (refl, (l, m)))

small_makes : (c : Constant) (p : Par4) → OkK4 p.st.tab p.de.k4 → (b : Bool) → roomy p.st.tab ≡ b → MakesRk p.st (small_rk b c p)
small_makes c p o true e = record { way = add_to c p.st; rk_ok = near_ok c (include c p.st.tab) (listed_include c p.st.tab) (roomy_place c p.st.tab e) }
small_makes c p o false e = rk_any p o

rk_c_makes : (c : Constant) (p : Par4) → OkCon p.st.tab c → OkK4 p.st.tab p.de.k4 → MakesRk p.st (rk_c c p)
unfolding rk_c
rk_c_makes knil p l o = small_makes knil p o (roomy p.st.tab) refl
rk_c_makes (ktruth b) p l o = small_makes (ktruth b) p o (roomy p.st.tab) refl
rk_c_makes (knumber n) p l o = go (is_near (knumber n) p.st.tab) refl
  where
    q : Par4
    q = add_p (knumber n) p

    go : (b : Bool) → is_near (knumber n) p.st.tab ≡ b → MakesRk p.st (con_rk b (knumber n) (add_p (knumber n) p))
    go true e = record { way = add_to (knumber n) p.st; rk_ok = near_ok (knumber n) _ (listed_include (knumber n) p.st.tab) (omega (nat, place_include (knumber n) p.st.tab, near_place (knumber n) p.st.tab e)) }
    go false e = let a = add_to (knumber n) p.st in
        let m = rk_any (add_p (knumber n) p) (k4_grow p.st.tab (include (knumber n) p.st.tab) (grows_include (knumber n) p.st.tab) p.de.k4 o) in
        record { way = then_to p.st (add_k (knumber n) p.st) _ a m.way; rk_ok = m.rk_ok }
rk_c_makes (ktext x) p l o = go (is_near (ktext x) p.st.tab) refl
  where
    go : (b : Bool) → is_near (ktext x) p.st.tab ≡ b → MakesRk p.st (con_rk b (ktext x) p)
    go true e = record { way = same_to p.st; rk_ok = near_ok (ktext x) p.st.tab l (near_place (ktext x) p.st.tab e) }
    go false e = rk_any p o

rk_makes₁ : (t : Bool) (k : K4) (p : Par4) → p.de.k4 ≡ k → OkK4 p.st.tab p.de.k4 → MakesRk p.st (rk_k t k p)
unfolding rk_k
rk_makes₁ true k p e o = rk_any p o
rk_makes₁ false (kc c) p e o = rk_c_makes c p (subst (OkK4 p.st.tab) e o) o
rk_makes₁ false (kr u r) p e o = rk_any p o
rk_makes₁ false (kx x) p e o = rk_any p o
rk_makes₁ false (kj c d x y) p e o = rk_any p o

pub rk_makes : (p : Par4) → OkK4 p.st.tab p.de.k4 → MakesRk p.st (exp2rk p)
unfolding exp2rk
rk_makes p o = rk_makes₁ (hit false p.de.tl p.de.fl p.st.code) p.de.k4 p refl o
