-- Operators: concatenation, not, and, or, arithmetic with folding, comparisons, negation, length. A numeral that waits may be loaded last, for the right operand survives it.
-- What rests on something that a must-fail edit breaks stands in proofs/Binary.antt.
use Rattle.folding.specs.Numeral.{Fold}
use Prim.Native.Nat.{ℕ, suc, ◌≤◌, ◌<◌}
use Rattle.std.specs.Prelude.{Bool, ◌≡◌, List, [], ◌∷◌, Some, None}
use Rattle.std.proofs.Math.Bool.{true, false}
use Rattle.std.proofs.Math.Path.{refl, ap}
use Rattle.std.proofs.Common.{sym, ◌∙◌, arith as nat}
use Rattle.std.proofs.Math.Option.{Option, some, none}
use Rattle.constants.specs.Entry.{Constant, nil as knil, truth as ktruth, number as knumber, text as ktext}
use Rattle.model.specs.Values.{Value, number, value_of, is_true, StepKind, length_of, concatenation, Taken, taken, ask, compute, negation, folds}
use Rattle.model.specs.Running.{same as agrees}
use Rattle.labelled.specs.Code.{Rk, reg, con, Ex, val, cp, glob, idx, ari, neg, len, notx, cat, vfst, setw, pl}
use Rattle.labelled.specs.Machine.{Hist, Regs, Setting, then, list_of, pick, upd, upd_same, rk, Outcome, at, exit, cats, eval}
use Rattle.labelled.specs.Emission.{St, add_k, flush, push, strip, hit}
use Rattle.labelled.specs.Discharge.{K4, kc, kr, kx, kj, kd, Des4, Pair, Par4, RkS, lab, fresh, add_p, freed, d2r, nextreg, via_reg, anyreg, as_rk, exp2rk, late}
use Rattle.labelled.specs.Conditions.{go_if, not_s, labelled_code_not}
use Rattle.labelled.specs.Outcomes.{size_push}
use Rattle.folding.specs.declared.Arith.{Arith}
use Rattle.folding.specs.declared.Arith.TheVariants as arith
use Rattle.folding.specs.declared.Numeral.{Numeral}
use Rattle.labelled.specs.Table.{is_near}
use Rattle.labelled.specs.Operators.{num_c, num_k, numeral, left_of, late_of, Ops, right_first, left_if, left_first, ari_join, kcmp, cmp_join, neg_join, len_join, log₂, cat_x, cat_k, join_c}
use Rattle.labelled.specs.Firm.{Agree, agree_upd, agree_trans, C, Z, push_at, push_pass, strip_pass, flush_keeps, re_at, re_hit, re_pass}
use Rattle.labelled.specs.Loads.{cmp_a, finish4, Res4, fell, left}
use Rattle.labelled.specs.Branching.{Went, through, gone, lab_0, go_if_nxt, not_a, nots_pass, not_res}
use Rattle.labelled.specs.Owning.{OwnX, Own4, freed_own, own_le, not_own}
use Rattle.labelled.specs.Good.{finish_l, Good, Good4, labs₀, Fell, mk_good, flush_pass, flush_is}
use Rattle.labelled.specs.Operands.{rk_kept, Operand, next_op, no_left, still_op, good_add, rk_op, Both, two_ops, By, two, two_eq, two_pass}

pub not_nxt : (k : K4) (s : St) → (not_s k s).nxt ≡ s.nxt
unfolding not_s flush d2r push
not_nxt (kc v) s = refl
not_nxt (kr u r) s = refl
not_nxt (kx x) s = refl
not_nxt (kj o c x y) s = refl

agrees_refl : (c : Bool) → agrees c c ≡ true
agrees_refl true = refl
agrees_refl false = refl

abbrev pub log_a : Bool → (Hist → Taken Value) → Taken Value → Taken Value
log_a c D a = then a (λ v h. pick (agrees (is_true v) c) (taken v h) (D h))

pub late_nxt : (t : Bool) (c : Constant) (s : St) → (late t c s).st.nxt ≡ s.nxt
late_nxt true c s = refl
late_nxt false c s = refl

abbrev Waits : Option ℕ → RkS → Type 0
Waits none x = Unit {0}
Waits (some n) x = x.rkv ≡ con (number n)

late_of_nxt : (n : Option ℕ) (x : RkS) (s : St) → (late_of n x s).st.nxt ≡ s.nxt
late_of_nxt none x s = refl
late_of_nxt (some n) x s = late_nxt (is_near (knumber n) s.tab) (knumber n) (add_k (knumber n) s)

waits : (n : Option ℕ) (p : Par4) → Waits n (left_of n p)
waits none p = tt
waits (some n) p = refl

module _ (Γ : Setting) where
  -- concatenation
  module _ (A B : Hist → Taken Value) (s : St) (x : RkS) (na : Γ.active ≤ s.free) (l : 1 ≤ s.nxt) (o₁ : Operand Γ (By A) s.free s x) (ex : x.rkv ≡ reg s.free) (fx : x.st.free ≡ suc s.free) where
    abbrev Dc : Regs → Hist → Taken (List Value)
    Dc R h = list_of (two A B (λ v u h₁. ask Γ.world concatenation (v ∷ u ∷ []) h₁) h)

    cat_next : (p : Par4) → Good4 Γ (By B) x.st.free x.st p → Good Γ Dc s.free s (fresh (kd (kx (cat s.free 1))) s.free (flush (nextreg p)))
    unfolding finish_l finish4 eval
    cat_next p g = let o₂ = next_op Γ (By B) x.st.free x.st p (omega (nat, o₁.nx)) (omega (nat, fx)) g in
        let fo : freed p.de.k4 p.st.free ≡ suc s.free = freed_own Γ.active p.de.k4 x.st.free p.st.free g.own ∙ fx in
        mk_good Γ Dc (kd (kx (cat s.free 1))) s.free s.free s (flush (nextreg p)) (omega (nat, o₁.nx, o₂.nx, (flush_keeps (nextreg p)).1)) (refl, refl)
        (flush_pass Γ s (nextreg p) (two_pass Γ (By A) (By B) s.free x.st.free s x (as_rk (via_reg p)) o₁ o₂))
        (λ R h ag e. let t = two_ops Γ (By A) (By B) s.free x.st.free s x (as_rk (via_reg p)) na refl o₁ o₂ R h ag e in
        record {
          rg = t.rg;
          hs = t.hs;
          is = flush_is Γ (nextreg p) t.rg t.hs t.is;
          kept = t.kept;
          got = ap list_of (two_eq A B (λ v u h₁. ask Γ.world concatenation (v ∷ u ∷ []) h₁) (t.rg s.free) (t.rg (suc s.free)) h t.h₁ t.hs (ap (λ z. taken (rk z t.rg) t.h₁) (sym ex) ∙ t.got₁) (ap (λ z. taken (t.rg z) t.hs) (sym fo) ∙ t.got₂));
        })

    -- a word to come that is a concatenation over the registers above
    cat_merge : (b' k tl fl : ℕ) (st : St) → hit false tl fl st.code ≡ false → Good4 Γ (By B) x.st.free x.st (record { st = st; de = record { k4 = kx (cat b' k); tl = tl; fl = fl } }) →
        Good Γ Dc s.free s (fresh (kd (kx (cat s.free (suc k)))) s.free st)
    unfolding finish_l finish4 eval
    cat_merge b' k tl fl st z g = mk_good Γ Dc (kd (kx (cat s.free (suc k)))) s.free s.free s st (omega (nat, o₁.nx, g.nx)) (refl, refl)
        (λ ℓ c R h l0 ln e. g.pass ℓ c R h l0 (omega (nat, o₁.nx)) (o₁.pass ℓ c R h l0 ln e))
        (λ R h ag e.
        let R₁ = o₁.rg R h ag e in let h₁ = o₁.hs R h ag e in let k₁ = o₁.kept R h ag e in let i₁ = o₁.is R h ag e in
        let a₁ : Agree Γ.active Γ.start R₁ = agree_trans Γ.active s.free Γ.start R R₁ na ag k₁ in
        let d = no_left Γ (record { st = st; de = record { k4 = kx (cat b' k); tl = tl; fl = fl } }) x.st.free R₁ (By B R₁ h₁) z (g.main R₁ h₁ a₁ i₁) in
        let v₁ : rk x.rkv d.rg ≡ rk x.rkv R₁ = rk_kept x.rkv x.st.free R₁ d.rg o₁.low d.kept in
        record {
          rg = d.rg;
          hs = d.hs;
          is = d.is;
          kept = agree_trans s.free x.st.free R R₁ d.rg (omega (nat, fx)) k₁ d.kept;
          got = cat_eq d.rg d.hs h h₁ (ap (λ z. taken (rk z d.rg) h₁) (sym ex) ∙ ap (λ v. taken v h₁) v₁ ∙ o₁.got R h ag e) (ap (λ z. cats Γ k z d.rg d.hs) (sym (g.own.1 ∙ fx)) ∙ d.got);
        })
      where
        cat_eq : (R : Regs) (h₀ h h₁ : Hist) → taken (R s.free) h₁ ≡ A h → cats Γ k (suc s.free) R h₀ ≡ B h₁ →
            list_of (then (cats Γ k (suc s.free) R h₀) (λ v h₂. ask Γ.world concatenation (R s.free ∷ v ∷ []) h₂)) ≡ Dc R h
        cat_eq R h₀ h h₁ p q = ap list_of (two_eq A B (λ v u h₁. ask Γ.world concatenation (v ∷ u ∷ []) h₁) (R s.free) (cats Γ k (suc s.free) R h₀).gives h h₁ (cats Γ k (suc s.free) R h₀).steps p q)

    cat_x_lem : (y : Ex) (tl fl : ℕ) (st : St) → hit false tl fl st.code ≡ false → Good4 Γ (By B) x.st.free x.st (record { st = st; de = record { k4 = kx y; tl = tl; fl = fl } }) →
        Good Γ Dc s.free s (cat_x y s.free (record { st = st; de = record { k4 = kx y; tl = tl; fl = fl } }))
    unfolding cat_x
    cat_x_lem (val v) tl fl st z g = cat_next _ g
    cat_x_lem (cp r) tl fl st z g = cat_next _ g
    cat_x_lem (glob k) tl fl st z g = cat_next _ g
    cat_x_lem (idx t k) tl fl st z g = cat_next _ g
    cat_x_lem (ari o u v) tl fl st z g = cat_next _ g
    cat_x_lem (neg r) tl fl st z g = cat_next _ g
    cat_x_lem (len r) tl fl st z g = cat_next _ g
    cat_x_lem (notx r) tl fl st z g = cat_next _ g
    cat_x_lem (cat b' k) tl fl st z g = cat_merge b' k tl fl st z g
    cat_x_lem vfst tl fl st z g = cat_next _ g

    cat_k_lem : (t : Bool) (k : K4) (tl fl : ℕ) (st : St) → hit false tl fl st.code ≡ t → Good4 Γ (By B) x.st.free x.st (record { st = st; de = record { k4 = k; tl = tl; fl = fl } }) →
        Good Γ Dc s.free s (cat_k t k s.free (record { st = st; de = record { k4 = k; tl = tl; fl = fl } }))
    unfolding cat_k
    cat_k_lem true k tl fl st z g = cat_next _ g
    cat_k_lem false (kc v) tl fl st z g = cat_next _ g
    cat_k_lem false (kr u r) tl fl st z g = cat_next _ g
    cat_k_lem false (kx y) tl fl st z g = cat_x_lem y tl fl st z g
    cat_k_lem false (kj o c u v) tl fl st z g = cat_next _ g

    pub cat_good : (p : Par4) → Good4 Γ (By B) x.st.free x.st p → Good Γ Dc s.free s (join_c s.free p)
    unfolding join_c
    cat_good p g = cat_k_lem (hit false p.de.tl p.de.fl p.st.code) p.de.k4 p.de.tl p.de.fl p.st refl g

  pub not_good : (D : Regs → Hist → Taken Value) (f : ℕ) (s : St) (p : Par4) → 1 ≤ s.nxt → Good4 Γ D f s p → Good4 Γ (λ R h. not_a (D R h)) f s (labelled_code_not p)
  unfolding labelled_code_not strip
  not_good D f s p l g = record {
    own = not_own Γ.active p.de.k4 f p.st g.own;
    nx = omega (nat, g.nx, not_nxt p.de.k4 p.st);
    tlo = g.flo;
    thi = omega (nat, g.fhi, not_nxt p.de.k4 p.st);
    flo = g.tlo;
    fhi = omega (nat, g.thi, not_nxt p.de.k4 p.st);
    ft = λ x. g.ft (sym x);
    pass = λ ℓ b R h l0 ln e. strip_pass Γ p.de.fl (strip p.de.tl (not_s p.de.k4 p.st)) ℓ b R h (omega (nat, g.flo)) (omega (nat, g.flo)) (strip_pass Γ p.de.tl (not_s p.de.k4 p.st) ℓ b R h (omega (nat, g.tlo)) (omega (nat, g.tlo))
        (nots_pass Γ p.de.k4 p.st ℓ b R h (g.pass ℓ b R h l0 ln e)));
    main = λ R h ag e. not_res Γ p f R (D R h) (labs₀ Γ D f s p l g) (own_le Γ.active p.de.k4 f p.st.free g.own) (g.main R h ag e);
  }

  -- AND, OR
  pub lab_lo : (D : Regs → Hist → Taken Value) (f : ℕ) (s : St) (p : Par4) (c : Bool) → Good4 Γ D f s p → s.nxt ≤ lab c p.de
  lab_lo D f s p true g = g.tlo
  lab_lo D f s p false g = g.flo

  lab_hi : (D : Regs → Hist → Taken Value) (f : ℕ) (s : St) (p : Par4) (c : Bool) → Good4 Γ D f s p → lab c p.de < p.st.nxt
  lab_hi D f s p true g = g.thi
  lab_hi D f s p false g = g.fhi

  module _ (c : Bool) (D₁ D₂ : Hist → Taken Value) (f : ℕ) (s : St) (p₁ p₂ : Par4) (l : 1 ≤ s.nxt) (na : Γ.active ≤ f) (g₁ : Good4 Γ (λ R h. D₁ h) f s p₁) (g₂ : Good4 Γ (λ R h. D₂ h) f (go_if c p₁) p₂) where
    abbrev m : ℕ
    m = lab c p₁.de

    pub m0 : m ≡ 0 → ⊥
    m0 = lab_0 c p₁.de (labs₀ Γ (λ R h. D₁ h) f s p₁ l g₁)

    pub lo₂ : (d : Bool) → p₁.st.nxt ≤ lab d p₂.de
    lo₂ d = omega (nat, lab_lo (λ R h. D₂ h) f (go_if c p₁) p₂ d g₂, go_if_nxt c p₁)

    pub b0 : (d : Bool) → lab d p₂.de ≡ 0 → ⊥
    b0 d = omega (nat, lo₂ d, g₁.nx)

    dm : (d : Bool) → lab d p₂.de ≡ m → ⊥
    dm d = omega (nat, lo₂ d, lab_hi (λ R h. D₁ h) f s p₁ c g₁)

    log_res₂ : (n : ℕ) (R : Regs) (a : Taken Value) → Res4 Γ p₂.de (Z p₂.st) (C Γ p₂.st) n R a → Res4 Γ (log₂ c m p₂).de (Z (log₂ c m p₂).st) (C Γ (log₂ c m p₂).st) n R a
    unfolding log₂
    log_res₂ n R a (fell R' h q ag w) = fell R' h (re_at Γ m (lab c p₂.de) p₂.st R' h m0 (b0 c) q) ag w
    log_res₂ n R a (left d b R' v h q ag z w y) = left d b R' v h (re_pass Γ m (lab c p₂.de) p₂.st (lab d p₂.de) b R' h m0 (b0 c) (dm d) q) ag z w y

    res_mono : (n : ℕ) (e : Des4) (z : ℕ) (o : Outcome) (R R' : Regs) (a : Taken Value) → Agree n R R' → Res4 Γ e z o n R' a → Res4 Γ e z o n R a
    res_mono n e z o R R' a ag (fell R'' h q ag' w) = fell R'' h q (agree_trans n n R R' R'' (omega nat) ag ag') w
    res_mono n e z o R R' a ag (left d b R'' v h q ag' x w y) = left d b R'' v h q (agree_trans n n R R' R'' (omega nat) ag ag') x w y

    log_hit : (b : Option ℕ) (R' : Regs) (h' : Hist) → C Γ (go_if c p₁) ≡ exit m b R' h' → C Γ (log₂ c m p₂).st ≡ exit (lab c (log₂ c m p₂).de) b R' h'
    unfolding log₂
    log_hit b R' h' q = re_hit Γ m (lab c p₂.de) p₂.st b R' h' m0 (b0 c) (g₂.pass m b R' h' m0 (omega (nat, lab_hi (λ R h. D₁ h) f s p₁ c g₁, go_if_nxt c p₁)) q)

    pub log_main : (R : Regs) (h : Hist) → Agree Γ.active Γ.start R → Went c m (Z (go_if c p₁)) (C Γ (go_if c p₁)) f R (D₁ h) →
        Res4 Γ (log₂ c m p₂).de (Z (log₂ c m p₂).st) (C Γ (log₂ c m p₂).st) f R (log_a c D₂ (D₁ h))
    log_main R h ag (through R' v h' q ag' z w) = rw (← w, z)
        (log_res₂ f R (D₂ h') (res_mono f p₂.de _ _ R R' (D₂ h') ag' (g₂.main R' h' (agree_trans Γ.active f Γ.start R R' na ag ag') q)))
    log_main R h ag (gone b R' v h' q ag' z y w) = rw (← w, z, agrees_refl c) (left c b R' v h' (log_hit b R' h' q) ag' z y refl)

  -- A NUMERAL THAT WAITS
  pub record Late (q : RkS) (s : St) (v : Value) (R : Regs) (h : Hist) : Type 0 where
    pub rg : Regs
    pub is : C Γ q.st ≡ at (Z q.st) rg h
    pub kept : Agree s.free R rg
    pub got : rk q.rkv rg ≡ v

  late_at : (t : Bool) (c : Constant) (s : St) (R : Regs) (h : Hist) → C Γ s ≡ at (Z s) R h → Late (late t c s) s (value_of c) R h
  unfolding eval
  late_at true c s R h e = record { rg = R; is = e; kept = λ k z. refl; got = refl }
  late_at false c s R h e = record {
    rg = upd s.free (value_of c) R;
    is = push_at Γ (pl (setw s.free (val (value_of c)))) s R h tt e ∙ rw (size_push Γ (pl (setw s.free (val (value_of c)))) s) refl;
    kept = agree_upd s.free R R s.free (value_of c) (omega nat) (λ k z. refl);
    got = upd_same s.free (value_of c) R;
  }

  pub late_pass : (t : Bool) (c : Constant) (s : St) (ℓ : ℕ) (b : Option ℕ) (R : Regs) (h : Hist) → C Γ s ≡ exit ℓ b R h → C Γ (late t c s).st ≡ exit ℓ b R h
  late_pass true c s ℓ b R h e = e
  late_pass false c s ℓ b R h e = push_pass Γ (pl (setw s.free (val (value_of c)))) s ℓ b R h tt e

  late_of_at : (n : Option ℕ) (x : RkS) (s : St) (R : Regs) (h : Hist) → Waits n x → C Γ s ≡ at (Z s) R h → Late (late_of n x s) s (rk x.rkv R) R h
  late_of_at none x s R h w e = record { rg = R; is = e; kept = λ k z. refl; got = refl }
  late_of_at (some n) x s R h w e = let d = late_at (is_near (knumber n) s.tab) (knumber n) (add_k (knumber n) s) R h e in
      record { rg = d.rg; is = d.is; kept = d.kept; got = d.got ∙ ap (λ z. rk z R) (sym w) }

  late_of_pass : (n : Option ℕ) (x : RkS) (s : St) (ℓ : ℕ) (b : Option ℕ) (R : Regs) (h : Hist) → C Γ s ≡ exit ℓ b R h → C Γ (late_of n x s).st ≡ exit ℓ b R h
  late_of_pass none x s ℓ b R h e = e
  late_of_pass (some n) x s ℓ b R h e = late_pass (is_near (knumber n) s.tab) (knumber n) (add_k (knumber n) s) ℓ b R h e

  left_c : (c : Constant) (tl fl : ℕ) (st : St) (D : Regs → Hist → Taken Value) (f : ℕ) (s : St) → hit false tl fl st.code ≡ false → 1 ≤ s.nxt → Γ.active ≤ f → Good4 Γ D f s (record { st = st; de = record { k4 = kc c; tl = tl; fl = fl } }) →
      Operand Γ D f s (left_of (num_c c) (record { st = st; de = record { k4 = kc c; tl = tl; fl = fl } }))
  unfolding finish4
  left_c knil tl fl st D f s z l na g = rk_op Γ D f s _ l na g
  left_c (ktruth b) tl fl st D f s z l na g = rk_op Γ D f s _ l na g
  left_c (knumber n) tl fl st D f s z l na g = still_op Γ D f s (record { st = st; de = record { k4 = kc (knumber n); tl = tl; fl = fl } }) (con (number n)) z g tt (λ R h. refl)
  left_c (ktext b) tl fl st D f s z l na g = rk_op Γ D f s _ l na g

  left_op₁ : (t : Bool) (k : K4) (tl fl : ℕ) (st : St) (D : Regs → Hist → Taken Value) (f : ℕ) (s : St) → hit false tl fl st.code ≡ t → 1 ≤ s.nxt → Γ.active ≤ f → Good4 Γ D f s (record { st = st; de = record { k4 = k; tl = tl; fl = fl } }) →
      Operand Γ D f s (left_of (num_k t k) (record { st = st; de = record { k4 = k; tl = tl; fl = fl } }))
  left_op₁ true k tl fl st D f s z l na g = rk_op Γ D f s _ l na g
  left_op₁ false (kc v) tl fl st D f s z l na g = left_c v tl fl st D f s z l na g
  left_op₁ false (kr u r) tl fl st D f s z l na g = rk_op Γ D f s _ l na g
  left_op₁ false (kx x) tl fl st D f s z l na g = rk_op Γ D f s _ l na g
  left_op₁ false (kj o c x y) tl fl st D f s z l na g = rk_op Γ D f s _ l na g

  pub left_op : (D : Regs → Hist → Taken Value) (f : ℕ) (s : St) (p : Par4) → 1 ≤ s.nxt → Γ.active ≤ f → Good4 Γ D f s p → Operand Γ D f s (left_of (numeral p) p)
  unfolding numeral
  left_op D f s p l na g = left_op₁ (hit false p.de.tl p.de.fl p.st.code) p.de.k4 p.de.tl p.de.fl p.st D f s refl l na g

  -- arithmetic and comparison, the left operand perhaps brought to RK last
  late_good : (n : Option ℕ) (A B : Hist → Taken Value) (s : St) (x y : RkS) (k : K4) (g : Value → Value → Hist → Taken Value) → Γ.active ≤ s.free → Waits n x → Operand Γ (By A) s.free s x → Operand Γ (By B) x.st.free x.st y → Own4 Γ.active s.free k s.free →
      ((R : Regs) (h : Hist) → finish4 Γ k R h ≡ g (rk (late_of n x y.st).rkv R) (rk y.rkv R) h) → Good Γ (λ R h. list_of (two A B g h)) s.free s (fresh (kd k) s.free (flush (late_of n x y.st).st))
  unfolding finish_l
  late_good n A B s x y k g na wt o₁ o₂ ow w = let z = late_of n x y.st in
      mk_good Γ (λ R h. list_of (two A B g h)) (kd k) s.free s.free s (flush z.st) (omega (nat, o₁.nx, o₂.nx, late_of_nxt n x y.st, (flush_keeps z.st).1)) ow
      (flush_pass Γ s z.st (λ ℓ c R h l0 ln e. late_of_pass n x y.st ℓ c R h (two_pass Γ (By A) (By B) s.free x.st.free s x y o₁ o₂ ℓ c R h l0 ln e)))
      (λ R h ag e. fin R h (two_ops Γ (By A) (By B) s.free x.st.free s x y na refl o₁ o₂ R h ag e))
    where
      fin : (R : Regs) (h : Hist) → Both Γ y x.rkv (By A) (By B) s.free R h → Fell Γ (flush (late_of n x y.st).st) (kd k) s.free R (list_of (two A B g h))
      fin R h t = let d = late_of_at n x y.st t.rg t.hs wt t.is in
          record {
            rg = d.rg;
            hs = t.hs;
            is = flush_is Γ _ d.rg t.hs d.is;
            kept = agree_trans s.free y.st.free R t.rg d.rg (omega (nat, o₁.fr, o₂.fr)) t.kept d.kept;
            got = ap list_of (w d.rg t.hs ∙ two_eq A B g _ _ h t.h₁ t.hs (ap (λ u. taken u t.h₁) d.got ∙ t.got₁) (ap (λ u. taken u t.hs) (rk_kept y.rkv y.st.free t.rg d.rg o₂.low d.kept) ∙ t.got₂));
          }

  -- arithmetic: two numerals are folded
  compute_folded : (o : Arith) (v u : ℕ) (z : Numeral) (h : Hist) → folds o (some v) (some u) ≡ Some z → taken (number z.bits) h ≡ compute Γ.world o (number v) (number u) h
  unfolding compute
  compute_folded o v u z h e = rw e refl

  fold_good : (o : Arith) (A B : Hist → Taken Value) (s : St) (st st₂ : St) (v u : ℕ) (z : Numeral) → Γ.active ≤ s.free → Operand Γ (By A) s.free s (record { st = st; rkv = con (number v) }) → Operand Γ (By B) st.free st (record { st = st₂; rkv = con (number u) }) →
      folds o (some v) (some u) ≡ Some z → Good Γ (λ R h. list_of (two A B (compute Γ.world o) h)) s.free s (fresh (kd (kc (knumber z.bits))) s.free st₂)
  unfolding finish_l finish4
  fold_good o A B s st st₂ v u z na o₁ o₂ e = mk_good Γ _ (kd (kc (knumber z.bits))) s.free s.free s st₂ (omega (nat, o₁.nx, o₂.nx)) refl
      (two_pass Γ (By A) (By B) s.free st.free s (record { st = st; rkv = con (number v) }) (record { st = st₂; rkv = con (number u) }) o₁ o₂)
      (λ R h ag c. let t = two_ops Γ (By A) (By B) s.free st.free s (record { st = st; rkv = con (number v) }) (record { st = st₂; rkv = con (number u) }) na refl o₁ o₂ R h ag c in
      record { rg = t.rg; hs = t.hs; is = t.is; kept = t.kept; got = ap list_of (compute_folded o v u z t.hs e ∙ two_eq A B (compute Γ.world o) (number v) (number u) h t.h₁ t.hs t.got₁ t.got₂) })

  module _ (o : Arith) (A B : Hist → Taken Value) (s : St) (na : Γ.active ≤ s.free) where
    abbrev Dari : Regs → Hist → Taken (List Value)
    Dari R h = list_of (two A B (compute Γ.world o) h)

    kept_good : (n : Option ℕ) (p q : Par4) → Operand Γ (By A) s.free s (left_of n p) → Operand Γ (By B) (left_of n p).st.free (left_of n p).st (exp2rk q) → Good Γ Dari s.free s (ari_join None o s.free n (left_of n p) q)
    unfolding ari_join right_first finish4 eval
    kept_good n p q o₁ o₂ = late_good n A B s (left_of n p) (exp2rk q) _ (compute Γ.world o) na (waits n p) o₁ o₂ (refl, tt) (λ R h. refl)

    folded_good : (v u : ℕ) (z : Numeral) (p q : Par4) → Operand Γ (By A) s.free s (left_of (some v) p) → Operand Γ (By B) p.st.free p.st (left_of (some u) q) → folds o (some v) (some u) ≡ Some z →
        Good Γ Dari s.free s (ari_join (Some z) o s.free (some v) (left_of (some v) p) q)
    unfolding ari_join
    folded_good v u z p q o₁ o₂ e = fold_good o A B s p.st q.st v u z na o₁ o₂ e

    pub ari_good : (n m : Option ℕ) (p q : Par4) → Operand Γ (By A) s.free s (left_of n p) → Operand Γ (By B) (left_of n p).st.free (left_of n p).st (left_of m q) →
        Operand Γ (By B) (left_of n p).st.free (left_of n p).st (exp2rk q) → Good Γ Dari s.free s (ari_join (folds o n m) o s.free n (left_of n p) q)
    ari_good none none p q o₁ oₘ o₂ = kept_good none p q o₁ o₂
    ari_good none (some u) p q o₁ oₘ o₂ = kept_good none p q o₁ o₂
    ari_good (some v) none p q o₁ oₘ o₂ = kept_good (some v) p q o₁ o₂
    ari_good (some v) (some u) p q o₁ oₘ o₂ = go (folds o (some v) (some u)) refl
      where
        go : (z : Fold) → folds o (some v) (some u) ≡ z → Good Γ Dari s.free s (ari_join z o s.free (some v) (left_of (some v) p) q)
        go None e = kept_good (some v) p q o₁ o₂
        go (Some z) e = folded_good v u z p q o₁ oₘ e

  -- comparisons
  abbrev pub cmp_s : Bool → StepKind → Bool → Value → Value → Hist → Taken Value
  cmp_s true o c v u h = cmp_a Γ o c u v h
  cmp_s false o c v u h = cmp_a Γ o c v u h

  own_cmp : (w : Bool) (o : StepKind) (c : Bool) (x y : Rk) (f : ℕ) → Own4 Γ.active f (kcmp w o c x y) f
  own_cmp true o c x y f = refl
  own_cmp false o c x y f = refl

  fin_cmp : (w : Bool) (o : StepKind) (c : Bool) (x y : Rk) (R : Regs) (h : Hist) → finish4 Γ (kcmp w o c x y) R h ≡ cmp_s w o c (rk x R) (rk y R) h
  unfolding finish4
  fin_cmp true o c x y R h = refl
  fin_cmp false o c x y R h = refl

  module _ (o : StepKind) (c w : Bool) (A B : Hist → Taken Value) (s : St) (na : Γ.active ≤ s.free) where
    abbrev Dcmp : Regs → Hist → Taken (List Value)
    Dcmp R h = list_of (two A B (cmp_s w o c) h)

    abbrev joined : Ops → Pair
    joined z = fresh (kd (kcmp w o c z.lft z.rgt)) s.free (flush z.st)

    ops_good : (n : Option ℕ) (x : RkS) (q : Par4) → Waits n x → 1 ≤ x.st.nxt → Γ.active ≤ x.st.free → Operand Γ (By A) s.free s x → Good4 Γ (By B) x.st.free x.st q → Good Γ Dcmp s.free s (joined (right_first n x q))
    unfolding right_first
    ops_good n x q wt l ne o₁ g₂ = late_good n A B s x (exp2rk q) _ (cmp_s w o c) na wt o₁ (rk_op Γ (By B) x.st.free x.st q l ne g₂) (own_cmp w o c _ _ s.free) (λ R h. fin_cmp w o c _ _ R h)

    left_good : (n : Option ℕ) (x : RkS) (q : Par4) → Waits n x → 1 ≤ x.st.nxt → Γ.active ≤ x.st.free → Operand Γ (By A) s.free s x → Good4 Γ (By B) x.st.free x.st q → Good Γ Dcmp s.free s (joined (left_first n x q))
    unfolding left_first
    left_good none x q wt l ne o₁ g₂ = ops_good none x q tt l ne o₁ g₂
    left_good (some n) x q wt l ne o₁ g₂ = go (is_near (knumber n) q.st.tab)
      where
        go : (t : Bool) → Good Γ Dcmp s.free s (joined (left_if t n x q))
        go true = ops_good none x (add_p (knumber n) q) tt l ne o₁ (good_add Γ (knumber n) (By B) x.st.free x.st q g₂)
        go false = ops_good (some n) x q wt l ne o₁ g₂

    pub cmp_good : (n : Option ℕ) (p q : Par4) → 1 ≤ (left_of n p).st.nxt → Γ.active ≤ (left_of n p).st.free → Operand Γ (By A) s.free s (left_of n p) → Good4 Γ (By B) (left_of n p).st.free (left_of n p).st q → Good Γ Dcmp s.free s (cmp_join o c w s.free n (left_of n p) q)
    unfolding cmp_join
    cmp_good n p q l ne o₁ g₂ = left_good n (left_of n p) q (waits n p) l ne o₁ g₂

  -- negation and length
  module _ (A : Hist → Taken Value) (s : St) where
    abbrev Dneg : Regs → Hist → Taken (List Value)
    Dneg R h = list_of (then (A h) (negation Γ.world))

    una_good : (x : Ex) (g : Value → Hist → Taken Value) (r : ℕ) (st : St) → OwnX s.free x → ((R : Regs) (h : Hist) → eval Γ x R h ≡ g (R r) h) → Operand Γ (By A) s.free s (record { st = st; rkv = reg r }) →
        Good Γ (λ R h. list_of (then (A h) g)) s.free s (fresh (kd (kx x)) s.free (flush st))
    unfolding finish_l finish4
    una_good x g r st ow w o₁ = mk_good Γ _ (kd (kx x)) s.free s.free s (flush st) (omega (nat, o₁.nx, (flush_keeps st).1)) (refl, ow) (flush_pass Γ s st o₁.pass)
        (λ R h ag e. record {
          rg = o₁.rg R h ag e;
          hs = o₁.hs R h ag e;
          is = flush_is Γ st _ _ (o₁.is R h ag e);
          kept = o₁.kept R h ag e;
          got = ap list_of (w (o₁.rg R h ag e) (o₁.hs R h ag e) ∙ ap (λ t. then t g) (o₁.got R h ag e));
        })

    pub len_good : (p : Par4) → Operand Γ (By A) s.free s (as_rk (anyreg p)) → Good Γ (λ R h. list_of (then (A h) λ v h₁. ask Γ.world length_of (v ∷ []) h₁)) s.free s (len_join s.free p)
    unfolding len_join eval
    len_good p o₁ = una_good (len (anyreg p).rgn) (λ v h₁. ask Γ.world length_of (v ∷ []) h₁) (anyreg p).rgn (anyreg p).st tt (λ R h. refl) o₁

    neg_kept : (p : Par4) → Operand Γ (By A) s.free s (as_rk (anyreg p)) → Good Γ Dneg s.free s (neg_join None s.free p)
    unfolding neg_join eval
    neg_kept p o₁ = una_good (neg (anyreg p).rgn) (negation Γ.world) (anyreg p).rgn (anyreg p).st tt (λ R h. refl) o₁

    neg_eq : (v : ℕ) (z : Numeral) (h : Hist) → folds arith.Unm (some v) (some v) ≡ Some z → taken (number z.bits) h ≡ negation Γ.world (number v) h
    unfolding negation
    neg_eq v z h e = rw e refl

    neg_folded : (v : ℕ) (z : Numeral) (p : Par4) → folds arith.Unm (some v) (some v) ≡ Some z → Operand Γ (By A) s.free s (record { st = p.st; rkv = con (number v) }) → Good Γ Dneg s.free s (neg_join (Some z) s.free p)
    unfolding neg_join finish_l finish4
    neg_folded v z p e o₁ = mk_good Γ _ (kd (kc (knumber z.bits))) s.free s.free s p.st o₁.nx refl o₁.pass
        (λ R h ag c. record {
          rg = o₁.rg R h ag c;
          hs = o₁.hs R h ag c;
          is = o₁.is R h ag c;
          kept = o₁.kept R h ag c;
          got = ap list_of (neg_eq v z (o₁.hs R h ag c) e ∙ ap (λ t. then t (negation Γ.world)) (o₁.got R h ag c));
        })

    pub neg_good : (n : Option ℕ) (p : Par4) → Operand Γ (By A) s.free s (left_of n p) → Operand Γ (By A) s.free s (as_rk (anyreg p)) → Good Γ Dneg s.free s (neg_join (folds arith.Unm n n) s.free p)
    neg_good none p oₙ o₁ = neg_kept p o₁
    neg_good (some v) p oₙ o₁ = go (folds arith.Unm (some v) (some v)) refl
      where
        go : (z : Fold) → folds arith.Unm (some v) (some v) ≡ z → Good Γ Dneg s.free s (neg_join z s.free p)
        go None e = neg_kept p o₁
        go (Some z) e = neg_folded v z p e oₙ
