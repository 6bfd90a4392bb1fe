-- Calls and methods: arguments in the registers behind the function, all values of the last one behind those.
use Prim.Native.Nat.{ℕ, zero, suc, ◌+◌, ◌≤◌, ◌<◌}
use Rattle.std.specs.Prelude.{Bool, ◌≡◌}
use Rattle.std.proofs.Math.Bool.{true, false}
use Rattle.std.proofs.Math.Path.{refl, ap}
use Rattle.std.proofs.Common.{sym, ◌∙◌, subst, zero-add}
use mathlib.Core.List.{List, [], ◌∷◌, ◌++◌, append_assoc, append-nil}
use Rattle.std.proofs.Math.Option.{Option}
use native.Mathlib.Omega.{arith as nat}
use Rattle.constants.specs.Entry.{Constant, text as ktext}
use Rattle.model.specs.Values.{Value, text, value_of, index_read, Taken, taken, ask, ask_many}
use Rattle.labelled.specs.Code.{val, CT, cfix, cva, cct, setw, selfw, pl, cbase}
use Rattle.labelled.specs.Machine.{Hist, Regs, Setting, then, first_value, list_of, upd, upd_same, upd_other, rk, span, Outcome, at, exit, eval, eval_c}
use Rattle.labelled.specs.Emission.{St, set_free, add_k, flush, push}
use Rattle.labelled.specs.Discharge.{K, kd, kl, kg, ki, kcl, kva, Desc, Pair, RkS, RgS, fresh, dv, freed, nextreg, as_rk, late}
use Rattle.labelled.specs.Outcomes.{size_push}
use Rattle.labelled.specs.Table.{is_near}
use Rattle.labelled.specs.Expressions.{labelled_closed_call, last_arg, self_s, labelled_code_self}
use Rattle.labelled.specs.Firm.{Agree, agree_upd, agree_trans, C, Z, push_at, push_pass, true≢false, flush_keeps}
use Rattle.labelled.specs.Loads.{finish4}
use Rattle.labelled.specs.Owning.{Nested, freed_own}
use Rattle.labelled.specs.Good.{is_open, finish_l, Res, fell_l, left_l, first_one, Good, dv_good, Fell, Passes, mk_good, flush_pass, flush_is, res_mono_l}
use Rattle.labelled.specs.Operands.{Operand, next_op, By}
use Rattle.labelled.specs.Binary.{late_pass, late_nxt}

-- CALLS
span_kept : (n b m : ℕ) (R R' : Regs) → n + b ≤ m → Agree m R R' → span n b R' ≡ span n b R
span_kept zero b m R R' l ag = refl
span_kept (suc n) b m R R' l ag = rw (ag b (omega nat), span_kept n (suc b) m R R' (omega nat) ag) refl

span_snoc : (n b : ℕ) (R : Regs) → span (suc n) b R ≡ span n b R ++ (R (n + b) ∷ [])
span_snoc zero b R = rw (zero-add b) refl
span_snoc (suc n) b R = let e : n + suc b ≡ suc n + b = omega nat in ap (λ z. R b ∷ z) (span_snoc n (suc b) R ∙ ap (λ k. span n (suc b) R ++ (R k ∷ [])) e)

abbrev self_st : List ℕ → RgS → ℕ → St
self_st t x f = set_free (2 + f) (add_k (ktext t) x.st)

pub self_keeps : (t : List ℕ) (x : RgS) (f : ℕ) → ((labelled_code_self t x f).free ≡ 2 + f) × ((labelled_code_self t x f).nxt ≡ x.st.nxt)
unfolding labelled_code_self push
self_keeps t x f = (refl, late_nxt (is_near (ktext t) x.st.tab) (ktext t) (self_st t x f))

abbrev pub cons_l : (Hist → Taken (List Value)) → (Hist → Taken (List Value)) → Hist → Taken (List Value)
cons_l A L h = then (first_value (A h)) λ v h₁. then (L h₁) λ vs h₂. taken (v ∷ vs) h₂

module _ (Γ : Setting) where
  one_first : (k : K) (R : Regs) (h : Hist) → is_open k ≡ false → finish_l Γ k R h ≡ list_of (first_value (finish_l Γ k R h))
  unfolding finish_l
  one_first (kd k) R h z = ap list_of (sym (first_one (finish4 Γ k R h)))
  one_first (kl r) R h z = refl
  one_first (kg g) R h z = refl
  one_first (ki f t x) R h z = refl
  one_first (kcl t) R h z = absurd (true≢false z)
  one_first kva R h z = absurd (true≢false z)

  alone : (e : Desc) (p : ℕ) (o : Outcome) (n : ℕ) (R : Regs) (a : Taken (List Value)) → is_open e.kind ≡ false → Res Γ e p o n R a → a ≡ list_of (first_value a)
  alone e p o n R a z (fell_l R' h q ag w) = rw w at (one_first e.kind R' h z)
  alone e p o n R a z (left_l c b R' v h y q ag t u w) = ap (λ k. k) (sym w ∙ ap (λ k. list_of (first_value k)) w)

  -- arguments behind n others, and then the call of all; what the function and the others are stands in the registers
  abbrev pub Dargs : (Hist → Taken (List Value)) → ℕ → ℕ → Regs → Hist → Taken (List Value)
  Dargs L b n R h = then (L h) λ vs h₂. ask_many Γ.world (span (suc n) b R ++ vs) h₂

  -- no arguments
  pub none_good : (b n : ℕ) (s : St) → Good Γ (Dargs (λ h. taken [] h) b n) b s (labelled_closed_call b n s)
  unfolding finish_l eval_c
  none_good b n s = mk_good Γ (Dargs (λ h. taken [] h) b n) (kcl (cfix b n)) b (suc b) s (flush s) (omega (nat, (flush_keeps s).1)) (refl, refl, tt) (flush_pass Γ s s (λ ℓ c R h l0 ln e. e))
      (λ R h ag e. record { rg = R; hs = h; is = flush_is Γ s R h e; kept = λ k z. refl; got = ap (λ vs. ask_many Γ.world vs h) (sym (append-nil (span (suc n) b R))) })

  -- the last argument is one value
  last_closed : (L : Hist → Taken (List Value)) (b n : ℕ) (s : St) (p : Pair) → 1 ≤ s.nxt → Γ.active ≤ b → s.free ≡ suc (n + b) → is_open p.de.kind ≡ false → Good Γ (λ R h. L h) s.free s p →
      Good Γ (Dargs L b n) b s (fresh (kcl (cfix b (suc n))) (suc b) (flush (nextreg (dv p))))
  unfolding finish_l eval_c
  last_closed L b n s p l na fs z g = let g4 = dv_good Γ (λ R h. L h) s.free s p g in let o₂ = next_op Γ (λ R h. first_value (L h)) s.free s (dv p) l (omega nat) g4 in
      let fo : freed (dv p).de.k4 (dv p).st.free ≡ suc (n + b) = freed_own Γ.active (dv p).de.k4 s.free (dv p).st.free g4.own ∙ fs in
      mk_good Γ _ (kcl (cfix b (suc n))) b (suc b) s (flush (nextreg (dv p))) (omega (nat, o₂.nx, (flush_keeps (nextreg (dv p))).1)) (refl, refl, tt) (flush_pass Γ s (nextreg (dv p)) o₂.pass)
      (λ R h ag e. record {
        rg = o₂.rg R h ag e;
        hs = o₂.hs R h ag e;
        is = flush_is Γ (nextreg (dv p)) _ _ (o₂.is R h ag e);
        kept = λ k lt. o₂.kept R h ag e k (omega (nat, fs));
        got = eq R (o₂.rg R h ag e) h (o₂.hs R h ag e) (o₂.kept R h ag e) (ap (λ k. taken (o₂.rg R h ag e k) (o₂.hs R h ag e)) (sym fo) ∙ o₂.got R h ag e) (alone p.de _ _ s.free R (L h) z (g.main R h ag e));
      })
    where
      eq : (R R' : Regs) (h h' : Hist) → Agree s.free R R' → taken (R' (suc (n + b))) h' ≡ first_value (L h) → L h ≡ list_of (first_value (L h)) →
          ask_many Γ.world (span (suc (suc n)) b R') h' ≡ then (L h) (λ vs h₂. ask_many Γ.world (span (suc n) b R ++ vs) h₂)
      eq R R' h h' ag u y = let e : suc n + b ≡ suc (n + b) = omega nat in
          ap (λ z. ask_many Γ.world z h') (span_snoc (suc n) b R' ∙ ap (λ z. z ++ (R' (suc n + b) ∷ [])) (span_kept (suc n) b s.free R R' (omega (nat, fs)) ag) ∙ ap (λ k. span (suc n) b R ++ (R' k ∷ [])) e)
          ∙ ap (λ z. then z (λ vs h₂. ask_many Γ.world (span (suc n) b R ++ vs) h₂)) (sym (y ∙ ap list_of (sym u)))

  -- the last argument is a list
  last_open : (L : Hist → Taken (List Value)) (b n : ℕ) (s : St) (p : Pair) (t : CT) → Γ.active ≤ b → s.free ≡ suc (n + b) → is_open p.de.kind ≡ true → cbase t ≡ b → Nested t → Good Γ (λ R h. L h) s.free s p →
      ((R : Regs) (h : Hist) → eval_c Γ t R h ≡ then (finish_l Γ p.de.kind R h) (λ vs h₁. ask_many Γ.world (span (suc n) b R ++ vs) h₁)) →
      Good Γ (Dargs L b n) b s (fresh (kcl t) (suc b) p.st)
  unfolding finish_l
  last_open L b n s p t na fs z bt nt g w = mk_good Γ _ (kcl t) b (suc b) s p.st g.nx (bt, refl, nt) g.pass (λ R h ag e. go R h (g.main R h ag e))
    where
      go : (R : Regs) (h : Hist) → Res Γ p.de (Z p.st) (C Γ p.st) s.free R (L h) → Fell Γ p.st (kcl t) b R (then (L h) (λ vs h₂. ask_many Γ.world (span (suc n) b R ++ vs) h₂))
      go R h (fell_l R' h' q ag u) = record {
        rg = R';
        hs = h';
        is = q;
        kept = λ k lt. ag k (omega (nat, fs));
        got = w R' h' ∙ ap (λ y. then y (λ vs h₁. ask_many Γ.world (span (suc n) b R' ++ vs) h₁)) u ∙ ap (λ y. then (L h) (λ vs h₁. ask_many Γ.world (y ++ vs) h₁)) (span_kept (suc n) b s.free R R' (omega (nat, fs)) ag);
      }
      go R h (left_l c k R' v h' y q ag x u m) = absurd (true≢false (sym z ∙ y))

  pub last_good : (L : Hist → Taken (List Value)) (b n : ℕ) (s : St) (k : K) (tl fl : ℕ) (st : St) → 1 ≤ s.nxt → Γ.active ≤ b → s.free ≡ suc (n + b) → Good Γ (λ R h. L h) s.free s (record { st = st; de = record { kind = k; tl = tl; fl = fl } }) →
      Good Γ (Dargs L b n) b s (last_arg b n k (record { st = st; de = record { kind = k; tl = tl; fl = fl } }))
  unfolding last_arg finish_l eval_c
  last_good L b n s (kd k) tl fl st l na fs g = last_closed L b n s _ l na fs refl g
  last_good L b n s (kl r) tl fl st l na fs g = last_closed L b n s _ l na fs refl g
  last_good L b n s (kg r) tl fl st l na fs g = last_closed L b n s _ l na fs refl g
  last_good L b n s (ki f t x) tl fl st l na fs g = last_closed L b n s _ l na fs refl g
  last_good L b n s (kcl t) tl fl st l na fs g = last_open L b n s _ (cct b n t) na fs refl refl (g.own.0 ∙ fs, g.own.2) g (λ R h. refl)
  last_good L b n s kva tl fl st l na fs g = last_open L b n s _ (cva b n) na fs refl refl tt g (λ R h. refl)

  -- METHODS
  -- the key, read when the object stands in its register
  pub record Key (q : RkS) (s : St) (v : Value) (f : ℕ) (R : Regs) (h : Hist) : Type 0 where
    pub rg : Regs
    pub is : C Γ q.st ≡ at (Z q.st) rg h
    pub kept : Agree s.free R rg
    pub got : (o : Value) → rk q.rkv (upd (suc f) o rg) ≡ v

  key_at : (t : Bool) (c : Constant) (s : St) (f : ℕ) (R : Regs) (h : Hist) → suc f < s.free → C Γ s ≡ at (Z s) R h → Key (late t c s) s (value_of c) f R h
  unfolding eval
  key_at true c s f R h l e = record { rg = R; is = e; kept = λ k z. refl; got = λ o. refl }
  key_at false c s f R h l e = record {
    rg = upd s.free (value_of c) R;
    is = push_at Γ (pl (setw s.free (val (value_of c)))) s R h tt e ∙ rw (size_push Γ (pl (setw s.free (val (value_of c)))) s) refl;
    kept = agree_upd s.free R R s.free (value_of c) (omega nat) (λ k z. refl);
    got = λ o. upd_other (suc f) o _ s.free (λ z. omega nat) ∙ upd_same s.free (value_of c) R;
  }

  pub record Selfs (s₂ : St) (f : ℕ) (v : Value) (R : Regs) (a : Taken Value) : Type 0 where
    pub rg : Regs
    pub hs : Hist
    pub is : C Γ s₂ ≡ at (Z s₂) rg hs
    pub kept : Agree f R rg
    pub obj : rg (suc f) ≡ v
    pub fun : taken (rg f) hs ≡ a

  self_q : (q : RkS) (x : RgS) (f : ℕ) (R R₁ : Regs) (h : Hist) (k : Value) → x.rgn ≤ f → C Γ q.st ≡ at (Z q.st) R₁ h → Agree (2 + f) R R₁ → ((o : Value) → rk q.rkv (upd (suc f) o R₁) ≡ k) →
      Selfs (self_s q x f) f (R x.rgn) R (ask Γ.world index_read (R x.rgn ∷ k ∷ []) h)
  self_q q x f R R₁ h k lr e ag gk = let o : R₁ x.rgn ≡ R x.rgn = ag x.rgn (omega nat) in
      record {
        rg = upd f (ask Γ.world index_read (R x.rgn ∷ k ∷ []) h).gives (upd (suc f) (R x.rgn) R₁);
        hs = (ask Γ.world index_read (R x.rgn ∷ k ∷ []) h).steps;
        is = push_at Γ (pl (selfw f x.rgn q.rkv)) q.st R₁ h tt e ∙ rw (gk (R₁ x.rgn), o, size_push Γ (pl (selfw f x.rgn q.rkv)) q.st) refl;
        kept = agree_upd f R _ f _ (omega nat) (agree_upd f R R₁ (suc f) _ (omega nat) (λ j lt. ag j (omega nat)));
        obj = upd_other f _ _ (suc f) (λ z. omega nat) ∙ upd_same (suc f) _ R₁;
        fun = ap (λ v. taken v (ask Γ.world index_read (R x.rgn ∷ k ∷ []) h).steps) (upd_same f _ _);
      }

  self_at : (t : List ℕ) (x : RgS) (f : ℕ) (R : Regs) (h : Hist) → x.rgn ≤ f → C Γ x.st ≡ at (Z x.st) R h → Selfs (labelled_code_self t x f) f (R x.rgn) R (ask Γ.world index_read (R x.rgn ∷ text t ∷ []) h)
  unfolding labelled_code_self
  self_at t x f R h lr e = let d = key_at (is_near (ktext t) x.st.tab) (ktext t) (self_st t x f) f R h (omega nat) e in
      self_q (late (is_near (ktext t) x.st.tab) (ktext t) (self_st t x f)) x f R d.rg h (text t) lr d.is d.kept d.got

  pub self_pass : (t : List ℕ) (x : RgS) (f ℓ : ℕ) (b : Option ℕ) (R : Regs) (h : Hist) → C Γ x.st ≡ exit ℓ b R h → C Γ (labelled_code_self t x f) ≡ exit ℓ b R h
  unfolding labelled_code_self
  self_pass t x f ℓ b R h e = let q = late (is_near (ktext t) x.st.tab) (ktext t) (self_st t x f) in
      push_pass Γ (pl (selfw f x.rgn q.rkv)) q.st ℓ b R h tt (late_pass Γ (is_near (ktext t) x.st.tab) (ktext t) (self_st t x f) ℓ b R h e)

  -- what a method call has in its two registers
  pub record Meth (A : Hist → Taken Value) (k : Value) (s₂ : St) (f : ℕ) (R : Regs) (h : Hist) : Type 0 where
    pub rg : Regs
    pub hs : Hist
    pub is : C Γ s₂ ≡ at (Z s₂) rg hs
    pub kept : Agree f R rg
    pub h₁ : Hist
    pub obj : taken (rg (suc f)) h₁ ≡ A h
    pub fun : taken (rg f) hs ≡ ask Γ.world index_read (rg (suc f) ∷ k ∷ []) h₁

  pub meth_at : (A : Hist → Taken Value) (t : List ℕ) (s : St) (x : RgS) → x.rgn ≤ s.free → Operand Γ (By A) s.free s (as_rk x) → (R : Regs) (h : Hist) → Agree Γ.active Γ.start R → C Γ s ≡ at (Z s) R h →
      Meth A (text t) (labelled_code_self t x s.free) s.free R h
  meth_at A t s x lr o R h ag e = go (self_at t x s.free (o.rg R h ag e) (o.hs R h ag e) lr (o.is R h ag e))
    where
      go : Selfs (labelled_code_self t x s.free) s.free (o.rg R h ag e x.rgn) (o.rg R h ag e) (ask Γ.world index_read (o.rg R h ag e x.rgn ∷ text t ∷ []) (o.hs R h ag e)) → Meth A (text t) (labelled_code_self t x s.free) s.free R h
      go d = record {
        rg = d.rg;
        hs = d.hs;
        is = d.is;
        kept = agree_trans s.free s.free R (o.rg R h ag e) d.rg (omega nat) (o.kept R h ag e) d.kept;
        h₁ = o.hs R h ag e;
        obj = ap (λ v. taken v (o.hs R h ag e)) d.obj ∙ o.got R h ag e;
        fun = d.fun ∙ ap (λ v. ask Γ.world index_read (v ∷ text t ∷ []) (o.hs R h ag e)) (sym d.obj);
      }

  -- an operand, then the rest
  pub seq_good : (D₁ : Regs → Hist → Taken Value) (D₂ D : Regs → Hist → Taken (List Value)) (f g : ℕ) (s : St) (x : RkS) (p : Pair) → Γ.active ≤ f → f ≤ g → Operand Γ D₁ g s x → Good Γ D₂ f x.st p →
      ((R R₁ : Regs) (h h₁ : Hist) → Agree g R R₁ → taken (rk x.rkv R₁) h₁ ≡ D₁ R h → D₂ R₁ h₁ ≡ D R h) → Good Γ D f s p
  seq_good D₁ D₂ D f g s x p na fg o q w = record {
    own = q.own;
    nx = omega (nat, o.nx, q.nx);
    tlo = omega (nat, o.nx, q.tlo);
    thi = q.thi;
    flo = omega (nat, o.nx, q.flo);
    fhi = q.fhi;
    ft = q.ft;
    pass = λ ℓ b R h l0 ln e. q.pass ℓ b R h l0 (omega (nat, o.nx)) (o.pass ℓ b R h l0 ln e);
    main = λ R h ag e. subst (Res Γ p.de (Z p.st) (C Γ p.st) f R) (w R (o.rg R h ag e) h (o.hs R h ag e) (o.kept R h ag e) (o.got R h ag e))
        (res_mono_l Γ f f p.de _ _ R (o.rg R h ag e) (D₂ (o.rg R h ag e) (o.hs R h ag e)) (λ k lt. o.kept R h ag e k (omega nat))
        (q.main (o.rg R h ag e) (o.hs R h ag e) (λ k lt. o.kept R h ag e k (omega nat) ∙ ag k lt) (o.is R h ag e)));
  }

  -- the readings of calls
  abbrev pub call_d : (Hist → Taken Value) → (Hist → Taken (List Value)) → Hist → Taken (List Value)
  call_d A L h = then (A h) λ v h₁. then (L h₁) λ vs h₂. ask_many Γ.world (v ∷ vs) h₂

  abbrev meth_d : (Hist → Taken Value) → Value → (Hist → Taken (List Value)) → Hist → Taken (List Value)
  meth_d A k L h = then (A h) λ v h₁. then (ask Γ.world index_read (v ∷ k ∷ []) h₁) λ u h₂. then (L h₂) λ vs h₃. ask_many Γ.world (u ∷ v ∷ vs) h₃

  pub call_eq : (A : Hist → Taken Value) (L : Hist → Taken (List Value)) (b : ℕ) (R : Regs) (h h₁ : Hist) → taken (R b) h₁ ≡ A h → Dargs L b 0 R h₁ ≡ call_d A L h
  call_eq A L b R h h₁ p = rw (← p) refl

  meth_eq : (A : Hist → Taken Value) (k : Value) (L : Hist → Taken (List Value)) (f : ℕ) (R : Regs) (h h₁ h₂ : Hist) → taken (R (suc f)) h₁ ≡ A h → taken (R f) h₂ ≡ ask Γ.world index_read (R (suc f) ∷ k ∷ []) h₁ → Dargs L f 1 R h₂ ≡ meth_d A k L h
  meth_eq A k L f R h h₁ h₂ p q = rw (← p) (ap (λ z. then z λ u h₂. then (L h₂) λ vs h₃. ask_many Γ.world (u ∷ R (suc f) ∷ vs) h₃) q)

  pub more_eq : (A L : Hist → Taken (List Value)) (b n : ℕ) (R R₁ : Regs) (h h₁ : Hist) → Agree (suc (n + b)) R R₁ → taken (R₁ (suc (n + b))) h₁ ≡ first_value (A h) → Dargs L b (suc n) R₁ h₁ ≡ Dargs (cons_l A L) b n R h
  more_eq A L b n R R₁ h h₁ ag p = go (L h₁) ∙ ap (λ t. then (then t λ v h₂. then (L h₂) λ vs h₃. taken (v ∷ vs) h₃) λ vs h₂. ask_many Γ.world (span (suc n) b R ++ vs) h₂) p
    where
      go : (z : Taken (List Value)) → then z (λ vs h₂. ask_many Γ.world (span (suc (suc n)) b R₁ ++ vs) h₂) ≡ then z (λ vs h₂. ask_many Γ.world (span (suc n) b R ++ (R₁ (suc (n + b)) ∷ vs)) h₂)
      go z = let e : suc n + b ≡ suc (n + b) = omega nat in
          ap (λ y. ask_many Γ.world y z.steps) (ap (λ y. y ++ z.gives) (span_snoc (suc n) b R₁ ∙ ap (λ y. y ++ (R₁ (suc n + b) ∷ [])) (span_kept (suc n) b (suc (n + b)) R R₁ (omega nat) ag) ∙ ap (λ k. span (suc n) b R ++ (R₁ k ∷ [])) e)
          ∙ append_assoc (span (suc n) b R) (R₁ (suc (n + b)) ∷ []) z.gives)

  pub meth_good : (A : Hist → Taken Value) (k : Value) (L : Hist → Taken (List Value)) (s s₂ : St) (p : Pair) → Γ.active ≤ s.free → s.nxt ≤ s₂.nxt → Passes Γ s s₂ →
      ((R : Regs) (h : Hist) → Agree Γ.active Γ.start R → C Γ s ≡ at (Z s) R h → Meth A k s₂ s.free R h) →
      Good Γ (Dargs L s.free 1) s.free s₂ p → Good Γ (λ R h. meth_d A k L h) s.free s p
  meth_good A k L s s₂ p na nx ps mt q = record {
    own = q.own;
    nx = omega (nat, q.nx);
    tlo = omega (nat, q.tlo);
    thi = q.thi;
    flo = omega (nat, q.flo);
    fhi = q.fhi;
    ft = q.ft;
    pass = λ ℓ b R h l0 ln e. q.pass ℓ b R h l0 (omega nat) (ps ℓ b R h l0 ln e);
    main = λ R h ag e. go R h ag (mt R h ag e);
  }
    where
      go : (R : Regs) (h : Hist) → Agree Γ.active Γ.start R → Meth A k s₂ s.free R h → Res Γ p.de (Z p.st) (C Γ p.st) s.free R (meth_d A k L h)
      go R h ag m = subst (Res Γ p.de (Z p.st) (C Γ p.st) s.free R) (meth_eq A k L s.free m.rg h m.h₁ m.hs m.obj m.fun)
          (res_mono_l Γ s.free s.free p.de _ _ R m.rg (Dargs L s.free 1 m.rg m.hs) m.kept (q.main m.rg m.hs (agree_trans Γ.active s.free Γ.start R m.rg na ag m.kept) m.is))
