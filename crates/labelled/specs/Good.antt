-- What lowering an expression must establish: registers owned, labels new, earlier pending jumps passed on, and the reading's value or list where the run falls or leaves. Discharging keeps it.
use Rattle.std.specs.Prelude.{ℕ, ◌≤◌, ◌<◌, Bool, ◌≡◌, List, [], ◌∷◌}
use Rattle.std.proofs.Math.Bool.{true, false}
use Rattle.std.proofs.Math.Path.{refl}
use Rattle.std.proofs.Common.{ap, sym, subst, arith as nat}
use Rattle.std.proofs.Math.Option.{Option}
use Rattle.model.specs.Values.{Value, text, is_true, global_read, index_read, Taken, taken, ask}
use Rattle.labelled.specs.Code.{callw, pl, cbase}
use Rattle.labelled.specs.Machine.{Hist, Regs, Setting, first_value, list_of, rk, Outcome, at, exit, eval, eval_c}
use Rattle.labelled.specs.Emission.{St, set_free, flush, push}
use Rattle.labelled.specs.Discharge.{K, kd, kl, kg, ki, kcl, kva, Desc, Pair, Par4, fresh, lift4, dv_k, dv_s, dv}
use Rattle.labelled.specs.Outcomes.{cur_c}
use Rattle.labelled.specs.Owning.{Own4, Own, dv_own}
use Rattle.labelled.specs.Firm.{Agree, agree_trans, carried, CC, C, Z, push_pass, flush_at, flush_exit}
use Rattle.labelled.specs.Loads.{finish4, Res4, fell, left, load}
use Rattle.labelled.specs.Settling.{Labs}
use Rattle.labelled.specs.Branching.{Lab₀}

abbrev pub is_open : K → Bool
is_open (kd k) = false
is_open (kl r) = false
is_open (kg g) = false
is_open (ki f t x) = false
is_open (kcl t) = true
is_open kva = true

abbrev pub lab_d : Bool → Desc → ℕ
lab_d true e = e.tl
lab_d false e = e.fl

pub first_one : (a : Taken Value) → first_value (list_of a) ≡ a
first_one a = refl

dv_nxt : (k : K) (s : St) → (dv_s k s).nxt ≡ s.nxt
unfolding dv_s flush push
dv_nxt (kd k) s = refl
dv_nxt (kl r) s = refl
dv_nxt (kg g) s = refl
dv_nxt (ki g t x) s = refl
dv_nxt (kcl t) s = refl
dv_nxt kva s = refl

module _ (Γ : Setting) where
  -- all values that a descriptor is worth where the run has fallen to the end
  unfoldable pub finish_l : K → Regs → Hist → Taken (List Value)
  finish_l (kd k) R h = list_of (finish4 Γ k R h)
  finish_l (kl r) R h = taken (R r ∷ []) h
  finish_l (kg g) R h = list_of (ask Γ.world global_read (text g ∷ []) h)
  finish_l (ki f t x) R h = list_of (ask Γ.world index_read (R t ∷ rk x R ∷ []) h)
  finish_l (kcl t) R h = eval_c Γ t R h
  finish_l kva R h = taken Γ.varargs h

  -- as Res4, of a descriptor that may still be open: such a one is never left by a jump
  pub data Res (e : Desc) (p : ℕ) (o : Outcome) (n : ℕ) (R : Regs) (a : Taken (List Value)) : Type 0 where
    fell_l : (R' : Regs) (h : Hist) → o ≡ at p R' h → Agree n R R' → finish_l e.kind R' h ≡ a → Res e p o n R a
    left_l : (c : Bool) (b : Option ℕ) (R' : Regs) (v : Value) (h : Hist) → is_open e.kind ≡ false → o ≡ exit (lab_d c e) b R' h → Agree n R R' → is_true v ≡ c → carried b R' c ≡ v → taken (v ∷ []) h ≡ a → Res e p o n R a

  -- GOOD: from state s, f registers being taken, an expression of reading D is lowered to p. `own`: registers; `nx` to `ft`: labels; `pass`: a run that left by an earlier label still does;
  -- `main`: a run that came to the end of s, with the locals in their registers, falls or leaves with what D gives
  pub record Good (D : Regs → Hist → Taken (List Value)) (f : ℕ) (s : St) (p : Pair) : Type 0 where
    pub own : Own Γ.active f p.de.kind p.st.free
    pub nx : s.nxt ≤ p.st.nxt
    pub tlo : s.nxt ≤ p.de.tl
    pub thi : p.de.tl < p.st.nxt
    pub flo : s.nxt ≤ p.de.fl
    pub fhi : p.de.fl < p.st.nxt
    pub ft : p.de.fl ≡ p.de.tl → ⊥
    pub pass : (ℓ : ℕ) (b : Option ℕ) (R : Regs) (h : Hist) → (ℓ ≡ 0 → ⊥) → ℓ < s.nxt → C Γ s ≡ exit ℓ b R h → C Γ p.st ≡ exit ℓ b R h
    pub main : (R : Regs) (h : Hist) → Agree Γ.active Γ.start R → C Γ s ≡ at (Z s) R h → Res p.de (Z p.st) (C Γ p.st) f R (D R h)

  -- the same of a discharged descriptor and one value
  pub record Good4 (D : Regs → Hist → Taken Value) (f : ℕ) (s : St) (p : Par4) : Type 0 where
    pub own : Own4 Γ.active f p.de.k4 p.st.free
    pub nx : s.nxt ≤ p.st.nxt
    pub tlo : s.nxt ≤ p.de.tl
    pub thi : p.de.tl < p.st.nxt
    pub flo : s.nxt ≤ p.de.fl
    pub fhi : p.de.fl < p.st.nxt
    pub ft : p.de.fl ≡ p.de.tl → ⊥
    pub pass : (ℓ : ℕ) (b : Option ℕ) (R : Regs) (h : Hist) → (ℓ ≡ 0 → ⊥) → ℓ < s.nxt → C Γ s ≡ exit ℓ b R h → C Γ p.st ≡ exit ℓ b R h
    pub main : (R : Regs) (h : Hist) → Agree Γ.active Γ.start R → C Γ s ≡ at (Z s) R h → Res4 Γ p.de (Z p.st) (C Γ p.st) f R (D R h)

  -- its labels are different from each other, from label 0 and from the next
  pub labs : (D : Regs → Hist → Taken Value) (f : ℕ) (s : St) (p : Par4) → 1 ≤ s.nxt → Good4 D f s p → Labs p.de p.st.nxt
  labs D f s p l g = record { j0 = omega (nat, g.nx); t0 = omega (nat, g.tlo); f0 = omega (nat, g.flo); tj = omega (nat, g.thi); fj = omega (nat, g.fhi); ft = g.ft }

  pub labs₀ : (D : Regs → Hist → Taken Value) (f : ℕ) (s : St) (p : Par4) → 1 ≤ s.nxt → Good4 D f s p → Lab₀ p.de
  labs₀ D f s p l g = record { t0 = omega (nat, g.tlo); f0 = omega (nat, g.flo); ft = g.ft }

  -- discharge_vars
  dv_pass : (k : K) (s : St) (ℓ : ℕ) (b : Option ℕ) (R : Regs) (h : Hist) → C Γ s ≡ exit ℓ b R h → C Γ (dv_s k s) ≡ exit ℓ b R h
  unfolding dv_s
  dv_pass (kd k) s ℓ b R h q = q
  dv_pass (kl r) s ℓ b R h q = q
  dv_pass (kg g) s ℓ b R h q = flush_exit Γ s ℓ b R h q
  dv_pass (ki g t x) s ℓ b R h q = flush_exit Γ (set_free g s) ℓ b R h q
  dv_pass (kcl t) s ℓ b R h q = push_pass Γ (pl (callw t)) s ℓ b R h tt q
  dv_pass kva s ℓ b R h q = q

  dv_fell : (k : K) (t f n : ℕ) (s : St) (R R' : Regs) (h : Hist) → Own Γ.active n k s.free → C Γ s ≡ at (Z s) R' h → Agree n R R' →
      Res4 Γ (record { k4 = dv_k k; tl = t; fl = f }) (Z (dv_s k s)) (C Γ (dv_s k s)) n R (first_value (finish_l k R' h))
  unfolding dv_s finish_l finish4 eval
  dv_fell (kd k) t f n s R R' h o q ag = fell R' h q ag (sym (first_one (finish4 Γ k R' h)))
  dv_fell (kl r) t f n s R R' h o q ag = fell R' h q ag refl
  dv_fell (kg g) t f n s R R' h o q ag = fell R' h (flush_at Γ s R' h q) ag refl
  dv_fell (ki g i x) t f n s R R' h o q ag = fell R' h (flush_at Γ (set_free g s) R' h q) ag refl
  dv_fell (kcl i) t f n s R R' h o q ag = let d = load Γ (pl (callw i)) s (cbase i) n (first_value (eval_c Γ i R' h)) R R' h tt (omega (nat, o.0)) q refl ag in fell d.rg d.hs d.is d.kept d.got
  dv_fell kva t f n s R R' h o q ag = fell R' h q ag refl

  dv_res : (p : Pair) (n : ℕ) (R : Regs) (a : Taken (List Value)) → Own Γ.active n p.de.kind p.st.free → Res p.de (Z p.st) (C Γ p.st) n R a → Res4 Γ (dv p).de (Z (dv p).st) (C Γ (dv p).st) n R (first_value a)
  dv_res p n R a o (fell_l R' h q ag w) = rw w at (dv_fell p.de.kind p.de.tl p.de.fl n p.st R R' h o q ag)
  dv_res p n R a o (left_l true b R' v h z q ag x y u) = left true b R' v h (dv_pass p.de.kind p.st p.de.tl b R' h q) ag x y (ap first_value u)
  dv_res p n R a o (left_l false b R' v h z q ag x y u) = left false b R' v h (dv_pass p.de.kind p.st p.de.fl b R' h q) ag x y (ap first_value u)

  pub dv_good : (D : Regs → Hist → Taken (List Value)) (f : ℕ) (s : St) (p : Pair) → Good D f s p → Good4 (λ R h. first_value (D R h)) f s (dv p)
  dv_good D f s p g = record {
    own = dv_own Γ.active p.de.kind f p.st g.own;
    nx = omega (nat, g.nx, dv_nxt p.de.kind p.st);
    tlo = g.tlo;
    thi = omega (nat, g.thi, dv_nxt p.de.kind p.st);
    flo = g.flo;
    fhi = omega (nat, g.fhi, dv_nxt p.de.kind p.st);
    ft = g.ft;
    pass = λ ℓ b R h l0 ln e. dv_pass p.de.kind p.st ℓ b R h (g.pass ℓ b R h l0 ln e);
    main = λ R h ag e. dv_res p f R (D R h) g.own (g.main R h ag e);
  }

  lift_res : (p : Par4) (n : ℕ) (R : Regs) (a : Taken Value) → Res4 Γ p.de (Z p.st) (C Γ p.st) n R a → Res (record { kind = kd p.de.k4; tl = p.de.tl; fl = p.de.fl }) (Z p.st) (C Γ p.st) n R (list_of a)
  unfolding finish_l
  lift_res p n R a (fell R' h q ag w) = fell_l R' h q ag (ap list_of w)
  lift_res p n R a (left true b R' v h q ag x y u) = left_l true b R' v h refl q ag x y (ap list_of u)
  lift_res p n R a (left false b R' v h q ag x y u) = left_l false b R' v h refl q ag x y (ap list_of u)

  pub lift_good : (D : Regs → Hist → Taken Value) (f : ℕ) (s : St) (p : Par4) → Good4 D f s p → Good (λ R h. list_of (D R h)) f s (lift4 p)
  lift_good D f s p g = record { own = g.own; nx = g.nx; tlo = g.tlo; thi = g.thi; flo = g.flo; fhi = g.fhi; ft = g.ft; pass = g.pass; main = λ R h ag e. lift_res p f R (D R h) (g.main R h ag e) }

  -- a new descriptor over a state that has fallen
  pub record Fell (s : St) (k : K) (n : ℕ) (R : Regs) (a : Taken (List Value)) : Type 0 where
    pub rg : Regs
    pub hs : Hist
    pub is : C Γ s ≡ at (Z s) rg hs
    pub kept : Agree n R rg
    pub got : finish_l k rg hs ≡ a

  abbrev pub Passes : St → St → Type 0
  Passes s s₂ = (ℓ : ℕ) (b : Option ℕ) (R : Regs) (h : Hist) → (ℓ ≡ 0 → ⊥) → ℓ < s.nxt → C Γ s ≡ exit ℓ b R h → C Γ s₂ ≡ exit ℓ b R h

  pub mk_good : (D : Regs → Hist → Taken (List Value)) (k : K) (f m : ℕ) (s s₂ : St) → s.nxt ≤ s₂.nxt → Own Γ.active f k m → Passes s s₂ →
      ((R : Regs) (h : Hist) → Agree Γ.active Γ.start R → C Γ s ≡ at (Z s) R h → Fell s₂ k f R (D R h)) → Good D f s (fresh k m s₂)
  unfolding fresh cur_c CC
  mk_good D k f m s s₂ nx o ps mn = record {
    own = o;
    nx = omega nat;
    tlo = omega nat;
    thi = omega nat;
    flo = omega nat;
    fhi = omega nat;
    ft = omega nat;
    pass = ps;
    main = λ R h ag e. let d = mn R h ag e in fell_l d.rg d.hs d.is d.kept d.got;
  }

  pub flush_pass : (s s₂ : St) → Passes s s₂ → Passes s (flush s₂)
  flush_pass s s₂ p ℓ b R h l0 ln e = flush_exit Γ s₂ ℓ b R h (p ℓ b R h l0 ln e)

  pub flush_is : (s : St) (R : Regs) (h : Hist) → C Γ s ≡ at (Z s) R h → C Γ (flush s) ≡ at (Z (flush s)) R h
  flush_is s R h q = flush_at Γ s R h q

  pub res_mono_l : (n m : ℕ) (e : Desc) (z : ℕ) (o : Outcome) (R R' : Regs) (a : Taken (List Value)) → Agree n R R' → Res e z o n R' a → Res e z o n R a
  res_mono_l n m e z o R R' a ag (fell_l R'' h q ag' w) = fell_l R'' h q (agree_trans n n R R' R'' (omega nat) ag ag') w
  res_mono_l n m e z o R R' a ag (left_l d b R'' v h y q ag' x w u) = left_l d b R'' v h y q (agree_trans n n R R' R'' (omega nat) ag ag') x w u

  pub good_f : (D : Regs → Hist → Taken Value) (f g : ℕ) (s : St) (p : Par4) → f ≡ g → Good4 D f s p → Good4 D g s p
  good_f D f g s p e q = subst (λ z. Good4 D z s p) e q

  pub good_eq : (D D' : Regs → Hist → Taken (List Value)) (f : ℕ) (s : St) (p : Pair) → ((R : Regs) (h : Hist) → D R h ≡ D' R h) → Good D f s p → Good D' f s p
  good_eq D D' f s p q g = record { own = g.own; nx = g.nx; tlo = g.tlo; thi = g.thi; flo = g.flo; fhi = g.fhi; ft = g.ft; pass = g.pass; main = λ R h ag e. rw (q R h) at (g.main R h ag e) }

  pub plain_good : (D : Regs → Hist → Taken (List Value)) (k : K) (s : St) → Own Γ.active s.free k s.free → ((R : Regs) (h : Hist) → Agree Γ.active Γ.start R → finish_l k R h ≡ D R h) → Good D s.free s (fresh k s.free s)
  plain_good D k s o w = mk_good D k s.free s.free s s (omega nat) o (λ ℓ b R h l0 ln e. e) (λ R h ag e. record { rg = R; hs = h; is = e; kept = λ k₁ z. refl; got = w R h ag })
