-- Operands in registers or constants, one and two of them: what is in an operand stays there while the other is lowered, since that only writes above.
use Rattle.std.specs.Prelude.{ℕ, ◌≤◌, ◌<◌, Bool, ◌≡◌, [], ◌∷◌}
use Rattle.std.proofs.Math.Bool.{true, false}
use Rattle.std.proofs.Math.Path.{refl, ap}
use Rattle.std.proofs.Common.{◌∙◌, arith as nat}
use Rattle.constants.specs.Entry.{Constant, nil as knil, truth as ktruth, number as knumber, text as ktext}
use Rattle.model.specs.Values.{Value, value_of, index_read, Taken, taken, ask}
use Rattle.labelled.specs.Code.{Rk, reg, con}
use Rattle.labelled.specs.Machine.{Hist, Regs, Setting, then, list_of, rk, at}
use Rattle.labelled.specs.Emission.{St, hit}
use Rattle.labelled.specs.Discharge.{K4, kc, kr, kx, kj, ki, Par4, RkS, fresh, add_p, freed, nextreg, via_reg, any_k, anyreg, as_rk, con_rk, small_rk, rk_c, rk_k, exp2rk}
use Rattle.labelled.specs.Table.{roomy, is_near}
use Rattle.labelled.specs.Firm.{Agree, agree_trans, C, Z, true≢false, scan}
use Rattle.labelled.specs.Loads.{finish4, Res4, fell, left, Done}
use Rattle.labelled.specs.Settling.{next_res₀, next_pass, next_free, next_nxt}
use Rattle.labelled.specs.Owning.{freed_own, own_le, low_kr}
use Rattle.labelled.specs.Good.{finish_l, Good, Good4, labs, Passes, mk_good}

-- OPERANDS in registers or constants
abbrev pub Low : Rk → ℕ → Type 0
Low (reg r) n = r < n
Low (con v) n = Unit {0}

pub rk_kept : (x : Rk) (n : ℕ) (R R' : Regs) → Low x n → Agree n R R' → rk x R' ≡ rk x R
rk_kept (reg r) n R R' l ag = ag r l
rk_kept (con v) n R R' l ag = refl

-- readings of one value, that don't look at registers
abbrev pub By : (Hist → Taken Value) → Regs → Hist → Taken Value
By A R h = A h

-- both, and then an operation
abbrev pub two : (Hist → Taken Value) → (Hist → Taken Value) → (Value → Value → Hist → Taken Value) → Hist → Taken Value
two A B g h = then (A h) λ v h₁. then (B h₁) λ u h₂. g v u h₂

pub two_eq : (A B : Hist → Taken Value) (g : Value → Value → Hist → Taken Value) (v u : Value) (h h₁ h₂ : Hist) → taken v h₁ ≡ A h → taken u h₂ ≡ B h₁ → g v u h₂ ≡ two A B g h
two_eq A B g v u h h₁ h₂ p q = rw (← p) (rw (← q) refl)

module _ (Γ : Setting) where
  -- an operand q lowered from s: where a run comes to the end of s, it comes to the end of q's code, and the operand is what D gives
  pub record Operand (D : Regs → Hist → Taken Value) (f : ℕ) (s : St) (q : RkS) : Type 0 where
    pub fr : f ≤ q.st.free
    pub nx : s.nxt ≤ q.st.nxt
    pub low : Low q.rkv q.st.free
    pub pass : Passes Γ s q.st
    pub rg : (R : Regs) (h : Hist) → Agree Γ.active Γ.start R → C Γ s ≡ at (Z s) R h → Regs
    pub hs : (R : Regs) (h : Hist) → Agree Γ.active Γ.start R → C Γ s ≡ at (Z s) R h → Hist
    pub is : (R : Regs) (h : Hist) (ag : Agree Γ.active Γ.start R) (e : C Γ s ≡ at (Z s) R h) → C Γ q.st ≡ at (Z q.st) (rg R h ag e) (hs R h ag e)
    pub kept : (R : Regs) (h : Hist) (ag : Agree Γ.active Γ.start R) (e : C Γ s ≡ at (Z s) R h) → Agree f R (rg R h ag e)
    pub got : (R : Regs) (h : Hist) (ag : Agree Γ.active Γ.start R) (e : C Γ s ≡ at (Z s) R h) → taken (rk q.rkv (rg R h ag e)) (hs R h ag e) ≡ D R h

  -- in the next register
  pub next_op : (D : Regs → Hist → Taken Value) (f : ℕ) (s : St) (p : Par4) → 1 ≤ s.nxt → Γ.active ≤ f → Good4 Γ D f s p → Operand D f s (as_rk (via_reg p))
  next_op D f s p l na g = let fo = freed_own Γ.active p.de.k4 f p.st.free g.own in
      let d : (R : Regs) (h : Hist) (ag : Agree Γ.active Γ.start R) (e : C Γ s ≡ at (Z s) R h) → Done Γ (nextreg p) (freed p.de.k4 p.st.free) f R (D R h) = λ R h ag e. next_res₀ Γ p f R (D R h) (labs Γ D f s p l g) (omega (nat, fo)) na (g.main R h ag e) in
      record {
        fr = omega (nat, fo, next_free p);
        nx = omega (nat, g.nx, next_nxt p);
        low = omega (nat, next_free p);
        pass = λ ℓ b R h l0 ln e. next_pass Γ p ℓ b R h (labs Γ D f s p l g) l0 (omega (nat, g.nx)) (omega (nat, g.tlo)) (omega (nat, g.flo)) (g.pass ℓ b R h l0 ln e);
        rg = λ R h ag e. (d R h ag e).rg;
        hs = λ R h ag e. (d R h ag e).hs;
        is = λ R h ag e. (d R h ag e).is;
        kept = λ R h ag e. (d R h ag e).kept;
        got = λ R h ag e. (d R h ag e).got;
      }

  -- no jump pends: the state has fallen
  pub record Here (s : St) (k : K4) (n : ℕ) (R : Regs) (a : Taken Value) : Type 0 where
    pub rg : Regs
    pub hs : Hist
    pub is : C Γ s ≡ at (Z s) rg hs
    pub kept : Agree n R rg
    pub got : finish4 Γ k rg hs ≡ a

  pub no_left : (p : Par4) (n : ℕ) (R : Regs) (a : Taken Value) → hit false p.de.tl p.de.fl p.st.code ≡ false → Res4 Γ p.de (Z p.st) (C Γ p.st) n R a → Here p.st p.de.k4 n R a
  no_left p n R a z (fell R' h q ag w) = record { rg = R'; hs = h; is = q; kept = ag; got = w }
  no_left p n R a z (left c b R' v h q ag x y u) = absurd (true≢false (scan Γ false p.de p.st c b R' h z q))

  pub still_op : (D : Regs → Hist → Taken Value) (f : ℕ) (s : St) (p : Par4) (x : Rk) → hit false p.de.tl p.de.fl p.st.code ≡ false → Good4 Γ D f s p → Low x p.st.free →
      ((R : Regs) (h : Hist) → taken (rk x R) h ≡ finish4 Γ p.de.k4 R h) → Operand D f s (record { st = p.st; rkv = x })
  still_op D f s p x z g lo w =
      let d : (R : Regs) (h : Hist) (ag : Agree Γ.active Γ.start R) (e : C Γ s ≡ at (Z s) R h) → Here p.st p.de.k4 f R (D R h) = λ R h ag e. no_left p f R (D R h) z (g.main R h ag e) in
      record {
        fr = own_le Γ.active p.de.k4 f p.st.free g.own;
        nx = g.nx;
        low = lo;
        pass = g.pass;
        rg = λ R h ag e. (d R h ag e).rg;
        hs = λ R h ag e. (d R h ag e).hs;
        is = λ R h ag e. (d R h ag e).is;
        kept = λ R h ag e. (d R h ag e).kept;
        got = λ R h ag e. w (d R h ag e).rg (d R h ag e).hs ∙ (d R h ag e).got;
      }

  any_op₁ : (t : Bool) (k : K4) (tl fl : ℕ) (st : St) (D : Regs → Hist → Taken Value) (f : ℕ) (s : St) → hit false tl fl st.code ≡ t → 1 ≤ s.nxt → Γ.active ≤ f → Good4 Γ D f s (record { st = st; de = record { k4 = k; tl = tl; fl = fl } }) →
      Operand D f s (as_rk (any_k t k (record { st = st; de = record { k4 = k; tl = tl; fl = fl } })))
  unfolding any_k finish4
  any_op₁ true k tl fl st D f s z l na g = next_op D f s _ l na g
  any_op₁ false (kc v) tl fl st D f s z l na g = next_op D f s _ l na g
  any_op₁ false (kr u r) tl fl st D f s z l na g = still_op D f s _ (reg r) z g (low_kr Γ.active u r f st.free na g.own) (λ R h. refl)
  any_op₁ false (kx x) tl fl st D f s z l na g = next_op D f s _ l na g
  any_op₁ false (kj o c x y) tl fl st D f s z l na g = next_op D f s _ l na g

  pub any_op : (D : Regs → Hist → Taken Value) (f : ℕ) (s : St) (p : Par4) → 1 ≤ s.nxt → Γ.active ≤ f → Good4 Γ D f s p → Operand D f s (as_rk (anyreg p))
  unfolding anyreg
  any_op D f s p l na g = any_op₁ (hit false p.de.tl p.de.fl p.st.code) p.de.k4 p.de.tl p.de.fl p.st D f s refl l na g

  -- a constant added
  pub good_add : (c : Constant) (D : Regs → Hist → Taken Value) (f : ℕ) (s : St) (p : Par4) → Good4 Γ D f s p → Good4 Γ D f s (add_p c p)
  good_add c D f s p g = record { own = g.own; nx = g.nx; tlo = g.tlo; thi = g.thi; flo = g.flo; fhi = g.fhi; ft = g.ft; pass = g.pass; main = g.main }

  module _ (c : Constant) (p : Par4) (e : p.de.k4 ≡ kc c) (D : Regs → Hist → Taken Value) (f : ℕ) (s : St) (z : hit false p.de.tl p.de.fl p.st.code ≡ false) (l : 1 ≤ s.nxt) (na : Γ.active ≤ f) (g : Good4 Γ D f s p) where
    con_got : (R : Regs) (h : Hist) → taken (value_of c) h ≡ finish4 Γ p.de.k4 R h
    unfolding finish4
    con_got R h = rw e refl

    small_op : (t : Bool) → Operand D f s (small_rk t c p)
    small_op true = still_op D f s (add_p c p) (con (value_of c)) z (good_add c D f s p g) tt con_got
    small_op false = any_op D f s p l na g

    near_op : (t : Bool) → Operand D f s (con_rk t c p)
    near_op true = still_op D f s p (con (value_of c)) z g tt con_got
    near_op false = any_op D f s p l na g

  rk_c_op : (c : Constant) (p : Par4) → p.de.k4 ≡ kc c → (D : Regs → Hist → Taken Value) (f : ℕ) (s : St) → hit false p.de.tl p.de.fl p.st.code ≡ false → 1 ≤ s.nxt → Γ.active ≤ f → Good4 Γ D f s p → Operand D f s (rk_c c p)
  unfolding rk_c
  rk_c_op knil p e D f s z l na g = small_op knil p e D f s z l na g (roomy p.st.tab)
  rk_c_op (ktruth b) p e D f s z l na g = small_op (ktruth b) p e D f s z l na g (roomy p.st.tab)
  rk_c_op (knumber n) p e D f s z l na g = near_op (knumber n) (add_p (knumber n) p) e D f s z l na (good_add (knumber n) D f s p g) (is_near (knumber n) p.st.tab)
  rk_c_op (ktext t) p e D f s z l na g = near_op (ktext t) p e D f s z l na g (is_near (ktext t) p.st.tab)

  rk_op₁ : (t : Bool) (k : K4) (tl fl : ℕ) (st : St) (D : Regs → Hist → Taken Value) (f : ℕ) (s : St) → hit false tl fl st.code ≡ t → 1 ≤ s.nxt → Γ.active ≤ f → Good4 Γ D f s (record { st = st; de = record { k4 = k; tl = tl; fl = fl } }) →
      Operand D f s (rk_k t k (record { st = st; de = record { k4 = k; tl = tl; fl = fl } }))
  unfolding rk_k
  rk_op₁ true k tl fl st D f s z l na g = any_op D f s _ l na g
  rk_op₁ false (kc c) tl fl st D f s z l na g = rk_c_op c _ refl D f s z l na g
  rk_op₁ false (kr u r) tl fl st D f s z l na g = any_op D f s _ l na g
  rk_op₁ false (kx x) tl fl st D f s z l na g = any_op D f s _ l na g
  rk_op₁ false (kj o c x y) tl fl st D f s z l na g = any_op D f s _ l na g

  pub rk_op : (D : Regs → Hist → Taken Value) (f : ℕ) (s : St) (p : Par4) → 1 ≤ s.nxt → Γ.active ≤ f → Good4 Γ D f s p → Operand D f s (exp2rk p)
  unfolding exp2rk
  rk_op D f s p l na g = rk_op₁ (hit false p.de.tl p.de.fl p.st.code) p.de.k4 p.de.tl p.de.fl p.st D f s refl l na g

  -- TWO OPERANDS, one after the other
  pub record Both (q : RkS) (y : Rk) (D₁ : Regs → Hist → Taken Value) (D₂ : Regs → Hist → Taken Value) (f : ℕ) (R : Regs) (h : Hist) : Type 0 where
    pub rg : Regs
    pub hs : Hist
    pub is : C Γ q.st ≡ at (Z q.st) rg hs
    pub kept : Agree f R rg
    pub h₁ : Hist
    pub R₁ : Regs
    pub kept₁ : Agree f R R₁
    pub got₁ : taken (rk y rg) h₁ ≡ D₁ R h
    pub got₂ : taken (rk q.rkv rg) hs ≡ D₂ R₁ h₁

  pub two_ops : (D₁ D₂ : Regs → Hist → Taken Value) (f f₂ : ℕ) (s : St) (x y : RkS) → Γ.active ≤ f → f₂ ≡ x.st.free → Operand D₁ f s x → Operand D₂ f₂ x.st y →
      (R : Regs) (h : Hist) (ag : Agree Γ.active Γ.start R) (e : C Γ s ≡ at (Z s) R h) → Both y x.rkv D₁ D₂ f R h
  two_ops D₁ D₂ f f₂ s x y na ef o₁ o₂ R h ag e =
      let R₁ = o₁.rg R h ag e in let h₁ = o₁.hs R h ag e in let k₁ = o₁.kept R h ag e in let i₁ = o₁.is R h ag e in
      let a₁ : Agree Γ.active Γ.start R₁ = agree_trans Γ.active f Γ.start R R₁ na ag k₁ in
      let k₂ = o₂.kept R₁ h₁ a₁ i₁ in
      record {
        rg = o₂.rg R₁ h₁ a₁ i₁;
        hs = o₂.hs R₁ h₁ a₁ i₁;
        is = o₂.is R₁ h₁ a₁ i₁;
        kept = agree_trans f f₂ R R₁ (o₂.rg R₁ h₁ a₁ i₁) (omega (nat, o₁.fr)) k₁ k₂;
        h₁ = h₁;
        R₁ = R₁;
        kept₁ = k₁;
        got₁ = rw (rk_kept x.rkv f₂ R₁ (o₂.rg R₁ h₁ a₁ i₁) (rw ef o₁.low) k₂) (o₁.got R h ag e);
        got₂ = o₂.got R₁ h₁ a₁ i₁;
      }

  pub two_pass : (D₁ D₂ : Regs → Hist → Taken Value) (f f₂ : ℕ) (s : St) (x y : RkS) → Operand D₁ f s x → Operand D₂ f₂ x.st y → Passes Γ s y.st
  two_pass D₁ D₂ f f₂ s x y o₁ o₂ ℓ b R h l0 ln e = o₂.pass ℓ b R h l0 (omega (nat, o₁.nx)) (o₁.pass ℓ b R h l0 ln e)

  -- index
  pub idx_good : (A B : Hist → Taken Value) (s : St) (r : ℕ) (st : St) (y : RkS) → Γ.active ≤ s.free → Operand (By A) s.free s (record { st = st; rkv = reg r }) → Operand (By B) st.free st y →
      Good Γ (λ R h. list_of (two A B (λ v u h₁. ask Γ.world index_read (v ∷ u ∷ []) h₁) h)) s.free s (fresh (ki s.free r y.rkv) y.st.free y.st)
  unfolding finish_l
  idx_good A B s r st y na o₁ o₂ = mk_good Γ _ (ki s.free r y.rkv) s.free y.st.free s y.st (omega (nat, o₁.nx, o₂.nx)) (refl, omega (nat, o₁.fr, o₂.fr))
      (two_pass (By A) (By B) s.free st.free s (record { st = st; rkv = reg r }) y o₁ o₂)
      (λ R h ag e. let t = two_ops (By A) (By B) s.free st.free s (record { st = st; rkv = reg r }) y na refl o₁ o₂ R h ag e in
      record { rg = t.rg; hs = t.hs; is = t.is; kept = t.kept; got = ap list_of (two_eq A B (λ v u h₁. ask Γ.world index_read (v ∷ u ∷ []) h₁) _ _ h t.h₁ t.hs t.got₁ t.got₂) })
