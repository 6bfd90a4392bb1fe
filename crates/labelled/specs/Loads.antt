-- Loading a discharged value into a register: nil (by a `LoadNil` of its own, a longer one, or none at word 0, where the registers behind the locals are nil), constants, copies, words to come.
use Prim.Native.Nat.{ℕ, zero, suc, ◌+◌, ◌≤◌}
use Rattle.std.specs.Prelude.{Bool, ◌≡◌, [], ◌∷◌, ◌≢◌, leb}
use Rattle.std.proofs.Math.Bool.{true, false}
use Rattle.std.proofs.Math.Path.{refl, ap}
use Rattle.std.proofs.Common.{sym, ◌∙◌, arith as nat}
use Rattle.std.proofs.Math.Option.{Option}
use borrow.Author.Tests.{leb-true, leb-false}
use Rattle.laws.specs.Truth.{and_true}
use Rattle.constants.specs.Entry.{Constant, nil as knil, truth as ktruth, number as knumber, text as ktext}
use Rattle.model.specs.Values.{Value, nil, truth, number, text, value_of, is_true, StepKind, Taken, taken, ask_truth}
use Rattle.model.specs.Running.{same as agrees}
use Rattle.labelled.specs.Code.{same, same_true, same_false, same_refl, val, cp, cmp, lbl, setw, lbs, mark, nilw, callw, selfw, Instr, pl, br, width, Code, size, Act}
use Rattle.labelled.specs.Machine.{Hist, Regs, Setting, then, pick, upd, upd_same, upd_other, rk, nils, Outcome, at, exit, stuck, post, eval, perform, step_at, step, exec}
use Rattle.labelled.specs.Emission.{St, with_code, add_k, push, in_range, longer, extend, nil_top}
use Rattle.labelled.specs.Discharge.{K4, kc, kr, kx, kj, Des4, lab, load_con, d2r, is_cmp}
use Rattle.labelled.specs.Outcomes.{Named, cur_c, size_push}
use Rattle.labelled.specs.Firm.{Agree, agree_upd, carried, is_at, CC, C, firm_C, from_at, firm_of, from_exit, to_exit, is_at_of, Z, push_at, push_pass, true≢false, Keeps}

-- emit_nil
nils_in : (k a : ℕ) (R : Regs) (r : ℕ) → a ≤ r → r ≤ k + a → nils k a R r ≡ nil
nils_in zero a R r l m = let e : r ≡ a = omega nat in rw e (upd_same a nil R)
nils_in (suc k) a R r l m = go (same r (suc k + a)) refl (λ z. nils_in k a R r l z)
  where
    go : (t : Bool) → same r (suc k + a) ≡ t → (r ≤ k + a → nils k a R r ≡ nil) → upd (suc k + a) nil (nils k a R) r ≡ nil
    go true e f = rw (same_true r (suc k + a) e) (upd_same (suc k + a) nil (nils k a R))
    go false e f = let ne : r ≢ suc k + a = same_false r (suc k + a) e in upd_other (suc k + a) nil (nils k a R) r ne ∙ f (omega nat)

abbrev hist_of : Outcome → Hist
hist_of (at p R h) = h
hist_of (exit ℓ b R h) = h
hist_of stuck = []

ext_keeps : (t z : Bool) (a k r : ℕ) (c : Code) (s : St) → Keeps s (extend t z a k r c s)
unfolding push
ext_keeps true z a k r c s = (refl, refl)
ext_keeps false z a k r c s = (refl, refl)

nil_keeps : (c : Code) (r : ℕ) (s : St) → Keeps s (nil_top c r s)
unfolding push
nil_keeps [] r s = (refl, refl)
nil_keeps (pl (setw a x) ∷ c) r s = (refl, refl)
nil_keeps (pl (lbs a x) ∷ c) r s = (refl, refl)
nil_keeps (pl mark ∷ c) r s = (refl, refl)
nil_keeps (pl (nilw a k) ∷ c) r s = ext_keeps (in_range a k r) (leb r (k + a)) a k r c s
nil_keeps (pl (callw x) ∷ c) r s = (refl, refl)
nil_keeps (pl (selfw a x y) ∷ c) r s = (refl, refl)
nil_keeps (br x y ∷ c) r s = (refl, refl)

con_keeps : (v : Constant) (r : ℕ) (s : St) → Keeps s (load_con v r s)
unfolding push
con_keeps knil r s = nil_keeps s.code r s
con_keeps (ktruth u) r s = (refl, refl)
con_keeps (knumber u) r s = (refl, refl)
con_keeps (ktext u) r s = (refl, refl)

pub d2r_keeps : (k : K4) (t r : ℕ) (s : St) → Keeps s (d2r k t r s)
unfolding d2r push
d2r_keeps (kc v) t r s = con_keeps v r s
d2r_keeps (kr u k) t r s = go (same r k)
  where
    go : (u : Bool) → Keeps s (pick u s (push (pl (setw r (cp k))) s))
    go true = (refl, refl)
    go false = (refl, refl)
d2r_keeps (kx x) t r s = (refl, refl)
d2r_keeps (kj o c x y) t r s = (refl, refl)

pub d2r_nxt : (k : K4) (t r : ℕ) (s : St) → (d2r k t r s).nxt ≡ s.nxt
d2r_nxt k t r s = (d2r_keeps k t r s).1

module _ (Γ : Setting) where
  -- a comparison's answer, as a value
  abbrev pub cmp_a : StepKind → Bool → Value → Value → Hist → Taken Value
  cmp_a o c v u h = then (ask_truth Γ.world o (v ∷ u ∷ []) h) λ t h₁. taken (truth (agrees t c)) h₁

  -- what a discharged descriptor is worth where the run has fallen to the end
  unfoldable pub finish4 : K4 → Regs → Hist → Taken Value
  finish4 (kc v) R h = taken (value_of v) h
  finish4 (kr u r) R h = taken (R r) h
  finish4 (kx x) R h = eval Γ x R h
  finish4 (kj o c x y) R h = cmp_a o c (rk x R) (rk y R) h

  -- the run falls to the end, and the descriptor is worth the answer; or it leaves by the list of the answer's truth, with the answer in a register or, where it is true or false, in none
  pub data Res4 (e : Des4) (p : ℕ) (o : Outcome) (n : ℕ) (R : Regs) (a : Taken Value) : Type 0 where
    fell : (R' : Regs) (h : Hist) → o ≡ at p R' h → Agree n R R' → finish4 e.k4 R' h ≡ a → Res4 e p o n R a
    left : (c : Bool) (b : Option ℕ) (R' : Regs) (v : Value) (h : Hist) → o ≡ exit (lab c e) b R' h → Agree n R R' → is_true v ≡ c → carried b R' c ≡ v → taken v h ≡ a → Res4 e p o n R a

  -- the run falls to the end with the answer in register r, and what is below n is kept
  pub record Done (s : St) (r n : ℕ) (R : Regs) (a : Taken Value) : Type 0 where
    pub rg : Regs
    pub hs : Hist
    pub is : C Γ s ≡ at (Z s) rg hs
    pub kept : Agree n R rg
    pub got : taken (rg r) hs ≡ a

  -- a word that sets register r
  pub load : (i : Instr) (s : St) (r n : ℕ) (z : Taken Value) (R R' : Regs) (h : Hist) → Named i → n ≤ r → C Γ s ≡ at (Z s) R' h →
      perform Γ i (Z s) R' h ≡ at (width i + Z s) (upd r z.gives R') z.steps → Agree n R R' → Done (push i s) r n R z
  load i s r n z R R' h q l e p ag = record {
    rg = upd r z.gives R';
    hs = z.steps;
    is = push_at Γ i s R' h q e ∙ p ∙ rw (size_push Γ i s) refl;
    kept = agree_upd n R R' r z.gives l ag;
    got = ap (λ v. taken v z.steps) (upd_same r z.gives R');
  }

  cur_nil : (a k : ℕ) (c : Code) (S : Regs) (g : Hist) → exec Γ c ≡ at (size c) S g → cur_c Γ (pl (nilw a k) ∷ c) ≡ at (1 + size c) (nils k a S) g
  unfolding cur_c exec
  cur_nil a k c S g e = rw e (rw (same_refl (size c)) refl)

  nil_one : (a k : ℕ) (c : Code) (S : Regs) (g : Hist) (s : St) → exec Γ c ≡ at (size c) S g → C Γ (with_code s (pl (nilw a k) ∷ c)) ≡ at (1 + size c) (nils k a S) g
  nil_one a k c S g s e = firm_C Γ (with_code s (pl (nilw a k) ∷ c)) (is_at_of (size c) (exec Γ c) S g e) ∙ cur_nil a k c S g e

  pub record Was (a k : ℕ) (c : Code) (R : Regs) (h : Hist) : Type 0 where
    pub rs : Regs
    pub was : exec Γ c ≡ at (size c) rs h
    pub now : R ≡ nils k a rs

  abbrev regs_of : Outcome → Regs
  regs_of (at p R h) = R
  regs_of (exit ℓ b R h) = R
  regs_of stuck = Γ.start

  nil_was : (a k : ℕ) (c : Code) (o : Outcome) (R : Regs) (h : Hist) (nx : ℕ) → exec Γ c ≡ o → is_at (size c) o ≡ true → cur_c Γ (pl (nilw a k) ∷ c) ≡ at nx R h → Was a k c R h
  nil_was a k c (exit ℓ b S g) R h nx eo w e = absurd (true≢false (sym w))
  nil_was a k c stuck R h nx eo w e = absurd (true≢false (sym w))
  nil_was a k c (at p S g) R h nx eo w e = let q : exec Γ c ≡ at (size c) S g = eo ∙ ap (λ z. at z S g) (same_true p (size c) w) in
      let y = sym e ∙ cur_nil a k c S g q in
      record { rs = S; was = q ∙ ap (λ z. at (size c) S z) (sym (ap hist_of y)); now = ap regs_of y }

  nil_long : (z : Bool) (a k r m : ℕ) (c : Code) (R₀ R : Regs) (h : Hist) (s : St) → leb r (k + a) ≡ z → a ≤ r → r ≤ suc (k + a) → m ≤ r → Agree m R₀ R → Was a k c R h → Done (with_code s (longer z a k r c)) r m R₀ (taken nil h)
  unfolding size
  nil_long true a k r m c R₀ R h s e l j mr ag w = record {
    rg = R;
    hs = h;
    is = nil_one a k c w.rs h s w.was ∙ ap (λ S. at (1 + size c) S h) (sym w.now);
    kept = ag;
    got = ap (λ v. taken v h) (ap (λ S. S r) w.now ∙ nils_in k a w.rs r l (leb-true r (k + a) e));
  }
  nil_long false a k r m c R₀ R h s e l j mr ag w = let b : suc k + a ≡ r = omega (nat, leb-false r (k + a) e) in
      record {
        rg = nils (suc k) a w.rs;
        hs = h;
        is = nil_one a (suc k) c w.rs h s w.was;
        got = ap (λ v. taken v h) (ap (λ i. upd i nil (nils k a w.rs) r) b ∙ upd_same r nil (nils k a w.rs));
        kept = λ i q. upd_other (suc k + a) nil (nils k a w.rs) i (λ e₂. omega nat) ∙ ap (λ S. S i) (sym w.now) ∙ ag i q;
      }

  nil_push : (r m : ℕ) (s : St) (R₀ R : Regs) (h : Hist) → m ≤ r → C Γ s ≡ at (Z s) R h → Agree m R₀ R → Done (push (pl (nilw r 0)) s) r m R₀ (taken nil h)
  nil_push r m s R₀ R h l e ag = load (pl (nilw r 0)) s r m (taken nil h) R₀ R h tt l e refl ag

  nil_ext : (t : Bool) (a k r m : ℕ) (c : Code) (s : St) (R₀ R : Regs) (h : Hist) → in_range a k r ≡ t → m ≤ r → Agree m R₀ R → C Γ (with_code s (pl (nilw a k) ∷ c)) ≡ at (size (pl (nilw a k) ∷ c)) R h →
      Done (extend t (leb r (k + a)) a k r c (with_code s (pl (nilw a k) ∷ c))) r m R₀ (taken nil h)
  nil_ext true a k r m c s R₀ R h e mr ag q = let b = and_true (leb a r) (leb r (suc (k + a))) e in
      nil_long (leb r (k + a)) a k r m c R₀ R h s refl (leb-true a r b.0) (leb-true r (suc (k + a)) b.1) mr ag
      (nil_was a k c (exec Γ c) R h (size (pl (nilw a k) ∷ c)) refl (firm_of Γ (with_code s (pl (nilw a k) ∷ c)) (size (pl (nilw a k) ∷ c)) R h q) (from_at Γ (with_code s (pl (nilw a k) ∷ c)) (size (pl (nilw a k) ∷ c)) R h q))
  nil_ext false a k r m c s R₀ R h e mr ag q = nil_push r m (with_code s (pl (nilw a k) ∷ c)) R₀ R h mr q ag

  -- at word 0 the registers above the locals are still nil
  nil_zero : (r m : ℕ) (s : St) (R₀ R : Regs) (h : Hist) → m ≤ r → Γ.active ≤ m → C Γ (with_code s []) ≡ at (size []) R h → Agree m R₀ R → Done (with_code s []) r m R₀ (taken nil h)
  unfolding CC cur_c exec
  nil_zero r m s R₀ R h l z e ag = record { rg = R; hs = h; is = e; kept = ag; got = ap (λ v. taken v h) (ap (λ o. regs_of o r) (sym e) ∙ Γ.blank r (omega nat)) }

  nil_at : (c : Code) (r m : ℕ) (s : St) (R₀ R : Regs) (h : Hist) → m ≤ r → Γ.active ≤ m → C Γ (with_code s c) ≡ at (size c) R h → Agree m R₀ R → Done (nil_top c r (with_code s c)) r m R₀ (taken nil h)
  nil_at [] r m s R₀ R h l z e ag = nil_zero r m s R₀ R h l z e ag
  nil_at (pl (setw a x) ∷ c) r m s R₀ R h l z e ag = nil_push r m _ R₀ R h l e ag
  nil_at (pl (lbs a x) ∷ c) r m s R₀ R h l z e ag = nil_push r m _ R₀ R h l e ag
  nil_at (pl mark ∷ c) r m s R₀ R h l z e ag = nil_push r m _ R₀ R h l e ag
  nil_at (pl (nilw a k) ∷ c) r m s R₀ R h l z e ag = nil_ext (in_range a k r) a k r m c s R₀ R h refl l ag e
  nil_at (pl (callw x) ∷ c) r m s R₀ R h l z e ag = nil_push r m _ R₀ R h l e ag
  nil_at (pl (selfw a x y) ∷ c) r m s R₀ R h l z e ag = nil_push r m _ R₀ R h l e ag
  nil_at (br x y ∷ c) r m s R₀ R h l z e ag = nil_push r m _ R₀ R h l e ag

  con_at : (v : Constant) (r n : ℕ) (s : St) (R R' : Regs) (h : Hist) → n ≤ r → Γ.active ≤ n → C Γ s ≡ at (Z s) R' h → Agree n R R' → Done (load_con v r s) r n R (taken (value_of v) h)
  unfolding eval
  con_at knil r n s R R' h l z e ag = nil_at s.code r n s R R' h l z e ag
  con_at (ktruth b) r n s R R' h l z e ag = load (pl (setw r (val (truth b)))) s r n (taken (truth b) h) R R' h tt l e refl ag
  con_at (knumber b) r n s R R' h l z e ag = load (pl (setw r (val (number b)))) (add_k (knumber b) s) r n (taken (number b) h) R R' h tt l e refl ag
  con_at (ktext b) r n s R R' h l z e ag = load (pl (setw r (val (text b)))) s r n (taken (text b) h) R R' h tt l e refl ag

  -- a run that has left does not see the LoadNil
  at_not_exit : (g : ℕ → Act) (t : Bool) (n a k p : ℕ) (S : Regs) (u : Hist) (ℓ : ℕ) (b : Option ℕ) (R : Regs) (h : Hist) → post g (step_at Γ t n (pl (nilw a k)) p S u) ≡ exit ℓ b R h → ⊥
  at_not_exit g true n a k p S u ℓ b R h e = let z : ◌≡◌ {A = ℕ} 0 1 = cc in omega nat
  at_not_exit g false n a k p S u ℓ b R h e = let z : ◌≡◌ {A = ℕ} 0 1 = cc in omega nat

  nil_same : (g : ℕ → Act) (n a k k₂ : ℕ) (o : Outcome) (ℓ : ℕ) (b : Option ℕ) (R : Regs) (h : Hist) → post g (step Γ n (pl (nilw a k)) o) ≡ exit ℓ b R h → post g (step Γ n (pl (nilw a k₂)) o) ≡ exit ℓ b R h
  nil_same g n a k k₂ (at p S u) ℓ b R h e = absurd (at_not_exit g (same p n) n a k p S u ℓ b R h e)
  nil_same g n a k k₂ (exit m d S u) ℓ b R h e = e
  nil_same g n a k k₂ stuck ℓ b R h e = e

  long_pass : (z : Bool) (a k r : ℕ) (c : Code) (ℓ : ℕ) (b : Option ℕ) (R : Regs) (h : Hist) → cur_c Γ (pl (nilw a k) ∷ c) ≡ exit ℓ b R h → cur_c Γ (longer z a k r c) ≡ exit ℓ b R h
  unfolding cur_c exec size
  long_pass true a k r c ℓ b R h e = e
  long_pass false a k r c ℓ b R h e = nil_same _ (size c) a k (suc k) (exec Γ c) ℓ b R h e

  ext_pass : (t z : Bool) (a k r : ℕ) (c : Code) (s : St) (ℓ : ℕ) (b : Option ℕ) (R : Regs) (h : Hist) → C Γ (with_code s (pl (nilw a k) ∷ c)) ≡ exit ℓ b R h → C Γ (extend t z a k r c (with_code s (pl (nilw a k) ∷ c))) ≡ exit ℓ b R h
  ext_pass true z a k r c s ℓ b R h e = to_exit Γ (with_code s (longer z a k r c)) ℓ b R h (long_pass z a k r c ℓ b R h (from_exit Γ (with_code s (pl (nilw a k) ∷ c)) ℓ b R h e))
  ext_pass false z a k r c s ℓ b R h e = push_pass Γ (pl (nilw r 0)) (with_code s (pl (nilw a k) ∷ c)) ℓ b R h tt e

  nil_pass : (c : Code) (r : ℕ) (s : St) (ℓ : ℕ) (b : Option ℕ) (R : Regs) (h : Hist) → C Γ (with_code s c) ≡ exit ℓ b R h → C Γ (nil_top c r (with_code s c)) ≡ exit ℓ b R h
  nil_pass [] r s ℓ b R h e = e
  nil_pass (pl (setw a x) ∷ c) r s ℓ b R h e = push_pass Γ (pl (nilw r 0)) _ ℓ b R h tt e
  nil_pass (pl (lbs a x) ∷ c) r s ℓ b R h e = push_pass Γ (pl (nilw r 0)) _ ℓ b R h tt e
  nil_pass (pl mark ∷ c) r s ℓ b R h e = push_pass Γ (pl (nilw r 0)) _ ℓ b R h tt e
  nil_pass (pl (nilw a k) ∷ c) r s ℓ b R h e = ext_pass (in_range a k r) (leb r (k + a)) a k r c s ℓ b R h e
  nil_pass (pl (callw x) ∷ c) r s ℓ b R h e = push_pass Γ (pl (nilw r 0)) _ ℓ b R h tt e
  nil_pass (pl (selfw a x y) ∷ c) r s ℓ b R h e = push_pass Γ (pl (nilw r 0)) _ ℓ b R h tt e
  nil_pass (br x y ∷ c) r s ℓ b R h e = push_pass Γ (pl (nilw r 0)) _ ℓ b R h tt e

  con_pass : (v : Constant) (r : ℕ) (s : St) (ℓ : ℕ) (b : Option ℕ) (R : Regs) (h : Hist) → C Γ s ≡ exit ℓ b R h → C Γ (load_con v r s) ≡ exit ℓ b R h
  con_pass knil r s ℓ b R h e = nil_pass s.code r s ℓ b R h e
  con_pass (ktruth u) r s ℓ b R h e = push_pass Γ (pl (setw r (val (truth u)))) s ℓ b R h tt e
  con_pass (knumber u) r s ℓ b R h e = push_pass Γ (pl (setw r (val (number u)))) (add_k (knumber u) s) ℓ b R h tt e
  con_pass (ktext u) r s ℓ b R h e = push_pass Γ (pl (setw r (val (text u)))) s ℓ b R h tt e

  abbrev pub NilOk : K4 → ℕ → Type 0
  NilOk (kc v) n = Γ.active ≤ n
  NilOk (kr u r) n = Unit {0}
  NilOk (kx x) n = Unit {0}
  NilOk (kj o c x y) n = Unit {0}

  pub nil_ok : (k : K4) (n : ℕ) → Γ.active ≤ n → NilOk k n
  nil_ok (kc v) n z = z
  nil_ok (kr u r) n z = tt
  nil_ok (kx x) n z = tt
  nil_ok (kj o c x y) n z = tt

  pub d2r_at : (k : K4) (t r n : ℕ) (s : St) (R R' : Regs) (h : Hist) → is_cmp k ≡ false → n ≤ r → NilOk k n → C Γ s ≡ at (Z s) R' h → Agree n R R' → Done (d2r k t r s) r n R (finish4 k R' h)
  unfolding d2r finish4 eval
  d2r_at (kc v) t r n s R R' h q l z e ag = con_at v r n s R R' h l z e ag
  d2r_at (kr u k) t r n s R R' h q l z e ag = go (same r k) refl
    where
      go : (u : Bool) → same r k ≡ u → Done (pick u s (push (pl (setw r (cp k))) s)) r n R (taken (R' k) h)
      go true x = record { rg = R'; hs = h; is = e; kept = ag; got = rw (same_true r k x) refl }
      go false x = load (pl (setw r (cp k))) s r n (taken (R' k) h) R R' h tt l e refl ag
  d2r_at (kx x) t r n s R R' h q l z e ag = load (pl (setw r x)) s r n (eval Γ x R' h) R R' h tt l e refl ag
  d2r_at (kj o c x y) t r n s R R' h q l z e ag = absurd (true≢false q)

  pub d2r_pass : (k : K4) (t r : ℕ) (s : St) (ℓ : ℕ) (b : Option ℕ) (R : Regs) (h : Hist) → (t ≡ 0 → ⊥) → C Γ s ≡ exit ℓ b R h → C Γ (d2r k t r s) ≡ exit ℓ b R h
  unfolding d2r
  d2r_pass (kc v) t r s ℓ b R h q e = con_pass v r s ℓ b R h e
  d2r_pass (kr u k) t r s ℓ b R h q e = go (same r k)
    where
      go : (u : Bool) → C Γ (pick u s (push (pl (setw r (cp k))) s)) ≡ exit ℓ b R h
      go true = e
      go false = push_pass Γ (pl (setw r (cp k))) s ℓ b R h tt e
  d2r_pass (kx x) t r s ℓ b R h q e = push_pass Γ (pl (setw r x)) s ℓ b R h tt e
  d2r_pass (kj o c x y) t r s ℓ b R h q e = push_pass Γ (br (cmp o c x y) (lbl t)) s ℓ b R h q e
