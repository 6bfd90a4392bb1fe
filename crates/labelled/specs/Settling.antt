-- exp2reg and exp2nextreg: whether the value fell through or left by a jump, it ends in the register. A jump that is pending is found by the scan of the code, so no jump is forgotten.
use Rattle.std.specs.Prelude.{ℕ, suc, ◌+◌, ◌≤◌, Bool, ◌≡◌}
use Rattle.std.proofs.Math.Bool.{true, false}
use Rattle.std.proofs.Math.Path.{refl}
use Rattle.std.proofs.Common.{ap, sym, ◌∙◌}
use Rattle.std.proofs.Math.Option.{Option, some, none}
use native.Mathlib.Omega.{arith as nat}
use Rattle.model.specs.Values.{Value, truth, StepKind, Taken, taken}
use Rattle.model.specs.Running.{same as agrees}
use Rattle.labelled.specs.Code.{same, same_ne, same_true, same_refl, Rk, cmp, lbl, br, size}
use Rattle.labelled.specs.Machine.{Hist, Regs, Setting, pick, upd, upd_same, wr, at, exit, eval, compared}
use Rattle.labelled.specs.Edits.{size_edit}
use Rattle.labelled.specs.Emission.{St, push, labelled_emit_jump, hit}
use Rattle.labelled.specs.Discharge.{K4, kc, kr, kx, kj, Des4, Par4, lab, freed, d2r, is_cmp, lands, load_pair, land_all, settle, e2r, nextreg}
use Rattle.labelled.specs.Outcomes.{cur_c, cur, size_push, cur_pair, size_pair, cur_land_all}
use Rattle.labelled.specs.Firm.{Agree, agree_upd, carried, CC, C, from_at, from_exit, Z, push_at, true≢false, Keeps, scan, jump_pass, jump_at}
use Rattle.labelled.specs.Loads.{finish4, Res4, fell, left, Done, nil_ok, d2r_at, d2r_pass, d2r_nxt}

wr_got : (r b : ℕ) (R : Regs) → wr (some r) b R r ≡ R b
wr_got r b R = go (same r b) refl
  where
    go : (u : Bool) → same r b ≡ u → pick u R (upd r (R b) R) r ≡ R b
    go true e = ap R (same_true r b e)
    go false e = upd_same r (R b) R

wr_kept : (n r b : ℕ) (R R' : Regs) → n ≤ r → Agree n R R' → Agree n R (wr (some r) b R')
wr_kept n r b R R' l ag = go (same r b)
  where
    go : (u : Bool) → Agree n R (pick u R' (upd r (R' b) R'))
    go true = ag
    go false = agree_upd n R R' r (R' b) l ag

-- labels of a descriptor, and a new one, are different from each other and from 0
pub record Labs (e : Des4) (j : ℕ) : Type 0 where
  pub j0 : j ≡ 0 → ⊥
  pub t0 : e.tl ≡ 0 → ⊥
  pub f0 : e.fl ≡ 0 → ⊥
  pub tj : e.tl ≡ j → ⊥
  pub fj : e.fl ≡ j → ⊥
  pub ft : e.fl ≡ e.tl → ⊥

size_land_all : (t f r : ℕ) (s : St) → Z (land_all t f r s) ≡ Z s
unfolding land_all size
size_land_all t f r s = rw (size_edit (lands t f r (Z s) (Z s) (Z s)) s.code) (omega nat)

hit_cmp : (vals : Bool) (t f : ℕ) (o : StepKind) (c : Bool) (x y : Rk) (s : St) → hit vals t f (push (br (cmp o c x y) (lbl t)) s).code ≡ true
unfolding push hit
hit_cmp true t f o c x y s = rw (same_refl t) refl
hit_cmp false t f o c x y s = rw (same_refl t) refl

-- exp2nextreg
settle_keeps : (h₀ h₁ kq : Bool) (j : ℕ) (e : Des4) (r : ℕ) (s : St) → Keeps s (settle h₀ h₁ kq j e r s)
unfolding settle land_all load_pair labelled_emit_jump
settle_keeps false h₁ kq j e r s = (refl, refl)
settle_keeps true false kq j e r s = (refl, refl)
settle_keeps true true true j e r s = (refl, refl)
settle_keeps true true false j e r s = (refl, refl)

pub next_free : (p : Par4) → (nextreg p).free ≡ suc (freed p.de.k4 p.st.free)
unfolding nextreg
next_free p = refl

pub next_nxt : (p : Par4) → (nextreg p).nxt ≡ suc p.st.nxt
unfolding nextreg e2r
next_nxt p = ap suc ((settle_keeps _ _ _ _ _ _ _).1 ∙ d2r_nxt p.de.k4 p.de.tl _ p.st)

module _ (Γ : Setting) where
  -- the pair of LoadBool, case by case
  module _ (j t f r : ℕ) (s : St) (j0 : j ≡ 0 → ⊥) (t0 : t ≡ 0 → ⊥) (f0 : f ≡ 0 → ⊥) (tj : t ≡ j → ⊥) (fj : f ≡ j → ⊥) (ft : f ≡ t → ⊥) where
    pair_c : C Γ (load_pair j t f r s) ≡ cur Γ (load_pair j t f r s)
    unfolding CC load_pair
    pair_c = refl

    pair_at : (R : Regs) (h : Hist) → C Γ s ≡ at (Z s) R h → C Γ (load_pair j t f r s) ≡ at (2 + Z s) (upd r (truth false) R) h
    pair_at R h e = pair_c ∙ rw (cur_pair Γ j t f r s, from_at Γ s (Z s) R h e)
        (let a : same (2 + Z s) (1 + Z s) ≡ false = same_ne _ _ (omega nat) in simp (same_refl (Z s), a))

    pair_j : (b : Option ℕ) (R : Regs) (h : Hist) → C Γ s ≡ exit j b R h → C Γ (load_pair j t f r s) ≡ at (2 + Z s) R h
    pair_j none R h e = pair_c ∙ rw (cur_pair Γ j t f r s, from_exit Γ s j none R h e) (simp (same_ne j 0 j0, same_refl))
    pair_j (some b) R h e = pair_c ∙ rw (cur_pair Γ j t f r s, from_exit Γ s j (some b) R h e) (simp (same_ne j 0 j0, same_refl))

    pair_t : (R : Regs) (h : Hist) → C Γ s ≡ exit t none R h → C Γ (load_pair j t f r s) ≡ at (2 + Z s) (upd r (truth true) R) h
    unfolding eval
    pair_t R h e = pair_c ∙ rw (cur_pair Γ j t f r s, from_exit Γ s t none R h e)
        (let a : same (1 + Z s) (Z s) ≡ false = same_ne _ _ (omega nat) in
        let b : 1 + (1 + Z s) ≡ 2 + Z s = omega nat in simp (same_ne t 0 t0, same_ne t j tj, same_refl, a) (rw b refl))

    pair_f : (R : Regs) (h : Hist) → C Γ s ≡ exit f none R h → C Γ (load_pair j t f r s) ≡ at (2 + Z s) (upd r (truth false) R) h
    pair_f R h e = pair_c ∙ rw (cur_pair Γ j t f r s, from_exit Γ s f none R h e)
        (let a : same (2 + Z s) (1 + Z s) ≡ false = same_ne _ _ (omega nat) in simp (same_ne f 0 f0, same_ne f j fj, same_ne f t ft, same_refl, a))

    pair_ts : (b : ℕ) (R : Regs) (h : Hist) → C Γ s ≡ exit t (some b) R h → C Γ (load_pair j t f r s) ≡ at (2 + Z s) (wr (some r) b R) h
    pair_ts b R h e = pair_c ∙ rw (cur_pair Γ j t f r s, from_exit Γ s t (some b) R h e)
        (let a : same (2 + Z s) (Z s) ≡ false = same_ne _ _ (omega nat) in let a' : same (2 + Z s) (1 + Z s) ≡ false = same_ne _ _ (omega nat) in
        simp (same_ne t 0 t0, same_ne t j tj, same_refl t, a, a'))

    pair_fs : (b : ℕ) (R : Regs) (h : Hist) → C Γ s ≡ exit f (some b) R h → C Γ (load_pair j t f r s) ≡ at (2 + Z s) (wr (some r) b R) h
    pair_fs b R h e = pair_c ∙ rw (cur_pair Γ j t f r s, from_exit Γ s f (some b) R h e)
        (let a : same (2 + Z s) (Z s) ≡ false = same_ne _ _ (omega nat) in let a' : same (2 + Z s) (1 + Z s) ≡ false = same_ne _ _ (omega nat) in
        simp (same_ne f 0 f0, same_ne f j fj, same_ne f t ft, same_refl f, a, a'))

    pair_pass : (ℓ : ℕ) (b : Option ℕ) (R : Regs) (h : Hist) → (ℓ ≡ 0 → ⊥) → (ℓ ≡ j → ⊥) → (ℓ ≡ t → ⊥) → (ℓ ≡ f → ⊥) → C Γ s ≡ exit ℓ b R h → C Γ (load_pair j t f r s) ≡ exit ℓ b R h
    pair_pass ℓ b R h l0 lj lt lf e = pair_c ∙ rw (cur_pair Γ j t f r s, from_exit Γ s ℓ b R h e) (simp (same_ne ℓ 0 l0, same_ne ℓ j lj, same_ne ℓ t lt, same_ne ℓ f lf))

  land_c : (t f r : ℕ) (s : St) → C Γ (land_all t f r s) ≡ cur Γ (land_all t f r s)
  unfolding CC land_all
  land_c t f r s = refl

  pair_left : (e : Des4) (j r n : ℕ) (s : St) (L : Labs e j) (c : Bool) (b : Option ℕ) (R R' : Regs) (v : Value) (h : Hist) → n ≤ r → C Γ s ≡ exit (lab c e) b R' h → Agree n R R' →
      carried b R' c ≡ v → Done Γ (load_pair j e.tl e.fl r s) r n R (taken v h)
  pair_left e j r n s L true none R R' v h l q ag w = record {
    rg = upd r (truth true) R';
    hs = h;
    is = pair_t j e.tl e.fl r s L.j0 L.t0 L.f0 L.tj L.fj L.ft R' h q ∙ rw (size_pair Γ j e.tl e.fl r s) refl;
    kept = agree_upd n R R' r (truth true) l ag;
    got = rw (upd_same r (truth true) R', w) refl;
  }
  pair_left e j r n s L false none R R' v h l q ag w = record {
    rg = upd r (truth false) R';
    hs = h;
    is = pair_f j e.tl e.fl r s L.j0 L.t0 L.f0 L.tj L.fj L.ft R' h q ∙ rw (size_pair Γ j e.tl e.fl r s) refl;
    kept = agree_upd n R R' r (truth false) l ag;
    got = rw (upd_same r (truth false) R', w) refl;
  }
  pair_left e j r n s L true (some b) R R' v h l q ag w = record {
    rg = wr (some r) b R';
    hs = h;
    is = pair_ts j e.tl e.fl r s L.j0 L.t0 L.f0 L.tj L.fj L.ft b R' h q ∙ rw (size_pair Γ j e.tl e.fl r s) refl;
    kept = wr_kept n r b R R' l ag;
    got = rw (wr_got r b R', w) refl;
  }
  pair_left e j r n s L false (some b) R R' v h l q ag w = record {
    rg = wr (some r) b R';
    hs = h;
    is = pair_fs j e.tl e.fl r s L.j0 L.t0 L.f0 L.tj L.fj L.ft b R' h q ∙ rw (size_pair Γ j e.tl e.fl r s) refl;
    kept = wr_kept n r b R R' l ag;
    got = rw (wr_got r b R', w) refl;
  }

  land_left : (e : Des4) (r n : ℕ) (s : St) (j : ℕ) (L : Labs e j) (c : Bool) (b : ℕ) (R R' : Regs) (v : Value) (h : Hist) → n ≤ r → C Γ s ≡ exit (lab c e) (some b) R' h → Agree n R R' →
      R' b ≡ v → Done Γ (land_all e.tl e.fl r s) r n R (taken v h)
  land_left e r n s j L true b R R' v h l q ag w = record {
    rg = wr (some r) b R';
    hs = h;
    is = land_c e.tl e.fl r s ∙ rw (cur_land_all Γ e.tl e.fl r s L.t0 L.f0, from_exit Γ s e.tl (some b) R' h q, size_land_all e.tl e.fl r s) (rw (same_refl e.tl) refl);
    kept = wr_kept n r b R R' l ag;
    got = rw (wr_got r b R', w) refl;
  }
  land_left e r n s j L false b R R' v h l q ag w = record {
    rg = wr (some r) b R';
    hs = h;
    is = land_c e.tl e.fl r s ∙ rw (cur_land_all Γ e.tl e.fl r s L.t0 L.f0, from_exit Γ s e.fl (some b) R' h q, size_land_all e.tl e.fl r s) (simp (same_ne e.fl e.tl L.ft, same_refl e.fl));
    kept = wr_kept n r b R R' l ag;
    got = rw (wr_got r b R', w) refl;
  }

  settle_left : (h₀ h₁ kq : Bool) (e : Des4) (j r n : ℕ) (s : St) (L : Labs e j) (c : Bool) (b : Option ℕ) (R R' : Regs) (v : Value) (h : Hist) →
      hit false e.tl e.fl s.code ≡ h₀ → hit true e.tl e.fl s.code ≡ h₁ → n ≤ r → C Γ s ≡ exit (lab c e) b R' h → Agree n R R' →
      carried b R' c ≡ v → Done Γ (settle h₀ h₁ kq j e r s) r n R (taken v h)
  unfolding settle
  settle_left false h₁ kq e j r n s L c b R R' v h p₀ p₁ l q ag w = absurd (true≢false (scan Γ false e s c b R' h p₀ q))
  settle_left true false kq e j r n s L c none R R' v h p₀ p₁ l q ag w = absurd (true≢false (scan Γ true e s c none R' h p₁ q))
  settle_left true false kq e j r n s L c (some b) R R' v h p₀ p₁ l q ag w = land_left e r n s j L c b R R' v h l q ag w
  settle_left true true true e j r n s L c b R R' v h p₀ p₁ l q ag w = pair_left e j r n s L c b R R' v h l q ag w
  settle_left true true false e j r n s L c b R R' v h p₀ p₁ l q ag w = pair_left e j r n (labelled_emit_jump j s) L c b R R' v h l (jump_pass Γ j s (lab c e) b R' h L.j0 q) ag w

  settle_fell : (h₀ h₁ : Bool) (e : Des4) (j r n : ℕ) (s : St) (L : Labs e j) (R : Regs) (a : Taken Value) → Done Γ s r n R a → Done Γ (settle h₀ h₁ false j e r s) r n R a
  unfolding settle
  settle_fell false h₁ e j r n s L R a d = d
  settle_fell true false e j r n s L R a d = record {
    rg = d.rg;
    hs = d.hs;
    is = land_c e.tl e.fl r s ∙ rw (cur_land_all Γ e.tl e.fl r s L.t0 L.f0, size_land_all e.tl e.fl r s, from_at Γ s (Z s) d.rg d.hs d.is) refl;
    kept = d.kept;
    got = d.got;
  }
  settle_fell true true e j r n s L R a d = record {
    rg = d.rg;
    hs = d.hs;
    is = pair_j j e.tl e.fl r (labelled_emit_jump j s) L.j0 L.t0 L.f0 L.tj L.fj L.ft none d.rg d.hs (jump_at Γ j s d.rg d.hs L.j0 d.is) ∙ rw (size_pair Γ j e.tl e.fl r (labelled_emit_jump j s)) refl;
    kept = d.kept;
    got = d.got;
  }

  settle_pass : (h₀ h₁ kq : Bool) (e : Des4) (j r : ℕ) (s : St) (L : Labs e j) (ℓ : ℕ) (b : Option ℕ) (R : Regs) (h : Hist) → (ℓ ≡ 0 → ⊥) → (ℓ ≡ j → ⊥) → (ℓ ≡ e.tl → ⊥) → (ℓ ≡ e.fl → ⊥) →
      C Γ s ≡ exit ℓ b R h → C Γ (settle h₀ h₁ kq j e r s) ≡ exit ℓ b R h
  unfolding settle
  settle_pass false h₁ kq e j r s L ℓ b R h l0 lj lt lf q = q
  settle_pass true false kq e j r s L ℓ b R h l0 lj lt lf q = land_c e.tl e.fl r s ∙ rw (cur_land_all Γ e.tl e.fl r s L.t0 L.f0, from_exit Γ s ℓ b R h q) (simp (same_ne ℓ e.tl lt, same_ne ℓ e.fl lf))
  settle_pass true true true e j r s L ℓ b R h l0 lj lt lf q = pair_pass j e.tl e.fl r s L.j0 L.t0 L.f0 L.tj L.fj L.ft ℓ b R h l0 lj lt lf q
  settle_pass true true false e j r s L ℓ b R h l0 lj lt lf q = pair_pass j e.tl e.fl r (labelled_emit_jump j s) L.j0 L.t0 L.f0 L.tj L.fj L.ft ℓ b R h l0 lj lt lf (jump_pass Γ j s ℓ b R h L.j0 q)

  settle_cmp : (h₀ h₁ : Bool) (e : Des4) (j r n : ℕ) (s : St) (L : Labs e j) (R R' : Regs) (h : Hist) → h₀ ≡ true → h₁ ≡ true → n ≤ r → C Γ s ≡ at (Z s) R' h → Agree n R R' →
      Done Γ (settle h₀ h₁ true j e r s) r n R (taken (truth false) h)
  unfolding settle
  settle_cmp false h₁ e j r n s L R R' h p₀ p₁ l q ag = absurd (true≢false (sym p₀))
  settle_cmp true false e j r n s L R R' h p₀ p₁ l q ag = absurd (true≢false (sym p₁))
  settle_cmp true true e j r n s L R R' h p₀ p₁ l q ag = record {
    rg = upd r (truth false) R';
    hs = h;
    is = pair_at j e.tl e.fl r s L.j0 L.t0 L.f0 L.tj L.fj L.ft R' h q ∙ rw (size_pair Γ j e.tl e.fl r s) refl;
    kept = agree_upd n R R' r (truth false) l ag;
    got = rw (upd_same r (truth false) R') refl;
  }

  -- exp2reg from a fallen state
  e2r_cmp : (w : Bool) (o : StepKind) (d : Bool) (x y : Rk) (e : Des4) (r n : ℕ) (s s₁ : St) (R R' : Regs) (h h' : Hist) (L : Labs e s₁.nxt) → n ≤ r → s₁ ≡ push (br (cmp o d x y) (lbl e.tl)) s →
      h' ≡ (compared Γ o x y R' h).steps → agrees (Γ.world.holds h') d ≡ w → C Γ s ≡ at (Z s) R' h → Agree n R R' →
      Done Γ (settle (hit false e.tl e.fl s₁.code) (hit true e.tl e.fl s₁.code) true s₁.nxt e r s₁) r n R (taken (truth w) h')
  e2r_cmp true o d x y e r n s s₁ R R' h h' L l es eh ew q ag =
      settle_left (hit false e.tl e.fl s₁.code) (hit true e.tl e.fl s₁.code) true e s₁.nxt r n s₁ L true none R R' (truth true) h' refl refl l
      (rw es (push_at Γ (br (cmp o d x y) (lbl e.tl)) s R' h L.t0 q ∙ rw (← eh, ew) refl)) ag refl
  e2r_cmp false o d x y e r n s s₁ R R' h h' L l es eh ew q ag =
      settle_cmp (hit false e.tl e.fl s₁.code) (hit true e.tl e.fl s₁.code) e s₁.nxt r n s₁ L R R' h' (rw es (hit_cmp false e.tl e.fl o d x y s)) (rw es (hit_cmp true e.tl e.fl o d x y s)) l
      (rw es (push_at Γ (br (cmp o d x y) (lbl e.tl)) s R' h L.t0 q ∙ rw (← eh, ew, size_push Γ (br (cmp o d x y) (lbl e.tl)) s) refl)) ag

  e2r_nc : (k : K4) (t f r n : ℕ) (s : St) (R R' : Regs) (h : Hist) → Labs (record { k4 = k; tl = t; fl = f }) s.nxt → n ≤ r → Γ.active ≤ n → C Γ s ≡ at (Z s) R' h → Agree n R R' → is_cmp k ≡ false →
      Done Γ (e2r (record { k4 = k; tl = t; fl = f }) r s) r n R (finish4 Γ k R' h)
  unfolding e2r
  e2r_nc k t f r n s R R' h L l na q ag z = rw z (settle_fell (hit false t f (d2r k t r s).code) (hit true t f (d2r k t r s).code) (record { k4 = k; tl = t; fl = f }) (d2r k t r s).nxt r n (d2r k t r s)
      (rw (d2r_nxt k t r s) L) R (finish4 Γ k R' h) (d2r_at Γ k t r n s R R' h z l (nil_ok Γ k n na) q ag))

  e2r_fell : (k : K4) (t f r n : ℕ) (s : St) (R R' : Regs) (h : Hist) → Labs (record { k4 = k; tl = t; fl = f }) s.nxt → n ≤ r → Γ.active ≤ n → C Γ s ≡ at (Z s) R' h → Agree n R R' →
      Done Γ (e2r (record { k4 = k; tl = t; fl = f }) r s) r n R (finish4 Γ k R' h)
  unfolding e2r d2r finish4
  e2r_fell (kc v) t f r n s R R' h L l na q ag = e2r_nc (kc v) t f r n s R R' h L l na q ag refl
  e2r_fell (kr u m) t f r n s R R' h L l na q ag = e2r_nc (kr u m) t f r n s R R' h L l na q ag refl
  e2r_fell (kx x) t f r n s R R' h L l na q ag = e2r_nc (kx x) t f r n s R R' h L l na q ag refl
  e2r_fell (kj o d x y) t f r n s R R' h L l na q ag = e2r_cmp (agrees (Γ.world.holds (compared Γ o x y R' h).steps) d) o d x y (record { k4 = kj o d x y; tl = t; fl = f }) r n s (push (br (cmp o d x y) (lbl t)) s) R R' h
      (compared Γ o x y R' h).steps (rw (d2r_nxt (kj o d x y) t r s) L) l refl refl refl q ag

  e2r_res : (e : Des4) (r n : ℕ) (s : St) (R : Regs) (a : Taken Value) → Labs e s.nxt → n ≤ r → Γ.active ≤ n → Res4 Γ e (Z s) (C Γ s) n R a → Done Γ (e2r e r s) r n R a
  unfolding e2r
  e2r_res e r n s R a L l na (fell R' h q ag w) = rw w at (e2r_fell e.k4 e.tl e.fl r n s R R' h L l na q ag)
  e2r_res e r n s R a L l na (left c b R' v h q ag z w y) = rw y at (settle_left (hit false e.tl e.fl (d2r e.k4 e.tl r s).code) (hit true e.tl e.fl (d2r e.k4 e.tl r s).code) (is_cmp e.k4) e
      (d2r e.k4 e.tl r s).nxt r n (d2r e.k4 e.tl r s) (rw (d2r_nxt e.k4 e.tl r s) L) c b R R' v h refl refl l (d2r_pass Γ e.k4 e.tl r s (lab c e) b R' h L.t0 q) ag w)

  e2r_pass : (e : Des4) (r : ℕ) (s : St) (ℓ : ℕ) (b : Option ℕ) (R : Regs) (h : Hist) → Labs e s.nxt → (ℓ ≡ 0 → ⊥) → (ℓ ≡ s.nxt → ⊥) → (ℓ ≡ e.tl → ⊥) → (ℓ ≡ e.fl → ⊥) →
      C Γ s ≡ exit ℓ b R h → C Γ (e2r e r s) ≡ exit ℓ b R h
  unfolding e2r
  e2r_pass e r s ℓ b R h L l0 lj lt lf q = settle_pass (hit false e.tl e.fl (d2r e.k4 e.tl r s).code) (hit true e.tl e.fl (d2r e.k4 e.tl r s).code) (is_cmp e.k4) e
      (d2r e.k4 e.tl r s).nxt r (d2r e.k4 e.tl r s) (rw (d2r_nxt e.k4 e.tl r s) L) ℓ b R h l0 (rw (d2r_nxt e.k4 e.tl r s) lj) lt lf (d2r_pass Γ e.k4 e.tl r s ℓ b R h L.t0 q)

  pub next_res₀ : (p : Par4) (n : ℕ) (R : Regs) (a : Taken Value) → Labs p.de p.st.nxt → n ≤ freed p.de.k4 p.st.free → Γ.active ≤ n → Res4 Γ p.de (Z p.st) (C Γ p.st) n R a → Done Γ (nextreg p) (freed p.de.k4 p.st.free) n R a
  unfolding nextreg cur_c CC
  next_res₀ p n R a L l na q = let d = e2r_res p.de (freed p.de.k4 p.st.free) n p.st R a L l na q in record { rg = d.rg; hs = d.hs; is = d.is; kept = d.kept; got = d.got }

  pub next_res : (p : Par4) (n r : ℕ) (R : Regs) (a : Taken Value) → Labs p.de p.st.nxt → freed p.de.k4 p.st.free ≡ r → n ≤ r → Γ.active ≤ n → Res4 Γ p.de (Z p.st) (C Γ p.st) n R a → Done Γ (nextreg p) r n R a
  next_res p n r R a L f l na q = rw f at (next_res₀ p n R a L (rw f l) na q)

  pub next_pass : (p : Par4) (ℓ : ℕ) (b : Option ℕ) (R : Regs) (h : Hist) → Labs p.de p.st.nxt → (ℓ ≡ 0 → ⊥) → (ℓ ≡ p.st.nxt → ⊥) → (ℓ ≡ p.de.tl → ⊥) → (ℓ ≡ p.de.fl → ⊥) →
      C Γ p.st ≡ exit ℓ b R h → C Γ (nextreg p) ≡ exit ℓ b R h
  unfolding nextreg cur_c CC
  next_pass p ℓ b R h L l0 lj lt lf q = e2r_pass p.de (freed p.de.k4 p.st.free) p.st ℓ b R h L l0 lj lt lf q
