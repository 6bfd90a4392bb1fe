-- goiftrue, goiffalse and not: the truth of the value decides which list a run leaves by, and a value that goes on has the other truth.
-- What rests on something that a must-fail edit breaks stands in proofs/Branching.antt.
use Rattle.std.specs.Prelude.{ℕ, ◌≤◌, Bool, not, ◌≡◌}
use Rattle.std.proofs.Math.Bool.{true, false, not-not}
use Rattle.std.proofs.Math.Path.{refl, ap}
use Rattle.std.proofs.Common.{sym, ◌∙◌}
use Rattle.std.proofs.Math.Option.{Option, some, none}
use Rattle.constants.specs.Entry.{Constant, nil as knil, truth as ktruth, number as knumber, text as ktext}
use Rattle.model.specs.Values.{Value, truth, value_of, is_true, StepKind, Taken, taken}
use Rattle.model.specs.Running.{same as agrees}
use Rattle.labelled.specs.Code.{Rk, Ex, val, cp, glob, idx, ari, neg, len, notx, cat, vfst, test, tset, cmp, lbl, setw, pl, br}
use Rattle.labelled.specs.Machine.{Hist, Regs, Setting, Outcome, at, exit, eval, compared}
use Rattle.labelled.specs.Emission.{St, push, labelled_emit_jump, labelled_to_here}
use Rattle.labelled.specs.Discharge.{K4, kc, kr, kx, kj, Des4, Par4, lab, freed, d2r, is_cmp}
use Rattle.labelled.specs.Conditions.{on_load, on_x, is_bool, go_con, go_jump, go_if, not_k, not_s, labelled_code_not}
use Rattle.labelled.specs.Outcomes.{cur_c, size_push}
use Rattle.labelled.specs.Firm.{Agree, carried, CC, C, Z, push_at, push_pass, true≢false, Keeps, jump_pass, jump_at, here_at, here_pass, here_hit, here_nxt, here_free, flush_at, flush_exit, strip_at, strip_hit, strip_pass}
use Rattle.labelled.specs.Loads.{finish4, Res4, fell, left, NilOk, d2r_at, d2r_pass, d2r_keeps}

agrees_true : (a b : Bool) → agrees a b ≡ true → a ≡ b
agrees_true true b e = sym e
agrees_true false true e = absurd (true≢false (sym e))
agrees_true false false e = refl

pub agrees_with_true : (a : Bool) → agrees a true ≡ a
agrees_with_true true = refl
agrees_with_true false = refl

pub agrees_with_false : (a : Bool) → agrees a false ≡ not a
agrees_with_false true = refl
agrees_with_false false = refl

not_agrees : (a c : Bool) → agrees (not a) c ≡ agrees a (not c)
not_agrees true true = refl
not_agrees true false = refl
not_agrees false true = refl
not_agrees false false = refl

agrees_assoc : (a d c : Bool) → agrees (agrees a d) c ≡ agrees a (agrees d c)
agrees_assoc true d c = refl
agrees_assoc false true true = refl
agrees_assoc false true false = refl
agrees_assoc false false true = refl
agrees_assoc false false false = refl

-- after goiftrue (c false) or goiffalse (c true), with the jumps in list m
pub data Went (c : Bool) (m : ℕ) (p : ℕ) (o : Outcome) (n : ℕ) (R : Regs) (a : Taken Value) : Type 0 where
  through : (R' : Regs) (v : Value) (h : Hist) → o ≡ at p R' h → Agree n R R' → agrees (is_true v) c ≡ false → taken v h ≡ a → Went c m p o n R a
  gone : (b : Option ℕ) (R' : Regs) (v : Value) (h : Hist) → o ≡ exit m b R' h → Agree n R R' → is_true v ≡ c → carried b R' c ≡ v → taken v h ≡ a → Went c m p o n R a

on_load_keeps : (c : Bool) (k : K4) (m : ℕ) (s : St) → Keeps s (on_load c k m s)
unfolding on_load push
on_load_keeps c k m s = d2r_keeps k m s.free s

on_x_keeps : (c : Bool) (x : Ex) (m : ℕ) (s : St) → Keeps s (on_x c x m s)
unfolding on_x push
on_x_keeps c (val v) m s = on_load_keeps c (kx (val v)) m s
on_x_keeps c (cp r) m s = on_load_keeps c (kx (cp r)) m s
on_x_keeps c (glob k) m s = on_load_keeps c (kx (glob k)) m s
on_x_keeps c (idx t k) m s = on_load_keeps c (kx (idx t k)) m s
on_x_keeps c (ari o x y) m s = on_load_keeps c (kx (ari o x y)) m s
on_x_keeps c (neg r) m s = on_load_keeps c (kx (neg r)) m s
on_x_keeps c (len r) m s = on_load_keeps c (kx (len r)) m s
on_x_keeps c (notx r) m s = (refl, refl)
on_x_keeps c (cat b k) m s = on_load_keeps c (kx (cat b k)) m s
on_x_keeps c vfst m s = on_load_keeps c (kx vfst) m s

-- a constant's jump: its truth is known
is_bool_val : (v : Constant) (c : Bool) → is_bool v ≡ true → is_true (value_of v) ≡ c → truth c ≡ value_of v
is_bool_val knil c z e = absurd (true≢false (sym z))
is_bool_val (ktruth b) c z e = ap truth (sym e)
is_bool_val (knumber n) c z e = absurd (true≢false (sym z))
is_bool_val (ktext t) c z e = absurd (true≢false (sym z))

go_con_keeps : (k u c : Bool) (v : Constant) (m : ℕ) (s : St) → Keeps s (go_con k u c v m s)
unfolding labelled_emit_jump
go_con_keeps false u c v m s = (refl, refl)
go_con_keeps true true c v m s = (refl, refl)
go_con_keeps true false c v m s = on_load_keeps c (kc v) m s

go_jump_nxt : (c : Bool) (k : K4) (m : ℕ) (s : St) → (go_jump c k m s).nxt ≡ s.nxt
unfolding go_jump push
go_jump_nxt c (kc v) m s = (go_con_keeps (agrees (is_true (value_of v)) c) (is_bool v) c v m s).1
go_jump_nxt c (kr u r) m s = refl
go_jump_nxt c (kx x) m s = (on_x_keeps c x m s).1
go_jump_nxt c (kj o d x y) m s = refl

go_jump_free : (c : Bool) (k : K4) (m : ℕ) (s : St) → (go_jump c k m s).free ≡ freed k s.free
unfolding go_jump push
go_jump_free c (kc v) m s = (go_con_keeps (agrees (is_true (value_of v)) c) (is_bool v) c v m s).0
go_jump_free c (kr u r) m s = refl
go_jump_free c (kx x) m s = (on_x_keeps c x m s).0
go_jump_free c (kj o d x y) m s = refl

pub record Lab₀ (e : Des4) : Type 0 where
  pub t0 : e.tl ≡ 0 → ⊥
  pub f0 : e.fl ≡ 0 → ⊥
  pub ft : e.fl ≡ e.tl → ⊥

pub lab_0 : (c : Bool) (e : Des4) → Lab₀ e → lab c e ≡ 0 → ⊥
lab_0 true e L = L.t0
lab_0 false e L = L.f0

lab_ne : (c : Bool) (e : Des4) → Lab₀ e → lab c e ≡ lab (not c) e → ⊥
lab_ne true e L q = L.ft (sym q)
lab_ne false e L q = L.ft q

pub go_if_nxt : (c : Bool) (p : Par4) → (go_if c p).nxt ≡ p.st.nxt
unfolding go_if
go_if_nxt c p = here_nxt (lab (not c) p.de) _ ∙ go_jump_nxt c p.de.k4 (lab c p.de) p.st

pub go_if_free : (c : Bool) (p : Par4) → (go_if c p).free ≡ freed p.de.k4 p.st.free
unfolding go_if
go_if_free c p = here_free (lab (not c) p.de) _ ∙ go_jump_free c p.de.k4 (lab c p.de) p.st

abbrev pub not_a : Taken Value → Taken Value
not_a a = taken (truth (not (is_true a.gives))) a.steps

not_cmp : (a d : Bool) → agrees a (not d) ≡ not (agrees a d)
not_cmp true d = refl
not_cmp false true = refl
not_cmp false false = refl

module _ (Γ : Setting) where
  tset_went : (c : Bool) (m r n : ℕ) (s : St) (R R' : Regs) (h : Hist) (a : Taken Value) → (m ≡ 0 → ⊥) → C Γ s ≡ at (Z s) R' h → Agree n R R' → taken (R' r) h ≡ a →
      Went c m (Z (push (br (tset r c) (lbl m)) s)) (C Γ (push (br (tset r c) (lbl m)) s)) n R a
  tset_went c m r n s R R' h a m0 q ag w = go (agrees (is_true (R' r)) c) refl
    where
      go : (k : Bool) → agrees (is_true (R' r)) c ≡ k → Went c m (Z (push (br (tset r c) (lbl m)) s)) (C Γ (push (br (tset r c) (lbl m)) s)) n R a
      go true e = gone (some r) R' (R' r) h (push_at Γ (br (tset r c) (lbl m)) s R' h m0 q ∙ rw e refl) ag (agrees_true (is_true (R' r)) c e) refl w
      go false e = through R' (R' r) h (push_at Γ (br (tset r c) (lbl m)) s R' h m0 q ∙ rw (e, size_push Γ (br (tset r c) (lbl m)) s) refl) ag e w

  test_went : (c : Bool) (m r n : ℕ) (s : St) (R R' : Regs) (h : Hist) (a : Taken Value) → (m ≡ 0 → ⊥) → C Γ s ≡ at (Z s) R' h → Agree n R R' → taken (truth (not (is_true (R' r)))) h ≡ a →
      Went c m (Z (push (br (test r (not c)) (lbl m)) s)) (C Γ (push (br (test r (not c)) (lbl m)) s)) n R a
  test_went c m r n s R R' h a m0 q ag w = go (agrees (is_true (R' r)) (not c)) refl
    where
      go : (k : Bool) → agrees (is_true (R' r)) (not c) ≡ k → Went c m (Z (push (br (test r (not c)) (lbl m)) s)) (C Γ (push (br (test r (not c)) (lbl m)) s)) n R a
      go true e = gone none R' (truth (not (is_true (R' r)))) h (push_at Γ (br (test r (not c)) (lbl m)) s R' h m0 q ∙ rw e refl) ag (ap not (agrees_true (is_true (R' r)) (not c) e) ∙ not-not c)
          (ap truth (sym (ap not (agrees_true (is_true (R' r)) (not c) e) ∙ not-not c))) w
      go false e = through R' (truth (not (is_true (R' r)))) h (push_at Γ (br (test r (not c)) (lbl m)) s R' h m0 q ∙ rw (e, size_push Γ (br (test r (not c)) (lbl m)) s) refl) ag
          (not_agrees (is_true (R' r)) c ∙ e) w

  cmp_went : (c : Bool) (o : StepKind) (d : Bool) (x y : Rk) (m n : ℕ) (s : St) (R R' : Regs) (h h' : Hist) (a : Taken Value) → (m ≡ 0 → ⊥) → C Γ s ≡ at (Z s) R' h → Agree n R R' → h' ≡ (compared Γ o x y R' h).steps →
      taken (truth (agrees (Γ.world.holds h') d)) h' ≡ a → Went c m (Z (push (br (cmp o (agrees d c) x y) (lbl m)) s)) (C Γ (push (br (cmp o (agrees d c) x y) (lbl m)) s)) n R a
  cmp_went c o d x y m n s R R' h h' a m0 q ag eh w = go (agrees (Γ.world.holds h') (agrees d c)) refl
    where
      go : (k : Bool) → agrees (Γ.world.holds h') (agrees d c) ≡ k → Went c m (Z (push (br (cmp o (agrees d c) x y) (lbl m)) s)) (C Γ (push (br (cmp o (agrees d c) x y) (lbl m)) s)) n R a
      go true e = gone none R' (truth (agrees (Γ.world.holds h') d)) h' (push_at Γ (br (cmp o (agrees d c) x y) (lbl m)) s R' h m0 q ∙ rw (← eh, e) refl) ag
          (agrees_true (agrees (Γ.world.holds h') d) c (agrees_assoc (Γ.world.holds h') d c ∙ e)) (ap truth (sym (agrees_true (agrees (Γ.world.holds h') d) c (agrees_assoc (Γ.world.holds h') d c ∙ e)))) w
      go false e = through R' (truth (agrees (Γ.world.holds h') d)) h' (push_at Γ (br (cmp o (agrees d c) x y) (lbl m)) s R' h m0 q ∙ rw (← eh, e, size_push Γ (br (cmp o (agrees d c) x y) (lbl m)) s) refl) ag
          (agrees_assoc (Γ.world.holds h') d c ∙ e) w

  load_went : (c : Bool) (k : K4) (m n : ℕ) (s : St) (R R' : Regs) (h : Hist) → is_cmp k ≡ false → (m ≡ 0 → ⊥) → n ≤ s.free → NilOk Γ k n → C Γ s ≡ at (Z s) R' h → Agree n R R' →
      Went c m (Z (on_load c k m s)) (C Γ (on_load c k m s)) n R (finish4 Γ k R' h)
  unfolding on_load
  load_went c k m n s R R' h z m0 l nk q ag = let d = d2r_at Γ k m s.free n s R R' h z l nk q ag in
      tset_went c m s.free n (d2r k m s.free s) R d.rg d.hs (finish4 Γ k R' h) m0 d.is d.kept d.got

  on_load_pass : (c : Bool) (k : K4) (m : ℕ) (s : St) (ℓ : ℕ) (b : Option ℕ) (R : Regs) (h : Hist) → (m ≡ 0 → ⊥) → C Γ s ≡ exit ℓ b R h → C Γ (on_load c k m s) ≡ exit ℓ b R h
  unfolding on_load
  on_load_pass c k m s ℓ b R h m0 q = push_pass Γ _ (d2r k m s.free s) ℓ b R h m0 (d2r_pass Γ k m s.free s ℓ b R h m0 q)

  on_x_at : (c : Bool) (x : Ex) (m n : ℕ) (s : St) (R R' : Regs) (h : Hist) → (m ≡ 0 → ⊥) → n ≤ s.free → C Γ s ≡ at (Z s) R' h → Agree n R R' → Went c m (Z (on_x c x m s)) (C Γ (on_x c x m s)) n R (finish4 Γ (kx x) R' h)
  unfolding on_x finish4 eval
  on_x_at c (val v) m n s R R' h m0 l q ag = load_went c (kx (val v)) m n s R R' h refl m0 l tt q ag
  on_x_at c (cp r) m n s R R' h m0 l q ag = load_went c (kx (cp r)) m n s R R' h refl m0 l tt q ag
  on_x_at c (glob k) m n s R R' h m0 l q ag = load_went c (kx (glob k)) m n s R R' h refl m0 l tt q ag
  on_x_at c (idx t k) m n s R R' h m0 l q ag = load_went c (kx (idx t k)) m n s R R' h refl m0 l tt q ag
  on_x_at c (ari o x y) m n s R R' h m0 l q ag = load_went c (kx (ari o x y)) m n s R R' h refl m0 l tt q ag
  on_x_at c (neg r) m n s R R' h m0 l q ag = load_went c (kx (neg r)) m n s R R' h refl m0 l tt q ag
  on_x_at c (len r) m n s R R' h m0 l q ag = load_went c (kx (len r)) m n s R R' h refl m0 l tt q ag
  on_x_at c (notx r) m n s R R' h m0 l q ag = test_went c m r n s R R' h (taken (truth (not (is_true (R' r)))) h) m0 q ag refl
  on_x_at c (cat b k) m n s R R' h m0 l q ag = load_went c (kx (cat b k)) m n s R R' h refl m0 l tt q ag
  on_x_at c vfst m n s R R' h m0 l q ag = load_went c (kx vfst) m n s R R' h refl m0 l tt q ag

  on_x_pass : (c : Bool) (x : Ex) (m : ℕ) (s : St) (ℓ : ℕ) (u : Option ℕ) (R : Regs) (h : Hist) → (m ≡ 0 → ⊥) → C Γ s ≡ exit ℓ u R h → C Γ (on_x c x m s) ≡ exit ℓ u R h
  unfolding on_x
  on_x_pass c (val v) m s ℓ u R h m0 q = on_load_pass c (kx (val v)) m s ℓ u R h m0 q
  on_x_pass c (cp r) m s ℓ u R h m0 q = on_load_pass c (kx (cp r)) m s ℓ u R h m0 q
  on_x_pass c (glob k) m s ℓ u R h m0 q = on_load_pass c (kx (glob k)) m s ℓ u R h m0 q
  on_x_pass c (idx t k) m s ℓ u R h m0 q = on_load_pass c (kx (idx t k)) m s ℓ u R h m0 q
  on_x_pass c (ari o x y) m s ℓ u R h m0 q = on_load_pass c (kx (ari o x y)) m s ℓ u R h m0 q
  on_x_pass c (neg r) m s ℓ u R h m0 q = on_load_pass c (kx (neg r)) m s ℓ u R h m0 q
  on_x_pass c (len r) m s ℓ u R h m0 q = on_load_pass c (kx (len r)) m s ℓ u R h m0 q
  on_x_pass c (notx r) m s ℓ u R h m0 q = push_pass Γ (br (test r (not c)) (lbl m)) s ℓ u R h m0 q
  on_x_pass c (cat b k) m s ℓ u R h m0 q = on_load_pass c (kx (cat b k)) m s ℓ u R h m0 q
  on_x_pass c vfst m s ℓ u R h m0 q = on_load_pass c (kx vfst) m s ℓ u R h m0 q

  go_con_at : (k u c : Bool) (v : Constant) (m n : ℕ) (s : St) (R R' : Regs) (h : Hist) → agrees (is_true (value_of v)) c ≡ k → is_bool v ≡ u → (m ≡ 0 → ⊥) → n ≤ s.free → Γ.active ≤ n → C Γ s ≡ at (Z s) R' h → Agree n R R' →
      Went c m (Z (go_con k u c v m s)) (C Γ (go_con k u c v m s)) n R (taken (value_of v) h)
  unfolding finish4
  go_con_at false u c v m n s R R' h z y m0 l na q ag = through R' (value_of v) h q ag z refl
  go_con_at true true c v m n s R R' h z y m0 l na q ag = gone none R' (value_of v) h (jump_at Γ m s R' h m0 q) ag (agrees_true (is_true (value_of v)) c z) (is_bool_val v c y (agrees_true (is_true (value_of v)) c z)) refl
  go_con_at true false c v m n s R R' h z y m0 l na q ag = load_went c (kc v) m n s R R' h refl m0 l na q ag

  go_con_pass : (k u c : Bool) (v : Constant) (m : ℕ) (s : St) (ℓ : ℕ) (b : Option ℕ) (R : Regs) (h : Hist) → (m ≡ 0 → ⊥) → C Γ s ≡ exit ℓ b R h → C Γ (go_con k u c v m s) ≡ exit ℓ b R h
  go_con_pass false u c v m s ℓ b R h m0 q = q
  go_con_pass true true c v m s ℓ b R h m0 q = jump_pass Γ m s ℓ b R h m0 q
  go_con_pass true false c v m s ℓ b R h m0 q = on_load_pass c (kc v) m s ℓ b R h m0 q

  pub go_jump_at : (c : Bool) (k : K4) (m n : ℕ) (s : St) (R R' : Regs) (h : Hist) → (m ≡ 0 → ⊥) → n ≤ s.free → Γ.active ≤ n → C Γ s ≡ at (Z s) R' h → Agree n R R' →
      Went c m (Z (go_jump c k m s)) (C Γ (go_jump c k m s)) n R (finish4 Γ k R' h)
  unfolding go_jump finish4 cur_c CC
  go_jump_at c (kc v) m n s R R' h m0 l na q ag = go_con_at (agrees (is_true (value_of v)) c) (is_bool v) c v m n s R R' h refl refl m0 l na q ag
  go_jump_at c (kr u r) m n s R R' h m0 l na q ag = tset_went c m r n s R R' h (taken (R' r) h) m0 q ag refl
  go_jump_at c (kx x) m n s R R' h m0 l na q ag = on_x_at c x m n s R R' h m0 l q ag
  go_jump_at c (kj o d x y) m n s R R' h m0 l na q ag = cmp_went c o d x y m n s R R' h (compared Γ o x y R' h).steps (finish4 Γ (kj o d x y) R' h) m0 q ag refl refl

  pub go_jump_pass : (c : Bool) (k : K4) (m : ℕ) (s : St) (ℓ : ℕ) (b : Option ℕ) (R : Regs) (h : Hist) → (m ≡ 0 → ⊥) → C Γ s ≡ exit ℓ b R h → C Γ (go_jump c k m s) ≡ exit ℓ b R h
  unfolding go_jump cur_c CC
  go_jump_pass c (kc v) m s ℓ b R h m0 q = go_con_pass (agrees (is_true (value_of v)) c) (is_bool v) c v m s ℓ b R h m0 q
  go_jump_pass c (kr u r) m s ℓ b R h m0 q = push_pass Γ (br (tset r c) (lbl m)) s ℓ b R h m0 q
  go_jump_pass c (kx x) m s ℓ b R h m0 q = on_x_pass c x m s ℓ b R h m0 q
  go_jump_pass c (kj o d x y) m s ℓ b R h m0 q = push_pass Γ (br (cmp o (agrees d c) x y) (lbl m)) s ℓ b R h m0 q

  pub here_went : (c : Bool) (e : Des4) (L : Lab₀ e) (n : ℕ) (s : St) (R : Regs) (a : Taken Value) → Went c (lab c e) (Z s) (C Γ s) n R a →
      Went c (lab c e) (Z (labelled_to_here (lab (not c) e) s)) (C Γ (labelled_to_here (lab (not c) e) s)) n R a
  here_went c e L n s R a (through R' v h q ag z w) = through R' v h (here_at Γ (lab (not c) e) s R' h (lab_0 (not c) e L) q) ag z w
  here_went c e L n s R a (gone b R' v h q ag z y w) = gone b R' v h (here_pass Γ (lab (not c) e) s (lab c e) b R' h (lab_0 (not c) e L) (lab_ne c e L) q) ag z y w

  pub here_left : (c d : Bool) (e : Des4) (L : Lab₀ e) (n : ℕ) (s : St) (b : Option ℕ) (R R' : Regs) (v : Value) (h : Hist) (a : Taken Value) → C Γ s ≡ exit (lab d e) b R' h → Agree n R R' → is_true v ≡ d → carried b R' d ≡ v → taken v h ≡ a →
      Went c (lab c e) (Z (labelled_to_here (lab (not c) e) s)) (C Γ (labelled_to_here (lab (not c) e) s)) n R a
  here_left true true e L n s b R R' v h a q ag z w y = gone b R' v h (here_pass Γ e.fl s e.tl b R' h L.f0 (λ x. L.ft (sym x)) q) ag z w y
  here_left false false e L n s b R R' v h a q ag z w y = gone b R' v h (here_pass Γ e.tl s e.fl b R' h L.t0 L.ft q) ag z w y
  here_left true false e L n s b R R' v h a q ag z w y = through R' v h (here_hit Γ e.fl s b R' h L.f0 q) ag (rw z refl) y
  here_left false true e L n s b R R' v h a q ag z w y = through R' v h (here_hit Γ e.tl s b R' h L.t0 q) ag (rw z refl) y

  -- the operand of a Not that is emitted
  pub record Nots (s : St) (k : K4) (n : ℕ) (R : Regs) (a : Taken Value) : Type 0 where
    pub rg : Regs
    pub hs : Hist
    pub is : C Γ s ≡ at (Z s) rg hs
    pub kept : Agree n R rg
    pub got : finish4 Γ k rg hs ≡ a

  nots : (k : K4) (n : ℕ) (s : St) (R R' : Regs) (h : Hist) → n ≤ s.free → C Γ s ≡ at (Z s) R' h → Agree n R R' → Nots (not_s k s) (not_k k s.free) n R (not_a (finish4 Γ k R' h))
  unfolding finish4 eval not_s
  nots (kc v) n s R R' h l q ag = record { rg = R'; hs = h; is = q; kept = ag; got = refl }
  nots (kr u r) n s R R' h l q ag = record { rg = R'; hs = h; is = flush_at Γ s R' h q; kept = ag; got = refl }
  nots (kx x) n s R R' h l q ag = let d = d2r_at Γ (kx x) 0 s.free n s R R' h refl l tt q ag in record { rg = d.rg; hs = d.hs; is = d.is; kept = d.kept; got = ap not_a d.got }
  nots (kj o d x y) n s R R' h l q ag = record { rg = R'; hs = h; is = q; kept = ag; got = rw (not_cmp (Γ.world.holds (compared Γ o x y R' h).steps) d) refl }

  pub nots_pass : (k : K4) (s : St) (ℓ : ℕ) (b : Option ℕ) (R : Regs) (h : Hist) → C Γ s ≡ exit ℓ b R h → C Γ (not_s k s) ≡ exit ℓ b R h
  unfolding d2r not_s
  nots_pass (kc v) s ℓ b R h q = q
  nots_pass (kr u r) s ℓ b R h q = flush_exit Γ s ℓ b R h q
  nots_pass (kx x) s ℓ b R h q = push_pass Γ (pl (setw s.free x)) s ℓ b R h tt q
  nots_pass (kj o d x y) s ℓ b R h q = q

  pub not_res : (p : Par4) (n : ℕ) (R : Regs) (a : Taken Value) → Lab₀ p.de → n ≤ p.st.free → Res4 Γ p.de (Z p.st) (C Γ p.st) n R a → Res4 Γ (labelled_code_not p).de (Z (labelled_code_not p).st) (C Γ (labelled_code_not p).st) n R (not_a a)
  unfolding labelled_code_not
  not_res p n R a L l (fell R' h q ag w) = let d = nots p.de.k4 n p.st R R' h l q ag in
      fell d.rg d.hs (strip_at Γ p.de.fl _ d.rg d.hs L.f0 (strip_at Γ p.de.tl _ d.rg d.hs L.t0 d.is)) d.kept (d.got ∙ ap not_a w)
  not_res p n R a L l (left true b R' v h q ag z w y) = left false none R' (truth (not (is_true v))) h
      (strip_pass Γ p.de.fl _ p.de.tl none R' h L.f0 (λ x. L.ft (sym x)) (strip_hit Γ p.de.tl _ b R' h L.t0 (nots_pass p.de.k4 p.st p.de.tl b R' h q))) ag (rw z refl) (rw z refl) (ap not_a y)
  not_res p n R a L l (left false b R' v h q ag z w y) = left true none R' (truth (not (is_true v))) h
      (strip_hit Γ p.de.fl _ b R' h L.f0 (strip_pass Γ p.de.tl _ p.de.fl b R' h L.t0 L.ft (nots_pass p.de.k4 p.st p.de.fl b R' h q))) ag (rw z refl) (rw z refl) (ap not_a y)
