-- The outcome of code, and the invariant of `LoadNil`: where the last word is a `LoadNil`, whoever falls off the end has carried it out, else the outcome counts as stuck. So one equation, `C s ≡ at ..`,
-- says both. Words pushed, edits, jumps and lists keep it, since edits touch no plain word.
use Rattle.std.specs.Prelude.{ℕ, ◌+◌, ◌≤◌, ◌<◌, Bool, not, ◌||◌, ◌&&◌, ◌≡◌}
use Rattle.std.proofs.Math.Bool.{true, false}
use Rattle.std.proofs.Math.Path.{refl, ap}
use Rattle.std.proofs.Common.{sym, ◌∙◌}
use mathlib.Core.List.{[], ◌∷◌}
use Rattle.std.proofs.Math.Option.{Option, some, none}
use native.Mathlib.Omega.{arith as nat}
use Rattle.constants.specs.Entry.{nil as knil}
use Rattle.model.specs.Values.{Value, truth}
use Rattle.labelled.specs.Code.{same, same_ne, same_refl, Ctrl, always, test, tset, tseta, cmp, to, lbl, setw, lbs, mark, nilw, callw, selfw, Instr, pl, br, Code, size, Act, keep, land, re, ed_br, edit}
use Rattle.labelled.specs.Machine.{Hist, Regs, Setting, upd, upd_other, Outcome, at, exit, stuck, post, Past, perform, exec}
use Rattle.labelled.specs.Edits.{size_edit, past_mono, step_mark, exec_edit}
use Rattle.labelled.specs.Emission.{St, one, here, flush, push, labelled_emit_jump, relabel, strip, hit, here_if, labelled_to_here}
use Rattle.labelled.specs.Discharge.{kc, Des4, lab}
use Rattle.labelled.specs.Outcomes.{past_one, Named, is_some, cur_c, cur, cur_push, cur_flush, exec_flush, size_flush, size_relabel, size_strip, cur_relabel, cur_strip, cur_here, cur_emit_jump, shows_cur}

-- two files of registers agree below n
abbrev pub Agree : ℕ → Regs → Regs → Type 0
Agree n R R' = (k : ℕ) → k < n → R' k ≡ R k

pub agree_upd : (n : ℕ) (R R' : Regs) (r : ℕ) (v : Value) → n ≤ r → Agree n R R' → Agree n R (upd r v R')
agree_upd n R R' r v l q k m = upd_other r v R' k (λ e. omega nat) ∙ q k m

pub agree_trans : (n m : ℕ) (R R' R'' : Regs) → n ≤ m → Agree n R R' → Agree m R' R'' → Agree n R R''
agree_trans n m R R' R'' l p q k h = q k (omega nat) ∙ p k h

-- the value that a pending jump brings: in a register, or the truth that it stands for
abbrev pub carried : Option ℕ → Regs → Bool → Value
carried none R c = truth c
carried (some b) R c = R b

abbrev pub is_at : ℕ → Outcome → Bool
is_at n (at p R h) = same p n
is_at n (exit ℓ b R h) = false
is_at n stuck = false

abbrev pub tag : Bool → Outcome → Outcome
tag true o = o
tag false (at p R h) = stuck
tag false (exit ℓ b R h) = exit ℓ b R h
tag false stuck = stuck

tag_at : (t : Bool) (o : Outcome) (p : ℕ) (R : Regs) (h : Hist) → tag t o ≡ at p R h → (t ≡ true) × (o ≡ at p R h)
tag_at true o p R h e = (refl, e)
tag_at false (at q S k) p R h e = absurd (let z : ◌≡◌ {A = ℕ} 0 1 = cc in omega nat)
tag_at false (exit ℓ b S k) p R h e = absurd (let z : ◌≡◌ {A = ℕ} 0 1 = cc in omega nat)
tag_at false stuck p R h e = absurd (let z : ◌≡◌ {A = ℕ} 0 1 = cc in omega nat)

tag_exit : (t : Bool) (o : Outcome) (ℓ : ℕ) (b : Option ℕ) (R : Regs) (h : Hist) → tag t o ≡ exit ℓ b R h → o ≡ exit ℓ b R h
tag_exit true o ℓ b R h e = e
tag_exit false (at q S k) ℓ b R h e = absurd (let z : ◌≡◌ {A = ℕ} 0 1 = cc in omega nat)
tag_exit false (exit m d S k) ℓ b R h e = e
tag_exit false stuck ℓ b R h e = e

tag_out : (t : Bool) (ℓ : ℕ) (b : Option ℕ) (R : Regs) (h : Hist) → tag t (exit ℓ b R h) ≡ exit ℓ b R h
tag_out true ℓ b R h = refl
tag_out false ℓ b R h = refl

pub is_at_of : (n : ℕ) (o : Outcome) (R : Regs) (h : Hist) → o ≡ at n R h → is_at n o ≡ true
is_at_of n o R h e = rw e (same_refl n)

at_post : (g : ℕ → Act) (n : ℕ) (o : Outcome) → is_at n o ≡ true → is_at n (post g o) ≡ true
at_post g n (at p R h) w = w
at_post g n (exit ℓ b R h) w = absurd (let z : ◌≡◌ {A = ℕ} 0 1 = cc in omega nat)
at_post g n stuck w = w

past_re : (n a b : ℕ) (t : Bool) (ℓ : ℕ) → Past n (one a (re b t) ℓ)
past_re n a b t ℓ = past_one n a (re b t) tt ℓ

-- the place of the word to come
abbrev pub Z : St → ℕ
Z s = size s.code

pub true≢false : true ≡ false → ⊥
true≢false q = let z : ◌≡◌ {A = ℕ} 0 1 = cc in omega nat

abbrev pub Keeps : St → St → Type 0
Keeps s s' = (s'.free ≡ s.free) × (s'.nxt ≡ s.nxt)

lab_hit : (c : Bool) (e : Des4) → (same (lab c e) e.tl || same (lab c e) e.fl) ≡ true
lab_hit true e = rw (same_refl e.tl) refl
lab_hit false e = go (same e.fl e.tl)
  where
    go : (u : Bool) → (u || same e.fl e.fl) ≡ true
    go true = refl
    go false = same_refl e.fl

mark_z : (m : ℕ) (s : St) → Z (here_if true m s) ≡ Z s
unfolding size
mark_z m s = rw (size_edit (one m (re 0 false)) s.code) (omega nat)

pub here_nxt : (m : ℕ) (s : St) → (labelled_to_here m s).nxt ≡ s.nxt
unfolding labelled_to_here
here_nxt m s = go (hit false m m s.code)
  where
    go : (t : Bool) → (here_if t m s).nxt ≡ s.nxt
    go true = refl
    go false = refl

pub here_free : (m : ℕ) (s : St) → (labelled_to_here m s).free ≡ s.free
unfolding labelled_to_here
here_free m s = go (hit false m m s.code)
  where
    go : (t : Bool) → (here_if t m s).free ≡ s.free
    go true = refl
    go false = refl

pub flush_keeps : (s : St) → Keeps s (flush s)
unfolding flush
flush_keeps s = (refl, refl)

module _ (Γ : Setting) where
  abbrev pub tight : Code → Outcome → Outcome
  tight [] o = o
  tight (pl (setw a x) ∷ c) o = o
  tight (pl (lbs a x) ∷ c) o = o
  tight (pl mark ∷ c) o = o
  tight (pl (nilw a k) ∷ c) o = tag (is_at (size c) (exec Γ c)) o
  tight (pl (callw x) ∷ c) o = o
  tight (pl (selfw a x y) ∷ c) o = o
  tight (br x y ∷ c) o = o

  -- the outcome, where a last LoadNil has been carried out by whoever falls off the end
  unfoldable pub CC : Code → Outcome
  CC c = tight c (cur_c Γ c)

  abbrev pub C : St → Outcome
  C s = CC s.code

  -- the last word is no `LoadNil`, or the run came to it
  abbrev pub Firm : Code → Type 0
  Firm [] = Unit {0}
  Firm (pl (setw a x) ∷ c) = Unit {0}
  Firm (pl (lbs a x) ∷ c) = Unit {0}
  Firm (pl mark ∷ c) = Unit {0}
  Firm (pl (nilw a k) ∷ c) = is_at (size c) (exec Γ c) ≡ true
  Firm (pl (callw x) ∷ c) = Unit {0}
  Firm (pl (selfw a x y) ∷ c) = Unit {0}
  Firm (br x y ∷ c) = Unit {0}

  tight_firm : (c : Code) (o : Outcome) → Firm c → tight c o ≡ o
  tight_firm [] o w = refl
  tight_firm (pl (setw a x) ∷ c) o w = refl
  tight_firm (pl (lbs a x) ∷ c) o w = refl
  tight_firm (pl mark ∷ c) o w = refl
  tight_firm (pl (nilw a k) ∷ c) o w = rw w refl
  tight_firm (pl (callw x) ∷ c) o w = refl
  tight_firm (pl (selfw a x y) ∷ c) o w = refl
  tight_firm (br x y ∷ c) o w = refl

  pub firm_C : (s : St) → Firm s.code → C s ≡ cur Γ s
  unfolding CC
  firm_C s w = tight_firm s.code (cur Γ s) w

  tight_at : (c : Code) (o : Outcome) (p : ℕ) (R : Regs) (h : Hist) → tight c o ≡ at p R h → Firm c × (o ≡ at p R h)
  tight_at [] o p R h e = (tt, e)
  tight_at (pl (setw a x) ∷ c) o p R h e = (tt, e)
  tight_at (pl (lbs a x) ∷ c) o p R h e = (tt, e)
  tight_at (pl mark ∷ c) o p R h e = (tt, e)
  tight_at (pl (nilw a k) ∷ c) o p R h e = tag_at (is_at (size c) (exec Γ c)) o p R h e
  tight_at (pl (callw x) ∷ c) o p R h e = (tt, e)
  tight_at (pl (selfw a x y) ∷ c) o p R h e = (tt, e)
  tight_at (br x y ∷ c) o p R h e = (tt, e)

  tight_exit : (c : Code) (o : Outcome) (ℓ : ℕ) (b : Option ℕ) (R : Regs) (h : Hist) → tight c o ≡ exit ℓ b R h → o ≡ exit ℓ b R h
  tight_exit [] o ℓ b R h e = e
  tight_exit (pl (setw a x) ∷ c) o ℓ b R h e = e
  tight_exit (pl (lbs a x) ∷ c) o ℓ b R h e = e
  tight_exit (pl mark ∷ c) o ℓ b R h e = e
  tight_exit (pl (nilw a k) ∷ c) o ℓ b R h e = tag_exit (is_at (size c) (exec Γ c)) o ℓ b R h e
  tight_exit (pl (callw x) ∷ c) o ℓ b R h e = e
  tight_exit (pl (selfw a x y) ∷ c) o ℓ b R h e = e
  tight_exit (br x y ∷ c) o ℓ b R h e = e

  tight_out : (c : Code) (ℓ : ℕ) (b : Option ℕ) (R : Regs) (h : Hist) → tight c (exit ℓ b R h) ≡ exit ℓ b R h
  tight_out [] ℓ b R h = refl
  tight_out (pl (setw a x) ∷ c) ℓ b R h = refl
  tight_out (pl (lbs a x) ∷ c) ℓ b R h = refl
  tight_out (pl mark ∷ c) ℓ b R h = refl
  tight_out (pl (nilw a k) ∷ c) ℓ b R h = tag_out (is_at (size c) (exec Γ c)) ℓ b R h
  tight_out (pl (callw x) ∷ c) ℓ b R h = refl
  tight_out (pl (selfw a x y) ∷ c) ℓ b R h = refl
  tight_out (br x y ∷ c) ℓ b R h = refl

  pub from_at : (s : St) (p : ℕ) (R : Regs) (h : Hist) → C s ≡ at p R h → cur Γ s ≡ at p R h
  unfolding CC
  from_at s p R h e = (tight_at s.code (cur Γ s) p R h e).1

  pub firm_of : (s : St) (p : ℕ) (R : Regs) (h : Hist) → C s ≡ at p R h → Firm s.code
  unfolding CC
  firm_of s p R h e = (tight_at s.code (cur Γ s) p R h e).0

  pub from_exit : (s : St) (ℓ : ℕ) (b : Option ℕ) (R : Regs) (h : Hist) → C s ≡ exit ℓ b R h → cur Γ s ≡ exit ℓ b R h
  unfolding CC
  from_exit s ℓ b R h e = tight_exit s.code (cur Γ s) ℓ b R h e

  pub to_exit : (s : St) (ℓ : ℕ) (b : Option ℕ) (R : Regs) (h : Hist) → cur Γ s ≡ exit ℓ b R h → C s ≡ exit ℓ b R h
  unfolding CC
  to_exit s ℓ b R h e = rw e (tight_out s.code ℓ b R h)

  firm_push : (i : Instr) (s : St) (R : Regs) (h : Hist) → cur Γ s ≡ at (size s.code) R h → Firm (push i s).code
  unfolding push flush
  firm_push (pl (setw a x)) s R h e = tt
  firm_push (pl (lbs a b)) s R h e = tt
  firm_push (pl mark) s R h e = tt
  firm_push (pl (nilw a k)) s R h e = is_at_of (size (edit (here s.code) s.code)) _ R h (exec_flush Γ s ∙ e ∙ ap (λ z. at z R h) (sym (size_edit (here s.code) s.code)))
  firm_push (pl (callw t)) s R h e = tt
  firm_push (pl (selfw a b c)) s R h e = tt
  firm_push (br c t) s R h e = tt

  firm_br : (a : Act) (d : Ctrl) (ℓ : ℕ) (c : Code) → Firm (ed_br a d ℓ ∷ c)
  firm_br keep d ℓ c = tt
  firm_br (land v r t) always ℓ c = tt
  firm_br (land v r t) (test x y) ℓ c = tt
  firm_br (land v r t) (tset x y) ℓ c = tt
  firm_br (land v r t) (tseta x y u) ℓ c = tt
  firm_br (land v r t) (cmp o y x u) ℓ c = tt
  firm_br (re m false) d ℓ c = tt
  firm_br (re m true) always ℓ c = tt
  firm_br (re m true) (test x y) ℓ c = tt
  firm_br (re m true) (tset x y) ℓ c = tt
  firm_br (re m true) (tseta x y u) ℓ c = tt
  firm_br (re m true) (cmp o y x u) ℓ c = tt

  firm_edit : (g : ℕ → Act) (c : Code) → ((ℓ : ℕ) → Past (size c) (g ℓ)) → Firm c → Firm (edit g c)
  unfolding edit size
  firm_edit g [] l w = tt
  firm_edit g (pl (setw a x) ∷ c) l w = tt
  firm_edit g (pl (lbs a b) ∷ c) l w = tt
  firm_edit g (pl mark ∷ c) l w = tt
  firm_edit g (pl (nilw a k) ∷ c) l w = rw (size_edit g c, exec_edit Γ g c (λ ℓ. past_mono (size c) (1 + size c) (g ℓ) (omega nat) (l ℓ))) (at_post g (size c) (exec Γ c) w)
  firm_edit g (pl (callw t) ∷ c) l w = tt
  firm_edit g (pl (selfw a b d) ∷ c) l w = tt
  firm_edit g (br d (to p) ∷ c) l w = tt
  firm_edit g (br d (lbl ℓ) ∷ c) l w = firm_br (g ℓ) d ℓ (edit g c)

  pub push_at : (i : Instr) (s : St) (R : Regs) (h : Hist) → Named i → C s ≡ at (Z s) R h → C (push i s) ≡ perform Γ i (Z s) R h
  push_at i s R h q e = firm_C (push i s) (firm_push i s R h (from_at s (Z s) R h e)) ∙ rw (cur_push Γ i s q, from_at s (Z s) R h e) (rw (same_refl (Z s)) refl)

  pub push_pass : (i : Instr) (s : St) (ℓ : ℕ) (b : Option ℕ) (R : Regs) (h : Hist) → Named i → C s ≡ exit ℓ b R h → C (push i s) ≡ exit ℓ b R h
  push_pass i s ℓ b R h q e = to_exit (push i s) ℓ b R h (rw (cur_push Γ i s q, from_exit s ℓ b R h e) refl)

  -- a jump of the lists is pending, so the scan finds one
  pub scan : (vals : Bool) (e : Des4) (s : St) (c : Bool) (b : Option ℕ) (R : Regs) (h : Hist) → hit vals e.tl e.fl s.code ≡ false → C s ≡ exit (lab c e) b R h → not (vals && is_some b) ≡ false
  scan vals e s c b R h q w = rw (lab_hit c e) at (rw (from_exit s (lab c e) b R h w) at (shows_cur Γ vals e.tl e.fl s q))

  pub jump_pass : (j : ℕ) (s : St) (ℓ : ℕ) (b : Option ℕ) (R : Regs) (h : Hist) → (j ≡ 0 → ⊥) → C s ≡ exit ℓ b R h → C (labelled_emit_jump j s) ≡ exit ℓ b R h
  jump_pass j s ℓ b R h q e = to_exit (labelled_emit_jump j s) ℓ b R h (rw (cur_emit_jump Γ j s q, from_exit s ℓ b R h e) refl)

  pub jump_at : (j : ℕ) (s : St) (R : Regs) (h : Hist) → (j ≡ 0 → ⊥) → C s ≡ at (Z s) R h → C (labelled_emit_jump j s) ≡ exit j none R h
  jump_at j s R h q e = to_exit (labelled_emit_jump j s) j none R h (rw (cur_emit_jump Γ j s q, from_at s (Z s) R h e) (rw (same_refl (Z s)) refl))

  -- patch_to_here
  mark_c : (m : ℕ) (s : St) → C (here_if true m s) ≡ cur Γ (relabel m 0 s)
  unfolding CC cur_c relabel exec size
  mark_c m s = let z : 0 + size (edit (one m (re 0 false)) s.code) ≡ size (edit (one m (re 0 false)) s.code) = omega nat in
      rw (z, step_mark Γ (size (edit (one m (re 0 false)) s.code)) (exec Γ (edit (one m (re 0 false)) s.code))) refl

  pub here_at : (m : ℕ) (s : St) (R : Regs) (h : Hist) → (m ≡ 0 → ⊥) → C s ≡ at (Z s) R h → C (labelled_to_here m s) ≡ at (Z (labelled_to_here m s)) R h
  unfolding labelled_to_here
  here_at m s R h m0 q = go (hit false m m s.code)
    where
      go : (t : Bool) → C (here_if t m s) ≡ at (Z (here_if t m s)) R h
      go true = mark_c m s ∙ rw (cur_here Γ m s m0, from_at s (Z s) R h q) refl ∙ ap (λ z. at z R h) (sym (mark_z m s))
      go false = q

  pub here_pass : (m : ℕ) (s : St) (ℓ : ℕ) (b : Option ℕ) (R : Regs) (h : Hist) → (m ≡ 0 → ⊥) → (ℓ ≡ m → ⊥) → C s ≡ exit ℓ b R h → C (labelled_to_here m s) ≡ exit ℓ b R h
  unfolding labelled_to_here
  here_pass m s ℓ b R h m0 l q = go (hit false m m s.code)
    where
      go : (t : Bool) → C (here_if t m s) ≡ exit ℓ b R h
      go true = mark_c m s ∙ rw (cur_here Γ m s m0, from_exit s ℓ b R h q) (rw (same_ne ℓ m l) refl)
      go false = q

  pub here_hit : (m : ℕ) (s : St) (b : Option ℕ) (R : Regs) (h : Hist) → (m ≡ 0 → ⊥) → C s ≡ exit m b R h → C (labelled_to_here m s) ≡ at (Z (labelled_to_here m s)) R h
  unfolding labelled_to_here
  here_hit m s b R h m0 q = go (hit false m m s.code) b refl q
    where
      go : (t : Bool) (b : Option ℕ) → hit false m m s.code ≡ t → C s ≡ exit m b R h → C (here_if t m s) ≡ at (Z (here_if t m s)) R h
      go true none e q = mark_c m s ∙ rw (cur_here Γ m s m0, from_exit s m none R h q) (rw (same_refl m) refl) ∙ ap (λ z. at z R h) (sym (mark_z m s))
      go true (some b) e q = mark_c m s ∙ rw (cur_here Γ m s m0, from_exit s m (some b) R h q) (rw (same_refl m) refl) ∙ ap (λ z. at z R h) (sym (mark_z m s))
      go false b e q = absurd (true≢false (scan false (record { k4 = kc knil; tl = m; fl = m }) s true b R h e q))

  firm_strip : (m : ℕ) (s : St) → Firm s.code → Firm (strip m s).code
  unfolding strip
  firm_strip m s w = firm_edit (one m (re m true)) s.code (past_re (size s.code) m m true) w

  firm_relabel : (a b : ℕ) (s : St) → Firm s.code → Firm (relabel a b s).code
  unfolding relabel
  firm_relabel a b s w = firm_edit (one a (re b false)) s.code (past_re (size s.code) a b false) w

  firm_flush : (s : St) → Firm s.code → Firm (flush s).code
  unfolding flush
  firm_flush s w = firm_edit (here s.code) s.code (past_one (size s.code) 0 (land (size s.code) none (size s.code)) (omega nat)) w

  pub flush_at : (s : St) (R : Regs) (h : Hist) → C s ≡ at (Z s) R h → C (flush s) ≡ at (Z (flush s)) R h
  flush_at s R h q = firm_C (flush s) (firm_flush s (firm_of s (Z s) R h q)) ∙ cur_flush Γ s ∙ from_at s (Z s) R h q ∙ rw (size_flush Γ s) refl

  pub flush_exit : (s : St) (ℓ : ℕ) (b : Option ℕ) (R : Regs) (h : Hist) → C s ≡ exit ℓ b R h → C (flush s) ≡ exit ℓ b R h
  flush_exit s ℓ b R h q = to_exit (flush s) ℓ b R h (cur_flush Γ s ∙ from_exit s ℓ b R h q)

  pub strip_at : (m : ℕ) (s : St) (R : Regs) (h : Hist) → (m ≡ 0 → ⊥) → C s ≡ at (Z s) R h → C (strip m s) ≡ at (Z (strip m s)) R h
  strip_at m s R h m0 q = firm_C (strip m s) (firm_strip m s (firm_of s (Z s) R h q)) ∙ rw (cur_strip Γ m s m0, from_at s (Z s) R h q, size_strip Γ m s) refl

  pub strip_hit : (m : ℕ) (s : St) (b : Option ℕ) (R : Regs) (h : Hist) → (m ≡ 0 → ⊥) → C s ≡ exit m b R h → C (strip m s) ≡ exit m none R h
  strip_hit m s b R h m0 q = to_exit (strip m s) m none R h (rw (cur_strip Γ m s m0, from_exit s m b R h q) (rw (same_refl m) refl))

  pub strip_pass : (m : ℕ) (s : St) (ℓ : ℕ) (b : Option ℕ) (R : Regs) (h : Hist) → (m ≡ 0 → ⊥) → (ℓ ≡ m → ⊥) → C s ≡ exit ℓ b R h → C (strip m s) ≡ exit ℓ b R h
  strip_pass m s ℓ b R h m0 l q = to_exit (strip m s) ℓ b R h (rw (cur_strip Γ m s m0, from_exit s ℓ b R h q) (rw (same_ne ℓ m l) refl))

  pub re_at : (a b : ℕ) (s : St) (R : Regs) (h : Hist) → (a ≡ 0 → ⊥) → (b ≡ 0 → ⊥) → C s ≡ at (Z s) R h → C (relabel a b s) ≡ at (Z (relabel a b s)) R h
  re_at a b s R h a0 b0 q = firm_C (relabel a b s) (firm_relabel a b s (firm_of s (Z s) R h q)) ∙ rw (cur_relabel Γ a b s a0 b0, from_at s (Z s) R h q, size_relabel Γ a b s) refl

  pub re_hit : (a b : ℕ) (s : St) (w : Option ℕ) (R : Regs) (h : Hist) → (a ≡ 0 → ⊥) → (b ≡ 0 → ⊥) → C s ≡ exit a w R h → C (relabel a b s) ≡ exit b w R h
  re_hit a b s w R h a0 b0 q = to_exit (relabel a b s) b w R h (rw (cur_relabel Γ a b s a0 b0, from_exit s a w R h q) (rw (same_refl a) refl))

  pub re_pass : (a b : ℕ) (s : St) (ℓ : ℕ) (w : Option ℕ) (R : Regs) (h : Hist) → (a ≡ 0 → ⊥) → (b ≡ 0 → ⊥) → (ℓ ≡ a → ⊥) → C s ≡ exit ℓ w R h → C (relabel a b s) ≡ exit ℓ w R h
  re_pass a b s ℓ w R h a0 b0 l q = to_exit (relabel a b s) ℓ w R h (rw (cur_relabel Γ a b s a0 b0, from_exit s ℓ w R h q) (rw (same_ne ℓ a l) refl))
