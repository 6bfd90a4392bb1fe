-- What each operation of the labelled lowering does to the run of the code so far: one equation each, by the law of edits. `cur` is the outcome with the jumps to here landed at the end.
use Rattle.std.specs.Prelude.{ℕ, ◌+◌, ◌≤◌, Bool, true, false, not, ◌||◌, ◌&&◌, ◌≡◌}
use Rattle.std.proofs.Math.Path.{refl}
use Rattle.std.proofs.Common.{ap, sym, ◌∙◌}
use mathlib.Core.List.{[], ◌∷◌}
use Rattle.std.proofs.Math.Option.{Option, some, none}
use native.Mathlib.Omega.{arith as nat}
use Rattle.model.specs.Values.{truth, is_true}
use Rattle.model.specs.Running.{same as agrees}
use Rattle.laws.specs.Truth.{or_false}
use Rattle.labelled.specs.Code.{same, same_ne, same_true, same_false, same_refl, val, always, test, tset, tseta, cmp, Tgt, to, lbl, setw, lbs, Instr, pl, br, width, Code, size, Act, keep, land, re, edit}
use Rattle.labelled.specs.Machine.{Hist, Regs, Setting, pick, upd, Outcome, at, exit, stuck, post_a, post, Past, goto, choose, compared, perform, step_at, step, exec}
use Rattle.labelled.specs.Edits.{size_edit, step_mark, exec_edit}
use Rattle.labelled.specs.Emission.{St, one, here, flush, push, labelled_emit_jump, relabel, strip, hit1, hit}
use Rattle.labelled.specs.Discharge.{lands, pair_g, load_pair, land_all}

-- an outcome that is no pending jump to here
abbrev pub Off : Outcome → Type 0
Off (at p R h) = Unit {0}
Off (exit ℓ b R h) = ℓ ≡ 0 → ⊥
Off stuck = Unit {0}

abbrev pub NamedT : Tgt → Type 0
NamedT (to p) = Unit {0}
NamedT (lbl ℓ) = ℓ ≡ 0 → ⊥

abbrev pub Named : Instr → Type 0
Named (pl w) = Unit {0}
Named (br c t) = NamedT t

pub past_one : (n a : ℕ) (x : Act) → Past n x → (ℓ : ℕ) → Past n (one a x ℓ)
past_one n a x q ℓ = go (same ℓ a)
  where
    go : (t : Bool) → Past n (pick t x keep)
    go true = q
    go false = tt

post_off : (x : Act) (o : Outcome) → Off o → post (one 0 x) o ≡ o
post_off x (at p R h) q = refl
post_off x (exit ℓ b R h) q = rw (same_ne ℓ 0 q) refl
post_off x stuck q = refl

off_land : (t : Bool) (p : ℕ) (ℓ : ℕ) (b : Option ℕ) (R : Regs) (h : Hist) → t ≡ same ℓ 0 → Off (post_a (pick t (land p none p) keep) ℓ b R h)
off_land true p ℓ none R h e = tt
off_land true p ℓ (some b) R h e = tt
off_land false p ℓ b R h e = same_false ℓ 0 (sym e)

off_post : (p : ℕ) (o : Outcome) → Off (post (one 0 (land p none p)) o)
off_post p (at q R h) = tt
off_post p (exit ℓ b R h) = off_land (same ℓ 0) p ℓ b R h refl
off_post p stuck = tt

-- a relabelling or a stripping, then the jumps to here: the jumps to here, then the relabelling
swap_post : (a : ℕ) (x y : Act) (o : Outcome) → (a ≡ 0 → ⊥) → ((ℓ : ℕ) (b : Option ℕ) (R : Regs) (h : Hist) → post (one 0 y) (post_a x ℓ b R h) ≡ post_a x ℓ b R h) →
    ((ℓ : ℕ) (b : Option ℕ) (R : Regs) (h : Hist) → post (one a x) (post_a y ℓ b R h) ≡ post_a y ℓ b R h) →
    post (one 0 y) (post (one a x) o) ≡ post (one a x) (post (one 0 y) o)
swap_post a x y (at p R h) n q w = refl
swap_post a x y stuck n q w = refl
swap_post a x y (exit ℓ b R h) n q w = go (same ℓ a) (same ℓ 0) refl refl
  where
    go : (t u : Bool) → same ℓ a ≡ t → same ℓ 0 ≡ u → post (one 0 y) (post_a (pick (same ℓ a) x keep) ℓ b R h) ≡ post (one a x) (post_a (pick (same ℓ 0) y keep) ℓ b R h)
    go true true e f = absurd (n (sym (same_true ℓ a e) ∙ same_true ℓ 0 f))
    go true false e f = simp (e, f) (q ℓ b R h)
    go false true e f = simp (e, f) (sym (w ℓ b R h))
    go false false e f = simp (e, f)

-- relabelling to here, then the jumps to here
post_here : (a p : ℕ) (o : Outcome) → (a ≡ 0 → ⊥) → post (one 0 (land p none p)) (post (one a (re 0 false)) o) ≡ post (one a (land p none p)) (post (one 0 (land p none p)) o)
post_here a p (at q R h) n = refl
post_here a p stuck n = refl
post_here a p (exit ℓ b R h) n = go (same ℓ a) (same ℓ 0) b refl refl
  where
    go : (t u : Bool) (b : Option ℕ) → same ℓ a ≡ t → same ℓ 0 ≡ u → post (one 0 (land p none p)) (post_a (pick (same ℓ a) (re 0 false) keep) ℓ b R h) ≡ post (one a (land p none p)) (post_a (pick (same ℓ 0) (land p none p) keep) ℓ b R h)
    go true true b e f = absurd (n (sym (same_true ℓ a e) ∙ same_true ℓ 0 f))
    go true false none e f = simp (e, f, same_refl)
    go true false (some b) e f = simp (e, f, same_refl)
    go false true none e f = simp (e, f)
    go false true (some b) e f = simp (e, f)
    go false false b e f = simp (e, f)

-- an edit that lands the jumps to here where they are: it may as well be made after that
post_pre : (g : ℕ → Act) (n : ℕ) (o : Outcome) → g 0 ≡ land n none n → post g o ≡ post g (post (one 0 (land n none n)) o)
post_pre g n (at p R h) q = refl
post_pre g n stuck q = refl
post_pre g n (exit ℓ b R h) q = go (same ℓ 0) b refl
  where
    go : (t : Bool) (b : Option ℕ) → same ℓ 0 ≡ t → post_a (g ℓ) ℓ b R h ≡ post g (post_a (pick (same ℓ 0) (land n none n) keep) ℓ b R h)
    go true none e = rw (ap g (same_true ℓ 0 e) ∙ q) (rw e refl)
    go true (some b) e = rw (ap g (same_true ℓ 0 e) ∙ q) (rw e refl)
    go false b e = rw e refl

swap_lands : (t f r p : ℕ) (o : Outcome) → (t ≡ 0 → ⊥) → (f ≡ 0 → ⊥) → post (one 0 (land p none p)) (post (lands t f r p p p) o) ≡ post (lands t f r p p p) (post (one 0 (land p none p)) o)
swap_lands t f r p (at q R h) n m = refl
swap_lands t f r p stuck n m = refl
swap_lands t f r p (exit ℓ b R h) n m = go (same ℓ 0) (same ℓ t) (same ℓ f) b refl refl refl
  where
    go : (z u w : Bool) (b : Option ℕ) → same ℓ 0 ≡ z → same ℓ t ≡ u → same ℓ f ≡ w →
        post (one 0 (land p none p)) (post_a (lands t f r p p p ℓ) ℓ b R h) ≡ post (lands t f r p p p) (post_a (pick (same ℓ 0) (land p none p) keep) ℓ b R h)
    go true true w b e₁ e₂ e₃ = absurd (n (sym (same_true ℓ t e₂) ∙ same_true ℓ 0 e₁))
    go true false true b e₁ e₂ e₃ = absurd (m (sym (same_true ℓ f e₃) ∙ same_true ℓ 0 e₁))
    go true false false none e₁ e₂ e₃ = simp (e₁, e₂, e₃)
    go true false false (some b) e₁ e₂ e₃ = simp (e₁, e₂, e₃)
    go false true w none e₁ e₂ e₃ = simp (e₁, e₂)
    go false true w (some b) e₁ e₂ e₃ = simp (e₁, e₂)
    go false false true none e₁ e₂ e₃ = simp (e₁, e₂, e₃)
    go false false true (some b) e₁ e₂ e₃ = simp (e₁, e₂, e₃)
    go false false false b e₁ e₂ e₃ = simp (e₁, e₂, e₃)

-- what the scan of the code says of the outcome
abbrev pub is_some : Option ℕ → Bool
is_some none = false
is_some (some b) = true

abbrev pub Shows : Bool → ℕ → ℕ → Outcome → Type 0
Shows vals t f (at p R h) = Unit {0}
Shows vals t f stuck = Unit {0}
Shows vals t f (exit ℓ b R h) = ((same ℓ t || same ℓ f) && not (vals && is_some b)) ≡ false

module _ (Γ : Setting) where
  shows_choose : (vals : Bool) (t f : ℕ) (k : Bool) (a b : Outcome) → Shows vals t f a → Shows vals t f b → Shows vals t f (choose Γ k a b)
  shows_choose vals t f true a b x y = x
  shows_choose vals t f false a b x y = y

  shows_perform : (vals : Bool) (t f : ℕ) (i : Instr) (n : ℕ) (R : Regs) (h : Hist) → hit1 vals t f i ≡ false → Shows vals t f (perform Γ i n R h)
  shows_perform vals t f (pl w) n R h q = tt
  shows_perform vals t f (br always (to p)) n R h q = tt
  shows_perform vals t f (br always (lbl ℓ)) n R h q = q
  shows_perform vals t f (br (test b c) (to p)) n R h q = shows_choose vals t f (agrees (is_true (R b)) c) _ _ tt tt
  shows_perform vals t f (br (test b c) (lbl ℓ)) n R h q = shows_choose vals t f (agrees (is_true (R b)) c) (exit ℓ none R h) (at (2 + n) R h) q tt
  shows_perform vals t f (br (tset b c) (to p)) n R h q = shows_choose vals t f (agrees (is_true (R b)) c) _ _ tt tt
  shows_perform vals t f (br (tset b c) (lbl ℓ)) n R h q = shows_choose vals t f (agrees (is_true (R b)) c) (exit ℓ (some b) R h) (at (2 + n) R h) q tt
  shows_perform vals t f (br (tseta a b c) (to p)) n R h q = shows_choose vals t f (agrees (is_true (R b)) c) _ _ tt tt
  shows_perform vals t f (br (tseta a b c) (lbl ℓ)) n R h q = shows_choose vals t f (agrees (is_true (R b)) c) (exit ℓ none (upd a (R b) R) h) (at (2 + n) R h) q tt
  shows_perform vals t f (br (cmp o c x y) (to p)) n R h q = shows_choose vals t f (agrees (compared Γ o x y R h).gives c) _ _ tt tt
  shows_perform vals t f (br (cmp o c x y) (lbl ℓ)) n R h q = shows_choose vals t f (agrees (compared Γ o x y R h).gives c) (exit ℓ none R (compared Γ o x y R h).steps) (at (2 + n) R (compared Γ o x y R h).steps) q tt

  shows_step : (vals : Bool) (t f : ℕ) (n : ℕ) (i : Instr) (o : Outcome) → hit1 vals t f i ≡ false → Shows vals t f o → Shows vals t f (step Γ n i o)
  shows_step vals t f n i (at p R h) q w = go (same p n)
    where
      go : (k : Bool) → Shows vals t f (step_at Γ k n i p R h)
      go true = shows_perform vals t f i n R h q
      go false = tt
  shows_step vals t f n i (exit ℓ b R h) q w = w
  shows_step vals t f n i stuck q w = tt

  shows_exec : (vals : Bool) (t f : ℕ) (c : Code) → hit vals t f c ≡ false → Shows vals t f (exec Γ c)
  unfolding exec hit
  shows_exec vals t f [] q = tt
  shows_exec vals t f (i ∷ c) q = shows_step vals t f (size c) i (exec Γ c) (or_false (hit1 vals t f i) (hit vals t f c) q).0
      (shows_exec vals t f c (or_false (hit1 vals t f i) (hit vals t f c) q).1)

  off_goto : (t : Tgt) (b : Option ℕ) (R : Regs) (h : Hist) → NamedT t → Off (goto t b R h)
  off_goto (to p) b R h q = tt
  off_goto (lbl ℓ) b R h q = q

  off_choose : (k : Bool) (a b : Outcome) → Off a → Off b → Off (choose Γ k a b)
  off_choose true a b x y = x
  off_choose false a b x y = y

  off_perform : (i : Instr) (n : ℕ) (R : Regs) (h : Hist) → Named i → Off (perform Γ i n R h)
  off_perform (pl w) n R h q = tt
  off_perform (br always t) n R h q = off_goto t none R h q
  off_perform (br (test b c) t) n R h q = off_choose (agrees (is_true (R b)) c) _ _ (off_goto t none R h q) tt
  off_perform (br (tset b c) t) n R h q = off_choose (agrees (is_true (R b)) c) _ _ (off_goto t (some b) R h q) tt
  off_perform (br (tseta a b c) t) n R h q = off_choose (agrees (is_true (R b)) c) _ _ (off_goto t none (upd a (R b) R) h q) tt
  off_perform (br (cmp o c x y) t) n R h q = off_choose (agrees (compared Γ o x y R h).gives c) _ _ (off_goto t none R (compared Γ o x y R h).steps q) tt

  off_step : (n : ℕ) (i : Instr) (o : Outcome) → Named i → Off o → Off (step Γ n i o)
  off_step n i (at p R h) q w = go (same p n)
    where
      go : (t : Bool) → Off (step_at Γ t n i p R h)
      go true = off_perform i n R h q
      go false = tt
  off_step n i (exit ℓ b R h) q w = w
  off_step n i stuck q w = tt

  unfoldable pub cur_c : Code → Outcome
  cur_c c = post (here c) (exec Γ c)

  abbrev pub cur : St → Outcome
  cur s = cur_c s.code

  pub off_cur : (s : St) → Off (cur s)
  unfolding cur_c
  off_cur s = off_post (size s.code) (exec Γ s.code)

  exec_here : (c : Code) → exec Γ (edit (here c) c) ≡ post (here c) (exec Γ c)
  exec_here c = exec_edit Γ (here c) c (past_one (size c) 0 (land (size c) none (size c)) (omega nat))

  pub cur_push : (i : Instr) (s : St) → Named i → cur (push i s) ≡ step Γ (size s.code) i (cur s)
  unfolding cur_c push exec
  cur_push i s q = rw (size_edit (here s.code) s.code, exec_here s.code)
      (post_off _ _ (off_step (size s.code) i (cur s) q (off_cur s)))

  pub exec_flush : (s : St) → exec Γ (flush s).code ≡ cur s
  unfolding cur_c flush
  exec_flush s = exec_here s.code

  pub cur_flush : (s : St) → cur (flush s) ≡ cur s
  unfolding cur_c flush
  cur_flush s = rw (exec_here s.code) (post_off _ _ (off_post (size s.code) (exec Γ s.code)))

  pub size_push : (i : Instr) (s : St) → size (push i s).code ≡ width i + size s.code
  unfolding push size
  size_push i s = rw (size_edit (here s.code) s.code) refl

  pub size_flush : (s : St) → size (flush s).code ≡ size s.code
  unfolding flush
  size_flush s = size_edit (here s.code) s.code

  pub size_relabel : (a b : ℕ) (s : St) → size (relabel a b s).code ≡ size s.code
  unfolding relabel
  size_relabel a b s = size_edit (one a (re b false)) s.code

  pub size_strip : (a : ℕ) (s : St) → size (strip a s).code ≡ size s.code
  unfolding strip
  size_strip a s = size_edit (one a (re a true)) s.code

  exec_one : (a : ℕ) (x : Act) (c : Code) → Past (size c) x → exec Γ (edit (one a x) c) ≡ post (one a x) (exec Γ c)
  exec_one a x c q = exec_edit Γ (one a x) c (past_one (size c) a x q)

  land_at : (a p ℓ : ℕ) (x : Act) (b : Option ℕ) (R : Regs) (h : Hist) → post (one a x) (post_a (land p none p) ℓ b R h) ≡ post_a (land p none p) ℓ b R h
  land_at a p ℓ x none R h = refl
  land_at a p ℓ x (some b) R h = refl

  pub cur_relabel : (a b : ℕ) (s : St) → (a ≡ 0 → ⊥) → (b ≡ 0 → ⊥) → cur (relabel a b s) ≡ post (one a (re b false)) (cur s)
  unfolding cur_c relabel
  cur_relabel a b s n m = rw (size_edit (one a (re b false)) s.code, exec_one a (re b false) s.code tt)
      (swap_post a (re b false) (land (size s.code) none (size s.code)) (exec Γ s.code) n
      (λ ℓ c R h. rw (same_ne b 0 m) refl) (λ ℓ c R h. land_at a (size s.code) ℓ (re b false) c R h))

  pub cur_strip : (a : ℕ) (s : St) → (a ≡ 0 → ⊥) → cur (strip a s) ≡ post (one a (re a true)) (cur s)
  unfolding cur_c strip
  cur_strip a s n = rw (size_edit (one a (re a true)) s.code, exec_one a (re a true) s.code tt)
      (swap_post a (re a true) (land (size s.code) none (size s.code)) (exec Γ s.code) n
      (λ ℓ c R h. rw (same_ne a 0 n) refl) (λ ℓ c R h. land_at a (size s.code) ℓ (re a true) c R h))

  pub cur_here : (a : ℕ) (s : St) → (a ≡ 0 → ⊥) → cur (relabel a 0 s) ≡ post (one a (land (size s.code) none (size s.code))) (cur s)
  unfolding cur_c relabel
  cur_here a s n = rw (size_edit (one a (re 0 false)) s.code, exec_one a (re 0 false) s.code tt)
      (post_here a (size s.code) (exec Γ s.code) n)

  jump_take : (m n p : ℕ) (o : Outcome) → (m ≡ 0 → ⊥) → post (one 0 (land p none p)) (step Γ n (br always (lbl m)) (post (one 0 (re m true)) o))
      ≡ step Γ n (br always (lbl m)) (post (one 0 (land n none n)) o)
  jump_take m n p stuck k = refl
  jump_take m n p (at q R h) k = post_off (land p none p) (step Γ n (br always (lbl m)) (at q R h)) (off_step n (br always (lbl m)) (at q R h) k tt)
  jump_take m n p (exit ℓ b R h) k = go (same ℓ 0) b refl
    where
      go : (t : Bool) (b : Option ℕ) → same ℓ 0 ≡ t → post (one 0 (land p none p)) (step Γ n (br always (lbl m)) (post (one 0 (re m true)) (exit ℓ b R h)))
          ≡ step Γ n (br always (lbl m)) (post (one 0 (land n none n)) (exit ℓ b R h))
      go true none e = rw e (rw (same_ne m 0 k, same_refl n) refl)
      go true (some b) e = rw e (rw (same_ne m 0 k, same_refl n) refl)
      go false b e = rw e (rw e refl)

  pub cur_emit_jump : (m : ℕ) (s : St) → (m ≡ 0 → ⊥) → cur (labelled_emit_jump m s) ≡ step Γ (size s.code) (br always (lbl m)) (cur s)
  unfolding cur_c labelled_emit_jump exec
  cur_emit_jump m s n = rw (size_edit (one 0 (re m true)) s.code, exec_one 0 (re m true) s.code tt)
      (jump_take m (size s.code) _ (exec Γ s.code) n)

  shows_land : (vals : Bool) (t f p : ℕ) (o : Outcome) → Shows vals t f o → Shows vals t f (post (one 0 (land p none p)) o)
  shows_land vals t f p (at q R h) w = tt
  shows_land vals t f p stuck w = tt
  shows_land vals t f p (exit ℓ b R h) w = go (same ℓ 0) b w
    where
      go : (k : Bool) (b : Option ℕ) → Shows vals t f (exit ℓ b R h) → Shows vals t f (post_a (pick k (land p none p) keep) ℓ b R h)
      go true none q = tt
      go true (some b) q = tt
      go false b q = q

  pub shows_cur : (vals : Bool) (t f : ℕ) (s : St) → hit vals t f s.code ≡ false → Shows vals t f (cur s)
  unfolding cur_c
  shows_cur vals t f s q = shows_land vals t f (size s.code) (exec Γ s.code) (shows_exec vals t f s.code q)

  -- exp2reg's ends
  past_lands : (t f r n m p q : ℕ) → n ≤ m → n ≤ p → n ≤ q → (ℓ : ℕ) → Past n (lands t f r m p q ℓ)
  past_lands t f r n m p q a b c ℓ = go (same ℓ t) (same ℓ f)
    where
      go : (k u : Bool) → Past n (pick k (land m (some r) q) (pick u (land m (some r) p) keep))
      go true u = (a, c)
      go false true = (a, b)
      go false false = tt

  past_pair : (c : Code) (j t f r : ℕ) (ℓ : ℕ) → Past (size c) (pair_g c j t f r ℓ)
  past_pair c j t f r ℓ = go (same ℓ 0) (same ℓ j)
    where
      go : (k u : Bool) → Past (size c) (pick k (land (size c) none (size c)) (pick u (re 0 false) (lands t f r (2 + size c) (size c) (1 + size c) ℓ)))
      go true u = omega nat
      go false true = tt
      go false false = past_lands t f r (size c) (2 + size c) (size c) (1 + size c) (omega nat) (omega nat) (omega nat) ℓ

  pub cur_pair : (j t f r : ℕ) (s : St) → cur (load_pair j t f r s) ≡
      post (one 0 (land (2 + size s.code) none (2 + size s.code))) (step Γ (1 + size s.code) (pl (setw r (val (truth true))))
      (step Γ (size s.code) (pl (lbs r false)) (post (pair_g s.code j t f r) (cur s))))
  unfolding cur_c load_pair exec size
  cur_pair j t f r s = rw (
    size_edit (pair_g s.code j t f r) s.code,
    exec_edit Γ (pair_g s.code j t f r) s.code (past_pair s.code j t f r),
    post_pre (pair_g s.code j t f r) (size s.code) (exec Γ s.code) (rw (same_refl 0) refl),
  ) (let e : 1 + (1 + size s.code) ≡ 2 + size s.code = omega nat in rw e refl)

  pub size_pair : (j t f r : ℕ) (s : St) → size (load_pair j t f r s).code ≡ 2 + size s.code
  unfolding load_pair size
  size_pair j t f r s = rw (size_edit (pair_g s.code j t f r) s.code) (omega nat)

  pub cur_land_all : (t f r : ℕ) (s : St) → (t ≡ 0 → ⊥) → (f ≡ 0 → ⊥) → cur (land_all t f r s) ≡ post (lands t f r (size s.code) (size s.code) (size s.code)) (cur s)
  unfolding cur_c land_all exec size
  cur_land_all t f r s n m = let z : 0 + size s.code ≡ size s.code = omega nat in rw (
    size_edit (lands t f r (size s.code) (size s.code) (size s.code)) s.code,
    z,
    exec_edit Γ (lands t f r (size s.code) (size s.code) (size s.code)) s.code (past_lands t f r (size s.code) (size s.code) (size s.code) (size s.code) (omega nat) (omega nat) (omega nat)),
  )
      (ap (post (one 0 (land (size s.code) none (size s.code)))) (step_mark Γ (size s.code) (post (lands t f r (size s.code) (size s.code) (size s.code)) (exec Γ s.code))) ∙
      swap_lands t f r (size s.code) (exec Γ s.code) n m)
