-- A discharged descriptor goes to a register: `free_expr`, and `discharge2reg` with the comparison's jump joined to its list, which stands for `d2r`.
use Prim.Native.Nat.{ℕ, suc, ◌+◌, ◌≤◌, ◌<◌}
use Rattle.std.specs.Prelude.{Bool, not, ◌≡◌, eqb}
use Rattle.std.proofs.Math.Bool.{true, false}
use Rattle.std.proofs.Math.Path.{refl, sym, ap}
use Rattle.std.proofs.Common.{◌∙◌, subst, arith, lt-ltb}
use mathlib.Core.List.{List, [], ◌∷◌}
use Rattle.std.proofs.Math.Option.{none}
use Rattle.instructions.specs.Limits.{max_words}
use Rattle.instructions.specs.Word.{set_a_of, abc_of, a_bx_of}
use Rattle.instructions.specs.Laws.{set_a_abc, set_a_a_bx}
use Rattle.opcodes.specs.declared.OpCode.TheVariants as op
use Rattle.constants.specs.Entry.{Constant, nil, truth, number, text}
use Rattle.model.specs.declared.ExprKind.{ExprKind}
use Rattle.model.specs.declared.ExprKind.TheVariants as kind
use Rattle.model.specs.declared.ExprContext.{ExprContext}
use Rattle.model.specs.declared.State.{State}
use Rattle.model.specs.Descriptor.{with_kind, with_jumps, is_kind, tag_of}
use Rattle.constants.specs.declared.Val.TheVariants as val
use Rattle.model.specs.Values.{Value, StepKind, nil as vnil, truth as vtruth, number as vnumber, text as vtext, other}
use Rattle.model.specs.Jumps.{word, jump_list, concat_jumps, linked}
use Rattle.model.specs.Conditions.{bit}
use Rattle.model.specs.Operators.{arith_op}
use Rattle.model.specs.Steps.{Buffers, Result, done, refused, Step, and_then, ◌>>=◌, return, skip}
use Rattle.model.specs.Emission.{with_free, free_reg, emit, concat}
use Rattle.model.specs.Discharge.{discharge_kind, discharge_vars, free_expr, move, load_kind, join_jump}
use Rattle.labelled.specs.Code.{same, same_refl, same_ne, Rk, Ex, val, cp, glob, idx, ari, neg, len, notx, cat, vfst, cmp, lbl, setw, pl, br, Code, size, edit, land, re}
use Rattle.labelled.specs.Machine.{pick}
use Rattle.labelled.specs.Emission.{St, set_free, add_k, push, one}
use Rattle.labelled.specs.Places.{listed_include, place_include}
use Rattle.labelled.specs.Firm.{true≢false}
use Rattle.labelled.specs.Fresh.{Under}
use Rattle.labelled.specs.Discharge.{K4, kc, kr, kx, kj, d2r, is_cmp}
use Rattle.labelled.specs.Owning.{Own4}
use Rattle.threads.specs.Represents.{set_h}
use Rattle.threads.specs.Coded.{CodesV, CodesX, Codes}
use Rattle.threads.specs.Holding.{Ends, gives, ends_then, with_code}
use Rattle.simulation.specs.Sim.{Env, Sim, Is4}
use Rattle.simulation.specs.Steps.{set_other, sim_emit, sim_replace, sim_concat}
use Rattle.simulation.specs.Absent.{edit_under}
use Rattle.simulation.specs.Discharging.{no_here}
use Rattle.simulation.specs.Nils.{sim_nil}
use Rattle.simulation.specs.Adding.{sim_add}
use Rattle.simulation.specs.Registers.{chosen, free_is, drop_low, drop_top, Moves}

-- ---- kinds

abbrev pub kind_of : K4 → ExprKind
kind_of (kc nil) = kind.Nil
kind_of (kc (truth true)) = kind.True
kind_of (kc (truth false)) = kind.False
kind_of (kc (number n)) = kind.KNum
kind_of (kc (text x)) = kind.K
kind_of (kr u r) = kind.NonReloc
kind_of (kx x) = kind.Relocable
kind_of (kj o k x y) = kind.Jmp

module _ (Γ : Env) (s : State) (m : Buffers) (H : ℕ → ℕ) (e : ExprContext) (σ : St) where
  pub kind_is : (k : K4) → Is4 Γ s m H e σ k → e.kind ≡ kind_of k
  kind_is (kc nil) h = h.0
  kind_is (kc (truth true)) h = h.0
  kind_is (kc (truth false)) h = h.0
  kind_is (kc (number n)) h = h.0.0
  kind_is (kc (text x)) h = h.0.0
  kind_is (kr u r) h = h.0
  kind_is (kx x) h = h.0
  kind_is (kj o k x y) h = h.0

  -- the same with other registers taken
  pub is4_free : (k : K4) (s' : State) (m' : Buffers) (g : ℕ) → m' ≡ m → s.frame ≤ s'.frame → Moves Γ s m σ.free s' m' g → Is4 Γ s m H e σ k → Is4 Γ s' m' H e (set_free g σ) k
  is4_free (kc nil) s' m' g e l v h = (h.0, v _ _ _ h.1)
  is4_free (kc (truth true)) s' m' g e l v h = (h.0, v _ _ _ h.1)
  is4_free (kc (truth false)) s' m' g e l v h = (h.0, v _ _ _ h.1)
  is4_free (kc (number n)) s' m' g e l v h = (h.0, v _ _ _ h.1)
  is4_free (kc (text x)) s' m' g e l v h = (h.0, v _ _ _ h.1)
  is4_free (kr u r) s' m' g e l v h = (h.0, (h.1.0, (omega (arith, h.1.1.0), v _ _ _ h.1.1.1)))
  is4_free (kx x) s' m' g e l v h = (h.0, (h.1.0, (h.1.1.0, v _ _ _ h.1.1.1)))
  is4_free (kj o k x y) s' m' g e l v h = (h.0, (h.1.0, (h.1.1.0, (h.1.1.1.0, (h.1.1.1.1.0, (h.1.1.1.1.1.0, v _ _ _ h.1.1.1.1.1.1))))))

  -- some code stands: what is known of the state
  pub some_of : (k : K4) → Is4 Γ s m H e σ k → (c : Code) × Sim Γ s m H c σ.free σ.tab
  some_of (kc nil) h = (_, h.1)
  some_of (kc (truth true)) h = (_, h.1)
  some_of (kc (truth false)) h = (_, h.1)
  some_of (kc (number n)) h = (_, h.1)
  some_of (kc (text x)) h = (_, h.1)
  some_of (kr u r) h = (_, h.1.1.1)
  some_of (kx x) h = (_, h.1.1.1)
  some_of (kj o k x y) h = (_, h.1.1.1.1.1.1)

-- ---- `free_expr`

pub dv_idle : (k : K4) (e : ExprContext) (s : State) (m : Buffers) → e.kind ≡ kind_of k → discharge_vars e s m ≡ done e s m
unfolding discharge_kind
dv_idle (kc nil) e s m q = ap (λ z. discharge_kind z e s m) q
dv_idle (kc (truth true)) e s m q = ap (λ z. discharge_kind z e s m) q
dv_idle (kc (truth false)) e s m q = ap (λ z. discharge_kind z e s m) q
dv_idle (kc (number n)) e s m q = ap (λ z. discharge_kind z e s m) q
dv_idle (kc (text x)) e s m q = ap (λ z. discharge_kind z e s m) q
dv_idle (kr u r) e s m q = ap (λ z. discharge_kind z e s m) q
dv_idle (kx x) e s m q = ap (λ z. discharge_kind z e s m) q
dv_idle (kj o k x y) e s m q = ap (λ z. discharge_kind z e s m) q

abbrev pub is_reg : K4 → Bool
is_reg (kc v) = false
is_reg (kr u r) = true
is_reg (kx x) = false
is_reg (kj o k x y) = false

pub is_reg_lem : (k : K4) (e : ExprContext) → e.kind ≡ kind_of k → is_kind kind.NonReloc e ≡ is_reg k
is_reg_lem (kc nil) e q = ap (λ z. eqb (tag_of z) 10) q
is_reg_lem (kc (truth true)) e q = ap (λ z. eqb (tag_of z) 10) q
is_reg_lem (kc (truth false)) e q = ap (λ z. eqb (tag_of z) 10) q
is_reg_lem (kc (number n)) e q = ap (λ z. eqb (tag_of z) 10) q
is_reg_lem (kc (text x)) e q = ap (λ z. eqb (tag_of z) 10) q
is_reg_lem (kr u r) e q = ap (λ z. eqb (tag_of z) 10) q
is_reg_lem (kx x) e q = ap (λ z. eqb (tag_of z) 10) q
is_reg_lem (kj o k x y) e q = ap (λ z. eqb (tag_of z) 10) q

-- the register that a value owns is freed, and f are taken
module _ (Γ : Env) (s : State) (m : Buffers) (H : ℕ → ℕ) (e : ExprContext) (σ : St) (f : ℕ) (above : Γ.active ≤ f) where
  none_freed : is_kind kind.NonReloc e ≡ false → s.free ≡ f → free_expr e s m ≡ done tt (with_free f s) m
  unfolding free_expr
  none_freed q z = chosen (is_kind kind.NonReloc e) (free_reg e.info) skip s m ∙ rw (q, ← z) refl

  pub free_expr_is : (k : K4) → Own4 Γ.active f k σ.free → Is4 Γ s m H e σ k → free_expr e s m ≡ done tt (with_free f s) m
  unfolding free_expr
  free_expr_is (kc v) o h = none_freed (is_reg_lem (kc v) e (kind_is Γ s m H e σ (kc v) h)) ((some_of Γ s m H e σ (kc v) h).1.free ∙ o)
  free_expr_is (kr true r) o h =
      let n = h.1.1.1 in
      chosen (is_kind kind.NonReloc e) (free_reg e.info) skip s m ∙ rw (is_reg_lem (kr true r) e h.0) (free_is e.info s m ∙
      ap (λ g. done tt (with_free g s) m) (rw (n.locals, n.free, h.1.0, o.0) (drop_top Γ.active f σ.free above (omega (arith, h.1.1.0, o.0, n.most)) o.1)))
  free_expr_is (kr false r) o h =
      let n = h.1.1.1 in
      chosen (is_kind kind.NonReloc e) (free_reg e.info) skip s m ∙ rw (is_reg_lem (kr false r) e h.0) (free_is e.info s m ∙
      ap (λ g. done tt (with_free g s) m) (rw (n.locals, n.free, h.1.0) (drop_low Γ.active r σ.free o.1 ∙ o.0)))
  free_expr_is (kx x) o h = none_freed (is_reg_lem (kx x) e h.0) ((some_of Γ s m H e σ (kx x) h).1.free ∙ o.0)
  free_expr_is (kj a k x y) o h = none_freed (is_reg_lem (kj a k x y) e h.0) ((some_of Γ s m H e σ (kj a k x y) h).1.free ∙ o)

-- ---- `discharge2reg`

-- a word that gets its register
module _ (t : List Constant) (F w r : ℕ) where
  set_a_v : (v : Value) → CodesV t F w 0 v → CodesV t F (set_a_of w r) r v
  set_a_v vnil h = h
  set_a_v (vtruth b) h = rw h (set_a_abc op.LoadBool 0 (bit b) 0 r)
  set_a_v (vnumber n) h = (h.0, rw h.1 (set_a_a_bx op.LoadK 0 _ r))
  set_a_v (vtext x) h = (h.0, rw h.1 (set_a_a_bx op.LoadK 0 _ r))
  set_a_v (other i) h = h

  pub set_a_x : (x : Ex) → CodesX t F w 0 x → CodesX t F (set_a_of w r) r x
  set_a_x (val v) h = set_a_v v h
  set_a_x (cp a) h = (h.0, rw h.1 (set_a_abc op.Move 0 a 0 r))
  set_a_x (glob g) h = (h.0, rw h.1 (set_a_a_bx op.GetGlobal 0 _ r))
  set_a_x (idx a k) h = (h.0, (h.1.0, (h.1.1.0, rw h.1.1.1 (set_a_abc op.GetTable 0 a h.0 r))))
  set_a_x (ari o x y) h = (h.0, (h.1.0, (h.1.1.0, (h.1.1.1.0, (h.1.1.1.1.0, rw h.1.1.1.1.1 (set_a_abc (arith_op o) 0 h.0 h.1.0 r))))))
  set_a_x (neg a) h = (h.0, rw h.1 (set_a_abc op.Unm 0 a 0 r))
  set_a_x (len a) h = (h.0, rw h.1 (set_a_abc op.Len 0 a 0 r))
  set_a_x (notx a) h = (h.0, rw h.1 (set_a_abc op.Not 0 a 0 r))
  set_a_x (cat b k) h = (h.0, (h.1.0, rw h.1.1 (set_a_abc op.Concat 0 b (k + b) r)))
  set_a_x vfst h = rw h (set_a_abc op.VarArg 0 2 0 r)

-- e stands in the register with code τ, but for its jumps; a comparison's jump is in the list of those that are true
pub record Loaded (Γ : Env) (s₀ s : State) (m : Buffers) (t₀ f₀ : ℕ) (e : ExprContext) (k : K4) (τ : St) (tl fl r : ℕ) : Type 0 where
  pub heads : ℕ → ℕ
  pub sim : Sim Γ s m heads τ.code τ.free τ.tab
  pub trues : e.t ≡ heads tl
  pub falses : e.f ≡ heads fl
  pub jmp : is_kind kind.Jmp e ≡ is_cmp k
  pub frame : s.frame ≡ s₀.frame
  pub place : is_cmp k ≡ false → (e.kind ≡ kind.NonReloc) × ((e.info ≡ r) × ((e.t ≡ t₀) × (e.f ≡ f₀)))

abbrev pub loads : K4 → ExprContext → ℕ → Step ExprContext
loads k e r = load_kind (kind_of k) e r >>= join_jump

pub then_done : {A B : Type 0} (a : A) (s : State) (m : Buffers) (f : A → Step B) → and_then (done a s m) f ≡ f a s m
unfolding and_then
then_done a s m f = refl

pub skip_then : {A B : Type 0} (x : Result A) (f : Step B) → and_then (and_then x (λ _. skip)) (λ _. f) ≡ and_then x (λ _. f)
unfolding and_then
skip_then (done a s m) f = refl
skip_then (refused k m) f = refl

pub jump_list_is : (pc : ℕ) → pc < max_words → jump_list pc ≡ suc pc
unfolding jump_list
jump_list_is pc l = ap (λ (b : Bool). elim b [ true ↦ pc + 1 | false ↦ 0 ]) (lt-ltb pc max_words l) ∙ omega arith

-- what is no comparison has no jump of its own
pub join_none : (e : ExprContext) (s : State) (m : Buffers) → is_kind kind.Jmp e ≡ false → join_jump e s m ≡ done e s m
unfolding join_jump
join_none e s m q = chosen (is_kind kind.Jmp e) _ (λ s m. done e s m) s m ∙ rw q refl

module _ (Γ : Env) (s : State) (m : Buffers) (H : ℕ → ℕ) (e : ExprContext) (σ : St) (tl fl r : ℕ) (nt : Γ.n ≤ tl) (nf : Γ.n ≤ fl) (o : 1 ≤ Γ.n) (tf : fl ≡ tl → ⊥) (lt : tl < σ.nxt) (lf : fl < σ.nxt) (old : Under σ.nxt σ.code) (below : r < s.frame) (et : e.t ≡ H tl) (ef : e.f ≡ H fl) where
  abbrev Ldd : K4 → St → ExprContext → State → Buffers → Type 0
  Ldd k τ e' s' m' = Loaded Γ s s' m' e.t e.f e' k τ tl fl r

  abbrev Goal : K4 → Type 0
  Goal k = Ends (loads k e r s m) (λ e' s' m'. Ldd k (d2r k tl r σ) e' s' m')

  abbrev Goal₁ : K4 → Type 0
  Goal₁ k = Ends (load_kind (kind_of k) e r s m) (λ e' s' m'. Ldd k (d2r k tl r σ) e' s' m')

  joined : (k : K4) (τ : St) → is_cmp k ≡ false → Ends (load_kind (kind_of k) e r s m) (λ e' s' m'. Ldd k τ e' s' m') → Ends (loads k e r s m) (λ e' s' m'. Ldd k τ e' s' m')
  joined k τ c h = ends_then h (λ e₁ s₁ m₁ p. gives e₁ s₁ m₁ (join_none e₁ s₁ m₁ (p.jmp ∙ c)) p)

  abbrev G₀ : ℕ → ℕ
  G₀ = set_h 0 0 H

  g_t : e.t ≡ G₀ tl
  g_t = et ∙ sym (set_other 0 0 H tl (λ z. omega arith))

  g_f : e.f ≡ G₀ fl
  g_f = ef ∙ sym (set_other 0 0 H fl (λ z. omega arith))

  -- loaded by a word of its own
  by_word : (k : K4) (x : Ex) (w : ℕ) (τ : St) (s₁ : State) (m₁ : Buffers) → is_cmp k ≡ false → s₁.frame ≡ s.frame → Sim Γ s₁ m₁ H τ.code τ.free τ.tab → ((us : List ℕ) (n : ℕ) → word us n ≡ w → Codes τ.tab s₁.frame us n (setw r x)) →
      Ends (and_then (emit w s₁ m₁) (λ _. return (with_kind kind.NonReloc r e))) (λ e' s' m'. Ldd k (push (pl (setw r x)) τ) e' s' m')
  unfolding push
  by_word k x w τ s₁ m₁ c φ h q = ends_then (sim_emit h (setw r x) w refl (λ us y. q us _ y)) (λ a s' m' p.
      gives _ s' m' refl (record { heads = G₀; sim = p.1.1; trues = g_t; falses = g_f; jmp = sym c; frame = p.1.0.frame ∙ φ; place = λ z. (refl, (refl, (refl, refl))) }))

  load_nil_at : Is4 Γ s m H e σ (kc nil) → Goal₁ (kc nil)
  unfolding load_kind d2r
  load_nil_at h = (ends_then (sim_nil σ h.1 r below) (λ a s' m' p. gives _ s' m' refl (record {
    heads = p.1.0;
    sim = p.1.1.1;
    trues = et ∙ sym (p.1.1.0 tl (omega arith));
    falses = ef ∙ sym (p.1.1.0 fl (omega arith));
    jmp = refl;
    frame = p.0.frame;
    place = λ z. (refl, (refl, (refl, refl)));
  })))

  load_truth_at : (b : Bool) → Is4 Γ s m H e σ (kc (truth b)) → Goal₁ (kc (truth b))
  unfolding load_kind d2r
  load_truth_at true h = (by_word (kc (truth true)) (val (vtruth true)) (abc_of op.LoadBool r 1 0) σ s m refl refl h.1 (λ us n z. (below, z)))
  load_truth_at false h = (by_word (kc (truth false)) (val (vtruth false)) (abc_of op.LoadBool r 0 0) σ s m refl refl h.1 (λ us n z. (below, z)))

  load_text_at : (x : List ℕ) → Is4 Γ s m H e σ (kc (text x)) → Goal₁ (kc (text x))
  unfolding load_kind d2r
  load_text_at x h = (by_word (kc (text x)) (val (vtext x)) (a_bx_of op.LoadK r e.info) σ s m refl refl h.1 (λ us n z. (below, (h.0.1.1, z ∙ ap (a_bx_of op.LoadK r) h.0.1.0))))

  load_number_at : Is4 Γ s m H e σ (kc (number e.bits)) → Goal₁ (kc (number e.bits))
  unfolding load_kind d2r
  load_number_at h = (ends_then (sim_add h.1 [] (val.Num e.nval e.bits) tt) (λ i s₁ m₁ p.
      by_word (kc (number e.bits)) (val (vnumber e.bits)) (a_bx_of op.LoadK r i) (add_k (number e.bits) σ) s₁ m₁ refl p.1.0 p.1.1.1 (λ us n z.
      (rw p.1.0 below, (listed_include (number e.bits) σ.tab, z ∙ ap (a_bx_of op.LoadK r) (p.0 ∙ sym (place_include (number e.bits) σ.tab)))))))

  load_reg_at : (u : Bool) (k : ℕ) → Is4 Γ s m H e σ (kr u k) → Goal₁ (kr u k)
  unfolding load_kind d2r same
  load_reg_at u k h = (rw (chosen (not (eqb r e.info)) (move r e.info) skip s m, h.1.0) (go (eqb r k)))
    where
      go : (b : Bool) → Ends (and_then (pick (not b) (move r k s m) (skip s m)) (λ _. return (with_kind kind.NonReloc r e))) (λ e' s' m'. Ldd (kr u k) (pick b σ (push (pl (setw r (cp k))) σ)) e' s' m')
      go true = gives _ s m (then_done tt s m _) (record { heads = H; sim = h.1.1.1; trues = et; falses = ef; jmp = refl; frame = refl; place = λ z. (refl, (refl, (refl, refl))) })
      go false = rw (skip_then (emit (abc_of op.Move r k 0) s m) (return (with_kind kind.NonReloc r e))) (by_word (kr u k) (cp k) (abc_of op.Move r k 0) σ s m refl refl h.1.1.1 (λ us n z. (below, (h.1.1.0, z))))

  load_word_at : (x : Ex) → Is4 Γ s m H e σ (kx x) → Goal₁ (kx x)
  unfolding load_kind d2r push and_then
  load_word_at x h = (rw h.1.0 (gives _ s _ refl (record {
    heads = H;
    sim = rw (no_here now h.1.1.0 (land (size σ.code) none (size σ.code))) (sim_replace refl now (setw r x) _ refl tt (λ us z. (below, rw z (set_a_x σ.tab s.frame (word m.code (size σ.code)) r x now.holds.rep.enc.0.1))));
    trues = et;
    falses = ef;
    jmp = refl;
    frame = refl;
    place = λ z. (refl, (refl, (refl, refl)));
  })))
    where
      now : Sim Γ s m H (pl (setw 0 x) ∷ σ.code) σ.free σ.tab
      now = h.1.1.1

  load_jump_at : (a : StepKind) (k : Bool) (x y : Rk) → Is4 Γ s m H e σ (kj a k x y) → Goal (kj a k x y)
  unfolding load_kind join_jump d2r push edit size
  load_jump_at a k x y h = rw (load_is, joins, q.0) (gives _ s _ (then_done _ s _ _) (record {
    heads = set_h tl (concat_jumps (H tl) (H j)) (set_h j 0 H);
    sim = rw (no_here now h.1.1.0 (land (size σ.code) none (size σ.code))) (rw (same_refl j, edit_under σ.nxt j (re tl false) h.1.1.1.1.0 σ.code old) at q.1);
    trues = rw (same_refl tl) refl;
    falses = ef ∙ rw (same_ne fl tl tf, same_ne fl j (λ z. omega (arith, nj))) refl;
    jmp = is_jmp;
    frame = refl;
    place = λ z. absurd (true≢false z);
  }))
    where
      j : ℕ
      j = h.1.1.1.0

      nj : σ.nxt ≤ j
      nj = h.1.1.1.1.0

      now : Sim Γ s m H (br (cmp a k x y) (lbl j) ∷ σ.code) σ.free σ.tab
      now = h.1.1.1.1.1.1

      is_jmp : is_kind kind.Jmp e ≡ true
      is_jmp = ap (λ z. eqb (tag_of z) 8) h.0

      inside : e.info < max_words
      inside = omega (arith, h.1.0, now.holds.rep.few)

      q : (concat (H tl) (H j) s m ≡ done (concat_jumps (H tl) (H j)) s (with_code (linked m.code (H tl) (H j)) m)) ×
          Sim Γ s (with_code (linked m.code (H tl) (H j)) m) (set_h tl (concat_jumps (H tl) (H j)) (set_h j 0 H)) (edit (one j (re tl false)) (br (cmp a k x y) (lbl j) ∷ σ.code)) σ.free σ.tab
      q = sim_concat now j tl (omega (arith, nj)) nt (omega (arith, nj)) (omega arith) (λ z. omega (arith, nj))

      load_is : loads (kj a k x y) e r s m ≡ join_jump e s m
      load_is = then_done e s m join_jump

      joins : join_jump e s m ≡ and_then (concat (H tl) (H j) s m) (λ t. return (with_jumps t e.f e))
      joins = chosen (is_kind kind.Jmp e) (concat e.t (jump_list e.info) >>= (λ t. return (with_jumps t e.f e))) (return e) s m ∙
          rw (is_jmp, jump_list_is e.info inside ∙ sym h.1.1.1.1.1.0, et) refl

  load_con_at : (v : Constant) → Is4 Γ s m H e σ (kc v) → Goal₁ (kc v)
  load_con_at nil h = load_nil_at h
  load_con_at (truth b) h = load_truth_at b h
  load_con_at (number n) h = subst (λ z. Is4 Γ s m H e σ (kc (number z)) → Goal₁ (kc (number z))) h.0.1.0 load_number_at h
  load_con_at (text x) h = load_text_at x h

  -- `discharge2reg` of a value that is no comparison
  pub sim_load : (k : K4) → is_cmp k ≡ false → Is4 Γ s m H e σ k → Goal₁ k
  sim_load (kc v) z h = load_con_at v h
  sim_load (kr u k) z h = load_reg_at u k h
  sim_load (kx x) z h = load_word_at x h
  sim_load (kj a k x y) z h = absurd (true≢false z)

  -- of any, with the comparison's jump
  pub sim_loads : (k : K4) → Is4 Γ s m H e σ k → Goal k
  sim_loads (kc v) h = joined (kc v) _ refl (load_con_at v h)
  sim_loads (kr u k) h = joined (kr u k) _ refl (load_reg_at u k h)
  sim_loads (kx x) h = joined (kx x) _ refl (load_word_at x h)
  sim_loads (kj a k x y) h = load_jump_at a k x y h
