-- Concatenation: `join_concat` stands for `join_c`. The operands are registers one above the other; a concatenation on the right that still wants its register takes the left one in. A value that stands in the
-- last register already is not moved again.
use Prim.Native.Nat.{ℕ, suc, ◌+◌, ◌≤◌}
use Rattle.std.specs.Prelude.{Bool, true, false, ◌&&◌, ◌≡◌, ◌∷◌, set, eqb}
use Rattle.std.proofs.Math.Path.{refl, sym, ap}
use Rattle.std.proofs.Common.{◌∙◌, subst}
use native.Mathlib.Omega.{arith}
use Rattle.opcodes.specs.OpCodes.{code_of}
use Rattle.instructions.specs.Word.{set_b_of, abc_of}
use Rattle.instructions.specs.Laws.{set_b_abc}
use Rattle.opcodes.specs.declared.OpCode.TheVariants as op
use Rattle.folding.specs.declared.Arith.TheVariants as ar
use Rattle.constants.specs.Entry.{Constant, nil as knil, truth as ktruth, number as knumber, text as ktext}
use Rattle.model.specs.Values.{nil, truth, number, text, other}
use Rattle.model.specs.declared.ExprKind.TheVariants as kind
use Rattle.model.specs.declared.ExprContext.{ExprContext}
use Rattle.model.specs.declared.State.{State}
use Rattle.model.specs.Descriptor.{with_kind, is_kind, tag_of}
use Rattle.model.specs.Steps.{Buffers, Step, and_then, ◌>>=◌, ◌>>◌, return}
use Rattle.model.specs.Jumps.{word, is_op}
use Rattle.model.specs.Emission.{with_free, emit}
use Rattle.model.specs.Discharge.{free_expr, exp2nextreg, change_word}
use Rattle.model.specs.Operators.{code_concat, join_concat}
use Rattle.labelled.specs.Code.{same_refl, Ex, val, cp, glob, idx, ari, neg, len, notx, cat, vfst, setw, pl, size}
use Rattle.labelled.specs.Edits.{size_edit}
use Rattle.labelled.specs.Machine.{pick}
use Rattle.labelled.specs.Emission.{St, set_free, flush, here, hit}
use Rattle.labelled.specs.Firm.{true≢false}
use Rattle.labelled.specs.Fresh.{On, Under, New4, flush_u, dv_new, next_on}
use Rattle.labelled.specs.Discharge.{K4, kc, kr, kx, kj, kd, Pair, Par4, fresh, lift4, freed, dv_s, dv, d2r, settle, e2r, nextreg, via_reg, any_k, anyreg}
use Rattle.labelled.specs.Owning.{freed_own}
use Rattle.labelled.specs.Operators.{cat_x, cat_k, join_c}
use Rattle.labelled.specs.Settling.{next_free}
use Rattle.threads.specs.Represents.{set_h}
use Rattle.threads.specs.Holding.{Ends, gives, ends_then, ends_map, with_code}
use Rattle.threads.specs.Coded.{op_x, codes_op}
use Rattle.simulation.specs.Sim.{Env, Sim, Is4, SimD, SimR, Sound}
use Rattle.simulation.specs.Steps.{sim_emit, sim_replace}
use Rattle.simulation.specs.Absent.{under_both}
use Rattle.simulation.specs.Registers.{chosen, sim_fewer}
use Rattle.simulation.specs.Discharging.{sound_dv}
use Rattle.simulation.specs.Loading.{kind_of, kind_is, then_done}
use Rattle.simulation.specs.ToRegister.{sim_next, sim_next₄}
use Rattle.simulation.specs.AnyRegister.{SimV, landed, plain, sim_val}
use Rattle.simulation.specs.Operands.{any_stays}
use Rattle.simulation.specs.Freeing.{temporary}
use Rattle.simulation.specs.Parts.{known}
use Rattle.simulation.specs.Late.{Alike, sims_alike, fresh_desc, fresh_held, sound_fresh}
use Rattle.simulation.specs.Unary.{free_known, free_register}
use Rattle.laws.specs.Truth.{no_and}

-- ---- the last register, once more

module _ (τ : St) (g : ℕ) (pos : 1 ≤ τ.nxt) (old : Under τ.nxt τ.code) (taken : τ.free ≡ suc g) where
  abbrev again : Pair
  again = fresh (kd (kr true g)) (suc g) τ

  same_next : Alike (nextreg (dv again)) τ
  unfolding fresh dv_s nextreg e2r d2r settle
  same_next = rw (same_refl g, under_both τ.nxt τ.nxt (1 + τ.nxt) (omega arith) (omega arith) τ.code old) (record { code = refl; free = sym taken; tab = refl })

pub next_again : {Γ : Env} {s : State} {m : Buffers} (e : ExprContext) (τ : St) (g : ℕ) → 1 ≤ Γ.n → On Γ.n τ → Γ.active ≤ g → τ.free ≡ suc g → SimR Γ s m e (record { st = τ; rgn = g }) → Ends (exp2nextreg e s m) (λ e' s' m'. SimR Γ s' m' e' (record { st = τ; rgn = g }))
unfolding fresh dv_s
next_again {Γ = Γ} {s = s} {m = m} e τ g o on la taken h = ends_map (sim_next (again τ g (omega (arith, on.up)) on.old taken) (sound_fresh (kd (kr true g)) g (suc g) τ o on la (refl, refl) tt)
    (fresh_desc e (kd (kr true g)) (suc g) τ on.old h.trues h.falses h.now (h.kind, (h.info, (h.below, rw (← taken) h.now.sim)))))
    (λ e' s' m' x. record { kind = x.kind; info = x.info; below = x.below; trues = x.trues; falses = x.falses; now = sims_alike _ τ (same_next τ g (omega (arith, on.up)) on.old taken) x.now })

-- ---- two registers one above the other

-- the left value stands in register f
pub record InF (e : ExprContext) (f : ℕ) : Type 0 where
  pub kind : e.kind ≡ kind.NonReloc
  pub info : e.info ≡ f
  pub trues : e.t ≡ 0
  pub falses : e.f ≡ 0

module _ (Γ : Env) (e₁ : ExprContext) (f : ℕ) (one : 1 ≤ Γ.n) (la : Γ.active ≤ f) where
  two_regs : (s : State) (m : Buffers) (e₄ : ExprContext) (τ : St) → InF e₁ f → On Γ.n τ → τ.free ≡ suc (suc f) → SimR Γ s m e₄ (record { st = τ; rgn = suc f }) → Ends (code_concat e₁ e₄ s m) (λ e' s' m'. SimD Γ s' m' e' (fresh (kd (kx (cat f 1))) f (flush τ)))
  unfolding code_concat flush
  two_regs s m e₄ τ i on taken h = ends_then (next_again e₄ τ (suc f) one on (omega arith) taken h) (λ c s₁ m₁ x.
      rw (any_stays e₁ s₁ m₁ i.kind i.trues i.falses, then_done e₁ s₁ m₁ (λ b. free_expr c >> (free_expr b >> (emit (abc_of op.Concat 0 b.info c.info) >>= (λ pc. return (with_kind kind.Relocable pc b))))))
      (rw (free_register {f = suc f} (record { st = τ; rgn = suc f }) (omega arith) x (temporary refl taken), then_done {A = Unit {0}} tt (with_free (suc f) s₁) m₁ (λ _. free_expr e₁ >> (emit (abc_of op.Concat 0 e₁.info c.info) >>= (λ pc. return (with_kind kind.Relocable pc e₁)))))
      (rw (free_register {f = f} (record { st = set_free (suc f) τ; rgn = f }) la (below s₁ m₁ c x) (temporary refl refl), then_done {A = Unit {0}} tt (with_free f s₁) m₁ (λ _. emit (abc_of op.Concat 0 e₁.info c.info) >>= (λ pc. return (with_kind kind.Relocable pc e₁))), i.info, x.info)
      (ends_then (sim_emit (sim_fewer x.now.sim f (omega (arith, taken))) (setw 0 (cat f 1)) (abc_of op.Concat 0 f (suc f)) refl (λ us z. (omega (arith, x.now.sim.two), (omega arith, (omega (arith, x.below), z ∙ ap (abc_of op.Concat 0 f) (omega arith))))))
      (λ pc s₂ m₂ q. gives _ s₂ m₂ refl (fresh_held (set_h 0 0 x.now.heads) (pl (setw 0 (cat f 1))) _ (kd (kx (cat f 1))) f f (flush τ) tt (flush_u τ.nxt (omega (arith, on.up)) τ on.old) i.trues i.falses q.1.1 (refl, (q.0 ∙ sym (size_edit (here τ.code) τ.code), (rw (same_refl 0) refl, q.1.1)))))))))
    where
      below : (s₁ : State) (m₁ : Buffers) (c : ExprContext) → SimR Γ s₁ m₁ c (record { st = τ; rgn = suc f }) → SimR Γ (with_free (suc f) s₁) m₁ e₁ (record { st = set_free (suc f) τ; rgn = f })
      below s₁ m₁ c x = record { kind = i.kind; info = i.info; below = omega (arith, x.below); trues = i.trues; falses = i.falses; now = record { heads = x.now.heads; sim = sim_fewer x.now.sim (suc f) (omega (arith, taken)) } }

-- ---- `join_concat`

abbrev is_cat : Ex → Bool
is_cat (val v) = false
is_cat (cp r) = false
is_cat (glob g) = false
is_cat (idx r k) = false
is_cat (ari o x y) = false
is_cat (neg r) = false
is_cat (len r) = false
is_cat (notx r) = false
is_cat (cat b k) = true
is_cat vfst = false

cat_x_lem : (x : Ex) → eqb (code_of (op_x x)) (code_of op.Concat) ≡ is_cat x
cat_x_lem (val nil) = refl
cat_x_lem (val (truth b)) = refl
cat_x_lem (val (number n)) = refl
cat_x_lem (val (text t)) = refl
cat_x_lem (val (other i)) = refl
cat_x_lem (cp r) = refl
cat_x_lem (glob g) = refl
cat_x_lem (idx r k) = refl
cat_x_lem (ari ar.Add x y) = refl
cat_x_lem (ari ar.Sub x y) = refl
cat_x_lem (ari ar.Mul x y) = refl
cat_x_lem (ari ar.Div x y) = refl
cat_x_lem (ari ar.Mod x y) = refl
cat_x_lem (ari ar.Pow x y) = refl
cat_x_lem (ari ar.Unm x y) = refl
cat_x_lem (neg r) = refl
cat_x_lem (len r) = refl
cat_x_lem (notx r) = refl
cat_x_lem (cat b k) = refl
cat_x_lem vfst = refl

con_kind : (v : Constant) → eqb (tag_of (kind_of (kc v))) 9 ≡ false
con_kind knil = refl
con_kind (ktruth true) = refl
con_kind (ktruth false) = refl
con_kind (knumber n) = refl
con_kind (ktext x) = refl

module _ (Γ : Env) (e₁ : ExprContext) (f : ℕ) (one : 1 ≤ Γ.n) (la : Γ.active ≤ f) (i : InF e₁ f) where
  abbrev lengthen : ExprContext → Step ExprContext
  lengthen e₃ = free_expr e₁ >> (change_word e₃.info (λ w. set_b_of w e₁.info) >> return (with_kind kind.Relocable e₃.info e₁))

  abbrev joins : ExprContext → Step ExprContext
  joins e₃ s m = pick (is_kind kind.Relocable e₃ && is_op op.Concat (word m.code e₃.info)) (lengthen e₃ s m) ((exp2nextreg e₃ >>= code_concat e₁) s m)

  -- the value goes to the next register
  moved : (s : State) (m : Buffers) (e₃ : ExprContext) (q : Par4) → Sound Γ (suc f) (lift4 q) → SimD Γ s m e₃ (lift4 q) → (is_kind kind.Relocable e₃ && is_op op.Concat (word m.code e₃.info)) ≡ false → Ends (joins e₃ s m) (λ e' s' m'. SimD Γ s' m' e' (fresh (kd (kx (cat f 1))) f (flush (nextreg q))))
  moved s m e₃ q h d t = rw t (ends_then (sim_next₄ q h d) (λ e₄ s₄ m₄ x. two_regs Γ e₁ f one la s₄ m₄ e₄ (nextreg q) i (next_on Γ.n one q (new h)) (next_free q ∙ ap suc own) (subst (λ r. SimR Γ s₄ m₄ e₄ (record { st = nextreg q; rgn = r })) own x)))
    where
      own : freed q.de.k4 q.st.free ≡ suc f
      own = freed_own Γ.active q.de.k4 (suc f) q.st.free h.own

      new : Sound Γ (suc f) (lift4 q) → New4 Γ.n q
      new h = record { on = h.new.on; tl_new = h.new.tl_new; tl_old = h.new.tl_old; fl_new = h.new.fl_new; fl_old = h.new.fl_old }

  -- a concatenation takes the left value in
  longer : (s : State) (m : Buffers) (e₃ : ExprContext) (σ : St) (H : ℕ → ℕ) (b k : ℕ) → Under σ.nxt σ.code → b ≡ suc f → σ.free ≡ suc f → Is4 Γ s m H e₃ σ (kx (cat b k)) → Ends (lengthen e₃ s m) (λ e' s' m'. SimD Γ s' m' e' (fresh (kd (kx (cat f (suc k)))) f σ))
  unfolding and_then
  longer s m e₃ σ H b k old bf taken h = rw (free_known {Γ = Γ} e₁ f σ.free f σ i.kind i.info (omega (arith, now.taken)) la (known now) (temporary refl taken), h.1.0, i.info)
      (gives _ (with_free f s) _ refl (fresh_held H (pl (setw 0 (cat f (suc k)))) _ (kd (kx (cat f (suc k)))) f f σ tt old i.trues i.falses longer_one (refl, (refl, (h.1.1.0, longer_one)))))
    where
      now : Sim Γ s m H (pl (setw 0 (cat b k)) ∷ σ.code) σ.free σ.tab
      now = h.1.1.1

      w_is : word m.code (size σ.code) ≡ abc_of op.Concat 0 b (k + b)
      w_is = now.holds.rep.enc.0.1.1.1

      longer_one : Sim Γ (with_free f s) (with_code (set m.code (size σ.code) (set_b_of (word m.code (size σ.code)) f)) m) H (pl (setw 0 (cat f (suc k))) ∷ σ.code) f σ.tab
      longer_one = sim_replace refl (sim_fewer now f (omega (arith, taken))) (setw 0 (cat f (suc k))) _ refl tt (λ us z.
          let e : k + b ≡ suc k + f = omega (arith, bf) in
          let v : set_b_of (word m.code (size σ.code)) f ≡ abc_of op.Concat 0 f (k + b) = rw w_is (set_b_abc op.Concat 0 b (k + b) f) in
          (omega (arith, now.two), (omega arith, (omega (arith, e, now.holds.rep.enc.0.1.1.0), z ∙ v ∙ ap (abc_of op.Concat 0 f) e))))

  module _ (s : State) (m : Buffers) (e₃ : ExprContext) (σ : St) (tl fl : ℕ) where
    abbrev Q : K4 → Par4
    Q k = record { st = σ; de = record { k4 = k; tl = tl; fl = fl } }

    abbrev Goal : K4 → Type 0
    Goal k = Sound Γ (suc f) (lift4 (Q k)) → SimD Γ s m e₃ (lift4 (Q k)) → Ends (joins e₃ s m) (λ e' s' m'. SimD Γ s' m' e' (cat_k false k f (Q k)))

    no_word : (k : K4) → eqb (tag_of (kind_of k)) 9 ≡ false → SimD Γ s m e₃ (lift4 (Q k)) → (is_kind kind.Relocable e₃ && is_op op.Concat (word m.code e₃.info)) ≡ false
    no_word k z d = no_and (is_kind kind.Relocable e₃) (is_op op.Concat (word m.code e₃.info)) (ap (λ x. eqb (tag_of x) 9) (kind_is Γ s m d.heads e₃ σ k d.is) ∙ z)

    word_test : (x : Ex) → SimD Γ s m e₃ (lift4 (Q (kx x))) → (is_kind kind.Relocable e₃ && is_op op.Concat (word m.code e₃.info)) ≡ is_cat x
    word_test x d = rw (ap (λ x. eqb (tag_of x) 9) d.is.0, d.is.1.0, codes_op σ.tab s.frame (word m.code (size σ.code)) 0 x d.is.1.1.1.holds.rep.enc.0.1) (cat_x_lem x)

    other_word : (x : Ex) → is_cat x ≡ false → cat_x x f (Q (kx x)) ≡ fresh (kd (kx (cat f 1))) f (flush (nextreg (Q (kx x)))) → Goal (kx x)
    unfolding cat_k
    other_word x z w h d = rw w (moved s m e₃ (Q (kx x)) h d (word_test x d ∙ z))

    a_word : (x : Ex) → Goal (kx x)
    unfolding cat_k cat_x
    a_word (val v) = other_word (val v) refl refl
    a_word (cp r) = other_word (cp r) refl refl
    a_word (glob g) = other_word (glob g) refl refl
    a_word (idx r k) = other_word (idx r k) refl refl
    a_word (ari o x y) = other_word (ari o x y) refl refl
    a_word (neg r) = other_word (neg r) refl refl
    a_word (len r) = other_word (len r) refl refl
    a_word (notx r) = other_word (notx r) refl refl
    a_word (cat b k) = λ h d. rw (word_test (cat b k) d) (longer s m e₃ σ d.heads b k h.new.on.old h.own.1 h.own.0 d.is)
    a_word vfst = other_word vfst refl refl

    joined_at : (k : K4) → Goal k
    unfolding cat_k
    joined_at (kc v) h d = moved s m e₃ (Q (kc v)) h d (no_word (kc v) (con_kind v) d)
    joined_at (kr u r) h d = moved s m e₃ (Q (kr u r)) h d (no_word (kr u r) refl d)
    joined_at (kx x) h d = a_word x h d
    joined_at (kj o c x y) h d = moved s m e₃ (Q (kj o c x y)) h d (no_word (kj o c x y) refl d)

-- the right operand lies in registers from suc f on
pub sim_join : {Γ : Env} {s : State} {m : Buffers} {e₂ : ExprContext} (e₁ : ExprContext) (f : ℕ) (p : Pair) → Γ.active ≤ f → InF e₁ f → Sound Γ (suc f) p → SimD Γ s m e₂ p → Ends (join_concat e₁ e₂ s m) (λ e' s' m'. SimD Γ s' m' e' (join_c f (dv p)))
unfolding join_concat join_c cat_k anyreg any_k and_then
sim_join {Γ = Γ} {s = s} {m = m} e₁ f p la i h d = ends_then (sim_val p h d) (λ e₃ s₃ m₃ v.
    rw (chosen (is_kind kind.Relocable e₃ && is_op op.Concat (word m₃.code e₃.info)) (lengthen Γ e₁ f h.some la i e₃) (exp2nextreg e₃ >>= code_concat e₁) s₃ m₃) (go e₃ s₃ m₃ v))
  where
    q : Par4
    q = dv p

    own : freed q.de.k4 q.st.free ≡ suc f
    own = freed_own Γ.active q.de.k4 (suc f) q.st.free (sound_dv p h).own

    go : (e₃ : ExprContext) (s₃ : State) (m₃ : Buffers) → SimV Γ s₃ m₃ e₃ q → Ends (joins Γ e₁ f h.some la i e₃ s₃ m₃) (λ e' s' m'. SimD Γ s' m' e' (cat_k (hit false q.de.tl q.de.fl q.st.code) q.de.k4 f q))
    go e₃ s₃ m₃ (plain z x) = rw z (joined_at Γ e₁ f h.some la i s₃ m₃ e₃ q.st q.de.tl q.de.fl q.de.k4 (sound_dv p h) x)
    go e₃ s₃ m₃ (landed z x) = rw (z, no_and (is_kind kind.Relocable e₃) (is_op op.Concat (word m₃.code e₃.info)) (ap (λ y. eqb (tag_of y) 9) x.kind))
        (ends_then (next_again e₃ (nextreg q) (suc f) h.some on (omega arith) taken there) (λ e₄ s₄ m₄ y. two_regs Γ e₁ f h.some la s₄ m₄ e₄ (nextreg q) i on taken y))
      where
        on : On Γ.n (nextreg q)
        on = next_on Γ.n h.some q (dv_new Γ.n h.some p h.new)

        taken : (nextreg q).free ≡ suc (suc f)
        taken = next_free q ∙ ap suc own

        via : (t : Bool) → t ≡ true → any_k t q.de.k4 q ≡ via_reg q
        via true w = refl
        via false w = absurd (true≢false (sym w))

        there : SimR Γ s₃ m₃ e₃ (record { st = nextreg q; rgn = suc f })
        there = subst (λ r. SimR Γ s₃ m₃ e₃ (record { st = nextreg q; rgn = r })) own (subst (λ y. SimR Γ s₃ m₃ e₃ y) (via (hit false q.de.tl q.de.fl q.st.code) z) x)
