-- `code_arith` stands for `ari_join`: numerals fold on both sides alike; else the operands go to RK, the right one first, are freed, and the word is emitted that wants its register.
use Rattle.folding.specs.Numeral.{Fold}
use Rattle.std.specs.Prelude.{ℕ, ◌+◌, ◌%◌, ◌≤◌, Bool, true, false, ◌&&◌, ◌≡◌, eqb, Some, None}
use Rattle.std.proofs.Math.Path.{refl, sym}
use Rattle.std.proofs.Common.{ap, ◌∙◌, subst, arith}
use Rattle.std.proofs.Math.Option.{Option, some, none}
use Rattle.instructions.specs.Limits.{bit_rk, max_stack}
use Rattle.instructions.specs.Word.{abc_of}
use Rattle.folding.specs.Folding.{fold_of}
use Rattle.folding.proofs.Laws.{fold_bits}
use Rattle.folding.specs.declared.Numeral.{Numeral as Numeral'}
use Rattle.folding.specs.declared.Arith.{Arith}
use Rattle.constants.specs.Entry.{Constant, number}
use Rattle.model.specs.Values.{folds}
use Rattle.model.specs.declared.ExprKind.TheVariants as kind
use Rattle.model.specs.declared.ExprContext.{ExprContext}
use Rattle.model.specs.declared.State.{State}
use Rattle.model.specs.Descriptor.{with_kind, is_numeral, tag_of}
use Rattle.model.specs.Steps.{Buffers, done, Step, ◌>>=◌, ◌>>◌, return}
use Rattle.model.specs.Emission.{with_free, emit}
use Rattle.model.specs.Discharge.{exp2rk, rk}
use Rattle.model.specs.Operators.{arith_op, const_fold, with_number, unless_folded, free_both, emit_arith, code_arith}
use Rattle.labelled.specs.Code.{same_refl, Rk, reg, con, ari, setw, pl}
use Rattle.labelled.specs.Edits.{size_edit}
use Rattle.labelled.specs.Table.{is_near}
use Rattle.labelled.specs.Places.{Grows, grows_refl, grows_include}
use Rattle.labelled.specs.Emission.{St, add_k, flush, push, here, hit}
use Rattle.labelled.specs.Sound.{rk_makes}
use Rattle.labelled.specs.Fresh.{On, Under, flush_u, late_of_on, rk_on, dv_new}
use Rattle.labelled.specs.Discharge.{K4, kc, kr, kx, kj, kd, Pair, Par4, RkS, fresh, dv, late, exp2rk as exp2rk_l}
use Rattle.labelled.specs.Operators.{num_k, numeral, late_of, right_first, ari_join}
use Rattle.labelled.specs.Owning.{Own4}
use Rattle.threads.specs.Represents.{set_h}
use Rattle.threads.specs.Holding.{Ends, gives, ends_then}
use Rattle.threads.specs.Coded.{CodesRk, Binary}
use Rattle.simulation.specs.Sim.{Env, Sims, SimD, Operand, Sound}
use Rattle.simulation.specs.Steps.{sim_emit}
use Rattle.simulation.specs.Registers.{sim_fewer}
use Rattle.simulation.specs.Discharging.{dv_tab, sound_dv}
use Rattle.simulation.specs.Loading.{then_done}
use Rattle.simulation.specs.Operands.{sim_rk}
use Rattle.simulation.specs.Freeing.{Takes, constant, temporary, rk_takes, takes_more, free_both_is, free_both_late}
use Rattle.simulation.specs.Parts.{framed, outward_s, known_d, raise_d, raise_s, sound_raise, operand_more}
use Rattle.simulation.specs.Late.{Numeral, fresh_desc, fresh_held}
use Rattle.simulation.specs.Sides.{Left, NumIs, numeral_is, numeral_true, sim_late}

-- ---- operands in words

pub operand_codes : (s : State) (e : ExprContext) (σ : St) (x : Rk) → Operand s e σ x → CodesRk σ.tab s.frame x (rk e)
operand_codes s e σ (reg r) h = (ap (λ (b : Bool). elim b [ true ↦ e.info % bit_rk + bit_rk | false ↦ e.info ]) (ap (λ z. eqb (tag_of z) 3) h.0) ∙ h.1.0, h.1.1)
operand_codes s e σ (con v) h =
    let z : rk e ≡ e.info % bit_rk + bit_rk = ap (λ (b : Bool). elim b [ true ↦ e.info % bit_rk + bit_rk | false ↦ e.info ]) (ap (λ z. eqb (tag_of z) 3) h.0) in
    (h.1.0, (h.1.1.0, (h.1.1.1.0, (h.1.1.1.1.0, omega (arith, z, h.1.1.1.1.0, h.1.1.1.1.1)))))

-- what the left side took, with f before it and g behind it
abbrev pub LeftTakes : ℕ → ℕ → ℕ → Option ℕ → RkS → Type 0
LeftTakes active f g none x = Takes active f g x.rkv
LeftTakes active f g (some b) x = g ≡ f

pub late_takes : (active : ℕ) (t : Bool) (c : Constant) (s : St) → Takes active s.free (late t c s).st.free (late t c s).rkv
late_takes active true c s = constant refl
late_takes active false c s = temporary refl refl

pub late_grows : (n : Option ℕ) (x : RkS) (τ : St) → Grows τ.tab (late_of n x τ).st.tab
unfolding push
late_grows none x τ = grows_refl τ.tab
late_grows (some b) x τ = go (is_near (number b) τ.tab)
  where
    go : (t : Bool) → Grows τ.tab (late t (number b) (add_k (number b) τ)).st.tab
    go true = grows_include (number b) τ.tab
    go false = grows_include (number b) τ.tab

-- a numeral, or not
abbrev pub Num : ExprContext → Option ℕ → Type 0
Num e none = is_numeral e ≡ false
Num e (some b) = Numeral e b

-- ---- both operands, the right one first

-- the descriptors b and c are the operands of a state in which all that they took is still taken: freed, f registers are
pub record Both (Γ : Env) (s : State) (m : Buffers) (b c : ExprContext) (σ : St) (x y : Rk) (f : ℕ) : Type 0 where
  pub left : Operand s b σ x
  pub right : Operand s c σ y
  pub trues : b.t ≡ 0
  pub falses : b.f ≡ 0
  pub now : Sims Γ s m σ
  pub fewer : f ≤ σ.free
  pub freed : free_both b c s m ≡ done tt (with_free f s) m

module _ (Γ : Env) (s : State) (m : Buffers) (e₁ e₂ : ExprContext) (f g : ℕ) (n : Option ℕ) (x : RkS) (p : Pair) (h : Sound Γ g p) (d : SimD Γ s m e₂ p) (l : Left s e₁ n x p.st) (k : LeftTakes Γ.active f g n x) (la : Γ.active ≤ f) where
  abbrev q : Par4
  q = dv p

  abbrev r₁ : RkS
  r₁ = exp2rk_l q

  abbrev r₂ : RkS
  r₂ = late_of n x r₁.st

  grows₁ : Grows p.st.tab r₁.st.tab
  grows₁ = subst (λ t. Grows t r₁.st.tab) (dv_tab p.de.kind p.st) (rk_makes q (sound_dv p h).ok).way.grows

  -- the left one was an operand before, or becomes one
  left_more : (n : Option ℕ) (s₁ : State) → Left s e₁ n x p.st → s.frame ≤ s₁.frame → Left s₁ e₁ n x r₁.st
  left_more none s₁ w z = (operand_more s s₁ e₁ p.st r₁.st x.rkv grows₁ z w.0, w.1)
  left_more (some b) s₁ w z = w

  takes₁ : Takes Γ.active g r₁.st.free r₁.rkv
  takes₁ = rk_takes Γ.active q g (sound_dv p h).own

  both_freed : (n : Option ℕ) (b c : ExprContext) (s₄ : State) (m₄ : Buffers) → LeftTakes Γ.active f g n x → Operand s₄ b (late_of n x r₁.st).st (late_of n x r₁.st).rkv → Operand s₄ c (late_of n x r₁.st).st r₁.rkv → s₄.frame ≤ max_stack → s₄.active ≡ Γ.active → s₄.free ≡ (late_of n x r₁.st).st.free →
      (f ≤ (late_of n x r₁.st).st.free) × (free_both b c s₄ m₄ ≡ done tt (with_free f s₄) m₄)
  both_freed none b c s₄ m₄ k p q w a z = (omega (arith, takes_more Γ.active f g x.rkv k, takes_more Γ.active g r₁.st.free r₁.rkv takes₁), free_both_is b c s₄ s₄ m₄ r₁.st Γ.active f g r₁.st.free la w a z x.rkv r₁.rkv p q k takes₁)
  both_freed (some v) b c s₄ m₄ k p q w a z = go (is_near (number v) r₁.st.tab) p q z
    where
      τ : Bool → RkS
      τ t = late t (number v) (add_k (number v) r₁.st)

      first : Takes Γ.active f r₁.st.free r₁.rkv
      first = rw k at takes₁

      go : (t : Bool) → Operand s₄ b (τ t).st (τ t).rkv → Operand s₄ c (τ t).st r₁.rkv → s₄.free ≡ (τ t).st.free → (f ≤ (τ t).st.free) × (free_both b c s₄ m₄ ≡ done tt (with_free f s₄) m₄)
      go t p q z = (
        omega (arith, takes_more Γ.active f r₁.st.free r₁.rkv first, takes_more Γ.active r₁.st.free (τ t).st.free (τ t).rkv (late_takes Γ.active t (number v) (add_k (number v) r₁.st))),
        free_both_late b c s₄ s₄ m₄ (τ t).st Γ.active f r₁.st.free (τ t).st.free la w a z (τ t).rkv r₁.rkv p q (late_takes Γ.active t (number v) (add_k (number v) r₁.st)) first,
      )

  module _ {B : Type 0} (rest : ExprContext → ExprContext → Step B) (Q : B → State → Buffers → Type 0) where
    pub both_right_first : ((b c : ExprContext) (s₄ : State) (m₄ : Buffers) → Both Γ s₄ m₄ b c r₂.st r₂.rkv r₁.rkv f → Ends (rest b c s₄ m₄) Q) → Ends ((exp2rk e₂ >>= (λ c. exp2rk e₁ >>= (λ b. rest b c))) s m) Q
    both_right_first go = ends_then (sim_rk {Γ = framed Γ s} p (sound_raise s.frame p h) (raise_d p d)) (λ c s₃ m₃ y.
        let now₃ : Sims Γ s₃ m₃ r₁.st = out s (known_d p d).least y.now in
        ends_then (sim_late {Γ = framed Γ s₃} e₁ n x r₁.st h.some on₁ low₁ (raise_s now₃) (left_more n s₃ l y.now.sim.least)) (λ b s₄ m₄ z.
        let now₄ : Sims Γ s₄ m₄ r₂.st = out s₃ now₃.sim.least z.now in
        let right : Operand s₄ c r₂.st r₁.rkv = operand_more s₃ s₄ c r₁.st r₂.st r₁.rkv (late_grows n x r₁.st) z.now.sim.least y.is in
        let w = both_freed n b c s₄ m₄ k z.is right now₄.sim.most now₄.sim.locals now₄.sim.free in
        go b c s₄ m₄ (record { left = z.is; right = right; trues = z.trues; falses = z.falses; now = now₄; fewer = w.0; freed = w.1 })))
      where
        out : (s₀ : State) {s₃ : State} {m₃ : Buffers} {σ : St} → Γ.least ≤ s₀.frame → Sims (framed Γ s₀) s₃ m₃ σ → Sims Γ s₃ m₃ σ
        out s₀ z y = outward_s Γ s₀.frame Γ.n Γ.lists z (omega arith) (λ ℓ a b. refl) y

        on₁ : On Γ.n r₁.st
        on₁ = rk_on Γ.n h.some q (dv_new Γ.n h.some p h.new)

        low₁ : Γ.active ≤ r₁.st.free
        low₁ = omega (arith, takes_more Γ.active g r₁.st.free r₁.rkv takes₁, h.locals)

-- ---- `code_arith`

folded : (o : Arith) (e₁ e₂ : ExprContext) (t : Bool) → (is_numeral e₁ && is_numeral e₂) ≡ t → const_fold o e₁ e₂ ≡ elim t [ true ↦ fold_of o e₁.nval e₂.nval | false ↦ None ]
folded o e₁ e₂ t z = ap (λ (b : Bool). elim b [ true ↦ fold_of o e₁.nval e₂.nval | false ↦ None ]) z

-- a numeral tested on both sides
fold_is : (o : Arith) (e₁ e₂ : ExprContext) (n k : Option ℕ) → Num e₁ n → Num e₂ k → const_fold o e₁ e₂ ≡ folds o n k
fold_is o e₁ e₂ none none p q = folded o e₁ e₂ false (rw p refl)
fold_is o e₁ e₂ none (some b) p q = folded o e₁ e₂ false (rw p refl)
fold_is o e₁ e₂ (some a) none p q = folded o e₁ e₂ false (rw (numeral_true e₁ a p, q) refl)
fold_is o e₁ e₂ (some a) (some b) p q = folded o e₁ e₂ true (rw (numeral_true e₁ a p, numeral_true e₂ b q) refl) ∙ rw (p.double, q.double) refl

-- the left side, and a descriptor, as numerals
pub left_num : (s : State) (e : ExprContext) (n : Option ℕ) (x : RkS) (τ : St) → Left s e n x τ → Num e n
left_num s e none x τ w = go x.rkv w.0
  where
    go : (y : Rk) → Operand s e τ y → is_numeral e ≡ false
    go (reg r) h = rw (ap (λ z. eqb (tag_of z) 4) h.0) refl
    go (con v) h = rw (ap (λ z. eqb (tag_of z) 4) h.0) refl
left_num s e (some b) x τ w = w

pub desc_num : {Γ : Env} {s : State} {m : Buffers} {e : ExprContext} (p : Pair) → SimD Γ s m e p → Num e (numeral (dv p))
desc_num {Γ = Γ} {s = s} {m = m} {e = e} p d = go (numeral (dv p)) (numeral_is p d)
  where
    go : (n : Option ℕ) → NumIs Γ s m e n (dv p).st → Num e n
    go none h = h
    go (some b) h = h.0

-- a numeral takes no register
num_own : (active g v : ℕ) (t : Bool) (k : K4) (m : ℕ) → num_k t k ≡ some v → Own4 active g k m → m ≡ g
num_own active g v true k m e o = absurd (let y : ◌≡◌ {A = ℕ} 0 1 = cc in omega arith)
num_own active g v false (kc c) m e o = o
num_own active g v false (kr u r) m e o = absurd (let y : ◌≡◌ {A = ℕ} 0 1 = cc in omega arith)
num_own active g v false (kx x) m e o = absurd (let y : ◌≡◌ {A = ℕ} 0 1 = cc in omega arith)
num_own active g v false (kj a c x y) m e o = absurd (let y : ◌≡◌ {A = ℕ} 0 1 = cc in omega arith)

pub numeral_own : (active g : ℕ) (q : Par4) (v : ℕ) → numeral q ≡ some v → Own4 active g q.de.k4 q.st.free → q.st.free ≡ g
unfolding numeral
numeral_own active g q v e o = num_own active g v (hit false q.de.tl q.de.fl q.st.code) q.de.k4 q.st.free e o

module _ (Γ : Env) (s : State) (m : Buffers) (e₁ e₂ : ExprContext) (f g : ℕ) (n : Option ℕ) (x : RkS) (p : Pair) (h : Sound Γ g p) (d : SimD Γ s m e₂ p) (l : Left s e₁ n x p.st) (k : LeftTakes Γ.active f g n x) (la : Γ.active ≤ f) (o : Arith) (two : Binary o) where
  -- the word
  emitted : Ends (emit_arith o e₁ e₂ s m) (λ e' s' m'. SimD Γ s' m' e' (ari_join None o f n x (dv p)))
  unfolding emit_arith ari_join right_first flush
  emitted = both_right_first Γ s m e₁ e₂ f g n x p h d l k la (λ b c. free_both b c >> (emit (abc_of (arith_op o) 0 (rk b) (rk c)) >>= (λ pc. return (with_kind kind.Relocable pc b)))) _ (λ b c s₄ m₄ w.
      rw (w.freed, then_done {A = Unit {0}} tt (with_free f s₄) m₄ (λ _. emit (abc_of (arith_op o) 0 (rk b) (rk c)) >>= (λ pc. return (with_kind kind.Relocable pc b))))
      (ends_then (sim_emit (sim_fewer w.now.sim f w.fewer) (setw 0 (ari o r.rkv (exp2rk_l (dv p)).rkv)) (abc_of (arith_op o) 0 (rk b) (rk c)) refl
      (λ us z. (omega (arith, w.now.sim.two), (rk b, (rk c, (two, (operand_codes s₄ b r.st r.rkv w.left, (operand_codes s₄ c r.st (exp2rk_l (dv p)).rkv w.right, z))))))))
      (λ pc s₅ m₅ y. gives _ s₅ m₅ refl (fresh_held (set_h 0 0 w.now.heads) (pl (setw 0 (ari o r.rkv (exp2rk_l (dv p)).rkv))) _ (kd (kx (ari o r.rkv (exp2rk_l (dv p)).rkv))) f f (flush r.st) tt under w.trues w.falses y.1.1
      (refl, (y.0 ∙ sym (size_edit (here r.st.code) r.st.code), (rw (same_refl 0) refl, y.1.1)))))))
    where
      r : RkS
      r = late_of n x (exp2rk_l (dv p)).st

      on : On Γ.n r.st
      on = late_of_on Γ.n h.some n x (exp2rk_l (dv p)).st (rk_on Γ.n h.some (dv p) (dv_new Γ.n h.some p h.new))

      under : Under r.st.nxt (flush r.st).code
      under = flush_u r.st.nxt (omega (arith, on.up, h.some)) r.st on.old

  -- folded
  done_now : (z : Numeral') → folds o n (numeral (dv p)) ≡ Some z → Ends (return (with_number z e₁) s m) (λ e' s' m'. SimD Γ s' m' e' (ari_join (Some z) o f n x (dv p)))
  unfolding ari_join
  done_now z eq = go n (numeral (dv p)) l k (numeral_is p d) (λ v y. numeral_own Γ.active g (dv p) v y (sound_dv p h).own) eq
    where
      under : Under (dv p).st.nxt (dv p).st.code
      under = (dv_new Γ.n h.some p h.new).on.old

      go : (n w : Option ℕ) → Left s e₁ n x p.st → LeftTakes Γ.active f g n x → NumIs Γ s m e₂ w (dv p).st → ((v : ℕ) → w ≡ some v → (dv p).st.free ≡ g) → folds o n w ≡ Some z →
          Ends (return (with_number z e₁) s m) (λ e' s' m'. SimD Γ s' m' e' (fresh (kd (kc (number z.bits))) f (dv p).st))
      go none none l k i fr eq = absurd (let y : ◌≡◌ {A = ℕ} 0 1 = cc in omega arith)
      go none (some v) l k i fr eq = absurd (let y : ◌≡◌ {A = ℕ} 0 1 = cc in omega arith)
      go (some u) none l k i fr eq = absurd (let y : ◌≡◌ {A = ℕ} 0 1 = cc in omega arith)
      go (some u) (some v) l k i fr eq =
          let free : (dv p).st.free ≡ f = fr v refl ∙ k in
          gives _ s m refl (fresh_desc (with_number z e₁) (kd (kc (number z.bits))) f (dv p).st under l.trues l.falses i.1 ((l.kind, (refl, ap (λ w. w.value) (fold_bits o u v eq))), rw (← free) i.1.sim))

  pub sim_arith : Ends (code_arith o e₁ e₂ s m) (λ e' s' m'. SimD Γ s' m' e' (ari_join (folds o n (numeral (dv p))) o f n x (dv p)))
  unfolding code_arith
  sim_arith = rw (fold_is o e₁ e₂ n (numeral (dv p)) (left_num s e₁ n x p.st l) (desc_num p d)) (go (folds o n (numeral (dv p))) refl)
    where
      go : (w : Fold) → folds o n (numeral (dv p)) ≡ w → Ends (unless_folded w e₁ (emit_arith o e₁ e₂) s m) (λ e' s' m'. SimD Γ s' m' e' (ari_join w o f n x (dv p)))
      go (Some z) eq = done_now z eq
      go None eq = emitted
