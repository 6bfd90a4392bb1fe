-- Which register an operand takes, and that freeing two of them, the higher first, gives back all that they took. An operand is a constant, a local, or the first free register.
use Prim.Native.Nat.{ℕ, suc, ◌+◌, ◌%◌, ◌≤◌, ◌<◌}
use Rattle.std.specs.Prelude.{Bool, ◌≡◌, ltb}
use Rattle.std.proofs.Math.Bool.{true, false}
use Rattle.std.proofs.Math.Path.{refl, sym, ap}
use Rattle.std.proofs.Common.{◌∙◌, arith, ltb-true, ltb-false}
use Rattle.std.proofs.Math.Dec.{eqb}
use Rattle.instructions.specs.Limits.{bit_rk, max_stack}
use Rattle.constants.specs.Entry.{Constant}
use Rattle.model.specs.declared.ExprKind.TheVariants as kind
use Rattle.model.specs.declared.ExprContext.{ExprContext}
use Rattle.model.specs.declared.State.{State}
use Rattle.model.specs.Descriptor.{is_kind, tag_of}
use Rattle.model.specs.Steps.{Buffers, Result, done, and_then, skip}
use Rattle.model.specs.Emission.{with_free, free_reg}
use Rattle.model.specs.Discharge.{free_expr, rk}
use Rattle.model.specs.Operators.{free_in_turn, free_both}
use Rattle.labelled.specs.Code.{Rk, reg, con}
use Rattle.labelled.specs.Machine.{pick}
use Rattle.labelled.specs.Table.{roomy, is_near}
use Rattle.labelled.specs.Emission.{St, hit}
use Rattle.labelled.specs.Discharge.{K4, kc, kr, kx, kj, Par4, nextreg, via_reg, any_k, anyreg, con_rk, small_rk, add_p, rk_c, rk_k, exp2rk}
use Rattle.labelled.specs.Owning.{Own4, freed_own}
use Rattle.constants.specs.Entry.{nil, truth, number, text}
use Rattle.simulation.specs.Sim.{drop, Operand}
use Rattle.simulation.specs.Registers.{chosen, free_is, drop_low, drop_top, drop_rk}

-- ---- an operand with f registers taken before it and g with it

pub data Takes (active f g : ℕ) : Rk → Type 0 where
  constant : {v : _} → g ≡ f → Takes active f g (con v)
  local : {r : ℕ} → r < active → g ≡ f → Takes active f g (reg r)
  temporary : {r : ℕ} → r ≡ f → g ≡ suc f → Takes active f g (reg r)

-- what `exp2anyreg` and `exp2rk` take
module _ (active : ℕ) where
  next_takes : (q : Par4) (f : ℕ) → Own4 active f q.de.k4 q.st.free → Takes active f (via_reg q).st.free (reg (via_reg q).rgn)
  unfolding nextreg
  next_takes q f o = let e = freed_own active q.de.k4 f q.st.free o in temporary e (ap suc e)

  any_takes' : (b : Bool) (k : K4) (q : Par4) (f : ℕ) → q.de.k4 ≡ k → Own4 active f q.de.k4 q.st.free → Own4 active f k q.st.free → Takes active f (any_k b k q).st.free (reg (any_k b k q).rgn)
  unfolding any_k
  any_takes' true k q f z o w = next_takes q f o
  any_takes' false (kc v) q f z o w = next_takes q f o
  any_takes' false (kr true r) q f z o w = temporary w.0 w.1
  any_takes' false (kr false r) q f z o w = local w.1 w.0
  any_takes' false (kx x) q f z o w = next_takes q f o
  any_takes' false (kj a c x y) q f z o w = next_takes q f o

  pub any_takes : (q : Par4) (f : ℕ) → Own4 active f q.de.k4 q.st.free → Takes active f (anyreg q).st.free (reg (anyreg q).rgn)
  unfolding anyreg
  any_takes q f o = any_takes' (hit false q.de.tl q.de.fl q.st.code) q.de.k4 q f refl o o

  con_takes : (b : Bool) (c : Constant) (q : Par4) (f : ℕ) → Own4 active f q.de.k4 q.st.free → q.st.free ≡ f → Takes active f (con_rk b c q).st.free (con_rk b c q).rkv
  con_takes true c q f o e = constant e
  con_takes false c q f o e = any_takes q f o

  small_takes : (b : Bool) (c : Constant) (q : Par4) (f : ℕ) → Own4 active f q.de.k4 q.st.free → q.st.free ≡ f → Takes active f (small_rk b c q).st.free (small_rk b c q).rkv
  small_takes true c q f o e = constant e
  small_takes false c q f o e = any_takes q f o

  rk_c_takes : (v : Constant) (q : Par4) (f : ℕ) → Own4 active f q.de.k4 q.st.free → q.st.free ≡ f → Takes active f (rk_c v q).st.free (rk_c v q).rkv
  unfolding rk_c
  rk_c_takes nil q f o e = small_takes (roomy q.st.tab) nil q f o e
  rk_c_takes (truth b) q f o e = small_takes (roomy q.st.tab) (truth b) q f o e
  rk_c_takes (number n) q f o e = con_takes (is_near (number n) q.st.tab) (number n) (add_p (number n) q) f o e
  rk_c_takes (text x) q f o e = con_takes (is_near (text x) q.st.tab) (text x) q f o e

  rk_takes' : (b : Bool) (k : K4) (q : Par4) (f : ℕ) → Own4 active f q.de.k4 q.st.free → Own4 active f k q.st.free → Takes active f (rk_k b k q).st.free (rk_k b k q).rkv
  unfolding rk_k
  rk_takes' true k q f o w = any_takes q f o
  rk_takes' false (kc v) q f o w = rk_c_takes v q f o w
  rk_takes' false (kr u r) q f o w = any_takes q f o
  rk_takes' false (kx x) q f o w = any_takes q f o
  rk_takes' false (kj a c x y) q f o w = any_takes q f o

  pub rk_takes : (q : Par4) (f : ℕ) → Own4 active f q.de.k4 q.st.free → Takes active f (exp2rk q).st.free (exp2rk q).rkv
  unfolding exp2rk
  rk_takes q f o = rk_takes' (hit false q.de.tl q.de.fl q.st.code) q.de.k4 q f o o

-- ---- freeing

-- the number of an operand: a register's is below 256, a constant's is not
abbrev pub Numbers : ℕ → Rk → Type 0
Numbers u (reg r) = (u ≡ r) × (r < bit_rk)
Numbers u (con v) = bit_rk ≤ u

module _ (active f g : ℕ) (low : active ≤ f) where
  pub drop_one : (x : Rk) (u : ℕ) → Takes active f g x → Numbers u x → drop active u g ≡ f
  drop_one (con v) u (constant e) n = drop_rk active u g n ∙ e
  drop_one (reg r) u (local l e) n = drop_low active u g (omega (arith, n.0)) ∙ e
  drop_one (reg r) u (temporary z e) n = drop_top active u g (omega (arith, n.0)) (omega (arith, n.0, n.1)) (omega (arith, n.0)) ∙ (n.0 ∙ z)

  module _ (h : ℕ) where
    -- the later one first
    pub drop_two : (x y : Rk) (u v : ℕ) → Takes active f g x → Takes active g h y → active ≤ g → Numbers u x → Numbers v y → drop active u (drop active v h) ≡ f
    drop_two x y u v p q l n k = rw (later active g h l y v q k) (drop_one x u p n)
      where
        later : (active g h : ℕ) → active ≤ g → (y : Rk) (v : ℕ) → Takes active g h y → Numbers v y → drop active v h ≡ g
        later active g h l (con w) v (constant e) n = drop_rk active v h n ∙ e
        later active g h l (reg r) v (local z e) n = drop_low active v h (omega (arith, n.0)) ∙ e
        later active g h l (reg r) v (temporary z e) n = drop_top active v h (omega (arith, n.0)) (omega (arith, n.0, n.1)) (omega (arith, n.0)) ∙ (n.0 ∙ z)

    -- the earlier one first, where it isn't the lower of two registers
    pub drop_two' : (x y : Rk) (u v : ℕ) → Takes active f g x → Takes active g h y → active ≤ g → Numbers u x → Numbers v y → (u < v → ⊥) → drop active v (drop active u h) ≡ f
    drop_two' (con w) y u v (constant e) q l n k o = rw (drop_rk active u h n) (same y v q k)
      where
        same : (y : Rk) (v : ℕ) → Takes active g h y → Numbers v y → drop active v h ≡ f
        same (con w) v (constant z) n = drop_rk active v h n ∙ z ∙ e
        same (reg r) v (local z y) n = drop_low active v h (omega (arith, n.0)) ∙ y ∙ e
        same (reg r) v (temporary z y) n = drop_top active v h (omega (arith, n.0)) (omega (arith, n.0, n.1)) (omega (arith, n.0)) ∙ (n.0 ∙ z ∙ e)
    drop_two' (reg r) y u v (local i e) q l n k o = rw (drop_low active u h (omega (arith, n.0))) (same y v q k)
      where
        same : (y : Rk) (v : ℕ) → Takes active g h y → Numbers v y → drop active v h ≡ f
        same (con w) v (constant z) n = drop_rk active v h n ∙ z ∙ e
        same (reg r) v (local z y) n = drop_low active v h (omega (arith, n.0)) ∙ y ∙ e
        same (reg r) v (temporary z y) n = drop_top active v h (omega (arith, n.0)) (omega (arith, n.0, n.1)) (omega (arith, n.0)) ∙ (n.0 ∙ z ∙ e)
    drop_two' (reg r) (con w) u v (temporary i e) (constant z) l n k o = rw (drop_top active u h (omega (arith, n.0)) (omega (arith, n.0, n.1)) (omega (arith, n.0))) (drop_rk active v u k ∙ (n.0 ∙ i))
    drop_two' (reg r) (reg q) u v (temporary i e) (local a z) l n k o = rw (drop_top active u h (omega (arith, n.0)) (omega (arith, n.0, n.1)) (omega (arith, n.0))) (drop_low active v u (omega (arith, k.0)) ∙ (n.0 ∙ i))
    drop_two' (reg r) (reg q) u v (temporary i e) (temporary a z) l n k o = absurd (o (omega (arith, n.0, k.0)))

pub takes_more : (active f g : ℕ) (x : Rk) → Takes active f g x → f ≤ g
takes_more active f g (con v) (constant e) = omega arith
takes_more active f g (reg r) (local l e) = omega arith
takes_more active f g (reg r) (temporary z e) = omega arith

-- ---- the model's steps

module _ (e : ExprContext) (s₀ : State) (σ : St) where
  pub operand_number : (x : Rk) → s₀.frame ≤ max_stack → Operand s₀ e σ x → Numbers (rk e) x
  operand_number (reg r) l h = (pick_is' h, omega (arith, h.1.1))
    where
      pick_is' : Operand s₀ e σ (reg r) → rk e ≡ r
      pick_is' h = ap (λ (b : Bool). elim b [ true ↦ e.info % bit_rk + bit_rk | false ↦ e.info ]) (ap (λ z. eqb (tag_of z) 3) h.0) ∙ h.1.0
  operand_number (con v) l h = let z : rk e ≡ e.info % bit_rk + bit_rk = ap (λ (b : Bool). elim b [ true ↦ e.info % bit_rk + bit_rk | false ↦ e.info ]) (ap (λ z. eqb (tag_of z) 3) h.0) in omega (arith, z)

  -- `free_expr` of an operand
  pub free_operand : (x : Rk) → s₀.frame ≤ max_stack → Operand s₀ e σ x → (s : State) (m : Buffers) → free_expr e s m ≡ done tt (with_free (drop s.active (rk e) s.free) s) m
  unfolding free_expr
  free_operand (reg r) l h s m = chosen (is_kind kind.NonReloc e) (free_reg e.info) skip s m ∙ rw (ap (λ z. eqb (tag_of z) 10) h.0) (free_is e.info s m ∙ ap (λ u. done tt (with_free (drop s.active u s.free) s) m) (h.1.0 ∙ sym (operand_number (reg r) l h).0))
  free_operand (con v) l h s m = chosen (is_kind kind.NonReloc e) (free_reg e.info) skip s m ∙ rw (ap (λ z. eqb (tag_of z) 10) h.0) (ap (λ u. done tt (with_free u s) m) (sym (drop_rk s.active (rk e) s.free (operand_number (con v) l h))))

-- `free_both`: of b, the left operand, and c, the right one, whichever was taken first
module _ (b c : ExprContext) (s₀ s : State) (m : Buffers) (σ : St) (active f g h : ℕ) (low : active ≤ f) (most : s₀.frame ≤ max_stack) (is : s.active ≡ active) (taken : s.free ≡ h) where
  abbrev freeing : ℕ → ℕ → Result (Unit {0})
  freeing a z = pick (ltb (rk c) (rk b)) (done tt (with_free (drop a (rk c) (drop a (rk b) z)) s) m) (done tt (with_free (drop a (rk b) (drop a (rk c) z)) s) m)

  both_is : (x y : Rk) → Operand s₀ b σ x → Operand s₀ c σ y → free_both b c s m ≡ freeing active h
  unfolding free_both free_in_turn and_then
  both_is x y p q = chosen (ltb (rk c) (rk b)) (free_in_turn b c) (free_in_turn c b) s m ∙ turns ∙ ap (λ a. freeing a s.free) is ∙ ap (freeing active) taken
    where
      turns : pick (ltb (rk c) (rk b)) (free_in_turn b c s m) (free_in_turn c b s m) ≡ freeing s.active s.free
      turns = rw (free_operand b s₀ σ x most p s m, free_operand c s₀ σ y most q s m, free_operand c s₀ σ y most q (with_free (drop s.active (rk b) s.free) s) m, free_operand b s₀ σ x most p (with_free (drop s.active (rk c) s.free) s) m) refl

  -- the left one was taken first
  pub free_both_is : (x y : Rk) → Operand s₀ b σ x → Operand s₀ c σ y → Takes active f g x → Takes active g h y → free_both b c s m ≡ done tt (with_free f s) m
  free_both_is x y p q k l = both_is x y p q ∙ go (ltb (rk c) (rk b)) refl
    where
      up : active ≤ g
      up = omega (arith, takes_more active f g x k)

      go : (t : Bool) → ltb (rk c) (rk b) ≡ t → pick t (done (tt {0}) (with_free (drop active (rk c) (drop active (rk b) h)) s) m) (done tt (with_free (drop active (rk b) (drop active (rk c) h)) s) m) ≡ done tt (with_free f s) m
      go true e = ap (λ z. done tt (with_free z s) m) (drop_two' active f g low h x y (rk b) (rk c) k l up (operand_number b s₀ σ x most p) (operand_number c s₀ σ y most q) (λ z. omega (arith, ltb-true (rk c) (rk b) e)))
      go false e = ap (λ z. done tt (with_free z s) m) (drop_two active f g low h x y (rk b) (rk c) k l up (operand_number b s₀ σ x most p) (operand_number c s₀ σ y most q))

  -- the right one was
  pub free_both_late : (x y : Rk) → Operand s₀ b σ x → Operand s₀ c σ y → Takes active g h x → Takes active f g y → free_both b c s m ≡ done tt (with_free f s) m
  free_both_late x y p q k l = both_is x y p q ∙ go (ltb (rk c) (rk b)) refl
    where
      up : active ≤ g
      up = omega (arith, takes_more active f g y l)

      go : (t : Bool) → ltb (rk c) (rk b) ≡ t → pick t (done (tt {0}) (with_free (drop active (rk c) (drop active (rk b) h)) s) m) (done tt (with_free (drop active (rk b) (drop active (rk c) h)) s) m) ≡ done tt (with_free f s) m
      go true e = ap (λ z. done tt (with_free z s) m) (drop_two active f g low h y x (rk c) (rk b) l k up (operand_number c s₀ σ y most q) (operand_number b s₀ σ x most p))
      go false e = ap (λ z. done tt (with_free z s) m) (drop_two' active f g low h y x (rk c) (rk b) l k up (operand_number c s₀ σ y most q) (operand_number b s₀ σ x most p) (λ z. omega (arith, ltb-false (rk c) (rk b) e)))
