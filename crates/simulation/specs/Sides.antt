-- The two operands of arithmetic and of comparisons: the left one goes to RK before the right one is lowered, unless it is a numeral, which waits. Both sides agree on what is a numeral.
use Rattle.std.specs.Prelude.{ℕ, ◌≤◌, Bool, true, not, ◌&&◌, ◌||◌, ◌≡◌, eqb}
use Rattle.std.proofs.Math.Bool.{false}
use Rattle.std.proofs.Math.Path.{refl}
use Rattle.std.proofs.Common.{ap, ◌∙◌}
use Rattle.std.proofs.Math.Option.{Option, some, none}
use Rattle.constants.specs.Entry.{nil, truth, number, text}
use Rattle.model.specs.declared.ExprKind.TheVariants as kind
use Rattle.model.specs.declared.ExprContext.{ExprContext}
use Rattle.model.specs.declared.State.{State}
use Rattle.model.specs.Descriptor.{is_kind, is_numeral, tag_of}
use Rattle.model.specs.Steps.{Buffers, done, return}
use Rattle.model.specs.Discharge.{exp2rk}
use Rattle.model.specs.Operators.{operand}
use Rattle.labelled.specs.Code.{same}
use Rattle.labelled.specs.Machine.{pick}
use Rattle.labelled.specs.Emission.{St, hit}
use Rattle.labelled.specs.Firm.{true≢false}
use Rattle.labelled.specs.Fresh.{On}
use Rattle.labelled.specs.Discharge.{K4, kc, kr, kx, kj, K, kd, kl, kg, ki, kcl, kva, Pair, RkS, dv_k, dv_s, dv}
use Rattle.labelled.specs.Operators.{num_k, numeral, left_of, late_of}
use Rattle.threads.specs.Needs.{some_hit}
use Rattle.threads.specs.Holding.{Ends, gives}
use Rattle.simulation.specs.Sim.{Env, Sim, Sims, SimD, Operand, SimK, Sound}
use Rattle.simulation.specs.Absent.{no_lists}
use Rattle.simulation.specs.Registers.{chosen}
use Rattle.simulation.specs.Operands.{sim_rk, operand_stays}
use Rattle.simulation.specs.Late.{Numeral, sim_late_number}

-- ---- numerals

-- the bits of a numeral, or an operand
abbrev pub SimL : Env → State → Buffers → ExprContext → Option ℕ → RkS → Type 0
SimL Γ s m e none x = SimK Γ s m e x
SimL Γ s m e (some b) x = Numeral e b × Sims Γ s m x.st

abbrev pub NumIs : Env → State → Buffers → ExprContext → Option ℕ → St → Type 0
NumIs Γ s m e none τ = is_numeral e ≡ false
NumIs Γ s m e (some b) τ = Numeral e b × Sims Γ s m τ

abbrev is_num : K4 → Bool
is_num (kc nil) = false
is_num (kc (truth b)) = false
is_num (kc (number n)) = true
is_num (kc (text x)) = false
is_num (kr u r) = false
is_num (kx x) = false
is_num (kj o c x y) = false

-- what is known of it while the right side is lowered
abbrev pub Left : State → ExprContext → Option ℕ → RkS → St → Type 0
Left s e none x τ = Operand s e τ x.rkv × ((e.t ≡ 0) × (e.f ≡ 0))
Left s e (some b) x τ = Numeral e b

-- a descriptor of another kind is no numeral
other_kind : (e : ExprContext) → is_kind kind.KNum e ≡ false → is_numeral e ≡ false
other_kind e q = rw q refl

operand_is : (e : ExprContext) (s : State) (m : Buffers) → operand e s m ≡ pick (is_numeral e) (done e s m) (exp2rk e s m)
unfolding operand
operand_is e s m = chosen (is_numeral e) (return e) (exp2rk e) s m

module _ (Γ : Env) (s : State) (m : Buffers) (e : ExprContext) (σ : St) (tl fl : ℕ) where
  abbrev P : K → Pair
  P k = record { st = σ; de = record { kind = k; tl = tl; fl = fl } }

  abbrev Goal : K → Type 0
  Goal k = SimD Γ s m e (P k) → NumIs Γ s m e (numeral (dv (P k))) (dv (P k)).st

  by_rk : (k : K) → is_kind kind.KNum e ≡ false → numeral (dv (P k)) ≡ none → Goal k
  by_rk k q z d = rw z (other_kind e q)

  num_other : (b : Bool) (k : K4) → is_num k ≡ false → num_k b k ≡ none
  num_other true k z = refl
  num_other false (kc nil) z = refl
  num_other false (kc (truth b)) z = refl
  num_other false (kc (number n)) z = absurd (true≢false z)
  num_other false (kc (text x)) z = refl
  num_other false (kr u r) z = refl
  num_other false (kx x) z = refl
  num_other false (kj o c x y) z = refl

  none_of : (k : K) → is_num (dv_k k) ≡ false → numeral (dv (P k)) ≡ none
  unfolding numeral
  none_of k z = num_other (hit false tl fl (dv_s k σ).code) (dv_k k) z

  -- a number, with jumps or without
  a_number : (n : ℕ) → Goal (kd (kc (number n)))
  unfolding numeral dv_s same
  a_number n d = go (hit false tl fl σ.code) refl
    where
      now : Sim Γ s m d.heads σ.code σ.free σ.tab
      now = d.is.1

      tests : (x y : Bool) → (x && y) ≡ not (not x || not y)
      tests true true = refl
      tests true false = refl
      tests false y = refl

      test : is_numeral e ≡ not (hit false tl fl σ.code)
      test = rw (ap (λ z. eqb (tag_of z) 4) d.is.0.0, d.trues, d.falses) (tests (eqb (d.heads tl) 0) (eqb (d.heads fl) 0) ∙ ap not (some_hit now.holds.rep tl fl))

      go : (b : Bool) → hit false tl fl σ.code ≡ b → NumIs Γ s m e (num_k b (kc (number n))) σ
      go true z = test ∙ ap not z
      go false z = let none = no_lists now tl fl z in (record { kind = d.is.0.0; bits = d.is.0.1.0; double = d.is.0.1.1; trues = d.trues ∙ none.0; falses = d.falses ∙ none.1 }, record { heads = d.heads; sim = now })

  num_at : (k : K) → Goal k
  num_at (kd (kc nil)) d = by_rk (kd (kc nil)) (ap (λ z. eqb (tag_of z) 4) d.is.0) (none_of (kd (kc nil)) refl) d
  num_at (kd (kc (truth true))) d = by_rk (kd (kc (truth true))) (ap (λ z. eqb (tag_of z) 4) d.is.0) (none_of (kd (kc (truth true))) refl) d
  num_at (kd (kc (truth false))) d = by_rk (kd (kc (truth false))) (ap (λ z. eqb (tag_of z) 4) d.is.0) (none_of (kd (kc (truth false))) refl) d
  num_at (kd (kc (number n))) d = a_number n d
  num_at (kd (kc (text x))) d = by_rk (kd (kc (text x))) (ap (λ z. eqb (tag_of z) 4) d.is.0.0) (none_of (kd (kc (text x))) refl) d
  num_at (kd (kr u r)) d = by_rk (kd (kr u r)) (ap (λ z. eqb (tag_of z) 4) d.is.0) (none_of (kd (kr u r)) refl) d
  num_at (kd (kx x)) d = by_rk (kd (kx x)) (ap (λ z. eqb (tag_of z) 4) d.is.0) (none_of (kd (kx x)) refl) d
  num_at (kd (kj o c x y)) d = by_rk (kd (kj o c x y)) (ap (λ z. eqb (tag_of z) 4) d.is.0) (none_of (kd (kj o c x y)) refl) d
  num_at (kl r) d = by_rk (kl r) (ap (λ z. eqb (tag_of z) 4) d.is.0) (none_of (kl r) refl) d
  num_at (kg g) d = by_rk (kg g) (ap (λ z. eqb (tag_of z) 4) d.is.0) (none_of (kg g) refl) d
  num_at (ki g r x) d = by_rk (ki g r x) (ap (λ z. eqb (tag_of z) 4) d.is.0) (none_of (ki g r x) refl) d
  num_at (kcl u) d = by_rk (kcl u) (ap (λ z. eqb (tag_of z) 4) d.is.0) (none_of (kcl u) refl) d
  num_at kva d = by_rk kva (ap (λ z. eqb (tag_of z) 4) d.is.0) (none_of kva refl) d

-- whether a descriptor is a numeral
pub numeral_is : {Γ : Env} {s : State} {m : Buffers} {e : ExprContext} (p : Pair) → SimD Γ s m e p → NumIs Γ s m e (numeral (dv p)) (dv p).st
numeral_is {Γ = Γ} {s = s} {m = m} {e = e} p d = num_at Γ s m e p.st p.de.tl p.de.fl p.de.kind d

pub numeral_true : (e : ExprContext) (b : ℕ) → Numeral e b → is_numeral e ≡ true
numeral_true e b n = rw (ap (λ z. eqb (tag_of z) 4) n.kind, n.trues, n.falses) refl

-- `operand`: the left side
pub sim_operand : {Γ : Env} {s : State} {m : Buffers} {e : ExprContext} {f : ℕ} (p : Pair) → Sound Γ f p → SimD Γ s m e p → Ends (operand e s m) (λ e' s' m'. SimL Γ s' m' e' (numeral (dv p)) (left_of (numeral (dv p)) (dv p)))
sim_operand {Γ = Γ} {s = s} {m = m} {e = e} p h d = rw (operand_is e s m) (go (numeral (dv p)) (numeral_is p d))
  where
    go : (n : Option ℕ) → NumIs Γ s m e n (dv p).st → Ends (pick (is_numeral e) (done e s m) (exp2rk e s m)) (λ e' s' m'. SimL Γ s' m' e' n (left_of n (dv p)))
    go none q = rw q (sim_rk p h d)
    go (some b) q = rw (numeral_true e b q.0) (gives e s m refl (q.0, q.1))

-- ---- behind the right operand

-- the left side is an operand now
pub sim_late : {Γ : Env} {s : State} {m : Buffers} (e : ExprContext) (n : Option ℕ) (x : RkS) (τ : St) → 1 ≤ Γ.n → On Γ.n τ → Γ.active ≤ τ.free → Sims Γ s m τ → Left s e n x τ → Ends (exp2rk e s m) (λ e' s' m'. SimK Γ s' m' e' (late_of n x τ))
sim_late {s = s} {m = m} e none x τ o on la h w = gives e s m (operand_stays e s s m τ x.rkv w.0 w.1.0 w.1.1) (record { is = w.0; trues = w.1.0; falses = w.1.1; now = h })
sim_late e (some b) x τ o on la h w = sim_late_number e τ o on la h b w
