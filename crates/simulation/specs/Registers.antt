-- Registers: reserving raises the frame and is refused above 250; freeing takes back the topmost temporary. Words, lists and constants are as they were.
use Rattle.std.specs.Prelude.{ℕ, suc, ◌+◌, ◌≤◌, ◌<◌, max, Bool, true, false, ◌&&◌, ◌≡◌, refl, List, eqb, leb, ltb}
use Rattle.std.proofs.Common.{ap, ◌∙◌, arith, leb-true, le-leb, lt-ltb, le-ltb, eq-eqb}
use Rattle.std.proofs.lemmas.Bool.{lt-leb}
use Rattle.instructions.specs.Limits.{max_stack, bit_rk}
use Rattle.refusals.specs.declared.Refusal.TheVariants.{Registers}
use Rattle.constants.specs.Entry.{Constant}
use Rattle.model.specs.declared.State.{State}
use Rattle.model.specs.Steps.{Buffers, done, refused, Step, and_then, change, refuse, skip}
use Rattle.model.specs.Emission.{with_free, with_frame, check_stack, reserve_regs, alloc_reg, free_reg}
use Rattle.labelled.specs.Code.{Code}
use Rattle.labelled.specs.Machine.{pick}
use Rattle.labelled.specs.Places.{grows_refl}
use Rattle.threads.specs.Holding.{Ends, gives, refuses, ends_then, ends_map}
use Rattle.threads.specs.Stepping.{hold_same, hold_grow}
use Rattle.threads.specs.Coded.{more_coded, low_more}
use Rattle.simulation.specs.Sim.{Env, Sim, drop}
use Rattle.simulation.specs.Steps.{marks_same}

-- a test between two steps, seen from outside
pub chosen : {A : Type 0} (b : Bool) (x y : Step A) (s : State) (m : Buffers) → (elim b as (λ (_ : Bool). Step A) [ true ↦ x | false ↦ y ]) s m ≡ pick b (x s m) (y s m)
chosen true x y s m = refl
chosen false x y s m = refl

check_is : (n : ℕ) (s : State) (m : Buffers) → check_stack n s m ≡ pick (leb (s.free + n) max_stack) (done tt (with_frame (max s.frame (s.free + n)) s) m) (refused Registers m)
unfolding check_stack and_then
check_is n s m = chosen (leb (s.free + n) max_stack) (change (with_frame (max s.frame (s.free + n)))) (refuse Registers) s m

then_pick : (b : Bool) (n : ℕ) (s₁ : State) (m : Buffers) → and_then (pick b (done (tt {0}) s₁ m) (refused Registers m)) (λ _ s m. done (tt {0}) (with_free (s.free + n) s) m) ≡ pick b (done tt (with_free (s₁.free + n) s₁) m) (refused Registers m)
unfolding and_then
then_pick true n s₁ m = refl
then_pick false n s₁ m = refl

pub reserve_is : (n : ℕ) (s : State) (m : Buffers) → reserve_regs n s m ≡ pick (leb (s.free + n) max_stack) (done tt (with_free (s.free + n) (with_frame (max s.frame (s.free + n)) s)) m) (refused Registers m)
unfolding reserve_regs and_then
reserve_is n s m = ap (λ r. and_then r (λ _ s m. done (tt {0}) (with_free (s.free + n) s) m)) (check_is n s m) ∙ then_pick (leb (s.free + n) max_stack) n (with_frame (max s.frame (s.free + n)) s) m

pub alloc_is : (s : State) (m : Buffers) → alloc_reg s m ≡ and_then (reserve_regs 1 s m) (λ _ s₁ m₁. done s.free s₁ m₁)
unfolding alloc_reg and_then
alloc_is s m = refl

pub free_is : (r : ℕ) (s : State) (m : Buffers) → free_reg r s m ≡ done tt (with_free (drop s.active r s.free) s) m
unfolding free_reg and_then drop
free_is r s m = chosen (leb s.active r && (ltb r bit_rk && eqb (r + 1) s.free)) (change (with_free r)) skip s m ∙ freed (leb s.active r && (ltb r bit_rk && eqb (r + 1) s.free))
  where
    freed : (b : Bool) → pick b (done (tt {0}) (with_free r s) m) (done tt s m) ≡ done tt (with_free (elim b [ true ↦ r | false ↦ s.free ]) s) m
    freed true = refl
    freed false = refl

-- a local stays, the topmost temporary goes, what is no register stays
pub drop_low : (active r m : ℕ) → r < active → drop active r m ≡ m
unfolding drop
drop_low active r m l = ap (λ (b : Bool). elim (b && (ltb r bit_rk && eqb (r + 1) m)) [ true ↦ r | false ↦ m ]) (lt-leb active r l)

pub drop_top : (active r m : ℕ) → active ≤ r → r < bit_rk → m ≡ suc r → drop active r m ≡ r
unfolding drop
drop_top active r m a b e =
    let z : (leb active r && (ltb r bit_rk && eqb (r + 1) m)) ≡ true = rw (le-leb active r a, lt-ltb r bit_rk b, eq-eqb (r + 1) m (omega arith)) refl in
    ap (λ (b : Bool). elim b [ true ↦ r | false ↦ m ]) z

pub drop_rk : (active r m : ℕ) → bit_rk ≤ r → drop active r m ≡ m
unfolding drop
drop_rk active r m l = ap (λ (b : Bool). elim b [ true ↦ r | false ↦ m ]) (none (leb active r) (ltb r bit_rk) (eqb (r + 1) m) (le-ltb r bit_rk l))
  where
    none : (a b d : Bool) → b ≡ false → (a && (b && d)) ≡ false
    none true b d e = rw e refl
    none false b d e = refl

-- whatever code stands, it stands on with g registers taken
abbrev pub Moves : Env → State → Buffers → ℕ → State → Buffers → ℕ → Type 0
Moves Γ s m f s' m' g = (H : ℕ → ℕ) (c : Code) (t : List Constant) → Sim Γ s m H c f t → Sim Γ s' m' H c g t

module _ (Γ : Env) {s : State} {m : Buffers} {f : ℕ} (is : s.free ≡ f) where
  -- f + n registers taken
  pub reserve_any : (n : ℕ) → Ends (reserve_regs n s m) (λ u s' m'. (m' ≡ m) × ((s.frame ≤ s'.frame) × ((m₀ : Buffers) → Moves Γ s m₀ f s' m₀ (f + n))))
  reserve_any n = rw (reserve_is n s m) (go (leb (s.free + n) max_stack) refl)
    where
      k : ℕ
      k = max s.frame (s.free + n)

      go : (b : Bool) → leb (s.free + n) max_stack ≡ b → Ends (pick b (done (tt {0}) (with_free (s.free + n) (with_frame k s)) m) (refused Registers m)) (λ u s' m'. (m' ≡ m) × ((s.frame ≤ s'.frame) × ((m₀ : Buffers) → Moves Γ s m₀ f s' m₀ (f + n))))
      go false e = refuses Registers m refl refl
      go true e = gives tt _ m refl (
        refl,
        (
          omega arith,
          λ m₀ H c t h. record {
            holds = hold_same (hold_grow h.holds (more_coded t t s.frame k (grows_refl t) (omega arith))) (with_free (s.free + n) (with_frame k s)) m₀ refl refl refl;
            low = low_more s.frame k (omega arith) c h.low;
            free = omega (arith, h.free);
            taken = omega (arith, h.free);
            two = omega (arith, h.two);
            most = omega (arith, h.most, leb-true (s.free + n) max_stack e);
            least = omega (arith, h.least);
            locals = h.locals;
            at = h.at;
            line = h.line;
            table = h.table;
            label = h.label;
            marks = marks_same h c _ refl refl h.marks;
            others = h.others;
          },
        ),
      )

  pub sim_reserve : (n : ℕ) → Ends (reserve_regs n s m) (λ u s' m'. (m' ≡ m) × ((s.frame ≤ s'.frame) × Moves Γ s m f s' m' (f + n)))
  sim_reserve n = ends_map (reserve_any n) (λ u s' m' p. (p.0, (p.1.0, rw p.0 (p.1.1 m))))

  -- `alloc_reg`: register f
  pub sim_alloc : Ends (alloc_reg s m) (λ r s' m'. (r ≡ f) × ((m' ≡ m) × ((s.frame ≤ s'.frame) × Moves Γ s m f s' m' (suc f))))
  sim_alloc = rw (alloc_is s m) (ends_then (sim_reserve 1) (λ u s' m' q.
      let z : f + 1 ≡ suc f = omega arith in
      gives s.free s' m' refl (is, (q.0, (q.1.0, λ H c t h. rw z at (q.1.1 H c t h))))))

-- fewer registers taken
pub sim_fewer : {Γ : Env} {s : State} {m : Buffers} {H : ℕ → ℕ} {c : Code} {f : ℕ} {t : List Constant} (h : Sim Γ s m H c f t) (g : ℕ) → g ≤ f → Sim Γ (with_free g s) m H c g t
sim_fewer {s = s} {m = m} {c = c} h g l = record {
  holds = hold_same h.holds (with_free g s) m refl refl refl;
  low = h.low;
  free = refl;
  taken = omega (arith, h.taken);
  two = h.two;
  most = h.most;
  least = h.least;
  locals = h.locals;
  at = h.at;
  line = h.line;
  table = h.table;
  label = h.label;
  marks = marks_same h c _ refl refl h.marks;
  others = h.others;
}
