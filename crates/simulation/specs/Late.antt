-- A constant that becomes an operand late: behind the right operand, or as the key of a method. `exp2rk` of its descriptor stands for labelled code's `late`, since it has no jumps: a label that is new has none.
use Rattle.std.specs.Prelude.{ℕ, ◌+◌, ◌≤◌, Bool, ◌≡◌, List, [], ◌∷◌}
use Rattle.std.proofs.Math.Bool.{true, false}
use Rattle.std.proofs.Math.Path.{refl}
use Rattle.std.proofs.Common.{sym, ◌∙◌, arith}
use Rattle.std.specs.Float.{binary64}
use Rattle.std.specs.Float.Ieee.{of_bits}
use Rattle.constants.specs.Entry.{Constant, number, text}
use Rattle.model.specs.Values.{value_of}
use Rattle.model.specs.declared.ExprKind.TheVariants as kind
use Rattle.model.specs.declared.ExprContext.{ExprContext}
use Rattle.model.specs.declared.State.{State}
use Rattle.model.specs.Steps.{Buffers}
use Rattle.model.specs.Discharge.{exp2rk}
use Rattle.labelled.specs.Code.{Rk, reg, con, val, setw, Instr, pl, Code, edit}
use Rattle.labelled.specs.Table.{place, include, is_near}
use Rattle.labelled.specs.Places.{Listed, listed_include, include_there}
use Rattle.labelled.specs.Emission.{St, add_k, labelled_with_free, push, here, hit}
use Rattle.labelled.specs.Fresh.{UnderI, Under, under_more, On, push_u}
use Rattle.labelled.specs.Discharge.{kc, K, kd, Par4, RkS, fresh, dv, dv_s, add_p, d2r, settle, e2r, nextreg, any_k, anyreg, con_rk, rk_c, rk_k, exp2rk as exp2rk_l, late}
use Rattle.threads.specs.Holding.{Ends, ends_map}
use Rattle.simulation.specs.Sim.{Env, Sim, Sims, Is, SimD, Operand, SimK, Sound}
use Rattle.labelled.specs.Owning.{Own}
use Rattle.labelled.specs.Sound.{OkK}
use Rattle.simulation.specs.Absent.{under_list, under_both}
use Rattle.simulation.specs.Operands.{sim_rk}

-- ---- states that differ in the next label alone

pub record Alike (σ τ : St) : Type 0 where
  pub code : σ.code ≡ τ.code
  pub free : σ.free ≡ τ.free
  pub tab : σ.tab ≡ τ.tab

pub sims_alike : {Γ : Env} {s : State} {m : Buffers} (σ τ : St) → Alike σ τ → Sims Γ s m σ → Sims Γ s m τ
sims_alike σ τ a h = record { heads = h.heads; sim = rw (← a.code, ← a.free, ← a.tab) h.sim }

operand_alike : (s : State) (e : ExprContext) (σ τ : St) (x : Rk) → Alike σ τ → Operand s e σ x → Operand s e τ x
operand_alike s e σ τ (reg r) a h = h
operand_alike s e σ τ (con v) a h = (h.0, rw (← a.tab) h.1)

pub rk_alike : {Γ : Env} {s : State} {m : Buffers} {e : ExprContext} (q r : RkS) → q.rkv ≡ r.rkv → Alike q.st r.st → SimK Γ s m e q → SimK Γ s m e r
rk_alike {s = s} {e = e} q r z a h = record { is = rw (← z) (operand_alike s e q.st r.st q.rkv a h.is); trues = h.trues; falses = h.falses; now = sims_alike q.st r.st a h.now }

-- ---- the descriptor of a constant, with two new labels

-- what it does to the state: a numeral is listed once more where it is loaded
module _ (c : Constant) (τ : St) (old : Under τ.nxt τ.code) where
  abbrev new₄ : Par4
  new₄ = dv (fresh (kd (kc c)) τ.free τ)

  unhit : (d : Code) → Under τ.nxt d → hit false τ.nxt (1 + τ.nxt) d ≡ false
  unhit d u = under_both τ.nxt τ.nxt (1 + τ.nxt) (omega arith) (omega arith) d u

module _ (τ : St) (pos : 1 ≤ τ.nxt) (old : Under τ.nxt τ.code) where
  -- the code that loads it, in which the new labels have no jump
  loads_in : (c : Constant) (r : ℕ) (t : List Constant) → hit false τ.nxt (1 + τ.nxt) (pl (setw r (val (value_of c))) ∷ edit (here τ.code) τ.code) ≡ false
  unfolding push
  loads_in c r t = unhit c τ old (pl (setw r (val (value_of c))) ∷ edit (here τ.code) τ.code) (push_u τ.nxt pos (pl (setw r (val (value_of c)))) τ tt old)

  module _ (b : ℕ) where
    abbrev cₙ : Constant
    cₙ = number b

    number_rk : exp2rk_l (new₄ cₙ τ old) ≡ con_rk (is_near cₙ τ.tab) cₙ (add_p cₙ (new₄ cₙ τ old))
    unfolding exp2rk_l rk_k rk_c fresh dv_s
    number_rk = rw (unhit cₙ τ old τ.code old) refl

    number_via : Alike (nextreg (add_p cₙ (new₄ cₙ τ old))) (late false cₙ (add_k cₙ τ)).st
    unfolding fresh dv_s nextreg e2r d2r push settle
    number_via = rw (loads_in cₙ τ.free []) (record { code = refl; free = refl; tab = include_there cₙ (include cₙ τ.tab) (listed_include cₙ τ.tab) })

    number_any : (x : Bool) → (reg (any_k x (kc cₙ) (add_p cₙ (new₄ cₙ τ old))).rgn ≡ reg τ.free) × Alike (any_k x (kc cₙ) (add_p cₙ (new₄ cₙ τ old))).st (late false cₙ (add_k cₙ τ)).st
    unfolding fresh dv_s any_k
    number_any true = (refl, number_via)
    number_any false = (refl, number_via)

    number_late : (t : Bool) → ((con_rk t cₙ (add_p cₙ (new₄ cₙ τ old))).rkv ≡ (late t cₙ (add_k cₙ τ)).rkv) × Alike (con_rk t cₙ (add_p cₙ (new₄ cₙ τ old))).st (late t cₙ (add_k cₙ τ)).st
    unfolding fresh dv_s anyreg
    number_late true = (refl, record { code = refl; free = refl; tab = refl })
    number_late false = number_any (hit false τ.nxt (1 + τ.nxt) τ.code)

  module _ (x : List ℕ) where
    abbrev cₜ : Constant
    cₜ = text x

    text_rk : exp2rk_l (new₄ cₜ τ old) ≡ con_rk (is_near cₜ τ.tab) cₜ (new₄ cₜ τ old)
    unfolding exp2rk_l rk_k rk_c fresh dv_s
    text_rk = rw (unhit cₜ τ old τ.code old) refl

    text_via : Alike (nextreg (new₄ cₜ τ old)) (late false cₜ τ).st
    unfolding fresh dv_s nextreg e2r d2r push settle
    text_via = rw (loads_in cₜ τ.free []) (record { code = refl; free = refl; tab = refl })

    text_any : (z : Bool) → (reg (any_k z (kc cₜ) (new₄ cₜ τ old)).rgn ≡ reg τ.free) × Alike (any_k z (kc cₜ) (new₄ cₜ τ old)).st (late false cₜ τ).st
    unfolding fresh dv_s any_k
    text_any true = (refl, text_via)
    text_any false = (refl, text_via)

    text_late : (t : Bool) → ((con_rk t cₜ (new₄ cₜ τ old)).rkv ≡ (late t cₜ τ).rkv) × Alike (con_rk t cₜ (new₄ cₜ τ old)).st (late t cₜ τ).st
    unfolding fresh dv_s anyreg
    text_late true = (refl, record { code = refl; free = refl; tab = refl })
    text_late false = text_any (hit false τ.nxt (1 + τ.nxt) τ.code)

-- ---- the step

-- a descriptor without jumps stands for a new one
pub fresh_desc : {Γ : Env} {s : State} {m : Buffers} (e : ExprContext) (k : K) (f : ℕ) (τ : St) → Under τ.nxt τ.code → e.t ≡ 0 → e.f ≡ 0 → (h : Sims Γ s m τ) → Is Γ s m h.heads e (labelled_with_free τ f (2 + τ.nxt)) k → SimD Γ s m e (fresh k f τ)
unfolding fresh
fresh_desc e k f τ old t u h i = record { heads = h.heads; is = i; trues = t ∙ sym (under_list h.sim τ.nxt τ.nxt (omega arith) old); falses = u ∙ sym (under_list h.sim τ.nxt (1 + τ.nxt) (omega arith) old) }

-- with a word that is held on top of it
pub fresh_held : {Γ : Env} {s : State} {m m₀ : Buffers} (H : ℕ → ℕ) (i : Instr) (e : ExprContext) (k : K) (f g : ℕ) (τ : St) → UnderI τ.nxt i → Under τ.nxt τ.code → e.t ≡ 0 → e.f ≡ 0 → Sim Γ s m₀ H (i ∷ τ.code) g τ.tab → Is Γ s m H e (labelled_with_free τ f (2 + τ.nxt)) k → SimD Γ s m e (fresh k f τ)
unfolding fresh
fresh_held H i e k f g τ u old t v h x = record { heads = H; is = x; trues = t ∙ sym (under_list h τ.nxt τ.nxt (omega arith) (u, old)); falses = v ∙ sym (under_list h τ.nxt (1 + τ.nxt) (omega arith) (u, old)) }

pub sound_fresh : {Γ : Env} (k : K) (f g : ℕ) (τ : St) → 1 ≤ Γ.n → On Γ.n τ → Γ.active ≤ f → Own Γ.active f k g → OkK τ.tab k → Sound Γ f (fresh k g τ)
unfolding fresh
sound_fresh k f g τ o on l w ok = record {
  own = w;
  ok = ok;
  new = record { on = record { up = omega (arith, on.up); old = under_more τ.nxt (2 + τ.nxt) (omega arith) τ.code on.old }; tl_new = on.up; tl_old = omega arith; fl_new = omega (arith, on.up); fl_old = omega arith };
  differ = λ z. omega arith;
  some = o;
  locals = l;
}

-- a numeral: its double and its bits, no jumps
pub record Numeral (e : ExprContext) (b : ℕ) : Type 0 where
  pub kind : e.kind ≡ kind.KNum
  pub bits : e.bits ≡ b
  pub double : e.nval ≡ of_bits binary64 b
  pub trues : e.t ≡ 0
  pub falses : e.f ≡ 0

module _ {Γ : Env} {s : State} {m : Buffers} (e : ExprContext) (τ : St) (o : 1 ≤ Γ.n) (on : On Γ.n τ) (la : Γ.active ≤ τ.free) (h : Sims Γ s m τ) where
  pub sim_late_number : (b : ℕ) → Numeral e b → Ends (exp2rk e s m) (λ e' s' m'. SimK Γ s' m' e' (late (is_near (number b) τ.tab) (number b) (add_k (number b) τ)))
  unfolding fresh
  sim_late_number b n = ends_map (sim_rk (fresh (kd (kc (number b))) τ.free τ) (sound_fresh (kd (kc (number b))) τ.free τ.free τ o on la refl tt) (fresh_desc e (kd (kc (number b))) τ.free τ on.old n.trues n.falses h ((n.kind, (n.bits, n.double)), h.sim)))
      (λ e' s' m' x. let q = number_late τ (omega (arith, on.up)) on.old b (is_near (number b) τ.tab) in rk_alike _ _ q.0 q.1 (rw (number_rk τ (omega (arith, on.up)) on.old b) at x))

  pub sim_late_text : (x : List ℕ) → e.kind ≡ kind.K → e.info ≡ place (text x) τ.tab → Listed (text x) τ.tab → e.t ≡ 0 → e.f ≡ 0 → Ends (exp2rk e s m) (λ e' s' m'. SimK Γ s' m' e' (late (is_near (text x) τ.tab) (text x) τ))
  unfolding fresh
  sim_late_text x k i l t f = ends_map (sim_rk (fresh (kd (kc (text x))) τ.free τ) (sound_fresh (kd (kc (text x))) τ.free τ.free τ o on la refl l) (fresh_desc e (kd (kc (text x))) τ.free τ on.old t f h ((k, (i, l)), h.sim)))
      (λ e' s' m' y. let q = text_late τ (omega (arith, on.up)) on.old x (is_near (text x) τ.tab) in rk_alike _ _ q.0 q.1 (rw (text_rk τ (omega (arith, on.up)) on.old x) at y))
