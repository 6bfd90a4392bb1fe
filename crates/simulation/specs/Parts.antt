-- Parts of a lowering: a sub-expression is lowered by a step that may use other labels, more registers and more constants, and leaves those of others alone. What holds before it, of an operand, holds after it.
use Rattle.std.specs.Prelude.{ℕ, ◌+◌, ◌≤◌, ◌<◌, ◌≡◌, refl, List}
use Rattle.std.proofs.Common.{◌∙◌, arith}
use Rattle.instructions.specs.Limits.{bit_rk, max_stack}
use Rattle.constants.specs.Entry.{Constant}
use Rattle.model.specs.declared.ExprContext.{ExprContext}
use Rattle.model.specs.declared.State.{State}
use Rattle.model.specs.Steps.{Buffers, Step}
use Rattle.labelled.specs.Code.{Rk, reg, con, Code}
use Rattle.labelled.specs.Places.{Grows}
use Rattle.labelled.specs.Emission.{St}
use Rattle.labelled.specs.Discharge.{Pair, K, kd, kl, kg, ki, kcl, kva, kc, kr, kx, kj}
use Rattle.labelled.specs.Fresh.{On}
use Rattle.constants.specs.Entry.{nil, truth, number, text}
use Rattle.threads.specs.Holding.{Ends}
use Rattle.threads.specs.Coded.{more_rk}
use Rattle.simulation.specs.Sim.{Env, Sim, Sims, Is, SimD, Sound, Operand}

-- ---- environments

-- a descriptor stands on where the state does
pub is_map : (Γ Δ : Env) (s : State) {H : ℕ → ℕ} → Γ.active ≡ Δ.active → ((m : Buffers) (c : Code) (f : ℕ) (t : List Constant) → Sim Γ s m H c f t → Sim Δ s m H c f t) → (m : Buffers) (e : ExprContext) (σ : St) (k : K) → Is Γ s m H e σ k → Is Δ s m H e σ k
is_map Γ Δ s a v m e σ (kd (kc nil)) h = (h.0, v _ _ _ _ h.1)
is_map Γ Δ s a v m e σ (kd (kc (truth b))) h = (h.0, v _ _ _ _ h.1)
is_map Γ Δ s a v m e σ (kd (kc (number x))) h = (h.0, v _ _ _ _ h.1)
is_map Γ Δ s a v m e σ (kd (kc (text x))) h = (h.0, v _ _ _ _ h.1)
is_map Γ Δ s a v m e σ (kd (kr u r)) h = (h.0, (h.1.0, (h.1.1.0, v _ _ _ _ h.1.1.1)))
is_map Γ Δ s a v m e σ (kd (kx x)) h = (h.0, (h.1.0, (h.1.1.0, v _ _ _ _ h.1.1.1)))
is_map Γ Δ s a v m e σ (kd (kj o c x y)) h = (h.0, (h.1.0, (h.1.1.0, (h.1.1.1.0, (h.1.1.1.1.0, (h.1.1.1.1.1.0, v _ _ _ _ h.1.1.1.1.1.1))))))
is_map Γ Δ s a v m e σ (kl r) h = (h.0, (h.1.0, (h.1.1.0, v _ _ _ _ h.1.1.1)))
is_map Γ Δ s a v m e σ (kg g) h = (h.0, (h.1.0, (h.1.1.0, v _ _ _ _ h.1.1.1)))
is_map Γ Δ s a v m e σ (ki f r x) h = (h.0, (h.1.0, (h.1.1.0, (h.1.1.1.0, (rw (← a) h.1.1.1.1.0, v _ _ _ _ h.1.1.1.1.1)))))
is_map Γ Δ s a v m e σ (kcl u) h = (h.0, (h.1.0, (h.1.1.0, v _ _ _ _ h.1.1.1)))
is_map Γ Δ s a v m e σ kva h = (h.0, (h.1.0, (h.1.1.0, (h.1.1.1.0, v _ _ _ _ h.1.1.1.1))))

-- the same at another place of the chunk; with another frame and other labels below those that are new
abbrev pub at_place : Env → ℕ → ℕ → Env
at_place Γ a l = record { cap = Γ.cap; active = Γ.active; at = a; line = l; least = Γ.least; n = Γ.n; lists = Γ.lists }

abbrev pub inner : Env → ℕ → ℕ → (ℕ → ℕ) → Env
inner Γ F n H = record { cap = Γ.cap; active = Γ.active; at = Γ.at; line = Γ.line; least = F; n = n; lists = H }

module _ (Γ : Env) (F n : ℕ) (L : ℕ → ℕ) (more : Γ.least ≤ F) (up : Γ.n ≤ n) (same : (ℓ : ℕ) → 1 ≤ ℓ → ℓ < Γ.n → L ℓ ≡ Γ.lists ℓ) where
  pub outward : {s : State} {m : Buffers} {H : ℕ → ℕ} {c : Code} {f : ℕ} {t : List Constant} → Sim (inner Γ F n L) s m H c f t → Sim Γ s m H c f t
  outward h = record {
    holds = h.holds;
    low = h.low;
    free = h.free;
    taken = h.taken;
    two = h.two;
    most = h.most;
    least = omega (arith, h.least);
    locals = h.locals;
    at = h.at;
    line = h.line;
    table = h.table;
    label = h.label;
    marks = h.marks;
    others = λ ℓ a b. h.others ℓ a (omega arith) ∙ same ℓ a b;
  }

  pub outward_s : {s : State} {m : Buffers} {σ : St} → Sims (inner Γ F n L) s m σ → Sims Γ s m σ
  outward_s h = record { heads = h.heads; sim = outward h.sim }

  pub outward_d : {s : State} {m : Buffers} {e : ExprContext} (p : Pair) → SimD (inner Γ F n L) s m e p → SimD Γ s m e p
  outward_d {s = s} {m = m} {e = e} p h = record { heads = h.heads; is = is_map (inner Γ F n L) Γ s refl (λ m c f t x. outward x) m e p.st p.de.kind h.is; trues = h.trues; falses = h.falses }

-- into a part: the frame that there is and the lists that there are stay
pub inward : {Γ : Env} {s : State} {m : Buffers} {H : ℕ → ℕ} {c : Code} {f : ℕ} {t : List Constant} (n : ℕ) → Sim Γ s m H c f t → Sim (inner Γ s.frame n H) s m H c f t
inward n h = record {
  holds = h.holds;
  low = h.low;
  free = h.free;
  taken = h.taken;
  two = h.two;
  most = h.most;
  least = omega arith;
  locals = h.locals;
  at = h.at;
  line = h.line;
  table = h.table;
  label = h.label;
  marks = h.marks;
  others = λ ℓ a b. refl;
}

-- what is known of the state beside a descriptor
pub record Known (Γ : Env) (s : State) (f : ℕ) : Type 0 where
  pub least : Γ.least ≤ s.frame
  pub most : s.frame ≤ max_stack
  pub active : s.active ≡ Γ.active
  pub free : s.free ≡ f

pub known : {Γ : Env} {s : State} {m : Buffers} {H : ℕ → ℕ} {c : Code} {f : ℕ} {t : List Constant} → Sim Γ s m H c f t → Known Γ s f
known h = record { least = h.least; most = h.most; active = h.locals; free = h.free }

known_is : (Γ : Env) (s : State) (m : Buffers) (H : ℕ → ℕ) (e : ExprContext) (σ : St) (k : K) → Is Γ s m H e σ k → Known Γ s σ.free
known_is Γ s m H e σ (kd (kc nil)) h = known h.1
known_is Γ s m H e σ (kd (kc (truth b))) h = known h.1
known_is Γ s m H e σ (kd (kc (number x))) h = known h.1
known_is Γ s m H e σ (kd (kc (text x))) h = known h.1
known_is Γ s m H e σ (kd (kr u r)) h = known h.1.1.1
known_is Γ s m H e σ (kd (kx x)) h = known h.1.1.1
known_is Γ s m H e σ (kd (kj o c x y)) h = known h.1.1.1.1.1.1
known_is Γ s m H e σ (kl r) h = known h.1.1.1
known_is Γ s m H e σ (kg g) h = known h.1.1.1
known_is Γ s m H e σ (ki f r x) h = known h.1.1.1.1.1
known_is Γ s m H e σ (kcl u) h = known h.1.1.1
known_is Γ s m H e σ kva h = known h.1.1.1.1

pub known_d : {Γ : Env} {s : State} {m : Buffers} {e : ExprContext} (p : Pair) → SimD Γ s m e p → Known Γ s p.st.free
known_d {Γ = Γ} {s = s} {m = m} {e = e} p h = known_is Γ s m h.heads e p.st p.de.kind h.is

-- the lists of others are as they were
others_is : (Γ : Env) (s : State) (m : Buffers) (H : ℕ → ℕ) (e : ExprContext) (σ : St) (k : K) → Is Γ s m H e σ k → (ℓ : ℕ) → 1 ≤ ℓ → ℓ < Γ.n → H ℓ ≡ Γ.lists ℓ
others_is Γ s m H e σ (kd (kc nil)) h = h.1.others
others_is Γ s m H e σ (kd (kc (truth b))) h = h.1.others
others_is Γ s m H e σ (kd (kc (number x))) h = h.1.others
others_is Γ s m H e σ (kd (kc (text x))) h = h.1.others
others_is Γ s m H e σ (kd (kr u r)) h = h.1.1.1.others
others_is Γ s m H e σ (kd (kx x)) h = h.1.1.1.others
others_is Γ s m H e σ (kd (kj o c x y)) h = h.1.1.1.1.1.1.others
others_is Γ s m H e σ (kl r) h = h.1.1.1.others
others_is Γ s m H e σ (kg g) h = h.1.1.1.others
others_is Γ s m H e σ (ki f r x) h = h.1.1.1.1.1.others
others_is Γ s m H e σ (kcl u) h = h.1.1.1.others
others_is Γ s m H e σ kva h = h.1.1.1.1.others

pub others_d : {Γ : Env} {s : State} {m : Buffers} {e : ExprContext} (p : Pair) (h : SimD Γ s m e p) (ℓ : ℕ) → 1 ≤ ℓ → ℓ < Γ.n → h.heads ℓ ≡ Γ.lists ℓ
others_d {Γ = Γ} {s = s} {m = m} {e = e} p h = others_is Γ s m h.heads e p.st p.de.kind h.is

-- with the frame that there is
abbrev pub framed : Env → State → Env
framed Γ s = inner Γ s.frame Γ.n Γ.lists

pub raise : {Γ : Env} {s : State} {m : Buffers} {H : ℕ → ℕ} {c : Code} {f : ℕ} {t : List Constant} → Sim Γ s m H c f t → Sim (framed Γ s) s m H c f t
raise h = record {
  holds = h.holds;
  low = h.low;
  free = h.free;
  taken = h.taken;
  two = h.two;
  most = h.most;
  least = omega arith;
  locals = h.locals;
  at = h.at;
  line = h.line;
  table = h.table;
  label = h.label;
  marks = h.marks;
  others = h.others;
}

pub raise_d : {Γ : Env} {s : State} {m : Buffers} {e : ExprContext} (p : Pair) → SimD Γ s m e p → SimD (framed Γ s) s m e p
raise_d {Γ = Γ} {s = s} {m = m} {e = e} p h = record { heads = h.heads; is = is_map Γ (framed Γ s) s refl (λ m c f t x. raise x) m e p.st p.de.kind h.is; trues = h.trues; falses = h.falses }

pub raise_s : {Γ : Env} {s : State} {m : Buffers} {σ : St} → Sims Γ s m σ → Sims (framed Γ s) s m σ
raise_s h = record { heads = h.heads; sim = raise h.sim }

pub sound_raise : {Γ : Env} {f : ℕ} (F : ℕ) (p : Pair) → Sound Γ f p → Sound (inner Γ F Γ.n Γ.lists) f p
sound_raise F p h = record { own = h.own; new = h.new; ok = h.ok; differ = h.differ; some = h.some; locals = h.locals }

-- ---- what is known of an operand stays

pub operand_more : (s s' : State) (e : ExprContext) (σ τ : St) (x : Rk) → Grows σ.tab τ.tab → s.frame ≤ s'.frame → Operand s e σ x → Operand s' e τ x
operand_more s s' e σ τ (reg r) g l h = (h.0, (h.1.0, omega (arith, h.1.1)))
operand_more s s' e σ τ (con v) g l h = (h.0, more_rk σ.tab τ.tab s.frame s'.frame g l (con v) (e.info + bit_rk) h.1)

-- ---- lowering a sub-expression: from one place of the chunk to another, for any labels and any frame before it
abbrev pub LowersExpr : ℕ → Step ExprContext → (St → Pair) → ℕ → ℕ → ℕ → ℕ → Type 0
LowersExpr active f R a l a' l' = (Γ : Env) (s : State) (m : Buffers) (σ : St) → Γ.active ≡ active → 1 ≤ Γ.n → On Γ.n σ → active ≤ σ.free → Sims (at_place Γ a l) s m σ → Ends (f s m) (λ e s' m'. SimD (at_place Γ a' l') s' m' e (R σ))
