-- Which registers a descriptor owns, f being taken before it and m now: a temporary is register f, a call's function too, and all others own none. So what is freed brings back f,
-- and the list of a call stands right behind its fixed arguments.
use Rattle.std.specs.Prelude.{ℕ, suc, ◌+◌, ◌≤◌, ◌<◌, Bool, ◌≡◌}
use Rattle.std.proofs.Math.Bool.{true, false}
use Rattle.std.proofs.Math.Path.{refl}
use Rattle.std.proofs.Common.{sym, subst}
use native.Mathlib.Omega.{arith as nat}
use Rattle.labelled.specs.Code.{Ex, val, cp, glob, idx, ari, neg, len, notx, cat, vfst, CT, cfix, cva, cct, cbase}
use Rattle.labelled.specs.Emission.{St, flush, push, hit}
use Rattle.labelled.specs.Discharge.{K4, kc, kr, kx, kj, K, kd, kl, kg, ki, kcl, kva, Par4, dv_k, dv_s, freed, d2r, any_k, anyreg}
use Rattle.labelled.specs.Conditions.{not_k, not_s}

-- a concatenation begins at the first free register
abbrev pub OwnX : ℕ → Ex → Type 0
OwnX f (val v) = Unit {0}
OwnX f (cp r) = Unit {0}
OwnX f (glob g) = Unit {0}
OwnX f (idx t k) = Unit {0}
OwnX f (ari o x y) = Unit {0}
OwnX f (neg r) = Unit {0}
OwnX f (len r) = Unit {0}
OwnX f (notx r) = Unit {0}
OwnX f (cat b k) = b ≡ f
OwnX f vfst = Unit {0}

-- the list that a call makes for another begins right behind that one's n fixed arguments
abbrev pub Nested : CT → Type 0
Nested (cfix b n) = Unit {0}
Nested (cva b n) = Unit {0}
Nested (cct b n t) = (cbase t ≡ suc (n + b)) × Nested t

-- the first `active` registers hold locals
module _ (active : ℕ) where
  abbrev pub Own4 : ℕ → K4 → ℕ → Type 0
  Own4 f (kc v) m = m ≡ f
  Own4 f (kr true r) m = (r ≡ f) × (m ≡ suc f)
  Own4 f (kr false r) m = (m ≡ f) × (r < active)
  Own4 f (kx x) m = (m ≡ f) × OwnX f x
  Own4 f (kj o c x y) m = m ≡ f

  abbrev pub Own : ℕ → K → ℕ → Type 0
  Own f (kd k) m = Own4 f k m
  Own f (kl r) m = (m ≡ f) × (r < active)
  Own f (kg g) m = m ≡ f
  Own f (ki g t x) m = (g ≡ f) × (f ≤ m)
  Own f (kcl t) m = (cbase t ≡ f) × (m ≡ suc f) × Nested t
  Own f kva m = m ≡ f

  pub freed_own : (k : K4) (f m : ℕ) → Own4 f k m → freed k m ≡ f
  freed_own (kc v) f m q = q
  freed_own (kr true r) f m q = q.0
  freed_own (kr false r) f m q = q.0
  freed_own (kx x) f m q = q.0
  freed_own (kj o c x y) f m q = q

  pub own_le : (k : K4) (f m : ℕ) → Own4 f k m → f ≤ m
  own_le (kc v) f m q = omega nat
  own_le (kr true r) f m q = omega nat
  own_le (kr false r) f m q = omega nat
  own_le (kx x) f m q = omega (nat, q.0)
  own_le (kj o c x y) f m q = omega nat

  -- discharge_vars
  pub dv_own : (k : K) (f : ℕ) (s : St) → Own f k s.free → Own4 f (dv_k k) (dv_s k s).free
  unfolding dv_s flush push
  dv_own (kd k) f s q = q
  dv_own (kl r) f s q = q
  dv_own (kg g) f s q = (q, tt)
  dv_own (ki g t x) f s q = (q.0, tt)
  dv_own (kcl t) f s q = (q.0, q.1)
  dv_own kva f s q = (q, tt)

  -- NOT
  pub not_own : (k : K4) (f : ℕ) (s : St) → Own4 f k s.free → Own4 f (not_k k s.free) (not_s k s).free
  unfolding not_s flush d2r push
  not_own (kc v) f s q = q
  not_own (kr true r) f s q = (q.0, tt)
  not_own (kr false r) f s q = (q.0, tt)
  not_own (kx x) f s q = (q.0, tt)
  not_own (kj o c x y) f s q = q

  pub low_kr : (u : Bool) (r f m : ℕ) → active ≤ f → Own4 f (kr u r) m → r < m
  low_kr true r f m na q = omega nat
  low_kr false r f m na q = omega nat

  -- the registers of an operand of anyreg lie at most at f
  any_low₁ : (t : Bool) (k : K4) (p : Par4) (f : ℕ) → active ≤ f → Own4 f k p.st.free → p.de.k4 ≡ k → (any_k t k p).rgn ≤ f
  unfolding any_k
  any_low₁ true k p f na o e = omega (nat, freed_own p.de.k4 f p.st.free (subst (λ z. Own4 f z p.st.free) (sym e) o))
  any_low₁ false (kc v) p f na o e = omega (nat, freed_own p.de.k4 f p.st.free (subst (λ z. Own4 f z p.st.free) (sym e) o))
  any_low₁ false (kr true r) p f na o e = omega nat
  any_low₁ false (kr false r) p f na o e = omega nat
  any_low₁ false (kx x) p f na o e = omega (nat, freed_own p.de.k4 f p.st.free (subst (λ z. Own4 f z p.st.free) (sym e) o))
  any_low₁ false (kj c d x y) p f na o e = omega (nat, freed_own p.de.k4 f p.st.free (subst (λ z. Own4 f z p.st.free) (sym e) o))

  pub any_low : (p : Par4) (f : ℕ) → active ≤ f → Own4 f p.de.k4 p.st.free → (anyreg p).rgn ≤ f
  unfolding anyreg
  any_low p f na o = any_low₁ (hit false p.de.tl p.de.fl p.st.code) p.de.k4 p f na o refl
