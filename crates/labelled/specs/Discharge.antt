-- Labelled lowering, the middle part: a descriptor becomes a value, a register or an RK operand (model's Discharge). A word that still wants its register, and a comparison, a call or a vararg
-- whose use is open, are held in the descriptor. Assumes nothing.
use Rattle.std.specs.Prelude.{ℕ, suc, ◌+◌, Bool, true, false, List, ◌∷◌}
use Rattle.std.proofs.Math.Option.{some, none}
use Rattle.constants.specs.Entry.{Constant, nil, truth, number, text}
use Rattle.model.specs.Values.{StepKind, value_of, truth as vtruth}
use Rattle.labelled.specs.Code.{same, Rk, reg, con, Ex, val, cp, glob, idx, vfst, CT, cbase, cmp, lbl, setw, lbs, mark, callw, pl, br, Code, size, Act, keep, land, re, edit}
use Rattle.labelled.specs.Machine.{pick}
use Rattle.labelled.specs.Table.{roomy, is_near}
use Rattle.labelled.specs.Emission.{St, with_code, set_free, labelled_with_free, add_k, flush, push, labelled_emit_jump, hit, nil_top}

-- ---- descriptors

-- discharged: a constant, a register (temporary or not), a word to come, a comparison to come
pub data K4 : Type 0 where
  kc : Constant → K4
  kr : Bool → ℕ → K4
  kx : Ex → K4
  kj : StepKind → Bool → Rk → Rk → K4

-- or a local, a global, an index read (with the registers taken before it), a call, a vararg
pub data K : Type 0 where
  kd : K4 → K
  kl : ℕ → K
  kg : List ℕ → K
  ki : ℕ → ℕ → Rk → K
  kcl : CT → K
  kva : K

-- with the labels of the jumps that leave true, and false
pub record Desc : Type 0 where
  pub kind : K
  pub tl : ℕ
  pub fl : ℕ

pub record Des4 : Type 0 where
  pub k4 : K4
  pub tl : ℕ
  pub fl : ℕ

pub record Pair : Type 0 where
  pub st : St
  pub de : Desc

pub record Par4 : Type 0 where
  pub st : St
  pub de : Des4

-- an operand, a register
pub record RkS : Type 0 where
  pub st : St
  pub rkv : Rk

pub record RgS : Type 0 where
  pub st : St
  pub rgn : ℕ

abbrev pub lab : Bool → Des4 → ℕ
lab true e = e.tl
lab false e = e.fl

-- a new descriptor, with two new labels, where m registers are taken
unfoldable pub fresh : K → ℕ → St → Pair
fresh k m s = record { st = labelled_with_free s m (2 + s.nxt); de = record { kind = k; tl = s.nxt; fl = 1 + s.nxt } }

abbrev pub lift4 : Par4 → Pair
lift4 p = record { st = p.st; de = record { kind = kd p.de.k4; tl = p.de.tl; fl = p.de.fl } }

-- with a constant added
abbrev pub add_p : Constant → Par4 → Par4
add_p c p = record { st = add_k c p.st; de = p.de }

-- ---- `discharge_vars`

abbrev pub dv_k : K → K4
dv_k (kd k) = k
dv_k (kl r) = kr false r
dv_k (kg g) = kx (glob g)
dv_k (ki f t x) = kx (idx t x)
dv_k (kcl t) = kr true (cbase t)
dv_k kva = kx vfst

unfoldable pub dv_s : K → St → St
dv_s (kd k) s = s
dv_s (kl r) s = s
dv_s (kg g) s = flush s
dv_s (ki f t x) s = flush (set_free f s)
dv_s (kcl t) s = push (pl (callw t)) s
dv_s kva s = s

abbrev pub dv : Pair → Par4
dv p = record { st = dv_s p.de.kind p.st; de = record { k4 = dv_k p.de.kind; tl = p.de.tl; fl = p.de.fl } }

-- `free_expr`
abbrev pub freed : K4 → ℕ → ℕ
freed (kc v) m = m
freed (kr true r) m = r
freed (kr false r) m = m
freed (kx x) m = m
freed (kj o c x y) m = m

-- ---- `discharge2reg`

-- a constant into a register: a numeral is added then, a text was when it was read
abbrev pub load_con : Constant → ℕ → St → St
load_con nil r s = nil_top s.code r s
load_con (truth b) r s = push (pl (setw r (val (vtruth b)))) s
load_con (number n) r s = push (pl (setw r (val (value_of (number n))))) (add_k (number n) s)
load_con (text t) r s = push (pl (setw r (val (value_of (text t))))) s

unfoldable pub d2r : K4 → ℕ → ℕ → St → St
d2r (kc v) t r s = load_con v r s
d2r (kr u k) t r s = pick (same r k) s (push (pl (setw r (cp k))) s)
d2r (kx x) t r s = push (pl (setw r x)) s
d2r (kj o c x y) t r s = push (br (cmp o c x y) (lbl t)) s

abbrev pub is_cmp : K4 → Bool
is_cmp (kc v) = false
is_cmp (kr u r) = false
is_cmp (kx x) = false
is_cmp (kj o c x y) = true

-- ---- `exp2reg`

-- the jumps land: those that keep a value behind the loads, the others on the load of false or true
abbrev pub lands : ℕ → ℕ → ℕ → ℕ → ℕ → ℕ → ℕ → Act
lands t f r final pf pt ℓ = pick (same ℓ t) (land final (some r) pt) (pick (same ℓ f) (land final (some r) pf) keep)

abbrev pub pair_g : Code → ℕ → ℕ → ℕ → ℕ → ℕ → Act
pair_g c j t f r ℓ = pick (same ℓ 0) (land (size c) none (size c)) (pick (same ℓ j) (re 0 false) (lands t f r (2 + size c) (size c) (1 + size c) ℓ))

-- with a pair of `LoadBool`, over which label j jumps; or with none
unfoldable pub load_pair : ℕ → ℕ → ℕ → ℕ → St → St
load_pair j t f r s = with_code s (pl (setw r (val (vtruth true))) ∷ (pl (lbs r false) ∷ edit (pair_g s.code j t f r) s.code))

unfoldable pub land_all : ℕ → ℕ → ℕ → St → St
land_all t f r s = with_code s (pl mark ∷ edit (lands t f r (size s.code) (size s.code) (size s.code)) s.code)

-- whether there are jumps, whether some bring no value, whether a comparison came last
unfoldable pub settle : Bool → Bool → Bool → ℕ → Des4 → ℕ → St → St
settle false v k j e r s = s
settle true false k j e r s = land_all e.tl e.fl r s
settle true true true j e r s = load_pair j e.tl e.fl r s
settle true true false j e r s = load_pair j e.tl e.fl r (labelled_emit_jump j s)

unfoldable pub e2r : Des4 → ℕ → St → St
e2r e r s = let s₁ = d2r e.k4 e.tl r s in
    settle (hit false e.tl e.fl s₁.code) (hit true e.tl e.fl s₁.code) (is_cmp e.k4) s₁.nxt e r s₁

-- `exp2nextreg` of a discharged descriptor
unfoldable pub nextreg : Par4 → St
nextreg p = let r = freed p.de.k4 p.st.free in let s₁ = e2r p.de r p.st in labelled_with_free s₁ (suc r) (suc s₁.nxt)

-- ---- `exp2anyreg`

abbrev pub via_reg : Par4 → RgS
via_reg p = record { st = nextreg p; rgn = freed p.de.k4 p.st.free }

unfoldable pub any_k : Bool → K4 → Par4 → RgS
any_k true k p = via_reg p
any_k false (kc v) p = via_reg p
any_k false (kr u r) p = record { st = p.st; rgn = r }
any_k false (kx x) p = via_reg p
any_k false (kj o c x y) p = via_reg p

unfoldable pub anyreg : Par4 → RgS
anyreg p = any_k (hit false p.de.tl p.de.fl p.st.code) p.de.k4 p

-- ---- `exp2rk`

abbrev pub as_rk : RgS → RkS
as_rk q = record { st = q.st; rkv = reg q.rgn }

-- a constant that is an operand, or goes to a register
abbrev pub con_rk : Bool → Constant → Par4 → RkS
con_rk true c p = record { st = p.st; rkv = con (value_of c) }
con_rk false c p = as_rk (anyreg p)

-- nil, true and false are only added while the table is `roomy`
abbrev pub small_rk : Bool → Constant → Par4 → RkS
small_rk true c p = record { st = add_k c p.st; rkv = con (value_of c) }
small_rk false c p = as_rk (anyreg p)

unfoldable pub rk_c : Constant → Par4 → RkS
rk_c nil p = small_rk (roomy p.st.tab) nil p
rk_c (truth b) p = small_rk (roomy p.st.tab) (truth b) p
rk_c (number n) p = con_rk (is_near (number n) p.st.tab) (number n) (add_p (number n) p)
rk_c (text t) p = con_rk (is_near (text t) p.st.tab) (text t) p

unfoldable pub rk_k : Bool → K4 → Par4 → RkS
rk_k true k p = as_rk (anyreg p)
rk_k false (kc v) p = rk_c v p
rk_k false (kr u r) p = as_rk (anyreg p)
rk_k false (kx x) p = as_rk (anyreg p)
rk_k false (kj o c x y) p = as_rk (anyreg p)

unfoldable pub exp2rk : Par4 → RkS
exp2rk p = rk_k (hit false p.de.tl p.de.fl p.st.code) p.de.k4 p

-- a constant without jumps, listed, as an operand: near, or in the next register
abbrev pub late : Bool → Constant → St → RkS
late true c s = record { st = s; rkv = con (value_of c) }
late false c s = record { st = labelled_with_free (push (pl (setw s.free (val (value_of c)))) s) (suc s.free) s.nxt; rkv = reg s.free }
