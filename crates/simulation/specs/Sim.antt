-- The simulation relation: when a state of the model, its buffers and a descriptor stand for a state of labelled code and its descriptor. A word that labelled code holds back in a descriptor
-- (one without its register, a comparison, a call, a vararg) stands on top of the model's code already. Assumes nothing.
use Rattle.std.specs.Prelude.{ℕ, suc, ◌+◌, ◌≤◌, ◌<◌, true, false, ◌&&◌, ◌≡◌, List, [], ◌∷◌, set, eqb, leb, ltb}
use Rattle.std.specs.Float.{binary64}
use Rattle.std.specs.Float.Ieee.{of_bits}
use Rattle.instructions.specs.Limits.{max_stack, bit_rk}
use Rattle.instructions.specs.Word.{abc_of}
use Rattle.opcodes.specs.declared.OpCode.TheVariants as op
use Rattle.constants.specs.Entry.{Constant, nil, truth, number, text}
use Rattle.model.specs.declared.ExprKind.TheVariants as kind
use Rattle.model.specs.declared.ExprContext.{ExprContext}
use Rattle.model.specs.declared.State.{State}
use Rattle.model.specs.Steps.{Buffers}
use Rattle.model.specs.Jumps.{word}
use Rattle.labelled.specs.Code.{Rk, reg, con, vfst, twidth, cmp, lbl, setw, lbs, mark, nilw, callw, selfw, pl, br, Code, size}
use Rattle.labelled.specs.Table.{place}
use Rattle.labelled.specs.Places.{Listed}
use Rattle.labelled.specs.Emission.{St}
use Rattle.labelled.specs.Discharge.{K4, kc, kr, kx, kj, K, kd, kl, kg, ki, kcl, kva, Pair, RkS, RgS}
use Rattle.labelled.specs.Owning.{Own}
use Rattle.labelled.specs.Fresh.{New}
use Rattle.labelled.specs.Sound.{OkK}
use Rattle.threads.specs.Holding.{Holds, with_code}
use Rattle.threads.specs.Coded.{CodesRk, coded, Low}
use Rattle.simulation.specs.Tabled.{Tabled}

-- ---- states

-- what is the same from the beginning to the end of a part of the lowering: the length of the code buffer, the locals, the place in the chunk and the line,
-- a frame that is not undercut, and the lists of the labels below n, which belong to others
pub record Env : Type 0 where
  pub cap : ℕ
  pub active : ℕ
  pub at : ℕ
  pub line : ℕ
  pub least : ℕ
  pub n : ℕ
  pub lists : ℕ → ℕ

-- the last word is no `LoadNil`, and there is one
abbrev pub NoNil : Code → Type 0
NoNil [] = ⊥
NoNil (pl (setw a x) ∷ c) = Unit {0}
NoNil (pl (lbs a b) ∷ c) = Unit {0}
NoNil (pl mark ∷ c) = NoNil c
NoNil (pl (nilw a k) ∷ c) = ⊥
NoNil (pl (callw t) ∷ c) = Unit {0}
NoNil (pl (selfw a o k) ∷ c) = Unit {0}
NoNil (br k g ∷ c) = Unit {0}

-- a `LoadNil` to come is a word of its own: a label lies here, or the last word is none
pub data Apart (c : Code) (s : State) : Type 0 where
  labelled_here : s.pc < s.label → Apart c s
  other_word : NoNil c → Apart c s

-- where labelled code would lengthen a `LoadNil` or leave it out, no label lies here; and where it has a mark, the model too begins a new word
abbrev pub Marks : Code → State → Type 0
Marks [] s = s.label ≤ s.pc
Marks (pl (setw a x) ∷ c) s = Unit {0}
Marks (pl (lbs a b) ∷ c) s = Unit {0}
Marks (pl mark ∷ c) s = Apart c s
Marks (pl (nilw a k) ∷ c) s = s.label ≤ s.pc
Marks (pl (callw t) ∷ c) s = Unit {0}
Marks (pl (selfw a o k) ∷ c) s = Unit {0}
Marks (br k g ∷ c) s = Unit {0}

-- the state and the buffers stand for code c, with these heads of its labels' lists, f registers taken and the constants t
pub record Sim (Γ : Env) (s : State) (m : Buffers) (H : ℕ → ℕ) (c : Code) (f : ℕ) (t : List Constant) : Type 0 where
  pub holds : Holds (coded t s.frame) Γ.cap s m H c
  pub low : Low s.frame c
  pub free : s.free ≡ f
  pub taken : f ≤ s.frame
  pub two : 2 ≤ s.frame
  pub most : s.frame ≤ max_stack
  pub least : Γ.least ≤ s.frame
  pub locals : s.active ≡ Γ.active
  pub at : s.at ≡ Γ.at
  pub line : s.line ≡ Γ.line
  pub table : Tabled t s.table m.kinds m.values m.pool
  pub label : s.label ≤ s.pc + 1
  pub marks : Marks c s
  pub others : (ℓ : ℕ) → 1 ≤ ℓ → ℓ < Γ.n → H ℓ ≡ Γ.lists ℓ

-- with some heads
pub record Sims (Γ : Env) (s : State) (m : Buffers) (σ : St) : Type 0 where
  pub heads : ℕ → ℕ
  pub sim : Sim Γ s m heads σ.code σ.free σ.tab

-- ---- descriptors

-- `free_reg` of register r where m are taken
unfoldable pub drop : ℕ → ℕ → ℕ → ℕ
drop active r m = elim (leb active r && (ltb r bit_rk && eqb (r + 1) m)) [ true ↦ r | false ↦ m ]

module _ (Γ : Env) (s : State) (m : Buffers) (H : ℕ → ℕ) (e : ExprContext) (σ : St) where
  abbrev pub Now : Type 0
  Now = Sim Γ s m H σ.code σ.free σ.tab

  -- a constant
  abbrev pub IsC : Constant → Type 0
  IsC nil = e.kind ≡ kind.Nil
  IsC (truth true) = e.kind ≡ kind.True
  IsC (truth false) = e.kind ≡ kind.False
  IsC (number n) = (e.kind ≡ kind.KNum) × ((e.bits ≡ n) × (e.nval ≡ of_bits binary64 n))
  IsC (text x) = (e.kind ≡ kind.K) × ((e.info ≡ place (text x) σ.tab) × Listed (text x) σ.tab)

  abbrev pub Is4 : K4 → Type 0
  Is4 (kc v) = IsC v × Now
  Is4 (kr u r) = (e.kind ≡ kind.NonReloc) × ((e.info ≡ r) × ((r < s.frame) × Now))
  -- the word stands last, with A = 0; no jump leads behind it
  Is4 (kx x) = (e.kind ≡ kind.Relocable) × ((e.info ≡ size σ.code) × ((H 0 ≡ 0) × Sim Γ s m H (pl (setw 0 x) ∷ σ.code) σ.free σ.tab))
  -- the comparison and its jump stand last; the jump has a new label j
  Is4 (kj o k x y) = (e.kind ≡ kind.Jmp) × ((e.info ≡ suc (size σ.code)) × ((H 0 ≡ 0) × ((j : ℕ) × ((σ.nxt ≤ j) × ((H j ≡ suc e.info) × Sim Γ s m H (br (cmp o k x y) (lbl j) ∷ σ.code) σ.free σ.tab)))))

  abbrev pub Is : K → Type 0
  Is (kd k) = Is4 k
  Is (kl r) = (e.kind ≡ kind.Local) × ((e.info ≡ r) × ((r < s.frame) × Now))
  Is (kg g) = (e.kind ≡ kind.Global) × ((e.info ≡ place (text g) σ.tab) × (Listed (text g) σ.tab × Now))
  -- freeing the key and then the table leaves f registers
  Is (ki f r x) = (e.kind ≡ kind.Indexed) × ((e.info ≡ r) × ((r < s.frame) × (CodesRk σ.tab s.frame x e.aux × ((drop Γ.active r (drop Γ.active e.aux σ.free) ≡ f) × Now))))
  -- the call's words stand last, with C = 2
  Is (kcl u) = (e.kind ≡ kind.Call) × ((suc e.info ≡ twidth u + size σ.code) × ((H 0 ≡ 0) × Sim Γ s m H (pl (callw u) ∷ σ.code) σ.free σ.tab))
  -- the word stands last; with B = 2 it gives the first vararg
  Is kva = (e.kind ≡ kind.VarArg) × ((e.info ≡ size σ.code) × ((H 0 ≡ 0) × ((word m.code (size σ.code) ≡ abc_of op.VarArg 0 1 0) ×
      Sim Γ s (with_code (set m.code (size σ.code) (abc_of op.VarArg 0 2 0)) m) H (pl (setw 0 vfst) ∷ σ.code) σ.free σ.tab)))

-- the descriptor e stands for p's, and its lists are those of p's labels
pub record SimD (Γ : Env) (s : State) (m : Buffers) (e : ExprContext) (p : Pair) : Type 0 where
  pub heads : ℕ → ℕ
  pub is : Is Γ s m heads e p.st p.de.kind
  pub trues : e.t ≡ heads p.de.tl
  pub falses : e.f ≡ heads p.de.fl

-- e is register r, without jumps
pub record SimR (Γ : Env) (s : State) (m : Buffers) (e : ExprContext) (q : RgS) : Type 0 where
  pub kind : e.kind ≡ kind.NonReloc
  pub info : e.info ≡ q.rgn
  pub below : q.rgn < s.frame
  pub trues : e.t ≡ 0
  pub falses : e.f ≡ 0
  pub now : Sims Γ s m q.st

-- e is an operand: a register or a constant up to 255, without jumps
abbrev pub Operand : State → ExprContext → St → Rk → Type 0
Operand s e σ (reg r) = (e.kind ≡ kind.NonReloc) × ((e.info ≡ r) × (r < s.frame))
Operand s e σ (con v) = (e.kind ≡ kind.K) × CodesRk σ.tab s.frame (con v) (e.info + bit_rk)

pub record SimK (Γ : Env) (s : State) (m : Buffers) (e : ExprContext) (q : RkS) : Type 0 where
  pub is : Operand s e q.st q.rkv
  pub trues : e.t ≡ 0
  pub falses : e.f ≡ 0
  pub now : Sims Γ s m q.st

-- ---- what labelled code says of a descriptor, f registers being taken before it: what it owns, that its constants are listed, and that its labels are new, different and not 0
pub record Sound (Γ : Env) (f : ℕ) (p : Pair) : Type 0 where
  pub own : Own Γ.active f p.de.kind p.st.free
  pub new : New Γ.n p
  pub ok : OkK p.st.tab p.de.kind
  pub differ : p.de.fl ≡ p.de.tl → ⊥
  pub some : 1 ≤ Γ.n
  pub locals : Γ.active ≤ f
