-- Labelled code: a proof device between the words and the reading. A pending jump has a label; a test with its jump, and a call with the words that make its open list,
-- are one instruction each, so that nobody can jump in between. One edit of all pending jumps stands for every patching of lists. Assumes nothing.
use Rattle.std.specs.Prelude.{ℕ, ◌+◌, Bool, true, false, List, [], ◌∷◌, ◌≡◌, refl, eqb}
use Rattle.std.proofs.Math.Option.{Option, some, none}
use borrow.Author.Tests.{eqb-true, eqb-false, eq-eqb, ne_eqb}
use Rattle.folding.specs.declared.Arith.{Arith}
use Rattle.model.specs.Values.{Value, StepKind}

-- tests on numbers, shut
unfoldable pub same : ℕ → ℕ → Bool
same a b = eqb a b

module _ (a b : ℕ) where
  pub same_eq : a ≡ b → same a b ≡ true
  unfolding same
  same_eq h = eq-eqb a b h

  pub same_ne : (a ≡ b → ⊥) → same a b ≡ false
  unfolding same
  same_ne h = ne_eqb a b h

  pub same_true : same a b ≡ true → a ≡ b
  unfolding same
  same_true h = eqb-true a b h

  pub same_false : same a b ≡ false → a ≡ b → ⊥
  unfolding same
  same_false h = eqb-false a b h

pub same_refl : (a : ℕ) → same a a ≡ true
same_refl a = same_eq a a refl

-- an operand: a register or a constant
pub data Rk : Type 0 where
  reg : ℕ → Rk
  con : Value → Rk

-- what a word that sets one register works out: a value, a copy, a global by its name, an index read, arithmetic, negation, length, not,
-- the concatenation of k + 1 registers, the first vararg
pub data Ex : Type 0 where
  val : Value → Ex
  cp : ℕ → Ex
  glob : List ℕ → Ex
  idx : ℕ → Rk → Ex
  ari : Arith → Rk → Rk → Ex
  neg : ℕ → Ex
  len : ℕ → Ex
  notx : ℕ → Ex
  cat : ℕ → ℕ → Ex
  vfst : Ex

-- a call with its register and its fixed arguments: no list, the varargs, or the values of another call
pub data CT : Type 0 where
  cfix : ℕ → ℕ → CT
  cva : ℕ → ℕ → CT
  cct : ℕ → ℕ → CT → CT

-- what decides a jump: nothing, a test, a test that keeps the value (with its register still to come, or known), a comparison
pub data Ctrl : Type 0 where
  always : Ctrl
  test : ℕ → Bool → Ctrl
  tset : ℕ → Bool → Ctrl
  tseta : ℕ → ℕ → Bool → Ctrl
  cmp : StepKind → Bool → Rk → Rk → Ctrl

-- where a jump leads: to a word, or with all others of its label
pub data Tgt : Type 0 where
  to : ℕ → Tgt
  lbl : ℕ → Tgt

-- words that are no jumps: one register set; `LoadBool` that skips; a mark of no width where a label was recorded; `LoadNil` of a to a + k; a call; `Self`
pub data PW : Type 0 where
  setw : ℕ → Ex → PW
  lbs : ℕ → Bool → PW
  mark : PW
  nilw : ℕ → ℕ → PW
  callw : CT → PW
  selfw : ℕ → ℕ → Rk → PW

pub data Instr : Type 0 where
  pl : PW → Instr
  br : Ctrl → Tgt → Instr

abbrev pub cbase : CT → ℕ
cbase (cfix b n) = b
cbase (cva b n) = b
cbase (cct b n t) = b

abbrev pub cwidth : Ctrl → ℕ
cwidth always = 1
cwidth (test r c) = 2
cwidth (tset r c) = 2
cwidth (tseta a r c) = 2
cwidth (cmp o c x y) = 2

abbrev pub twidth : CT → ℕ
twidth (cfix b n) = 1
twidth (cva b n) = 2
twidth (cct b n t) = 1 + twidth t

abbrev pub pwidth : PW → ℕ
pwidth (setw a x) = 1
pwidth (lbs a b) = 1
pwidth mark = 0
pwidth (nilw a k) = 1
pwidth (callw t) = twidth t
pwidth (selfw a o k) = 1

abbrev pub width : Instr → ℕ
width (pl w) = pwidth w
width (br c t) = cwidth c

-- code, last word first
abbrev pub Code : Type 0
Code = List Instr

unfoldable pub size : Code → ℕ
size [] = 0
size (i ∷ c) = width i + size c

-- edits of the pending jumps of a label: none; they land (those that keep a value at the first word, with its register if any, the others at the second);
-- another label, and whether their values are dropped
pub data Act : Type 0 where
  keep : Act
  land : ℕ → Option ℕ → ℕ → Act
  re : ℕ → Bool → Act

abbrev pub setreg : Bool → ℕ → ℕ → Bool → Ctrl
setreg true r b c = test b c
setreg false r b c = tseta r b c

abbrev pub settest : Option ℕ → ℕ → Bool → Ctrl
settest none b c = test b c
settest (some r) b c = setreg (same r b) r b c

abbrev pub ed_br : Act → Ctrl → ℕ → Instr
ed_br keep c ℓ = br c (lbl ℓ)
ed_br (land vt r dt) always ℓ = br always (to dt)
ed_br (land vt r dt) (test b c) ℓ = br (test b c) (to dt)
ed_br (land vt r dt) (tset b c) ℓ = br (settest r b c) (to vt)
ed_br (land vt r dt) (tseta a b c) ℓ = br (tseta a b c) (to dt)
ed_br (land vt r dt) (cmp o c x y) ℓ = br (cmp o c x y) (to dt)
ed_br (re m false) c ℓ = br c (lbl m)
ed_br (re m true) always ℓ = br always (lbl m)
ed_br (re m true) (test b c) ℓ = br (test b c) (lbl m)
ed_br (re m true) (tset b c) ℓ = br (test b c) (lbl m)
ed_br (re m true) (tseta a b c) ℓ = br (tseta a b c) (lbl m)
ed_br (re m true) (cmp o c x y) ℓ = br (cmp o c x y) (lbl m)

abbrev pub ed1 : (ℕ → Act) → Instr → Instr
ed1 g (pl w) = pl w
ed1 g (br c (to p)) = br c (to p)
ed1 g (br c (lbl ℓ)) = ed_br (g ℓ) c ℓ

unfoldable pub edit : (ℕ → Act) → Code → Code
edit g [] = []
edit g (i ∷ c) = ed1 g i ∷ edit g c
