-- Labelled lowering, operators (model's Operators): the right operand is lowered by a function, between what is done with the left one and what comes of both. The fifteen binary operators
-- and the index are of five forms. Assumes nothing.
use Rattle.folding.specs.Numeral.{Fold}
use Rattle.std.specs.Prelude.{ℕ, suc, Bool, true, false, Some, None}
use Rattle.std.proofs.Math.Option.{Option, some, none}
use Rattle.folding.specs.declared.Arith.{Arith}
use Rattle.folding.specs.declared.Arith.TheVariants as arith
use Rattle.constants.specs.Entry.{Constant, nil, truth, number, text}
use Rattle.ast.specs.declared.BinOp.TheVariants as bin
use Rattle.ast.specs.declared.Two.{Two}
use Rattle.ast.specs.declared.Two.TheVariants as two
use Rattle.model.specs.Values.{StepKind, equal, less, less_or_equal, folds, value_of}
use Rattle.labelled.specs.Code.{Rk, con, Ex, val, cp, glob, idx, ari, neg, len, notx, cat, vfst}
use Rattle.labelled.specs.Table.{is_near}
use Rattle.labelled.specs.Emission.{St, add_k, flush, relabel, hit}
use Rattle.labelled.specs.Discharge.{K4, kc, kr, kx, kj, kd, ki, Pair, Par4, RkS, lab, fresh, lift4, add_p, dv, nextreg, anyreg, exp2rk, late}
use Rattle.labelled.specs.Conditions.{go_if}

-- ---- numerals

-- the bits of a numeral without jumps
abbrev pub num_c : Constant → Option ℕ
num_c nil = none
num_c (truth b) = none
num_c (number n) = some n
num_c (text t) = none

abbrev pub num_k : Bool → K4 → Option ℕ
num_k true k = none
num_k false (kc c) = num_c c
num_k false (kr u r) = none
num_k false (kx x) = none
num_k false (kj o c x y) = none

unfoldable pub numeral : Par4 → Option ℕ
numeral p = num_k (hit false p.de.tl p.de.fl p.st.code) p.de.k4

-- a left operand before the right one: a numeral stays as it is
abbrev pub left_of : Option ℕ → Par4 → RkS
left_of none p = exp2rk p
left_of (some n) p = record { st = p.st; rkv = con (value_of (number n)) }

-- and behind the right one, it goes to RK (difference 2)
abbrev pub late_of : Option ℕ → RkS → St → RkS
late_of none x s = record { st = s; rkv = x.rkv }
late_of (some n) x s = late (is_near (number n) s.tab) (number n) (add_k (number n) s)

-- ---- both operands as RK

pub record Ops : Type 0 where
  pub st : St
  pub lft : Rk
  pub rgt : Rk

-- the right operand first
unfoldable pub right_first : Option ℕ → RkS → Par4 → Ops
right_first n x p = record { st = (late_of n x (exp2rk p).st).st; lft = (late_of n x (exp2rk p).st).rkv; rgt = (exp2rk p).rkv }

-- the left operand first, unless it is a far numeral (difference 2)
abbrev pub left_if : Bool → ℕ → RkS → Par4 → Ops
left_if true n x p = right_first none x (add_p (number n) p)
left_if false n x p = right_first (some n) x p

unfoldable pub left_first : Option ℕ → RkS → Par4 → Ops
left_first none x p = right_first none x p
left_first (some n) x p = left_if (is_near (number n) p.st.tab) n x p

-- ---- arithmetic, comparisons

unfoldable pub ari_join : Fold → Arith → ℕ → Option ℕ → RkS → Par4 → Pair
ari_join (Some z) o f n x p = fresh (kd (kc (number z.bits))) f p.st
ari_join None o f n x p = fresh (kd (kx (ari o (right_first n x p).lft (right_first n x p).rgt))) f (flush (right_first n x p).st)

-- a > b and a >= b: the operands change places in the word
abbrev pub kcmp : Bool → StepKind → Bool → Rk → Rk → K4
kcmp true o c x y = kj o c y x
kcmp false o c x y = kj o c x y

unfoldable pub cmp_join : StepKind → Bool → Bool → ℕ → Option ℕ → RkS → Par4 → Pair
cmp_join o c swapped f n x p = fresh (kd (kcmp swapped o c (left_first n x p).lft (left_first n x p).rgt)) f (flush (left_first n x p).st)

-- negation, of a numeral folded; length
unfoldable pub neg_join : Fold → ℕ → Par4 → Pair
neg_join (Some z) f p = fresh (kd (kc (number z.bits))) f p.st
neg_join None f p = fresh (kd (kx (neg (anyreg p).rgn))) f (flush (anyreg p).st)

unfoldable pub len_join : ℕ → Par4 → Pair
len_join f p = fresh (kd (kx (len (anyreg p).rgn))) f (flush (anyreg p).st)

-- ---- and, or; concatenation

unfoldable pub log₂ : Bool → ℕ → Par4 → Par4
log₂ c m p = record { st = relabel m (lab c p.de) p.st; de = p.de }

-- a word to come that is a concatenation takes one more register
unfoldable pub cat_x : Ex → ℕ → Par4 → Pair
cat_x (val v) r p = fresh (kd (kx (cat r 1))) r (flush (nextreg p))
cat_x (cp k) r p = fresh (kd (kx (cat r 1))) r (flush (nextreg p))
cat_x (glob g) r p = fresh (kd (kx (cat r 1))) r (flush (nextreg p))
cat_x (idx t k) r p = fresh (kd (kx (cat r 1))) r (flush (nextreg p))
cat_x (ari o x y) r p = fresh (kd (kx (cat r 1))) r (flush (nextreg p))
cat_x (neg k) r p = fresh (kd (kx (cat r 1))) r (flush (nextreg p))
cat_x (len k) r p = fresh (kd (kx (cat r 1))) r (flush (nextreg p))
cat_x (notx k) r p = fresh (kd (kx (cat r 1))) r (flush (nextreg p))
cat_x (cat b k) r p = fresh (kd (kx (cat r (suc k)))) r p.st
cat_x vfst r p = fresh (kd (kx (cat r 1))) r (flush (nextreg p))

unfoldable pub cat_k : Bool → K4 → ℕ → Par4 → Pair
cat_k true k r p = fresh (kd (kx (cat r 1))) r (flush (nextreg p))
cat_k false (kc v) r p = fresh (kd (kx (cat r 1))) r (flush (nextreg p))
cat_k false (kr u k) r p = fresh (kd (kx (cat r 1))) r (flush (nextreg p))
cat_k false (kx x) r p = cat_x x r p
cat_k false (kj o c x y) r p = fresh (kd (kx (cat r 1))) r (flush (nextreg p))

unfoldable pub join_c : ℕ → Par4 → Pair
join_c r p = cat_k (hit false p.de.tl p.de.fl p.st.code) p.de.k4 r p

-- ---- the forms of two operands

-- and (for false) or or (for true); ..; arithmetic; a comparison, with the answer that jumps and whether the operands change places; an index read
pub data Form : Type 0 where
  logical : Bool → Form
  joining : Form
  arithmetic : Arith → Form
  comparing : StepKind → Bool → Bool → Form
  indexing : Form

abbrev pub form_of : Two → Form
form_of (two.Binary bin.And) = logical false
form_of (two.Binary bin.Or) = logical true
form_of (two.Binary bin.Add) = arithmetic arith.Add
form_of (two.Binary bin.Sub) = arithmetic arith.Sub
form_of (two.Binary bin.Mul) = arithmetic arith.Mul
form_of (two.Binary bin.Div) = arithmetic arith.Div
form_of (two.Binary bin.Mod) = arithmetic arith.Mod
form_of (two.Binary bin.Pow) = arithmetic arith.Pow
form_of (two.Binary bin.Concat) = joining
form_of (two.Binary bin.Eq) = comparing equal true false
form_of (two.Binary bin.Ne) = comparing equal false false
form_of (two.Binary bin.Lt) = comparing less true false
form_of (two.Binary bin.Le) = comparing less_or_equal true false
form_of (two.Binary bin.Gt) = comparing less true true
form_of (two.Binary bin.Ge) = comparing less_or_equal true true
form_of two.Index = indexing

-- `set_indexed`
abbrev pub indexed : ℕ → ℕ → RkS → Pair
indexed f r y = fresh (ki f r y.rkv) y.st.free y.st

-- the left operand p, f registers being taken before it, and the right one by `right`
unfoldable pub comp_two : Form → ℕ → Par4 → (St → Pair) → Pair
comp_two (logical c) f p right = lift4 (log₂ c (lab c p.de) (dv (right (go_if c p))))
comp_two joining f p right = join_c f (dv (right (nextreg p)))
comp_two (arithmetic o) f p right =
    let n = numeral p in let x = left_of n p in let q = dv (right x.st) in
    ari_join (folds o n (numeral q)) o f n x q
comp_two (comparing o c swapped) f p right =
    let n = numeral p in let x = left_of n p in let q = dv (right x.st) in
    cmp_join o c swapped f n x q
comp_two indexing f p right =
    let x = anyreg p in
    indexed f x.rgn (exp2rk (dv (right x.st)))
