-- Values, outward steps and what answers them (document 01, "Running and reading"). Assumes nothing.
use Rattle.folding.specs.Numeral.{Fold}
use Rattle.std.specs.Prelude.{ℕ, zero, suc, List, [], ◌∷◌, Bool, true, false, Some, None}
use Rattle.std.proofs.Math.Option.{Option, some, none}
use Rattle.std.specs.Float.{binary64}
use Rattle.std.specs.Float.Ieee.{of_bits}
use Rattle.folding.specs.Folding.{fold_of}
use Rattle.folding.specs.declared.Arith.{Arith}
use Rattle.folding.specs.declared.Arith.TheVariants.{Unm}
use Rattle.constants.specs.Entry.{Constant, nil as knil, truth as ktruth, number as knumber, text as ktext, same_bytes}
use Rattle.cursor.specs.Fields.{bytes_of}
use Rattle.cursor.specs.declared.Text.{Text}

-- of equal names the last wins: what a later name gives, else this one if its bytes are the name
abbrev pub last_wins : {A : Type 0} → Option A → Option A → Option A
last_wins (some b) a = some b
last_wins none a = a

abbrev pub named : {A : Type 0} → List ℕ → List ℕ → Text → A → Option A
named chunk name t a = elim (same_bytes (bytes_of chunk t) name) [ true ↦ some a | false ↦ none ]

-- a double is told apart by its bits, a text by its bytes, and what comes from outside by an identity
pub data Value : Type 0 where
  nil : Value
  truth : Bool → Value
  number : ℕ → Value
  text : List ℕ → Value
  other : ℕ → Value

-- the value of a constant
abbrev pub value_of : Constant → Value
value_of knil = nil
value_of (ktruth b) = truth b
value_of (knumber b) = number b
value_of (ktext t) = text t

-- only nil and false are false (manual 2.4.4)
abbrev pub is_true : Value → Bool
is_true nil = false
is_true (truth b) = b
is_true (number b) = true
is_true (text t) = true
is_true (other i) = true

-- the first of a list of values, or nil
abbrev pub first : List Value → Value
first [] = nil
first (v ∷ vs) = v

-- the first n of a list of values, with nil for those that aren't there
abbrev pub fit : ℕ → List Value → List Value
fit zero vs = []
fit (suc n) [] = nil ∷ fit n []
fit (suc n) (v ∷ vs) = v ∷ fit n vs

-- the kinds of outward step, with the operator if any
pub data StepKind : Type 0 where
  global_read : StepKind
  index_read : StepKind
  call : StepKind
  equal : StepKind
  less : StepKind
  less_or_equal : StepKind
  length_of : StepKind
  concatenation : StepKind
  arithmetic : Arith → StepKind

pub record Outward : Type 0 where
  pub kind : StepKind
  pub values : List Value

-- the outside: each answer may depend on the step and all earlier ones, the newest first. Calls are answered by a list, comparisons by a truth value, the others by one value
pub record World : Type 0 where
  pub one : List Outward → Value
  pub many : List Outward → List Value
  pub holds : List Outward → Bool

-- something that may take outward steps: what it gives, and the steps so far
pub record Taken (A : Type 0) : Type 0 where
  pub gives : A
  pub steps : List Outward

abbrev pub taken : {A : Type 0} → A → List Outward → Taken A
taken a h = record { gives = a; steps = h }

abbrev pub outward : StepKind → List Value → List Outward → List Outward
outward k vs h = record { kind = k; values = vs } ∷ h

-- a number's bits
abbrev pub bits : Value → Option ℕ
bits nil = none
bits (truth b) = none
bits (number b) = some b
bits (text t) = none
bits (other i) = none

abbrev pub folds : Arith → Option ℕ → Option ℕ → Fold
folds o (some a) (some b) = fold_of o (of_bits binary64 a) (of_bits binary64 b)
folds o (some a) none = None
folds o none (some b) = None
folds o none none = None

module _ (w : World) where
  -- a step answered by one value, by a list, by a truth value
  abbrev pub ask : StepKind → List Value → List Outward → Taken Value
  ask k vs h = taken (w.one (outward k vs h)) (outward k vs h)

  abbrev pub ask_many : List Value → List Outward → Taken (List Value)
  ask_many vs h = taken (w.many (outward call vs h)) (outward call vs h)

  abbrev pub ask_truth : StepKind → List Value → List Outward → Taken Bool
  ask_truth k vs h = taken (w.holds (outward k vs h)) (outward k vs h)

  -- arithmetic is inward where folding takes the values, else a step
  abbrev pub unless_folds : Fold → StepKind → List Value → List Outward → Taken Value
  unless_folds (Some n) k vs h = taken (number n.bits) h
  unless_folds None k vs h = ask k vs h

  unfoldable pub compute : Arith → Value → Value → List Outward → Taken Value
  compute o a b h = unless_folds (folds o (bits a) (bits b)) (arithmetic o) (a ∷ b ∷ []) h

  -- negation has one value
  unfoldable pub negation : Value → List Outward → Taken Value
  negation a h = unless_folds (folds Unm (bits a) (bits a)) (arithmetic Unm) (a ∷ []) h
