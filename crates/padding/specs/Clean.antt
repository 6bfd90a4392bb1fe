-- Clean tails: a lent buffer is zero behind what the lowering has put into it. A step keeps them where each part of it does; what touches neither the count of words nor the table keeps them as they are.
use Rattle.std.specs.Prelude.{ℕ, ◌≤◌, Bool, true, false, ◌≡◌, List, length, get_or}
use Rattle.std.proofs.Common.{◌∙◌, subst}
use Rattle.refusals.specs.declared.Refusal.{Refusal}
use Rattle.model.specs.declared.State.{State}
use Rattle.model.specs.Steps.{Buffers, Result, done, refused, Step, and_then, ◌>>=◌, return, refuse, get, change, code_now, change_words, skip, when}
use Rattle.model.specs.Lowering.{Sizes}

-- lengths are as lent; the words' lines fit; behind the words' lines, the constants and the texts all is zero
pub record Clean (z : Sizes) (s : State) (m : Buffers) : Type 0 where
  pub code_length : length m.code ≡ z.code
  pub lines_length : length m.lines ≡ z.lines
  pub kinds_length : length m.kinds ≡ z.kinds
  pub values_length : length m.values ≡ z.values
  pub pool_length : length m.pool ≡ z.pool
  pub lines_fit : s.pc ≤ z.lines
  pub lines : (i : ℕ) → s.pc ≤ i → get_or m.lines i 0 ≡ 0
  pub kinds : (i : ℕ) → s.table.count ≤ i → get_or m.kinds i 0 ≡ 0
  pub values : (i : ℕ) → s.table.count ≤ i → get_or m.values i 0 ≡ 0
  pub pool : (i : ℕ) → s.table.used ≤ i → get_or m.pool i 0 ≡ 0

-- what a step ends in: refused, or done with clean tails
pub data Leaves (z : Sizes) {A : Type 0} : Result A → Type 0 where
  clean : (a : A) (s : State) (m : Buffers) → Clean z s m → Leaves z (done a s m)
  none : (k : Refusal) (m : Buffers) → Leaves z (refused k m)

abbrev pub Keeps : Sizes → {A : Type 0} → Step A → Type 0
Keeps z x = (s : State) (m : Buffers) → Clean z s m → Leaves z (x s m)

-- what is left where it is done
abbrev CleanAfter : Sizes → {A : Type 0} → Result A → Type 0
CleanAfter z (done a s m) = Clean z s m
CleanAfter z (refused k m) = Unit {0}

clean_after : {z : Sizes} {A : Type 0} {r : Result A} → Leaves z r → CleanAfter z r
clean_after (clean a s m c) = c
clean_after (none k m) = tt

pub ends_clean : {z : Sizes} {A : Type 0} {r : Result A} {a : A} {s : State} {m : Buffers} → Leaves z r → r ≡ done a s m → Clean z s m
ends_clean {z} l e = subst (CleanAfter z) e (clean_after l)

-- ---- the parts of a step

module _ {z : Sizes} where
  pub keeps_return : {A : Type 0} (a : A) → Keeps z (return a)
  keeps_return a s m c = clean a s m c

  pub keeps_skip : Keeps z skip
  keeps_skip s m c = clean tt s m c

  pub keeps_refuse : {A : Type 0} (k : Refusal) → Keeps z (refuse {A = A} k)
  keeps_refuse k s m c = none k m

  pub keeps_get : Keeps z get
  keeps_get s m c = clean s s m c

  pub keeps_words : Keeps z code_now
  keeps_words s m c = clean m.code s m c

  pub keeps_change : (f : State → State) → ((s : State) → (f s).pc ≡ s.pc) → ((s : State) → (f s).table ≡ s.table) → Keeps z (change f)
  keeps_change f p t s m c = clean tt (f s) m (record {
    code_length = c.code_length;
    lines_length = c.lines_length;
    kinds_length = c.kinds_length;
    values_length = c.values_length;
    pool_length = c.pool_length;
    lines_fit = rw (p s) c.lines_fit;
    lines = rw (p s) c.lines;
    kinds = rw (t s) c.kinds;
    values = rw (t s) c.values;
    pool = rw (t s) c.pool;
  })

  pub keeps_change_words : (f : List ℕ → List ℕ) → ((code : List ℕ) → length (f code) ≡ length code) → Keeps z (change_words f)
  keeps_change_words f l s m c = clean tt s _ (record {
    code_length = l m.code ∙ c.code_length;
    lines_length = c.lines_length;
    kinds_length = c.kinds_length;
    values_length = c.values_length;
    pool_length = c.pool_length;
    lines_fit = c.lines_fit;
    lines = c.lines;
    kinds = c.kinds;
    values = c.values;
    pool = c.pool;
  })

  then_leaves : {A B : Type 0} {r : Result A} {f : A → Step B} → Leaves z r → ((a : A) → Keeps z (f a)) → Leaves z (and_then r f)
  unfolding and_then
  then_leaves (clean a s m c) g = g a s m c
  then_leaves (none k m) g = none k m

  pub keeps_then : {A B : Type 0} {x : Step A} {f : A → Step B} → Keeps z x → ((a : A) → Keeps z (f a)) → Keeps z (x >>= f)
  keeps_then k g s m c = then_leaves (k s m c) g

  pub keeps_if : {A : Type 0} (t : Bool) {x y : Step A} → Keeps z x → Keeps z y → Keeps z {A = A} (elim t [ true ↦ x | false ↦ y ])
  keeps_if true k l = k
  keeps_if false k l = l

  pub keeps_when : (t : Bool) {x : Step (Unit {0})} → Keeps z x → Keeps z (when t x)
  keeps_when t k = keeps_if t k keeps_skip
