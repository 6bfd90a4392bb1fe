-- A step of the lowering: from a state and the lent buffers to an answer with both, or to a refusal. `do` blocks read as the Rust does, a refusal being its `?`. Assumes nothing.
use Rattle.std.specs.Prelude.{ℕ, List, Bool, true, false}
use Rattle.refusals.specs.declared.Refusal.{Refusal}
use Rattle.model.specs.declared.State.{State}
use Rattle.model.specs.declared.ExprContext.{ExprContext}
use Rattle.model.specs.Stepped.{Stepped}
use Rattle.model.specs.Stepped as stepped
use Rattle.model.specs.Given.{Given}
use Rattle.model.specs.Given as given
use Rattle.model.specs.Described.{Described}
use Rattle.model.specs.Described as described

-- the lent buffers, each whole
pub record Buffers : Type 0 where
  pub code : List ℕ
  pub lines : List ℕ
  pub kinds : List ℕ
  pub values : List ℕ
  pub pool : List ℕ

abbrev pub bufs : List ℕ → List ℕ → List ℕ → List ℕ → List ℕ → Buffers
bufs code lines kinds values pool = record { code = code; lines = lines; kinds = kinds; values = values; pool = pool }

-- the answer of a step, with state and buffers, or a refusal: `LuaResult`
pub data Result (A : Type 0) : Type 0 where
  done : A → State → Buffers → Result A
  refused : Refusal → Buffers → Result A

abbrev pub Step : Type 0 → Type 0
Step A = State → Buffers → Result A

-- on with the answer, if there is one: `?`
unfoldable pub and_then : {A B : Type 0} → Result A → (A → Step B) → Result B
and_then (done a s m) f = f a s m
and_then (refused k m) f = refused k m

infixl 1 ◌>>=◌
abbrev pub ◌>>=◌ : {A B : Type 0} → Step A → (A → Step B) → Step B
(x >>= f) s m = and_then (x s m) f

infixl 1 ◌>>◌
abbrev pub ◌>>◌ : {A B : Type 0} → Step A → Step B → Step B
(x >> y) s m = and_then (x s m) (λ _. y)

abbrev pub return : {A : Type 0} → A → Step A
return a s m = done a s m

-- `Err`
abbrev pub refuse : {A : Type 0} → Refusal → Step A
refuse k s m = refused k m

-- the state, and a change of it
abbrev pub get : Step State
get s m = done s s m

abbrev pub change : (State → State) → Step (Unit {0})
change f s m = done tt (f s) m

-- the words, and a change of them
abbrev pub code_now : Step (List ℕ)
code_now s m = done m.code s m

abbrev pub change_words : (List ℕ → List ℕ) → Step (Unit {0})
change_words f s m = done tt s (record { code = f m.code; lines = m.lines; kinds = m.kinds; values = m.values; pool = m.pool })

-- nothing to do
abbrev pub skip : Step (Unit {0})
skip = return tt

-- if then
abbrev pub when : Bool → Step (Unit {0}) → Step (Unit {0})
when t x = elim t [ true ↦ x | false ↦ skip ]

-- what the answers that carry the state stand for, as laws name them
abbrev pub stepped_is : Stepped → Buffers → Result (Unit {0})
stepped_is (stepped.Done s) m = done tt s m
stepped_is (stepped.Refused k) m = refused k m

abbrev pub given_is : Given → Buffers → Result ℕ
given_is (given.Done s n) m = done n s m
given_is (given.Refused k) m = refused k m

abbrev pub described_is : Described → Buffers → Result ExprContext
described_is (described.Done s e) m = done e s m
described_is (described.Refused k) m = refused k m
