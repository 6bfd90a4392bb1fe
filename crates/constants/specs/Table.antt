-- The constant table: the first `count` entries of kinds and values, with their texts in the first `used` bytes of the pool. Finding and adding. Assumes nothing.
use Rattle.std.specs.Prelude.{ℕ, zero, suc, ◌+◌, ◌*◌, ◌%◌, List, [], ◌∷◌, Bool, true, false, ◌||◌, length, set, leb, Option, Some, None, Result, Ok, Err}
use Rattle.std.proofs.lemmas.List.Edits.{sets}
use Rattle.instructions.specs.Limits.{max_constants}
use Rattle.refusals.specs.declared.Refusal.{Refusal}
use Rattle.refusals.specs.declared.Refusal.TheVariants.{Constants, Pool}
use Rattle.constants.specs.Entry.{part, holds}
use Rattle.constants.specs.declared.Val.{Val}
use Rattle.constants.specs.declared.Val.TheVariants as val
use Rattle.constants.specs.declared.Table.{Table}

-- what a search answers: an entry's index
abbrev pub Found : Type 0
Found = Option ℕ

-- what adding answers: an entry's index and the table as it then is, or a refusal
abbrev pub Added : Type 0
Added = Result (ℕ × Table) Refusal

-- one place further on
abbrev pub later : Found → Found
later (Some i) = Some (suc i)
later None = None

-- the first of the first `count` entries that meets the test
unfoldable pub find : (ℕ → ℕ → Bool) → ℕ → List ℕ → List ℕ → Found
find p zero ks ws = None
find p (suc n) [] ws = None
find p (suc n) (k ∷ ks) [] = None
find p (suc n) (k ∷ ks) (w ∷ ws) = elim (p k w) [ true ↦ Some 0 | false ↦ later (find p n ks ws) ]

-- an answer, and kinds, values and pool as they then are
pub record Out : Type 0 where
  pub answer : Added
  pub kinds : List ℕ
  pub values : List ℕ
  pub pool : List ℕ

abbrev pub out : Added → List ℕ → List ℕ → List ℕ → Out
out a ks ws pool = record { answer = a; kinds = ks; values = ws; pool = pool }

-- no entry is free: refusal 11
abbrev pub full : ℕ → List ℕ → List ℕ → Bool
full count ks ws = leb (length ks) count || (leb (length ws) count || leb max_constants count)

-- a new entry of this kind and value, and of `n` bytes of the pool
abbrev pub stored : Table → ℕ → ℕ → ℕ → List ℕ → List ℕ → List ℕ → Out
stored t k w n ks ws pool = out (Ok (t.count, record { count = t.count + 1; used = t.used + n })) (set ks t.count k) (set ws t.count w) pool

-- a text's bytes go behind those in use, unless the pool is too short: refusal 12. Its value is start × 65,536 + length (start below 2 ^ 48 and length below 2 ^ 16, as all are)
abbrev pub stored_text : Bool → Table → List ℕ → List ℕ → List ℕ → List ℕ → Out
stored_text true t bytes ks ws pool = stored t 4 (t.used % 281474976710656 * 65536 + length bytes % 65536) (length bytes) ks ws (sets pool t.used bytes)
stored_text false t bytes ks ws pool = out (Err Pool) ks ws pool

-- .. with the test
abbrev pub with_text : Table → List ℕ → List ℕ → List ℕ → List ℕ → Out
with_text t bytes ks ws pool = stored_text (leb (t.used + length bytes) (length pool)) t bytes ks ws pool

-- the new entry of a constant
unfoldable pub append : List ℕ → Table → Val → List ℕ → List ℕ → List ℕ → Out
append chunk t val.Nil ks ws pool = stored t 0 0 0 ks ws pool
append chunk t (val.Bool false) ks ws pool = stored t 1 0 0 ks ws pool
append chunk t (val.Bool true) ks ws pool = stored t 2 0 0 ks ws pool
append chunk t (val.Num x b) ks ws pool = stored t 3 b 0 ks ws pool
append chunk t (val.Str s n) ks ws pool = with_text t (part chunk s n) ks ws pool

-- `add_constant`, `string_constant`, `nil_constant`: the entry that there is, or a new one
unfoldable pub added : List ℕ → Table → Val → List ℕ → List ℕ → List ℕ → Out
added chunk t v ks ws pool =
    elim (find (holds pool chunk v) t.count ks ws) [
      | Some i ↦ out (Ok (i, t)) ks ws pool
      | None ↦ elim (full t.count ks ws) [
        | true ↦ out (Err Constants) ks ws pool
        | false ↦ append chunk t v ks ws pool
      ]
    ]
