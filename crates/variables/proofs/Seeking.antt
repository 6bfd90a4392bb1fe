-- One turn of the search for a local: what the names from a place on give, with what was found before. By cases on what was read.
use Prim.Native.Nat.{ℕ, zero, suc, ◌+◌, ◌-◌, ◌≤◌, ◌<◌}
use mathlib.Core.Path.{◌≡◌, refl, sym}
use mathlib.Core.List.{List}
use mathlib.Core.Bool.{Bool, true, false}
use mathlib.Core.Option.{Option, some, none}
use native.Mathlib.Omega.{arith}
use native.Mathlib.Numerals.{add-one}
use Rattle.std.specs.Prelude.{Option as Maybe, Some, None}
use Rattle.constants.specs.Entry.{same_bytes}
use Rattle.cursor.specs.Fields.{bytes_of, text_at, end_of}
use Rattle.cursor.specs.declared.Text.{Text}
use Rattle.chunk.specs.Headers.{Names, names, missing, before, names_at}
use Rattle.chunk.specs.Form.{names_of}
use Rattle.model.specs.Values.{last_wins}
use Rattle.model.specs.Expressions.{search_local}
use Rattle.variables.specs.Found.{newest}

-- the code's answer as the definition's
abbrev decode : Maybe ℕ → Option ℕ
decode None = none
decode (Some r) = some r

wins_none : (o : Option ℕ) → last_wins o none ≡ o
wins_none (some r) = refl
wins_none none = refl

module _ (chunk name : List ℕ) where
  -- the names from register r on, after `last`
  abbrev pub sought : Names → ℕ → Maybe ℕ → Option ℕ
  sought (names ts at) r last = last_wins (search_local chunk name ts r) (decode last)
  sought missing r last = none

  pub sought_all : (n : Names) → search_local chunk name (names_of n) 0 ≡ sought n 0 None
  unfolding search_local
  sought_all (names ts at) = sym (wins_none (search_local chunk name ts 0))
  sought_all missing = refl

  one_more : (t : Text) (n : Names) (r : ℕ) (last : Maybe ℕ) → sought (before t n) r last ≡ sought n (suc r) (newest chunk name t r last)
  unfolding search_local newest
  one_more t missing r last = refl
  one_more t (names ts at) r last = go (search_local chunk name ts (suc r)) (same_bytes (bytes_of chunk t) name)
    where
      go : (o : Option ℕ) (b : Bool)
          → last_wins (last_wins o (elim b [ true ↦ some r | false ↦ none ])) (decode last) ≡ last_wins o (decode (elim b [ true ↦ Some r | false ↦ last ]))
      go (some q) b = refl
      go none true = refl
      go none false = refl

  module _ (at r : ℕ) (last : Maybe ℕ) where
    pub sought_more : (k : ℕ) (t : Text) → 0 < k → text_at chunk at ≡ Some t
        → sought (names_at chunk k at) r last ≡ sought (names_at chunk (k - 1) (end_of t)) (r + 1) (newest chunk name t r last)
    unfolding names_at
    sought_more zero t h e = absurd (omega arith)
    sought_more (suc k) t h e = let q : suc k - 1 ≡ k = omega arith in rw (q, add-one, e) (one_more t (names_at chunk k (end_of t)) r last)

    pub sought_cut : (k : ℕ) → 0 < k → text_at chunk at ≡ None → sought (names_at chunk k at) r last ≡ none
    unfolding names_at
    sought_cut zero h e = absurd (omega arith)
    sought_cut (suc k) h e = rw e

    pub sought_end : (k : ℕ) → k ≤ 0 → sought (names_at chunk k at) r last ≡ decode last
    unfolding names_at search_local
    sought_end zero h = refl
    sought_end (suc k) h = absurd (omega arith)
