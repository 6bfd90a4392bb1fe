-- A local that is found stands in the register of its name, when the run starts with one value for each name: looking for a name's register and for its value takes the same turns.
use Rattle.std.specs.Prelude.{ℕ, suc, ◌+◌, ◌<◌, Bool, true, false, ◌≡◌, length, get_or}
use Rattle.std.proofs.Math.Path.{refl}
use mathlib.Core.List.{List, [], ◌∷◌}
use Rattle.std.proofs.Math.Option.{Option, some, none}
use Rattle.std.proofs.Math.ListN.{get_or-eq_default}
use Rattle.std.proofs.Common.{arith as nat}
use Rattle.constants.specs.Entry.{same_bytes}
use Rattle.cursor.specs.Fields.{bytes_of}
use Rattle.cursor.specs.declared.Text.{Text}
use Rattle.model.specs.Values.{last_wins, named, Value, nil, World}
use Rattle.model.specs.Expressions.{search_local}
use Rattle.model.specs.Reading.{local_named}
use Rattle.labelled.specs.Machine.{Setting}
use Rattle.labelled.specs.Faithful.{Finds}

-- the locals in the first registers and nil in all others
abbrev pub setting_of : World → List Value → List Value → Setting
setting_of w locals varargs = record { world = w; varargs = varargs; start = λ k. get_or locals k nil; active = length locals; blank = λ k l. get_or-eq_default locals nil {n = k} l }

-- a name found from register r on is some entry's, and that entry's value is the name's
abbrev Found : ℕ → List Value → Option ℕ → Option Value → Type 0
Found r vs none o = o ≡ none
Found r vs (some i) o = (j : ℕ) × ((i ≡ j + r) × ((j < length vs) × (o ≡ some (get_or vs j nil))))

module _ (chunk name : List ℕ) where
  found_here : (b : Bool) (r : ℕ) (v : Value) (vs : List Value) → Found r (v ∷ vs) (elim b [ true ↦ some r | false ↦ none ]) (elim b [ true ↦ some v | false ↦ none ])
  found_here true r v vs = (0, (omega nat, (omega nat, refl)))
  found_here false r v vs = refl

  found_later : (t : Text) (v : Value) (vs : List Value) (r : ℕ) (i : Option ℕ) (o : Option Value) → Found (suc r) vs i o → Found r (v ∷ vs) (last_wins i (named chunk name t r)) (last_wins o (named chunk name t v))
  found_later t v vs r none o f = rw f (found_here (same_bytes (bytes_of chunk t) name) r v vs)
  found_later t v vs r (some i) o (j, (e, (l, q))) = rw q (suc j, (omega nat, (omega nat, refl)))

  found : (ts : List Text) (vs : List Value) (r : ℕ) → length vs ≡ length ts → Found r vs (search_local chunk name ts r) (local_named chunk name ts vs)
  unfolding search_local local_named
  found [] vs r e = refl
  found (t ∷ ts) [] r e = absurd (omega nat)
  found (t ∷ ts) (v ∷ vs) r e = found_later t v vs r (search_local chunk name ts (suc r)) (local_named chunk name ts vs) (found ts vs (suc r) (omega nat))

module _ (w : World) (chunk : List ℕ) (names : List Text) (locals varargs : List Value) (each : length locals ≡ length names) where
  finds_of : (i : Option ℕ) (o : Option Value) → Found 0 locals i o → Finds (setting_of w locals varargs) i o
  finds_of none o f = f
  finds_of (some i) o (j, (e, (l, q))) = let ij : i ≡ j = omega nat in rw ij (l, q)

  pub finds : (name : List ℕ) → Finds (setting_of w locals varargs) (search_local chunk name names 0) (local_named chunk name names locals)
  finds name = finds_of (search_local chunk name names 0) (local_named chunk name names locals) (found chunk name names locals 0 each)
