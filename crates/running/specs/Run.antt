-- The model's run of words that encode labelled code goes where labelled code goes, and a `Return` behind it ends the run with its registers.
-- By induction on the code: an instruction is carried out only where the outcome so far stands at it, and then its words do what it does. Nothing needs to be known of a jump that is still pending.
-- What rests on something that a must-fail edit breaks stands in proofs/Run.antt.
use Prim.Native.Nat.{ℕ, ◌≤◌, ◌<◌}
use Rattle.std.specs.Prelude.{◌≡◌, length, get_or}
use mathlib.Core.List.{List, []}
use Rattle.std.proofs.Math.Option.{some, none}
use Rattle.instructions.specs.Limits.{max_stack, max_constants}
use Rattle.constants.specs.Entry.{Constant, nil as knil, constant_at}
use Rattle.model.specs.Values.{Value, World, fit}
use Rattle.model.specs.Running as run
use Rattle.model.specs.Running.{Program, Machine, ends, returned}
use Rattle.labelled.specs.Machine.{Hist, Setting}
use Rattle.labelled.specs.Locals.{setting_of}
use Rattle.running.specs.Registers.{holds_start}
use Rattle.running.specs.Reaching.{reach_here}
use Rattle.running.specs.Operands.{Lists, state}
use Rattle.running.specs.Arriving.{At}

module _ (w : World) (p : Program) (t : List Constant) (locals varargs : List Value) (count : p.constants ≡ length t) (few : length t ≤ max_constants)
    (entries : (i : ℕ) → i < length t → constant_at p.pool p.kinds p.values i ≡ some (get_or t i knil)) (most : p.frame ≤ max_stack) where
  abbrev Γ : Setting
  Γ = setting_of w locals varargs

  abbrev start : Machine
  start = state 0 (fit p.frame locals) none []

  pub lists : Lists p t
  lists = record { count = count; few = few; entries = entries }

  pub begins : At Γ p start 0 Γ.start []
  begins = record { registers = fit p.frame locals; holds = holds_start p.frame locals; reach = reach_here w p varargs start }

  -- the run ends with these values and steps, each word carried out at most once
  abbrev pub Returns : List Value → Hist → Type 0
  Returns vs h = (n : ℕ) × ((n ≤ length p.words) × (run.run w p locals varargs ≡ returned vs h n))
