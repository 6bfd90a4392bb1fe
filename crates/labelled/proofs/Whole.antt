-- The theorem about labelled code: its run, from the locals and nil elsewhere, ends at its end with the values of the formulas in the registers behind the locals, and with the reading's steps;
-- and its constants are in order. It holds because each expression is good, and because a local that is found stands in the register of its name.
use Rattle.std.specs.Prelude.{ℕ, ◌≡◌, List, [], length}
use Rattle.cursor.specs.declared.Text.{Text}
use Rattle.chunk.specs.Ast.{Exprs}
use Rattle.model.specs.Values.{Value, World, Taken}
use Rattle.model.specs.Reading.{read_formulas}
use Rattle.labelled.specs.Machine.{Setting}
use Rattle.labelled.specs.Places.{Distinct}
use Rattle.labelled.specs.Expressions.{comp_all, begin, labelled}
use Rattle.labelled.specs.Faithful.{count}
use Rattle.labelled.proofs.Faithful.{begun}
use Rattle.labelled.specs.Locals.{setting_of, finds}
use Rattle.labelled.specs.Sound.{Ok}
use Rattle.labelled.proofs.Listing.{all_listed, all_once}
use Rattle.labelled.specs.Whole.{Ends, ran_ends}

module _ (w : World) (chunk : List ℕ) (names : List Text) (locals varargs : List Value) (each : length locals ≡ length names) (fs : Exprs) where
  abbrev Γ₀ : Setting
  Γ₀ = setting_of w locals varargs

  abbrev reading : Taken (List Value)
  reading = read_formulas w chunk names locals varargs fs []

  -- FAITHFUL: what running the labelled code gives is what reading the formulas gives
  pub whole : Ends Γ₀ (labelled chunk names fs) (length names) (count fs) reading
  whole = rw (← each) (ran_ends w chunk names locals varargs each fs (comp_all chunk names fs (begin (length locals))) (begun Γ₀ chunk names locals (finds w chunk names locals varargs each) fs))

-- THE CONSTANTS of the labelled code: every one that a word uses is listed, those in RK operands at most at 255, and none is listed twice (and calls are nested as they stand in the registers)
module _ (chunk : List ℕ) (names : List Text) (fs : Exprs) where
  pub constants : Ok (labelled chunk names fs).tab (labelled chunk names fs).code × Distinct (labelled chunk names fs).tab
  constants = (all_listed chunk names fs, all_once chunk names fs)
