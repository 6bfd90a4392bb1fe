-- What is claimed of a lowering, in the words of demands 1 and 3: what the buffers hold, where a refusal is given, and that running the words is reading the formulas. Statements only; their proofs are the theorems `padded` and `faithful`. Assumes nothing.
use Rattle.std.specs.Prelude.{ℕ, ◌-◌, ◌≤◌, ◌<◌, ◌≡◌, List, ◌++◌, length, get_or, take}
use Rattle.std.proofs.Math.Option.{some}
use Rattle.refusals.specs.Stage.{stage_of}
use Rattle.refusals.specs.Stage as stage
use Rattle.refusals.specs.declared.Refusal.{Refusal}
use Rattle.refusals.specs.declared.Refusal.TheVariants as refusal
use Rattle.buffers.specs.Pad.{zeros}
use Rattle.instructions.specs.Limits.{max_stack}
use Rattle.constants.specs.Entry.{Constant, constant_at, Inside}
use Rattle.chunk.specs.Ast.{Chunk, spans_of, places_of}
use Rattle.chunk.specs.Form.{formed, unformed, form_of}
use Rattle.model.specs.declared.Counts.{Counts}
use Rattle.model.specs.Lowered.{Lowered}
use Rattle.std.specs.Prelude as answer
use Rattle.model.specs.Values.{Value, World}
use Rattle.model.specs.Reading.{reading}
use Rattle.model.specs.Running.{Program, returned, run}
use Rattle.model.specs.Steps.{Buffers}
use Rattle.model.specs.Lowering.{Sizes, cleared, out, lowered}

-- the list holds bytes, as a slice of u8 does
abbrev pub Bytes : List ℕ → Type 0
Bytes s = (i : ℕ) → get_or s i 0 < 256

-- the lengths of these buffers and of a scratch of n numbers
abbrev pub sizes : Buffers → ℕ → Sizes
sizes m n = record { code = length m.code; lines = length m.lines; kinds = length m.kinds; values = length m.values; pool = length m.pool; scratch = n }

-- ---- demand 1

-- a buffer of n numbers: so many that are used, and then zeros
pub record Filled (n used : ℕ) (l : List ℕ) : Type 0 where
  pub long : length l ≡ n
  pub fits : used ≤ n
  pub then : l ≡ take used l ++ zeros (n - used)

-- what success leaves: as much as the counts say and then zeros, listed constants that differ, texts in the counted bytes, and the places of the nodes
pub record Left (z : Sizes) (chunk : List ℕ) (k : Counts) (m : Buffers) (scratch : List ℕ) : Type 0 where
  pub code : Filled z.code k.words m.code
  pub lines : Filled z.lines k.words m.lines
  pub kinds : Filled z.kinds k.constants m.kinds
  pub values : Filled z.values k.constants m.values
  pub pool : Filled z.pool k.text m.pool
  pub entries : (i : ℕ) → i < k.constants → (c : Constant) × (constant_at m.pool m.kinds m.values i ≡ some c)
  pub texts : (i : ℕ) → i < k.constants → get_or m.kinds i 0 ≡ 4 → Inside k.text (get_or m.values i 0)
  pub differ : (i j : ℕ) → i < j → j < k.constants → constant_at m.pool m.kinds m.values i ≡ constant_at m.pool m.kinds m.values j → ⊥
  pub frame : k.frame ≤ max_stack
  pub tree : Chunk
  pub form : form_of chunk ≡ formed tree
  pub room : length (places_of (spans_of tree.formulas)) ≤ z.scratch
  pub places : scratch ≡ places_of (spans_of tree.formulas) ++ zeros (z.scratch - length (places_of (spans_of tree.formulas)))

-- where a refusal is given: one of the form where the form gives it; of a chunk that has the form, 9 where the scratch is shorter than the nodes, and one of the steps, 10 to 13, where it isn't
pub data Due (z : Sizes) (chunk : List ℕ) (x : Refusal) : Type 0 where
  by_form : form_of chunk ≡ unformed x → stage_of x ≡ stage.form → Due z chunk x
  by_scratch : (c : Chunk) → form_of chunk ≡ formed c → z.scratch < length (places_of (spans_of c.formulas)) → x ≡ refusal.Scratch → Due z chunk x
  by_lowering : (c : Chunk) → form_of chunk ≡ formed c → length (places_of (spans_of c.formulas)) ≤ z.scratch → stage_of x ≡ stage.steps → Due z chunk x

-- a refusal leaves only zeros, and comes from the stage that `Due` names; which of 10 to 13 it is, and where, the equation with `lowered` tells
abbrev pub Padded : Sizes → List ℕ → Lowered → Buffers → List ℕ → Type 0
Padded z chunk (answer.Ok k) m scratch = Left z chunk k m scratch
Padded z chunk (answer.Err x) m scratch = (m ≡ cleared z) × ((scratch ≡ zeros z.scratch) × Due z chunk x)

-- ---- demand 3

-- counts and buffers as a program: the words, constants, texts and frame that are counted, and nothing behind them
abbrev pub program : Counts → Buffers → Program
program k m = record { words = take k.words m.code; constants = k.constants; kinds = take k.constants m.kinds; values = take k.constants m.values; pool = take k.text m.pool; frame = k.frame }

-- the run returns, with the values and the outward steps of the reading, after no more words carried out than there are
abbrev pub RunsAsRead : List ℕ → Chunk → World → List Value → List Value → Counts → Buffers → Type 0
RunsAsRead chunk c w locals varargs k m = (n : ℕ) × ((n ≤ k.words) × (run w (program k m) locals varargs ≡ returned (reading w chunk c locals varargs).gives (reading w chunk c locals varargs).steps n))

-- where the answer is counts: the chunk has a form, and whatever the outside, the locals and the varargs, running the words is reading its formulas
abbrev pub Faithful : List ℕ → Lowered → Buffers → Type 0
Faithful chunk (answer.Ok k) m = (c : Chunk) × ((form_of chunk ≡ formed c) × ((w : World) (locals varargs : List Value) → length locals ≡ length c.names → RunsAsRead chunk c w locals varargs k m))
Faithful chunk (answer.Err k) m = Unit {0}

-- ---- all that is promised of a lowering: the answer and every buffer are those of the definition, whole; and, of these, demands 1 and 3

abbrev pub Lowers : Sizes → List ℕ → Lowered → Buffers → List ℕ → Type 0
Lowers z chunk r m scratch = (lowered z chunk ≡ out r m scratch) × (Padded z chunk r m scratch × Faithful chunk r m)
