-- What a controller is told of a lowering: a number, and the counts in a buffer of its own; and what is promised of these. Assumes nothing.
use Rattle.std.specs.Prelude.{ℕ, ◌≡◌, List, [], ◌∷◌, length}
use Rattle.refusals.specs.Number.{number_of}
use Rattle.buffers.specs.Pad.{pad}
use Rattle.model.specs.Lowered.{Lowered}
use Rattle.std.specs.Prelude as answer
use Rattle.model.specs.Steps.{Buffers}
use Rattle.model.specs.Claims.{sizes, Padded, Faithful}
use Rattle.buffers.specs.Lent.{Lent}
use Rattle.model.specs.Relations.{before, after}
use Rattle.model.specs.Lowering.{Sizes, Out, lowered}

-- the answer, and what each lent buffer then holds, whole
pub record Told : Type 0 where
  pub number : ℕ
  pub buffers : Buffers
  pub scratch : List ℕ
  pub counts : List ℕ

abbrev pub telling : ℕ → Buffers → List ℕ → List ℕ → Told
telling n m scratch counts = record { number = n; buffers = m; scratch = scratch; counts = counts }

-- 0, or the refusal's number
abbrev pub number_for : Lowered → ℕ
number_for (answer.Ok k) = 0
number_for (answer.Err k) = number_of k

-- words, constants, text bytes, frame; none beside a refusal
abbrev pub counts_for : Lowered → List ℕ
counts_for (answer.Ok k) = k.words ∷ k.constants ∷ k.text ∷ k.frame ∷ []
counts_for (answer.Err k) = []

-- a lowering as it is told with a buffer for n counts: as many of the four as fit, then zeros
abbrev pub told : ℕ → Out → Told
told n o = telling (number_for o.answer) o.buffers o.scratch (pad n (counts_for o.answer))

-- all that is promised of a lowering as it is told with a buffer for n counts: the number and every buffer are those of the definition, whole; and, of these, demands 1 and 3
abbrev pub Tells : ℕ → Sizes → List ℕ → ℕ → Buffers → List ℕ → List ℕ → Type 0
Tells n z chunk number m scratch counts = (told n (lowered z chunk) ≡ telling number m scratch counts) × (Padded z chunk (lowered z chunk).answer m scratch × Faithful chunk (lowered z chunk).answer m)

-- the same of the buffers that are lent
abbrev pub TellsLent : List ℕ → ℕ → Lent → Lent → Lent → Lent → Lent → Lent → Lent → Type 0
TellsLent chunk number code lines kinds values pool scratch counts =
    Tells (length counts.entry.now) (sizes (before code lines kinds values pool) (length scratch.entry.now)) chunk number (after code lines kinds values pool) scratch.exit.now counts.exit.now
