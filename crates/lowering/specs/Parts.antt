-- Parts of the definitions that the code has functions for. Assumes nothing.
use Rattle.std.specs.Prelude.{ℕ, List, ◌≡◌}
use Rattle.buffers.specs.Pad.{zeros, pad}
use Rattle.chunk.specs.Headers.{header_at}
use Rattle.model.specs.Lowered.{Lowered}
use Rattle.std.specs.Prelude as answer
use Rattle.model.specs.Steps.{Buffers}
use Rattle.model.specs.Claims.{sizes}
use Rattle.buffers.specs.Lent.{Lent}
use Rattle.model.specs.Relations.{before, after}
use Rattle.model.specs.Lowering.{Sizes, start, lower_chunk, Out, out, ended, with_header}

-- the end of `lower_formed`, from buffers m
abbrev pub from_header : Sizes → List ℕ → List ℕ → Buffers → Out
from_header z chunk places m = with_header z (header_at chunk) λ h. ended z places (lower_chunk chunk h (start h.next h.locals) m)

-- what a scratch of n numbers then holds
abbrev pub scratch_of : Lowered → ℕ → List ℕ → List ℕ
scratch_of (answer.Ok k) n places = pad n places
scratch_of (answer.Err k) n places = zeros n

-- the contract of `lower_cleared`, whatever the scratch
abbrev pub LowersCleared : List ℕ → Lowered → Lent → Lent → Lent → Lent → Lent → Type 0
LowersCleared chunk r code lines kinds values pool = (n : ℕ) (places : List ℕ) → from_header (sizes (before code lines kinds values pool) n) chunk places (before code lines kinds values pool) ≡ out r (after code lines kinds values pool) (scratch_of r n places)
