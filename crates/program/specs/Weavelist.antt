-- What the program `weavelist` prints, from what it reads (document 01, "The weave list, and cases"). Assumes nothing.
use Rattle.std.specs.Prelude.{ℕ, true, false, List, length, leb, Some}
use Rattle.refusals.specs.Number.{number_of}
use Rattle.refusals.specs.declared.Refusal.TheVariants as refusal
use Rattle.buffers.specs.Pad.{pad}
use Rattle.model.specs.Lowering.{Out, lowered}
use Rattle.model.specs.Rows.{weavelist as lent}
use Rattle.listing.specs.Listing.{refusal_line, listing}
use Rattle.listing.specs.Page.{Sheet, sheet}

abbrev pub max_input : ℕ
max_input = 65536

-- the list of a whole lowering
abbrev pub list_of : Out → List ℕ
list_of o = listing o.answer o.buffers.code o.buffers.lines o.buffers.kinds o.buffers.values

-- a longer input prints the line of refusal 1
unfoldable pub weavelist : List ℕ → List ℕ
weavelist input =
    elim (leb (length input) max_input) [
      | true ↦ list_of (lowered lent input)
      | false ↦ refusal_line (number_of refusal.TooLong)
    ]

-- the page that a list is written on, which holds every list (`fits`)
abbrev pub max_page : ℕ
max_page = 589824

-- a list written whole: its length, and the page with the list and then zeros
abbrev pub whole : List ℕ → Sheet
whole t = sheet (Some (length t)) (pad max_page t)
