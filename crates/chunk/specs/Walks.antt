-- What a walk over the nodes answers and leaves in the scratch, given what is read there. Assumes nothing.
use Rattle.std.specs.Prelude.{ℕ, ◌+◌, ◌≤◌, ◌≡◌, List, length, Result, Ok, Err}
use Rattle.std.proofs.lemmas.List.Edits.{sets}
use Rattle.buffers.specs.Pad.{zeros, pad}
use Rattle.chunk.specs.Ast.{Span, spans_of, places_of}
use Rattle.chunk.specs.Form.{Parsed, parsed, refused, Formed, formed, unformed, max_length}
use Rattle.chunk.specs.declared.form.Walk.{Walk}
use Rattle.refusals.specs.declared.Refusal.{Refusal}

-- the walk that has passed these nodes
abbrev pub passed : ℕ → ℕ → ℕ → List Span → Walk
passed at line nodes ss = record { at = at; line = line; nodes = nodes + length ss }

-- from `nodes` nodes on: a walk over what was read ends behind it, with its nodes counted and their places stored from there on; a refusal is handed on
abbrev pub Walked : {A : Type 0} → (A → List Span) → Parsed A → ℕ → List ℕ → Result Walk Refusal → List ℕ → Type 0
Walked spans (parsed a at line) nodes s r s' = (Ok (passed at line nodes (spans a)) ≡ r) × (sets s nodes (places_of (spans a)) ≡ s')
Walked spans (refused k) nodes s r s' = Err k ≡ r

-- a walk is in the bytes, and has passed at most as many nodes as bytes
pub record Within (s : List ℕ) (w : Walk) : Type 0 where
  pub short : length s ≤ max_length
  pub at_in : w.at ≤ length s
  pub few : w.nodes ≤ w.at

abbrev pub EndWithin : List ℕ → Result Walk Refusal → Type 0
EndWithin s (Ok w) = Within s w
EndWithin s (Err k) = Unit {0}

-- the answer of the form check, and the scratch of n numbers as it then is
pub record Out : Type 0 where
  pub answer : Result ℕ Refusal
  pub scratch : List ℕ

abbrev pub out : Result ℕ Refusal → List ℕ → Out
out r s = record { answer = r; scratch = s }

-- the number of nodes, and their places as far as they fit, then zeros; or the refusal and zeros
abbrev pub checked : Formed → ℕ → Out
checked (formed c) n = out (Ok (length (spans_of c.formulas))) (pad n (places_of (spans_of c.formulas)))
checked (unformed k) n = out (Err k) (zeros n)
