-- The header of a chunk and its refusals in the order in which its bytes are met (document 01, "The chunk"). Assumes nothing.
use Rattle.std.specs.Prelude.{ℕ, zero, suc, ◌+◌, ◌/◌, ◌%◌, List, [], ◌∷◌, Bool, true, false, eqb, leb, Option, Some, None, Result, Ok, Err}
use Rattle.refusals.specs.declared.Refusal.TheVariants as refusal
use Rattle.cursor.specs.Fields.{byte_at, text_at, end_of}
use Rattle.nodes.specs.Nodes.{with_byte, with_text, require}
use Rattle.cursor.specs.declared.Text.{Text}
use Rattle.refusals.specs.declared.Refusal.{Refusal}
use Rattle.chunk.specs.declared.header.Header.{Header}

-- LUAI_MAXVARS: the most locals
abbrev pub max_locals : ℕ
max_locals = 200

-- names in order and the place behind them, or that bytes of them are missing
pub data Names : Type 0 where
  names : List Text → ℕ → Names
  missing : Names

abbrev pub before : Text → Names → Names
before t (names ts at) = names (t ∷ ts) at
before t missing = missing

-- that many texts from a place on
unfoldable pub names_at : List ℕ → ℕ → ℕ → Names
names_at s zero at = names [] at
names_at s (suc n) at = with_text (text_at s at) missing λ t. before t (names_at s n (end_of t))

-- the place behind the names
abbrev pub skipped : Names → Option ℕ
skipped (names ts at) = Some at
skipped missing = None

abbrev pub with_skipped : {A : Type 0} → Option ℕ → A → (ℕ → A) → A
with_skipped None r f = r
with_skipped (Some at) r f = f at

-- the formula count
unfoldable pub formulas_at : List ℕ → ℕ → ℕ → Bool → ℕ → Result Header Refusal
formulas_at s locals place varargs at =
    with_byte (byte_at s at) (Err refusal.Missing) λ n.
    Ok (record { locals = locals; names = place; varargs = varargs; formulas = n; next = at + 1 })

-- map byte; bit 0: a count of at most 200 and the names; bit 1: varargs; the formula count
unfoldable pub header_at : List ℕ → Result Header Refusal
header_at s =
    with_byte (byte_at s 0) (Err refusal.Missing) λ m.
    require (leb m 3) (Err refusal.Map) λ _.
    elim (eqb (m % 2) 0) [
      | true ↦ formulas_at s 0 1 (eqb (m / 2 % 2) 1) 1
      | false ↦ with_byte (byte_at s 1) (Err refusal.Missing) λ n.
          require (leb n max_locals) (Err refusal.Locals) λ _.
          with_skipped (skipped (names_at s n 2)) (Err refusal.Missing) λ at.
          formulas_at s n 2 (eqb (m / 2 % 2) 1) at
    ]
