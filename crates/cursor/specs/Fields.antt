-- Fields of a list of bytes at a place (document 01, "The chunk"): little-endian integers and texts, or that bytes of them are missing. Assumes nothing.
use Rattle.std.specs.Prelude.{ℕ, ◌+◌, ◌*◌, List, Bool, true, false, length, get_or, take, drop, leb, Option, Some, None}
use Rattle.cursor.specs.declared.Text.{Text}

-- the numbers of 2, 4 and 8 bytes at a place, lowest byte first
abbrev pub le2 : List ℕ → ℕ → ℕ
le2 s at = get_or s at 0 + 256 * get_or s (at + 1) 0

abbrev pub le4 : List ℕ → ℕ → ℕ
le4 s at = le2 s at + 65536 * le2 s (at + 2)

abbrev pub le8 : List ℕ → ℕ → ℕ
le8 s at = le4 s at + 4294967296 * le4 s (at + 4)

-- n bytes stand at the place
unfoldable pub has_bytes : List ℕ → ℕ → ℕ → Bool
has_bytes s at n = leb (at + n) (length s)

unfoldable pub byte_at : List ℕ → ℕ → Option ℕ
byte_at s at = elim (has_bytes s at 1) [ true ↦ Some (get_or s at 0) | false ↦ None ]

unfoldable pub line_at : List ℕ → ℕ → Option ℕ
line_at s at = elim (has_bytes s at 4) [ true ↦ Some (le4 s at) | false ↦ None ]

unfoldable pub bits_at : List ℕ → ℕ → Option ℕ
bits_at s at = elim (has_bytes s at 8) [ true ↦ Some (le8 s at) | false ↦ None ]

-- a text: a length of two bytes, then as many bytes
unfoldable pub text_at : List ℕ → ℕ → Option Text
text_at s at =
    elim (has_bytes s at 2) [
      | true ↦ elim (has_bytes s (at + 2) (le2 s at)) [ true ↦ Some (record { start = at + 2; len = le2 s at }) | false ↦ None ]
      | false ↦ None
    ]

-- the place behind a text
abbrev pub end_of : Text → ℕ
end_of t = t.start + t.len

-- the bytes of a text
abbrev pub bytes_of : List ℕ → Text → List ℕ
bytes_of s t = take t.len (drop t.start s)
