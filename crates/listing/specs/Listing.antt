-- The weave list (document 01, "The weave list, and cases"), byte for byte. Each line ends with a newline. Assumes nothing.
use Rattle.std.specs.Prelude.{ℕ, zero, suc, ◌+◌, ◌/◌, ◌%◌, true, false, List, [], ◌∷◌, ◌++◌, take, ltb}
use Prim.Native.Char.{code}
use Prim.Native.String.{String}
use Prim.Native.String.{[] as no_more, ◌∷◌ as ◌before◌}
use Rattle.refusals.specs.Number.{number_of}
use Rattle.model.specs.Lowered.{Lowered}
use Rattle.std.specs.Prelude as answer

-- a text's characters as bytes; all here are ASCII
abbrev pub ascii : String → List ℕ
ascii no_more = []
ascii (c before s) = code c ∷ ascii s

-- a number in decimal, of at most so many digits, none of them a leading zero; 48 is "0"
unfoldable pub decimal : ℕ → ℕ → List ℕ
decimal zero n = []
decimal (suc most) n =
    elim (ltb n 10) [
      | true ↦ (48 + n) ∷ []
      | false ↦ decimal most (n / 10) ++ ((48 + n % 10) ∷ [])
    ]

-- 20 digits hold every u64
abbrev pub number : ℕ → List ℕ
number n = decimal 20 n

-- the digit of a number below 16, in lower case: 48 is "0", 87 + 10 is "a"
abbrev pub glyph : ℕ → ℕ
glyph d =
    elim (ltb d 10) [
      | true ↦ 48 + d
      | false ↦ 87 + d
    ]

-- the last digits of a number in hex, so many of them
unfoldable pub hex : ℕ → ℕ → List ℕ
hex zero n = []
hex (suc k) n = hex k (n / 16) ++ (glyph (n % 16) ∷ [])

-- index, line, word
abbrev pub word_line : ℕ → ℕ → ℕ → List ℕ
word_line i line word = number i ++ (ascii " " ++ (number line ++ (ascii " " ++ (hex 8 word ++ ascii "\n"))))

-- c and index, kind, value
abbrev pub constant_line : ℕ → ℕ → ℕ → List ℕ
constant_line i kind value = ascii "c" ++ (number i ++ (ascii " " ++ (number kind ++ (ascii " " ++ (hex 16 value ++ ascii "\n")))))

-- from index i on, as long as both lists have a number
unfoldable pub word_lines : ℕ → List ℕ → List ℕ → List ℕ
word_lines i (w ∷ ws) (l ∷ ls) = word_line i l w ++ word_lines (suc i) ws ls
word_lines i (w ∷ ws) [] = []
word_lines i [] ls = []

unfoldable pub constant_lines : ℕ → List ℕ → List ℕ → List ℕ
constant_lines i (k ∷ ks) (v ∷ vs) = constant_line i k v ++ constant_lines (suc i) ks vs
constant_lines i (k ∷ ks) [] = []
constant_lines i [] vs = []

abbrev pub count_line : ℕ → ℕ → ℕ → List ℕ
count_line words constants text = ascii "words " ++ (number words ++ (ascii " constants " ++ (number constants ++ (ascii " text " ++ (number text ++ ascii "\n")))))

abbrev pub refusal_line : ℕ → List ℕ
refusal_line n = ascii "refused " ++ (number n ++ ascii "\n")

-- the list of a lowering's answer, from the code, lines, kinds and values that it left
abbrev pub listing : Lowered → List ℕ → List ℕ → List ℕ → List ℕ → List ℕ
listing (answer.Err k) code lines kinds values = refusal_line (number_of k)
listing (answer.Ok k) code lines kinds values =
    count_line k.words k.constants k.text
    ++ (word_lines 0 (take k.words code) (take k.words lines)
    ++ constant_lines 0 (take k.constants kinds) (take k.constants values))
