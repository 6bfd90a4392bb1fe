-- No list of `weavelist` is longer than its page, so nothing of one is ever lost: a number has at most 20 digits, and there are no more lines than words and constants lent. Assumes nothing but that the input is bytes.
use Rattle.std.specs.Prelude.{ℕ, zero, suc, ◌+◌, ◌*◌, ◌/◌, ◌%◌, ◌≤◌, Bool, true, false, ◌≡◌, refl, List, [], ◌∷◌, ◌++◌, length, take, leb, ltb, Some}
use Rattle.std.proofs.Common.{sym, ap, ◌∙◌, arith, length-append, length-take, le-leb}
use Rattle.refusals.specs.Number.{number_of}
use Rattle.refusals.specs.declared.Refusal.TheVariants as refusal
use Rattle.buffers.specs.Pad.{pad}
use Rattle.model.specs.Lowered.{Lowered}
use Rattle.std.specs.Prelude as answer
use Rattle.model.specs.Steps.{Buffers}
use Rattle.model.specs.Claims.{Padded, Bytes}
use Rattle.model.specs.Lowering.{lowered}
use Rattle.padding.proofs.Padded.{padded}
use Rattle.listing.specs.Page.{Sheet, sheet, written}
use Rattle.listing.specs.Listing.{decimal, glyph, hex, word_line, constant_line, word_lines, constant_lines, refusal_line, listing}
use Rattle.model.specs.Rows.{weavelist as lent}
use Rattle.program.specs.Weavelist.{max_input, list_of, weavelist, max_page, whole}

digits : (k n : ℕ) → length (decimal k n) ≤ k
unfolding decimal
digits zero n = omega arith
digits (suc k) n = go (ltb n 10) (digits k (n / 10))
  where
    go : (b : Bool) → length (decimal k (n / 10)) ≤ k → length {A = ℕ} (elim b as (λ (_ : Bool). List ℕ) [ true ↦ (48 + n) ∷ [] | false ↦ decimal k (n / 10) ++ ((48 + n % 10) ∷ []) ]) ≤ suc k
    go true h = omega arith
    go false h = let e : length (decimal k (n / 10) ++ ((48 + n % 10) ∷ [])) ≡ length (decimal k (n / 10)) + 1 = simp length-append refl in omega (arith, h, e)

hex_digits : (k n : ℕ) → length (hex k n) ≡ k
unfolding hex
hex_digits zero n = refl
hex_digits (suc k) n = let e : length (hex k (n / 16) ++ (glyph (n % 16) ∷ [])) ≡ length (hex k (n / 16)) + 1 = simp length-append refl in e ∙ omega (arith, hex_digits k (n / 16))

-- two texts, each within its bound
both : (m n : ℕ) (a b : List ℕ) → length a ≤ m → length b ≤ n → length (a ++ b) ≤ m + n
both m n a b h k = let e : length (a ++ b) ≡ length a + length b = length-append a b in omega (arith, e, h, k)

eight : (n : ℕ) → length (hex 8 n) ≤ 8
eight n = omega (arith, hex_digits 8 n)

sixteen : (n : ℕ) → length (hex 16 n) ≤ 16
sixteen n = omega (arith, hex_digits 16 n)

a_word : (i l w : ℕ) → length (word_line i l w) ≤ 51
a_word i l w = simp length-append (omega (arith, digits 20 i, digits 20 l, eight w))

a_constant : (i k v : ℕ) → length (constant_line i k v) ≤ 60
a_constant i k v = simp length-append (omega (arith, digits 20 i, digits 20 k, sixteen v))

refused : (n : ℕ) → length (refusal_line n) ≤ 29
refused n = simp length-append (omega (arith, digits 20 n))

all_words : (i : ℕ) (ws ls : List ℕ) → length (word_lines i ws ls) ≤ 51 * length ws
unfolding word_lines
all_words i [] ls = omega arith
all_words i (w ∷ ws) [] = omega arith
all_words i (w ∷ ws) (l ∷ ls) = let h = both 51 (51 * length ws) (word_line i l w) (word_lines (suc i) ws ls) (a_word i l w) (all_words (suc i) ws ls) in omega (arith, h)

all_constants : (i : ℕ) (ks vs : List ℕ) → length (constant_lines i ks vs) ≤ 60 * length ks
unfolding constant_lines
all_constants i [] vs = omega arith
all_constants i (k ∷ ks) [] = omega arith
all_constants i (k ∷ ks) (v ∷ vs) = let h = both 60 (60 * length ks) (constant_line i k v) (constant_lines (suc i) ks vs) (a_constant i k v) (all_constants (suc i) ks vs) in omega (arith, h)

taken : (n : ℕ) (l : List ℕ) → length (take n l) ≤ length l
taken n l = omega (arith, length-take n l)

a_list : (input : List ℕ) (a : Lowered) (m : Buffers) (s : List ℕ) → Padded lent input a m s → length (listing a m.code m.lines m.kinds m.values) ≤ max_page
a_list input (answer.Err k) m s p = let h = refused (number_of k) in omega (arith, h)
a_list input (answer.Ok k) m s p =
    let c = all_words 0 (take k.words m.code) (take k.words m.lines) in
    let d = all_constants 0 (take k.constants m.kinds) (take k.constants m.values) in
    let few : length (take k.words m.code) ≤ 8192 = omega (arith, taken k.words m.code, p.code.long) in
    let few' : length (take k.constants m.kinds) ≤ 2048 = omega (arith, taken k.constants m.kinds, p.kinds.long) in
    simp length-append (omega (arith, digits 20 k.words, digits 20 k.constants, digits 20 k.text, c, d, few, few'))

pub fits : (input : List ℕ) → Bytes input → length (weavelist input) ≤ max_page
unfolding weavelist
fits input bytes = go (leb (length input) max_input)
  where
    go : (b : Bool) → length {A = ℕ} (elim b as (λ (_ : Bool). List ℕ) [ true ↦ list_of (lowered lent input) | false ↦ refusal_line (number_of refusal.TooLong) ]) ≤ max_page
    go true = a_list input (lowered lent input).answer (lowered lent input).buffers (lowered lent input).scratch (padded lent input bytes)
    go false = let h = refused (number_of refusal.TooLong) in omega (arith, h)

-- ---- so a list is written whole

written_within : (n : ℕ) (t : List ℕ) → length t ≤ n → written n t ≡ sheet (Some (length t)) (pad n t)
unfolding written
written_within n t h = rw (written, le-leb (length t) n h) refl

pub written_whole : (input : List ℕ) → Bytes input → written max_page (weavelist input) ≡ whole (weavelist input)
written_whole input bytes = written_within max_page (weavelist input) (fits input bytes)

-- the first bytes are bytes
bytes_taken : (n : ℕ) (s : List ℕ) → Bytes s → Bytes (take n s)
bytes_taken zero s b i = omega arith
bytes_taken (suc n) [] b i = omega arith
bytes_taken (suc n) (x ∷ s) b zero = b zero
bytes_taken (suc n) (x ∷ s) b (suc i) = bytes_taken n s (λ j. b (suc j)) i

-- what stands on a page of this length, of the bytes that were read
pub read_whole : (n : ℕ) (s : List ℕ) {k : ℕ} {r : Sheet} → k ≡ max_page → Bytes s → written k (weavelist (take n s)) ≡ r → whole (weavelist (take n s)) ≡ r
read_whole n s q b e = sym (written_whole (take n s) (bytes_taken n s b)) ∙ ap (λ k. written k (weavelist (take n s))) (sym q) ∙ e
