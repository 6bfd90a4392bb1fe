-- How bytes put one behind the other make up a text, for the proofs of the code; and the two kinds of lines as one. Assumes nothing.
use Rattle.std.specs.Prelude.{ℕ, zero, suc, ◌+◌, ◌-◌, ◌/◌, ◌%◌, ◌≤◌, ◌<◌, Bool, take, drop, set, get_or, map, min, Option, Some, None, is_some}
use Rattle.std.proofs.Math.Bool.{true, false}
use Rattle.std.proofs.Math.Path.{◌≡◌, refl, sym, ap}
use Rattle.std.proofs.Common.{◌∙◌, arith, length-drop, length-take, drop_of_length-le, drop-cons, get_or-take, add-one}
use mathlib.Core.List.{List, [], ◌∷◌, ◌++◌, append-nil, append_assoc}
use Rattle.std.proofs.Math.ListN.{length, length-append}
use Rattle.std.proofs.lemmas.List.{get_or-map}
use Rattle.std.proofs.Math.Dec.{ltb, leb}
use borrow.Author.Tests.{lt-ltb, le-ltb, ltb-true, ltb-false, leb-true, leb-false}
use Rattle.buffers.specs.Pad.{zeros, pad}
use Rattle.buffers.specs.Laws.{length_pad, pad_none, set_pad}
use Rattle.listing.specs.Listing.{ascii, number, decimal, hex, glyph, refusal_line, word_lines, constant_lines, word_line, constant_line}
use Rattle.listing.specs.Page.{Page, page, put, puts, Sheet, sheet, written, written_is}
use Rattle.listing.specs.declared.Pen.{Pen}

-- ---- one text behind another

puts_append : (a b o : List ℕ) (p : Option ℕ) → puts (a ++ b) o p ≡ puts b (puts a o p).out (puts a o p).at
unfolding puts
puts_append [] b o p = refl
puts_append (x ∷ a) b o p = puts_append a b (put x o p).out (put x o p).at

pub puts_then : (a b o : List ℕ) (p : Option ℕ) {o₁ : List ℕ} {p₁ : Option ℕ} {r : Page} → puts a o p ≡ page p₁ o₁ → puts b o₁ p₁ ≡ r → puts (a ++ b) o p ≡ r
puts_then a b o p e f = puts_append a b o p ∙ ap (λ (g : Page). puts b g.out g.at) e ∙ f

pub puts_one : (x : ℕ) (o : List ℕ) (p : Option ℕ) {r : Page} → put x o p ≡ r → puts (x ∷ []) o p ≡ r
unfolding puts
puts_one x o p e = e

pub puts_none : (o : List ℕ) (p : Option ℕ) → puts [] o p ≡ page p o
unfolding puts
puts_none o p = refl

-- ---- a byte, by the code's test

module _ (x : ℕ) (o : List ℕ) where
  pub put_full : put x o None ≡ page None o
  unfolding put
  put_full = refl

  pub put_here : {at : ℕ} → at < length o → put x o (Some at) ≡ page (Some (at + 1)) (set o at x)
  unfolding put
  put_here {at} l = rw (put, lt-ltb at (length o) l) refl

  pub put_over : {at : ℕ} → length o ≤ at → put x o (Some at) ≡ page None o
  unfolding put
  put_over {at} l = rw (put, le-ltb at (length o) l) refl

-- once a byte had no room, nothing more is written
pub put_lost : (x : ℕ) (o : List ℕ) {r : Option ℕ} → r ≡ None → put x o None ≡ page r o
put_lost x o e = put_full x o ∙ ap (λ r. page r o) (sym e)

over : (t o : List ℕ) → puts t o None ≡ page None o
unfolding puts put
over [] o = refl
over (x ∷ t) o = over t o

pub puts_lost : (t o : List ℕ) {r : Option ℕ} → r ≡ None → puts t o None ≡ page r o
puts_lost t o e = over t o ∙ ap (λ r. page r o) (sym e)

-- ---- numbers, by the code's tests

pub decimal_none : (k n : ℕ) (o : List ℕ) (p : Option ℕ) → k ≡ 0 → puts (decimal k n) o p ≡ page p o
unfolding decimal
decimal_none zero n o p e = puts_none o p
decimal_none (suc k) n o p e = absurd (omega arith)

pub decimal_small : (k n : ℕ) (o : List ℕ) (p : Option ℕ) {x : ℕ} {r : Page} → (k ≡ 0 → ⊥) → n < 10 → 48 + n % 10 ≡ x → put x o p ≡ r → puts (decimal k n) o p ≡ r
unfolding decimal
decimal_small zero n o p h l d e = absurd (h refl)
decimal_small (suc k) n o p h l d e = rw (decimal, lt-ltb n 10 l) (puts_one (48 + n) o p (ap (λ y. put y o p) (omega (arith, d)) ∙ e))

pub decimal_large : (k n : ℕ) (o : List ℕ) (p : Option ℕ) {o₁ : List ℕ} {p₁ : Option ℕ} {x : ℕ} {r : Page} → (k ≡ 0 → ⊥) → 10 ≤ n → puts (decimal (k - 1) (n / 10)) o p ≡ page p₁ o₁ → 48 + n % 10 ≡ x → put x o₁ p₁ ≡ r → puts (decimal k n) o p ≡ r
unfolding decimal
decimal_large zero n o p h l f d e = absurd (h refl)
decimal_large (suc k) n o p {o₁} {p₁} h l f d e =
    let less : k ≡ suc k - 1 = omega arith in
    rw (decimal, le-ltb n 10 l) (puts_then (decimal k (n / 10)) ((48 + n % 10) ∷ []) o p (ap (λ j. puts (decimal j (n / 10)) o p) less ∙ f) (puts_one (48 + n % 10) o₁ p₁ (ap (λ y. put y o₁ p₁) d ∙ e)))

pub hex_none : (k n : ℕ) (o : List ℕ) (p : Option ℕ) → k ≡ 0 → puts (hex k n) o p ≡ page p o
unfolding hex
hex_none zero n o p e = puts_none o p
hex_none (suc k) n o p e = absurd (omega arith)

pub hex_more : (k n : ℕ) (o : List ℕ) (p : Option ℕ) {o₁ : List ℕ} {p₁ : Option ℕ} {x : ℕ} {r : Page} → (k ≡ 0 → ⊥) → puts (hex (k - 1) (n / 16)) o p ≡ page p₁ o₁ → glyph (n % 16) ≡ x → put x o₁ p₁ ≡ r → puts (hex k n) o p ≡ r
unfolding hex
hex_more zero n o p h f d e = absurd (h refl)
hex_more (suc k) n o p {o₁} {p₁} h f d e =
    let less : k ≡ suc k - 1 = omega arith in
    puts_then (hex k (n / 16)) (glyph (n % 16) ∷ []) o p (ap (λ j. puts (hex j (n / 16)) o p) less ∙ f) (puts_one (glyph (n % 16)) o₁ p₁ (ap (λ y. put y o₁ p₁) d ∙ e))

pub glyph_digit : (d : ℕ) → d < 10 → glyph d ≡ 48 + d
glyph_digit d l = rw (glyph, lt-ltb d 10 l) refl

pub glyph_letter : (d : ℕ) → 10 ≤ d → glyph d ≡ 87 + d
glyph_letter d l = rw (glyph, le-ltb d 10 l) refl

-- ---- the turns of the loops

-- a text from place i on
pub text_turn : (s : List ℕ) (i : ℕ) (o : List ℕ) (p : Option ℕ) {o₁ : List ℕ} {p₁ : Option ℕ} → i < length s → put (get_or s i 0) o p ≡ page p₁ o₁ → puts (drop (i + 1) s) o₁ p₁ ≡ puts (drop i s) o p
unfolding puts
text_turn s i o p {o₁} {p₁} l e = ap (λ j. puts (drop j s) o₁ p₁) (add-one i) ∙ sym (ap (λ t. puts t o p) (drop-cons s i 0 l) ∙ ap (λ (g : Page). puts (drop (suc i) s) g.out g.at) e)

-- what stands at place i of the first n
module _ (n : ℕ) (s : List ℕ) (i : ℕ) (a : i < n) (b : i < length s) where
  front : drop i (take n s) ≡ get_or s i 0 ∷ drop (suc i) (take n s)
  front = drop-cons (take n s) i 0 (omega (arith, length-take n s, a, b)) ∙ ap (λ x. x ∷ drop (suc i) (take n s)) (get_or-take n s i 0 a)

pub words_turn : (n : ℕ) (ws ls : List ℕ) (i : ℕ) (o : List ℕ) (p : Option ℕ) {o₁ : List ℕ} {p₁ : Option ℕ} {l w : ℕ} → i < n → i < length ws → i < length ls → get_or ls i 0 ≡ l → get_or ws i 0 ≡ w → puts (word_line i l w) o p ≡ page p₁ o₁ →
    puts (word_lines (i + 1) (drop (i + 1) (take n ws)) (drop (i + 1) (take n ls))) o₁ p₁ ≡ puts (word_lines i (drop i (take n ws)) (drop i (take n ls))) o p
unfolding word_lines
words_turn n ws ls i o p {o₁} {p₁} {l} a b c f g e = ap (λ j. puts (word_lines j (drop j (take n ws)) (drop j (take n ls))) o₁ p₁) (add-one i) ∙ sym (rw (front n ws i a b, front n ls i a c) (puts_then (word_line i (get_or ls i 0) (get_or ws i 0)) _ o p (ap (λ y. puts (word_line i y (get_or ws i 0)) o p) f ∙ ap (λ y. puts (word_line i l y) o p) g ∙ e) refl))

pub constants_turn : (n : ℕ) (ks vs : List ℕ) (i : ℕ) (o : List ℕ) (p : Option ℕ) {o₁ : List ℕ} {p₁ : Option ℕ} {k : ℕ} → i < n → i < length ks → i < length vs → get_or ks i 0 ≡ k → puts (constant_line i k (get_or vs i 0)) o p ≡ page p₁ o₁ →
    puts (constant_lines (i + 1) (drop (i + 1) (take n ks)) (drop (i + 1) (take n vs))) o₁ p₁ ≡ puts (constant_lines i (drop i (take n ks)) (drop i (take n vs))) o p
unfolding constant_lines
constants_turn n ks vs i o p {o₁} {p₁} a b c f e = ap (λ j. puts (constant_lines j (drop j (take n ks)) (drop j (take n vs))) o₁ p₁) (add-one i) ∙ sym (rw (front n ks i a b, front n vs i a c) (puts_then (constant_line i (get_or ks i 0) (get_or vs i 0)) _ o p (ap (λ k. puts (constant_line i k (get_or vs i 0)) o p) f ∙ e) refl))

-- ---- the end of a list

drop_past : (n : ℕ) (s : List ℕ) (i : ℕ) → n ≤ i → drop i (take n s) ≡ []
drop_past n s i l = drop_of_length-le (take n s) {i = i} (omega (arith, length-take n s))

drop_behind : (n : ℕ) (s : List ℕ) (i : ℕ) → length s ≤ i → drop i (take n s) ≡ []
drop_behind n s i l = drop_of_length-le (take n s) {i = i} (omega (arith, length-take n s))

no_lines : (i : ℕ) (ws : List ℕ) → word_lines i ws [] ≡ []
unfolding word_lines
no_lines i [] = refl
no_lines i (w ∷ ws) = refl

no_values : (i : ℕ) (ks : List ℕ) → constant_lines i ks [] ≡ []
unfolding constant_lines
no_values i [] = refl
no_values i (k ∷ ks) = refl

module _ (n : ℕ) (ws ls : List ℕ) (i : ℕ) (o : List ℕ) (p : Option ℕ) where
  pub words_all : n ≤ i → puts (word_lines i (drop i (take n ws)) (drop i (take n ls))) o p ≡ page p o
  words_all l = ap (λ t. puts (word_lines i (drop i (take n ws)) t) o p) (drop_past n ls i l) ∙ ap (λ t. puts t o p) (no_lines i (drop i (take n ws))) ∙ puts_none o p

  pub words_no_line : length ls ≤ i → puts (word_lines i (drop i (take n ws)) (drop i (take n ls))) o p ≡ page p o
  words_no_line l = ap (λ t. puts (word_lines i (drop i (take n ws)) t) o p) (drop_behind n ls i l) ∙ ap (λ t. puts t o p) (no_lines i (drop i (take n ws))) ∙ puts_none o p

  pub words_no_word : length ws ≤ i → puts (word_lines i (drop i (take n ws)) (drop i (take n ls))) o p ≡ page p o
  unfolding word_lines
  words_no_word l = ap (λ t. puts (word_lines i t (drop i (take n ls))) o p) (drop_behind n ws i l) ∙ puts_none o p

module _ (n : ℕ) (ks vs : List ℕ) (i : ℕ) (o : List ℕ) (p : Option ℕ) where
  pub constants_all : n ≤ i → puts (constant_lines i (drop i (take n ks)) (drop i (take n vs))) o p ≡ page p o
  constants_all l = ap (λ t. puts (constant_lines i (drop i (take n ks)) t) o p) (drop_past n vs i l) ∙ ap (λ t. puts t o p) (no_values i (drop i (take n ks))) ∙ puts_none o p

  pub constants_no_value : length vs ≤ i → puts (constant_lines i (drop i (take n ks)) (drop i (take n vs))) o p ≡ page p o
  constants_no_value l = ap (λ t. puts (constant_lines i (drop i (take n ks)) t) o p) (drop_behind n vs i l) ∙ ap (λ t. puts t o p) (no_values i (drop i (take n ks))) ∙ puts_none o p

  pub constants_no_kind : length ks ≤ i → puts (constant_lines i (drop i (take n ks)) (drop i (take n vs))) o p ≡ page p o
  unfolding constant_lines
  constants_no_kind l = ap (λ t. puts (constant_lines i t (drop i (take n vs))) o p) (drop_behind n ks i l) ∙ puts_none o p

-- ---- both kinds of lines as one: a label and the index, a number, and bits in so many digits

abbrev pub row : List ℕ → ℕ → ℕ → ℕ → ℕ → List ℕ
row label digits i n b = label ++ (number i ++ (ascii " " ++ (number n ++ (ascii " " ++ (hex digits b ++ ascii "\n")))))

-- f is what a relation gives of each value
abbrev pub Gives : {A : Type 0} → (A → ℕ → Type 0) → (A → ℕ) → Type 0
Gives {A} R f = (x : A) (y : ℕ) → R x y → y ≡ f x

-- from index i on, as long as there are numbers and bits
unfoldable pub rows : List ℕ → ℕ → ℕ → List ℕ → List ℕ → List ℕ
rows label digits i (n ∷ ns) (b ∷ bs) = row label digits i n b ++ rows label digits (suc i) ns bs
rows label digits i (n ∷ ns) [] = []
rows label digits i [] bs = []

pub words_are : (i : ℕ) (ws ls : List ℕ) → word_lines i ws ls ≡ rows [] 8 i ls ws
unfolding word_lines rows
words_are i [] [] = refl
words_are i [] (l ∷ ls) = refl
words_are i (w ∷ ws) [] = refl
words_are i (w ∷ ws) (l ∷ ls) = ap (λ t. word_line i l w ++ t) (words_are (suc i) ws ls)

pub constants_are : (i : ℕ) (ks vs : List ℕ) → constant_lines i ks vs ≡ rows (ascii "c") 16 i ks vs
unfolding constant_lines rows
constants_are i [] vs = refl
constants_are i (k ∷ ks) [] = refl
constants_are i (k ∷ ks) (v ∷ vs) = ap (λ t. constant_line i k v ++ t) (constants_are (suc i) ks vs)

module _ (label : List ℕ) (digits n : ℕ) (ns bs : List ℕ) (i : ℕ) (o : List ℕ) (p : Option ℕ) where
  pub rows_turn : {o₁ : List ℕ} {p₁ : Option ℕ} {x y : ℕ} → i < n → i < length ns → i < length bs → get_or ns i 0 ≡ x → get_or bs i 0 ≡ y → puts (row label digits i x y) o p ≡ page p₁ o₁ →
      puts (rows label digits (i + 1) (drop (i + 1) (take n ns)) (drop (i + 1) (take n bs))) o₁ p₁ ≡ puts (rows label digits i (drop i (take n ns)) (drop i (take n bs))) o p
  unfolding rows
  rows_turn {o₁} {p₁} {x} {y} a b c f g e = ap (λ j. puts (rows label digits j (drop j (take n ns)) (drop j (take n bs))) o₁ p₁) (add-one i) ∙ sym (rw (front n ns i a b, front n bs i a c) (puts_then (row label digits i (get_or ns i 0) (get_or bs i 0)) _ o p (ap (λ z. puts (row label digits i z (get_or bs i 0)) o p) f ∙ ap (λ z. puts (row label digits i x z) o p) g ∙ e) refl))

  pub rows_all : min (min n (length ns)) (length bs) ≤ i → puts (rows label digits i (drop i (take n ns)) (drop i (take n bs))) o p ≡ page p o
  unfolding rows
  rows_all l = ap (λ t. puts t o p) (go (drop i (take n ns)) (drop i (take n bs)) (omega (arith, length-drop i (take n ns), length-drop i (take n bs), length-take n ns, length-take n bs))) ∙ puts_none o p
    where
      go : (a b : List ℕ) → min (length a) (length b) ≡ 0 → rows label digits i a b ≡ []
      go [] b e = refl
      go (x ∷ a) [] e = refl
      go (x ∷ a) (y ∷ b) e = absurd (omega arith)

-- what is given of the value at a place
pub given_at : {A : Type 0} (R : A → ℕ → Type 0) (f : A → ℕ) (xs : List A) (i : ℕ) {x : A} {y : ℕ} → Gives R f → i < length xs → x ≡ get_or xs i x → R x y → get_or (map f xs) i 0 ≡ y
given_at R f xs i {x} {y} t l e r = get_or-map f xs i x 0 l ∙ ap f (sym e) ∙ sym (t x y r)

same : (s : List ℕ) → map (λ x. x) s ≡ s
same [] = refl
same (x ∷ s) = ap (λ t. x ∷ t) (same s)

module _ (n : ℕ) (o : List ℕ) (p : Option ℕ) {r : Page} where
  pub words_put : (ws ls : List ℕ) → puts (rows [] 8 0 (take n (map (λ x. x) ls)) (take n (map (λ x. x) ws))) o p ≡ r → puts (word_lines 0 (take n ws) (take n ls)) o p ≡ r
  words_put ws ls e = ap (λ t. puts t o p) (words_are 0 (take n ws) (take n ls)) ∙ (rw (same ls, same ws) at e)

  pub constants_put : (ks vs : List ℕ) → puts (rows (ascii "c") 16 0 (take n (map (λ x. x) ks)) (take n (map (λ x. x) vs))) o p ≡ r → puts (constant_lines 0 (take n ks) (take n vs)) o p ≡ r
  constants_put ks vs e = ap (λ t. puts t o p) (constants_are 0 (take n ks) (take n vs)) ∙ (rw (same ks, same vs) at e)

-- ---- the whole text in a cleared buffer

module _ (n : ℕ) where
  -- behind d in a buffer of n bytes: one more, or none
  one_fits : (x : ℕ) (d : List ℕ) → length d < n → put x (pad n d) (Some (length d)) ≡ page (Some (length (d ++ (x ∷ [])))) (pad n (d ++ (x ∷ [])))
  one_fits x d l =
      let k : length (d ++ (x ∷ [])) ≡ length d + 1 = simp length-append refl in
      put_here x (pad n d) (omega (arith, length_pad n d)) ∙ ap (λ o. page (Some (length d + 1)) o) (set_pad n d x) ∙ ap (λ i. page (Some i) (pad n (d ++ (x ∷ [])))) (sym k)

  fits : (t d : List ℕ) → length d + length t ≤ n → puts t (pad n d) (Some (length d)) ≡ page (Some (length (d ++ t))) (pad n (d ++ t))
  unfolding puts
  fits [] d l = rw append-nil refl
  fits (x ∷ t) d l =
      let k : length (d ++ (x ∷ [])) ≡ length d + 1 = simp length-append refl in
      let a : (d ++ (x ∷ [])) ++ t ≡ d ++ (x ∷ t) = append_assoc d (x ∷ []) t in
      ap (λ (g : Page). puts t g.out g.at) (one_fits x d (omega arith)) ∙ fits t (d ++ (x ∷ [])) (omega (arith, k)) ∙ ap (λ y. page (Some (length y)) (pad n y)) a

  no_room : (t d : List ℕ) → n < length d + length t → length d ≤ n → (puts t (pad n d) (Some (length d))).at ≡ None
  unfolding puts
  no_room [] d l m = absurd (omega arith)
  no_room (x ∷ t) d l m = go (ltb (length d) n) refl (no_room t (d ++ (x ∷ [])))
    where
      go : (b : Bool) → ltb (length d) n ≡ b → (n < length (d ++ (x ∷ [])) + length t → length (d ++ (x ∷ [])) ≤ n → (puts t (pad n (d ++ (x ∷ []))) (Some (length (d ++ (x ∷ []))))).at ≡ None) → (puts t (put x (pad n d) (Some (length d))).out (put x (pad n d) (Some (length d))).at).at ≡ None
      go true b rest =
          let k : length (d ++ (x ∷ [])) ≡ length d + 1 = simp length-append refl in
          let c = ltb-true (length d) n b in ap (λ (g : Page). (puts t g.out g.at).at) (one_fits x d c) ∙ rest (omega (arith, k)) (omega (arith, k, c))
      go false b rest = ap (λ (g : Page). (puts t g.out g.at).at) (put_over x (pad n d) (omega (arith, length_pad n d, ltb-false (length d) n b))) ∙ ap (λ (g : Page). g.at) (over t (pad n d))

  module _ (t o : List ℕ) (p : Option ℕ) (e : puts t (zeros n) (Some 0) ≡ page p o) where
    from_nothing : puts t (pad n []) (Some 0) ≡ page p o
    from_nothing = ap (λ z. puts t z (Some 0)) (pad_none n) ∙ e

    whole : length t ≤ n → page (Some (length t)) (pad n t) ≡ page p o
    whole l = sym (fits t [] (omega arith)) ∙ from_nothing

    cut : n < length t → p ≡ None
    cut l = sym (ap (λ (g : Page). g.at) from_nothing) ∙ no_room t [] (omega arith) (omega arith)

    pub written_whole : {k : ℕ} → p ≡ Some k → written n t ≡ sheet (Some k) o
    unfolding written
    written_whole {k} r = go (leb (length t) n) refl
      where
        go : (b : Bool) → leb (length t) n ≡ b → elim b as (λ (_ : Bool). Sheet) [ true ↦ sheet (Some (length t)) (pad n t) | false ↦ sheet None (zeros n) ] ≡ sheet (Some k) o
        go true b = ap (λ (g : Page). sheet g.at g.out) (whole (leb-true (length t) n b)) ∙ ap (λ q. sheet q o) r
        go false b = absurd (let u = cut (leb-false (length t) n b) in let v : ◌≡◌ {A = ℕ} 0 1 = cc in omega arith)

    pub written_not : p ≡ None → written n t ≡ sheet None (zeros n)
    unfolding written
    written_not r = go (leb (length t) n) refl
      where
        go : (b : Bool) → leb (length t) n ≡ b → elim b as (λ (_ : Bool). Sheet) [ true ↦ sheet (Some (length t)) (pad n t) | false ↦ sheet None (zeros n) ] ≡ sheet None (zeros n)
        go true b = absurd (let u = ap (λ (g : Page). g.at) (whole (leb-true (length t) n b)) in let v : ◌≡◌ {A = ℕ} 0 1 = cc in omega arith)
        go false b = refl

pub text_all : (s : List ℕ) (i : ℕ) (o : List ℕ) (p : Option ℕ) → length s ≤ i → puts (drop i s) o p ≡ page p o
text_all s i o p l = ap (λ t. puts t o p) (drop_of_length-le s {i = i} l) ∙ puts_none o p

-- a refusal's number, as the code hands it on
pub refusal_told : (o : List ℕ) (p : Option ℕ) {n x y : ℕ} {r : Page} → n ≡ x → x ≡ y → puts (refusal_line y) o p ≡ r → puts (refusal_line n) o p ≡ r
refusal_told o p a b e = ap (λ y. puts (refusal_line y) o p) (a ∙ b) ∙ e

-- the buffer that was cleared, and the answer
pub listed_whole : (n : ℕ) (t : List ℕ) {z o : List ℕ} {p : Option ℕ} → zeros n ≡ z → puts t z (Some 0) ≡ page p o → is_some p ≡ true → written n t ≡ sheet p o
listed_whole n t {o = o} {p = None} c e r = absurd (let u : ◌≡◌ {A = ℕ} 0 1 = cc in omega arith)
listed_whole n t {o = o} {p = Some k} c e r = written_whole n t o (Some k) (ap (λ z. puts t z (Some 0)) c ∙ e) refl

pub listed_not : (n : ℕ) (t : List ℕ) {z o o' : List ℕ} {p : Option ℕ} → zeros n ≡ z → puts t z (Some 0) ≡ page p o → is_some p ≡ false → length o ≡ n → zeros (length o) ≡ o' → written n t ≡ sheet p o'
listed_not n t {o = o} {p = None} c e r k d = written_not n t o None (ap (λ z. puts t z (Some 0)) c ∙ e) refl ∙ ap (λ y. sheet None y) (ap zeros (sym k) ∙ d)
listed_not n t {o = o} {p = Some x} c e r k d = absurd (let u : ◌≡◌ {A = ℕ} 0 1 = cc in omega arith)

-- ---- by a pen

-- one text behind another, on one slice
pub writes_then : {G : Type 0} (t u o : List ℕ) (p : Option ℕ) {o₁ : List ℕ} {p₁ : Option ℕ} {r : Page} {g g₁ g₂ : G} → (puts t o p ≡ page p₁ o₁) × (g₁ ≡ g) → (puts u o₁ p₁ ≡ r) × (g₂ ≡ g₁) → (puts (t ++ u) o p ≡ r) × (g₂ ≡ g)
writes_then t u o p e f = (puts_then t u o p e.0 f.0, f.1 ∙ e.1)

-- once a byte had no room, nothing more is written
pub pen_lost : (u : List ℕ) (b : Pen) {r : Option (Unit {0})} → r ≡ None → puts u b.out.now None ≡ written_is r b
pen_lost u b n = over u b.out.now ∙ ap (λ r. written_is r b) (sym n)

pub pen_full : (x : ℕ) (b : Pen) {r : Option (Unit {0})} → r ≡ None → put x b.out.now None ≡ written_is r b
pen_full x b n = put_full x b.out.now ∙ ap (λ r. written_is r b) (sym n)

pub writes_stop : {G : Type 0} (t u o : List ℕ) (p : Option ℕ) (b : Pen) {r : Option (Unit {0})} {g h : G} → (puts t o p ≡ page None b.out.now) × (h ≡ g) → r ≡ None → (puts (t ++ u) o p ≡ written_is r b) × (h ≡ g)
writes_stop t u o p b e n = (puts_then t u o p e.0 (pen_lost u b n), e.1)

pub one_put : (x : ℕ) (o : List ℕ) (p : Option ℕ) {r : Page} → puts (x ∷ []) o p ≡ r → put x o p ≡ r
unfolding puts
one_put x o p e = e

pub text_next : (s : List ℕ) (i : ℕ) (o : List ℕ) (p : Option ℕ) {o₁ : List ℕ} {p₁ : Option ℕ} → i < length s → puts (get_or s i 0 ∷ []) o p ≡ page p₁ o₁ → puts (drop (i + 1) s) o₁ p₁ ≡ puts (drop i s) o p
text_next s i o p l e = text_turn s i o p l (one_put (get_or s i 0) o p e)
