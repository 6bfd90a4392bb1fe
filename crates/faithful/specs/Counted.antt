-- The counted part of each buffer has the listed constants of the whole: entries below the count, and texts in the counted bytes. Assumes nothing.
use Rattle.std.specs.Prelude.{ℕ, zero, suc, ◌+◌, ◌/◌, ◌%◌, ◌≤◌, ◌<◌, ◌≡◌, refl, List, [], ◌∷◌, get_or, take}
use Rattle.std.proofs.Common.{ap, ◌∙◌, arith, get_or-take, take-take}
use Rattle.constants.specs.Entry.{text, part, entry_of, constant_at, Inside}
use Rattle.std.proofs.Math.Option.{some}

take_part : (n : ℕ) (l : List ℕ) (start len : ℕ) → start + len ≤ n → part (take n l) start len ≡ part l start len
take_part n l zero len h = take-take len n l (omega arith)
take_part zero l (suc start) len h = absurd (omega arith)
take_part (suc n) [] (suc start) len h = refl
take_part (suc n) (x ∷ l) (suc start) len h = take_part n l start len (omega arith)

take_text : (used : ℕ) (pool : List ℕ) (k w : ℕ) → (k ≡ 4 → Inside used w) → entry_of (take used pool) k w ≡ entry_of pool k w
unfolding entry_of
take_text used pool zero w h = refl
take_text used pool (suc zero) w h = refl
take_text used pool (suc (suc zero)) w h = refl
take_text used pool (suc (suc (suc zero))) w h = refl
take_text used pool (suc (suc (suc (suc zero)))) w h = ap (λ b. some (text b)) (take_part used pool (w / 65536) (w % 65536) (h refl))
take_text used pool (suc (suc (suc (suc (suc k))))) w h = refl

pub counted : (n used : ℕ) (pool ks ws : List ℕ) (i : ℕ) → i < n → (get_or ks i 0 ≡ 4 → Inside used (get_or ws i 0)) → constant_at (take used pool) (take n ks) (take n ws) i ≡ constant_at pool ks ws i
counted n used pool ks ws i l h =
    ap (λ k. entry_of (take used pool) k (get_or (take n ws) i 0)) (get_or-take n ks i 0 l) ∙ ap (λ w. entry_of (take used pool) (get_or ks i 0) w) (get_or-take n ws i 0 l) ∙ take_text used pool (get_or ks i 0) (get_or ws i 0) h
