-- The laws of `pad`: its length, and a list and then zeros after a store, several stores, or a number taken back.
-- Each holds by the definition of `pad`, along the room and the list. Assumes nothing.
use Rattle.std.specs.Prelude.{ℕ, zero, suc, ◌-◌, ◌≤◌, List, [], ◌∷◌, ◌++◌, ◌≡◌, refl, length, set}
use Rattle.std.proofs.Common.{append-nil, append_assoc, ap, length-append, not-suc-le-zero, le_of_suc-le-suc, arith}
use Rattle.std.proofs.lemmas.List.Edits.{sets}
use Rattle.std.proofs.Math.Nat.{sub-zero, suc-sub-suc}
use Rattle.buffers.specs.Pad.{zeros, pad}

pub length_pad : (n : ℕ) (ws : List ℕ) → length (pad n ws) ≡ n
unfolding pad
length_pad zero ws = refl
length_pad (suc n) [] = ap suc (length_pad n [])
length_pad (suc n) (w ∷ ws) = ap suc (length_pad n ws)

pub pad_none : (n : ℕ) → pad n [] ≡ zeros n
unfolding pad
pad_none zero = refl
pad_none (suc n) = ap (λ (l : List ℕ). 0 ∷ l) (pad_none n)

pub pad_fits : (n : ℕ) (ws : List ℕ) → length ws ≤ n → pad n ws ≡ ws ++ zeros (n - length ws)
unfolding pad
pad_fits n [] h = rw sub-zero (pad_none n)
pad_fits zero (w ∷ ws) h = absurd (not-suc-le-zero h)
pad_fits (suc n) (w ∷ ws) h = rw suc-sub-suc (ap (λ (l : List ℕ). w ∷ l) (pad_fits n ws (le_of_suc-le-suc h)))

-- one more number, behind the list; where there is no room both sides are what they were
pub set_pad : (n : ℕ) (ws : List ℕ) (w : ℕ) → set (pad n ws) (length ws) w ≡ pad n (ws ++ (w ∷ []))
unfolding pad
set_pad zero ws w = refl
set_pad (suc n) [] w = refl
set_pad (suc n) (x ∷ ws) w = ap (λ (l : List ℕ). x ∷ l) (set_pad n ws w)

-- several more
pub sets_pad : (n : ℕ) (ws vs : List ℕ) → sets (pad n ws) (length ws) vs ≡ pad n (ws ++ vs)
sets_pad n ws [] = rw append-nil
sets_pad n ws (v ∷ vs) =
    let e : length (ws ++ (v ∷ [])) ≡ suc (length ws) = simp length-append (omega arith) in
    rw (set_pad n ws v, ← e, sets_pad n (ws ++ (v ∷ [])) vs, append_assoc)

-- the last number taken back
pub pop_pad : (n : ℕ) (ws : List ℕ) (w : ℕ) → set (pad n (ws ++ (w ∷ []))) (length ws) 0 ≡ pad n ws
unfolding pad
pop_pad zero ws w = refl
pop_pad (suc n) [] w = refl
pop_pad (suc n) (x ∷ ws) w = ap (λ (l : List ℕ). x ∷ l) (pop_pad n ws w)
