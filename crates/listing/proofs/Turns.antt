-- The turns and the end of the loop of `listing::rows`, which walks numbers and bits side by side. Assumes nothing.
use Rattle.std.specs.Prelude.{ℕ, zero, suc, ◌+◌, ◌<◌, take, map, Option}
use Rattle.std.proofs.Math.Path.{◌≡◌, refl, sym, ap}
use Rattle.std.proofs.Common.{◌∙◌, arith}
use mathlib.Core.Logic.{◌⊎◌, inl, inr}
use mathlib.Core.List.{List, [], ◌∷◌}
use Rattle.std.proofs.Math.ListN.{length}
use Rattle.listing.specs.Page.{page, puts}
use Rattle.listing.specs.Laws.{row, rows, puts_then, puts_none}

-- a turn of the loop over both, of which the first n are wanted
module _ {A B : Type 0} (f : A → ℕ) (h : B → ℕ) (label : List ℕ) (digits n : ℕ) (xs : List A) (ys : List B) (i : ℕ) (o : List ℕ) (p : Option ℕ) where
  pub turn : (k j : ℕ) {q : ℕ} {o₁ : List ℕ} {p₁ : Option ℕ} {x y : ℕ} {a : A} {b : B} {at : List A} {bt : List B} → xs ≡ a ∷ at → ys ≡ b ∷ bt → k + 1 ≡ n → q ≡ i → j ≡ i + 1 → x ≡ f a → y ≡ h b → puts (row label digits q x y) o p ≡ page p₁ o₁ →
      puts (rows label digits j (take k (map f at)) (take k (map h bt))) o₁ p₁ ≡ puts (rows label digits i (take n (map f xs)) (take n (map h ys))) o p
  unfolding rows
  turn k j {q} {o₁} {p₁} {x} {y} {a} {b} {at} {bt} c d m w v g t e =
      let m' : n ≡ suc k = omega (arith, m) in
      let v' : j ≡ suc i = omega (arith, v) in
      sym (rw (c, d, m', v') (puts_then (row label digits i (f a) (h b)) _ o p (ap (λ z. puts (row label digits z (f a) (h b)) o p) (sym w) ∙ ap (λ z. puts (row label digits q z (h b)) o p) (sym g) ∙ ap (λ z. puts (row label digits q x z) o p) (sym t) ∙ e) refl))

  -- nothing more is wanted, or the iterator a or b over xs or ys is at its end
  pub end : {S T : Type 0} (a : S) (b : T) → (0 < n → ((s : S) × ((length xs ≡ 0) × (s ≡ a))) ⊎ ((t : T) × ((length ys ≡ 0) × (t ≡ b)))) → puts (rows label digits i (take n (map f xs)) (take n (map h ys))) o p ≡ page p o
  unfolding rows
  end {S} {T} a b l = ap (λ t. puts t o p) (go n xs ys l) ∙ puts_none o p
    where
      go : (m : ℕ) (us : List A) (vs : List B) → (0 < m → ((s : S) × ((length us ≡ 0) × (s ≡ a))) ⊎ ((t : T) × ((length vs ≡ 0) × (t ≡ b)))) → rows label digits i (take m (map f us)) (take m (map h vs)) ≡ []
      go zero us vs e = refl
      go (suc m) [] vs e = refl
      go (suc m) (x ∷ us) [] e = refl
      go (suc m) (x ∷ us) (y ∷ vs) e = absurd (none (e (omega arith)))
        where
          none : ((s : S) × ((length (x ∷ us) ≡ 0) × (s ≡ a))) ⊎ ((t : T) × ((length (y ∷ vs) ≡ 0) × (t ≡ b))) → ⊥
          none (inl u) = omega (arith, u.1.0)
          none (inr u) = omega (arith, u.1.0)
