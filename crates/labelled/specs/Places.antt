-- Laws of the constant table: it only grows, at its end; no constant is in it twice; a place never changes; and near is near before and after. They hold by induction on the list,
-- since `place` and `include` look for the same entry.
use Rattle.std.specs.Prelude.{ℕ, zero, suc, ◌≤◌, ◌<◌, Bool, true, false, ◌≡◌, refl, List, [], ◌∷◌, ◌++◌, length, get_or, leb, ltb}
use Rattle.std.proofs.Common.{ap, sym, ◌∙◌, subst, append_assoc, append-nil, length-append, leb-true, ltb-true, ltb-false, arith as nat}
use Rattle.std.proofs.Math.ListN.{get_or-append}
use Rattle.std.proofs.Math.Seq.{get_or-append_seam}
use Rattle.instructions.specs.Limits.{max_index_rk}
use Rattle.constants.specs.Entry.{Constant, nil, same}
use Rattle.constants.specs.Laws.{same_true, same_refl}
use Rattle.labelled.specs.Table.{place, include, roomy, is_near}

-- a constant that is listed; a table that another begins with
abbrev pub Listed : Constant → List Constant → Type 0
Listed c t = place c t < length t

pub record Grows (t t' : List Constant) : Type 0 where
  pub more : List Constant
  pub is : t' ≡ t ++ more

-- ---- one entry and the rest

place_hit : (c d : Constant) (t : List Constant) → same d c ≡ true → place c (d ∷ t) ≡ 0
unfolding place
place_hit c d t e = rw (place, e) refl

place_miss : (c d : Constant) (t : List Constant) → same d c ≡ false → place c (d ∷ t) ≡ suc (place c t)
unfolding place
place_miss c d t e = rw (place, e) refl

include_hit : (c d : Constant) (t : List Constant) → same d c ≡ true → include c (d ∷ t) ≡ d ∷ t
unfolding include
include_hit c d t e = rw (include, e) refl

include_miss : (c d : Constant) (t : List Constant) → same d c ≡ false → include c (d ∷ t) ≡ d ∷ include c t
unfolding include
include_miss c d t e = rw (include, e) refl

-- ---- places

-- a place is inside the table or at its end
pub place_at_most : (c : Constant) (t : List Constant) → place c t ≤ length t
unfolding place
place_at_most c [] = omega nat
place_at_most c (d ∷ t) = go (same d c) refl (place_at_most c t)
  where
    go : (b : Bool) → same d c ≡ b → place c t ≤ length t → place c (d ∷ t) ≤ suc (length t)
    go true e h = omega (nat, place_hit c d t e)
    go false e h = omega (nat, place_miss c d t e)

-- the entry at a listed constant's place is the constant
pub entry_there : (c : Constant) (t : List Constant) → Listed c t → get_or t (place c t) nil ≡ c
entry_there c [] l = absurd (omega nat)
entry_there c (d ∷ t) l = go (same d c) refl (entry_there c t)
  where
    go : (b : Bool) → same d c ≡ b → (Listed c t → get_or t (place c t) nil ≡ c) → get_or (d ∷ t) (place c (d ∷ t)) nil ≡ c
    go true e h = rw (place_hit c d t e) (same_true d c e)
    go false e h = rw (place_miss c d t e) (h (omega (nat, l, place_miss c d t e)))

-- and no entry before it is
pub none_before : (c : Constant) (t : List Constant) (i : ℕ) → i < place c t → get_or t i nil ≡ c → ⊥
none_before c [] i l e = absurd (go l)
  where
    go : i < place c [] → ⊥
    go h = omega (nat, place_at_most c [])
none_before c (d ∷ t) i l e = go (same d c) refl i l e (none_before c t)
  where
    differs : same d c ≡ false → d ≡ c → ⊥
    differs f q = let z : true ≡ false = sym (same_refl c) ∙ ap (λ x. same x c) (sym q) ∙ f in let y : ◌≡◌ {A = ℕ} 0 1 = cc in omega nat

    go : (b : Bool) → same d c ≡ b → (j : ℕ) → j < place c (d ∷ t) → get_or (d ∷ t) j nil ≡ c → ((k : ℕ) → k < place c t → get_or t k nil ≡ c → ⊥) → ⊥
    go true f j h q r = omega (nat, place_hit c d t f)
    go false f zero h q r = differs f q
    go false f (suc j) h q r = r j (omega (nat, place_miss c d t f)) q

-- what is behind changes no place
pub place_append : (c : Constant) (t u : List Constant) → Listed c t → place c (t ++ u) ≡ place c t
place_append c [] u l = absurd (omega nat)
place_append c (d ∷ t) u l = go (same d c) refl (place_append c t u)
  where
    go : (b : Bool) → same d c ≡ b → (Listed c t → place c (t ++ u) ≡ place c t) → place c (d ∷ (t ++ u)) ≡ place c (d ∷ t)
    go true e h = place_hit c d (t ++ u) e ∙ sym (place_hit c d t e)
    go false e h = place_miss c d (t ++ u) e ∙ ap suc (h (omega (nat, l, place_miss c d t e))) ∙ sym (place_miss c d t e)

-- ---- adding

-- a listed constant is not added; another comes last
pub include_there : (c : Constant) (t : List Constant) → Listed c t → include c t ≡ t
include_there c [] l = absurd (omega nat)
include_there c (d ∷ t) l = go (same d c) refl (include_there c t)
  where
    go : (b : Bool) → same d c ≡ b → (Listed c t → include c t ≡ t) → include c (d ∷ t) ≡ d ∷ t
    go true e h = include_hit c d t e
    go false e h = include_miss c d t e ∙ ap (λ z. d ∷ z) (h (omega (nat, l, place_miss c d t e)))

pub include_new : (c : Constant) (t : List Constant) → place c t ≡ length t → include c t ≡ t ++ (c ∷ [])
unfolding include
include_new c [] l = refl
include_new c (d ∷ t) l = go (same d c) refl (include_new c t)
  where
    go : (b : Bool) → same d c ≡ b → (place c t ≡ length t → include c t ≡ t ++ (c ∷ [])) → include c (d ∷ t) ≡ d ∷ (t ++ (c ∷ []))
    go true e h = absurd (omega (nat, l, place_hit c d t e))
    go false e h = include_miss c d t e ∙ ap (λ z. d ∷ z) (h (omega (nat, l, place_miss c d t e)))

-- its place was known before
pub place_include : (c : Constant) (t : List Constant) → place c (include c t) ≡ place c t
unfolding place include
place_include c [] = place_hit c c [] (same_refl c)
place_include c (d ∷ t) = go (same d c) refl (place_include c t)
  where
    go : (b : Bool) → same d c ≡ b → place c (include c t) ≡ place c t → place c (include c (d ∷ t)) ≡ place c (d ∷ t)
    go true e h = ap (place c) (include_hit c d t e)
    go false e h = ap (place c) (include_miss c d t e) ∙ place_miss c d (include c t) e ∙ ap suc h ∙ sym (place_miss c d t e)

pub listed_include : (c : Constant) (t : List Constant) → Listed c (include c t)
unfolding place include
listed_include c [] = omega (nat, place_hit c c [] (same_refl c))
listed_include c (d ∷ t) = go (same d c) refl (listed_include c t)
  where
    go : (b : Bool) → same d c ≡ b → Listed c (include c t) → Listed c (include c (d ∷ t))
    go true e h = rw (include_hit c d t e) (omega (nat, place_hit c d t e))
    go false e h = rw (include_miss c d t e) (omega (nat, place_miss c d (include c t) e))

-- ---- growth

pub grows_refl : (t : List Constant) → Grows t t
grows_refl t = record { more = []; is = sym (append-nil t) }

pub grows_trans : (t u v : List Constant) → Grows t u → Grows u v → Grows t v
grows_trans t u v g k = record { more = g.more ++ k.more; is = k.is ∙ ap (λ z. z ++ k.more) g.is ∙ append_assoc t g.more k.more }

pub grows_include : (c : Constant) (t : List Constant) → Grows t (include c t)
unfolding include
grows_include c [] = record { more = c ∷ []; is = refl }
grows_include c (d ∷ t) = go (same d c) refl (grows_include c t)
  where
    go : (b : Bool) → same d c ≡ b → Grows t (include c t) → Grows (d ∷ t) (include c (d ∷ t))
    go true e g = record { more = []; is = include_hit c d t e ∙ sym (append-nil (d ∷ t)) }
    go false e g = record { more = g.more; is = include_miss c d t e ∙ ap (λ z. d ∷ z) g.is }

-- a listed constant stays listed, at its place
pub place_grows : (c : Constant) (t u : List Constant) → Grows t u → Listed c t → place c u ≡ place c t
place_grows c t u g l = ap (place c) g.is ∙ place_append c t g.more l

pub listed_grows : (c : Constant) (t u : List Constant) → Grows t u → Listed c t → Listed c u
listed_grows c t u g l = omega (nat, l, place_grows c t u g l, ap length g.is, length-append t g.more)

-- ---- no constant twice

abbrev pub Distinct : List Constant → Type 0
Distinct t = (i : ℕ) → i < length t → place (get_or t i nil) t ≡ i

pub distinct_empty : Distinct []
distinct_empty i l = absurd (omega nat)

module _ (c : Constant) (t : List Constant) (d : Distinct t) where
  old_entry : (i : ℕ) → i < length t → place (get_or (t ++ (c ∷ [])) i nil) (t ++ (c ∷ [])) ≡ i
  old_entry i l = rw (get_or-append t (c ∷ []) nil i l) (place_append (get_or t i nil) t (c ∷ []) (omega (nat, d i l)) ∙ d i l)

  new_entry : place c t ≡ length t → place (get_or (t ++ (c ∷ [])) (length t) nil) (t ++ (c ∷ [])) ≡ length t
  new_entry e = rw (get_or-append_seam t c [] nil) (ap (place c) (sym (include_new c t e)) ∙ place_include c t ∙ e)

  distinct_new : place c t ≡ length t → Distinct (t ++ (c ∷ []))
  distinct_new e i l = go (ltb i (length t)) refl
    where
      go : (b : Bool) → ltb i (length t) ≡ b → place (get_or (t ++ (c ∷ [])) i nil) (t ++ (c ∷ [])) ≡ i
      go true q = old_entry i (ltb-true i (length t) q)
      go false q = let z : i ≡ length t = omega (nat, l, ltb-false i (length t) q, length-append t (c ∷ [])) in rw z (new_entry e)

  pub distinct_include : Distinct (include c t)
  distinct_include = go (ltb (place c t) (length t)) refl
    where
      go : (b : Bool) → ltb (place c t) (length t) ≡ b → Distinct (include c t)
      go true q = subst Distinct (sym (include_there c t (ltb-true (place c t) (length t) q))) d
      go false q = let z : place c t ≡ length t = omega (nat, place_at_most c t, ltb-false (place c t) (length t) q) in subst Distinct (sym (include_new c t z)) (distinct_new z)

-- ---- near

pub near_include : (c : Constant) (t : List Constant) → is_near c (include c t) ≡ is_near c t
unfolding is_near
near_include c t = ap (λ k. leb k max_index_rk) (place_include c t)

pub near_place : (c : Constant) (t : List Constant) → is_near c t ≡ true → place c t ≤ max_index_rk
unfolding is_near
near_place c t e = leb-true (place c t) max_index_rk e

-- where there is room, whatever is added is near
pub roomy_place : (c : Constant) (t : List Constant) → roomy t ≡ true → place c (include c t) ≤ max_index_rk
unfolding roomy
roomy_place c t e = omega (nat, leb-true (length t) max_index_rk e, place_include c t, place_at_most c t)
