-- Edits of labelled code: they keep widths, and so places; edits of different labels, and a second edit of the same label, are one edit. By cases on one instruction.
use Rattle.std.specs.Prelude.{ℕ, Bool, true, false, ◌≡◌, refl, [], ◌∷◌}
use Rattle.std.proofs.Math.Option.{Option}
use Rattle.labelled.specs.Code.{same, same_refl, same_ne, same_true, Ctrl, always, test, tset, tseta, cmp, to, lbl, Instr, pl, br, Code, Act, keep, land, re, edit, ed1, ed_br}
use Rattle.labelled.specs.Machine.{pick}
use Rattle.labelled.specs.Emission.{one}

pub pick_is : {A : Type 0} (t : Bool) (a b : A) → elim t [ true ↦ a | false ↦ b ] ≡ pick t a b
pick_is true a b = refl
pick_is false a b = refl

-- ---- one after the other

pub edit_fuse : (g h k : ℕ → Act) → ((i : Instr) → ed1 g (ed1 h i) ≡ ed1 k i) → (c : Code) → edit g (edit h c) ≡ edit k c
unfolding edit
edit_fuse g h k e [] = refl
edit_fuse g h k e (i ∷ c) = rw (e i, edit_fuse g h k e c) refl

pub strip_then : (a b : ℕ) (i : Instr) → ed1 (one a (re b false)) (ed1 (one a (re a true)) i) ≡ ed1 (one a (re b true)) i
strip_then a b (pl w) = refl
strip_then a b (br k (to p)) = refl
strip_then a b (br k (lbl m)) = go (same m a) refl k
  where
    go : (t : Bool) → same m a ≡ t → (k : Ctrl) → ed1 (one a (re b false)) (ed_br (pick t (re a true) keep) k m) ≡ ed_br (pick t (re b true) keep) k m
    go true e always = rw (same_refl a) refl
    go true e (test x y) = rw (same_refl a) refl
    go true e (tset x y) = rw (same_refl a) refl
    go true e (tseta z x y) = rw (same_refl a) refl
    go true e (cmp o z x y) = rw (same_refl a) refl
    go false e k = rw e refl

-- ---- one more label on top of what is done to the others

abbrev pub Safe : ℕ → Act → Type 0
Safe a keep = Unit {0}
Safe a (land v r d) = Unit {0}
Safe a (re m b) = m ≡ a → ⊥

abbrev pub also : (ℕ → Act) → ℕ → Act → ℕ → Act
also g a x ℓ = pick (same ℓ a) x (g ℓ)

ed_to : (g : ℕ → Act) (v d : ℕ) (r : Option ℕ) (k : Ctrl) (m : ℕ) → ed1 g (ed_br (land v r d) k m) ≡ ed_br (land v r d) k m
ed_to g v d r always m = refl
ed_to g v d r (test b c) m = refl
ed_to g v d r (tset b c) m = refl
ed_to g v d r (tseta a b c) m = refl
ed_to g v d r (cmp o c x y) m = refl

ed_re : (a : ℕ) (x : Act) (n : ℕ) (b : Bool) (k : Ctrl) (m : ℕ) → (n ≡ a → ⊥) → ed1 (one a x) (ed_br (re n b) k m) ≡ ed_br (re n b) k m
ed_re a x n false k m h = rw (same_ne n a h) refl
ed_re a x n true always m h = rw (same_ne n a h) refl
ed_re a x n true (test u v) m h = rw (same_ne n a h) refl
ed_re a x n true (tset u v) m h = rw (same_ne n a h) refl
ed_re a x n true (tseta w u v) m h = rw (same_ne n a h) refl
ed_re a x n true (cmp o c u v) m h = rw (same_ne n a h) refl

ed_on : (a : ℕ) (x : Act) (y : Act) (k : Ctrl) (m : ℕ) → (same m a ≡ true → y ≡ keep) → Safe a y → ed1 (one a x) (ed_br y k m) ≡ ed_br (pick (same m a) x y) k m
ed_on a x y k m h s = go (same m a) refl y (h) s
  where
    go : (t : Bool) → same m a ≡ t → (y : Act) → (same m a ≡ true → y ≡ keep) → Safe a y → ed1 (one a x) (ed_br y k m) ≡ ed_br (pick t x y) k m
    go true e y h s = rw (h e, e) refl
    go false e keep h s = rw e refl
    go false e (land v r d) h s = ed_to (one a x) v d r k m
    go false e (re n b) h s = ed_re a x n b k m s

also_i : (g : ℕ → Act) (a : ℕ) (x : Act) → g a ≡ keep → ((ℓ : ℕ) → Safe a (g ℓ)) → (i : Instr) → ed1 (one a x) (ed1 g i) ≡ ed1 (also g a x) i
also_i g a x h s (pl w) = refl
also_i g a x h s (br k (to p)) = refl
also_i g a x h s (br k (lbl m)) = ed_on a x (g m) k m (λ e. rw (same_true m a e) h) (s m)

pub edit_also : (g : ℕ → Act) (a : ℕ) (x : Act) → g a ≡ keep → ((ℓ : ℕ) → Safe a (g ℓ)) → (c : Code) → edit (one a x) (edit g c) ≡ edit (also g a x) c
unfolding edit
edit_also g a x h s [] = refl
edit_also g a x h s (i ∷ c) = rw (also_i g a x h s i, edit_also g a x h s c) refl

ext_i : (g h : ℕ → Act) → ((ℓ : ℕ) → g ℓ ≡ h ℓ) → (i : Instr) → ed1 g i ≡ ed1 h i
ext_i g h e (pl w) = refl
ext_i g h e (br k (to p)) = refl
ext_i g h e (br k (lbl m)) = rw (e m) refl

pub edit_ext : (g h : ℕ → Act) → ((ℓ : ℕ) → g ℓ ≡ h ℓ) → (c : Code) → edit g c ≡ edit h c
unfolding edit
edit_ext g h e [] = refl
edit_ext g h e (i ∷ c) = rw (ext_i g h e i, edit_ext g h e c) refl
