-- Labelled code place by place: one pending jump is edited at a time, and all those of a label, in any order, make the edit of the label. By induction on the code, comparing places.
use Rattle.std.specs.Prelude.{ℕ, suc, ◌+◌, ◌≤◌, ◌<◌, Bool, ◌||◌, ◌≡◌}
use Rattle.std.proofs.Math.Bool.{true, false}
use Rattle.std.proofs.Math.Path.{refl}
use Rattle.std.proofs.Common.{sym, ◌∙◌}
use mathlib.Core.List.{List, [], ◌∷◌}
use Rattle.std.proofs.Math.Option.{Option, some, none}
use native.Mathlib.Omega.{arith}
use Rattle.labelled.specs.Code.{same, same_refl, same_eq, same_ne, same_true, same_false, Ctrl, always, test, tset, tseta, cmp, Tgt, to, lbl, PW, Instr, pl, br, width, cwidth, Code, size, Act, keep, land, re, edit, ed1, ed_br, setreg}
use Rattle.labelled.specs.Machine.{pick}
use Rattle.labelled.specs.Emission.{one}
use Rattle.labelled.specs.Edits.{size_edit, width_ed}

-- the word of an instruction that holds its jump: the last one
abbrev pub jofs : Ctrl → ℕ
jofs always = 0
jofs (test b c) = 1
jofs (tset b c) = 1
jofs (tseta a b c) = 1
jofs (cmp o c x y) = 1

abbrev pub tail : Instr → ℕ
tail (pl w) = 0
tail (br c t) = jofs c

pub cwidth_tail : (c : Ctrl) → cwidth c ≡ suc (jofs c)
cwidth_tail always = refl
cwidth_tail (test b c) = refl
cwidth_tail (tset b c) = refl
cwidth_tail (tseta a b c) = refl
cwidth_tail (cmp o c x y) = refl

-- is p the place of the Jmp of an instruction that starts at word n
abbrev pub key : ℕ → ℕ → Instr → Bool
key p n (pl w) = false
key p n (br c t) = same p (jofs c + n)

pub key_at : (p n : ℕ) (i : Instr) → key p n i ≡ true → (p ≡ tail i + n) × (p < width i + n)
key_at p n (pl w) h = absurd (let z : ◌≡◌ {A = ℕ} 0 1 = cc in omega arith)
key_at p n (br c t) h = let z : p ≡ jofs c + n = same_true p (jofs c + n) h in (z, omega (arith, cwidth_tail c))

pub key_off : (p n : ℕ) (i : Instr) → p < n → key p n i ≡ false
key_off p n (pl w) h = refl
key_off p n (br c t) h = same_ne p (jofs c + n) (λ e. omega arith)

-- an edit of one pending jump
abbrev pub ed_i : Act → Instr → Instr
ed_i a (pl w) = pl w
ed_i a (br c (to p)) = br c (to p)
ed_i a (br c (lbl ℓ)) = ed_br a c ℓ

abbrev pub is_lab : ℕ → Instr → Bool
is_lab ℓ (pl w) = false
is_lab ℓ (br c (to p)) = false
is_lab ℓ (br c (lbl m)) = same m ℓ

-- does a pending jump of label ℓ have its Jmp at p
unfoldable pub look : (Instr → Bool) → Code → ℕ → Bool
look F [] p = false
look F (i ∷ c) p = pick (key p (size c) i) (F i) (look F c p)

abbrev pub is_l : ℕ → Code → ℕ → Bool
is_l ℓ c p = look (is_lab ℓ) c p

abbrev pub one01 : Bool → ℕ
one01 true = 1
one01 false = 0

unfoldable pub count : (Instr → Bool) → Code → ℕ
count F [] = 0
count F (i ∷ c) = one01 (F i) + count F c

le_lab : (ℓ : ℕ) (i : Instr) → one01 (is_lab ℓ i) ≤ width i
le_lab ℓ (pl w) = omega arith
le_lab ℓ (br c (to p)) = omega arith
le_lab ℓ (br c (lbl m)) = go (same m ℓ)
  where
    go : (t : Bool) → one01 t ≤ cwidth c
    go true = omega (arith, cwidth_tail c)
    go false = omega arith

pub count_size : (ℓ : ℕ) (c : Code) → count (is_lab ℓ) c ≤ size c
unfolding count size
count_size ℓ [] = omega arith
count_size ℓ (i ∷ c) = omega (arith, count_size ℓ c, le_lab ℓ i)

module _ (f : Instr → Instr) where
  unfoldable pub at_pos : ℕ → Code → Code
  at_pos p [] = []
  at_pos p (i ∷ c) = pick (key p (size c) i) (f i ∷ c) (i ∷ at_pos p c)

  module _ (wf : (i : Instr) → width (f i) ≡ width i) where
    pub size_at_pos : (p : ℕ) (c : Code) → size (at_pos p c) ≡ size c
    unfolding at_pos size
    size_at_pos p [] = refl
    size_at_pos p (i ∷ c) = go (key p (size c) i) (size_at_pos p c)
      where
        go : (t : Bool) → size (at_pos p c) ≡ size c → size (pick t (f i ∷ c) (i ∷ at_pos p c)) ≡ width i + size c
        go true e = rw (wf i) refl
        go false e = rw e refl

    pub at_pos_beyond : (p : ℕ) (c : Code) → size c ≤ p → at_pos p c ≡ c
    unfolding at_pos size
    at_pos_beyond p [] h = refl
    at_pos_beyond p (i ∷ c) h = go (key p (size c) i) refl (at_pos_beyond p c (omega arith))
      where
        go : (t : Bool) → key p (size c) i ≡ t → at_pos p c ≡ c → pick t (f i ∷ c) (i ∷ at_pos p c) ≡ i ∷ c
        go true e r = absurd (omega (arith, key_at p (size c) i e))
        go false e r = rw r refl

  unfoldable pub all_pos : List ℕ → Code → Code
  all_pos [] c = c
  all_pos (p ∷ l) c = all_pos l (at_pos p c)

abbrev pub mem : ℕ → List ℕ → Bool
mem q [] = false
mem q (p ∷ l) = same q p || mem q l

-- does the list have the place of an instruction's Jmp
abbrev pub mem_k : ℕ → Instr → List ℕ → Bool
mem_k n i [] = false
mem_k n i (p ∷ l) = key p n i || mem_k n i l

same_sym : (a b : ℕ) → same a b ≡ same b a
same_sym a b = go (same b a) refl
  where
    go : (t : Bool) → same b a ≡ t → same a b ≡ t
    go true e = same_eq a b (sym (same_true b a e))
    go false e = same_ne a b (λ z. same_false b a e (sym z))

mem_k_pl : (n : ℕ) (w : PW) (l : List ℕ) → mem_k n (pl w) l ≡ false
mem_k_pl n w [] = refl
mem_k_pl n w (p ∷ l) = mem_k_pl n w l

mem_k_br : (n : ℕ) (c : Ctrl) (t : Tgt) (l : List ℕ) → mem_k n (br c t) l ≡ mem (jofs c + n) l
mem_k_br n c t [] = refl
mem_k_br n c t (p ∷ l) = rw (mem_k_br n c t l, same_sym p (jofs c + n)) refl

module _ (f : Instr → Instr) (wf : (i : Instr) → width (f i) ≡ width i) (kf : (p n : ℕ) (i : Instr) → key p n (f i) ≡ key p n i) (idem : (i : Instr) → f (f i) ≡ f i) where
  pick_same : {A : Type 0} (b : Bool) (x : A) → pick b x x ≡ x
  pick_same true x = refl
  pick_same false x = refl

  all_cons : (l : List ℕ) (i : Instr) (c : Code) → all_pos f l (i ∷ c) ≡ pick (mem_k (size c) i l) (f i) i ∷ all_pos f l c
  unfolding all_pos at_pos
  all_cons [] i c = refl
  all_cons (p ∷ l) i c = go (key p (size c) i) refl (all_cons l (f i) c) (all_cons l i (at_pos f p c))
    where
      go : (t : Bool) → key p (size c) i ≡ t →
          all_pos f l (f i ∷ c) ≡ pick (mem_k (size c) (f i) l) (f (f i)) (f i) ∷ all_pos f l c →
          all_pos f l (i ∷ at_pos f p c) ≡ pick (mem_k (size (at_pos f p c)) i l) (f i) i ∷ all_pos f l (at_pos f p c) →
          all_pos f l (pick t (f i ∷ c) (i ∷ at_pos f p c)) ≡ pick (t || mem_k (size c) i l) (f i) i ∷ all_pos f l (at_pos f p c)
      go true e y z = rw (at_pos_beyond f wf p c (omega (arith, key_at p (size c) i e))) (y ∙ rw (idem i, pick_same (mem_k (size c) (f i) l) (f i)) refl)
      go false e y z = z ∙ rw (size_at_pos f wf p c) refl

-- the actions, as edits of one instruction
pub ed_one : (ℓ : ℕ) (a : Act) (i : Instr) → ed1 (one ℓ a) i ≡ pick (is_lab ℓ i) (ed_i a i) i
ed_one ℓ a (pl w) = refl
ed_one ℓ a (br c (to p)) = refl
ed_one ℓ a (br c (lbl m)) = go (same m ℓ)
  where
    go : (t : Bool) → ed_br (pick t a keep) c m ≡ pick t (ed_br a c m) (br c (lbl m))
    go true = refl
    go false = refl

pub width_ed_i : (a : Act) (i : Instr) → width (ed_i a i) ≡ width i
width_ed_i a (pl w) = refl
width_ed_i a (br c (to p)) = refl
width_ed_i a (br c (lbl m)) = width_ed a c m

jofs_set : (t : Bool) (r b : ℕ) (c : Bool) → jofs (setreg t r b c) ≡ 1
jofs_set true r b c = refl
jofs_set false r b c = refl

key_br : (p n : ℕ) (a : Act) (c : Ctrl) (m : ℕ) → key p n (ed_br a c m) ≡ same p (jofs c + n)
key_br p n keep c m = refl
key_br p n (land v r d) always m = refl
key_br p n (land v r d) (test b c) m = refl
key_br p n (land v none d) (tset b c) m = refl
key_br p n (land v (some r) d) (tset b c) m = rw (jofs_set (same r b) r b c) refl
key_br p n (land v r d) (tseta a b c) m = refl
key_br p n (land v r d) (cmp o c x y) m = refl
key_br p n (re k false) c m = refl
key_br p n (re k true) always m = refl
key_br p n (re k true) (test b c) m = refl
key_br p n (re k true) (tset b c) m = refl
key_br p n (re k true) (tseta a b c) m = refl
key_br p n (re k true) (cmp o c x y) m = refl

pub key_ed_i : (a : Act) (p n : ℕ) (i : Instr) → key p n (ed_i a i) ≡ key p n i
key_ed_i a p n (pl w) = refl
key_ed_i a p n (br c (to q)) = refl
key_ed_i a p n (br c (lbl m)) = key_br p n a c m

pub key_ed1 : (g : ℕ → Act) (p n : ℕ) (i : Instr) → key p n (ed1 g i) ≡ key p n i
key_ed1 g p n (pl w) = refl
key_ed1 g p n (br c (to q)) = refl
key_ed1 g p n (br c (lbl m)) = key_br p n (g m) c m

pub idem_ed_i : (a : Act) (i : Instr) → ed_i a (ed_i a i) ≡ ed_i a i
idem_ed_i a (pl w) = refl
idem_ed_i a (br c (to p)) = refl
idem_ed_i keep (br c (lbl m)) = refl
idem_ed_i (land vt r dt) (br always (lbl m)) = refl
idem_ed_i (land vt r dt) (br (test b c) (lbl m)) = refl
idem_ed_i (land vt r dt) (br (tset b c) (lbl m)) = refl
idem_ed_i (land vt r dt) (br (tseta k b c) (lbl m)) = refl
idem_ed_i (land vt r dt) (br (cmp o c x y) (lbl m)) = refl
idem_ed_i (re n false) (br c (lbl m)) = refl
idem_ed_i (re n true) (br always (lbl m)) = refl
idem_ed_i (re n true) (br (test b c) (lbl m)) = refl
idem_ed_i (re n true) (br (tset b c) (lbl m)) = refl
idem_ed_i (re n true) (br (tseta k b c) (lbl m)) = refl
idem_ed_i (re n true) (br (cmp o c x y) (lbl m)) = refl

-- ---- all of a label's places, in any order, make the edit of the label

all_none : (a : Act) (l : List ℕ) → all_pos (ed_i a) l [] ≡ []
unfolding all_pos at_pos
all_none a [] = refl
all_none a (p ∷ l) = all_none a l

pub here_lab : (ℓ : ℕ) (l : List ℕ) (i : Instr) (c : Code) → ((p : ℕ) → p < size (i ∷ c) → mem p l ≡ is_l ℓ (i ∷ c) p) → mem_k (size c) i l ≡ is_lab ℓ i
unfolding look size
here_lab ℓ l (pl w) c h = mem_k_pl (size c) w l
here_lab ℓ l (br k t) c h = mem_k_br (size c) k t l ∙ h (jofs k + size c) (omega (arith, cwidth_tail k)) ∙ rw (same_refl (jofs k + size c)) refl

pub below_lab : (ℓ : ℕ) (l : List ℕ) (i : Instr) (c : Code) → ((p : ℕ) → p < size (i ∷ c) → mem p l ≡ is_l ℓ (i ∷ c) p) → (p : ℕ) → p < size c → mem p l ≡ is_l ℓ c p
unfolding look size
below_lab ℓ l i c h p q = h p (omega arith) ∙ rw (key_off p (size c) i q) refl

pub all_edit : (ℓ : ℕ) (a : Act) (l : List ℕ) (c : Code) → ((p : ℕ) → p < size c → mem p l ≡ is_l ℓ c p) → all_pos (ed_i a) l c ≡ edit (one ℓ a) c
unfolding edit
all_edit ℓ a l [] h = all_none a l
all_edit ℓ a l (i ∷ c) h = all_cons (ed_i a) (width_ed_i a) (key_ed_i a) (idem_ed_i a) l i c ∙ rw (here_lab ℓ l i c h, ed_one ℓ a i, all_edit ℓ a l c (below_lab ℓ l i c h)) refl

-- a label that no jump has
pub edit_absent : (ℓ : ℕ) (a : Act) (c : Code) → ((p : ℕ) → is_l ℓ c p ≡ false) → edit (one ℓ a) c ≡ c
unfolding all_pos
edit_absent ℓ a c h = sym (all_edit ℓ a [] c (λ p q. sym (h p)))

-- what stands where after an edit
module _ (F G : Instr → Bool) where
  pub look_edit : (g : ℕ → Act) → ((i : Instr) → F (ed1 g i) ≡ G i) → (c : Code) (p : ℕ) → look F (edit g c) p ≡ look G c p
  unfolding look edit
  look_edit g h [] p = refl
  look_edit g h (i ∷ c) p = rw (size_edit g c, key_ed1 g p (size c) i, h i, look_edit g h c p) refl

  pub look_or : (c : Code) (p : ℕ) → look (λ i. F i || G i) c p ≡ (look F c p || look G c p)
  unfolding look
  look_or [] p = refl
  look_or (i ∷ c) p = rw (look_or c p) (go (key p (size c) i))
    where
      go : (t : Bool) → pick t (F i || G i) (look F c p || look G c p) ≡ (pick t (F i) (look F c p) || pick t (G i) (look G c p))
      go true = refl
      go false = refl

  pub look_imp : ((i : Instr) → F i ≡ true → G i ≡ true) → (c : Code) (p : ℕ) → look F c p ≡ true → look G c p ≡ true
  unfolding look
  look_imp h [] p e = e
  look_imp h (i ∷ c) p e = go (key p (size c) i) e (look_imp h c p)
    where
      go : (t : Bool) → pick t (F i) (look F c p) ≡ true → (look F c p ≡ true → look G c p ≡ true) → pick t (G i) (look G c p) ≡ true
      go true e r = h i e
      go false e r = r e

  pub look_apart : ((i : Instr) → F i ≡ true → G i ≡ false) → (c : Code) (p : ℕ) → look F c p ≡ true → look G c p ≡ false
  unfolding look
  look_apart h [] p e = refl
  look_apart h (i ∷ c) p e = go (key p (size c) i) e (look_apart h c p)
    where
      go : (t : Bool) → pick t (F i) (look F c p) ≡ true → (look F c p ≡ true → look G c p ≡ false) → pick t (G i) (look G c p) ≡ false
      go true e r = h i e
      go false e r = r e

  pub count_edit : (g : ℕ → Act) → ((i : Instr) → F (ed1 g i) ≡ G i) → (c : Code) → count F (edit g c) ≡ count G c
  unfolding count edit
  count_edit g h [] = refl
  count_edit g h (i ∷ c) = rw (h i, count_edit g h c) refl

  pub count_or : ((i : Instr) → F i ≡ true → G i ≡ false) → (c : Code) → count (λ i. F i || G i) c ≡ count F c + count G c
  unfolding count
  count_or h [] = refl
  count_or h (i ∷ c) = rw (count_or h c) (go (F i) (G i) (h i))
    where
      go : (s t : Bool) → (s ≡ true → t ≡ false) → one01 (s || t) + (count F c + count G c) ≡ (one01 s + count F c) + (one01 t + count G c)
      go true t h = rw (h refl) (omega arith)
      go false t h = omega arith

pub look_range : (F : Instr → Bool) (c : Code) (p : ℕ) → look F c p ≡ true → p < size c
unfolding look size
look_range F [] p h = absurd (let z : ◌≡◌ {A = ℕ} 0 1 = cc in omega arith)
look_range F (i ∷ c) p h = go (key p (size c) i) refl h (look_range F c p)
  where
    go : (t : Bool) → key p (size c) i ≡ t → pick t (F i) (look F c p) ≡ true → (look F c p ≡ true → p < size c) → p < width i + size c
    go true e z r = (key_at p (size c) i e).1
    go false e z r = omega (arith, r z)

pub look_beyond : (F : Instr → Bool) (c : Code) (p : ℕ) → size c ≤ p → look F c p ≡ false
look_beyond F c p h = go (look F c p) refl
  where
    go : (t : Bool) → look F c p ≡ t → t ≡ false
    go true e = absurd (omega (arith, look_range F c p e))
    go false e = refl

pub look_none : (c : Code) (p : ℕ) → look (λ i. false) c p ≡ false
unfolding look
look_none [] p = refl
look_none (i ∷ c) p = rw (look_none c p) (go (key p (size c) i))
  where
    go : (t : Bool) → pick t false false ≡ false
    go true = refl
    go false = refl

-- an edit at another place
pub look_other : (F : Instr → Bool) (f : Instr → Instr) (wf : (i : Instr) → width (f i) ≡ width i) (kf : (p n : ℕ) (i : Instr) → key p n (f i) ≡ key p n i) (p q : ℕ) (c : Code) → (q ≡ p → ⊥) → look F (at_pos f p c) q ≡ look F c q
unfolding look at_pos
look_other F f wf kf p q [] h = refl
look_other F f wf kf p q (i ∷ c) h = go (key p (size c) i) refl (look_other F f wf kf p q c h)
  where
    go : (t : Bool) → key p (size c) i ≡ t → look F (at_pos f p c) q ≡ look F c q → look F (pick t (f i ∷ c) (i ∷ at_pos f p c)) q ≡ pick (key q (size c) i) (F i) (look F c q)
    go true e r = rw (kf q (size c) i, other (key q (size c) i) refl) refl
      where
        other : (t : Bool) → key q (size c) i ≡ t → key q (size c) i ≡ false
        other true z = absurd (h ((key_at q (size c) i z).0 ∙ sym (key_at p (size c) i e).0))
        other false z = z
    go false e r = rw (size_at_pos f wf p c, r) refl

-- labels after an action on one of them
lab_re_br : (b : ℕ) (s : Bool) (ℓ m : ℕ) (c : Ctrl) → is_lab ℓ (ed_br (re b s) c m) ≡ same b ℓ
lab_re_br b false ℓ m c = refl
lab_re_br b true ℓ m always = refl
lab_re_br b true ℓ m (test x y) = refl
lab_re_br b true ℓ m (tset x y) = refl
lab_re_br b true ℓ m (tseta a x y) = refl
lab_re_br b true ℓ m (cmp o k x y) = refl

lab_land_br : (v d : ℕ) (r : Option ℕ) (ℓ m : ℕ) (c : Ctrl) → is_lab ℓ (ed_br (land v r d) c m) ≡ false
lab_land_br v d r ℓ m always = refl
lab_land_br v d r ℓ m (test x y) = refl
lab_land_br v d r ℓ m (tset x y) = refl
lab_land_br v d r ℓ m (tseta a x y) = refl
lab_land_br v d r ℓ m (cmp o k x y) = refl

pub lab_re : (a b : ℕ) (s : Bool) (ℓ : ℕ) (i : Instr) → is_lab ℓ (ed1 (one a (re b s)) i) ≡ pick (is_lab a i) (same b ℓ) (is_lab ℓ i)
lab_re a b s ℓ (pl w) = refl
lab_re a b s ℓ (br c (to p)) = refl
lab_re a b s ℓ (br c (lbl m)) = go (same m a)
  where
    go : (t : Bool) → is_lab ℓ (ed_br (pick t (re b s) keep) c m) ≡ pick t (same b ℓ) (same m ℓ)
    go true = lab_re_br b s ℓ m c
    go false = refl

pub lab_land : (a v d : ℕ) (r : Option ℕ) (ℓ : ℕ) (i : Instr) → is_lab ℓ (ed1 (one a (land v r d)) i) ≡ pick (is_lab a i) false (is_lab ℓ i)
lab_land a v d r ℓ (pl w) = refl
lab_land a v d r ℓ (br c (to p)) = refl
lab_land a v d r ℓ (br c (lbl m)) = go (same m a)
  where
    go : (t : Bool) → is_lab ℓ (ed_br (pick t (land v r d) keep) c m) ≡ pick t false (same m ℓ)
    go true = lab_land_br v d r ℓ m c
    go false = refl

pub lab_apart : (a b : ℕ) → (a ≡ b → ⊥) → (i : Instr) → is_lab a i ≡ true → is_lab b i ≡ false
lab_apart a b h (pl w) e = refl
lab_apart a b h (br c (to p)) e = refl
lab_apart a b h (br c (lbl m)) e = same_ne m b (λ z. h (sym (same_true m a e) ∙ z))

-- the four readings of `pick (is_lab a i) x (is_lab ℓ i)`
pub lab_off : (a ℓ : ℕ) → (a ≡ ℓ → ⊥) → (i : Instr) → pick (is_lab a i) false (is_lab ℓ i) ≡ is_lab ℓ i
lab_off a ℓ h i = go (is_lab a i) refl
  where
    go : (t : Bool) → is_lab a i ≡ t → pick t false (is_lab ℓ i) ≡ is_lab ℓ i
    go true e = sym (lab_apart a ℓ h i e)
    go false e = refl

pub lab_gone : (a : ℕ) (i : Instr) → pick (is_lab a i) false (is_lab a i) ≡ false
lab_gone a i = go (is_lab a i)
  where
    go : (t : Bool) → pick t false t ≡ false
    go true = refl
    go false = refl

pub lab_kept : (a : ℕ) (i : Instr) → pick (is_lab a i) true (is_lab a i) ≡ is_lab a i
lab_kept a i = go (is_lab a i)
  where
    go : (t : Bool) → pick t true t ≡ t
    go true = refl
    go false = refl

pub lab_both : (a b : ℕ) (i : Instr) → pick (is_lab a i) true (is_lab b i) ≡ (is_lab a i || is_lab b i)
lab_both a b i = go (is_lab a i)
  where
    go : (t : Bool) → pick t true (is_lab b i) ≡ (t || is_lab b i)
    go true = refl
    go false = refl

-- ---- jumps that came to a new label from another, and go on to a third

absent_here : (ℓ : ℕ) (i : Instr) (c : Code) → ((p : ℕ) → is_l ℓ (i ∷ c) p ≡ false) → is_lab ℓ i ≡ false
unfolding look
absent_here ℓ (pl w) c h = refl
absent_here ℓ (br k t) c h = rw (same_refl (jofs k + size c)) at (h (jofs k + size c))

through_i : (a b d : ℕ) (s : Bool) (i : Instr) → is_lab b i ≡ false → ed1 (one b (re d false)) (ed1 (one a (re b s)) i) ≡ ed1 (one a (re d s)) i
through_i a b d s (pl w) h = refl
through_i a b d s (br k (to p)) h = refl
through_i a b d s (br k (lbl m)) h = go (same m a)
  where
    moved : (s : Bool) (k : Ctrl) → ed1 (one b (re d false)) (ed_br (re b s) k m) ≡ ed_br (re d s) k m
    moved false k = rw (same_refl b) refl
    moved true always = rw (same_refl b) refl
    moved true (test x y) = rw (same_refl b) refl
    moved true (tset x y) = rw (same_refl b) refl
    moved true (tseta z x y) = rw (same_refl b) refl
    moved true (cmp o z x y) = rw (same_refl b) refl

    go : (t : Bool) → ed1 (one b (re d false)) (ed_br (pick t (re b s) keep) k m) ≡ ed_br (pick t (re d s) keep) k m
    go true = moved s k
    go false = rw h refl

absent_below : (ℓ : ℕ) (i : Instr) (c : Code) → ((p : ℕ) → is_l ℓ (i ∷ c) p ≡ false) → (p : ℕ) → is_l ℓ c p ≡ false
unfolding look
absent_below ℓ i c h p = go (key p (size c) i) refl (h p)
  where
    go : (t : Bool) → key p (size c) i ≡ t → pick t (is_lab ℓ i) (is_l ℓ c p) ≡ false → is_l ℓ c p ≡ false
    go true e z = look_beyond (is_lab ℓ) c p (omega (arith, (key_at p (size c) i e).0))
    go false e z = z

pub edit_through : (a b d : ℕ) (s : Bool) (c : Code) → ((p : ℕ) → is_l b c p ≡ false) → edit (one b (re d false)) (edit (one a (re b s)) c) ≡ edit (one a (re d s)) c
unfolding edit
edit_through a b d s [] h = refl
edit_through a b d s (i ∷ c) h = rw (through_i a b d s i (absent_here b i c h), edit_through a b d s c (absent_below b i c h)) refl
