-- Jump lists threaded through the words: a chain of places from a head. A walk with as much fuel as the chain is long is the fold over its places;
-- a chain lives on where its words stay; and `concat_jumps` appends two chains that share no place. By induction on the chain.
use Prim.Native.Nat.{ℕ, zero, suc, ◌≤◌, ◌<◌}
use Rattle.std.specs.Prelude.{Bool, true, false, ◌||◌, ◌≡◌, length, eqb}
use Rattle.std.proofs.Math.Path.{refl}
use Rattle.std.proofs.Common.{sym, subst, ◌∙◌, arith, ne_eqb}
use mathlib.Core.List.{List, [], ◌∷◌, ◌++◌, append-nil}
use Rattle.instructions.specs.Limits.{max_words, no_reg}
use Rattle.model.specs.Jumps.{word, get_jump_target, last_jump, concat_jumps, linked, patch_jump, remove_values}
use Rattle.labelled.specs.Code.{same, same_refl, same_true}
use Rattle.threads.specs.Edits.{pick_is}
use Rattle.threads.specs.Words.{IsJ, is_jmp, next, next_same, next_link, jump_to, jumped, jumped_off, len_jump, ret, walk}
use Rattle.threads.specs.Places.{mem}
use Rattle.threads.specs.Turns.{ret_jump, len_ret}
use Rattle.labelled.specs.Machine.{pick}

-- booleans
pub bool_clash : {A : Type 0} (b : Bool) → b ≡ true → b ≡ false → A
bool_clash b p q = absurd (let z : ◌≡◌ {A = ℕ} 0 1 = cc in omega arith)

pub or_true_r : (a b : Bool) → b ≡ true → (a || b) ≡ true
or_true_r true b h = refl
or_true_r false b h = h

pub or_assoc : (a b c : Bool) → ((a || b) || c) ≡ (a || (b || c))
or_assoc true b c = refl
or_assoc false b c = refl

abbrev pub NoDup : List ℕ → Type 0
NoDup [] = Unit {0}
NoDup (p ∷ l) = (mem p l ≡ false) × NoDup l

-- the list of positions l hangs together from the head h (0: none, p + 1: word p)
abbrev pub Chain : List ℕ → ℕ → List ℕ → Type 0
Chain ws h [] = h ≡ 0
Chain ws h (p ∷ l) = (h ≡ suc p) × (p < length ws) × IsJ (word ws p) × Chain ws (next ws p) l

pub mem_append : (q : ℕ) (l m : List ℕ) → mem q (l ++ m) ≡ (mem q l || mem q m)
mem_append q [] m = refl
mem_append q (p ∷ l) m = rw (mem_append q l m) (sym (or_assoc (same q p) (mem q l) (mem q m)))

abbrev pub Apart : List ℕ → List ℕ → Type 0
Apart l m = (q : ℕ) → mem q l ≡ true → mem q m ≡ false

mem_head : (p : ℕ) (l : List ℕ) → mem p (p ∷ l) ≡ true
mem_head p l = rw (same_refl p) refl

pub nodup_append : (l m : List ℕ) → NoDup l → NoDup m → Apart l m → NoDup (l ++ m)
nodup_append [] m a b d = b
nodup_append (p ∷ l) m a b d = (mem_append p l m ∙ rw a.0 (d p (mem_head p l)), nodup_append l m a.1 b (λ q h. d q (or_true_r (same q p) (mem q l) h)))

ne_mem : (p q : ℕ) (l : List ℕ) → mem q l ≡ true → mem p l ≡ false → q ≡ p → ⊥
ne_mem p q l a b e = bool_clash (mem p l) (rw e at a) b

-- where the words of a chain stay, it stays
pub chain_keep : (ws us : List ℕ) (h : ℕ) (l : List ℕ) → length us ≡ length ws → ((q : ℕ) → mem q l ≡ true → IsJ (word ws q) → word us q ≡ word ws q) → Chain ws h l → Chain us h l
chain_keep ws us h [] n g c = c
chain_keep ws us h (p ∷ l) n g c =
    let e : word us p ≡ word ws p = g p (mem_head p l) c.2 in
    (c.0, omega (arith, c.1), rw e c.2, rw (next_same ws us p e) (chain_keep ws us (next ws p) l n (λ q m. g q (or_true_r (same q p) (mem q l) m)) c.3))

-- every member is a Jmp inside
pub chain_in : (ws : List ℕ) (h : ℕ) (l : List ℕ) (q : ℕ) → Chain ws h l → mem q l ≡ true → q < length ws
chain_in ws h [] q c m = bool_clash true refl (sym m)
chain_in ws h (p ∷ l) q c m = go (same q p) refl m (chain_in ws (next ws p) l q c.3)
  where
    go : (t : Bool) → same q p ≡ t → (t || mem q l) ≡ true → (mem q l ≡ true → q < length ws) → q < length ws
    go true e m r = omega (arith, same_true q p e, c.1)
    go false e m r = r m

-- ---- walks

unfoldable pub fold : (List ℕ → ℕ → List ℕ) → List ℕ → List ℕ → List ℕ
fold f [] ws = ws
fold f (p ∷ l) ws = fold f l (f ws p)

module _ (f : List ℕ → ℕ → List ℕ) (len : (ws : List ℕ) (p : ℕ) → length (f ws p) ≡ length ws)
    (keeps : (ws : List ℕ) (p q : ℕ) → IsJ (word ws q) → (q ≡ p → ⊥) → word (f ws p) q ≡ word ws q) where
  turn_chain : (ws : List ℕ) (p h : ℕ) (m : List ℕ) → mem p m ≡ false → Chain ws h m → Chain (f ws p) h m
  turn_chain ws p h m d c = chain_keep ws (f ws p) h m (len ws p) (λ q a j. keeps ws p q j (ne_mem p q m a d)) c

  -- with as much fuel as the list is long, a walk is the fold over its positions
  pub walk_fold : (k : ℕ) (ws : List ℕ) (h : ℕ) (l : List ℕ) → Chain ws h l → NoDup l → length l ≤ k → walk f k ws h ≡ fold f l ws
  unfolding walk fold
  walk_fold zero ws h [] c n z = refl
  walk_fold zero ws h (p ∷ l) c n z = absurd (omega arith)
  walk_fold (suc k) ws h [] c n z = rw c refl
  walk_fold (suc k) ws h (p ∷ l) c n z = rw c.0 (walk_fold k (f ws p) (next ws p) l (turn_chain ws p (next ws p) l n.0 c.3) n.1 (omega arith))

  pub len_fold : (l : List ℕ) (ws : List ℕ) → length (fold f l ws) ≡ length ws
  unfolding fold
  len_fold [] ws = refl
  len_fold (p ∷ l) ws = len_fold l (f ws p) ∙ len ws p

  -- another thread lives on
  pub fold_chain : (l : List ℕ) (ws : List ℕ) (h : ℕ) (m : List ℕ) → Apart l m → Chain ws h m → Chain (fold f l ws) h m
  unfolding fold
  fold_chain [] ws h m a c = c
  fold_chain (p ∷ l) ws h m a c = fold_chain l (f ws p) h m (λ q b. a q (or_true_r (same q p) (mem q l) b)) (turn_chain ws p h m (a p (mem_head p l)) c)

-- where a turn changes nothing behind its place, a walk changes nothing behind all its places
pub fold_behind : (f : List ℕ → ℕ → List ℕ) → ((ws : List ℕ) (p q : ℕ) → p < q → word (f ws p) q ≡ word ws q) → (l : List ℕ) (ws : List ℕ) (q : ℕ) → ((p : ℕ) → mem p l ≡ true → p < q) → word (fold f l ws) q ≡ word ws q
unfolding fold
fold_behind f k [] ws q h = refl
fold_behind f k (p ∷ l) ws q h = fold_behind f k l (f ws p) q (λ r m. h r (or_true_r (same r p) (mem r l) m)) ∙ k ws p q (h p (mem_head p l))

-- where a turn keeps every Jmp, the walked thread itself lives on
module _ (f : List ℕ → ℕ → List ℕ) (len : (ws : List ℕ) (p : ℕ) → length (f ws p) ≡ length ws)
    (keeps : (ws : List ℕ) (p q : ℕ) → IsJ (word ws q) → word (f ws p) q ≡ word ws q) where
  pub fold_stays : (l : List ℕ) (ws : List ℕ) (h : ℕ) (m : List ℕ) → Chain ws h m → Chain (fold f l ws) h m
  unfolding fold
  fold_stays [] ws h m c = c
  fold_stays (p ∷ l) ws h m c = fold_stays l (f ws p) h m (chain_keep ws (f ws p) h m (len ws p) (λ q a j. keeps ws p q j) c)

-- `remove_values` asks for the next jump after its turn, which keeps the Jmp
abbrev pub strip_at : List ℕ → ℕ → List ℕ
strip_at ws p = ret ws p no_reg

pub strip_fold : (k : ℕ) (ws : List ℕ) (h : ℕ) (l : List ℕ) → Chain ws h l → length l ≤ k → remove_values k ws h ≡ fold strip_at l ws
unfolding remove_values fold
strip_fold zero ws h [] c z = refl
strip_fold zero ws h (p ∷ l) c z = absurd (omega arith)
strip_fold (suc k) ws h [] c z = rw c refl
strip_fold (suc k) ws h (p ∷ l) c z =
    rw (c.0, next_same ws (strip_at ws p) p (ret_jump ws p no_reg p c.2))
    (strip_fold k (strip_at ws p) (next ws p) l (chain_keep ws (strip_at ws p) (next ws p) l (len_ret ws p no_reg) (λ q m j. ret_jump ws p no_reg q j) c.3) (omega arith))

-- ---- `concat_jumps`

unfoldable pub last_of : ℕ → List ℕ → ℕ
last_of p [] = p
last_of p (q ∷ l) = last_of q l

pub last_mem : (p : ℕ) (l : List ℕ) → mem (last_of p l) (p ∷ l) ≡ true
unfolding last_of
last_mem p [] = rw (same_refl p) refl
last_mem p (q ∷ l) = or_true_r (same (last_of q l) p) (mem (last_of q l) (q ∷ l)) (last_mem q l)

last_is : (k : ℕ) (ws : List ℕ) (l : ℕ) → last_jump (suc k) ws l ≡ pick (eqb (get_jump_target ws l) 0) l (last_jump k ws (get_jump_target ws l))
unfolding last_jump
last_is k ws l = pick_is (eqb (get_jump_target ws l) 0) l (last_jump k ws (get_jump_target ws l))

pub last_chain : (k : ℕ) (ws : List ℕ) (p : ℕ) (l : List ℕ) → Chain ws (next ws p) l → length l ≤ k → last_jump k ws (suc p) ≡ suc (last_of p l)
unfolding last_jump last_of
last_chain zero ws p [] c z = refl
last_chain zero ws p (q ∷ l) c z = absurd (omega arith)
last_chain (suc k) ws p [] c z = last_is k ws (suc p) ∙ rw c refl
last_chain (suc k) ws p (q ∷ l) c z = last_is k ws (suc p) ∙ rw (c.0, ne_eqb (suc q) 0 (λ e. omega arith)) (last_chain k ws q l c.3 (omega arith))

jump_j : (ws : List ℕ) (p t : ℕ) → p < length ws → IsJ (word ws p) → IsJ (word (jump_to ws p t) p)
jump_j ws p t l j = rw (jumped ws p t l j) (is_jmp _)

pub jump_chain : (ws : List ℕ) (p t h : ℕ) (m : List ℕ) → mem p m ≡ false → Chain ws h m → Chain (jump_to ws p t) h m
jump_chain ws p t h m d c = chain_keep ws (jump_to ws p t) h m (len_jump ws p t) (λ q a j. jumped_off ws p t q (ne_mem p q m a d)) c

-- the last of the first list is sent to the head of the second
abbrev pub Small : List ℕ → Type 0
Small l = (q : ℕ) → mem q l ≡ true → q < max_words

pub link_chain : (ws : List ℕ) (h p : ℕ) (l : List ℕ) (t : ℕ) (m : List ℕ) → Small (p ∷ l) → t < max_words → Chain ws h (p ∷ l) → NoDup (p ∷ l) → Chain ws (suc t) m → mem t m ≡ true → Apart (p ∷ l) m →
    Chain (jump_to ws (last_of p l) t) h ((p ∷ l) ++ m)
unfolding last_of
link_chain ws h p [] t m big lt c n d tm a = (
  c.0,
  omega (arith, len_jump ws p t, c.1),
  jump_j ws p t c.1 c.2,
  rw (next_link ws p t c.1 c.2 (λ e. bool_clash (mem t m) tm (rw e (a p (mem_head p [])))) (omega arith) (big p (mem_head p [])))
      (jump_chain ws p t (suc t) m (a p (mem_head p [])) d),
)
link_chain ws h p (q ∷ l) t m big lt c n d tm a =
    let z : word (jump_to ws (last_of q l) t) p ≡ word ws p = jumped_off ws (last_of q l) t p (λ e. ne_mem p (last_of q l) (q ∷ l) (last_mem q l) n.0 (sym e)) in (
      c.0,
      omega (arith, len_jump ws (last_of q l) t, c.1),
      rw z c.2,
      rw (next_same ws (jump_to ws (last_of q l) t) p z) (link_chain ws (next ws p) q l t m (λ r b. big r (or_true_r (same r p) (mem r (q ∷ l)) b)) lt c.3 n.1 d tm (λ r b. a r (or_true_r (same r p) (mem r (q ∷ l)) b))),
    )

-- the words after `concat_jumps`, whatever the heads
pub join_chain : (ws : List ℕ) (g h : ℕ) (l m : List ℕ) → Small l → Small m → Chain ws g l → NoDup l → Chain ws h m → Apart l m → length l ≤ length ws → Chain (linked ws g h) (concat_jumps g h) (l ++ m)
unfolding linked
join_chain ws g h [] [] b s c n d a z = rw (c, d) refl
join_chain ws g h [] (t ∷ m) b s c n d a z =
    subst (λ (x : ℕ). Chain (linked ws x h) (concat_jumps x h) (t ∷ m)) (sym c)
    (subst (λ (y : ℕ). Chain (linked ws 0 y) (concat_jumps 0 y) (t ∷ m)) (sym d.0) (refl, d.1, d.2, d.3))
join_chain ws g h (p ∷ l) [] b s c n d a z =
    subst (λ (z : List ℕ). Chain (linked ws g h) (concat_jumps g h) z) (sym (append-nil (p ∷ l)))
    (subst (λ (y : ℕ). Chain (linked ws g y) (concat_jumps g y) (p ∷ l)) (sym d)
    (subst (λ (x : ℕ). Chain (linked ws x 0) (concat_jumps x 0) (p ∷ l)) (sym c.0) (refl, c.1, c.2, c.3)))
join_chain ws g h (p ∷ l) (t ∷ m) b s c n d a z =
    subst (λ (x : ℕ). Chain (linked ws x h) (concat_jumps x h) (p ∷ (l ++ t ∷ m))) (sym c.0)
    (subst (λ (y : ℕ). Chain (linked ws (suc p) y) (concat_jumps (suc p) y) (p ∷ (l ++ t ∷ m))) (sym d.0)
    (subst (λ (q : ℕ). Chain (patch_jump ws q t) (suc p) (p ∷ (l ++ t ∷ m))) (sym (last_chain (length ws) ws p l c.3 (omega arith)))
    (link_chain ws (suc p) p l t (t ∷ m) b (s t (mem_head t m)) (refl, c.1, c.2, c.3) n (refl, d.1, d.2, d.3) (mem_head t m) a)))

-- what `concat_jumps` does to the words: nothing, or one Jmp of the first list is sent on
pub data Joined (ws us : List ℕ) (l : List ℕ) : Type 0 where
  stays : us ≡ ws → Joined ws us l
  sent : (p t : ℕ) → mem p l ≡ true → us ≡ jump_to ws p t → Joined ws us l

pub join_how : (ws : List ℕ) (g h : ℕ) (l m : List ℕ) → Chain ws g l → Chain ws h m → length l ≤ length ws → Joined ws (linked ws g h) l
unfolding linked
join_how ws g h [] [] c d z = stays (rw c refl)
join_how ws g h [] (t ∷ m) c d z = stays (rw c refl)
join_how ws g h (p ∷ l) [] c d z = stays (rw (c.0, d) refl)
join_how ws g h (p ∷ l) (t ∷ m) c d z = sent (last_of p l) t (last_mem p l) (rw (c.0, d.0, last_chain (length ws) ws p l c.3 (omega arith)) refl)
