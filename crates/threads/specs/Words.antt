-- The words that jump lists touch, and the model's jump operations in the form that the proofs use: a Jmp keeps its opcode and A = 0 whatever its sBx is,
-- sBx = -1 ends a list, and a Jmp that is sent to word t leads to the list t + 1. Instances of the laws of fields; places are below the limit of words, so that sBx reads back.
use Rattle.std.specs.Prelude.{ℕ, zero, suc, ◌+◌, ◌-◌, ◌≤◌, ◌<◌, Bool, true, false, ◌||◌, ◌≡◌, refl, List, length, set, pos, negsuc, ◌-ℤ◌, eqb, ltb}
use Rattle.std.proofs.Common.{ap, ◌∙◌, arith, add-one, length-set, get_or-set_same, get_or-set_other, ltb-true, ltb-false}
use Rattle.std.proofs.Math.IntN.{sub_ℕ}
use Rattle.instructions.specs.Limits.{max_words, no_reg}
use Rattle.opcodes.specs.OpCodes.{code_of}
use Rattle.instructions.specs.Word.{op_of, b_of, c_of, sbx_of, set_a_of, set_bx_of, excess, abc_of, a_bx_of, a_sbx_of}
use Rattle.instructions.specs.Laws.{op_a_bx, set_bx_a_bx, InSbx, sbx_a_sbx}
use Rattle.opcodes.specs.declared.OpCode.TheVariants.{Jmp, Test}
use Rattle.labelled.specs.Code.{same}
use Rattle.threads.specs.Edits.{pick_is}
use Rattle.model.specs.Jumps.{word, behind, get_jump_target, patch_jump, linked, get_jump_control, keeps_value, retest, patch_test_reg, remove_values, patch_list_aux}
use Rattle.labelled.specs.Machine.{pick}

-- ---- buffers

pub word_same : (ws : List ℕ) (p x : ℕ) → p < length ws → word (set ws p x) p ≡ x
word_same ws p x h = get_or-set_same ws p x 0 h

pub word_other : (ws : List ℕ) (p q x : ℕ) → (q ≡ p → ⊥) → word (set ws p x) q ≡ word ws q
word_other ws p q x h = get_or-set_other ws p q x 0 h

-- ---- words

-- a Jmp with A = 0 and any Bx
pub record IsJ (w : ℕ) : Type 0 where
  pub bx : ℕ
  pub is : w ≡ a_bx_of Jmp 0 bx

pub is_jmp : (x : ℕ) → IsJ (a_bx_of Jmp 0 x)
is_jmp x = record { bx = x; is = refl }

pub op_jmp : (w : ℕ) → IsJ w → op_of w ≡ code_of Jmp
op_jmp w h = rw h.is (op_a_bx Jmp 0 h.bx)

pub set_bx_jmp : (w v : ℕ) → IsJ w → set_bx_of w v ≡ a_bx_of Jmp 0 v
set_bx_jmp w v h = rw h.is (set_bx_a_bx Jmp 0 h.bx v)

-- ---- a Jmp at word p that leads to word q

abbrev pub jmp_to : ℕ → ℕ → ℕ
jmp_to p q = a_sbx_of Jmp 0 (pos q -ℤ pos (p + 1))

-- a new Jmp, the end of a list
abbrev pub new_j : ℕ
new_j = a_sbx_of Jmp 0 (negsuc 0)

diff : (q p : ℕ) → pos q -ℤ pos (p + 1) ≡ sub_ℕ q (suc p)
diff q p = rw (add-one p) refl

in_sbx : (q p : ℕ) → q ≤ max_words → p < max_words → InSbx (pos q -ℤ pos (p + 1))
in_sbx q p a b = rw (diff q p) (go (ltb q (suc p)) refl)
  where
    go : (t : Bool) → ltb q (suc p) ≡ t → InSbx (sub_ℕ q (suc p))
    go true e = rw e (omega (arith, ltb-true q (suc p) e))
    go false e = rw e (omega (arith, ltb-false q (suc p) e))

pub sbx_to : (p q : ℕ) → q ≤ max_words → p < max_words → sbx_of (jmp_to p q) ≡ pos q -ℤ pos (p + 1)
sbx_to p q a b = sbx_a_sbx Jmp 0 (pos q -ℤ pos (p + 1)) (in_sbx q p a b)

-- where it leads, as a list
back : (p n : ℕ) → 0 < n → behind p (negsuc n) ≡ suc (p + 1) - suc n
back p zero h = absurd (omega arith)
back p (suc n) h = refl

pub behind_to : (p t : ℕ) → (t ≡ p → ⊥) → behind p (pos t -ℤ pos (p + 1)) ≡ suc t
behind_to p t ne = rw (diff t p) (go (ltb t (suc p)) refl)
  where
    go : (b : Bool) → ltb t (suc p) ≡ b → behind p (sub_ℕ t (suc p)) ≡ suc t
    go true e = let h : t < p = omega (arith, ltb-true t (suc p) e, ne) in rw e (back p (suc p - suc t) (omega arith) ∙ omega arith)
    go false e = rw e (omega (arith, ltb-false t (suc p) e))

-- ---- the operations, at a jump's place

-- the list behind the Jmp at p
abbrev pub next : List ℕ → ℕ → ℕ
next ws p = get_jump_target ws (suc p)

-- the Jmp at p is sent to word t
abbrev pub jump_to : List ℕ → ℕ → ℕ → List ℕ
jump_to ws p t = patch_jump ws (suc p) t

-- the test of the Jmp at p gets the register
abbrev pub ret : List ℕ → ℕ → ℕ → List ℕ
ret ws p reg = patch_test_reg ws (suc p) reg

pub ret_is : (ws : List ℕ) (p reg : ℕ) → ret ws p reg ≡ pick (keeps_value ws (suc p)) (set ws (get_jump_control ws p) (retest reg (word ws (get_jump_control ws p)))) ws
unfolding patch_test_reg
ret_is ws p reg = pick_is (keeps_value ws (suc p)) (set ws (get_jump_control ws p) (retest reg (word ws (get_jump_control ws p)))) ws

pub retest_is : (reg w : ℕ) → retest reg w ≡ pick (same reg no_reg || same reg (b_of w)) (abc_of Test (b_of w) 0 (c_of w)) (set_a_of w reg)
unfolding retest same
retest_is reg w = pick_is (eqb reg no_reg || eqb reg (b_of w)) (abc_of Test (b_of w) 0 (c_of w)) (set_a_of w reg)

-- one turn of `patch_list_aux`
abbrev pub patch_at : ℕ → ℕ → ℕ → List ℕ → ℕ → List ℕ
patch_at v reg d ws p = jump_to (ret ws p reg) p (pick (keeps_value ws (suc p)) v d)

pub next_same : (ws us : List ℕ) (p : ℕ) → word us p ≡ word ws p → next us p ≡ next ws p
unfolding get_jump_target
next_same ws us p e = rw e refl

pub next_new : (ws : List ℕ) (p : ℕ) → word ws p ≡ new_j → next ws p ≡ 0
unfolding get_jump_target
next_new ws p e = rw (e, sbx_a_sbx Jmp 0 (negsuc 0) (omega arith)) refl

pub jumped : (ws : List ℕ) (p t : ℕ) → p < length ws → IsJ (word ws p) → word (jump_to ws p t) p ≡ jmp_to p t
unfolding patch_jump
jumped ws p t l h = word_same ws p _ l ∙ set_bx_jmp (word ws p) (excess (pos t -ℤ pos (p + 1))) h

pub jumped_off : (ws : List ℕ) (p t q : ℕ) → (q ≡ p → ⊥) → word (jump_to ws p t) q ≡ word ws q
unfolding patch_jump
jumped_off ws p t q a = word_other ws p q _ a

pub len_jump : (ws : List ℕ) (p t : ℕ) → length (jump_to ws p t) ≡ length ws
unfolding patch_jump
len_jump ws p t = length-set ws p _

-- the link: a Jmp that was sent to word t leads to the list of word t, forwards and backwards
pub next_link : (ws : List ℕ) (p t : ℕ) → p < length ws → IsJ (word ws p) → (t ≡ p → ⊥) → t ≤ max_words → p < max_words → next (jump_to ws p t) p ≡ suc t
unfolding get_jump_target
next_link ws p t l j d a b = rw (jumped ws p t l j, sbx_to p t a b) (behind_to p t d)

-- ---- walks with fuel

unfoldable pub walk : (List ℕ → ℕ → List ℕ) → ℕ → List ℕ → ℕ → List ℕ
walk f zero ws l = ws
walk f (suc k) ws zero = ws
walk f (suc k) ws (suc p) = walk f k (f ws p) (next ws p)

pub patch_walk : (v reg d k : ℕ) (ws : List ℕ) (l : ℕ) → patch_list_aux k ws l v reg d ≡ walk (patch_at v reg d) k ws l
unfolding walk patch_list_aux
patch_walk v reg d zero ws l = refl
patch_walk v reg d (suc k) ws zero = refl
patch_walk v reg d (suc k) ws (suc p) = ap (λ (t : ℕ). patch_list_aux k (jump_to (ret ws p reg) p t) (next ws p) v reg d) (pick_is (keeps_value ws (suc p)) v d) ∙ patch_walk v reg d k (patch_at v reg d ws p) (next ws p)

-- an empty list
pub patch_none : (k : ℕ) (ws : List ℕ) (v reg d : ℕ) → patch_list_aux k ws 0 v reg d ≡ ws
unfolding patch_list_aux
patch_none zero ws v reg d = refl
patch_none (suc k) ws v reg d = refl

pub remove_none : (k : ℕ) (ws : List ℕ) → remove_values k ws 0 ≡ ws
unfolding remove_values
remove_none zero ws = refl
remove_none (suc k) ws = refl

pub linked_none : (ws : List ℕ) (l : ℕ) → linked ws l 0 ≡ ws
unfolding linked
linked_none ws zero = refl
linked_none ws (suc p) = refl
