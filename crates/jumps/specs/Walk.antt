-- Jump lists, turn by turn: a walk at a count of turns that the code lowers by one, and a list that is k + 1 for the word k, as the code reads it. Assumes nothing.
use Prim.Native.Nat.{ℕ, zero, suc, ◌+◌, ◌-◌, ◌<◌, ◌≤◌, ◌^◌}
use Rattle.std.specs.Prelude.{true, List, ◌≡◌, ℤ, pos, negsuc, ◌-ℤ◌, length, set}
use Rattle.std.proofs.Math.Bool.{false}
use Rattle.std.proofs.Math.Path.{refl}
use Rattle.std.proofs.Common.{not-suc-le-zero, eq-eqb, ne_eqb}
use native.Mathlib.Omega.{arith}
use Rattle.instructions.specs.Limits.{no_reg}
use Rattle.opcodes.specs.OpCodes.{test_mode}
use Rattle.instructions.specs.Word.{opcode_of, sbx_of, set_sbx_of}
use Rattle.model.specs.Jumps.{word, behind, get_jump_target, patch_jump, last_jump, concat_jumps, linked, get_jump_control, control, keeps_value, need_value, patch_test_reg, remove_values, patch_list_aux}

-- a list that some jump is in, and a jump from it that leads to a word that a number of 64 bits can name
abbrev pub Fitting : ℕ → ℤ → Type 0
Fitting list (pos n) = (0 < list) × (list + 1 + n < 2 ^ 64)
Fitting list (negsuc n) = 0 < list

-- the words where a list's first jump leads to `vtarget` with its value in `reg`, or to `dtarget` without one
abbrev pub led : List ℕ → ℕ → ℕ → ℕ → ℕ → List ℕ
led code list vtarget reg dtarget =
    patch_jump (patch_test_reg code list reg) list (elim (keeps_value code list) [ true ↦ vtarget | false ↦ dtarget ])

-- ---- a list that isn't empty

module _ (code : List ℕ) where
  pub target_some : (list : ℕ) → (list ≡ 0 → ⊥) → get_jump_target code list ≡ behind (list - 1) (sbx_of (word code (list - 1)))
  unfolding get_jump_target
  target_some zero h = absurd (h refl)
  target_some (suc pc) h = let q : suc pc - 1 ≡ pc = omega arith in rw q

  pub patch_some : (list target : ℕ) → (list ≡ 0 → ⊥) → patch_jump code list target ≡ set code (list - 1) (set_sbx_of (word code (list - 1)) (pos target -ℤ pos (list - 1 + 1)))
  unfolding patch_jump
  patch_some zero target h = absurd (h refl)
  patch_some (suc pc) target h = let q : suc pc - 1 ≡ pc = omega arith in rw q

  pub control_some : (list : ℕ) → (list ≡ 0 → ⊥) → control code list ≡ get_jump_control code (list - 1)
  control_some zero h = absurd (h refl)
  control_some (suc pc) h = let q : suc pc - 1 ≡ pc = omega arith in rw q

  pub control_test : (pc : ℕ) → (pc ≡ 0 → ⊥) → test_mode (opcode_of (word code (pc - 1))) ≡ true → get_jump_control code pc ≡ pc - 1
  unfolding get_jump_control
  control_test zero h t = absurd (h refl)
  control_test (suc pc) h t = let q : suc pc - 1 ≡ pc = omega arith in rw q (simp (get_jump_control, rw q at t))

  pub control_own : (pc : ℕ) → (pc ≡ 0 → ⊥) → test_mode (opcode_of (word code (pc - 1))) ≡ false → get_jump_control code pc ≡ pc
  unfolding get_jump_control
  control_own zero h t = absurd (h refl)
  control_own (suc pc) h t = let q : suc pc - 1 ≡ pc = omega arith in simp (get_jump_control, rw q at t)

  pub linked_some : (l1 l2 : ℕ) → (l1 ≡ 0 → ⊥) → (l2 ≡ 0 → ⊥) → linked code l1 l2 ≡ patch_jump code (last_jump (length code) code l1) (l2 - 1)
  unfolding linked
  linked_some zero l2 h g = absurd (h refl)
  linked_some (suc pc) zero h g = absurd (g refl)
  linked_some (suc pc) (suc to) h g = let q : suc to - 1 ≡ to = omega arith in rw q

  pub linked_none : (l1 l2 : ℕ) → l2 ≡ 0 → linked code l1 l2 ≡ code
  unfolding linked
  linked_none zero l2 h = refl
  linked_none (suc pc) l2 h = rw h

-- the first list if there is one
pub concat_some : (l1 l2 : ℕ) → (l1 ≡ 0 → ⊥) → concat_jumps l1 l2 ≡ l1
concat_some zero l2 h = absurd (h refl)
concat_some (suc pc) l2 h = refl

pub concat_none : (l1 l2 : ℕ) → l2 ≡ 0 → concat_jumps l1 l2 ≡ l1
concat_none zero l2 h = h
concat_none (suc pc) l2 h = refl

-- ---- no turn left

module _ (k : ℕ) (code : List ℕ) (l : ℕ) (none : k ≤ 0) where
  pub last_none : last_jump k code l ≡ l
  unfolding last_jump
  last_none = let z : k ≡ 0 = omega arith in rw z

  pub need_none : need_value k code l ≡ false
  unfolding need_value
  need_none = let z : k ≡ 0 = omega arith in rw z

  pub remove_none : remove_values k code l ≡ code
  unfolding remove_values
  remove_none = let z : k ≡ 0 = omega arith in rw z

  pub aux_none : (v r d : ℕ) → patch_list_aux k code l v r d ≡ code
  unfolding patch_list_aux
  aux_none v r d = let z : k ≡ 0 = omega arith in rw z

-- ---- the end of the list

pub last_end : (k : ℕ) (code : List ℕ) (l : ℕ) → get_jump_target code l ≡ 0 → last_jump k code l ≡ l
unfolding last_jump
last_end zero code l e = refl
last_end (suc k) code l e = simp (last_jump, eq-eqb _ _ e)

module _ (k : ℕ) (code : List ℕ) (l : ℕ) (end : l ≡ 0) where
  pub need_end : need_value k code l ≡ false
  unfolding need_value
  need_end = rw end (go k)
    where
      go : (k : ℕ) → need_value k code 0 ≡ false
      go zero = refl
      go (suc k) = refl

  pub remove_end : remove_values k code l ≡ code
  unfolding remove_values
  remove_end = rw end (go k)
    where
      go : (k : ℕ) → remove_values k code 0 ≡ code
      go zero = refl
      go (suc k) = refl

  pub aux_end : (v r d : ℕ) → patch_list_aux k code l v r d ≡ code
  unfolding patch_list_aux
  aux_end v r d = rw end (go k)
    where
      go : (k : ℕ) → patch_list_aux k code 0 v r d ≡ code
      go zero = refl
      go (suc k) = refl

-- ---- a turn

pub last_more : (k : ℕ) (code : List ℕ) (l : ℕ) → 0 < k → (get_jump_target code l ≡ 0 → ⊥) → last_jump k code l ≡ last_jump (k - 1) code (get_jump_target code l)
unfolding last_jump
last_more zero code l h e = absurd (not-suc-le-zero h)
last_more (suc k) code l h e = let q : suc k - 1 ≡ k = omega arith in rw q (simp (last_jump, ne_eqb _ _ e))

pub need_more : (k : ℕ) (code : List ℕ) (l : ℕ) → 0 < k → (l ≡ 0 → ⊥) → keeps_value code l ≡ true → need_value k code l ≡ need_value (k - 1) code (get_jump_target code l)
unfolding need_value
need_more zero code l h e t = absurd (not-suc-le-zero h)
need_more (suc k) code zero h e t = absurd (e refl)
need_more (suc k) code (suc pc) h e t = let q : suc k - 1 ≡ k = omega arith in rw q (simp (need_value, t))

pub need_stop : (k : ℕ) (code : List ℕ) (l : ℕ) → 0 < k → (l ≡ 0 → ⊥) → keeps_value code l ≡ false → need_value k code l ≡ true
unfolding need_value
need_stop zero code l h e t = absurd (not-suc-le-zero h)
need_stop (suc k) code zero h e t = absurd (e refl)
need_stop (suc k) code (suc pc) h e t = simp (need_value, t)

pub remove_more : (k : ℕ) (code : List ℕ) (l : ℕ) → 0 < k → (l ≡ 0 → ⊥) → remove_values k code l ≡ remove_values (k - 1) (patch_test_reg code l no_reg) (get_jump_target (patch_test_reg code l no_reg) l)
unfolding remove_values
remove_more zero code l h e = absurd (not-suc-le-zero h)
remove_more (suc k) code zero h e = absurd (e refl)
remove_more (suc k) code (suc pc) h e = let q : suc k - 1 ≡ k = omega arith in rw q

pub aux_more : (k : ℕ) (code : List ℕ) (l v r d : ℕ) → 0 < k → (l ≡ 0 → ⊥) → patch_list_aux k code l v r d ≡ patch_list_aux (k - 1) (led code l v r d) (get_jump_target code l) v r d
unfolding patch_list_aux
aux_more zero code l v r d h e = absurd (not-suc-le-zero h)
aux_more (suc k) code zero v r d h e = absurd (e refl)
aux_more (suc k) code (suc pc) v r d h e = let q : suc k - 1 ≡ k = omega arith in rw q
