-- No operation on jump lists changes the number of words: each sets words, and a walk is a number of such turns.
use Rattle.std.specs.Prelude.{ℕ, zero, suc, Bool, true, false, ◌≡◌, refl, List, length}
use Rattle.std.proofs.Common.{◌∙◌, length-set}
use Rattle.instructions.specs.Limits.{no_reg}
use Rattle.model.specs.Jumps.{word, get_jump_target, patch_jump, last_jump, linked, control, keeps_value, retest, patch_test_reg, remove_values, patch_list_aux}

length_if : (t : Bool) (us ws : List ℕ) → length us ≡ length ws → length {A = ℕ} (elim t [ true ↦ us | false ↦ ws ]) ≡ length ws
length_if true us ws e = e
length_if false us ws e = refl

pub length_patch_jump : (ws : List ℕ) (l target : ℕ) → length (patch_jump ws l target) ≡ length ws
unfolding patch_jump
length_patch_jump ws zero target = refl
length_patch_jump ws (suc pc) target = length-set ws pc _

pub length_patch_test_reg : (ws : List ℕ) (l reg : ℕ) → length (patch_test_reg ws l reg) ≡ length ws
unfolding patch_test_reg
length_patch_test_reg ws l reg = length_if (keeps_value ws l) _ ws (length-set ws (control ws l) (retest reg (word ws (control ws l))))

pub length_linked : (ws : List ℕ) (l1 l2 : ℕ) → length (linked ws l1 l2) ≡ length ws
unfolding linked
length_linked ws zero l2 = refl
length_linked ws (suc pc) zero = refl
length_linked ws (suc pc) (suc to) = length_patch_jump ws (last_jump (length ws) ws (suc pc)) to

pub length_remove : (fuel : ℕ) (ws : List ℕ) (l : ℕ) → length (remove_values fuel ws l) ≡ length ws
unfolding remove_values
length_remove zero ws l = refl
length_remove (suc fuel) ws zero = refl
length_remove (suc fuel) ws (suc pc) = length_remove fuel (patch_test_reg ws (suc pc) no_reg) _ ∙ length_patch_test_reg ws (suc pc) no_reg

pub length_patch_list : (fuel : ℕ) (ws : List ℕ) (l vtarget reg dtarget : ℕ) → length (patch_list_aux fuel ws l vtarget reg dtarget) ≡ length ws
unfolding patch_list_aux
length_patch_list zero ws l vtarget reg dtarget = refl
length_patch_list (suc fuel) ws zero vtarget reg dtarget = refl
length_patch_list (suc fuel) ws (suc pc) vtarget reg dtarget =
    length_patch_list fuel (patch_jump (patch_test_reg ws (suc pc) reg) (suc pc) _) (get_jump_target ws (suc pc)) vtarget reg dtarget
    ∙ length_patch_jump (patch_test_reg ws (suc pc) reg) (suc pc) _
    ∙ length_patch_test_reg ws (suc pc) reg
