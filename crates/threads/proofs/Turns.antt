-- The turns of the walks, each a change of one pending jump's instruction: `patch_list_aux` lets it land, `remove_values` drops its value, and the link of `concat_jumps` is nothing to the code.
-- The control word of a jump is found by `prev_word`; what else a turn leaves alone is said by `ret_local` and `jumped_off`.
use Rattle.std.specs.Prelude.{ℕ, ◌≤◌, ◌<◌, length}
use Rattle.std.proofs.Math.Bool.{true}
use Rattle.std.proofs.Math.Path.{◌≡◌}
use mathlib.Core.List.{List}
use Rattle.instructions.specs.Limits.{max_words, no_reg}
use Rattle.labelled.specs.Code.{Code, land}
use Rattle.threads.specs.Words.{patch_at}
use Rattle.threads.specs.Places.{ed_i, at_pos, width_ed_i}
use Rattle.threads.specs.Encoding.{Coding, is_p, Enc, local_step}
use Rattle.threads.specs.Turns.{opt_r, patch_local, patch_turn}

module _ (K : Coding) where
  -- ---- `patch_list_aux`

  module _ (v reg d : ℕ) (ws : List ℕ) (p : ℕ) (inside : p < length ws) (regs : reg ≤ no_reg) (pv : p < v) (pd : p < d) (vb : v ≤ max_words) (db : d ≤ max_words) where
    abbrev us : List ℕ
    us = patch_at v reg d ws p

    -- a turn is the edit of one pending jump
    pub patch_step : (c : Code) → Enc K ws c → is_p c p ≡ true → Enc K us (at_pos (ed_i (land v (opt_r reg) d)) p c)
    patch_step = local_step K (ed_i (land v (opt_r reg) d)) (width_ed_i (land v (opt_r reg) d)) ws us p (λ q a b. patch_local v reg d ws p q a b) (patch_turn K v reg d ws p inside regs pv pd vb db)
