-- The representation: words and list heads represent labelled code where the words encode it and each label's places are a chain from its head. The fuel of a walk never runs out,
-- since a chain is no longer than the code; and on represented code `patch_list_aux`, `remove_values` and `concat_jumps` are the edits land, re and relabel of one label.
use Rattle.std.specs.Prelude.{ℕ, ◌≤◌, ◌<◌, ◌≡◌, refl, length}
use Rattle.std.proofs.Math.Bool.{true}
use Rattle.std.proofs.Common.{sym, ◌∙◌, arith}
use mathlib.Core.List.{List}
use Rattle.instructions.specs.Limits.{max_words, no_reg}
use Rattle.model.specs.Jumps.{patch_list_aux}
use Rattle.labelled.specs.Code.{same, Code, size, Act, land, edit}
use Rattle.threads.specs.Words.{patch_at}
use Rattle.threads.specs.Places.{is_l, all_edit}
use Rattle.threads.specs.Encoding.{Coding}
use Rattle.threads.specs.Turns.{opt_r, patch_keeps, len_patch, patch_behind}
use Rattle.threads.proofs.Turns.{patch_step}
use Rattle.threads.specs.Chains.{len_fold, fold_behind}
use Rattle.labelled.specs.Emission.{one}
use Rattle.labelled.specs.Edits.{size_edit}
use Rattle.threads.specs.Represents.{Rep, below, fold_enc, patch_thr, pended, set_h, walked}

-- ---- the operations

module _ {K : Coding} {cap : ℕ} {ws : List ℕ} {H : ℕ → ℕ} {c : Code} (r : Rep K cap ws H c) where
  -- patch_list_aux ⇒ edit with land
  module _ (a v reg d : ℕ) (ok : reg ≤ no_reg) (vb : v ≤ max_words) (db : d ≤ max_words) (fwd : (p : ℕ) → is_l a c p ≡ true → (p < v) × (p < d)) where
    abbrev pact : Act
    pact = land v (opt_r reg) d

    abbrev pws : List ℕ
    pws = patch_list_aux (length ws) ws (H a) v reg d

    pub rep_patch : Rep K cap pws (set_h a 0 H) (edit (one a pact) c)
    rep_patch = rw (walked r a v reg d ok vb db fwd) (record {
      enc = rw (all_edit a pact (r.thr a).at c (λ p q. (r.thr a).is p)) at (fold_enc K pact (patch_at v reg d) (len_patch v reg d) (λ p. (p < v) × (p < d)) (λ us p l o. patch_step K v reg d us p l ok o.0 o.1 vb db) (r.thr a).at ws c (omega (arith, r.fits, r.len)) (r.thr a).once (pended (r.thr a)) (λ p m. fwd p (sym ((r.thr a).is p) ∙ m)) r.enc);
      len = len_fold (patch_at v reg d) (len_patch v reg d) (patch_keeps v reg d) (r.thr a).at ws ∙ r.len;
      fits = omega (arith, size_edit (one a pact) c, r.fits);
      few = omega (arith, size_edit (one a pact) c, r.few);
      thr = λ ℓ. patch_thr r a v reg d ok vb db fwd ℓ (same ℓ a) refl;
      clean = λ q l. let h : size c ≤ q = omega (arith, size_edit (one a pact) c) in fold_behind (patch_at v reg d) (patch_behind v reg d) (r.thr a).at ws q (below (r.thr a) q h) ∙ r.clean q h;
    })
