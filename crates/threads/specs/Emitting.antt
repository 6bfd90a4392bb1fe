-- Emission: a word behind the others that no list sees; a control word with a new Jmp, which is a list of its own; `discharge_jpc`; and `emit_jump` with difference 1,
-- by which the pending jumps lose their values and hang behind the new one. Label 0 is that of the jumps to the word to come.
-- What rests on something that a must-fail edit breaks stands in proofs/Emitting.antt.
use Prim.Native.Nat.{ℕ, zero, suc, ◌+◌, ◌≤◌, ◌<◌}
use Rattle.std.specs.Prelude.{Bool, ◌||◌, ◌≡◌, List, [], ◌∷◌, length, set}
use Rattle.std.proofs.Math.Bool.{true, false}
use Rattle.std.proofs.Math.Path.{refl, sym}
use Rattle.std.proofs.Common.{◌∙◌, arith, zero-add, length-set}
use Rattle.std.proofs.Math.Option.{none}
use Rattle.std.proofs.lemmas.List.{length-replicate}
use Rattle.buffers.specs.Pad.{zeros}
use Rattle.instructions.specs.Limits.{max_words, no_reg}
use Rattle.model.specs.Jumps.{word, linked, remove_values, patch_list_aux}
use Rattle.labelled.specs.Code.{same, same_refl, same_ne, same_true, same_false, Ctrl, always, to, lbl, Instr, pl, br, width, Code, size, Act, re, edit}
use Rattle.threads.specs.Edits.{edit_fuse, strip_then}
use Rattle.threads.specs.Words.{word_same, word_other, is_jmp, new_j, next, next_new}
use Rattle.threads.specs.Places.{jofs, cwidth_tail, key, key_at, is_lab, is_l, look, mem, count, look_range, look_beyond, edit_absent}
use Rattle.threads.specs.Encoding.{Coding, pend, EncI, enc_agree}
use Rattle.threads.specs.Turns.{opt_r}
use Rattle.threads.specs.Chains.{bool_clash, Chain, chain_keep}
use Rattle.threads.specs.Represents.{Thr, set_h, Rep, rep_strip, rep_concat}
use Rattle.labelled.specs.Machine.{pick}
use Rattle.labelled.specs.Emission.{one}
use Rattle.labelled.specs.Edits.{size_edit}

pub no_word : (n q : ℕ) → word (zeros n) q ≡ 0
no_word zero q = refl
no_word (suc n) zero = refl
no_word (suc n) (suc q) = no_word n q

-- heads that agree
pub rep_heads : {K : Coding} {cap : ℕ} {ws : List ℕ} {H : ℕ → ℕ} (G : ℕ → ℕ) {c : Code} → ((ℓ : ℕ) → H ℓ ≡ G ℓ) → Rep K cap ws H c → Rep K cap ws G c
rep_heads G e r = record { len = r.len; enc = r.enc; fits = r.fits; few = r.few; thr = λ ℓ. rw (e ℓ) at (r.thr ℓ); clean = r.clean }

-- the start: no code, no list, a buffer of zeros
pub rep_start : (K : Coding) (n : ℕ) → Rep K n (zeros n) (λ ℓ. 0) []
unfolding size look
rep_start K n = record {
  len = length-replicate n 0;
  enc = tt;
  fits = omega arith;
  few = omega arith;
  thr = λ ℓ. record { at = []; chain = refl; once = tt; is = λ p. refl; short = omega arith };
  clean = λ q l. no_word n q;
}

-- ---- no list, no label

empty_list : (ws : List ℕ) (h : ℕ) (l : List ℕ) → Chain ws h l → h ≡ 0 → l ≡ []
empty_list ws h [] c e = refl
empty_list ws h (p ∷ l) c e = absurd (omega (arith, c.0))

pub no_label : {ws : List ℕ} {c : Code} {ℓ h : ℕ} → Thr ws c ℓ h → h ≡ 0 → (p : ℕ) → is_l ℓ c p ≡ false
no_label {ws = ws} {h = h} t e p = sym (t.is p) ∙ rw (empty_list ws h t.at t.chain e) refl

-- an edit of a label without a list is none
pub edit_none : {K : Coding} {cap : ℕ} {ws : List ℕ} {H : ℕ → ℕ} {c : Code} (r : Rep K cap ws H c) (ℓ : ℕ) (a : Act) → H ℓ ≡ 0 → edit (one ℓ a) c ≡ c
edit_none {c = c} r ℓ a e = edit_absent ℓ a c (no_label (r.thr ℓ) e)

-- ---- an instruction on top

pub no_lab : (ℓ : ℕ) (i : Instr) → pend i ≡ false → is_lab ℓ i ≡ false
no_lab ℓ (pl w) h = refl
no_lab ℓ (br c (to p)) h = refl
no_lab ℓ (br c (lbl m)) h = bool_clash true refl h

module _ (F : Instr → Bool) (i : Instr) (c : Code) (h : F i ≡ false) where
  pub on_top : (p : ℕ) → look F (i ∷ c) p ≡ look F c p
  unfolding look
  on_top p = rw h (go (key p (size c) i) refl)
    where
      go : (t : Bool) → key p (size c) i ≡ t → pick t false (look F c p) ≡ look F c p
      go true e = sym (look_beyond F c p (omega (arith, (key_at p (size c) i e).0)))
      go false e = refl

  pub count_top : count F (i ∷ c) ≡ count F c
  unfolding count
  count_top = rw h (zero-add (count F c))

pub thr_top : {ws : List ℕ} (us : List ℕ) (i : Instr) {c : Code} {ℓ h : ℕ} → length us ≡ length ws → ((q : ℕ) → q < size c → word us q ≡ word ws q) → is_lab ℓ i ≡ false → Thr ws c ℓ h → Thr us (i ∷ c) ℓ h
thr_top {ws = ws} us i {c = c} {ℓ = ℓ} {h = h} n g z t = record {
  at = t.at;
  chain = chain_keep ws us h t.at n (λ q m j. g q (look_range (is_lab ℓ) c q (sym (t.is q) ∙ m))) t.chain;
  once = t.once;
  is = λ p. t.is p ∙ sym (on_top (is_lab ℓ) i c z p);
  short = rw (count_top (is_lab ℓ) i c z) t.short;
}

module _ {K : Coding} {cap : ℕ} {ws : List ℕ} {H : ℕ → ℕ} {c : Code} (us : List ℕ) (i : Instr) (n : length us ≡ length ws) (g : (q : ℕ) → q < size c → word us q ≡ word ws q)
    (room : width i + size c ≤ cap) (few : width i + size c ≤ max_words) (e : EncI K us (size c) i) (behind : (q : ℕ) → width i + size c ≤ q → word us q ≡ 0) (r : Rep K cap ws H c) where
  -- one that waits for nothing
  pub rep_plain : pend i ≡ false → Rep K cap us H (i ∷ c)
  unfolding size
  rep_plain z = record {
    len = n ∙ r.len;
    enc = (e, enc_agree K ws us c g r.enc);
    fits = room;
    few = few;
    thr = λ ℓ. thr_top us i n g (no_lab ℓ i z) (r.thr ℓ);
    clean = behind;
  }

  -- a control word and its new Jmp, or a Jmp alone, under a label that has no list
  pub rep_pend : (k : Ctrl) (m : ℕ) → i ≡ br k (lbl m) → word us (jofs k + size c) ≡ new_j → H m ≡ 0 → Rep K cap us (set_h m (suc (jofs k + size c)) H) (i ∷ c)
  unfolding size look count
  rep_pend k m z w y = record { len = n ∙ r.len; enc = (e, enc_agree K ws us c g r.enc); fits = room; few = few; thr = λ ℓ. split ℓ (same ℓ m) refl; clean = behind }
    where
      kw : width i ≡ suc (jofs k)
      kw = rw z (cwidth_tail k)

      wide : jofs k + size c < length us
      wide = omega (arith, kw, r.len)

      last : next us (jofs k + size c) ≡ 0
      last = next_new us (jofs k + size c) w

      new_is : (p : ℕ) → mem p ((jofs k + size c) ∷ []) ≡ is_l m (i ∷ c) p
      new_is p = rw (z, same_refl m, no_label (r.thr m) y p) (go (same p (jofs k + size c)))
        where
          go : (t : Bool) → (t || false) ≡ pick t true false
          go true = refl
          go false = refl

      new_count : 1 ≤ count (is_lab m) (i ∷ c)
      new_count = rw (z, same_refl m) (omega arith)

      split : (ℓ : ℕ) (t : Bool) → same ℓ m ≡ t → Thr us (i ∷ c) ℓ (pick t (suc (jofs k + size c)) (H ℓ))
      split ℓ true q = rw (same_true ℓ m q) (record { at = (jofs k + size c) ∷ []; chain = (refl, wide, rw w (is_jmp _), last); once = (refl, tt); is = new_is; short = new_count })
      split ℓ false q = thr_top us i n g (rw z (same_ne m ℓ (λ x. same_false ℓ m q (sym x)))) (r.thr ℓ)

-- ---- the words after emission: n is the place, j the list of the pending jumps

-- `discharge_jpc`
abbrev pub discharged : List ℕ → ℕ → ℕ → List ℕ
discharged ws n j = patch_list_aux (length ws) ws j n no_reg n

-- `emit`
abbrev pub emitted : List ℕ → ℕ → ℕ → ℕ → List ℕ
emitted ws n j w = set (discharged ws n j) n w

-- a control word, then `emit_jump`, to which no jump is pending
abbrev pub emitted_pair : List ℕ → ℕ → ℕ → ℕ → List ℕ
emitted_pair ws n j w = set (emitted ws n j w) (1 + n) new_j

-- `emit_jump`, difference 1
abbrev pub emitted_jump : List ℕ → ℕ → ℕ → List ℕ
emitted_jump ws n j = linked (set (remove_values (length ws) ws j) n new_j) (suc n) j

pub opt_none : opt_r no_reg ≡ none
opt_none = rw (same_refl no_reg) refl

module _ {K : Coding} {cap : ℕ} {ws : List ℕ} {H : ℕ → ℕ} {c : Code} (r : Rep K cap ws H c) where
  -- `emit_jump`, difference 1
  module _ (m : ℕ) (nz : m ≡ 0 → ⊥) (fresh : H m ≡ 0) (room : size c < cap) (few : size c < max_words) where
    abbrev c₁ : Code
    c₁ = edit (one 0 (re 0 true)) c

    abbrev ws₁ : List ℕ
    ws₁ = remove_values (length ws) ws (H 0)

    abbrev us₁ : List ℕ
    us₁ = set ws₁ (size c) new_j

    sz : size c₁ ≡ size c
    sz = size_edit (one 0 (re 0 true)) c

    new : Rep K cap us₁ (set_h m (suc (size c)) H) (br always (lbl m) ∷ c₁)
    new =
        let top : word us₁ (size c) ≡ new_j = word_same ws₁ (size c) new_j (omega (arith, (rep_strip r 0).len)) in
        rw (sz, zero-add (size c)) at (rep_pend us₁ (br always (lbl m)) (length-set ws₁ (size c) new_j) (λ q l. word_other ws₁ (size c) q new_j (λ y. omega (arith, sz)))
        (omega (arith, sz)) (omega (arith, sz)) (tt, (rw (sz, zero-add (size c), top) (is_jmp _), tt))
        (λ q l. word_other ws₁ (size c) q new_j (λ y. omega (arith, sz)) ∙ (rep_strip r 0).clean q (omega (arith, sz))) (rep_strip r 0) always m refl (rw (sz, zero-add (size c)) top) fresh)

    heads : (ℓ : ℕ) → set_h m (suc (size c)) (set_h 0 0 (set_h m (suc (size c)) H)) ℓ ≡ set_h m (suc (size c)) (set_h 0 0 H) ℓ
    heads ℓ = go (same ℓ m)
      where
        go : (t : Bool) → pick t (suc (size c)) (pick (same ℓ 0) 0 (pick t (suc (size c)) (H ℓ))) ≡ pick t (suc (size c)) (pick (same ℓ 0) 0 (H ℓ))
        go true = refl
        go false = refl

    pub rep_emit_jump : Rep K cap (emitted_jump ws (size c) (H 0)) (set_h m (suc (size c)) (set_h 0 0 H)) (br always (lbl m) ∷ edit (one 0 (re m true)) c)
    unfolding edit
    rep_emit_jump =
        let z : same 0 m ≡ false = same_ne 0 m (λ y. nz (sym y)) in
        let y : same m 0 ≡ false = same_ne m 0 nz in
        rep_heads (set_h m (suc (size c)) (set_h 0 0 H)) heads
        (rw (same_refl m, z, y, edit_fuse (one 0 (re m false)) (one 0 (re 0 true)) (one 0 (re m true)) (strip_then 0 m) c) at
        (rep_concat new 0 m (λ q. nz (sym q))))
