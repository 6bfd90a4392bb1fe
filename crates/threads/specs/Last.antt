-- The last instruction: another word in its place (A set, `LoadNil` lengthened, the B of `Concat`), the comparison of `invertjump`, and a word taken back (`Not`).
-- No list sees the word that changes, and a word taken back is zero.
use Prim.Native.Nat.{ℕ, ◌+◌, ◌%◌, ◌≤◌, ◌<◌}
use Rattle.std.specs.Prelude.{Bool, true, false, not, ◌≡◌, length, eqb}
use Rattle.std.proofs.Math.Path.{refl}
use Rattle.std.proofs.Common.{sym, ◌∙◌, arith}
use mathlib.Core.List.{List, ◌∷◌}
use Rattle.std.proofs.Math.ListN.{set, length-set}
use Rattle.instructions.specs.Limits.{max_words, a_size}
use Rattle.instructions.specs.Word.{a_of, set_a_of, abc_of}
use Rattle.instructions.specs.Laws.{a_abc, set_a_abc}
use Rattle.model.specs.Values.{StepKind}
use Rattle.model.specs.Jumps.{word, get_jump_control}
use Rattle.model.specs.Conditions.{bit}
use Rattle.labelled.specs.Code.{Rk, same, same_ne, same_true, same_false, cmp, lbl, PW, mark, Instr, pl, br, pwidth, width, Code, size}
use Rattle.threads.specs.Words.{word_same, word_other}
use Rattle.threads.specs.Places.{key, is_lab, is_l, look, look_beyond, look_range, mem, count}
use Rattle.threads.specs.Encoding.{comparison, comparison_tests, Coding, pend, EncI, enc_agree}
use Rattle.threads.specs.Turns.{ctl_pair, tests}
use Rattle.threads.specs.Chains.{bool_clash, chain_keep}
use Rattle.threads.specs.Represents.{Thr, Rep}
use Rattle.threads.specs.Emitting.{no_lab, on_top, count_top, thr_top, rep_plain}

-- a mark has no word
pub rep_mark : {K : Coding} {cap : ℕ} {ws : List ℕ} {H : ℕ → ℕ} {c : Code} → K.plain ws (size c) mark → Rep K cap ws H c → Rep K cap ws H (pl mark ∷ c)
rep_mark {ws = ws} e r = rep_plain ws (pl mark) refl (λ q l. refl) (omega (arith, r.fits)) (omega (arith, r.few)) e (λ q l. r.clean q (omega arith)) r refl

-- the first word of the last instruction, which has one, changed, no jump touched
module _ {K : Coding} {cap : ℕ} {ws : List ℕ} {H : ℕ → ℕ} {c : Code} (us : List ℕ) (i j : Instr) (n : length us ≡ length ws) (g : (q : ℕ) → (q ≡ size c → ⊥) → word us q ≡ word ws q)
    (wide : width j ≡ width i) (keys : (p n : ℕ) → key p n j ≡ key p n i) (labs : (ℓ : ℕ) → is_lab ℓ j ≡ is_lab ℓ i) (free : (ℓ : ℕ) → is_l ℓ (i ∷ c) (size c) ≡ false) (some : 1 ≤ width i) (e : EncI K us (size c) j) where
  pub rep_last : Rep K cap ws H (i ∷ c) → Rep K cap us H (j ∷ c)
  unfolding size look count
  rep_last r = record {
    len = n ∙ r.len;
    enc = (e, enc_agree K ws us c (λ q l. g q (λ z. omega arith)) r.enc.1);
    fits = omega (arith, r.fits);
    few = omega (arith, r.few);
    thr = λ ℓ. record {
      at = (r.thr ℓ).at;
      chain = chain_keep ws us (H ℓ) (r.thr ℓ).at n (λ q m y. g q (λ z. bool_clash (is_l ℓ (i ∷ c) (size c)) (rw z at (sym ((r.thr ℓ).is q) ∙ m)) (free ℓ))) (r.thr ℓ).chain;
      once = (r.thr ℓ).once;
      is = λ p. (r.thr ℓ).is p ∙ rw (labs ℓ, keys p (size c)) refl;
      short = rw (labs ℓ) (r.thr ℓ).short;
    };
    clean = λ q l. g q (λ z. omega arith) ∙ r.clean q (omega arith);
  }

-- without an instruction that waits for nothing
thr_pop : {ws : List ℕ} (us : List ℕ) {c : Code} {i : Instr} {ℓ h : ℕ} → length us ≡ length ws → ((q : ℕ) → q < size c → word us q ≡ word ws q) → pend i ≡ false → Thr ws (i ∷ c) ℓ h → Thr us c ℓ h
thr_pop {ws = ws} us {c = c} {i = i} {ℓ = ℓ} {h = h} n g z t = record {
  at = t.at;
  chain = chain_keep ws us h t.at n (λ q m j. g q (look_range (is_lab ℓ) c q (sym (is q) ∙ m))) t.chain;
  once = t.once;
  is = is;
  short = rw (count_top (is_lab ℓ) i c (no_lab ℓ i z)) at t.short;
}
  where
    is : (p : ℕ) → mem p t.at ≡ is_l ℓ c p
    is p = t.is p ∙ on_top (is_lab ℓ) i c (no_lab ℓ i z) p

-- other words for it and others after it, as a call takes over the words that make its open list
pub rep_instead : {K : Coding} {cap : ℕ} {ws : List ℕ} {H : ℕ → ℕ} {c : Code} {i : Instr} (us : List ℕ) (j : Instr) → pend i ≡ false → pend j ≡ false → length us ≡ length ws → ((q : ℕ) → q < size c → word us q ≡ word ws q) →
    width j + size c ≤ cap → width j + size c ≤ max_words → EncI K us (size c) j → ((q : ℕ) → width j + size c ≤ q → word us q ≡ 0) → Rep K cap ws H (i ∷ c) → Rep K cap us H (j ∷ c)
unfolding size
rep_instead {K = K} {ws = ws} {c = c} us j zi zj n g room few e behind r = record {
  len = n ∙ r.len;
  enc = (e, enc_agree K ws us c g r.enc.1);
  fits = room;
  few = few;
  thr = λ ℓ. thr_top us j refl (λ q l. refl) (no_lab ℓ j zj) (thr_pop us n g zi (r.thr ℓ));
  clean = behind;
}

free_plain : (i : Instr) (c : Code) (ℓ : ℕ) → pend i ≡ false → is_l ℓ (i ∷ c) (size c) ≡ false
free_plain i c ℓ z = on_top (is_lab ℓ) i c (no_lab ℓ i z) (size c) ∙ look_beyond (is_lab ℓ) c (size c) (omega arith)

-- `invertjump`, of the Jmp at p: A := (A == 0)
abbrev pub inverted : List ℕ → ℕ → List ℕ
inverted ws p = set ws (get_jump_control ws p) (set_a_of (word ws (get_jump_control ws p)) (bit (eqb (a_of (word ws (get_jump_control ws p))) 0)))

flip : (k : Bool) → bit (eqb (bit k % a_size) 0) ≡ bit (not k)
flip true = refl
flip false = refl

pub rep_invert : {K : Coding} {cap : ℕ} {ws : List ℕ} {H : ℕ → ℕ} {c : Code} {o : StepKind} {k : Bool} {x y : Rk} {ℓ : ℕ} → Rep K cap ws H (br (cmp o k x y) (lbl ℓ) ∷ c) →
    Rep K cap (inverted ws (1 + size c)) H (br (cmp o (not k) x y) (lbl ℓ) ∷ c)
unfolding size look
rep_invert {K = K} {ws = ws} {c = c} {o = o} {k = k} {x = x} {y = y} {ℓ = ℓ} r = rw at_c (rep_last us (br (cmp o k x y) (lbl ℓ)) (br (cmp o (not k) x y) (lbl ℓ)) (length-set ws (size c) v) (λ q z. word_other ws (size c) q v z)
    refl (λ q m. refl) (λ m. refl) free (omega arith) ((u₀, v₀, new, r.enc.0.0.3, r.enc.0.0.4, r.enc.0.0.5), (rw (word_other ws (size c) (1 + size c) v (λ z. omega arith)) r.enc.0.1.0, tt)) r)
  where
    u₀ : ℕ
    u₀ = r.enc.0.0.0

    v₀ : ℕ
    v₀ = r.enc.0.0.1

    h : word ws (size c) ≡ abc_of (comparison o) (bit k) u₀ v₀
    h = r.enc.0.0.2

    at_c : get_jump_control ws (1 + size c) ≡ size c
    at_c = ctl_pair ws (1 + size c) (size c) (omega arith) (tests (word ws (size c)) (comparison o) (bit k) u₀ v₀ h (comparison_tests o))

    v : ℕ
    v = set_a_of (word ws (size c)) (bit (eqb (a_of (word ws (size c))) 0))

    us : List ℕ
    us = set ws (size c) v

    new : word us (size c) ≡ abc_of (comparison o) (bit (not k)) u₀ v₀
    new = word_same ws (size c) v (omega (arith, r.fits, r.len)) ∙ rw (h, a_abc (comparison o) (bit k) u₀ v₀, flip k, set_a_abc (comparison o) (bit k) u₀ v₀ (bit (not k))) refl

    free : (m : ℕ) → is_l m (br (cmp o k x y) (lbl ℓ) ∷ c) (size c) ≡ false
    free m = rw (same_ne (size c) (1 + size c) (λ z. omega arith)) (look_beyond (is_lab m) c (size c) (omega arith))

module _ {K : Coding} {cap : ℕ} {ws : List ℕ} {H : ℕ → ℕ} {c : Code} {w : PW} (one : pwidth w ≡ 1) (r : Rep K cap ws H (pl w ∷ c)) where
  -- another word in its place
  pub rep_replace : (u : PW) (v : ℕ) → pwidth u ≡ 1 → K.plain (set ws (size c) v) (size c) u → Rep K cap (set ws (size c) v) H (pl u ∷ c)
  rep_replace u v o e = rep_last (set ws (size c) v) (pl w) (pl u) (length-set ws (size c) v) (λ q z. word_other ws (size c) q v z) (o ∙ sym one) (λ p n. refl) (λ ℓ. refl)
      (λ ℓ. free_plain (pl w) c ℓ refl) (omega (arith, one)) e r

  -- `pop`: the word is zero again
  pub rep_taken : Rep K cap (set ws (size c) 0) H c
  unfolding size
  rep_taken = record {
    len = length-set ws (size c) 0 ∙ r.len;
    enc = enc_agree K ws us c agree r.enc.1;
    fits = omega (arith, r.fits);
    few = omega (arith, r.few);
    thr = λ ℓ. thr_pop us (length-set ws (size c) 0) agree refl (r.thr ℓ);
    clean = λ q l. gone q l (same q (size c)) refl;
  }
    where
      us : List ℕ
      us = set ws (size c) 0

      agree : (q : ℕ) → q < size c → word us q ≡ word ws q
      agree q l = word_other ws (size c) q 0 (λ z. omega arith)

      gone : (q : ℕ) → size c ≤ q → (t : Bool) → same q (size c) ≡ t → word us q ≡ 0
      gone q l true e = rw (same_true q (size c) e) (word_same ws (size c) 0 (omega (arith, r.fits, r.len)))
      gone q l false e = word_other ws (size c) q 0 (same_false q (size c) e) ∙ r.clean q (omega (arith, same_false q (size c) e))
