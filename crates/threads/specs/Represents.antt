-- The representation: words and list heads represent labelled code where the words encode it and each label's places are a chain from its head. The fuel of a walk never runs out,
-- since a chain is no longer than the code; and on represented code `patch_list_aux`, `remove_values` and `concat_jumps` are the edits land, re and relabel of one label.
-- What rests on something that a must-fail edit breaks stands in proofs/Represents.antt.
use Rattle.std.specs.Prelude.{ℕ, ◌≤◌, ◌<◌, Bool, ◌||◌, ◌≡◌, refl, length}
use Rattle.std.proofs.Math.Bool.{true, false, or_comm}
use Rattle.std.proofs.Common.{sym, ◌∙◌, arith, length-append}
use mathlib.Core.List.{List, [], ◌∷◌, ◌++◌}
use Rattle.instructions.specs.Limits.{max_words, no_reg}
use Rattle.model.specs.Jumps.{word, concat_jumps, linked, remove_values, patch_list_aux}
use Rattle.labelled.specs.Code.{same, same_refl, same_ne, same_true, same_false, to, lbl, Instr, pl, br, Code, size, Act, keep, land, re, edit, ed1, ed_br}
use Rattle.threads.specs.Words.{patch_at, patch_walk, jumped_off, len_jump}
use Rattle.threads.specs.Places.{ed_i, is_lab, is_l, at_pos, all_pos, mem, count, count_size, all_edit, size_at_pos, width_ed_i, key_ed_i, look_edit, look_or, look_imp, look_apart, look_range, look_none, look_other, count_edit, count_or, lab_re, lab_land, lab_apart, lab_off, lab_gone, lab_kept, lab_both}
use Rattle.threads.specs.Encoding.{Coding, pend, is_p, lab_pend, EncI, Enc}
use Rattle.threads.specs.Turns.{opt_r, ret_jump, len_ret, patch_keeps, len_patch, ret_behind, strip_step, link_step}
use Rattle.threads.specs.Chains.{bool_clash, NoDup, Chain, Apart, Small, mem_append, nodup_append, chain_in, fold, walk_fold, len_fold, fold_chain, fold_behind, fold_stays, strip_at, strip_fold, jump_chain, join_chain, Joined, stays, sent, join_how, or_true_r}
use Rattle.labelled.specs.Machine.{pick}
use Rattle.labelled.specs.Emission.{one}
use Rattle.labelled.specs.Edits.{size_edit}

-- one label's list: its places in the order of the list, from the head h
pub record Thr (ws : List ℕ) (c : Code) (ℓ h : ℕ) : Type 0 where
  pub at : List ℕ
  pub chain : Chain ws h at
  pub once : NoDup at
  pub is : (p : ℕ) → mem p at ≡ is_l ℓ c p
  pub short : length at ≤ count (is_lab ℓ) c

-- another head for one label
abbrev pub set_h : ℕ → ℕ → (ℕ → ℕ) → ℕ → ℕ
set_h a x H ℓ = pick (same ℓ a) x (H ℓ)

-- words of a buffer of cap words, with a head for every label (0 where it has no jump), represent labelled code; behind it they are zero
pub record Rep (K : Coding) (cap : ℕ) (ws : List ℕ) (H : ℕ → ℕ) (c : Code) : Type 0 where
  pub len : length ws ≡ cap
  pub enc : Enc K ws c
  pub fits : size c ≤ cap
  pub few : size c ≤ max_words
  pub thr : (ℓ : ℕ) → Thr ws c ℓ (H ℓ)
  pub clean : (q : ℕ) → size c ≤ q → word ws q ≡ 0

-- ---- threads

-- a label that no jump has
pub bare : (ws : List ℕ) (c : Code) (ℓ : ℕ) → ((p : ℕ) → is_l ℓ c p ≡ false) → Thr ws c ℓ 0
bare ws c ℓ n = record { at = []; chain = refl; once = tt; is = λ p. sym (n p); short = omega arith }

module _ {ws : List ℕ} {c : Code} {a g : ℕ} (s : Thr ws c a g) where
  -- threads of two labels share no place
  apart : {b h : ℕ} (t : Thr ws c b h) → (a ≡ b → ⊥) → Apart s.at t.at
  apart {b = b} t n q m = t.is q ∙ look_apart (is_lab a) (is_lab b) (lab_apart a b n) c q (sym (s.is q) ∙ m)

  small : size c ≤ max_words → Small s.at
  small f q m = omega (arith, look_range (is_lab a) c q (sym (s.is q) ∙ m))

  pub below : (q : ℕ) → size c ≤ q → (p : ℕ) → mem p s.at ≡ true → p < q
  below q l p m = omega (arith, look_range (is_lab a) c p (sym (s.is p) ∙ m))

  pub pended : (p : ℕ) → mem p s.at ≡ true → is_p c p ≡ true
  pended p m = look_imp (is_lab a) pend (lab_pend a) c p (sym (s.is p) ∙ m)

  -- after an edit of another label
  thr_other : (us : List ℕ) (e : ℕ → Act) → ((i : Instr) → is_lab a (ed1 e i) ≡ is_lab a i) → Chain us g s.at → Thr us (edit e c) a g
  thr_other us e q k = record {
    at = s.at;
    chain = k;
    once = s.once;
    is = λ p. s.is p ∙ sym (look_edit (is_lab a) (is_lab a) e q c p);
    short = rw (count_edit (is_lab a) (is_lab a) e q c) s.short;
  }

-- the words after a walk
module _ (K : Coding) (a : Act) (f : List ℕ → ℕ → List ℕ) (len : (ws : List ℕ) (p : ℕ) → length (f ws p) ≡ length ws)
    (Ok : ℕ → Type 0) (step : (ws : List ℕ) (p : ℕ) → p < length ws → Ok p → (c : Code) → Enc K ws c → is_p c p ≡ true → Enc K (f ws p) (at_pos (ed_i a) p c)) where
  pub fold_enc : (l : List ℕ) (ws : List ℕ) (c : Code) → size c ≤ length ws → NoDup l → ((p : ℕ) → mem p l ≡ true → is_p c p ≡ true) → ((p : ℕ) → mem p l ≡ true → Ok p) → Enc K ws c → Enc K (fold f l ws) (all_pos (ed_i a) l c)
  unfolding fold all_pos
  fold_enc [] ws c z n q o h = h
  fold_enc (p ∷ l) ws c z n q o h = fold_enc l (f ws p) (at_pos (ed_i a) p c) (omega (arith, len ws p, size_at_pos (ed_i a) (width_ed_i a) p c)) n.1
      (λ r m. look_other pend (ed_i a) (width_ed_i a) (key_ed_i a) p r c (λ e. bool_clash (mem p l) (rw e at m) n.0) ∙ q r (or_true_r (same r p) (mem r l) m))
      (λ r m. o r (or_true_r (same r p) (mem r l) m))
      (step ws p (omega (arith, look_range pend c p (q p (rw (same_refl p) refl)))) (o p (rw (same_refl p) refl)) c h (q p (rw (same_refl p) refl)))

-- ---- the operations

module _ {K : Coding} {cap : ℕ} {ws : List ℕ} {H : ℕ → ℕ} {c : Code} (r : Rep K cap ws H c) where
  -- the fuel: a thread is no longer than the buffer
  pub fuel : (ℓ : ℕ) → length (r.thr ℓ).at ≤ length ws
  fuel ℓ = omega (arith, (r.thr ℓ).short, count_size ℓ c, r.fits, r.len)

  -- patch_list_aux ⇒ edit with land
  module _ (a v reg d : ℕ) (ok : reg ≤ no_reg) (vb : v ≤ max_words) (db : d ≤ max_words) (fwd : (p : ℕ) → is_l a c p ≡ true → (p < v) × (p < d)) where
    abbrev pact : Act
    pact = land v (opt_r reg) d

    abbrev pws : List ℕ
    pws = patch_list_aux (length ws) ws (H a) v reg d

    pub walked : pws ≡ fold (patch_at v reg d) (r.thr a).at ws
    walked = patch_walk v reg d (length ws) ws (H a) ∙ walk_fold (patch_at v reg d) (len_patch v reg d) (patch_keeps v reg d) (length ws) ws (H a) (r.thr a).at (r.thr a).chain (r.thr a).once (fuel a)

    pub patch_thr : (ℓ : ℕ) (t : Bool) → same ℓ a ≡ t → Thr (fold (patch_at v reg d) (r.thr a).at ws) (edit (one a pact) c) ℓ (pick t 0 (H ℓ))
    patch_thr ℓ true e = bare _ (edit (one a pact) c) ℓ (λ p. rw (same_true ℓ a e)
        (look_edit (is_lab a) (λ i. false) (one a pact) (λ i. lab_land a v d (opt_r reg) a i ∙ lab_gone a i) c p ∙ look_none c p))
    patch_thr ℓ false e = let ne : a ≡ ℓ → ⊥ = λ z. same_false ℓ a e (sym z) in
        thr_other (r.thr ℓ) _ (one a pact) (λ i. lab_land a v d (opt_r reg) ℓ i ∙ lab_off a ℓ ne i)
        (fold_chain (patch_at v reg d) (len_patch v reg d) (patch_keeps v reg d) (r.thr a).at ws (H ℓ) (r.thr ℓ).at (apart (r.thr a) (r.thr ℓ) ne) (r.thr ℓ).chain)

  -- remove_values ⇒ edit with re a true
  module _ (a : ℕ) where
    abbrev sws : List ℕ
    sws = remove_values (length ws) ws (H a)

    s_walked : sws ≡ fold strip_at (r.thr a).at ws
    s_walked = strip_fold (length ws) ws (H a) (r.thr a).at (r.thr a).chain (fuel a)

    strip_lab : (ℓ : ℕ) (t : Bool) → same ℓ a ≡ t → (i : Instr) → is_lab ℓ (ed1 (one a (re a true)) i) ≡ is_lab ℓ i
    strip_lab ℓ true e i = rw (same_true ℓ a e) (lab_re a a true a i ∙ rw (same_refl a) (lab_kept a i))
    strip_lab ℓ false e i = lab_re a a true ℓ i ∙ rw (same_ne a ℓ (λ z. same_false ℓ a e (sym z))) (lab_off a ℓ (λ z. same_false ℓ a e (sym z)) i)

    pub rep_strip : Rep K cap sws H (edit (one a (re a true)) c)
    rep_strip = rw s_walked (record {
      enc = rw (all_edit a (re a true) (r.thr a).at c (λ p q. (r.thr a).is p)) at (fold_enc K (re a true) strip_at (λ us p. len_ret us p no_reg) (λ p. Unit {0}) (λ us p l o. strip_step K a us p l) (r.thr a).at ws c (omega (arith, r.fits, r.len)) (r.thr a).once (pended (r.thr a)) (λ p m. tt) r.enc);
      len = len_fold strip_at (λ us p. len_ret us p no_reg) (λ us p q j n. ret_jump us p no_reg q j) (r.thr a).at ws ∙ r.len;
      fits = omega (arith, size_edit (one a (re a true)) c, r.fits);
      few = omega (arith, size_edit (one a (re a true)) c, r.few);
      thr = λ ℓ. thr_other (r.thr ℓ) _ (one a (re a true)) (strip_lab ℓ (same ℓ a) refl)
          (fold_stays strip_at (λ us p. len_ret us p no_reg) (λ us p q j. ret_jump us p no_reg q j) (r.thr a).at ws (H ℓ) (r.thr ℓ).at (r.thr ℓ).chain);
      clean = λ q l. let h : size c ≤ q = omega (arith, size_edit (one a (re a true)) c) in fold_behind strip_at (ret_behind no_reg) (r.thr a).at ws q (below (r.thr a) q h) ∙ r.clean q h;
    })

  -- concat_jumps(x, y), called b afterwards ⇒ relabel a b, where {a, b} is {x, y}
  module _ (x y a b : ℕ) (xy : x ≡ y → ⊥) (ab : a ≡ b → ⊥) (both : (i : Instr) → pick (is_lab a i) true (is_lab b i) ≡ (is_lab x i || is_lab y i))
      (off : (ℓ : ℕ) → (ℓ ≡ a → ⊥) → (ℓ ≡ b → ⊥) → ℓ ≡ x → ⊥) where
    abbrev jact : ℕ → Act
    jact = one a (re b false)

    abbrev jws : List ℕ
    jws = linked ws (H x) (H y)

    how : Joined ws jws (r.thr x).at
    how = join_how ws (H x) (H y) (r.thr x).at (r.thr y).at (r.thr x).chain (r.thr y).chain (fuel x)

    join_enc : (us : List ℕ) → Joined ws us (r.thr x).at → Enc K us c
    join_enc us (stays e) = rw e r.enc
    join_enc us (sent p t m e) = rw e (link_step K t ws p (chain_in ws (H x) (r.thr x).at p (r.thr x).chain m) c r.enc (pended (r.thr x) p m))

    join_len : (us : List ℕ) → Joined ws us (r.thr x).at → length us ≡ length ws
    join_len us (stays e) = rw e refl
    join_len us (sent p t m e) = rw e (len_jump ws p t)

    join_behind : (us : List ℕ) → Joined ws us (r.thr x).at → (q : ℕ) → size c ≤ q → word us q ≡ word ws q
    join_behind us (stays e) q l = rw e refl
    join_behind us (sent p t m e) q l = rw e (jumped_off ws p t q (λ z. omega (arith, below (r.thr x) q l p m)))

    join_other : (ℓ : ℕ) → (ℓ ≡ x → ⊥) → (us : List ℕ) → Joined ws us (r.thr x).at → Chain us (H ℓ) (r.thr ℓ).at
    join_other ℓ n us (stays e) = rw e (r.thr ℓ).chain
    join_other ℓ n us (sent p t m e) = rw e (jump_chain ws p t (H ℓ) (r.thr ℓ).at (apart (r.thr x) (r.thr ℓ) (λ z. n (sym z)) p m) (r.thr ℓ).chain)

    merged : (i : Instr) → is_lab b (ed1 jact i) ≡ (is_lab x i || is_lab y i)
    merged i = lab_re a b false b i ∙ rw (same_refl b) (both i)

    join_thr : (ℓ : ℕ) (s t : Bool) → same ℓ b ≡ s → same ℓ a ≡ t → Thr jws (edit jact c) ℓ (pick s (concat_jumps (H x) (H y)) (pick t 0 (H ℓ)))
    join_thr ℓ true t e f = rw (same_true ℓ b e) (record {
      at = (r.thr x).at ++ (r.thr y).at;
      chain = join_chain ws (H x) (H y) (r.thr x).at (r.thr y).at (small (r.thr x) r.few) (small (r.thr y) r.few) (r.thr x).chain (r.thr x).once (r.thr y).chain
          (apart (r.thr x) (r.thr y) xy) (fuel x);
      once = nodup_append (r.thr x).at (r.thr y).at (r.thr x).once (r.thr y).once (apart (r.thr x) (r.thr y) xy);
      is = λ p. mem_append p (r.thr x).at (r.thr y).at ∙ rw ((r.thr x).is p, (r.thr y).is p) (sym (look_or (is_lab x) (is_lab y) c p)) ∙ sym (look_edit (is_lab b) (λ i. is_lab x i || is_lab y i) jact merged c p);
      short = rw (count_edit (is_lab b) (λ i. is_lab x i || is_lab y i) jact merged c, count_or (is_lab x) (is_lab y) (lab_apart x y xy) c, length-append (r.thr x).at (r.thr y).at) (omega (arith, (r.thr x).short, (r.thr y).short));
    })
    join_thr ℓ false true e f = bare jws (edit jact c) ℓ (λ p. rw (same_true ℓ a f)
        (look_edit (is_lab a) (λ i. false) jact (λ i. lab_re a b false a i ∙ rw (same_ne b a (λ z. ab (sym z))) (lab_gone a i)) c p ∙ look_none c p))
    join_thr ℓ false false e f = thr_other (r.thr ℓ) jws jact (λ i. lab_re a b false ℓ i ∙ rw (same_ne b ℓ (λ z. same_false ℓ b e (sym z))) (lab_off a ℓ (λ z. same_false ℓ a f (sym z)) i))
        (join_other ℓ (off ℓ (same_false ℓ a f) (same_false ℓ b e)) jws how)

    enc_relabel : (c : Code) (us : List ℕ) → Enc K us c → Enc K us (edit jact c)
    unfolding edit
    enc_relabel [] us h = tt
    enc_relabel (i ∷ c) us h = (rw (size_edit jact c) (one_i i h.0), enc_relabel c us h.1)
      where
        one_i : (i : Instr) → EncI K us (size c) i → EncI K us (size c) (ed1 jact i)
        one_i (pl w) h = h
        one_i (br k (to u)) h = h
        one_i (br k (lbl m)) h = go (same m a)
          where
            go : (t : Bool) → EncI K us (size c) (ed_br (pick t (re b false) keep) k m)
            go true = h
            go false = h

    pub rep_join : Rep K cap jws (set_h b (concat_jumps (H x) (H y)) (set_h a 0 H)) (edit jact c)
    rep_join = record {
      enc = enc_relabel c jws (join_enc jws how);
      len = join_len jws how ∙ r.len;
      fits = omega (arith, size_edit jact c, r.fits);
      few = omega (arith, size_edit jact c, r.few);
      thr = λ ℓ. join_thr ℓ (same ℓ b) (same ℓ a) refl refl;
      clean = λ q l. let h : size c ≤ q = omega (arith, size_edit jact c) in join_behind jws how q h ∙ r.clean q h;
    }

  -- concat_jumps(b, a): list a goes behind list b
  pub rep_concat : (a b : ℕ) → (a ≡ b → ⊥) → Rep K cap (linked ws (H b) (H a)) (set_h b (concat_jumps (H b) (H a)) (set_h a 0 H)) (edit (one a (re b false)) c)
  rep_concat a b n = rep_join b a a b (λ z. n (sym z)) n (λ i. lab_both a b i ∙ or_comm (is_lab a i) (is_lab b i)) (λ ℓ p q. q)
