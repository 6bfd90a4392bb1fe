-- The turns of the walks, each a change of one pending jump's instruction: `patch_list_aux` lets it land, `remove_values` drops its value, and the link of `concat_jumps` is nothing to the code.
-- The control word of a jump is found by `prev_word`; what else a turn leaves alone is said by `ret_local` and `jumped_off`.
-- What rests on something that a must-fail edit breaks stands in proofs/Turns.antt.
use Rattle.std.specs.Prelude.{ℕ, zero, suc, ◌+◌, ◌%◌, ◌≤◌, ◌<◌, Bool, ◌||◌, length, set, eqb}
use Rattle.std.proofs.Math.Bool.{true, false}
use Rattle.std.proofs.Math.Path.{◌≡◌, refl}
use Rattle.std.proofs.Common.{ap, sym, ◌∙◌, arith, length-set, eqb-true}
use mathlib.Core.List.{List, [], ◌∷◌}
use Rattle.std.proofs.Math.Option.{Option, some, none}
use Rattle.std.proofs.Math.Nat.{mod-mod}
use Rattle.instructions.specs.Limits.{max_words, no_reg, b_size, c_size}
use Rattle.opcodes.specs.OpCodes.{code_of, test_mode}
use Rattle.instructions.specs.Word.{op_of, abc_of}
use Rattle.instructions.specs.Laws.{op_abc, b_abc, c_abc, opcode_abc, abc_same, set_a_abc}
use Rattle.opcodes.specs.declared.OpCode.{OpCode}
use Rattle.opcodes.specs.declared.OpCode.TheVariants.{Test, TestSet}
use Rattle.model.specs.Jumps.{word, is_op, get_jump_control, keeps_value, retest}
use Rattle.model.specs.Conditions.{bit}
use Rattle.labelled.specs.Code.{same, same_refl, same_false, Ctrl, always, test, tset, tseta, cmp, to, lbl, Instr, pl, br, Code, size, land, re, settest}
use Rattle.threads.specs.Words.{word_same, word_other, IsJ, is_jmp, op_jmp, jmp_to, jump_to, ret, ret_is, retest_is, patch_at, jumped, jumped_off, len_jump}
use Rattle.threads.specs.Places.{jofs, tail, key, ed_i, at_pos, width_ed_i}
use Rattle.threads.specs.Encoding.{is_test, comparison, comparison_tests, comparison_keeps_none, Coding, pend, is_p, Ctl, Open, EncI, Enc, local_step}
use Rattle.labelled.specs.Machine.{pick}

abbrev ctl : List ℕ → ℕ → ℕ
ctl ws p = get_jump_control ws p

abbrev is_set_w : ℕ → Bool
is_set_w w = is_op TestSet w

-- where the control word is
pub ctl_pair : (ws : List ℕ) (p n : ℕ) → p ≡ suc n → is_test (word ws n) ≡ true → ctl ws p ≡ n
unfolding get_jump_control
ctl_pair ws p n e h = rw (e, get_jump_control, h) refl

pub ctl_alone : (ws : List ℕ) (p : ℕ) → ((q : ℕ) → suc q ≡ p → is_test (word ws q) ≡ false) → ctl ws p ≡ p
unfolding get_jump_control
ctl_alone ws zero h = refl
ctl_alone ws (suc n) h = rw (get_jump_control, h n refl) refl

pub data CtlAt (ws : List ℕ) (p k : ℕ) : Type 0 where
  alone : k ≡ p → CtlAt ws p k
  before : suc k ≡ p → is_test (word ws k) ≡ true → CtlAt ws p k

pub ctl_at : (ws : List ℕ) (p : ℕ) → CtlAt ws p (ctl ws p)
unfolding get_jump_control
ctl_at ws zero = alone refl
ctl_at ws (suc n) = go (is_test (word ws n)) refl
  where
    go : (t : Bool) → is_test (word ws n) ≡ t → CtlAt ws (suc n) (elim t [ true ↦ n | false ↦ suc n ])
    go true e = before refl e
    go false e = alone refl

-- what a turn leaves alone
abbrev ret_b : Bool → List ℕ → ℕ → ℕ → List ℕ
ret_b t ws k reg = pick t (set ws k (retest reg (word ws k))) ws

ret_local_b : (ws : List ℕ) (p k reg : ℕ) (t : Bool) → CtlAt ws p k → (q : ℕ) → (q ≡ p → ⊥) → (suc q ≡ p → is_test (word ws q) ≡ false) → word (ret_b t ws k reg) q ≡ word ws q
ret_local_b ws p k reg false h q a b = refl
ret_local_b ws p k reg true (alone e) q a b = word_other ws k q (retest reg (word ws k)) (λ z. a (z ∙ e))
ret_local_b ws p k reg true (before e f) q a b = word_other ws k q (retest reg (word ws k)) (λ z. absurd (let y : true ≡ false = sym f ∙ ap (λ (m : ℕ). is_test (word ws m)) (sym z) ∙ b (ap suc z ∙ e) in let w : ◌≡◌ {A = ℕ} 0 1 = cc in omega arith))

pub ret_local : (ws : List ℕ) (p reg : ℕ) (q : ℕ) → (q ≡ p → ⊥) → (suc q ≡ p → is_test (word ws q) ≡ false) → word (ret ws p reg) q ≡ word ws q
ret_local ws p reg q a b = rw (ret_is ws p reg) (ret_local_b ws p (ctl ws p) reg (keeps_value ws (suc p)) (ctl_at ws p) q a b)

pub len_ret : (ws : List ℕ) (p reg : ℕ) → length (ret ws p reg) ≡ length ws
len_ret ws p reg = rw (ret_is ws p reg) (go (keeps_value ws (suc p)))
  where
    go : (t : Bool) → length (ret_b t ws (ctl ws p) reg) ≡ length ws
    go true = length-set ws (ctl ws p) (retest reg (word ws (ctl ws p)))
    go false = refl

-- a Jmp stays
pub ret_jump : (ws : List ℕ) (p reg q : ℕ) → IsJ (word ws q) → word (ret ws p reg) q ≡ word ws q
ret_jump ws p reg q h = rw (ret_is ws p reg) (go (keeps_value ws (suc p)) refl)
  where
    go : (t : Bool) → keeps_value ws (suc p) ≡ t → word (ret_b t ws (ctl ws p) reg) q ≡ word ws q
    go false e = refl
    go true e = word_other ws (ctl ws p) q (retest reg (word ws (ctl ws p)))
        (λ z. let y : op_of (word ws q) ≡ 27 = rw (← z) at (eqb-true (op_of (word ws (ctl ws p))) 27 e) in omega (arith, op_jmp (word ws q) h))

pub patch_keeps : (v reg d : ℕ) (ws : List ℕ) (p q : ℕ) → IsJ (word ws q) → (q ≡ p → ⊥) → word (patch_at v reg d ws p) q ≡ word ws q
patch_keeps v reg d ws p q h a = jumped_off (ret ws p reg) p _ q a ∙ ret_jump ws p reg q h

pub patch_local : (v reg d : ℕ) (ws : List ℕ) (p q : ℕ) → (q ≡ p → ⊥) → (suc q ≡ p → is_test (word ws q) ≡ false) → word (patch_at v reg d ws p) q ≡ word ws q
patch_local v reg d ws p q a b = jumped_off (ret ws p reg) p _ q a ∙ ret_local ws p reg q a b

-- behind the Jmp nothing changes
pub ret_behind : (reg : ℕ) (ws : List ℕ) (p q : ℕ) → p < q → word (ret ws p reg) q ≡ word ws q
ret_behind reg ws p q h = ret_local ws p reg q (λ e. omega arith) (λ e. absurd (omega arith))

pub patch_behind : (v reg d : ℕ) (ws : List ℕ) (p q : ℕ) → p < q → word (patch_at v reg d ws p) q ≡ word ws q
patch_behind v reg d ws p q h = patch_local v reg d ws p q (λ e. omega arith) (λ e. absurd (omega arith))

pub len_patch : (v reg d : ℕ) (ws : List ℕ) (p : ℕ) → length (patch_at v reg d ws p) ≡ length ws
len_patch v reg d ws p = len_jump (ret ws p reg) p _ ∙ len_ret ws p reg

-- the option that a register number stands for
abbrev pub opt_r : ℕ → Option ℕ
opt_r r = pick (same r no_reg) none (some r)

-- the control word after a turn
pub retested : (reg b : ℕ) (k : Bool) → b < no_reg → retest reg (abc_of TestSet no_reg b (bit k)) ≡ pick (same reg no_reg || same reg b) (abc_of Test b 0 (bit k)) (abc_of TestSet reg b (bit k))
retested reg b k h =
    let e : b % b_size ≡ b = omega arith in
    retest_is reg (abc_of TestSet no_reg b (bit k)) ∙ rw (b_abc TestSet no_reg b (bit k), c_abc TestSet no_reg b (bit k), set_a_abc TestSet no_reg b (bit k) reg, e, abc_same Test b 0 (bit k % c_size) b 0 (bit k) refl refl (mod-mod (bit k) c_size)) refl

-- what is known of a control word
pub tests : (w : ℕ) (op : OpCode) (a b c : ℕ) → w ≡ abc_of op a b c → test_mode op ≡ true → is_test w ≡ true
tests w op a b c e h = rw (e, opcode_abc op a b c) h

pub sets : (w : ℕ) (op : OpCode) (a b c : ℕ) (t : Bool) → w ≡ abc_of op a b c → eqb (code_of op) (code_of TestSet) ≡ t → is_set_w w ≡ t
sets w op a b c t e h = rw (e, op_abc op a b c) h

pub jmp_sets_none : (w : ℕ) → IsJ w → is_set_w w ≡ false
jmp_sets_none w h = rw (op_jmp w h) refl

module _ (ws : List ℕ) where
  ret_no : (p reg k : ℕ) → ctl ws p ≡ k → is_set_w (word ws k) ≡ false → ret ws p reg ≡ ws
  ret_no p reg k e h = ret_is ws p reg ∙ rw (e, h) refl

  ret_yes : (p reg k : ℕ) → ctl ws p ≡ k → is_set_w (word ws k) ≡ true → ret ws p reg ≡ set ws k (retest reg (word ws k))
  ret_yes p reg k e h = ret_is ws p reg ∙ rw (e, h) refl

  patch_no : (v reg d p k : ℕ) → ctl ws p ≡ k → is_set_w (word ws k) ≡ false → patch_at v reg d ws p ≡ jump_to ws p d
  patch_no v reg d p k e h = rw (ret_no p reg k e h, e, h) refl

  patch_yes : (v reg d p k : ℕ) → ctl ws p ≡ k → is_set_w (word ws k) ≡ true → patch_at v reg d ws p ≡ jump_to (set ws k (retest reg (word ws k))) p v
  patch_yes v reg d p k e h = rw (ret_yes p reg k e h, e, h) refl

module _ (K : Coding) where
  -- ---- `patch_list_aux`

  module _ (v reg d : ℕ) (ws : List ℕ) (p : ℕ) (inside : p < length ws) (regs : reg ≤ no_reg) (pv : p < v) (pd : p < d) (vb : v ≤ max_words) (db : d ≤ max_words) where
    abbrev us : List ℕ
    us = patch_at v reg d ws p

    -- the three shapes
    lone : IsJ (word ws p) → ((q : ℕ) → suc q ≡ p → is_test (word ws q) ≡ false) → word us p ≡ jmp_to p d
    lone j f = rw (patch_no ws v reg d p p (ctl_alone ws p f) (jmp_sets_none (word ws p) j)) (jumped ws p d inside j)

    pair_no : (n : ℕ) → p ≡ suc n → is_test (word ws n) ≡ true → is_set_w (word ws n) ≡ false → IsJ (word ws p) → (word us n ≡ word ws n) × (word us p ≡ jmp_to p d)
    pair_no n e a b j = let g : us ≡ jump_to ws p d = patch_no ws v reg d p n (ctl_pair ws p n e a) b in
        (rw g (jumped_off ws p d n (λ z. omega arith)), rw g (jumped ws p d inside j))

    pair_set : (n : ℕ) → p ≡ suc n → is_test (word ws n) ≡ true → is_set_w (word ws n) ≡ true → IsJ (word ws p) → (word us n ≡ retest reg (word ws n)) × (word us p ≡ jmp_to p v)
    pair_set n e a b j =
        let x : ℕ = retest reg (word ws n) in
        let g : us ≡ jump_to (set ws n x) p v = patch_yes ws v reg d p n (ctl_pair ws p n e a) b in (
          rw g (jumped_off (set ws n x) p v n (λ z. omega arith) ∙ word_same ws n x (omega arith)),
          rw g (jumped (set ws n x) p v (omega (arith, length-set ws n x)) (rw (word_other ws n p x (λ z. omega arith)) j)),
        )

    set_turn : (n b : ℕ) (k : Bool) (ℓ : ℕ) (s t : Bool) → same reg no_reg ≡ s → same reg b ≡ t → p ≡ 1 + n → EncI K ws n (br (tset b k) (lbl ℓ)) →
        EncI K us n (br (settest (pick s none (some reg)) b k) (to v))
    set_turn n b k ℓ s t es et e h = go s t es et
      where
        w : (word us n ≡ retest reg (word ws n)) × (word us p ≡ jmp_to p v)
        w = pair_set n (omega arith) (tests (word ws n) TestSet no_reg b (bit k) h.0.0 refl) (sets (word ws n) TestSet no_reg b (bit k) true h.0.0 refl) (rw e h.1.0)

        x : word us n ≡ pick (same reg no_reg || same reg b) (abc_of Test b 0 (bit k)) (abc_of TestSet reg b (bit k))
        x = w.0 ∙ rw h.0.0 (retested reg b k h.0.1)

        y : word us (1 + n) ≡ jmp_to (1 + n) v
        y = rw (← e) w.1

        go : (s t : Bool) → same reg no_reg ≡ s → same reg b ≡ t → EncI K us n (br (settest (pick s none (some reg)) b k) (to v))
        go true t a c = ((x ∙ rw a refl, h.0.1), (y, tt, omega arith, vb))
        go false true a c = rw c ((x ∙ rw (a, c) refl, h.0.1), (y, tt, omega arith, vb))
        go false false a c = rw c ((x ∙ rw (a, c) refl, omega (arith, same_false reg no_reg a), h.0.1), (y, tt, omega arith, vb))

    pub patch_turn : (n : ℕ) (i : Instr) → pend i ≡ true → p ≡ tail i + n → ((q : ℕ) → suc q ≡ n → is_test (word ws q) ≡ false) → EncI K ws n i → EncI K us n (ed_i (land v (opt_r reg) d) i)
    patch_turn n (pl w) z e f h = absurd (let y : ◌≡◌ {A = ℕ} 0 1 = cc in omega arith)
    patch_turn n (br c (to q)) z e f h = absurd (let y : ◌≡◌ {A = ℕ} 0 1 = cc in omega arith)
    patch_turn n (br always (lbl ℓ)) z e f h = (tt, (rw (← e) (lone (rw e h.1.0) (λ q y. f q (omega arith))), tt, omega arith, db))
    patch_turn n (br (test b k) (lbl ℓ)) z e f h =
        let w : (word us n ≡ word ws n) × (word us p ≡ jmp_to p d) = pair_no n (omega arith) (tests (word ws n) Test b 0 (bit k) h.0.0 refl) (sets (word ws n) Test b 0 (bit k) false h.0.0 refl) (rw e h.1.0) in
        ((w.0 ∙ h.0.0, h.0.1), (rw (← e) w.1, tt, omega arith, db))
    patch_turn n (br (tset b k) (lbl ℓ)) z e f h = set_turn n b k ℓ (same reg no_reg) (same reg b) refl refl e h
    patch_turn n (br (tseta a b k) (lbl ℓ)) z e f h = absurd h.1.1
    patch_turn n (br (cmp o k x y) (lbl ℓ)) z e f h =
        let w : (word us n ≡ word ws n) × (word us p ≡ jmp_to p d) = pair_no n (omega arith) (tests (word ws n) (comparison o) (bit k) h.0.0 h.0.1 h.0.2 (comparison_tests o)) (sets (word ws n) (comparison o) (bit k) h.0.0 h.0.1 false h.0.2 (comparison_keeps_none o)) (rw e h.1.0) in
        ((h.0.0, h.0.1, w.0 ∙ h.0.2, h.0.3, h.0.4, h.0.5), (rw (← e) w.1, tt, omega arith, db))

  -- ---- `remove_values`

  module _ (m : ℕ) (ws : List ℕ) (p : ℕ) (inside : p < length ws) where
    abbrev vs : List ℕ
    vs = ret ws p no_reg

    keep_jump : (c : Ctrl) (q : ℕ) → Open c → IsJ (word ws q) → IsJ (word vs q)
    keep_jump c q o j = rw (ret_jump ws p no_reg q j) j

    same_pair : (n : ℕ) → p ≡ suc n → is_test (word ws n) ≡ true → is_set_w (word ws n) ≡ false → word vs n ≡ word ws n
    same_pair n e a b = rw (ret_no ws p no_reg n (ctl_pair ws p n e a) b) refl

    strip_turn : (n : ℕ) (i : Instr) → pend i ≡ true → p ≡ tail i + n → ((q : ℕ) → suc q ≡ n → is_test (word ws q) ≡ false) → EncI K ws n i → EncI K vs n (ed_i (re m true) i)
    strip_turn n (pl w) z e f h = absurd (let y : ◌≡◌ {A = ℕ} 0 1 = cc in omega arith)
    strip_turn n (br c (to q)) z e f h = absurd (let y : ◌≡◌ {A = ℕ} 0 1 = cc in omega arith)
    strip_turn n (br always (lbl ℓ)) z e f h = (tt, (keep_jump always (0 + n) tt h.1.0, tt))
    strip_turn n (br (test b k) (lbl ℓ)) z e f h =
        ((same_pair n (omega arith) (tests (word ws n) Test b 0 (bit k) h.0.0 refl) (sets (word ws n) Test b 0 (bit k) false h.0.0 refl) ∙ h.0.0, h.0.1), (keep_jump (test b k) (1 + n) tt h.1.0, tt))
    strip_turn n (br (tset b k) (lbl ℓ)) z e f h =
        let g : vs ≡ set ws n (retest no_reg (word ws n)) = ret_yes ws p no_reg n (ctl_pair ws p n (omega arith) (tests (word ws n) TestSet no_reg b (bit k) h.0.0 refl)) (sets (word ws n) TestSet no_reg b (bit k) true h.0.0 refl) in
        ((rw g (word_same ws n (retest no_reg (word ws n)) (omega arith) ∙ rw h.0.0 (retested no_reg b k h.0.1 ∙ rw (same_refl no_reg) refl)), h.0.1), (keep_jump (tset b k) (1 + n) tt h.1.0, tt))
    strip_turn n (br (tseta a b k) (lbl ℓ)) z e f h = absurd h.1.1
    strip_turn n (br (cmp o k x y) (lbl ℓ)) z e f h =
        ((h.0.0, h.0.1, same_pair n (omega arith) (tests (word ws n) (comparison o) (bit k) h.0.0 h.0.1 h.0.2 (comparison_tests o)) (sets (word ws n) (comparison o) (bit k) h.0.0 h.0.1 false h.0.2 (comparison_keeps_none o)) ∙ h.0.2, h.0.3, h.0.4, h.0.5), (keep_jump (cmp o k x y) (1 + n) tt h.1.0, tt))

    pub strip_step : (c : Code) → Enc K ws c → is_p c p ≡ true → Enc K vs (at_pos (ed_i (re m true)) p c)
    strip_step = local_step K (ed_i (re m true)) (width_ed_i (re m true)) ws vs p (λ q a b. ret_local ws p no_reg q a b) strip_turn

  -- ---- the link: a pending jump's own sBx is nothing to the code

  abbrev id_i : Instr → Instr
  id_i i = i

  at_id : (p : ℕ) (c : Code) → at_pos id_i p c ≡ c
  unfolding at_pos
  at_id p [] = refl
  at_id p (i ∷ c) = rw (at_id p c) (go (key p (size c) i))
    where
      go : (t : Bool) → ◌≡◌ {A = Code} (pick t (i ∷ c) (i ∷ c)) (i ∷ c)
      go true = refl
      go false = refl

  module _ (t : ℕ) (ws : List ℕ) (p : ℕ) (inside : p < length ws) where
    abbrev ls : List ℕ
    ls = jump_to ws p t

    ctl_off : (n : ℕ) (c : Ctrl) → (n ≡ p → ⊥) → Ctl K ws n c → Ctl K ls n c
    ctl_off n always a h = tt
    ctl_off n (test b k) a h = (jumped_off ws p t n a ∙ h.0, h.1)
    ctl_off n (tset b k) a h = (jumped_off ws p t n a ∙ h.0, h.1)
    ctl_off n (tseta c b k) a h = (jumped_off ws p t n a ∙ h.0, h.1, h.2)
    ctl_off n (cmp o k x y) a h = (h.0, h.1, jumped_off ws p t n a ∙ h.2, h.3, h.4, h.5)

    link_ctl : (n : ℕ) (c : Ctrl) → p ≡ jofs c + n → Ctl K ws n c → Ctl K ls n c
    link_ctl n always e h = tt
    link_ctl n (test b k) e h = ctl_off n (test b k) (λ z. omega arith) h
    link_ctl n (tset b k) e h = ctl_off n (tset b k) (λ z. omega arith) h
    link_ctl n (tseta c b k) e h = ctl_off n (tseta c b k) (λ z. omega arith) h
    link_ctl n (cmp o k x y) e h = ctl_off n (cmp o k x y) (λ z. omega arith) h

    link_turn : (n : ℕ) (i : Instr) → pend i ≡ true → p ≡ tail i + n → ((q : ℕ) → suc q ≡ n → is_test (word ws q) ≡ false) → EncI K ws n i → EncI K ls n i
    link_turn n (pl w) z e f h = absurd (let y : ◌≡◌ {A = ℕ} 0 1 = cc in omega arith)
    link_turn n (br c (to q)) z e f h = absurd (let y : ◌≡◌ {A = ℕ} 0 1 = cc in omega arith)
    link_turn n (br c (lbl ℓ)) z e f h = (link_ctl n c e h.0, (rw (← e, jumped ws p t inside (rw e h.1.0)) (is_jmp _), h.1.1))

    pub link_step : (c : Code) → Enc K ws c → is_p c p ≡ true → Enc K ls c
    link_step c h k = rw (at_id p c) at (local_step K id_i (λ i. refl) ws ls p (λ q a b. jumped_off ws p t q a) link_turn c h k)
