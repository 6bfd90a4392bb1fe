-- The words of labelled code: each instruction's words at its places. A change of one pending jump's two words is a change of that instruction alone,
-- since the word before an instruction is never a test, so that the control word of a jump is its own.
use Rattle.std.specs.Prelude.{ℕ, suc, ◌+◌, ◌≤◌, ◌<◌, Bool, eqb}
use Rattle.std.proofs.Math.Bool.{true, false}
use Rattle.std.proofs.Math.Path.{◌≡◌, refl}
use Rattle.std.proofs.Common.{◌∙◌, arith}
use mathlib.Core.List.{List, [], ◌∷◌}
use Rattle.instructions.specs.Limits.{max_words, no_reg}
use Rattle.opcodes.specs.OpCodes.{code_of, test_mode}
use Rattle.instructions.specs.Word.{opcode_of, abc_of}
use Rattle.instructions.specs.Laws.{opcode_a_bx}
use Rattle.opcodes.specs.declared.OpCode.{OpCode}
use Rattle.opcodes.specs.declared.OpCode.TheVariants.{Jmp, Eq, Lt, Le, Test, TestSet}
use Rattle.model.specs.Values.{StepKind, global_read, index_read, call, equal, less, less_or_equal, length_of, concatenation, arithmetic}
use Rattle.model.specs.Jumps.{word}
use Rattle.model.specs.Conditions.{bit}
use Rattle.labelled.specs.Code.{Rk, same, same_true, same_false, Ctrl, always, test, tset, tseta, cmp, Tgt, to, lbl, PW, Instr, pl, br, pwidth, width, Code, size}
use Rattle.threads.specs.Words.{IsJ, is_jmp, jmp_to}
use Rattle.threads.specs.Places.{jofs, tail, cwidth_tail, key, key_at, is_lab, look, look_range, at_pos, size_at_pos}
use Rattle.labelled.specs.Machine.{pick}

-- a word of the test mode
abbrev pub is_test : ℕ → Bool
is_test w = test_mode (opcode_of w)

pub jmp_no_test : (w : ℕ) → IsJ w → is_test w ≡ false
jmp_no_test w h = rw (h.is, opcode_a_bx Jmp 0 h.bx) refl

-- the opcode of a comparison
abbrev pub comparison : StepKind → OpCode
comparison global_read = Eq
comparison index_read = Eq
comparison call = Eq
comparison equal = Eq
comparison less = Lt
comparison less_or_equal = Le
comparison length_of = Eq
comparison concatenation = Eq
comparison (arithmetic o) = Eq

abbrev pub Compares : StepKind → Type 0
Compares global_read = ⊥
Compares index_read = ⊥
Compares call = ⊥
Compares equal = Unit {0}
Compares less = Unit {0}
Compares less_or_equal = Unit {0}
Compares length_of = ⊥
Compares concatenation = ⊥
Compares (arithmetic o) = ⊥

pub comparison_tests : (o : StepKind) → test_mode (comparison o) ≡ true
comparison_tests global_read = refl
comparison_tests index_read = refl
comparison_tests call = refl
comparison_tests equal = refl
comparison_tests less = refl
comparison_tests less_or_equal = refl
comparison_tests length_of = refl
comparison_tests concatenation = refl
comparison_tests (arithmetic o) = refl

pub comparison_keeps_none : (o : StepKind) → eqb (code_of (comparison o)) (code_of TestSet) ≡ false
comparison_keeps_none global_read = refl
comparison_keeps_none index_read = refl
comparison_keeps_none call = refl
comparison_keeps_none equal = refl
comparison_keeps_none less = refl
comparison_keeps_none less_or_equal = refl
comparison_keeps_none length_of = refl
comparison_keeps_none concatenation = refl
comparison_keeps_none (arithmetic o) = refl

-- a pending jump stands here
abbrev pub pend : Instr → Bool
pend (pl w) = false
pend (br c (to p)) = false
pend (br c (lbl m)) = true

abbrev pub is_p : Code → ℕ → Bool
is_p c p = look pend c p

pub lab_pend : (ℓ : ℕ) (i : Instr) → is_lab ℓ i ≡ true → pend i ≡ true
lab_pend ℓ (pl w) h = h
lab_pend ℓ (br c (to p)) h = h
lab_pend ℓ (br c (lbl m)) h = refl

-- how operands and plain instructions are written: an operand as an RK field, a plain instruction from a place on; its words are seen at its own places only, and the last is no test
pub record Coding : Type 1 where
  pub rk : Rk → ℕ → Type 0
  pub plain : List ℕ → ℕ → PW → Type 0
  pub agree : (ws us : List ℕ) (n : ℕ) (w : PW) → ((q : ℕ) → n ≤ q → q < pwidth w + n → word us q ≡ word ws q) → plain ws n w → plain us n w
  pub last : (ws : List ℕ) (n : ℕ) (w : PW) (q : ℕ) → plain ws n w → n ≤ q → suc q ≡ pwidth w + n → is_test (word ws q) ≡ false

-- pending: no TestSet with its register
abbrev pub Open : Ctrl → Type 0
Open always = Unit {0}
Open (test b k) = Unit {0}
Open (tset b k) = Unit {0}
Open (tseta a b k) = ⊥
Open (cmp o k x y) = Unit {0}

-- with a target: no TestSet without its register, and forward
abbrev pub Shut : Ctrl → Type 0
Shut always = Unit {0}
Shut (test b k) = Unit {0}
Shut (tset b k) = ⊥
Shut (tseta a b k) = Unit {0}
Shut (cmp o k x y) = Unit {0}

module _ (K : Coding) where
  -- a control word and its jump, from word n on; a pending TestSet has no register yet
  abbrev pub Ctl : List ℕ → ℕ → Ctrl → Type 0
  Ctl ws n always = Unit {0}
  Ctl ws n (test b k) = (word ws n ≡ abc_of Test b 0 (bit k)) × (b < no_reg)
  Ctl ws n (tset b k) = (word ws n ≡ abc_of TestSet no_reg b (bit k)) × (b < no_reg)
  Ctl ws n (tseta a b k) = (word ws n ≡ abc_of TestSet a b (bit k)) × (a < no_reg) × (b < no_reg)
  Ctl ws n (cmp o k x y) = (u : ℕ) × (v : ℕ) × (word ws n ≡ abc_of (comparison o) (bit k) u v) × Compares o × K.rk x u × K.rk y v

  abbrev pub Jw : List ℕ → ℕ → Ctrl → Tgt → Type 0
  Jw ws p c (to q) = (word ws p ≡ jmp_to p q) × Shut c × (p < q) × (q ≤ max_words)
  Jw ws p c (lbl ℓ) = IsJ (word ws p) × Open c

  abbrev pub EncI : List ℕ → ℕ → Instr → Type 0
  EncI ws n (pl w) = K.plain ws n w
  EncI ws n (br c t) = Ctl ws n c × Jw ws (jofs c + n) c t

  abbrev pub Enc : List ℕ → Code → Type 0
  Enc ws [] = Unit {0}
  Enc ws (i ∷ c) = EncI ws (size c) i × Enc ws c

  module _ (ws us : List ℕ) where
    ctl_agree : (n : ℕ) (c : Ctrl) → word us n ≡ word ws n → Ctl ws n c → Ctl us n c
    ctl_agree n always e h = tt
    ctl_agree n (test b k) e h = (e ∙ h.0, h.1)
    ctl_agree n (tset b k) e h = (e ∙ h.0, h.1)
    ctl_agree n (tseta a b k) e h = (e ∙ h.0, h.1, h.2)
    ctl_agree n (cmp o k x y) e h = (h.0, h.1, e ∙ h.2, h.3, h.4, h.5)

    jw_agree : (p : ℕ) (c : Ctrl) (t : Tgt) → word us p ≡ word ws p → Jw ws p c t → Jw us p c t
    jw_agree p c (to q) e h = (e ∙ h.0, h.1, h.2, h.3)
    jw_agree p c (lbl ℓ) e h = (rw e h.0, h.1)

    pub enc_i_agree : (n : ℕ) (i : Instr) → ((q : ℕ) → n ≤ q → q < width i + n → word us q ≡ word ws q) → EncI ws n i → EncI us n i
    enc_i_agree n (pl w) g h = K.agree ws us n w g h
    enc_i_agree n (br c t) g h = (ctl_agree n c (g n (omega arith) (omega (arith, cwidth_tail c))) h.0, jw_agree (jofs c + n) c t (g (jofs c + n) (omega arith) (omega (arith, cwidth_tail c))) h.1)

    pub enc_agree : (c : Code) → ((q : ℕ) → q < size c → word us q ≡ word ws q) → Enc ws c → Enc us c
    unfolding size
    enc_agree [] g h = tt
    enc_agree (i ∷ c) g h = (enc_i_agree (size c) i (λ q a b. g q (omega arith)) h.0, enc_agree c (λ q a. g q (omega arith)) h.1)

  -- the last word of an instruction is no test
  last_jump : (ws : List ℕ) (p : ℕ) (c : Ctrl) (t : Tgt) → Jw ws p c t → is_test (word ws p) ≡ false
  last_jump ws p c (to q) h = rw h.0 (jmp_no_test (jmp_to p q) (is_jmp _))
  last_jump ws p c (lbl ℓ) h = jmp_no_test (word ws p) h.0

  pub prev_word : (ws : List ℕ) (c : Code) → Enc ws c → (q : ℕ) → suc q ≡ size c → is_test (word ws q) ≡ false
  unfolding size
  prev_word ws [] h q e = absurd (omega arith)
  prev_word ws (pl w ∷ c) h q e = go (same (pwidth w) 0) refl (prev_word ws c h.1 q)
    where
      go : (t : Bool) → same (pwidth w) 0 ≡ t → (suc q ≡ size c → is_test (word ws q) ≡ false) → is_test (word ws q) ≡ false
      go true z r = r (omega (arith, same_true (pwidth w) 0 z))
      go false z r = K.last ws (size c) w q h.0 (omega (arith, same_false (pwidth w) 0 z)) e
  prev_word ws (br k t ∷ c) h q e = let z : q ≡ jofs k + size c = omega (arith, cwidth_tail k) in rw z (last_jump ws (jofs k + size c) k t h.0.1)

  -- ---- one turn of a walk, at the pending jump whose Jmp is at p

  abbrev pub Local : List ℕ → List ℕ → ℕ → Type 0
  Local ws us p = (q : ℕ) → (q ≡ p → ⊥) → (suc q ≡ p → is_test (word ws q) ≡ false) → word us q ≡ word ws q

  module _ (f : Instr → Instr) (wf : (i : Instr) → width (f i) ≡ width i) (ws us : List ℕ) (p : ℕ) (loc : Local ws us p)
      (turn : (n : ℕ) (i : Instr) → pend i ≡ true → p ≡ tail i + n → ((q : ℕ) → suc q ≡ n → is_test (word ws q) ≡ false) → EncI ws n i → EncI us n (f i)) where
    pub local_step : (c : Code) → Enc ws c → is_p c p ≡ true → Enc us (at_pos f p c)
    unfolding at_pos look
    local_step [] h k = absurd (let z : ◌≡◌ {A = ℕ} 0 1 = cc in omega arith)
    local_step (i ∷ c) h k = go (key p (size c) i) refl k (local_step c h.1)
      where
        go : (t : Bool) → key p (size c) i ≡ t → pick t (pend i) (is_p c p) ≡ true → (is_p c p ≡ true → Enc us (at_pos f p c)) → Enc us (pick t (f i ∷ c) (i ∷ at_pos f p c))
        go true e z r = (
          turn (size c) i z (key_at p (size c) i e).0 (prev_word ws c h.1) h.0,
          enc_agree ws us c (λ q a. loc q (λ w. omega (arith, (key_at p (size c) i e).0)) (λ w. prev_word ws c h.1 q (omega (arith, (key_at p (size c) i e).0)))) h.1,
        )
        go false e z r = (rw (size_at_pos f wf p c) (enc_i_agree ws us (size c) i (λ q a b. loc q (λ w. omega (arith, look_range pend c p z)) (λ w. absurd (omega (arith, look_range pend c p z)))) h.0), r z)
