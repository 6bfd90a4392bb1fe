-- The model's steps that touch words and lists alone, from a state that holds represented code: each is refused, or done and holds the code after the edit of its label.
-- By the laws of `Represents`, `Emitting` and `Last`; the rest of the state and the buffers of the constants are as they were.
use Prim.Native.Nat.{ℕ, suc, ◌+◌, ◌-◌, ◌≤◌, ◌<◌}
use Rattle.std.specs.Prelude.{Bool, true, false, ◌≡◌}
use Rattle.std.proofs.Math.Path.{refl, sym}
use Rattle.std.proofs.Common.{◌∙◌, arith, length-set}
use mathlib.Core.List.{List, ◌∷◌}
use Rattle.std.proofs.Math.ListN.{length, set}
use Rattle.instructions.specs.Limits.{max_words, no_reg}
use Rattle.instructions.specs.Word.{abc_of}
use Rattle.opcodes.specs.declared.OpCode.TheVariants.{Test}
use Rattle.model.specs.declared.State.{State}
use Rattle.model.specs.Steps.{Buffers, done, ◌>>◌}
use Rattle.model.specs.Jumps.{word, patch_list_aux}
use Rattle.model.specs.Emission.{with_pc, with_jpc, discharge_jpc, emit_at, emit, emit_jump}
use Rattle.model.specs.Conditions.{bit, pop}
use Rattle.labelled.specs.Code.{same, same_refl, same_ne, same_true, Ctrl, test, lbl, PW, pl, br, pwidth, Code, size, land, edit}
use Rattle.threads.specs.Words.{word_same, new_j, remove_none, linked_none}
use Rattle.threads.specs.Places.{jofs, cwidth_tail, is_l}
use Rattle.threads.specs.Encoding.{Coding, Ctl, Open}
use Rattle.threads.specs.Turns.{opt_r}
use Rattle.threads.specs.Represents.{set_h}
use Rattle.threads.proofs.Represents.{rep_patch}
use Rattle.threads.specs.Emitting.{discharged, emitted, emitted_pair, emitted_jump, edit_none, rep_heads}
use Rattle.threads.proofs.Emitting.{rep_discharge, rep_emit, rep_pair}
use Rattle.threads.specs.Holding.{Ends, ends_then, ends_map, Holds, Became, with_code, discharge_is, written, emit_at_ends, emit_line, emit_ends, stripped, jump_ends}
use Rattle.labelled.specs.Machine.{pick}
use Rattle.labelled.specs.Emission.{here, one}
use Rattle.labelled.specs.Edits.{size_edit}
use Rattle.threads.specs.Stepping.{hold_pop, pop_is, taken}

module _ {K : Coding} {cap : ℕ} {s : State} {m : Buffers} {H : ℕ → ℕ} {c : Code} (h : Holds K cap s m H c) where
  -- `discharge_jpc`
  pub hold_discharge : (discharge_jpc s m ≡ done tt (with_jpc 0 s) (with_code (discharged m.code s.pc s.jpc) m)) ×
      Holds K cap (with_jpc 0 s) (with_code (discharged m.code s.pc s.jpc) m) (set_h 0 0 H) (edit (here c) c)
  hold_discharge = (
    discharge_is s m,
    record {
      rep = rw (h.pcs, h.jpcs) (rep_discharge h.rep);
      pcs = h.pcs ∙ sym (size_edit (here c) c);
      jpcs = rw (same_refl 0) refl;
    },
  )

  -- `emit` of a plain word, at a line
  pub hold_emit_at : (line : ℕ) (x : PW) (w : ℕ) → pwidth x ≡ 1 → ((us : List ℕ) → word us (size c) ≡ w → K.plain us (size c) x) →
      Ends (emit_at w line s m) (λ a s' m'. (a ≡ size c) × Became K cap m (with_pc (s.pc + 1) (with_jpc 0 s)) (set_h 0 0 H) (pl x ∷ edit (here c) c) s' m')
  unfolding size
  hold_emit_at line x w o pw = emit_at_ends w line s m _ (λ a b. (
    h.pcs,
    record {
      state = refl;
      kept = record { kinds = refl; values = refl; pool = refl };
      holds = record {
        rep = rw (h.pcs, h.jpcs) (rep_emit h.rep x w (pw _ (word_same (discharged m.code (size c) (H 0)) (size c) w (omega (arith, l, inside a)))) o (omega (arith, inside a)) (omega (arith, h.pcs)));
        pcs = omega (arith, h.pcs, o, size_edit (here c) c);
        jpcs = rw (same_refl 0) refl;
      };
    },
  ))
    where
      l : length (discharged m.code (size c) (H 0)) ≡ cap
      l = (rep_discharge h.rep).len

      inside : s.pc < length (discharged m.code s.pc s.jpc) → size c < cap
      inside a = let z : size c < length (discharged m.code (size c) (H 0)) = rw (h.pcs, h.jpcs) at a in omega (arith, l)

  pub hold_emit : (x : PW) (w : ℕ) → pwidth x ≡ 1 → ((us : List ℕ) → word us (size c) ≡ w → K.plain us (size c) x) →
      Ends (emit w s m) (λ a s' m'. (a ≡ size c) × Became K cap m (with_pc (s.pc + 1) (with_jpc 0 s)) (set_h 0 0 H) (pl x ∷ edit (here c) c) s' m')
  hold_emit x w o pw = rw (emit_line w s m) (hold_emit_at s.line x w o pw)

  -- where no jump is pending to here
  pub hold_emit₀ : (x : PW) (w : ℕ) → pwidth x ≡ 1 → ((us : List ℕ) → word us (size c) ≡ w → K.plain us (size c) x) → H 0 ≡ 0 →
      Ends (emit w s m) (λ a s' m'. (a ≡ size c) × Became K cap m (with_pc (s.pc + 1) (with_jpc 0 s)) H (pl x ∷ c) s' m')
  hold_emit₀ x w o pw z = ends_map (hold_emit x w o pw) (λ a s' m' p. (
    p.0,
    record {
      state = p.1.state;
      kept = p.1.kept;
      holds = let q = p.1.holds in record { rep = rep_heads H (λ ℓ. go ℓ (same ℓ 0) refl) (rw (edit_none h.rep 0 _ z) at q.rep); pcs = rw (edit_none h.rep 0 _ z) at q.pcs; jpcs = q.jpcs ∙ go 0 (same 0 0) refl };
    },
  ))
    where
      go : (ℓ : ℕ) (t : Bool) → same ℓ 0 ≡ t → pick t 0 (H ℓ) ≡ H ℓ
      go ℓ true e = sym (rw (same_true ℓ 0 e) z)
      go ℓ false e = refl

  -- a control word and then `emit_jump`, under a label that has no list
  pub hold_pair : (k : Ctrl) (ℓ w : ℕ) → jofs k ≡ 1 → Open k → ((us : List ℕ) → word us (size c) ≡ w → Ctl K us (size c) k) → (ℓ ≡ 0 → ⊥) → H ℓ ≡ 0 →
      Ends ((emit w >> emit_jump) s m) (λ a s' m'. (a ≡ suc (1 + size c)) × Became K cap m (with_pc (s.pc + 1 + 1) (with_jpc 0 s)) (set_h ℓ (suc (1 + size c)) (set_h 0 0 H)) (br k (lbl ℓ) ∷ edit (here c) c) s' m')
  unfolding size
  hold_pair k ℓ w two op cw nz fresh =
      ends_then {P = λ a s' m'. (s' ≡ s₁) × (m' ≡ m₁)} (emit_ends w s m _ (λ a b. (refl, refl)))
      (λ a s' m' q. rw (q.0, q.1) (jump_ends s₁ m₁ _ (λ a b. (
        omega (arith, h.pcs),
        record {
          state = refl;
          kept = record { kinds = refl; values = refl; pool = refl };
          holds = record {
            rep = rw (words_are, h.pcs, h.jpcs) (rep_pair h.rep k ℓ w two op cw fresh (inside a) (omega (arith, h.pcs)));
            pcs = omega (arith, h.pcs, size_edit (here c) c, cwidth_tail k);
            jpcs = rw (same_ne 0 ℓ (λ e. nz (sym e)), same_refl 0) refl;
          };
        },
      ))))
    where
      s₁ : State
      s₁ = with_pc (s.pc + 1) (with_jpc 0 s)

      ws₁ : List ℕ
      ws₁ = emitted m.code s.pc s.jpc w

      m₁ : Buffers
      m₁ = written ws₁ s m

      plain₁ : stripped s₁ m₁ ≡ ws₁
      plain₁ = remove_none (length ws₁) ws₁

      next₁ : s.pc + 1 ≡ 1 + s.pc
      next₁ = omega arith

      words_are : emitted_jump ws₁ (s.pc + 1) 0 ≡ emitted_pair m.code s.pc s.jpc w
      words_are = linked_none (set (stripped s₁ m₁) (s.pc + 1) new_j) (suc (s.pc + 1)) ∙ rw (plain₁, next₁) refl

      inside : s.pc + 1 < length (stripped s₁ m₁) → 1 + size c < cap
      inside a =
          let z : s.pc + 1 < length (emitted m.code s.pc s.jpc w) = rw plain₁ at a in
          let y : size c + 1 < length (emitted m.code (size c) (H 0) w) = rw (h.pcs, h.jpcs) at z in
          omega (arith, h.pcs, length-set (discharged m.code (size c) (H 0)) (size c) w, (rep_discharge h.rep).len)

  -- `patch_list_aux`
  pub hold_patch : (a v reg d : ℕ) → (a ≡ 0 → ⊥) → reg ≤ no_reg → v ≤ max_words → d ≤ max_words → ((p : ℕ) → is_l a c p ≡ true → (p < v) × (p < d)) →
      Holds K cap s (with_code (patch_list_aux (length m.code) m.code (H a) v reg d) m) (set_h a 0 H) (edit (one a (land v (opt_r reg) d)) c)
  hold_patch a v reg d a0 ok vb db fwd = record {
    rep = rep_patch h.rep a v reg d ok vb db fwd;
    pcs = h.pcs ∙ sym (size_edit (one a (land v (opt_r reg) d)) c);
    jpcs = h.jpcs ∙ rw (same_ne 0 a (λ e. a0 (sym e))) refl;
  }

-- ---- the last instruction

module _ {K : Coding} {cap : ℕ} {s : State} {m : Buffers} {H : ℕ → ℕ} {c : Code} {w : PW} (one : pwidth w ≡ 1) (h : Holds K cap s m H (pl w ∷ c)) where
  -- `jumponcond` on a `Not` that is still to get its register: popped, then `Test` with the opposite sense and a Jmp under a label that has no list; no jump is pending to here
  pub hold_popped : (b ℓ : ℕ) (k : Bool) → b < no_reg → H 0 ≡ 0 → (ℓ ≡ 0 → ⊥) → H ℓ ≡ 0 →
      Ends ((pop >> (emit (abc_of Test b 0 (bit k)) >> emit_jump)) s m)
      (λ a s' m'. (a ≡ suc (1 + size c)) × Became K cap m (with_pc (s.pc - 1 + 1 + 1) (with_jpc 0 s)) (set_h ℓ (suc (1 + size c)) (set_h 0 0 H)) (br (test b k) (lbl ℓ) ∷ c) s' m')
  hold_popped b ℓ k l z nz fresh = rw (pop_is (emit (abc_of Test b 0 (bit k)) >> emit_jump) s m) (ends_map (hold_pair q (test b k) ℓ (abc_of Test b 0 (bit k)) refl tt (λ us e. (e, l)) nz fresh) (λ a s' m' p.
      (p.0, record { state = p.1.state; kept = record { kinds = p.1.kept.kinds; values = p.1.kept.values; pool = p.1.kept.pool }; holds = rw (edit_none q.rep 0 _ z) at p.1.holds })))
    where
      q : Holds K cap (with_pc (s.pc - 1) s) (taken s m) H c
      q = hold_pop one h (taken s m) refl
