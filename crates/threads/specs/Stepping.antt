-- The model's steps that touch words and lists alone, from a state that holds represented code: each is refused, or done and holds the code after the edit of its label.
-- By the laws of `Represents`, `Emitting` and `Last`; the rest of the state and the buffers of the constants are as they were.
-- What rests on something that a must-fail edit breaks stands in proofs/Stepping.antt.
use Prim.Native.Nat.{ℕ, suc, ◌+◌, ◌-◌, ◌≤◌, ◌<◌}
use Rattle.std.specs.Prelude.{Bool, true, false, not, ◌||◌, ◌≡◌}
use Rattle.std.proofs.Math.Path.{refl, ap, sym}
use Rattle.std.proofs.Common.{◌∙◌, arith, length-set}
use mathlib.Core.List.{List, ◌∷◌}
use Rattle.std.proofs.Math.ListN.{length, set}
use Rattle.instructions.specs.Limits.{no_reg}
use Rattle.model.specs.declared.State.{State}
use Rattle.model.specs.Steps.{Buffers, done, Step, and_then, ◌>>◌}
use Rattle.model.specs.Jumps.{word, concat_jumps, linked, remove_values}
use Rattle.model.specs.Emission.{with_pc, with_jpc, with_label, emit_at, concat, emit_jump, patch_to_here, get_label}
use Rattle.model.specs.Values.{StepKind}
use Rattle.model.specs.declared.ExprContext.{ExprContext}
use Rattle.model.specs.Conditions.{pop, invertjump}
use Rattle.labelled.specs.Code.{Rk, same, same_refl, same_ne, same_true, always, cmp, lbl, PW, mark, pl, br, pwidth, Code, size, re, edit}
use Rattle.threads.specs.Words.{word_same, word_other, patch_none}
use Rattle.threads.specs.Encoding.{Coding}
use Rattle.threads.specs.Represents.{set_h, rep_strip, rep_concat}
use Rattle.threads.specs.Emitting.{discharged, edit_none, rep_heads, rep_emit_jump}
use Rattle.threads.specs.Needs.{some_hit}
use Rattle.threads.specs.Growing.{More, rep_grow}
use Rattle.threads.specs.Last.{rep_mark, rep_instead, rep_replace, rep_taken, inverted, rep_invert}
use Rattle.threads.specs.Holding.{Ends, Holds, Became, with_code, concat_is, here_is, label_is, invert_is, emit_at_ends, stripped, jump_ends}
use Rattle.labelled.specs.Machine.{pick}
use Rattle.labelled.specs.Emission.{hit, one}
use Rattle.labelled.specs.Edits.{size_edit}

-- `pop`: the last word and its line are taken back
abbrev pub taken : State → Buffers → Buffers
taken s m = record { code = set m.code (s.pc - 1) 0; lines = set m.lines (s.pc - 1) 0; kinds = m.kinds; values = m.values; pool = m.pool }

pub pop_is : {A : Type 0} (f : Step A) (s : State) (m : Buffers) → (pop >> f) s m ≡ f (with_pc (s.pc - 1) s) (taken s m)
unfolding pop and_then
pop_is f s m = refl

size_mark : (n : ℕ) (c : Code) → n ≡ size c → n ≡ size (pl mark ∷ c)
unfolding size
size_mark n c e = omega arith

-- labelled code in which label b goes to here, with a mark if there is a jump
abbrev pub to_here : ℕ → Code → Code
to_here b c = pick (hit false b b c) (pl mark ∷ edit (one b (re 0 false)) c) c

module _ {K : Coding} {cap : ℕ} {s : State} {m : Buffers} {H : ℕ → ℕ} {c : Code} (h : Holds K cap s m H c) where
  -- `emit_jump`, under a label that has no list; its list is the new jump's
  pub hold_jump : (ℓ : ℕ) → (ℓ ≡ 0 → ⊥) → H ℓ ≡ 0 →
      Ends (emit_jump s m) (λ a s' m'. (a ≡ suc (size c)) × Became K cap m (with_pc (s.pc + 1) (with_jpc 0 s)) (set_h ℓ (suc (size c)) (set_h 0 0 H)) (br always (lbl ℓ) ∷ edit (one 0 (re ℓ true)) c) s' m')
  unfolding size
  hold_jump ℓ nz fresh = jump_ends s m _ (λ a b. (
    ap suc h.pcs,
    record {
      state = refl;
      kept = record { kinds = refl; values = refl; pool = refl };
      holds = record {
        rep = rw (h.pcs, h.jpcs) (rep_emit_jump h.rep ℓ nz fresh (inside a) (omega (arith, h.pcs)));
        pcs = omega (arith, h.pcs, size_edit (one 0 (re ℓ true)) c);
        jpcs = rw (same_ne 0 ℓ (λ e. nz (sym e)), same_refl 0) refl;
      };
    },
  ))
    where
      inside : s.pc < length (stripped s m) → size c < cap
      inside a = let z : s.pc < length (remove_values (length m.code) m.code (H 0)) = rw h.jpcs at a in omega (arith, (rep_strip h.rep 0).len, h.pcs)

  -- `concat_jumps` of two lists: list a goes behind list b, and both are called b
  pub hold_concat : (a b : ℕ) → (a ≡ 0 → ⊥) → (b ≡ 0 → ⊥) → (a ≡ b → ⊥) →
      (concat (H b) (H a) s m ≡ done (concat_jumps (H b) (H a)) s (with_code (linked m.code (H b) (H a)) m)) ×
      Holds K cap s (with_code (linked m.code (H b) (H a)) m) (set_h b (concat_jumps (H b) (H a)) (set_h a 0 H)) (edit (one a (re b false)) c)
  hold_concat a b a0 b0 ab = (
    concat_is (H b) (H a) s m,
    record {
      rep = rep_concat h.rep a b ab;
      pcs = h.pcs ∙ sym (size_edit (one a (re b false)) c);
      jpcs = h.jpcs ∙ rw (same_ne 0 b (λ e. b0 (sym e)), same_ne 0 a (λ e. a0 (sym e))) refl;
    },
  )

  -- `patch_to_here` of a list: its jumps go to the word to come
  pub hold_here : (a : ℕ) → (a ≡ 0 → ⊥) →
      (patch_to_here (H a) s m ≡ done tt (with_jpc (concat_jumps s.jpc (H a)) s) (with_code (linked m.code s.jpc (H a)) m)) ×
      Holds K cap (with_jpc (concat_jumps s.jpc (H a)) s) (with_code (linked m.code s.jpc (H a)) m) (set_h 0 (concat_jumps (H 0) (H a)) (set_h a 0 H)) (edit (one a (re 0 false)) c)
  hold_here a a0 = (
    here_is (H a) s m,
    record {
      rep = rw h.jpcs (rep_concat h.rep a 0 a0);
      pcs = h.pcs ∙ sym (size_edit (one a (re 0 false)) c);
      jpcs = rw (same_refl 0, h.jpcs) refl;
    },
  )

  -- with a mark where the list is not empty, as labelled code has it
  pub hold_to_here : (a : ℕ) → (a ≡ 0 → ⊥) → ((us : List ℕ) (n : ℕ) → K.plain us n mark) →
      Holds K cap (with_jpc (concat_jumps s.jpc (H a)) s) (with_code (linked m.code s.jpc (H a)) m) (set_h 0 (concat_jumps (H 0) (H a)) (set_h a 0 H)) (to_here a c)
  hold_to_here a a0 mk = rw (← (some_hit h.rep a a)) (go (same (H a) 0) refl)
    where
      q : Holds K cap (with_jpc (concat_jumps s.jpc (H a)) s) (with_code (linked m.code s.jpc (H a)) m) (set_h 0 (concat_jumps (H 0) (H a)) (set_h a 0 H)) (edit (one a (re 0 false)) c)
      q = (hold_here a a0).1

      go : (t : Bool) → same (H a) 0 ≡ t → Holds K cap (with_jpc (concat_jumps s.jpc (H a)) s) (with_code (linked m.code s.jpc (H a)) m) (set_h 0 (concat_jumps (H 0) (H a)) (set_h a 0 H)) (pick (not t || not t) (pl mark ∷ edit (one a (re 0 false)) c) c)
      go true e = rw (edit_none h.rep a (re 0 false) (same_true (H a) 0 e)) at q
      go false e = record { rep = rep_mark (mk _ _) q.rep; pcs = marked q.pcs; jpcs = q.jpcs }
        where
          marked : s.pc ≡ size (edit (one a (re 0 false)) c) → s.pc ≡ size (pl mark ∷ edit (one a (re 0 false)) c)
          marked = size_mark s.pc (edit (one a (re 0 false)) c)

  -- `get_label`
  pub hold_label : (get_label s m ≡ done s.pc (with_label (s.pc + 1) s) m) × Holds K cap (with_label (s.pc + 1) s) m H c
  hold_label = (label_is s m (omega (arith, h.pcs, h.rep.few)), record { rep = h.rep; pcs = h.pcs; jpcs = h.jpcs })

  -- `remove_values`
  pub hold_strip : (a : ℕ) → Holds K cap s (with_code (remove_values (length m.code) m.code (H a)) m) H (edit (one a (re a true)) c)
  hold_strip a = record { rep = rep_strip h.rep a; pcs = h.pcs ∙ sym (size_edit (one a (re a true)) c); jpcs = h.jpcs }

  -- a mark
  pub hold_mark : K.plain m.code (size c) mark → Holds K cap s m H (pl mark ∷ c)
  unfolding size
  hold_mark e = record { rep = rep_mark e h.rep; pcs = omega (arith, h.pcs); jpcs = h.jpcs }

  -- what touches neither the words nor pc nor jpc
  pub hold_same : (s' : State) (m' : Buffers) → s'.pc ≡ s.pc → s'.jpc ≡ s.jpc → m'.code ≡ m.code → Holds K cap s' m' H c
  hold_same s' m' a b d = record { rep = rw d h.rep; pcs = a ∙ h.pcs; jpcs = b ∙ h.jpcs }

  -- the coding allows more
  pub hold_grow : {L : Coding} → More K L → Holds L cap s m H c
  hold_grow g = record { rep = rep_grow g h.rep; pcs = h.pcs; jpcs = h.jpcs }

  -- heads that agree
  pub hold_heads : (G : ℕ → ℕ) → ((ℓ : ℕ) → H ℓ ≡ G ℓ) → Holds K cap s m G c
  hold_heads G e = record { rep = rep_heads G e h.rep; pcs = h.pcs; jpcs = h.jpcs ∙ e 0 }

-- ---- the last instruction

module _ {K : Coding} {cap : ℕ} {s : State} {m : Buffers} {H : ℕ → ℕ} {c : Code} {w : PW} (one : pwidth w ≡ 1) (h : Holds K cap s m H (pl w ∷ c)) where
  -- another word in its place
  pub hold_replace : (u : PW) (v : ℕ) → pwidth u ≡ 1 → ((us : List ℕ) → word us (size c) ≡ v → K.plain us (size c) u) → Holds K cap s (with_code (set m.code (size c) v) m) H (pl u ∷ c)
  unfolding size
  hold_replace u v o e = record { rep = rep_replace one h.rep u v o (e _ (word_same m.code (size c) v (omega (arith, h.rep.fits, h.rep.len)))); pcs = omega (arith, h.pcs); jpcs = h.jpcs }

  -- `pop`
  pub hold_pop : (m' : Buffers) → m'.code ≡ set m.code (s.pc - 1) 0 → Holds K cap (with_pc (s.pc - 1) s) m' H c
  unfolding size
  hold_pop m' e =
      let z : s.pc - 1 ≡ size c = omega (arith, h.pcs) in
      record { rep = rw (e, z) (rep_taken one h.rep); pcs = z; jpcs = h.jpcs }

-- `emit` of a word that the last instruction takes over, whose own words alone may have changed, to us; no jump is pending to here
module _ {K : Coding} {cap : ℕ} {s : State} {m : Buffers} {H : ℕ → ℕ} {c : Code} {w : PW} (h : Holds K cap s m H (pl w ∷ c)) (us : List ℕ) (n : length us ≡ length m.code) (g : (q : ℕ) → q < size c → word us q ≡ word m.code q) (z : H 0 ≡ 0)
    (behind : (q : ℕ) → pwidth w + size c ≤ q → word us q ≡ word m.code q) where
  pub hold_over : (line : ℕ) (u : PW) (v : ℕ) → pwidth u ≡ 1 + pwidth w → ((vs : List ℕ) → ((q : ℕ) → q < pwidth w + size c → word vs q ≡ word us q) → word vs (pwidth w + size c) ≡ v → K.plain vs (size c) u) →
      Ends (emit_at v line s (with_code us m)) (λ a s' m'. (a ≡ pwidth w + size c) × Became K cap m (with_pc (s.pc + 1) (with_jpc 0 s)) H (pl u ∷ c) s' m')
  unfolding size
  hold_over line u v o e = emit_at_ends v line s (with_code us m) _ (λ a b. (
    at_end,
    record {
      state = refl;
      kept = record { kinds = refl; values = refl; pool = refl };
      holds = record {
        rep = rw (words_are, at_end) (rep_instead vs (pl u) refl refl (length-set us (pwidth w + size c) v ∙ n) (λ q l. word_other us (pwidth w + size c) q v (λ y. omega arith) ∙ g q l)
            (omega (arith, o, inside a, n, h.rep.len)) (omega (arith, o, at_end)) (e vs (λ q l. word_other us (pwidth w + size c) q v (λ y. omega arith)) (word_same us (pwidth w + size c) v (omega (arith, inside a))))
            (λ q l. word_other us (pwidth w + size c) q v (λ y. omega (arith, o)) ∙ behind q (omega (arith, o)) ∙ h.rep.clean q (omega (arith, o))) h.rep);
        pcs = omega (arith, at_end, o);
        jpcs = sym z;
      };
    },
  ))
    where
      vs : List ℕ
      vs = set us (pwidth w + size c) v

      at_end : s.pc ≡ pwidth w + size c
      at_end = h.pcs

      words_are : discharged us s.pc s.jpc ≡ us
      words_are = rw (h.jpcs, z) (patch_none (length us) us s.pc no_reg s.pc)

      inside : s.pc < length (discharged us s.pc s.jpc) → pwidth w + size c < length us
      inside a = let y : s.pc < length us = rw words_are at a in omega (arith, at_end)

-- `invertjump`
pub hold_invert : {K : Coding} {cap : ℕ} {s : State} {m : Buffers} {H : ℕ → ℕ} {c : Code} {o : StepKind} {k : Bool} {x y : Rk} {ℓ : ℕ} (e : ExprContext) → e.info ≡ 1 + size c →
    Holds K cap s m H (br (cmp o k x y) (lbl ℓ) ∷ c) →
    (invertjump e s m ≡ done tt s (with_code (inverted m.code e.info) m)) × Holds K cap s (with_code (inverted m.code e.info) m) H (br (cmp o (not k) x y) (lbl ℓ) ∷ c)
unfolding size
hold_invert {s = s} {m = m} e z h = (invert_is e s m, record { rep = rw z (rep_invert h.rep); pcs = h.pcs; jpcs = h.jpcs })
