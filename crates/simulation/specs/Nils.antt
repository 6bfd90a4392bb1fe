-- `emit_nil` of one register is what labelled code does by its last instruction: nothing where there is no word, a longer `LoadNil` where one adjoins, else a word of its own.
-- A label at the word to come shows as a mark or as another word, which no `LoadNil` is.
use Prim.Native.Nat.{ℕ, suc, ◌+◌, ◌-◌, ◌≤◌, ◌<◌}
use Rattle.std.specs.Prelude.{Bool, true, false, ◌&&◌, ◌≡◌, set, eqb, leb, ltb}
use Rattle.std.proofs.Math.Path.{refl}
use Rattle.std.proofs.Common.{ap, ◌∙◌, zero-add}
use mathlib.Core.List.{List, [], ◌∷◌}
use native.Mathlib.Omega.{arith}
use borrow.Author.Tests.{le-leb, lt-leb, eq-eqb, ne_eqb, leb-true, leb-false, ltb-true, ltb-false}
use Rattle.opcodes.specs.OpCodes.{code_of}
use Rattle.instructions.specs.Word.{a_of, b_of, set_b_of, abc_of}
use Rattle.instructions.specs.Laws.{op_abc, a_abc, b_abc, set_b_abc}
use Rattle.opcodes.specs.declared.OpCode.{OpCode}
use Rattle.opcodes.specs.declared.OpCode.TheVariants as op
use Rattle.constants.specs.Entry.{Constant}
use Rattle.folding.specs.declared.Arith.TheVariants as ar
use Rattle.model.specs.Values.{nil, truth, number, text, other}
use Rattle.model.specs.declared.State.{State}
use Rattle.model.specs.Steps.{Buffers, done, and_then, skip, change_words}
use Rattle.model.specs.Jumps.{word, is_op}
use Rattle.model.specs.Conditions.{bit}
use Rattle.model.specs.Emission.{adjoins, load_nil, emit_nil}
use Rattle.labelled.specs.Code.{Ex, val, cp, glob, idx, ari, neg, len, notx, cat, vfst, CT, cfix, cva, cct, twidth, Ctrl, always, test, tset, tseta, cmp, Tgt, to, lbl, setw, lbs, mark, nilw, callw, selfw, pl, br, Code, size}
use Rattle.labelled.specs.Machine.{pick}
use Rattle.labelled.specs.Emission.{St, push, in_range, extend, nil_top}
use Rattle.threads.specs.Words.{IsJ, op_jmp, is_jmp}
use Rattle.threads.specs.Encoding.{Jw, Enc}
use Rattle.threads.specs.Represents.{set_h}
use Rattle.threads.specs.Holding.{Ends, gives, ends_then, Aside, with_code}
use Rattle.threads.specs.Coded.{CodesX, CodesC, coded, op_x, codes_op}
use Rattle.simulation.specs.Sim.{Env, NoNil, Apart, labelled_here, other_word, Sim}
use Rattle.simulation.specs.Steps.{aside_refl, set_other, sim_emit, sim_replace}
use Rattle.simulation.specs.Registers.{chosen}

-- ---- the last word is no `LoadNil`

abbrev Not : OpCode → Type 0
Not o = eqb (code_of o) (code_of op.LoadNil) ≡ false

other_abc : (w : ℕ) (o : OpCode) (a b c : ℕ) → Not o → w ≡ abc_of o a b c → is_op op.LoadNil w ≡ false
other_abc w o a b c n e = rw (e, op_abc o a b c) n

other_jmp : (w : ℕ) → IsJ w → is_op op.LoadNil w ≡ false
other_jmp w h = rw (op_jmp w h) refl

-- no word that sets one register is
x_not : (x : Ex) → Not (op_x x)
x_not (val nil) = refl
x_not (val (truth b)) = refl
x_not (val (number n)) = refl
x_not (val (text t)) = refl
x_not (val (other i)) = refl
x_not (cp r) = refl
x_not (glob g) = refl
x_not (idx r k) = refl
x_not (ari ar.Add x y) = refl
x_not (ari ar.Sub x y) = refl
x_not (ari ar.Mul x y) = refl
x_not (ari ar.Div x y) = refl
x_not (ari ar.Mod x y) = refl
x_not (ari ar.Pow x y) = refl
x_not (ari ar.Unm x y) = refl
x_not (neg r) = refl
x_not (len r) = refl
x_not (notx r) = refl
x_not (cat b k) = refl
x_not vfst = refl

module _ (t : List Constant) (F : ℕ) where
  other_x : (w a : ℕ) (x : Ex) → CodesX t F w a x → is_op op.LoadNil w ≡ false
  other_x w a x h = rw (codes_op t F w a x h) (x_not x)

  other_c : (ws : List ℕ) (n c : ℕ) (u : CT) (q : ℕ) → CodesC t F ws n c u → twidth u + n ≡ suc q → is_op op.LoadNil (word ws q) ≡ false
  other_c ws n c (cfix b k) q h e = let z : q ≡ n = omega arith in rw z (other_abc (word ws n) op.Call b (suc k) c refl h.1)
  other_c ws n c (cva b k) q h e = let z : q ≡ 1 + n = omega arith in rw z (other_abc (word ws (1 + n)) op.Call b 0 c refl h.1.1)
  other_c ws n c (cct b k u) q h e = let z : q ≡ twidth u + n = omega arith in rw z (other_abc (word ws (twidth u + n)) op.Call b 0 c refl h.1.1.1)

  other_j : (ws : List ℕ) (p : ℕ) (k : Ctrl) (g : Tgt) → Jw (coded t F) ws p k g → is_op op.LoadNil (word ws p) ≡ false
  other_j ws p k (to q) h = rw h.0 (other_jmp _ (is_jmp _))
  other_j ws p k (lbl ℓ) h = other_jmp (word ws p) h.0

  -- where labelled code's last instruction is none
  pub last_other : (ws : List ℕ) (c : Code) (q : ℕ) → Enc (coded t F) ws c → NoNil c → size c ≡ suc q → is_op op.LoadNil (word ws q) ≡ false
  unfolding size
  last_other ws [] q h n e = absurd n
  last_other ws (pl (setw a x) ∷ c) q h n e = let z : q ≡ size c = omega arith in rw z (other_x (word ws (size c)) a x h.0.1)
  last_other ws (pl (lbs a b) ∷ c) q h n e = let z : q ≡ size c = omega arith in rw z (other_abc (word ws (size c)) op.LoadBool a (bit b) 1 refl h.0.1)
  last_other ws (pl mark ∷ c) q h n e = last_other ws c q h.1 n (omega arith)
  last_other ws (pl (nilw a k) ∷ c) q h n e = absurd n
  last_other ws (pl (callw u) ∷ c) q h n e = other_c ws (size c) 2 u q h.0 (omega arith)
  last_other ws (pl (selfw a o k) ∷ c) q h n e = let z : q ≡ size c = omega arith in rw z (other_abc (word ws (size c)) op.OpSelf a o h.0.0 refl h.0.1.1.1.1)
  last_other ws (br always g ∷ c) q h n e = let z : q ≡ 0 + size c = omega arith in rw z (other_j ws (0 + size c) always g h.0.1)
  last_other ws (br (test b k) g ∷ c) q h n e = let z : q ≡ 1 + size c = omega arith in rw z (other_j ws (1 + size c) (test b k) g h.0.1)
  last_other ws (br (tset b k) g ∷ c) q h n e = let z : q ≡ 1 + size c = omega arith in rw z (other_j ws (1 + size c) (tset b k) g h.0.1)
  last_other ws (br (tseta a b k) g ∷ c) q h n e = let z : q ≡ 1 + size c = omega arith in rw z (other_j ws (1 + size c) (tseta a b k) g h.0.1)
  last_other ws (br (cmp o k x y) g ∷ c) q h n e = let z : q ≡ 1 + size c = omega arith in rw z (other_j ws (1 + size c) (cmp o k x y) g h.0.1)

  -- and there is one
  pub last_some : (c : Code) → NoNil c → 1 ≤ size c
  unfolding size
  last_some [] n = absurd n
  last_some (pl (setw a x) ∷ c) n = omega arith
  last_some (pl (lbs a b) ∷ c) n = omega arith
  last_some (pl mark ∷ c) n = let z : 1 ≤ size c = last_some c n in omega arith
  last_some (pl (nilw a k) ∷ c) n = absurd n
  last_some (pl (callw (cfix b k)) ∷ c) n = omega arith
  last_some (pl (callw (cva b k)) ∷ c) n = omega arith
  last_some (pl (callw (cct b k u)) ∷ c) n = omega arith
  last_some (pl (selfw a o k) ∷ c) n = omega arith
  last_some (br always g ∷ c) n = omega arith
  last_some (br (test b k) g ∷ c) n = omega arith
  last_some (br (tset b k) g ∷ c) n = omega arith
  last_some (br (tseta a b k) g ∷ c) n = omega arith
  last_some (br (cmp o k x y) g ∷ c) n = omega arith

-- ---- the step

nil_is : (r : ℕ) (s : State) (m : Buffers) → emit_nil r s m ≡ pick (leb s.label s.pc) (pick (eqb s.pc 0) (done tt s m) (pick (adjoins (word m.code (s.pc - 1)) r)
    (pick (ltb (b_of (word m.code (s.pc - 1))) r) (done tt s (with_code (set m.code (s.pc - 1) (set_b_of (word m.code (s.pc - 1)) r)) m)) (done tt s m)) (load_nil r s m))) (load_nil r s m)
unfolding emit_nil and_then
nil_is r s m = chosen (leb s.label s.pc) _ (load_nil r) s m ∙ ap (λ z. pick (leb s.label s.pc) z (load_nil r s m)) (chosen (eqb s.pc 0) skip _ s m ∙ ap (λ z. pick (eqb s.pc 0) (done tt s m) z)
    (chosen (adjoins (word m.code (s.pc - 1)) r) _ (load_nil r) s m ∙ ap (λ z. pick (adjoins (word m.code (s.pc - 1)) r) z (load_nil r s m)) (chosen (ltb (b_of (word m.code (s.pc - 1))) r) (change_words (λ c. set c (s.pc - 1) (set_b_of (word c (s.pc - 1)) r))) skip s m)))

size_none : size [] ≡ 0
unfolding size
size_none = refl

-- a word of its own where a label lies here
picked_label : {A : Type 0} (a : Bool) (x y : A) → a ≡ false → pick a x y ≡ y
picked_label a x y e = rw e refl

picked_other : {A : Type 0} (a b c : Bool) (x y z : A) → b ≡ false → c ≡ false → pick a (pick b x (pick c y z)) z ≡ z
picked_other true b c x y z p q = rw (p, q) refl
picked_other false b c x y z p q = refl

module _ {Γ : Env} {s : State} {m : Buffers} {H : ℕ → ℕ} (σ : St) (h : Sim Γ s m H σ.code σ.free σ.tab) (r : ℕ) (below : r < s.frame) where
  -- the lists of all labels but 0 are as they were
  abbrev pub Niled : State → Buffers → St → Type 0
  Niled s' m' τ = Aside s s' × ((G : ℕ → ℕ) × (((ℓ : ℕ) → 1 ≤ ℓ → G ℓ ≡ H ℓ) × Sim Γ s' m' G τ.code τ.free τ.tab))

  own_word : Ends (load_nil r s m) (λ u s' m'. Niled s' m' (push (pl (nilw r 0)) σ))
  unfolding load_nil push and_then
  own_word = ends_then (sim_emit h (nilw r 0) (abc_of op.LoadNil r r 0) refl (λ us e. (omega arith, rw (zero-add r) e)))
      (λ a s' m' q. gives tt s' m' refl (q.1.0, (set_h 0 0 H, ((λ ℓ l. set_other 0 0 H ℓ (λ z. omega arith)), q.1.1))))

  -- labelled code that has another last instruction, or a mark
  rest : (c : Code) → Sim Γ s m H c σ.free σ.tab → Apart c s → Ends (emit_nil r s m) (λ u s' m'. Niled s' m' (push (pl (nilw r 0)) σ))
  rest c hc (labelled_here l) = rw (nil_is r s m ∙ picked_label (leb s.label s.pc) _ _ (lt-leb s.label s.pc l)) own_word
  rest c hc (other_word n) =
      let p : 1 ≤ s.pc = omega (arith, hc.holds.pcs, last_some σ.tab s.frame c n) in
      let o : is_op op.LoadNil (word m.code (s.pc - 1)) ≡ false = last_other σ.tab s.frame m.code c (s.pc - 1) hc.holds.rep.enc n (omega (arith, hc.holds.pcs)) in
      rw (nil_is r s m ∙ picked_other (leb s.label s.pc) (eqb s.pc 0) (adjoins (word m.code (s.pc - 1)) r) _ _ _ (ne_eqb s.pc 0 (λ z. omega arith)) (rw o refl)) own_word

  -- a `LoadNil` that reaches or adjoins the register
  longer_nil : (a k : ℕ) (c : Code) → Sim Γ s m H (pl (nilw a k) ∷ c) σ.free σ.tab → Ends (emit_nil r s m) (λ u s' m'. Niled s' m' (extend (in_range a k r) (leb r (k + a)) a k r c σ))
  unfolding size
  longer_nil a k c hc = rw (nil_is r s m, le-leb s.label s.pc hc.marks, ne_eqb s.pc 0 (λ z. omega (arith, at_end)), here_is, w_is, a_is, b_is, op_abc op.LoadNil a (k + a) 0)
      (go (leb a r) (leb r (k + a + 1)) (leb r (suc (k + a))) (ltb (k + a) r) (leb r (k + a)) refl refl refl refl)
    where
      at_end : s.pc ≡ suc (size c)
      at_end = omega (arith, hc.holds.pcs)

      here_is : s.pc - 1 ≡ size c
      here_is = omega (arith, at_end)

      w_is : word m.code (size c) ≡ abc_of op.LoadNil a (k + a) 0
      w_is = hc.holds.rep.enc.0.1

      low : k + a < 250
      low = omega (arith, hc.holds.rep.enc.0.0, hc.most)

      a_is : a_of (abc_of op.LoadNil a (k + a) 0) ≡ a
      a_is = a_abc op.LoadNil a (k + a) 0 ∙ omega (arith, low)

      b_is : b_of (abc_of op.LoadNil a (k + a) 0) ≡ k + a
      b_is = b_abc op.LoadNil a (k + a) 0 ∙ omega (arith, low)

      own : Ends (load_nil r s m) (λ z s' m'. Niled s' m' (push (pl (nilw r 0)) σ))
      own = own_word

      go : (x y y' u v : Bool) → leb r (k + a + 1) ≡ y → leb r (suc (k + a)) ≡ y' → ltb (k + a) r ≡ u → leb r (k + a) ≡ v →
          Ends (pick (x && y) (pick u (done (tt {0}) s (with_code (set m.code (size c) (set_b_of (abc_of op.LoadNil a (k + a) 0) r)) m)) (done (tt {0}) s m)) (load_nil r s m)) (λ z s' m'. Niled s' m' (extend (x && y') v a k r c σ))
      go false y y' u v e₁ e₂ e₃ e₄ = own
      go true false false u v e₁ e₂ e₃ e₄ = own
      go true false true u v e₁ e₂ e₃ e₄ = absurd (omega (arith, leb-false r (k + a + 1) e₁, leb-true r (suc (k + a)) e₂))
      go true true false u v e₁ e₂ e₃ e₄ = absurd (omega (arith, leb-true r (k + a + 1) e₁, leb-false r (suc (k + a)) e₂))
      go true true true true true e₁ e₂ e₃ e₄ = absurd (omega (arith, ltb-true (k + a) r e₃, leb-true r (k + a) e₄))
      go true true true false false e₁ e₂ e₃ e₄ = absurd (omega (arith, ltb-false (k + a) r e₃, leb-false r (k + a) e₄))
      go true true true false true e₁ e₂ e₃ e₄ = gives tt s m refl (aside_refl hc, (H, ((λ ℓ l. refl), hc)))
      go true true true true false e₁ e₂ e₃ e₄ =
          let z : r ≡ suc k + a = omega (arith, ltb-true (k + a) r e₃, leb-true r (suc (k + a)) e₂) in
          gives tt s _ refl (aside_refl hc, (H, ((λ ℓ l. refl), sim_replace refl hc (nilw a (suc k)) _ refl hc.marks (λ us q. (omega (arith, z), q ∙ set_b_abc op.LoadNil a (k + a) 0 r ∙ rw z refl)))))

  nil_at : (c : Code) → Sim Γ s m H c σ.free σ.tab → Ends (emit_nil r s m) (λ u s' m'. Niled s' m' (nil_top c r σ))
  nil_at [] hc = rw (nil_is r s m, le-leb s.label s.pc hc.marks, eq-eqb s.pc 0 (none hc)) (gives tt s m refl (aside_refl h, (H, ((λ ℓ l. refl), h))))
    where
      none : Sim Γ s m H [] σ.free σ.tab → s.pc ≡ 0
      none q = q.holds.pcs ∙ size_none
  nil_at (pl (setw a x) ∷ c) hc = rest _ hc (other_word tt)
  nil_at (pl (lbs a b) ∷ c) hc = rest _ hc (other_word tt)
  nil_at (pl mark ∷ c) hc = rest _ hc (skipped hc.marks)
    where
      skipped : Apart c s → Apart (pl mark ∷ c) s
      skipped (labelled_here l) = labelled_here l
      skipped (other_word n) = other_word n
  nil_at (pl (nilw a k) ∷ c) hc = longer_nil a k c hc
  nil_at (pl (callw u) ∷ c) hc = rest _ hc (other_word tt)
  nil_at (pl (selfw a o k) ∷ c) hc = rest _ hc (other_word tt)
  nil_at (br k g ∷ c) hc = rest _ hc (other_word tt)

  -- `emit_nil`
  pub sim_nil : Ends (emit_nil r s m) (λ u s' m'. Niled s' m' (nil_top σ.code r σ))
  sim_nil = nil_at σ.code h
