-- Jumps: a control word goes on to its Jmp where labelled code takes the jump, and skips it where it doesn't; a Jmp with a target leads there, forward.
-- A pending jump that is taken asks for nothing, so the register that its TestSet doesn't have yet is never written.
-- What rests on something that a must-fail edit breaks stands in proofs/Jumps.antt.
use Rattle.std.specs.Prelude.{ℕ, ◌+◌, ◌-◌, ◌≤◌, ◌<◌, Bool, not, ◌≡◌, List, [], ◌∷◌, length, set}
use Rattle.std.proofs.Math.Bool.{true, false}
use Rattle.std.proofs.Math.Path.{refl, ap}
use Rattle.std.proofs.Common.{◌∙◌, zero-add}
use Rattle.std.proofs.Math.Option.{Option, some, none}
use native.Mathlib.Omega.{arith as nat}
use Rattle.instructions.specs.Limits.{max_stack, max_words, no_reg}
use Rattle.instructions.specs.Word.{opcode_of, a_of, b_of, c_of, sbx_of, abc_of}
use Rattle.instructions.specs.Laws.{opcode_a_bx}
use Rattle.opcodes.specs.declared.OpCode.TheVariants as op
use Rattle.constants.specs.Entry.{Constant}
use Rattle.model.specs.Values.{Value, is_true, StepKind, global_read, index_read, call, equal, less, less_or_equal, length_of, concatenation, arithmetic, World, ask_truth}
use Rattle.model.specs.Jumps.{word}
use Rattle.model.specs.Conditions.{bit}
use Rattle.model.specs.Running as run
use Rattle.model.specs.Running.{Program, Open, Machine, After, goes, same as agrees}
use Rattle.labelled.specs.Code.{Rk, Ctrl, always, test, tset, tseta, cmp, Tgt, to, lbl, br, cwidth}
use Rattle.labelled.specs.Machine.{Hist, Regs, Setting, pick, upd, rk, at, goto, choose, compared, branch}
use Rattle.threads.specs.Words.{jmp_to}
use Rattle.threads.specs.Encoding.{comparison, Compares, Jw, EncI}
use Rattle.threads.specs.Coded.{CodesRk, LowC, coded}
use Rattle.running.specs.Registers.{Holds, holds_set}
use Rattle.running.specs.Reaching.{does}
use Rattle.running.specs.Decoding.{Abc, abc, bit_small, flag_bit, sbx_forward}
use Rattle.running.specs.Operands.{rk_small, Lists, state, to_law, reg_law, rk_law}
use Rattle.running.specs.Arriving.{At, Arrives, arrive}

-- a skip as a choice of two machines
skips : (t : Bool) (m : Machine) → run.skip_if (not t) m ≡ pick t (run.next m) (goes (run.at (m.pc + 2) m))
skips true m = refl
skips false m = refl

chosen : (t : Bool) (a b : After) → elim t as (λ _. After) [ true ↦ a | false ↦ b ] ≡ pick t a b
chosen true a b = refl
chosen false a b = refl

-- ---- the words

module _ (Γ : Setting) (p : Program) (t : List Constant) (lists : Lists p t) (most : p.frame ≤ max_stack) (rs : List Value) (R : Regs) (holds : Holds p.frame rs R) (n : ℕ) (l : Option Open) (h : Hist) (x : ℕ) where
  abbrev W : World
  W = Γ.world

  abbrev VS : List Value
  VS = Γ.varargs

  abbrev m : Machine
  m = state n rs l h

  abbrev carries : After
  carries = run.execute W p VS (opcode_of x) x m

  pub jump_law : (q : ℕ) → n < q → q ≤ max_words → x ≡ jmp_to n q → carries ≡ goes (state q rs l h)
  unfolding run.execute
  jump_law q a b e = let z : n + 1 + (q - (n + 1)) ≡ q = omega nat in
      let o : opcode_of x ≡ op.Jmp = ap opcode_of e ∙ opcode_a_bx op.Jmp 0 _ in
      let s : sbx_of x ≡ _ = ap sbx_of e ∙ sbx_forward n q a b in
      rw (o, s, z) refl

  pub test_law : (b : ℕ) (k : Bool) → b < p.frame → x ≡ abc_of op.Test b 0 (bit k) → carries ≡ pick (agrees (is_true (R b)) k) (goes (state (n + 1) rs l h)) (goes (state (n + 2) rs l h))
  unfolding run.execute
  test_law b k lb e = let i : Abc x op.Test b 0 (bit k) = abc e (omega nat) (omega nat) (omega (nat, bit_small k)) in
      rw i.is_op (reg_law W p VS rs R holds n l h (a_of x) b (λ v. run.skip_if (not (agrees (is_true v) (run.flag (c_of x)))) m) i.is_a lb ∙ rw (i.is_c, flag_bit k) (skips (agrees (is_true (R b)) k) m))

  -- with any register that fits its field
  pub keep_law : (a b : ℕ) (k : Bool) → a < 256 → b < p.frame → x ≡ abc_of op.TestSet a b (bit k) → carries ≡ pick (agrees (is_true (R b)) k) (run.to W p VS m a (R b)) (goes (state (n + 2) rs l h))
  unfolding run.execute
  keep_law a b k la lb e = let i : Abc x op.TestSet a b (bit k) = abc e la (omega nat) (omega (nat, bit_small k)) in
      rw i.is_op (reg_law W p VS rs R holds n l h (b_of x) b (λ v. elim (agrees (is_true v) (run.flag (c_of x))) [ true ↦ run.to W p VS m (a_of x) v | false ↦ run.skip_if true m ]) i.is_b lb
      ∙ chosen (agrees (is_true (R b)) (run.flag (c_of x))) (run.to W p VS m (a_of x) (R b)) (goes (state (n + 2) rs l h)) ∙ rw (i.is_a, i.is_c, flag_bit k) refl)

  abbrev comparing : StepKind → After
  comparing o = run.rk_value W p VS m (b_of x) λ u. run.rk_value W p VS m (c_of x) λ v. run.compared W p VS m (run.flag (a_of x)) (ask_truth W o (u ∷ v ∷ []) h)

  carry_compare : (o : StepKind) → Compares o → run.execute W p VS (comparison o) x m ≡ comparing o
  unfolding run.execute
  carry_compare global_read c = absurd c
  carry_compare index_read c = absurd c
  carry_compare call c = absurd c
  carry_compare equal c = refl
  carry_compare less c = refl
  carry_compare less_or_equal c = refl
  carry_compare length_of c = absurd c
  carry_compare concatenation c = absurd c
  carry_compare (arithmetic o) c = absurd c

  pub compare_law : (o : StepKind) (k : Bool) (i j : Rk) (u v : ℕ) → Compares o → CodesRk t p.frame i u → CodesRk t p.frame j v → x ≡ abc_of (comparison o) (bit k) u v →
      carries ≡ pick (agrees (compared Γ o i j R h).gives k) (goes (state (n + 1) rs l (compared Γ o i j R h).steps)) (goes (state (n + 2) rs l (compared Γ o i j R h).steps))
  compare_law o k i j u v c ci cj e =
      let f : Abc x (comparison o) (bit k) u v = abc e (omega (nat, bit_small k)) (rk_small t p.frame most i u ci) (rk_small t p.frame most j v cj) in
      rw f.is_op (carry_compare o c
      ∙ rk_law W p VS t lists rs R holds n l h (omega nat) (b_of x) u i (λ y. run.rk_value W p VS m (c_of x) λ z. run.compared W p VS m (run.flag (a_of x)) (ask_truth W o (y ∷ z ∷ []) h)) f.is_b ci
      ∙ rk_law W p VS t lists rs R holds n l h (omega nat) (c_of x) v j (λ z. run.compared W p VS m (run.flag (a_of x)) (ask_truth W o (rk i R ∷ z ∷ []) h)) f.is_c cj
      ∙ rw (f.is_a, flag_bit k) (skips (agrees (compared Γ o i j R h).gives k) (state n rs l (compared Γ o i j R h).steps)))

-- ---- where they lead

module _ (Γ : Setting) (p : Program) (s : Machine) (t : List Constant) (lists : Lists p t) (most : p.frame ≤ max_stack) where
  jump_arrives : {n : ℕ} {R : Regs} {h : Hist} (q : ℕ) → At Γ p s n R h → word p.words n ≡ jmp_to n q → n < q → q ≤ max_words → n < length p.words → At Γ p s q R h
  jump_arrives {n} {R} {h} q d e f b l = arrive Γ p s d q d.registers refl l f d.holds (jump_law Γ p t lists most d.registers R d.holds n none h (word p.words n) q f b e)

  module _ {n : ℕ} {R : Regs} {h : Hist} (d : At Γ p s n R h) where
    -- a control word that stands at n, and its Jmp
    pair : (z : Bool) (g : Tgt) (c : Ctrl) (b : Option ℕ) (rs : List Value) (S : Regs) (k : Hist) → Holds p.frame rs S →
        does Γ.world p Γ.varargs (state n d.registers none h) ≡ pick z (goes (state (n + 1) rs none k)) (goes (state (n + 2) d.registers none k)) →
        Jw (coded t p.frame) p.words (1 + n) c g → 2 + n ≤ length p.words → Arrives Γ p s (choose Γ z (goto g b S k) (at (2 + n) R k))
    pair true (to q) c b rs S k v e j l = jump_arrives q (arrive Γ p s d (n + 1) rs (omega nat) (omega nat) (omega nat) v e) j.0 j.2 j.3 (omega nat)
    pair true (lbl ℓ) c b rs S k v e j l = tt
    pair false g c b rs S k v e j l = arrive Γ p s d (n + 2) d.registers (omega nat) (omega nat) (omega nat) d.holds e

    -- a TestSet that waits for its register
    waiting : (z : Bool) (ℓ : ℕ) (b : Option ℕ) (a : After) → does Γ.world p Γ.varargs (state n d.registers none h) ≡ pick z a (goes (state (n + 2) d.registers none h)) → 2 + n ≤ length p.words →
        Arrives Γ p s (choose Γ z (goto (lbl ℓ) b R h) (at (2 + n) R h))
    waiting true ℓ b a e l = tt
    waiting false ℓ b a e l = arrive Γ p s d (n + 2) d.registers (omega nat) (omega nat) (omega nat) d.holds e

    pub branch_arrives : (c : Ctrl) (g : Tgt) → EncI (coded t p.frame) p.words n (br c g) → LowC p.frame c → cwidth c + n ≤ length p.words → Arrives Γ p s (branch Γ c g n R h)
    branch_arrives always (to q) e b l = let z : word p.words n ≡ jmp_to n q = rw (zero-add n) at e.1.0 in jump_arrives q d z (omega (nat, e.1.2)) e.1.3 (omega nat)
    branch_arrives always (lbl ℓ) e b l = tt
    branch_arrives (test r k) g e b l = pair (agrees (is_true (R r)) k) g (test r k) none d.registers R h d.holds (test_law Γ p t lists most d.registers R d.holds n none h (word p.words n) r k b e.0.0) e.1 l
    branch_arrives (tset r k) (to q) e b l = absurd e.1.1
    branch_arrives (tset r k) (lbl ℓ) e b l = waiting (agrees (is_true (R r)) k) ℓ (some r) _ (keep_law Γ p t lists most d.registers R d.holds n none h (word p.words n) no_reg r k (omega nat) b e.0.0) l
    branch_arrives (tseta a r k) g e b l = let f : After = goes (state (n + 2) d.registers none h) in
        pair (agrees (is_true (R r)) k) g (tseta a r k) none (set d.registers a (R r)) (upd a (R r) R) h (holds_set p.frame d.registers R a (R r) b.0 d.holds)
        (keep_law Γ p t lists most d.registers R d.holds n none h (word p.words n) a r k (omega (nat, b.0)) b.1 e.0.0
        ∙ ap (λ y. pick (agrees (is_true (R r)) k) y f) (to_law Γ.world p Γ.varargs n none h d.registers a a (R r) refl b.0))
        e.1 l
    branch_arrives (cmp o k i j) g e b l =
        pair (agrees (compared Γ o i j R h).gives k) g (cmp o k i j) none d.registers R (compared Γ o i j R h).steps d.holds
        (compare_law Γ p t lists most d.registers R d.holds n none h (word p.words n) o k i j e.0.0 e.0.1 e.0.3 e.0.4 e.0.5 e.0.2) e.1 l
