-- A call with the words that make its open list: the varargs or the inner call leave their values beside the frame, the call takes them, and registers stay as they are.
-- By induction on the call: an inner call's list starts at the register behind the outer call's arguments, so those and the list are all the arguments.
use Prim.Native.Nat.{ℕ, suc, ◌+◌, ◌-◌, ◌≤◌, ◌<◌}
use Rattle.std.specs.Prelude.{◌≡◌, length, set}
use Rattle.std.proofs.Math.Path.{refl}
use Rattle.std.proofs.Common.{◌∙◌}
use mathlib.Core.List.{List, [], ◌∷◌, ◌++◌}
use Rattle.std.proofs.Math.Option.{none}
use native.Mathlib.Omega.{arith as nat}
use Rattle.std.proofs.Math.Numerals.{add-one}
use borrow.Author.Tests.{lt-ltb}
use Rattle.instructions.specs.Limits.{max_stack}
use Rattle.instructions.specs.Word.{opcode_of, a_of, b_of, c_of, abc_of}
use Rattle.opcodes.specs.declared.OpCode.TheVariants as op
use Rattle.constants.specs.Entry.{Constant}
use Rattle.model.specs.Values.{Value, first, World, ask_many}
use Rattle.model.specs.Jumps.{word}
use Rattle.model.specs.Running as run
use Rattle.model.specs.Running.{Program, Open, Machine, After, goes}
use Rattle.labelled.specs.Code.{CT, cfix, cva, cct, cbase, twidth}
use Rattle.labelled.specs.Machine.{Hist, Regs, Setting, span, eval_c}
use Rattle.threads.specs.Coded.{CodesC}
use Rattle.running.specs.Registers.{Holds}
use Rattle.running.specs.Reaching.{Reach, reach_word}
use Rattle.running.specs.Decoding.{Abc, abc}
use Rattle.running.specs.Operands.{state, fit_one, puts_law, reg_law, regs_law}
use Rattle.running.specs.Calls.{all_varargs, base_low, beside}

module _ (Γ : Setting) (p : Program) (t : List Constant) (most : p.frame ≤ max_stack) (rs : List Value) (R : Regs) (holds : Holds p.frame rs R) where
  abbrev W : World
  W = Γ.world

  abbrev VS : List Value
  VS = Γ.varargs

  -- a call's word, up to its results
  module _ (x n b k c : ℕ) (h : Hist) (lk : k + b < p.frame) (lc : c < 512) where
    -- the model's continuation
    abbrev calls : Value → Machine → List Value → After
    calls f m vs = run.results W p VS m (a_of x) (c_of x) (ask_many W (f ∷ vs) m.steps)

    fixed_law : x ≡ abc_of op.Call b (suc k) c → run.execute W p VS (opcode_of x) x (state n rs none h) ≡ run.results W p VS (state n rs none h) b c (ask_many W (span (suc k) b R) h)
    unfolding run.execute
    fixed_law e = let i : Abc x op.Call b (suc k) c = abc e (omega nat) (omega nat) lc in
        rw i.is_op (reg_law W p VS rs R holds n none h (a_of x) b (λ f. run.arguments W p VS (state n rs none h) (a_of x) (b_of x) λ m vs. calls f m vs) i.is_a (omega nat)
        ∙ rw (i.is_b, i.is_a, i.is_c, add-one b) (regs_law W p VS rs R holds n none h k (suc b) (λ vs. run.results W p VS (state n rs none h) b c (ask_many W (R b ∷ vs) h)) (omega nat)))

    open_law : (vs : List Value) → x ≡ abc_of op.Call b 0 c →
        run.execute W p VS (opcode_of x) x (state n rs (beside (suc (k + b)) vs) h) ≡ run.results W p VS (state n rs none h) b c (ask_many W (span (suc k) b R ++ vs) h)
    unfolding run.execute
    open_law vs e = let i : Abc x op.Call b 0 c = abc e (omega nat) (omega nat) lc in
        let z : suc (k + b) - suc b ≡ k = omega nat in
        rw i.is_op (reg_law W p VS rs R holds n (beside (suc (k + b)) vs) h (a_of x) b (λ f. run.arguments W p VS (state n rs (beside (suc (k + b)) vs) h) (a_of x) (b_of x) λ m us. calls f m us) i.is_a (omega nat)
        ∙ rw (i.is_b, i.is_a, i.is_c, add-one b, z, lt-ltb b (suc (k + b)) (omega nat))
        (regs_law W p VS rs R holds n (beside (suc (k + b)) vs) h k (suc b) (λ us. run.results W p VS (state n rs none h) b c (ask_many W (R b ∷ (us ++ vs)) h)) (omega nat)))

  -- all words of a call, to the machine that its results make
  call_run : (u : CT) (s k : Machine) (n c : ℕ) (h : Hist) → CodesC t p.frame p.words n c u → c < 512 → twidth u + n ≤ length p.words → k.pc ≡ twidth u + n →
      ((q : ℕ) (g : Hist) → q + 1 ≡ twidth u + n → run.results W p VS (state q rs none g) (cbase u) c (eval_c Γ u R h) ≡ goes k) →
      Reach W p VS s (state n rs none h) → Reach W p VS s k
  unfolding eval_c
  call_run (cfix b j) s k n c h e lc fits at f r =
      reach_word W p VS s (state n rs none h) k r (omega nat) (omega nat) (fixed_law (word p.words n) n b j c h e.0 lc e.1 ∙ f n h (omega nat))
  call_run (cva b j) s k n c h e lc fits at f r =
      let m : Machine = state (n + 1) rs (beside (suc (j + b)) VS) h in
      let z : 1 + n ≡ n + 1 = omega nat in
      reach_word W p VS s m k (reach_word W p VS s (state n rs none h) m r (omega nat) (omega nat) (all_varargs Γ p t most rs R holds (word p.words n) n (suc (j + b)) h (omega (nat, e.0)) e.1.0))
      (omega nat) (omega nat) (open_law (word p.words (n + 1)) (n + 1) b j c h e.0 lc VS (rw z at e.1.1) ∙ f (n + 1) h (omega nat))
  call_run (cct b j u) s k n c h e lc fits at f r =
      let vs : List Value = (eval_c Γ u R h).gives in
      let g : Hist = (eval_c Γ u R h).steps in
      let m : Machine = state (twidth u + n) rs (beside (suc (j + b)) vs) g in
      reach_word W p VS s m k (call_run u s m n 0 h e.1.1.0 (omega nat) (omega nat) refl (λ q i z. rw (z, e.1.0) refl) r)
      (omega nat) (omega nat) (open_law (word p.words (twidth u + n)) (twidth u + n) b j c g e.0 lc vs e.1.1.1 ∙ f (twidth u + n) g (omega nat))

  -- a call adjusted to one value
  pub call_law : (u : CT) (s : Machine) (n : ℕ) (h : Hist) → CodesC t p.frame p.words n 2 u → twidth u + n ≤ length p.words → Reach W p VS s (state n rs none h) →
      Reach W p VS s (state (twidth u + n) (set rs (cbase u) (first (eval_c Γ u R h).gives)) none (eval_c Γ u R h).steps)
  call_law u s n h e fits r = call_run u s _ n 2 h e (omega nat) fits refl
      (λ q g z. rw (fit_one (eval_c Γ u R h).gives) (puts_law W p VS q none (eval_c Γ u R h).steps (first (eval_c Γ u R h).gives ∷ []) rs (cbase u) run.next (omega (nat, base_low Γ p t most rs R holds u n 2 e)) ∙ rw z refl)) r
