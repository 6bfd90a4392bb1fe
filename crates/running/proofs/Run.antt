-- The model's run of words that encode labelled code goes where labelled code goes, and a `Return` behind it ends the run with its registers.
-- By induction on the code: an instruction is carried out only where the outcome so far stands at it, and then its words do what it does. Nothing needs to be known of a jump that is still pending.
use Prim.Native.Nat.{ℕ, suc, ◌+◌, ◌-◌, ◌≤◌, ◌<◌}
use Rattle.std.specs.Prelude.{Bool, true, false, ◌≡◌, refl, length, get_or}
use Rattle.std.proofs.Common.{◌∙◌, subst}
use mathlib.Core.List.{List, [], ◌∷◌}
use Rattle.std.proofs.Math.Option.{some, none}
use native.Mathlib.Omega.{arith as nat}
use borrow.Author.Tests.{ne_eqb}
use Rattle.instructions.specs.Limits.{max_stack, max_constants}
use Rattle.instructions.specs.Word.{opcode_of, abc_of}
use Rattle.opcodes.specs.declared.OpCode.TheVariants as op
use Rattle.constants.specs.Entry.{Constant, nil as knil, constant_at}
use Rattle.model.specs.Values.{Value, World, fit}
use Rattle.model.specs.Jumps.{word}
use Rattle.model.specs.Running as run
use Rattle.model.specs.Running.{Program, Machine, ends, returned}
use Rattle.labelled.specs.Code.{same, same_true, Instr, width, Code, size}
use Rattle.labelled.specs.Machine.{Hist, Regs, Setting, span, Outcome, at, exit, stuck, step_at, step, exec}
use Rattle.labelled.specs.Locals.{setting_of}
use Rattle.threads.specs.Encoding.{EncI, Enc}
use Rattle.threads.specs.Coded.{LowI, Low, coded}
use Rattle.running.specs.Registers.{Holds}
use Rattle.running.specs.Reaching.{last_word}
use Rattle.running.specs.Decoding.{Abc, abc}
use Rattle.running.specs.Operands.{Lists, state, regs_law}
use Rattle.running.specs.Arriving.{At, Arrives}
use Rattle.running.proofs.Jumps.{perform_arrives}
use Rattle.running.specs.Run.{Returns, begins, lists}

module _ (Γ : Setting) (p : Program) (s : Machine) (t : List Constant) (lists : Lists p t) (most : p.frame ≤ max_stack) where
  -- one instruction, from any outcome
  step_arrives : (n : ℕ) (i : Instr) (o : Outcome) → EncI (coded t p.frame) p.words n i → LowI p.frame i → width i + n ≤ length p.words → Arrives Γ p s o → Arrives Γ p s (step Γ n i o)
  step_arrives n i (at q R h) e b l d = go (same q n) refl
    where
      go : (z : Bool) → same q n ≡ z → Arrives Γ p s (step_at Γ z n i q R h)
      go true z = perform_arrives Γ p s t lists most (subst (λ k. At Γ p s k R h) (same_true q n z) d) i e b l
      go false z = d
  step_arrives n i (exit ℓ v R h) e b l d = tt
  step_arrives n i stuck e b l d = tt

  code_arrives : At Γ p s 0 Γ.start [] → (c : Code) → Enc (coded t p.frame) p.words c → Low p.frame c → size c ≤ length p.words → Arrives Γ p s (exec Γ c)
  unfolding exec size
  code_arrives d [] e b l = d
  code_arrives d (i ∷ c) e b l = step_arrives (size c) i (exec Γ c) e.0 b.0 l (code_arrives d c e.1 b.1 (omega nat))

  -- the word that returns k values from register a on
  return_law : (rs : List Value) (R : Regs) → Holds p.frame rs R → (x n a k : ℕ) (h : Hist) → a + k ≤ p.frame → x ≡ abc_of op.Return a (suc k) 0 →
      run.execute Γ.world p Γ.varargs (opcode_of x) x (state n rs none h) ≡ ends (span k a R) h
  unfolding run.execute
  return_law rs R v x n a k h b e = let i : Abc x op.Return a (suc k) 0 = abc e (omega nat) (omega nat) (omega nat) in
      let z : suc k - 1 ≡ k = omega nat in
      rw (i.is_op, i.is_a, i.is_b, ne_eqb (suc k) 0 (λ q. omega nat), z) (regs_law Γ.world p Γ.varargs rs R v n none h k a (λ vs. ends vs h) (omega nat))

module _ (w : World) (p : Program) (t : List Constant) (locals varargs : List Value) (count : p.constants ≡ length t) (few : length t ≤ max_constants)
    (entries : (i : ℕ) → i < length t → constant_at p.pool p.kinds p.values i ≡ some (get_or t i knil)) (most : p.frame ≤ max_stack) where
  abbrev Γ : Setting
  Γ = setting_of w locals varargs

  abbrev start : Machine
  start = state 0 (fit p.frame locals) none []

  returns : (R : Regs) (h : Hist) (q a k : ℕ) → q < length p.words → At Γ p start q R h → word p.words q ≡ abc_of op.Return a (suc k) 0 → a + k ≤ p.frame → Returns w p t locals varargs count few entries most (span k a R) h
  returns R h q a k l d e b =
      let j : ℕ = d.reach.steps in
      let left : ℕ = length p.words - suc j in
      let fuel : j + suc left ≡ length p.words = omega (nat, d.reach.short) in (
        suc (j + 0),
        (
          omega (nat, d.reach.short),
          rw fuel at (d.reach.runs (suc left) 0)
              ∙ last_word w p varargs (state q d.registers none h) (span k a R) h l (return_law Γ p start t (lists w p t locals varargs count few entries most) most d.registers R d.holds (word p.words q) q a k h b e) left (j + 0),
        ),
      )

  pub ran : (c : Code) (R : Regs) (h : Hist) (a k : ℕ) → Enc (coded t p.frame) p.words c → Low p.frame c → size c < length p.words → exec (setting_of w locals varargs) c ≡ at (size c) R h →
      word p.words (size c) ≡ abc_of op.Return a (suc k) 0 → a + k ≤ p.frame → Returns w p t locals varargs count few entries most (span k a R) h
  ran c R h a k e b l o r f = returns R h (size c) a k l (subst (Arrives Γ p start) o (code_arrives Γ p start t (lists w p t locals varargs count few entries most) most (begins w p t locals varargs count few entries most) c e b (omega nat))) r f
