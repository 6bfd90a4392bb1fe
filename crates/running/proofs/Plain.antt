-- Single words that are no jumps: each does in the run what it does in labelled code, one word further on (`LoadBool` that skips: two).
-- Its fields read back, its operands are what labelled code reads, and then both work out the same.
use Prim.Native.Nat.{ℕ, suc, ◌+◌, ◌-◌, ◌≤◌, ◌<◌}
use Rattle.std.specs.Prelude.{◌≡◌, List, set}
use Rattle.std.proofs.Common.{◌∙◌}
use Rattle.std.proofs.Math.Option.{Option}
use native.Mathlib.Omega.{arith as nat}
use borrow.Author.Tests.{lt-ltb}
use Rattle.instructions.specs.Limits.{max_stack}
use Rattle.instructions.specs.Word.{opcode_of, a_of, abc_of}
use Rattle.opcodes.specs.declared.OpCode.TheVariants as op
use Rattle.constants.specs.Entry.{Constant}
use Rattle.model.specs.Values.{Value, World}
use Rattle.model.specs.Running as run
use Rattle.model.specs.Running.{Program, Open, Machine, After, goes}
use Rattle.labelled.specs.Code.{Ex, val, cp, glob, idx, ari, neg, len, notx, cat, vfst}
use Rattle.labelled.specs.Machine.{Hist, Regs, Setting, cats, eval}
use Rattle.threads.specs.Coded.{CodesX}
use Rattle.running.specs.Registers.{Holds}
use Rattle.running.specs.Decoding.{Abc, abc}
use Rattle.running.specs.Operands.{Lists, state, regs_law}
use Rattle.running.specs.Plain.{arith_law, global_law, index_law, joined_cats, len_law, move_law, not_law, unm_law, value_law, vararg_law, writing}

module _ (Γ : Setting) (p : Program) (t : List Constant) (lists : Lists p t) (most : p.frame ≤ max_stack) (rs : List Value) (R : Regs) (holds : Holds p.frame rs R) (n : ℕ) (l : Option Open) (h : Hist) where
  abbrev W : World
  W = Γ.world

  abbrev VS : List Value
  VS = Γ.varargs

  abbrev m : Machine
  m = state n rs l h

  abbrev carries : ℕ → After
  carries x = run.execute W p VS (opcode_of x) x m

  -- register a gets v after the steps g
  abbrev writes : ℕ → Value → Hist → After
  writes a v g = goes (state (n + 1) (set rs a v) l g)

  module _ (x a : ℕ) (la : a < p.frame) where
    concat_law : (b k : ℕ) → 1 ≤ k → k + b < p.frame → x ≡ abc_of op.Concat a b (k + b) → carries x ≡ writes a (cats Γ k b R h).gives (cats Γ k b R h).steps
    unfolding run.execute
    concat_law b k one lk e = let i : Abc x op.Concat a b (k + b) = abc e (omega nat) (omega nat) (omega nat) in
        let z : k + b + 1 - b ≡ suc k = omega nat in
        rw (i.is_op, i.is_b, i.is_c, lt-ltb b (k + b) (omega nat), z)
        (regs_law W p VS rs R holds n l h (suc k) b (λ vs. run.computed W p VS m (a_of x) (run.joined W p VS vs h)) (omega nat)
        ∙ rw (joined_cats Γ p t lists most rs R holds n l h k b) (writing Γ p t lists most rs R holds n l h x a la (cats Γ k b R h).gives (cats Γ k b R h).steps i.is_a))

    -- what a word that sets one register works out
    pub set_law : (e : Ex) → CodesX t p.frame x a e → carries x ≡ writes a (eval Γ e R h).gives (eval Γ e R h).steps
    unfolding eval
    set_law (val v) c = value_law Γ p t lists most rs R holds n l h x a la v c
    set_law (cp r) c = move_law Γ p t lists most rs R holds n l h x a la r c.0 c.1
    set_law (glob g) c = global_law Γ p t lists most rs R holds n l h x a la g c.0 c.1
    set_law (idx r k) c = index_law Γ p t lists most rs R holds n l h x a la r c.1.0 k c.0 c.1.1.0 c.1.1.1
    set_law (ari o j k) c = arith_law Γ p t lists most rs R holds n l h x a la o j k c.0 c.1.0 c.1.1.0 c.1.1.1.0 c.1.1.1.1.0 c.1.1.1.1.1
    set_law (neg r) c = unm_law Γ p t lists most rs R holds n l h x a la r c.0 c.1
    set_law (len r) c = len_law Γ p t lists most rs R holds n l h x a la r c.0 c.1
    set_law (notx r) c = not_law Γ p t lists most rs R holds n l h x a la r c.0 c.1
    set_law (cat b k) c = concat_law b k c.0 c.1.0 c.1.1
    set_law vfst c = vararg_law Γ p t lists most rs R holds n l h x a la c
