-- A call with the words that make its open list: the varargs or the inner call leave their values beside the frame, the call takes them, and registers stay as they are.
-- By induction on the call: an inner call's list starts at the register behind the outer call's arguments, so those and the list are all the arguments.
-- What rests on something that a must-fail edit breaks stands in proofs/Calls.antt.
use Prim.Native.Nat.{ℕ, ◌+◌, ◌≤◌, ◌<◌}
use Rattle.std.specs.Prelude.{◌≡◌}
use Rattle.std.proofs.Math.Path.{refl}
use mathlib.Core.List.{List}
use Rattle.std.proofs.Math.Option.{Option, some, none}
use native.Mathlib.Omega.{arith as nat}
use Rattle.instructions.specs.Limits.{max_stack}
use Rattle.instructions.specs.Word.{opcode_of, abc_of}
use Rattle.opcodes.specs.declared.OpCode.TheVariants as op
use Rattle.constants.specs.Entry.{Constant}
use Rattle.model.specs.Values.{Value, World}
use Rattle.model.specs.Running as run
use Rattle.model.specs.Running.{Program, Open, Machine, After, goes}
use Rattle.labelled.specs.Code.{CT, cfix, cva, cct, cbase}
use Rattle.labelled.specs.Machine.{Hist, Regs, Setting}
use Rattle.threads.specs.Coded.{CodesC}
use Rattle.running.specs.Registers.{Holds}
use Rattle.running.specs.Decoding.{Abc, abc}
use Rattle.running.specs.Operands.{state}

-- values beside the frame, from register b on
abbrev pub beside : ℕ → List Value → Option Open
beside b vs = some (record { base = b; values = vs })

module _ (Γ : Setting) (p : Program) (t : List Constant) (most : p.frame ≤ max_stack) (rs : List Value) (R : Regs) (holds : Holds p.frame rs R) where
  abbrev W : World
  W = Γ.world

  abbrev VS : List Value
  VS = Γ.varargs

  -- the varargs, all of them
  pub all_varargs : (x n a : ℕ) (h : Hist) → a ≤ p.frame → x ≡ abc_of op.VarArg a 0 0 → run.execute W p VS (opcode_of x) x (state n rs none h) ≡ goes (state (n + 1) rs (beside a VS) h)
  unfolding run.execute
  all_varargs x n a h la e = let i : Abc x op.VarArg a 0 0 = abc e (omega nat) (omega nat) (omega nat) in rw (i.is_op, i.is_a, i.is_b) refl

  pub base_low : (u : CT) (n c : ℕ) → CodesC t p.frame p.words n c u → cbase u < p.frame
  base_low (cfix b j) n c e = omega (nat, e.0)
  base_low (cva b j) n c e = omega (nat, e.0)
  base_low (cct b j u) n c e = omega (nat, e.0)
