-- Jumps: a control word goes on to its Jmp where labelled code takes the jump, and skips it where it doesn't; a Jmp with a target leads there, forward.
-- A pending jump that is taken asks for nothing, so the register that its TestSet doesn't have yet is never written.
use Rattle.std.specs.Prelude.{ℕ, ◌+◌, ◌≤◌, List, length}
use Rattle.instructions.specs.Limits.{max_stack}
use Rattle.constants.specs.Entry.{Constant}
use Rattle.model.specs.Running.{Program, Machine}
use Rattle.labelled.specs.Code.{Instr, pl, br, width}
use Rattle.labelled.specs.Machine.{Hist, Regs, Setting, perform}
use Rattle.threads.specs.Encoding.{EncI}
use Rattle.threads.specs.Coded.{LowI, coded}
use Rattle.running.specs.Operands.{Lists}
use Rattle.running.specs.Arriving.{At, Arrives}
use Rattle.running.proofs.Arriving.{plain_arrives}
use Rattle.running.specs.Jumps.{branch_arrives}

-- ---- where they lead

module _ (Γ : Setting) (p : Program) (s : Machine) (t : List Constant) (lists : Lists p t) (most : p.frame ≤ max_stack) where
  module _ {n : ℕ} {R : Regs} {h : Hist} (d : At Γ p s n R h) where
    -- an instruction carried out
    pub perform_arrives : (i : Instr) → EncI (coded t p.frame) p.words n i → LowI p.frame i → width i + n ≤ length p.words → Arrives Γ p s (perform Γ i n R h)
    perform_arrives (pl x) e b l = plain_arrives Γ p s d t lists most x e l
    perform_arrives (br c g) e b l = branch_arrives Γ p s t lists most d c g e b l
