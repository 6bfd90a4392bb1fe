-- Where a run has come: to a word, with registers that hold labelled code's, no open list and the same steps. An outcome of labelled code that is at a word is to be arrived at;
-- a pending jump asks for nothing. A plain instruction leads on to where it falls in labelled code, by the laws of its words.
-- What rests on something that a must-fail edit breaks stands in proofs/Arriving.antt.
use Rattle.std.specs.Prelude.{ℕ, ◌<◌, ◌≡◌, List, length}
use Rattle.std.proofs.Common.{subst}
use Rattle.std.proofs.Math.Option.{none}
use Rattle.model.specs.Values.{Value}
use Rattle.model.specs.Running.{Program, Machine, goes}
use Rattle.labelled.specs.Machine.{Hist, Regs, Setting, Outcome, at, exit, stuck}
use Rattle.running.specs.Registers.{Holds}
use Rattle.running.specs.Reaching.{does, Reach, reach_word}
use Rattle.running.specs.Operands.{state}

module _ (Γ : Setting) (p : Program) (s : Machine) where
  -- the run from s has come to word n
  pub record At (n : ℕ) (R : Regs) (h : Hist) : Type 0 where
    pub registers : List Value
    pub holds : Holds p.frame registers R
    pub reach : Reach Γ.world p Γ.varargs s (state n registers none h)

  abbrev pub Arrives : Outcome → Type 0
  Arrives (at n R h) = At n R h
  Arrives (exit ℓ b R h) = Unit {0}
  Arrives stuck = Unit {0}

  module _ {n : ℕ} {R : Regs} {h : Hist} (d : At n R h) where
    -- by one more word, to place k
    pub arrive : (k : ℕ) {q : ℕ} (rs : List Value) {S : Regs} {g : Hist} → k ≡ q → n < length p.words → n < k → Holds p.frame rs S →
        does Γ.world p Γ.varargs (state n d.registers none h) ≡ goes (state k rs none g) → At q S g
    arrive k rs {S = S} {g = g} z l f b e = subst (λ q. At q S g) z (record { registers = rs; holds = b; reach = reach_word Γ.world p Γ.varargs s (state n d.registers none h) (state k rs none g) d.reach l f e })
