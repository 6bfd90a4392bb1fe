-- Where a run has come: to a word, with registers that hold labelled code's, no open list and the same steps. An outcome of labelled code that is at a word is to be arrived at;
-- a pending jump asks for nothing. A plain instruction leads on to where it falls in labelled code, by the laws of its words.
use Rattle.std.specs.Prelude.{ℕ, suc, ◌+◌, ◌≤◌, true, List, [], length, set}
use Rattle.std.proofs.Common.{arith as nat}
use Rattle.std.proofs.Math.Option.{none}
use Rattle.std.proofs.lemmas.List.Edits.{sets}
use Rattle.instructions.specs.Limits.{max_stack}
use Rattle.constants.specs.Entry.{Constant}
use Rattle.model.specs.Values.{Value, truth, first, fit}
use Rattle.model.specs.Jumps.{word}
use Rattle.model.specs.Running.{Program, Machine}
use Rattle.labelled.specs.Code.{PW, setw, lbs, mark, nilw, callw, selfw, cbase, pwidth}
use Rattle.labelled.specs.Machine.{Hist, Regs, Setting, upd, eval, eval_c, eval_s, onto, wrote, took}
use Rattle.threads.specs.Coded.{Codes}
use Rattle.running.specs.Registers.{holds_set, holds_nils}
use Rattle.running.specs.Operands.{Lists}
use Rattle.running.specs.Plain.{load_bool, nil_law, self_law}
use Rattle.running.proofs.Plain.{set_law}
use Rattle.running.specs.Calls.{base_low}
use Rattle.running.proofs.Calls.{call_law}
use Rattle.running.specs.Arriving.{At, arrive}

module _ (Γ : Setting) (p : Program) (s : Machine) where
  module _ {n : ℕ} {R : Regs} {h : Hist} (d : At Γ p s n R h) where
    module _ (t : List Constant) (lists : Lists p t) (most : p.frame ≤ max_stack) where
      pub plain_arrives : (x : PW) → Codes t p.frame p.words n x → pwidth x + n ≤ length p.words → At Γ p s (onto Γ x n) (wrote Γ x R h) (took Γ x R h)
      plain_arrives (setw a x) c l = let v : Value = (eval Γ x R h).gives in
          arrive Γ p s d (n + 1) (set d.registers a v) (omega nat) (omega nat) (omega nat) (holds_set p.frame d.registers R a v c.0 d.holds)
          (set_law Γ p t lists most d.registers R d.holds n none h (word p.words n) a c.0 x c.1)
      plain_arrives (lbs a b) c l =
          arrive Γ p s d (n + 2) (set d.registers a (truth b)) (omega nat) (omega nat) (omega nat) (holds_set p.frame d.registers R a (truth b) c.0 d.holds)
          (load_bool Γ p t lists most d.registers R d.holds n none h (word p.words n) a c.0 b true c.1)
      plain_arrives mark c l = d
      plain_arrives (nilw a k) c l =
          arrive Γ p s d (n + 1) (sets d.registers a (fit (suc k) [])) (omega nat) (omega nat) (omega nat) (holds_nils p.frame k d.registers R a c.0 d.holds)
          (nil_law Γ p t lists most d.registers R d.holds n none h (word p.words n) a k c.0 c.1)
      plain_arrives (callw u) c l = let v : Value = first (eval_c Γ u R h).gives in record {
        registers = set d.registers (cbase u) v;
        holds = holds_set p.frame d.registers R (cbase u) v (base_low Γ p t most d.registers R d.holds u n 2 c) d.holds;
        reach = call_law Γ p t most d.registers R d.holds u s n h c l d.reach;
      }
      plain_arrives (selfw a o k) c l = let rs : List Value = set d.registers (suc a) (R o) in let S : Regs = upd (suc a) (R o) R in let v : Value = (eval_s Γ a o k R h).gives in
          arrive Γ p s d (n + 1) (set rs a v) (omega nat) (omega nat) (omega nat) (holds_set p.frame rs S a v (omega (nat, c.1.0)) (holds_set p.frame d.registers R (suc a) (R o) c.1.0 d.holds))
          (self_law Γ p t lists most d.registers R d.holds n none h (word p.words n) a o k c.0 c.1.0 c.1.1.0 c.1.1.1.0 c.1.1.1.1)
