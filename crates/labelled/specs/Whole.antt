-- The theorem about labelled code: its run, from the locals and nil elsewhere, ends at its end with the values of the formulas in the registers behind the locals, and with the reading's steps;
-- and its constants are in order. It holds because each expression is good, and because a local that is found stands in the register of its name.
-- What rests on something that a must-fail edit breaks stands in proofs/Whole.antt.
use Rattle.std.specs.Prelude.{ℕ, ◌<◌, ◌≡◌, List, [], length}
use Rattle.std.proofs.Common.{ap, sym, ◌∙◌}
use Rattle.cursor.specs.declared.Text.{Text}
use Rattle.chunk.specs.Ast.{Exprs}
use Rattle.model.specs.Values.{Value, World, Taken}
use Rattle.model.specs.Reading.{read_formulas}
use Rattle.labelled.specs.Code.{size}
use Rattle.labelled.specs.Machine.{Regs, Setting, span, at, exec}
use Rattle.labelled.specs.Emission.{St, flush}
use Rattle.labelled.specs.Outcomes.{exec_flush, size_flush}
use Rattle.labelled.specs.Firm.{from_at}
use Rattle.labelled.specs.Faithful.{count, Ran}
use Rattle.labelled.specs.Locals.{setting_of, finds}

-- the run of a state's code ends with k values and the steps of a reading, the values in the registers from n on, and the registers below are as they were
pub record Ends (Γ : Setting) (s : St) (n k : ℕ) (r : Taken (List Value)) : Type 0 where
  pub registers : Regs
  pub ends : exec Γ s.code ≡ at (size s.code) registers r.steps
  pub values : span k n registers ≡ r.gives
  pub locals_kept : (i : ℕ) → i < n → registers i ≡ Γ.start i

module _ (w : World) (chunk : List ℕ) (names : List Text) (locals varargs : List Value) (each : length locals ≡ length names) (fs : Exprs) where
  abbrev Γ₀ : Setting
  Γ₀ = setting_of w locals varargs

  abbrev reading : Taken (List Value)
  reading = read_formulas w chunk names locals varargs fs []

  pub ran_ends : (s : St) → Ran Γ₀ chunk names locals (finds w chunk names locals varargs each) fs (length locals) s Γ₀.start [] → Ends Γ₀ (flush s) (length locals) (count fs) reading
  ran_ends s q = record {
    registers = q.rg;
    ends = exec_flush Γ₀ s ∙ from_at Γ₀ s (size s.code) q.rg q.hs q.is ∙ ap (λ h. at (size s.code) q.rg h) (ap (λ t. t.steps) q.got) ∙ ap (λ z. at z q.rg reading.steps) (sym (size_flush Γ₀ s));
    values = ap (λ t. t.gives) q.got;
    locals_kept = q.kept;
  }
