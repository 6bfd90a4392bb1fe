-- What holds of the lowering of every expression whatever is run: the registers that its descriptor owns, and labels that are new and different. Read off the theorem, for a silent outside and locals that are all nil,
-- since it speaks of every outside.
-- What rests on something that a must-fail edit breaks stands in proofs/Shape.antt.
use Rattle.std.specs.Prelude.{ℕ, ◌≤◌, ◌<◌, false, ◌≡◌, List, [], length, replicate}
use Rattle.std.proofs.Common.{subst}
use Rattle.std.proofs.lemmas.List.{length-replicate}
use Rattle.cursor.specs.declared.Text.{Text}
use Rattle.model.specs.Values.{Value, nil, World, Taken}
use Rattle.labelled.specs.Machine.{Hist, Regs, Setting}
use Rattle.labelled.specs.Emission.{St}
use Rattle.labelled.specs.Discharge.{Pair}
use Rattle.labelled.specs.Owning.{Own}
use Rattle.labelled.specs.Good.{Good}
use Rattle.labelled.specs.Locals.{setting_of}

-- f registers are taken before, and `active` of them hold locals
pub record Shaped (active f : ℕ) (s : St) (p : Pair) : Type 0 where
  pub own : Own active f p.de.kind p.st.free
  pub later : s.nxt ≤ p.st.nxt
  pub true_new : (s.nxt ≤ p.de.tl) × (p.de.tl < p.st.nxt)
  pub false_new : (s.nxt ≤ p.de.fl) × (p.de.fl < p.st.nxt)
  pub differ : p.de.fl ≡ p.de.tl → ⊥

pub silent : World
silent = record { one = λ h. nil; many = λ h. []; holds = λ h. false }

module _ (chunk : List ℕ) (names : List Text) where
  abbrev pub blank : List Value
  blank = replicate (length names) nil

  pub each : length blank ≡ length names
  each = length-replicate (length names) nil

  abbrev pub quiet : Setting
  quiet = setting_of silent blank []

  pub shape : (D : Regs → Hist → Taken (List Value)) (f : ℕ) (s : St) (p : Pair) → Good quiet D f s p → Shaped (length names) f s p
  shape D f s p g = subst (λ n. Shaped n f s p) each (record { own = g.own; later = g.nx; true_new = (g.tlo, g.thi); false_new = (g.flo, g.fhi); differ = g.ft })
