-- Demands 1 and 3 as clauses of the entry's contract, of what stands in the buffers when it returns. They are `padded` and `faithful`, carried over by the contract's equation.
use Rattle.std.specs.Prelude.{ℕ, ◌≡◌, List}
use Rattle.std.proofs.Common.{ap, subst}
use Rattle.model.specs.Lowered.{Lowered}
use Rattle.std.specs.Prelude as answer
use Rattle.model.specs.Steps.{Buffers}
use Rattle.model.specs.Claims.{RunsAsRead, Padded, Faithful, Lowers, Bytes}
use Rattle.model.specs.Lowering.{Sizes, Out, out, lowered}
use Rattle.faithful.specs.Faithful.{faithful}
use Rattle.padding.proofs.Padded.{padded}

module _ (z : Sizes) (chunk : List ℕ) (bytes : Bytes chunk) where
  pub entry_padded : {r : Lowered} {m : Buffers} {s : List ℕ} → lowered z chunk ≡ out r m s → Padded z chunk r m s
  entry_padded e = subst (λ (o : Out). Padded z chunk o.answer o.buffers o.scratch) e (padded z chunk bytes)

  pub entry_faithful : (r : Lowered) {m : Buffers} {s : List ℕ} → lowered z chunk ≡ out r m s → Faithful chunk r m
  entry_faithful (answer.Ok k) e =
      let p = entry_padded e in
      (p.tree, (p.form, λ w locals varargs each. subst (RunsAsRead chunk p.tree w locals varargs k) (ap (λ o. o.buffers) e) (faithful z chunk bytes p.tree p.form k (ap (λ o. o.answer) e) w locals varargs each)))
  entry_faithful (answer.Err k) e = tt

  -- all that the contract says, from its equation
  pub entry : (r : Lowered) {m : Buffers} {s : List ℕ} → lowered z chunk ≡ out r m s → Lowers z chunk r m s
  entry r e = (e, (entry_padded e, entry_faithful r e))
