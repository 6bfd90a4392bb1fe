-- Lent buffers that are each as long as another's, and states whose buffers stay: one clause of an invariant or a law for all of them. Assumes nothing.
use Rattle.std.specs.Prelude.{◌≡◌, refl, length}
use Rattle.std.proofs.Common.{◌∙◌}
use Rattle.model.specs.declared.FuncState.{FuncState}
use Rattle.model.specs.Steps.{Buffers}
use Rattle.model.specs.Relations.{SameBuffers}

pub record SameLengths (a b : Buffers) : Type 0 where
  pub code : length a.code ≡ length b.code
  pub lines : length a.lines ≡ length b.lines
  pub kinds : length a.kinds ≡ length b.kinds
  pub values : length a.values ≡ length b.values
  pub pool : length a.pool ≡ length b.pool

pub same_lengths : (m : Buffers) → SameLengths m m
same_lengths m = record { code = refl; lines = refl; kinds = refl; values = refl; pool = refl }

-- buffers that stay from a to b and from b to c stay from a to c
pub same_on : (a b c : FuncState) → SameBuffers a b → SameBuffers b c → SameBuffers a c
same_on a b c p q = (q.0 ∙ p.0, q.1 ∙ p.1, q.2 ∙ p.2, q.3 ∙ p.3, q.4 ∙ p.4)
