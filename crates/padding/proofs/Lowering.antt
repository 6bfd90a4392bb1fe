-- A lowering leaves the tails clean: the lent buffers are cleared first, and each of its steps keeps their tails.
use Prim.Native.Nat.{ℕ, zero, suc}
use Rattle.std.specs.Prelude.{◌≡◌, List}
use Rattle.chunk.specs.Form.{max_nesting}
use Rattle.chunk.specs.declared.header.Header.{Header}
use Rattle.model.specs.declared.ExprContext.{ExprContext}
use Rattle.model.specs.declared.State.{State}
use Rattle.model.specs.Steps.{Buffers, done, Step}
use Rattle.model.specs.Lowering.{Sizes, cleared, start, formulas, lower_chunk}
use Rattle.padding.specs.Clean.{Clean, Keeps, ends_clean, keeps_skip, keeps_then}
use Rattle.padding.specs.Emission.{keeps_emit, keeps_reserve_regs}
use Rattle.padding.proofs.Discharge.{keeps_exp2nextreg}
use Rattle.padding.proofs.Expressions.{keeps_compile_expr}
use Rattle.padding.specs.Lowering.{clean_start}

module _ {z : Sizes} where
  keeps_formulas : {f : Step ExprContext} → Keeps z f → (n : ℕ) → Keeps z (formulas f n)
  unfolding formulas
  keeps_formulas k zero = keeps_skip
  keeps_formulas k (suc n) = keeps_then k (λ e. keeps_then (keeps_exp2nextreg e) (λ _. keeps_formulas k n))

  pub keeps_lower_chunk : (chunk : List ℕ) (h : Header) → Keeps z (lower_chunk chunk h)
  unfolding lower_chunk
  keeps_lower_chunk chunk h =
      keeps_then (keeps_reserve_regs h.locals) (λ _. keeps_then (keeps_formulas (keeps_compile_expr chunk h max_nesting) h.formulas) (λ _. keeps_then (keeps_emit _) (λ _. keeps_skip)))

-- what a lowering leaves in the lent buffers
pub lowered_clean : (z : Sizes) (chunk : List ℕ) (h : Header) → (s : State) (m : Buffers) → lower_chunk chunk h (start h.next h.locals) (cleared z) ≡ done tt s m → Clean z s m
lowered_clean z chunk h s m e = ends_clean (keeps_lower_chunk chunk h (start h.next h.locals) (cleared z) (clean_start z h.next h.locals)) e
