-- What follows a sub-expression, step by step: what a definition comes to once its first step's answer is known. Assumes nothing.
use Rattle.std.specs.Prelude.{ℕ, List, ◌≡◌}
use Rattle.std.proofs.Math.Path.{refl}
use Rattle.std.proofs.Common.{ap, ◌∙◌}
use Rattle.refusals.specs.declared.Refusal.{Refusal}
use Rattle.cursor.specs.declared.Text.{Text}
use Rattle.ast.specs.declared.BinOp.{BinOp}
use Rattle.ast.specs.declared.UnOp.{UnOp}
use Rattle.ast.specs.declared.One.TheVariants as one
use Rattle.ast.specs.declared.Two.TheVariants as two
use Rattle.chunk.specs.declared.header.Header.{Header}
use Rattle.model.specs.declared.ExprContext.{ExprContext}
use Rattle.model.specs.declared.State.{State}
use Rattle.model.specs.Described.{Described}
use Rattle.model.specs.Described as described
use Rattle.model.specs.Steps.{Buffers, Step, Result, refused, and_then, described_is}
use Rattle.model.specs.Discharge.{discharge_vars, exp2anyreg}
use Rattle.model.specs.Operators.{before_right, after_right, code_unop}
use Rattle.model.specs.Expressions.{set_indexed, after_one, between, after_two}
use Rattle.emission.specs.Laws.{then_done, then_refused}
use Rattle.calls.specs.Laws.{keyed}

-- an answer of a descriptor goes on, or is refused
module _ (f : ExprContext → Step ExprContext) (m : Buffers) {a : Described} where
  pub goes_on : {t : State} {e : ExprContext} {r : Result ExprContext} → a ≡ described.Done t e → f e t m ≡ r → and_then (described_is a m) f ≡ r
  goes_on q z = then_done f (ap (λ (x : Described). described_is x m) q) ∙ z

  pub stops : {r : Refusal} → a ≡ described.Refused r → and_then (described_is a m) f ≡ refused r m
  stops q = then_refused f (ap (λ (x : Described). described_is x m) q)

module _ (chunk : List ℕ) (h : Header) where
  module _ (e : ExprContext) (s : State) (m : Buffers) where
    pub one_unary : (o : UnOp) → after_one chunk h (one.Unary o) e s m ≡ code_unop o e s m
    unfolding after_one
    one_unary o = refl

    pub one_paren : after_one chunk h one.Paren e s m ≡ discharge_vars e s m
    unfolding after_one
    one_paren = refl

    pub one_field : (n : Text) → after_one chunk h (one.Field n) e s m ≡ keyed chunk h set_indexed e n s m
    unfolding after_one
    one_field n = refl

    pub between_binary : (o : BinOp) → between chunk h (two.Binary o) e s m ≡ before_right o e s m
    unfolding between
    between_binary o = refl

    pub between_index : between chunk h two.Index e s m ≡ exp2anyreg e s m
    unfolding between
    between_index = refl

  module _ (e₁ e₂ : ExprContext) (s : State) (m : Buffers) where
    pub two_binary : (o : BinOp) → after_two chunk h (two.Binary o) e₁ e₂ s m ≡ after_right o e₁ e₂ s m
    unfolding after_two
    two_binary o = refl

    pub two_index : after_two chunk h two.Index e₁ e₂ s m ≡ set_indexed e₁ e₂ s m
    unfolding after_two
    two_index = refl
