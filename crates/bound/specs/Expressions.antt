-- What expressions take: for each node 8 words, and its text or one other constant. Of these the answer holds on to 4 words, to be brought to a register, and to what it owes of constants. By induction on the nestings that are left, and on the arguments.
-- What rests on something that a must-fail edit breaks stands in proofs/Expressions.antt.
use Prim.Native.Nat.{ℕ, ◌+◌, ◌-◌, ◌*◌, ◌≤◌}
use Rattle.std.proofs.Math.Path.{◌≡◌, refl}
use native.Mathlib.Omega.{arith}
use Rattle.instructions.specs.Word.{set_a_of, set_b_of, set_c_of}
use Rattle.ast.specs.declared.Leaf.{Leaf}
use Rattle.ast.specs.declared.Leaf.TheVariants as leaf
use Rattle.ast.specs.declared.One.{One}
use Rattle.ast.specs.declared.One.TheVariants as one
use Rattle.ast.specs.declared.Two.{Two}
use Rattle.ast.specs.declared.Two.TheVariants as two
use Rattle.ast.specs.declared.Many.{Many}
use Rattle.ast.specs.declared.Many.TheVariants as many
use Rattle.chunk.specs.Ast.{Expr, leaf as leaf_node, one as one_node, two as two_node, many as many_node, Exprs, none as no_more, more}
use Rattle.model.specs.declared.ExprKind.TheVariants.{Call}
use Rattle.model.specs.declared.ExprContext.{ExprContext}
use Rattle.model.specs.declared.State.{State}
use Rattle.model.specs.Descriptor.{with_kind, is_kind}
use Rattle.model.specs.Steps.{Buffers, Step, ◌>>=◌}
use Rattle.model.specs.Expressions.{set_multret, above, emit_call, closed_call}
use Rattle.bound.specs.Takes.{Resource, per_word, per_constant, per_text, used, Room, Leaves, Spends, Takes, Any, later, at_most, then_leaves, takes_then, nothing_then, spends_return, takes_get, spends_if}
use Rattle.bound.specs.Emission.{takes_free, takes_change_word, takes_emit_at, takes_reserve_regs}
use Rattle.bound.specs.Discharge.{owes}
use Rattle.bound.specs.Operators.{Ready, left_owes}

-- ---- trees

-- a node's text, or one other constant
abbrev pub own_leaf : Resource → Leaf → ℕ
own_leaf R leaf.Nil = per_constant R
own_leaf R leaf.True = per_constant R
own_leaf R leaf.False = per_constant R
own_leaf R (leaf.Number b) = per_constant R
own_leaf R (leaf.Str t) = per_text R t.len
own_leaf R leaf.VarArg = per_constant R
own_leaf R (leaf.Name t) = per_text R t.len

abbrev pub own_one : Resource → One → ℕ
own_one R (one.Unary o) = per_constant R
own_one R (one.Field t) = per_text R t.len
own_one R one.Paren = per_constant R

abbrev pub own_many : Resource → Many → ℕ
own_many R many.Call = per_constant R
own_many R (many.MethodCall t) = per_text R t.len

-- what trees take
unfoldable mutual
  pub cost : Resource → Expr → ℕ
  cost R (leaf_node s l) = 8 * per_word R + own_leaf R l
  cost R (one_node s o a) = cost R a + (8 * per_word R + own_one R o)
  cost R (two_node s t a b) = cost R a + (cost R b + (8 * per_word R + per_constant R))
  cost R (many_node s k a es) = cost R a + (costs R es + (8 * per_word R + own_many R k))

  pub costs : Resource → Exprs → ℕ
  costs R no_more = 0
  costs R (more a es) = cost R a + costs R es

-- what the answer holds on to
abbrev pub held : Resource → ExprContext → ℕ
held R e = 4 * per_word R + owes R e

-- what the first sub-expression is, and owes, before the second one is lowered
abbrev pub ReadyTwo : Resource → Two → ExprContext → Type 0
ReadyTwo R (two.Binary o) e = Ready R o e
ReadyTwo R two.Index e = Unit {0}

abbrev pub first_owes : Resource → Two → ExprContext → ℕ
first_owes R (two.Binary o) e = left_owes R o e
first_owes R two.Index e = 0

-- ---- steps that read

-- from one place and line of the chunk to another
abbrev pub Reads : Resource → ℕ → ℕ → {A : Type 0} → Step A → (A → ℕ) → ℕ → ℕ → ℕ → ℕ → (A → Type 0) → Type 0
Reads R cap c x φ at line at' line' P = (s : State) (m : Buffers) → s.at ≡ at → s.line ≡ line → Room R cap m → Leaves R cap c (used R s) at' line' φ P (x s m)

module _ {R : Resource} {cap : ℕ} where
  pub stays : {A : Type 0} {φ : A → ℕ} {P : A → Type 0} {c : ℕ} {x : Step A} → Spends R cap c x φ P → (at line : ℕ) → Reads R cap c x φ at line at line P
  stays g at line s m a l k = later (g s m k) (omega arith) a l

  pub reads_then : {A B : Type 0} {φ : A → ℕ} {ψ : B → ℕ} {P : A → Type 0} {Q : B → Type 0} {c at line p q at' line' : ℕ} {x : Step A} {f : A → Step B} (d : ℕ) → Reads R cap c x φ at line p q P → ((a : A) → P a → Reads R cap (φ a + d) (f a) ψ p q at' line' Q) → Reads R cap (c + d) (x >>= f) ψ at line at' line' Q
  reads_then d r h s m a l k = then_leaves d (r s m a l k) (λ b s₁ m₁ p e f k₁. h b p s₁ m₁ e f k₁)

  -- at an equal place, with more of it
  pub moved : {A : Type 0} {φ : A → ℕ} {P : A → Type 0} {c d at line p q p' q' : ℕ} {x : Step A} → Reads R cap c x φ at line p q P → p ≡ p' → q ≡ q' → c ≤ d → Reads R cap d x φ at line p' q' P
  moved r i j h s m a l k = later (r s m a l k) (omega (arith, h)) i j

  pub more_of : {A : Type 0} {φ : A → ℕ} {P : A → Type 0} {c d at line p q : ℕ} {x : Step A} → Reads R cap c x φ at line p q P → c ≤ d → Reads R cap d x φ at line p q P
  more_of r h = moved r refl refl h

  -- ---- calls

  pub takes_set_multret : (e : ExprContext) → Takes R cap 0 (set_multret e)
  unfolding set_multret
  takes_set_multret e = spends_if (is_kind Call e) (λ _. takes_change_word e.info (λ w. set_c_of w 0))
      (λ _. nothing_then takes_get (λ s. nothing_then (takes_change_word e.info (λ w. set_a_of (set_b_of w 0) s.free)) (λ _. takes_reserve_regs 1)))

  pub spends_emit_call : (func : ExprContext) (b line : ℕ) → Spends R cap (per_word R) (emit_call func b line) (owes R) Any
  unfolding emit_call
  spends_emit_call func b line = at_most (takes_then (takes_emit_at _ line) (λ pc. nothing_then (takes_free (above func.info)) (λ _. at_most {d = 0} (spends_return (with_kind Call pc func) tt) (omega arith)))) (omega arith)

  pub spends_closed_call : (func : ExprContext) (line : ℕ) → Spends R cap (per_word R) (closed_call func line) (owes R) Any
  unfolding closed_call
  spends_closed_call func line = nothing_then takes_get (λ s. spends_emit_call func (s.free - above func.info + 1) line)
