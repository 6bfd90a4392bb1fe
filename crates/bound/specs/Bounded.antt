-- How much a lowering needs. For every chunk of n nodes and all lengths of the lent buffers: what is lowered has at most 8n + 1 words, n constants, and no more bytes of text than the chunk has bytes;
-- and with so much lent, of words (if 8n + 1 is at most 131,071), constants (if n is at most 262,144) or text, no lowering is refused for want of it, so none holds more at any moment.
-- What rests on something that a must-fail edit breaks stands in proofs/Bounded.antt.
use Prim.Native.Nat.{ℕ, ◌+◌, ◌*◌, ◌≤◌}
use Rattle.std.specs.Prelude.{◌≡◌, List, length}
use Rattle.std.proofs.Math.Path.{refl}
use Rattle.std.proofs.Common.{arith, length-append}
use Rattle.refusals.specs.declared.Refusal.{Refusal}
use Rattle.refusals.specs.declared.Refusal.TheVariants.{Scratch, Constants, Pool, Words}
use Rattle.instructions.specs.Limits.{max_words, max_constants}
use Rattle.ast.specs.declared.Leaf.{Leaf}
use Rattle.ast.specs.declared.Leaf.TheVariants as leaf
use Rattle.ast.specs.declared.One.{One}
use Rattle.ast.specs.declared.One.TheVariants as one
use Rattle.ast.specs.declared.Many.{Many}
use Rattle.ast.specs.declared.Many.TheVariants as many
use Rattle.chunk.specs.Ast.{Expr, leaf as leaf_node, one as one_node, two as two_node, many as many_node, Exprs, none as no_more, more, Chunk, spans, spans_of}
use Rattle.chunk.specs.Form.{formed, unformed, form_of}
use Rattle.model.specs.Lowered.{Lowered}
use Rattle.std.specs.Prelude as answer
use Rattle.model.specs.Steps.{Result, done, refused}
use Rattle.model.specs.Lowering.{Sizes, start}
use Rattle.faithful.specs.Accepted.{Accepted}
use Rattle.bound.specs.Takes.{Resource, words, entries, text, used, want, Leaves, left, none, not_wanting}
use Rattle.bound.specs.Expressions.{own_leaf, own_one, own_many, cost, costs}

-- ---- the statement

-- the nodes of a chunk
abbrev pub nodes : Chunk → ℕ
nodes c = length (spans_of c.formulas)

-- what success needed at most
pub record Needs (chunk : List ℕ) (c : Chunk) (w k t : ℕ) : Type 0 where
  pub words : w ≤ 8 * nodes c + 1
  pub constants : k ≤ nodes c
  pub text : t ≤ length chunk

-- what is lent isn't refused as too little: 13 with 8n + 1 words and lines, 11 with n constants, 12 with a pool as long as the chunk; the first two as far as any code and any table go
pub record Enough (z : Sizes) (chunk : List ℕ) (c : Chunk) (x : Refusal) : Type 0 where
  pub words : 8 * nodes c + 1 ≤ z.code → 8 * nodes c + 1 ≤ z.lines → 8 * nodes c + 1 ≤ max_words → x ≡ Words → ⊥
  pub constants : nodes c ≤ z.kinds → nodes c ≤ z.values → nodes c ≤ max_constants → x ≡ Constants → ⊥
  pub text : length chunk ≤ z.pool → x ≡ Pool → ⊥

abbrev pub Bounded : Sizes → List ℕ → Lowered → Type 0
Bounded z chunk (answer.Ok k) = (c : Chunk) → form_of chunk ≡ formed c → Needs chunk c k.words k.constants k.text
Bounded z chunk (answer.Err x) = (c : Chunk) → form_of chunk ≡ formed c → Enough z chunk c x

-- ---- what trees take, by their nodes: 8 words each, and a text or another constant

leaf_price : (l : Leaf) → (own_leaf words l ≡ 0) × (own_leaf entries l ≡ 1)
leaf_price leaf.Nil = (refl, refl)
leaf_price leaf.True = (refl, refl)
leaf_price leaf.False = (refl, refl)
leaf_price (leaf.Number b) = (refl, refl)
leaf_price (leaf.Str t) = (refl, refl)
leaf_price leaf.VarArg = (refl, refl)
leaf_price (leaf.Name t) = (refl, refl)

one_price : (o : One) → (own_one words o ≡ 0) × (own_one entries o ≡ 1)
one_price (one.Unary o) = (refl, refl)
one_price (one.Field t) = (refl, refl)
one_price one.Paren = (refl, refl)

many_price : (k : Many) → (own_many words k ≡ 0) × (own_many entries k ≡ 1)
many_price many.Call = (refl, refl)
many_price (many.MethodCall t) = (refl, refl)

mutual
  unfolding cost costs spans spans_of

  by_nodes : (a : Expr) → (cost words a ≡ 8 * length (spans a)) × (cost entries a ≡ length (spans a))
  by_nodes (leaf_node s l) = let p = leaf_price l in (omega (arith, p.0), omega (arith, p.1))
  by_nodes (one_node s o a) = let p = one_price o in let x = by_nodes a in (omega (arith, p.0, x.0), omega (arith, p.1, x.1))
  by_nodes (two_node s t a b) = let x = by_nodes a in let y = by_nodes b in (simp length-append (omega (arith, x.0, y.0)), simp length-append (omega (arith, x.1, y.1)))
  by_nodes (many_node s k a es) = let p = many_price k in let x = by_nodes a in let y = all_by_nodes es in (simp length-append (omega (arith, p.0, x.0, y.0)), simp length-append (omega (arith, p.1, x.1, y.1)))

  pub all_by_nodes : (es : Exprs) → (costs words es ≡ 8 * length (spans_of es)) × (costs entries es ≡ length (spans_of es))
  all_by_nodes no_more = (refl, refl)
  all_by_nodes (more a es) = let x = by_nodes a in let y = all_by_nodes es in (simp length-append (omega (arith, x.0, y.0)), simp length-append (omega (arith, x.1, y.1)))

-- ---- the chunk

-- what is known of an end
abbrev pub After : Resource → ℕ → ℕ → {A : Type 0} → Result A → Type 0
After R cap c (done a s m) = used R s ≤ c
After R cap c (refused x m) = c ≤ cap → x ≡ want R → ⊥

pub after : {R : Resource} {cap c n at line : ℕ} {A : Type 0} {φ : A → ℕ} {P : A → Type 0} {r : Result A} → Leaves R cap c n at line φ P r → n ≡ 0 → After R cap c r
after (left a s m p e f g l) z = omega (arith, e, z)
after (none x m h) z = λ k. h (omega (arith, k, z))

pub used_start : (R : Resource) (at locals : ℕ) → used R (start at locals) ≡ 0
used_start words at locals = refl
used_start entries at locals = refl
used_start text at locals = refl

module _ (z : Sizes) (chunk : List ℕ) where
  module _ (c : Chunk) (form : form_of chunk ≡ formed c) (a : Accepted chunk c) where
    -- the same chunk
    pub same_chunk : (c' : Chunk) → form_of chunk ≡ formed c' → c' ≡ c
    same_chunk c' e = cc

  -- a chunk that hasn't the form has no nodes
  pub no_form : (x : Refusal) → form_of chunk ≡ unformed x → Bounded z chunk (answer.Err x)
  no_form x e c f = absurd (let y : ◌≡◌ {A = ℕ} 0 1 = cc in omega arith)

  -- a scratch that is too short is refused as such
  pub no_scratch : (c : Chunk) → Enough z chunk c Scratch
  no_scratch c = record { words = λ _ _ _. not_wanting words Scratch (omega arith); constants = λ _ _ _. not_wanting entries Scratch (omega arith); text = λ _. not_wanting text Scratch (omega arith) }
