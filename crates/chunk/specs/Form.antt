-- The form of a chunk (document 01, "The chunk"; refusals 1 to 8): from bytes to nodes, or the first refusal. Assumes nothing.
use Rattle.std.specs.Prelude.{ℕ, zero, suc, ◌-◌, List, [], Bool, true, false, length, eqb, leb, Result, Ok, Err}
use Rattle.refusals.specs.declared.Refusal.{Refusal}
use Rattle.refusals.specs.declared.Refusal.TheVariants as refusal
use Rattle.chunk.specs.Ast.{Span, Expr, leaf, one, two, many, Exprs, none, more, Chunk}
use Rattle.nodes.specs.Nodes.{node_at}
use Rattle.chunk.specs.Headers.{Names, names, missing, names_at, header_at}
use Rattle.ast.specs.declared.Head.{Head}
use Rattle.ast.specs.declared.Head.TheVariants as head
use Rattle.ast.specs.declared.Node.{Node}
use Rattle.cursor.specs.declared.Text.{Text}
use Rattle.chunk.specs.declared.header.Header.{Header}

-- the bytes of the longest chunk
abbrev pub max_length : ℕ
max_length = 1048576

-- the deepest nesting of a node
abbrev pub max_nesting : ℕ
max_nesting = 200

-- what was read, with the place behind it and the line of the last node; or the refusal
pub data Parsed (A : Type 0) : Type 0 where
  parsed : A → ℕ → ℕ → Parsed A
  refused : Refusal → Parsed A

abbrev pub with_parsed : {A B : Type 0} → Parsed A → (A → ℕ → ℕ → Parsed B) → Parsed B
with_parsed (parsed a at line) f = f a at line
with_parsed (refused k) f = refused k

-- that many expressions one after the other, each read by f from a place and the line of the node before
unfoldable pub exprs_at : (ℕ → ℕ → Parsed Expr) → ℕ → ℕ → ℕ → Parsed Exprs
exprs_at f zero at line = parsed none at line
exprs_at f (suc n) at line =
    with_parsed (f at line) λ a at₁ line₁.
    with_parsed (exprs_at f n at₁ line₁) λ es at₂ line₂.
    parsed (more a es) at₂ line₂

-- a node's sub-expressions, each read by f, behind its fields
unfoldable pub rest : (ℕ → ℕ → Parsed Expr) → Span → Head → ℕ → ℕ → Parsed Expr
rest f s (head.Leaf l) at line = parsed (leaf s l) at line
rest f s (head.One o) at line = with_parsed (f at line) λ a at₁ line₁. parsed (one s o a) at₁ line₁
rest f s (head.Two t) at line =
    with_parsed (f at line) λ a at₁ line₁.
    with_parsed (f at₁ line₁) λ b at₂ line₂.
    parsed (two s t a b) at₂ line₂
rest f s (head.Many m n) at line =
    with_parsed (f at line) λ a at₁ line₁.
    with_parsed (exprs_at f n at₁ line₁) λ es at₂ line₂.
    parsed (many s m a es) at₂ line₂

abbrev pub with_node : Result Node Refusal → (Node → Parsed Expr) → Parsed Expr
with_node (Ok n) f = f n
with_node (Err k) f = refused k

-- the expression at a place, with `left` nestings left for it; `line` is that of the node before
unfoldable pub expr_at : List ℕ → Bool → ℕ → ℕ → ℕ → Parsed Expr
expr_at s va zero at line = refused refusal.Nesting
expr_at s va (suc left) at line =
    with_node (node_at s va at line) λ n.
    rest (expr_at s va left) (record { line = n.line; place = at; nesting = max_nesting - left }) n.head n.next n.line

-- a chunk that has the form, or the first refusal
pub data Formed : Type 0 where
  formed : Chunk → Formed
  unformed : Refusal → Formed

abbrev pub with_header : Result Header Refusal → (Header → Formed) → Formed
with_header (Ok h) f = f h
with_header (Err k) f = unformed k

abbrev pub with_exprs : Parsed Exprs → (Exprs → ℕ → Formed) → Formed
with_exprs (parsed es at line) f = f es at
with_exprs (refused k) f = unformed k

abbrev pub names_of : Names → List Text
names_of (names ts at) = ts
names_of missing = []

-- the chunk, if nothing stands behind its formulas
unfoldable pub ended : List ℕ → Header → Exprs → ℕ → Formed
ended s h fs at =
    elim (eqb at (length s)) [
      | false ↦ unformed refusal.Trailing
      | true ↦ formed (record { names = names_of (names_at s h.locals h.names); varargs = h.varargs; formulas = fs })
    ]

-- header, formulas, and nothing behind them; the line before the first node is 1
unfoldable pub form_of : List ℕ → Formed
form_of s =
    elim (leb (length s) max_length) [
      | false ↦ unformed refusal.TooLong
      | true ↦ with_header (header_at s) λ h. with_exprs (exprs_at (expr_at s h.varargs max_nesting) h.formulas h.next 1) (ended s h)
    ]
