-- What was parsed: a tree that was read behind another, a tree behind its node, and the lowering of a node that was read. By the cases of reading.
use Rattle.std.specs.Prelude.{ℕ, suc, ◌≡◌, refl, List, Result, Ok, Err}
use Rattle.std.proofs.Common.{ap, arith}
use Rattle.nodes.specs.Nodes.{node_at}
use Rattle.ast.specs.declared.Node.{Node}
use Rattle.chunk.specs.Ast.{Expr}
use Rattle.chunk.specs.Form.{Parsed, parsed, refused, with_parsed, with_node}
use Rattle.chunk.specs.declared.header.Header.{Header}
use Rattle.model.specs.declared.State.{State}
use Rattle.model.specs.Steps.{Buffers, and_then}
use Rattle.model.specs.Emission.{with_place}
use Rattle.model.specs.Expressions.{compile_head, compile_node, compile_expr}
use Rattle.refusals.specs.declared.Refusal.{Refusal}

pub record Inverse {A B : Type 0} (x : Parsed A) (g : A → ℕ → ℕ → Parsed B) (b : B) (at line : ℕ) : Type 0 where
  pub value : A
  pub place : ℕ
  pub own_line : ℕ
  pub first : x ≡ parsed value place own_line
  pub then : g value place own_line ≡ parsed b at line

pub invert : {A B : Type 0} (x : Parsed A) (g : A → ℕ → ℕ → Parsed B) (b : B) (at line : ℕ) → with_parsed x g ≡ parsed b at line → Inverse x g b at line
invert (parsed a p l) g b at line e = record { value = a; place = p; own_line = l; first = refl; then = e }
invert (refused k) g b at line e = absurd (let y : ◌≡◌ {A = ℕ} 0 1 = cc in omega arith)

pub same_parsed : {A : Type 0} (a b : A) (p l at line : ℕ) → parsed a p l ≡ parsed b at line → (a ≡ b) × ((p ≡ at) × (l ≡ line))
same_parsed a b p l at line e = (cc, (cc, cc))

pub node_is : (r : Result Node Refusal) (k : Node → Parsed Expr) (d : Expr) (at line : ℕ) → with_node r k ≡ parsed d at line → (n : Node) × ((r ≡ Ok n) × (k n ≡ parsed d at line))
node_is (Ok n) k d at line e = (n, (refl, e))
node_is (Err r) k d at line e = absurd (let y : ◌≡◌ {A = ℕ} 0 1 = cc in omega arith)

-- the lowering of a node that was read
pub expr_is : (chunk : List ℕ) (hd : Header) (left : ℕ) (s : State) (m : Buffers) (n : Node) → node_at chunk hd.varargs s.at s.line ≡ Ok n → compile_expr chunk hd (suc left) s m ≡ compile_head chunk hd (compile_expr chunk hd left) n.head (with_place n.next n.line s) m
unfolding compile_expr and_then
expr_is chunk hd left s m n e = ap (λ r. compile_node chunk hd (compile_expr chunk hd left) r s m) e
