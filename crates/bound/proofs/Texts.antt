-- Each node has two bytes at least, and behind them its text; they lie in the chunk one behind the other, so together they are no more than the bytes that were read. By the cases of reading a node, and by induction as it is read.
use Prim.Native.Nat.{ℕ, zero, suc, ◌+◌, ◌-◌, ◌≤◌}
use Rattle.std.specs.Prelude.{Bool, List, length, Result, Ok, Err}
use Rattle.std.proofs.Math.Path.{◌≡◌, subst}
use native.Mathlib.Omega.{arith}
use Rattle.nodes.specs.Nodes.{fields_at, front_at, with_front, node_at}
use Rattle.chunk.specs.Ast.{Expr, Chunk}
use Rattle.chunk.specs.Form.{parsed, expr_at, max_nesting}
use Rattle.faithful.specs.Accepted.{Accepted}
use Rattle.simulation.specs.Parsing.{node_is}
use Rattle.bound.specs.Texts.{Behind, BehindFront, bytes, bytes_all, earlier, exprs_behind, fields_behind, front_behind, head_behind, own}
use Rattle.refusals.specs.declared.Refusal.{Refusal}
use Rattle.nodes.specs.declared.node.Front.{Front}

module _ (s : List ℕ) where
  behind_front : (va : Bool) (at : ℕ) (f : Result Front Refusal) → BehindFront at f → Behind at (with_front f (fields_at s va))
  behind_front va at (Ok r) h = earlier s at r.next (fields_at s va r.kind r.next r.line) h (fields_behind s va r.kind r.next r.line)
  behind_front va at (Err x) h = tt

  node_behind : (va : Bool) (at line : ℕ) → Behind at (node_at s va at line)
  unfolding node_at
  node_behind va at line = behind_front va at (front_at s at line) (front_behind s at line)

  expr_behind : (va : Bool) (left : ℕ) (a : Expr) (at line at' line' : ℕ) → expr_at s va left at line ≡ parsed a at' line' → at + bytes a ≤ at'
  unfolding expr_at
  expr_behind va zero a at line at' line' e = absurd (let y : ◌≡◌ {A = ℕ} 0 1 = cc in omega arith)
  expr_behind va (suc left) a at line at' line' e =
      let v = node_is (node_at s va at line) _ a at' line' e in
      let n = v.0 in
      let h : at + (2 + own n.head) ≤ n.next = subst (Behind at) v.1.0 (node_behind va at line) in
      omega (arith, h, head_behind s (expr_at s va left) (expr_behind va left) (record { line = n.line; place = at; nesting = max_nesting - left }) n.head a n.next n.line at' line' v.1.1)

  -- the nodes of an accepted chunk lie in its bytes
  pub in_chunk : (c : Chunk) → Accepted s c → bytes_all c.formulas ≤ length s
  in_chunk c a =
      let va = a.head.varargs in
      omega (arith, exprs_behind s (expr_at s va max_nesting) (expr_behind va max_nesting) a.head.formulas c.formulas a.head.next 1 a.at a.line a.formulas, a.whole)
