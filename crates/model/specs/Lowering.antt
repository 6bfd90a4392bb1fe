-- The lowering of a whole chunk: what is left in every lent buffer, and the counts and the frame, or the refusal (document 01, "Lowering" and "Refused chunks"). Assumes nothing.
use Rattle.std.specs.Prelude.{ℕ, zero, suc, ◌+◌, List, true, false, length, leb, Result as Read, Ok, Err}
use Rattle.refusals.specs.declared.Refusal.{Refusal}
use Rattle.refusals.specs.declared.Refusal.TheVariants as refusal
use Rattle.buffers.specs.Pad.{zeros, pad}
use Rattle.opcodes.specs.declared.OpCode.TheVariants as op
use Rattle.chunk.specs.Ast.{spans_of, places_of}
use Rattle.chunk.specs.Headers.{header_at}
use Rattle.chunk.specs.Form.{formed, unformed, form_of, max_nesting}
use Rattle.chunk.specs.declared.header.Header.{Header}
use Rattle.model.specs.declared.ExprContext.{ExprContext}
use Rattle.model.specs.declared.State.{State}
use Rattle.model.specs.declared.Counts.{Counts}
use Rattle.model.specs.Lowered.{Lowered}
use Rattle.std.specs.Prelude as answer
use Rattle.model.specs.Steps.{Buffers, Result, done, refused, Step, ◌>>=◌, ◌>>◌, skip}
use Rattle.model.specs.Emission.{emit_abc, reserve_regs}
use Rattle.model.specs.Discharge.{exp2nextreg}
use Rattle.model.specs.Expressions.{compile_expr}

-- the lengths of the lent buffers
pub record Sizes : Type 0 where
  pub code : ℕ
  pub lines : ℕ
  pub kinds : ℕ
  pub values : ℕ
  pub pool : ℕ
  pub scratch : ℕ

abbrev pub cleared : Sizes → Buffers
cleared z = record { code = zeros z.code; lines = zeros z.lines; kinds = zeros z.kinds; values = zeros z.values; pool = zeros z.pool }

-- `Proto::new`, `FuncState::new`, `Compiler::new` (line 1) and `activate_locals` (active): a frame of 2, no words, no constants, no label; the first node is at `at`, and the line before it is 1
abbrev pub start : ℕ → ℕ → State
start at locals = record { at = at; line = 1; pc = 0; table = record { count = 0; used = 0 }; active = locals; free = 0; frame = 2; jpc = 0; label = 0 }

-- each formula to the next register
unfoldable pub formulas : Step ExprContext → ℕ → Step (Unit {0})
formulas f zero = skip
formulas f (suc n) = do
  e ← f
  exp2nextreg e
  formulas f n

-- the locals take the first registers; the formulas; `Return`
unfoldable pub lower_chunk : List ℕ → Header → Step (Unit {0})
lower_chunk chunk h = do
  reserve_regs h.locals
  formulas (compile_expr chunk h max_nesting) h.formulas
  emit_abc op.Return h.locals (h.formulas + 1) 0
  skip

-- the answer, and what each lent buffer then holds, whole
pub record Out : Type 0 where
  pub answer : Lowered
  pub buffers : Buffers
  pub scratch : List ℕ

abbrev pub out : Lowered → Buffers → List ℕ → Out
out r m scratch = record { answer = r; buffers = m; scratch = scratch }

-- a refusal leaves only zeros
abbrev pub refusal_of : Sizes → Refusal → Out
refusal_of z k = out (answer.Err k) (cleared z) (zeros z.scratch)

-- the counts and the frame of what was lowered
abbrev pub counts_of : State → Counts
counts_of s = record { words = s.pc; constants = s.table.count; text = s.table.used; frame = s.frame }

-- code, constants and texts with their counts, and the places of the nodes in the scratch
abbrev pub ended : Sizes → List ℕ → Result (Unit {0}) → Out
ended z places (done _ s m) = out (answer.Ok (counts_of s)) m (pad z.scratch places)
ended z places (refused k m) = refusal_of z k

abbrev pub with_header : Sizes → Read Header Refusal → (Header → Out) → Out
with_header z (Ok h) f = f h
with_header z (Err k) f = refusal_of z k

-- the lowering of a chunk that has the form, with these places: the scratch, which the Rust lacks (difference 5), is tested first
unfoldable pub lower_formed : Sizes → List ℕ → List ℕ → Out
lower_formed z chunk places =
    elim (leb (length places) z.scratch) [
      | false ↦ refusal_of z refusal.Scratch
      | true ↦ with_header z (header_at chunk) λ h. ended z places (lower_chunk chunk h (start h.next h.locals) (cleared z))
    ]

-- the form first, then the lowering in cleared buffers
unfoldable pub lowered : Sizes → List ℕ → Out
lowered z chunk =
    elim (form_of chunk) [
      | unformed k ↦ refusal_of z k
      | formed c ↦ lower_formed z chunk (places_of (spans_of c.formulas))
    ]
