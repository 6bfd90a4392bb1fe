-- How much to lend: with 8n + 1 words and lines, n constants, a pool as long as the chunk and a scratch of n, for n nodes, up to 16,383 of them, a chunk that has the form is lowered or needs more than 250 registers; and n is at most half the chunk's length, which alone tells how much to lend up to 32,767 bytes.
-- From `bounded`, and from `padded`, by the stage of the refusal.
use Rattle.std.specs.Prelude.{ℕ, ◌*◌, ◌≤◌, ◌≡◌, List, length}
use Rattle.std.proofs.Common.{subst, arith}
use Rattle.refusals.specs.declared.Refusal.{Refusal}
use Rattle.refusals.specs.declared.Refusal.TheVariants as refusal
use Rattle.chunk.specs.Ast.{Chunk}
use Rattle.chunk.specs.Form.{formed, form_of}
use Rattle.std.specs.Prelude as answer
use Rattle.model.specs.Claims.{Padded, Bytes}
use Rattle.model.specs.Lowering.{Sizes, lowered}
use Rattle.faithful.specs.Accepted.{accepted}
use Rattle.padding.proofs.Padded.{padded}
use Rattle.bound.proofs.Texts.{in_chunk}
use Rattle.bound.specs.Bounded.{nodes, Bounded}
use Rattle.bound.proofs.Bounded.{bounded}
use Rattle.bound.specs.Suffices.{Lends, Suffices, late, only}

pub suffices : (z : Sizes) (chunk : List ℕ) → Bytes chunk → (c : Chunk) → form_of chunk ≡ formed c → Suffices z chunk c → (x : Refusal) → (lowered z chunk).answer ≡ answer.Err x → x ≡ refusal.Registers
suffices z chunk bytes c form h x e =
    let d : Padded z chunk (answer.Err x) (lowered z chunk).buffers (lowered z chunk).scratch = subst (λ r. Padded z chunk r (lowered z chunk).buffers (lowered z chunk).scratch) e (padded z chunk bytes) in
    let b : Bounded z chunk (answer.Err x) = subst (Bounded z chunk) e (bounded z chunk) in
    only z chunk c form h x (late z chunk c form h x d.1.1) (b c form)

-- ---- by the chunk's length alone

-- a node has two bytes at least
pub two_bytes : (chunk : List ℕ) (c : Chunk) → form_of chunk ≡ formed c → 2 * nodes c ≤ length chunk
two_bytes chunk c form = omega (arith, in_chunk chunk c (accepted chunk c form))

pub by_length : (z : Sizes) (chunk : List ℕ) (c : Chunk) → form_of chunk ≡ formed c → Lends z (length chunk) → Suffices z chunk c
by_length z chunk c form h =
    let t : 2 * nodes c ≤ length chunk = two_bytes chunk c form in
    record {
      few = omega (arith, t, h.short);
      code = omega (arith, t, h.code);
      lines = omega (arith, t, h.lines);
      kinds = omega (arith, t, h.kinds);
      values = omega (arith, t, h.values);
      pool = h.pool;
      scratch = omega (arith, t, h.scratch);
    }
