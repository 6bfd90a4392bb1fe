-- The entry, step by step: what the definition comes to once the header and the lowering have answered, as the code reads it. Assumes nothing.
use Rattle.std.specs.Prelude.{ℕ, List, ◌≡◌, refl, length, Ok, Err}
use Rattle.std.proofs.Common.{sym, ap, ◌∙◌}
use Rattle.std.proofs.lemmas.List.{length-replicate}
use Rattle.refusals.specs.declared.Refusal.{Refusal}
use Rattle.buffers.specs.Pad.{zeros, pad}
use Rattle.chunk.specs.Headers.{header_at}
use Rattle.chunk.specs.declared.header.Header.{Header}
use Rattle.model.specs.declared.State.{State}
use Rattle.std.specs.Prelude as answer
use Rattle.model.specs.Steps.{Buffers, bufs, Result, done, refused}
use Rattle.model.specs.Lengths.{SameLengths}
use Rattle.model.specs.Claims.{sizes}
use Rattle.model.specs.Lowering.{cleared, start, lower_chunk, out, ended, with_header, counts_of}
use Rattle.lowering.specs.Parts.{from_header}

module _ (chunk places : List ℕ) (n : ℕ) (m : Buffers) where
  pub header_refused : {k : Refusal} {o : Buffers} → header_at chunk ≡ Err k → cleared (sizes m n) ≡ o → from_header (sizes m n) chunk places m ≡ out (answer.Err k) o (zeros n)
  header_refused {k} {o} q z = ap (λ r. with_header (sizes m n) r (λ h. ended (sizes m n) places (lower_chunk chunk h (start h.next h.locals) m))) q ∙ ap (λ y. out (answer.Err k) y (zeros n)) z

  module _ {h : Header} (q : header_at chunk ≡ Ok h) where
    pub lower_refused : {k : Refusal} {o p : Buffers} → lower_chunk chunk h (start h.next h.locals) m ≡ refused k p → cleared (sizes m n) ≡ o → from_header (sizes m n) chunk places m ≡ out (answer.Err k) o (zeros n)
    lower_refused {k} y z = ap (λ r. with_header (sizes m n) r (λ h. ended (sizes m n) places (lower_chunk chunk h (start h.next h.locals) m))) q ∙ ap (ended (sizes m n) places) y ∙ ap (λ y. out (answer.Err k) y (zeros n)) z

    pub lower_done : {s : State} {p : Buffers} → lower_chunk chunk h (start h.next h.locals) m ≡ done tt s p →
        from_header (sizes m n) chunk places m ≡ out (answer.Ok (counts_of s)) p (pad n places)
    lower_done y = ap (λ r. with_header (sizes m n) r (λ h. ended (sizes m n) places (lower_chunk chunk h (start h.next h.locals) m))) q ∙ ap (ended (sizes m n) places) y

-- five buffers for five
pub five_same : {a b c d e a' b' c' d' e' : List ℕ} → a ≡ a' → b ≡ b' → c ≡ c' → d ≡ d' → e ≡ e' → bufs a b c d e ≡ bufs a' b' c' d' e'
five_same p q r s t = rw (p, q, r, s, t) refl

-- zeros stay zeros of their own length
pub still_zeros : (n : ℕ) {l : List ℕ} → zeros n ≡ l → zeros (length l) ≡ l
still_zeros n e = ap zeros (ap length (sym e) ∙ length-replicate n 0) ∙ e

-- where lengths are kept: sizes, and zeros for zeros
pub same_sizes : {o m : Buffers} → SameLengths o m → (n : ℕ) → sizes o n ≡ sizes m n
same_sizes l n = rw (l.code, l.lines, l.kinds, l.values, l.pool) refl

pub cleared_again : (m : Buffers) (n : ℕ) {o : Buffers} → cleared (sizes o 0) ≡ o → SameLengths o m → cleared (sizes m n) ≡ o
cleared_again m n z l = ap cleared (sym (same_sizes l n)) ∙ z

-- the state that the code begins with
pub started : (chunk : List ℕ) (h : Header) (m : Buffers) {s t : State} {x : Result (Unit {0})} → s ≡ t → lower_chunk chunk h t m ≡ x → lower_chunk chunk h s m ≡ x
started chunk h m e q = ap (λ s. lower_chunk chunk h s m) e ∙ q
