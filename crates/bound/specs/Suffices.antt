-- How much to lend: with 8n + 1 words and lines, n constants, a pool as long as the chunk and a scratch of n, for n nodes, up to 16,383 of them, a chunk that has the form is lowered or needs more than 250 registers; and n is at most half the chunk's length, which alone tells how much to lend up to 32,767 bytes.
-- From `bounded`, and from `padded`, by the stage of the refusal.
-- What rests on something that a must-fail edit breaks stands in proofs/Suffices.antt.
use Rattle.std.specs.Prelude.{ℕ, ◌+◌, ◌*◌, ◌/◌, ◌≤◌, ◌≡◌, refl, List, length}
use Rattle.std.proofs.Common.{ap, ◌∙◌, arith}
use Rattle.std.proofs.lemmas.List.{length-map}
use Rattle.refusals.specs.Stage.{stage_of, steps}
use Rattle.refusals.specs.declared.Refusal.{Refusal}
use Rattle.refusals.specs.declared.Refusal.TheVariants as refusal
use Rattle.chunk.specs.Ast.{Chunk, spans_of, places_of}
use Rattle.chunk.specs.Form.{formed, form_of}
use Rattle.model.specs.Claims.{Due, by_form, by_scratch, by_lowering}
use Rattle.model.specs.Lowering.{Sizes}
use Rattle.bound.specs.Bounded.{nodes, Enough}

pub record Suffices (z : Sizes) (chunk : List ℕ) (c : Chunk) : Type 0 where
  pub few : nodes c ≤ 16383
  pub code : 8 * nodes c + 1 ≤ z.code
  pub lines : 8 * nodes c + 1 ≤ z.lines
  pub kinds : nodes c ≤ z.kinds
  pub values : nodes c ≤ z.values
  pub pool : length chunk ≤ z.pool
  pub scratch : nodes c ≤ z.scratch

module _ (z : Sizes) (chunk : List ℕ) (c : Chunk) (form : form_of chunk ≡ formed c) (h : Suffices z chunk c) where
  -- no refusal of the form, nor of the scratch
  pub late : (x : Refusal) → Due z chunk x → stage_of x ≡ steps
  late x (by_form e l) = absurd (let y : ◌≡◌ {A = ℕ} 0 1 = cc in omega arith)
  late x (by_scratch c' e l q) = let n : length (places_of (spans_of c'.formulas)) ≡ nodes c = length-map (spans_of c'.formulas) _ ∙ ap nodes (let y : c' ≡ c = cc in y) in absurd (omega (arith, l, n, h.scratch))
  late x (by_lowering c' e l n) = n

  -- 10 is what is left
  pub only : (x : Refusal) → stage_of x ≡ steps → Enough z chunk c x → x ≡ refusal.Registers
  only refusal.Registers l e = refl
  only refusal.Constants l e = absurd (e.constants h.kinds h.values (omega (arith, h.few)) refl)
  only refusal.Pool l e = absurd (e.text h.pool refl)
  only refusal.Words l e = absurd (e.words h.code h.lines (omega (arith, h.few)) refl)
  only refusal.TooLong l e = cc
  only refusal.Missing l e = cc
  only refusal.Map l e = cc
  only refusal.Kind l e = cc
  only refusal.Nesting l e = cc
  only refusal.Locals l e = cc
  only refusal.Varargs l e = cc
  only refusal.Trailing l e = cc
  only refusal.Scratch l e = cc
  only refusal.Syntax l e = cc
  only refusal.Digits l e = cc
  only refusal.Room l e = cc
  only refusal.Recording l e = cc
  only refusal.Ended l e = cc
  only refusal.Step l e = cc
  only refusal.Carried l e = cc
  only refusal.Head l e = cc
  only refusal.Layout l e = cc
  only refusal.Page l e = cc
  only refusal.Accepted l e = cc
  only refusal.Ratio l e = cc
  only refusal.Rule l e = cc

-- what to lend by a chunk's length alone, for one of n bytes, up to 32,767
pub record Lends (z : Sizes) (n : ℕ) : Type 0 where
  pub short : n ≤ 32767
  pub code : 4 * n + 1 ≤ z.code
  pub lines : 4 * n + 1 ≤ z.lines
  pub kinds : n / 2 ≤ z.kinds
  pub values : n / 2 ≤ z.values
  pub pool : n ≤ z.pool
  pub scratch : n / 2 ≤ z.scratch
