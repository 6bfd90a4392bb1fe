-- `Pen::rows` meets its contract: before each turn, the rows of what the iterators still hold, put here, are all rows put at the start. Assumes nothing.
use Rattle.std.proofs.Common.{sym, ◌∙◌, rules}
use Rattle.listing.specs.Laws.{pen_lost}
use Rattle.listing.proofs.Turns.{turn, end}
use Rattle.listing.proofs.Pen.rows.Goals as goal

pub loop-i-init : goal.loop-i-init
loop-i-init g c = search rules

pub returns-in_err-row : goal.returns-in_err-row
returns-in_err-row g c = λ f h t u.
    let s = c.in-Some.ensures.steps in (
      sym (c.loop-i.invariant f h t u).0
          ∙ sym (turn f h _ _ _ _ _ _ _ _ _ _ s.0.0.0 s.0.0.1 s.1 s.0.1 s.0.2 (t _ _ c.into.ensures) (u _ _ c.into-in-loop-i.ensures) c.in_err-row.ensures.0)
          ∙ pen_lost _ _ c.from_residual.ensures,
      c.in_err-row.ensures.1 ∙ (c.loop-i.invariant f h t u).1,
    )

pub loop-i-preserved : goal.loop-i-preserved
loop-i-preserved g c = λ f h t u.
    let s = c.in-Some.ensures.steps in (
      turn f h _ _ _ _ _ _ _ _ _ _ s.0.0.0 s.0.0.1 s.1 s.0.1 s.0.2 (t _ _ c.into.ensures) (u _ _ c.into-in-loop-i.ensures) c.in_ok-row.ensures.0
          ∙ (c.loop-i.invariant f h t u).0,
      c.in_ok-row.ensures.1 ∙ (c.loop-i.invariant f h t u).1,
    )

pub returns : goal.returns
returns g c = λ f h t u. (sym (c.loop-i.invariant f h t u).0 ∙ end f h _ _ _ _ _ _ _ _ _ _ (λ w. (c.in-None.ensures.steps w).0), (c.loop-i.invariant f h t u).1)
