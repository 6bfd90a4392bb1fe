-- What conditional jumps and `not` take: a test and its jump behind the value; a `Not` behind it, or a truth value, which may become a constant. `pop` takes a word back, which isn't counted.
-- What rests on something that a must-fail edit breaks stands in proofs/Conditions.antt.
use Rattle.std.specs.Prelude.{ℕ, ◌+◌, ◌-◌, ◌≤◌, ◌≡◌, eqb}
use Rattle.std.proofs.Math.Path.{refl}
use Rattle.std.proofs.Common.{arith, length-set}
use Rattle.instructions.specs.Word.{a_of, set_a_of}
use Rattle.model.specs.declared.ExprKind.{ExprKind}
use Rattle.model.specs.declared.ExprContext.{ExprContext}
use Rattle.model.specs.declared.State.{State}
use Rattle.model.specs.Descriptor.{with_kind}
use Rattle.model.specs.Steps.{return}
use Rattle.model.specs.Emission.{with_pc}
use Rattle.model.specs.Jumps.{get_jump_control}
use Rattle.model.specs.Conditions.{bit, pop, invertjump}
use Rattle.bound.specs.Takes.{Resource, words, entries, text, used, per_word, per_constant, left, Spends, Takes, Any, at_most, nothing_then, spends_return, takes_return, takes_code_now, room_same}
use Rattle.bound.specs.Emission.{takes_change_word}
use Rattle.bound.specs.Discharge.{due, owes, value}

popped : (R : Resource) (s : State) → used R (with_pc (s.pc - 1) s) ≤ used R s
popped words s = omega arith
popped entries s = omega arith
popped text s = omega arith

module _ {R : Resource} {cap : ℕ} where
  pub takes_pop : Takes R cap 0 pop
  unfolding pop
  takes_pop s m l = left tt (with_pc (s.pc - 1) s) _ tt (omega (arith, popped R s)) refl refl (room_same R cap m _ (length-set m.code (s.pc - 1) 0) (length-set m.lines (s.pc - 1) 0) refl refl refl l)

  pub takes_invertjump : (e : ExprContext) → Takes R cap 0 (invertjump e)
  unfolding invertjump
  takes_invertjump e = nothing_then takes_code_now (λ code. takes_change_word (get_jump_control code e.info) (λ w. set_a_of w (bit (eqb (a_of w) 0))))

  -- no word
  pub takes_none : {A : Type 0} {c : ℕ} (a : A) → Takes R cap c (return a)
  takes_none a = at_most (takes_return a) (omega arith)

  -- a descriptor without a word
  pub spends_kept : {c : ℕ} (e : ExprContext) → owes R e ≤ c → Spends R cap c (return e) (owes R) Any
  spends_kept e h = at_most (spends_return e tt) h

  -- a truth value
  pub spends_truth : (k : ExprKind) (e : ExprContext) → due R k ≡ per_constant R → Spends R cap (value R e + per_word R + per_constant R) (return (with_kind k e.info e)) (owes R) Any
  spends_truth k e h = spends_kept _ (omega (arith, h))
