-- `local or f(7, ...)` as six words with a Return behind them: its code is encoded by its words, and both runs of it, by the jump and by the call, are instances of the theorem.
use Rattle.std.specs.Prelude.{◌≡◌}
use Rattle.std.proofs.Math.Bool.{true}
use Rattle.std.proofs.Math.Path.{refl}
use mathlib.Core.List.{List, [], ◌∷◌}
use native.Mathlib.Omega.{arith}
use Rattle.std.proofs.Math.ListN.{get_or}
use Rattle.model.specs.Values.{Value, nil, truth, number, text, first, World, global_read, outward, call}
use Rattle.labelled.specs.Code.{size, same as same_number}
use Rattle.labelled.specs.Machine.{Hist, Regs, upd, at, eval, eval_c, exec}
use Rattle.labelled.specs.Locals.{setting_of}
use Rattle.running.specs.Run.{Returns}
use Rattle.running.proofs.Run.{ran}
use Rattle.running.specs.Examples.{code, encoded, entries, program, table}

module _ (w : World) (varargs : List Value) where
  abbrev Gives : Value → Value → Hist → Type 0
  Gives local v h = Returns w program table (local ∷ []) varargs refl (omega arith) entries (omega arith) (v ∷ []) h

  of : (local : Value) (R : Regs) (h : Hist) → exec (setting_of w (local ∷ []) varargs) code ≡ at 6 R h → Gives local (R 1) h
  unfolding size
  of local R h e = ran w program table (local ∷ []) varargs refl (omega arith) entries (omega arith) code R h 1 1 encoded (tt, (tt, (tt, ((omega arith, omega arith), tt)))) (omega arith) e refl (omega arith)

  -- a local that is true
  by_jump : Gives (truth true) (truth true) []
  unfolding exec size upd same_number
  by_jump = of (truth true) (upd 1 (truth true) (λ k. get_or (truth true ∷ []) k nil)) [] refl

  -- one that is nil: the global is read, then called
  abbrev read : Hist
  read = outward global_read (text (102 ∷ []) ∷ []) []

  abbrev called : Hist
  called = outward call (w.one read ∷ number 7 ∷ varargs) read

  by_call : Gives nil (first (w.many called)) called
  unfolding exec size upd same_number eval eval_c
  by_call = of nil (upd 1 (first (w.many called)) (upd 2 (number 7) (upd 1 (w.one read) (λ k. get_or (nil ∷ []) k nil)))) called refl
