-- `local or f(7, ...)` as six words with a Return behind them: its code is encoded by its words, and both runs of it, by the jump and by the call, are instances of the theorem.
-- What rests on something that a must-fail edit breaks stands in proofs/Examples.antt.
use Rattle.std.specs.Prelude.{ℕ, zero, suc, ◌<◌, ◌≡◌}
use Rattle.std.proofs.Math.Bool.{true}
use Rattle.std.proofs.Math.Path.{refl}
use mathlib.Core.List.{List, [], ◌∷◌}
use Rattle.std.proofs.Math.Option.{some}
use native.Mathlib.Omega.{arith}
use Rattle.std.proofs.Math.ListN.{get_or}
use Rattle.instructions.specs.Word.{abc_of, a_bx_of}
use Rattle.opcodes.specs.declared.OpCode.TheVariants as op
use Rattle.constants.specs.Entry.{Constant, nil as knil, number as knumber, text as ktext, entry_of, same, same_bytes, constant_at}
use Rattle.model.specs.Values.{number}
use Rattle.model.specs.Running.{Program}
use Rattle.labelled.specs.Code.{val, glob, cva, tseta, to, setw, callw, pl, br, Code, size}
use Rattle.labelled.specs.Table.{place}
use Rattle.threads.specs.Words.{jmp_to}
use Rattle.threads.specs.Encoding.{Enc}
use Rattle.threads.specs.Coded.{coded}

abbrev pub table : List Constant
table = ktext (102 ∷ []) ∷ knumber 7 ∷ []

abbrev pub code : Code
code = pl (callw (cva 1 1)) ∷ pl (setw 2 (val (number 7))) ∷ pl (setw 1 (glob (102 ∷ []))) ∷ br (tseta 1 0 true) (to 6) ∷ []

abbrev words : List ℕ
words = abc_of op.TestSet 1 0 1 ∷ jmp_to 1 6 ∷ a_bx_of op.GetGlobal 1 0 ∷ a_bx_of op.LoadK 2 1 ∷ abc_of op.VarArg 3 0 0 ∷ abc_of op.Call 1 0 2 ∷ abc_of op.Return 1 2 0 ∷ []

abbrev pub program : Program
program = record { words = words; constants = 2; kinds = 4 ∷ 3 ∷ []; values = 1 ∷ 7 ∷ []; pool = 102 ∷ []; frame = 3 }

pub entries : (i : ℕ) → i < 2 → constant_at (102 ∷ []) (4 ∷ 3 ∷ []) (1 ∷ 7 ∷ []) i ≡ some (get_or table i knil)
unfolding entry_of
entries zero l = refl
entries (suc zero) l = refl
entries (suc (suc i)) l = absurd (omega arith)

pub encoded : Enc (coded table 3) words code
unfolding size place same same_bytes
encoded = (
  (omega arith, (refl, refl)),
  (
    (omega arith, (omega arith, refl)),
    (
      (omega arith, (omega arith, refl)),
      (((refl, omega arith, omega arith), (refl, tt, omega arith, omega arith)), tt),
    ),
  ),
)
