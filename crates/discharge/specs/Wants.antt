-- Bringing a descriptor to what is wanted, as one definition, and its parts, which laws speak of. Assumes nothing.
use Rattle.std.specs.Prelude.{ℕ, Bool, true, false, not}
use Rattle.model.specs.declared.ExprKind.{ExprKind}
use Rattle.model.specs.declared.ExprKind.TheVariants as kind
use Rattle.model.specs.declared.ExprContext.{ExprContext}
use Rattle.model.specs.declared.State.{State}
use Rattle.model.specs.Steps.{Buffers, Result, done, refused, Step, and_then, return}
use Rattle.model.specs.Descriptor.{with_kind, has_jumps}
use Rattle.model.specs.Discharge.{discharge_vars, load_kind, discharge2reg, exp2reg, exp2nextreg, exp2anyreg, exp2val, exp2rk}
use Rattle.discharge.specs.Want.{Want}
use Rattle.discharge.specs.Want.{Vars, Load, Reg, Next, Any, Val, Rk}
use Rattle.discharge.specs.Operand.{Operand}
use Rattle.discharge.specs.Operand as operand
use Rattle.discharge.specs.Spot.{Spot}
use Rattle.discharge.specs.Spot as spot
use Rattle.discharge.specs.Kinds.{placed}

-- the definition that each is; `Load` and `Reg` want it in the register that is named
abbrev pub wanted : Want → ℕ → ExprContext → Step ExprContext
wanted Vars reg e = discharge_vars e
wanted Load reg e = discharge2reg e reg
wanted Reg reg e = exp2reg e reg
wanted Next reg e = exp2nextreg e
wanted Any reg e = exp2anyreg e
wanted Val reg e = exp2val e
wanted Rk reg e = exp2rk e

abbrev pub only_value : Want → Bool
only_value Vars = true
only_value Load = false
only_value Reg = false
only_value Next = false
only_value Any = false
only_value Val = false
only_value Rk = false

abbrev pub keeps_open : Want → Bool
keeps_open Vars = false
keeps_open Load = true
keeps_open Reg = false
keeps_open Next = false
keeps_open Any = false
keeps_open Val = false
keeps_open Rk = false

-- a kind that `discharge_vars` leaves as it is
abbrev pub value_kind : ExprKind → Bool
value_kind kind.Nil = true
value_kind kind.True = true
value_kind kind.False = true
value_kind kind.K = true
value_kind kind.KNum = true
value_kind kind.Local = false
value_kind kind.Global = false
value_kind kind.Indexed = false
value_kind kind.Jmp = true
value_kind kind.Relocable = true
value_kind kind.NonReloc = true
value_kind kind.Call = false
value_kind kind.VarArg = false

abbrev pub is_value : ExprContext → Bool
is_value e = value_kind e.kind

-- whether a constant will do
abbrev pub wants_operand : Want → ExprContext → Bool
wants_operand Vars e = false
wants_operand Load e = false
wants_operand Reg e = false
wants_operand Next e = false
wants_operand Any e = false
wants_operand Val e = false
wants_operand Rk e = not (has_jumps e)

-- whether a value is what is wanted
abbrev pub is_plain : Want → ExprContext → Bool
is_plain Vars e = true
is_plain Load e = false
is_plain Reg e = false
is_plain Next e = false
is_plain Any e = false
is_plain Val e = not (has_jumps e)
is_plain Rk e = false

-- what is left for a value that doesn't become a constant
abbrev pub reg_of : Want → ℕ → ExprContext → Step ExprContext
reg_of Vars reg e = discharge_vars e
reg_of Load reg e = discharge2reg e reg
reg_of Reg reg e = exp2reg e reg
reg_of Next reg e = exp2nextreg e
reg_of Any reg e = exp2anyreg e
reg_of Val reg e = exp2val e
reg_of Rk reg e = exp2anyreg e

-- in the register: the jumps land, unless they are to stay open
abbrev pub landing_of : Want → ℕ → ExprContext → Step ExprContext
landing_of Vars reg e = placed e reg
landing_of Load reg e = return e
landing_of Reg reg e = placed e reg
landing_of Next reg e = placed e reg
landing_of Any reg e = placed e reg
landing_of Val reg e = placed e reg
landing_of Rk reg e = placed e reg

abbrev pub there_of : Want → ExprContext → ℕ → Step ExprContext
there_of w e reg s m = and_then (load_kind e.kind e reg s m) (landing_of w reg)

-- what the answers of the parts stand for
abbrev pub rest_is : Want → ℕ → ExprContext → Operand → Buffers → Result ExprContext
rest_is w reg e (operand.Constant s k) m = done (with_kind kind.K k e) s m
rest_is w reg e (operand.Other s) m = reg_of w reg e s m
rest_is w reg e (operand.Refused k) m = refused k m

abbrev pub spot_is : Want → ExprContext → State → Spot → Buffers → Result ExprContext
spot_is w e st spot.Stay m = done e st m
spot_is w e st (spot.At s reg) m = there_of w e reg s m
spot_is w e st (spot.Refused k) m = refused k m
