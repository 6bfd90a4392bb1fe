-- The operators by number, in the order of `BinOp` and `UnOp` of ast.rs (document 01, "The chunk"). Assumes nothing.
use Rattle.std.specs.Prelude.{ℕ, List, [], ◌∷◌, get_or, Result, Ok, Err}
use Rattle.ast.specs.declared.BinOp.TheVariants.{Add, Sub, Mul, Div, Mod, Pow, Concat, Lt, Le, Gt, Ge, Eq, Ne, And, Or}
use Rattle.ast.specs.declared.UnOp.TheVariants.{Neg, Not, Len}
use Rattle.ast.specs.declared.BinOp.{BinOp}
use Rattle.ast.specs.declared.UnOp.{UnOp}
use Rattle.refusals.specs.declared.Refusal.{Refusal}
use Rattle.refusals.specs.declared.Refusal.TheVariants as refusal

abbrev pub bin_ops : List (Result BinOp Refusal)
bin_ops = Ok Add ∷ Ok Sub ∷ Ok Mul ∷ Ok Div ∷ Ok Mod ∷ Ok Pow ∷ Ok Concat ∷ Ok Lt ∷ Ok Le ∷ Ok Gt ∷ Ok Ge ∷ Ok Eq ∷ Ok Ne ∷ Ok And ∷ Ok Or ∷ []

unfoldable pub bin_op_of : ℕ → Result BinOp Refusal
bin_op_of n = get_or bin_ops n (Err refusal.Kind)

abbrev pub un_ops : List (Result UnOp Refusal)
un_ops = Ok Neg ∷ Ok Not ∷ Ok Len ∷ []

unfoldable pub un_op_of : ℕ → Result UnOp Refusal
un_op_of n = get_or un_ops n (Err refusal.Kind)
