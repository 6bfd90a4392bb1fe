-- An unknown number of a kind or an operator is refused with 4, and with nothing else. Assumes nothing.
use Rattle.std.specs.Prelude.{ℕ, zero, suc, ◌≡◌, List, [], ◌∷◌, map, get_or, Result, Ok, Err}
use Rattle.std.proofs.Common.{arith}
use Rattle.refusals.specs.declared.Refusal.{Refusal}
use Rattle.refusals.specs.declared.Refusal.TheVariants as refusal
use Rattle.ast.specs.declared.Kind.TheVariants as kind
use Rattle.ast.specs.declared.BinOp.TheVariants as bin
use Rattle.ast.specs.declared.UnOp.TheVariants as un
use Rattle.ast.specs.Kinds.{kind_of}
use Rattle.ast.specs.Operators.{bin_op_of, un_op_of}

among : {A : Type 0} (known : List A) (n : ℕ) (e : Refusal) → ◌≡◌ {A = Result A Refusal} (get_or (map Ok known) n (Err refusal.Kind)) (Err e) → e ≡ refusal.Kind
among [] n e h = cc
among (x ∷ known) zero e h = absurd (let z : ◌≡◌ {A = ℕ} 0 1 = cc in omega arith)
among (x ∷ known) (suc n) e h = among known n e h

pub kind_refused : (n : ℕ) (e : Refusal) → kind_of n ≡ Err e → e ≡ refusal.Kind
unfolding kind_of
kind_refused n e h = among (kind.Nil ∷ kind.True ∷ kind.False ∷ kind.Number ∷ kind.Str ∷ kind.VarArg ∷ kind.Name ∷ kind.Binary ∷ kind.Unary ∷ kind.Index ∷ kind.Field ∷ kind.MethodCall ∷ kind.Call ∷ kind.Paren ∷ []) n e h

pub bin_op_refused : (n : ℕ) (e : Refusal) → bin_op_of n ≡ Err e → e ≡ refusal.Kind
unfolding bin_op_of
bin_op_refused n e h = among (bin.Add ∷ bin.Sub ∷ bin.Mul ∷ bin.Div ∷ bin.Mod ∷ bin.Pow ∷ bin.Concat ∷ bin.Lt ∷ bin.Le ∷ bin.Gt ∷ bin.Ge ∷ bin.Eq ∷ bin.Ne ∷ bin.And ∷ bin.Or ∷ []) n e h

pub un_op_refused : (n : ℕ) (e : Refusal) → un_op_of n ≡ Err e → e ≡ refusal.Kind
unfolding un_op_of
un_op_refused n e h = among (un.Neg ∷ un.Not ∷ un.Len ∷ []) n e h
