-- The expression descriptor: `ExprContext` of codegen.rs. Assumes nothing.
use Rattle.std.specs.Prelude.{ℕ, Bool, not, ◌&&◌, eqb}
use Rattle.std.specs.Float.{binary64}
use Rattle.std.specs.Float.Ieee.{of_bits}
use Rattle.folding.specs.declared.Numeral.{Numeral}
use Rattle.model.specs.declared.ExprKind.{ExprKind}
use Rattle.model.specs.declared.ExprKind.TheVariants.{Nil, True, False, K, KNum, Local, Global, Indexed, Jmp, Relocable, NonReloc, Call, VarArg}
use Rattle.model.specs.declared.ExprContext.{ExprContext}

-- `ExprContext::new`
abbrev pub new_of : ExprKind → ℕ → ExprContext
new_of k i = record { kind = k; info = i; aux = 0; nval = of_bits binary64 0; bits = 0; t = 0; f = 0 }

-- `ExprContext::number`
abbrev pub descriptor_of : Numeral → ExprContext
descriptor_of n = record { kind = KNum; info = 0; aux = 0; nval = n.value; bits = n.bits; t = 0; f = 0 }

-- the descriptor with another kind and info
abbrev pub with_kind : ExprKind → ℕ → ExprContext → ExprContext
with_kind k i e = record { kind = k; info = i; aux = e.aux; nval = e.nval; bits = e.bits; t = e.t; f = e.f }

-- the descriptor with other jump lists
abbrev pub with_jumps : ℕ → ℕ → ExprContext → ExprContext
with_jumps t f e = record { kind = e.kind; info = e.info; aux = e.aux; nval = e.nval; bits = e.bits; t = t; f = f }

-- `has_jumps`
abbrev pub has_jumps : ExprContext → Bool
has_jumps e = not (eqb e.t e.f)

-- the kinds told apart by numbers
abbrev pub tag_of : ExprKind → ℕ
tag_of Nil = 0
tag_of True = 1
tag_of False = 2
tag_of K = 3
tag_of KNum = 4
tag_of Local = 5
tag_of Global = 6
tag_of Indexed = 7
tag_of Jmp = 8
tag_of Relocable = 9
tag_of NonReloc = 10
tag_of Call = 11
tag_of VarArg = 12

abbrev pub is_kind : ExprKind → ExprContext → Bool
is_kind k e = eqb (tag_of e.kind) (tag_of k)

-- `is_numeral`
abbrev pub is_numeral : ExprContext → Bool
is_numeral e = is_kind KNum e && (eqb e.t 0 && eqb e.f 0)
