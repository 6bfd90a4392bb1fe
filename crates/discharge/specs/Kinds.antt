-- Kinds and their numbers: a kind is known by its number. Parts of the definitions that the code has functions for. And of a register only what fits its field counts. Assumes nothing.
use Rattle.std.specs.Prelude.{ℕ, zero, suc, Bool, true, false, ◌||◌, List, ◌≡◌, refl, leb, length}
use Rattle.std.proofs.Common.{sym, ap, ◌∙◌, eqb-true}
use Rattle.model.specs.declared.ExprKind.{ExprKind}
use Rattle.model.specs.declared.ExprKind.TheVariants.{Nil, True, False, K, KNum, Local, Global, Indexed, Jmp, Relocable, NonReloc, Call, VarArg}
use Rattle.model.specs.declared.ExprContext.{ExprContext}
use Rattle.model.specs.Descriptor.{tag_of, is_kind, with_kind, with_jumps, has_jumps}
use Rattle.model.specs.Steps.{Step, ◌>>=◌, ◌>>◌, return, get, when}
use Rattle.model.specs.Jumps.{need_value}
use Rattle.model.specs.Emission.{alloc_reg, emit_jump, code_label, patch_to_here, get_label}
use Rattle.model.specs.Discharge.{land, settle, join_jump, free_expr, exp2reg, exp2nextreg}

-- the descriptor in a register, whatever number is given
abbrev pub put : ExprContext → ℕ → ℕ → Step ExprContext
put e reg n = return (with_kind NonReloc reg e)

-- a descriptor, whatever is given
abbrev pub give : ExprContext → Unit {0} → Step ExprContext
give e _ = return e

-- whether some jump of either list brings no value
abbrev pub lacks_value : ExprContext → List ℕ → Bool
lacks_value e code = need_value (length code) code e.t || need_value (length code) code e.f

-- parts of `load_both`: the jump over both loads, and from the load of true or of false on
abbrev pub over_of : ExprContext → Step ℕ
over_of e = elim (is_kind Jmp e) [ true ↦ return 0 | false ↦ emit_jump ]

abbrev pub load_yes : ExprContext → ℕ → ℕ → ℕ → Step (Unit {0})
load_yes e reg over off = do
  on ← code_label reg 1 0
  patch_to_here over
  final ← get_label
  land e reg final off on

abbrev pub load_no : ExprContext → ℕ → ℕ → Step (Unit {0})
load_no e reg over = do
  off ← code_label reg 0 1
  load_yes e reg over off

-- the part of `exp2reg` behind `discharge2reg`
abbrev pub placed : ExprContext → ℕ → Step ExprContext
placed e reg = do
  d ← join_jump e
  when (has_jumps d) (settle d reg)
  return (with_kind NonReloc reg (with_jumps 0 0 d))

-- the parts of `exp2nextreg` and of `exp2anyreg` behind `discharge_vars`
abbrev pub next_of : ExprContext → Step ExprContext
next_of e = do
  free_expr e
  reg ← alloc_reg
  exp2reg e reg

abbrev pub any_of : ExprContext → Step ExprContext
any_of e = do
  s ← get
  elim (is_kind NonReloc e) [
    | true ↦ elim (has_jumps e) [
      | true ↦ elim (leb s.active e.info) [ true ↦ exp2reg e e.info | false ↦ exp2nextreg e ]
      | false ↦ return e
    ]
    | false ↦ exp2nextreg e
  ]

-- the descriptor as the constant that is given
abbrev pub constant_of : ExprContext → ℕ → Step ExprContext
constant_of e k = return (with_kind K k e)

-- the kind of a number
unfoldable kind_of : ℕ → ExprKind
kind_of zero = Nil
kind_of (suc zero) = True
kind_of (suc (suc zero)) = False
kind_of (suc (suc (suc zero))) = K
kind_of (suc (suc (suc (suc zero)))) = KNum
kind_of (suc (suc (suc (suc (suc zero))))) = Local
kind_of (suc (suc (suc (suc (suc (suc zero)))))) = Global
kind_of (suc (suc (suc (suc (suc (suc (suc zero))))))) = Indexed
kind_of (suc (suc (suc (suc (suc (suc (suc (suc zero)))))))) = Jmp
kind_of (suc (suc (suc (suc (suc (suc (suc (suc (suc zero))))))))) = Relocable
kind_of (suc (suc (suc (suc (suc (suc (suc (suc (suc (suc zero)))))))))) = NonReloc
kind_of (suc (suc (suc (suc (suc (suc (suc (suc (suc (suc (suc zero))))))))))) = Call
kind_of (suc (suc (suc (suc (suc (suc (suc (suc (suc (suc (suc (suc n)))))))))))) = VarArg

kind_tag : (k : ExprKind) → kind_of (tag_of k) ≡ k
unfolding kind_of
kind_tag Nil = refl
kind_tag True = refl
kind_tag False = refl
kind_tag K = refl
kind_tag KNum = refl
kind_tag Local = refl
kind_tag Global = refl
kind_tag Indexed = refl
kind_tag Jmp = refl
kind_tag Relocable = refl
kind_tag NonReloc = refl
kind_tag Call = refl
kind_tag VarArg = refl

pub kind_is : (k : ExprKind) (e : ExprContext) → is_kind k e ≡ true → e.kind ≡ k
kind_is k e h = sym (kind_tag e.kind) ∙ ap kind_of (eqb-true _ _ h) ∙ kind_tag k
