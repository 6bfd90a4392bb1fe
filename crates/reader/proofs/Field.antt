-- One kind of field: S is the enum that reading it gives, and `field` which of its values stands at a place of the bytes.
--     of-bytes, from_bytes       the signature and the contract of a function of a slice and a place, as the cursor's and as `read_..`
--     of_reader, from-reader     those of a function of a Reader, as `get_..`
--     bytes-tell, reader-tells   that the field at the place is the answer gives what a contract c says of the answer
--     told                       a goal P ∗ Q, where Q is had for nothing: P is left
-- Assumes nothing.
use mathlib.Core.Path.{◌≡◌}
use Prim.Native.Nat.{ℕ}
use mathlib.Core.List.{List, [], ◌∷◌}
use seplogic.Ra.Ura.{Ura}
use mir.Syntax.{Lifetime, Local, local, value_local, imm, w8, w64, ty_int, ty_ref}
use base.Logic.{SProp, ent, sep, emp, via, emp∗, mono_l, comm∗}
use types.Logic.{Logic}
use contract.Lifetimes.{Lfts}
use contract.Monad.{fact}
use denote.Builtin.{u8, usize}
use denote.Exit.{yes}
use denote.RattleType.{RattleType}
use denote.Signature.{plain, named_lft, shr_slice_of}
use denote.Slice.{slice_ty}
use denote.Enum.Enum.{layout}
use denote.Enum.Declared.{Declared, shape, row}
use denote.Triple.Clauses.{Clauses, Ended, AtExit}
use denote.Triple.Entry.{Args}
use types.Kit.{Item, Step, step, prop}
use Rattle.reader.specs.contracts.Reader as T
use Rattle.reader.proofs.Reader.TheLaws as T'

-- the struct's type, over the signature's lifetimes
abbrev pub B : Lfts 1 → RattleType
B κs = T.the_row (named_lft 1 0 tt κs)

-- locals of a body
abbrev pub slice_local : Lifetime → Local
slice_local ℓ = local (slice_ty (ty_ref ℓ imm (ty_int w8))) value_local

abbrev pub number_local : Local
number_local = local (ty_int w64) value_local

abbrev pub reader_local : Lifetime → Local
reader_local ℓ = local (T'.mir ℓ) value_local

module _ (S : Declared) where
  abbrev pub field_local : Local
  field_local = local (layout (shape S)) value_local

  abbrev pub of_bytes : Ended
  of_bytes = record {
    signature = record { lifetimes = 1; outlives = []; params = shr_slice_of (0 ∷ []) tt (plain (λ _. u8)) ∷ plain (λ _. usize) ∷ []; result = plain (λ _. row S) };
    kept = (yes, (yes, tt));
  }

  abbrev pub of_reader : Ended
  of_reader = record {
    signature = record { lifetimes = 1; outlives = []; params = plain B ∷ []; result = plain (λ _. row S) };
    kept = (yes, tt);
  }

  module _ (field : List ℕ → ℕ → S.D) {M : Type 1} (𝓤 : Ura M) where
    abbrev pub from_bytes : Clauses 𝓤 of_bytes
    from_bytes κs a = record { ghost = Unit {0}; requires = λ _. emp 𝓤; ensures = λ _ r _. fact 𝓤 (field a.0.now a.1.0 ≡ r) }

    abbrev pub from_reader : Clauses 𝓤 of_reader
    from_reader κs a = record { ghost = Unit {0}; requires = λ _. emp 𝓤; ensures = λ _ r _. fact 𝓤 (field a.0.bytes.now a.0.at ≡ r) }

    abbrev pub BytesTell : Clauses 𝓤 of_bytes → Type 1
    BytesTell c = (κs : Lfts 1) (a : Args of_bytes.signature κs) (g : (c κs a).ghost) (r : S.D) (end : AtExit of_bytes κs) → field a.0.now a.1.0 ≡ r → ent 𝓤 (emp 𝓤) ((c κs a).ensures g r end)

    abbrev pub ReaderTells : Clauses 𝓤 of_reader → Type 1
    ReaderTells c = (κs : Lfts 1) (a : Args of_reader.signature κs) (g : (c κs a).ghost) (r : S.D) (end : AtExit of_reader κs) → field a.0.bytes.now a.0.at ≡ r → ent 𝓤 (emp 𝓤) ((c κs a).ensures g r end)

pub told : {M : Type 1} {𝓤 : Ura M} {𝓛 : Logic 𝓤} {K : Type 0} {Γ : List (Item 𝓤)} → K → {P Q : SProp 𝓤} → ent 𝓤 (emp 𝓤) Q → Step K 𝓛 Γ (prop P) Γ (prop (sep 𝓤 P Q))
told {𝓤 = 𝓤} t {P} {Q} x = step (λ s. record { prf = via 𝓤 P s.prf (via 𝓤 (sep 𝓤 (emp 𝓤) P) (emp∗ 𝓤 P) (via 𝓤 (sep 𝓤 Q P) (mono_l 𝓤 P x) (comm∗ 𝓤 Q P))) })
