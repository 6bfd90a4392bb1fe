-- What was read goes on to the rest: whatever holds of the answer without it, and of the rest, holds of all. Assumes nothing.
use Rattle.std.specs.Prelude.{ℕ, ◌≡◌, refl, Bool, true, false, Option, Some, None, Result, Ok, Err}
use Rattle.nodes.specs.Nodes.{with_byte, with_line, with_bits, with_text, with_kind, with_bin_op, with_un_op, require}
use Rattle.ast.specs.declared.Kind.{Kind}
use Rattle.ast.specs.declared.BinOp.{BinOp}
use Rattle.ast.specs.declared.UnOp.{UnOp}
use Rattle.cursor.specs.declared.Text.{Text}
use Rattle.refusals.specs.declared.Refusal.{Refusal}

module _ {A : Type 0} (P : A → Type 0) (r : A) (no_r : P r) where
  pub on_byte : (q : Option ℕ) (f : ℕ → A) → ((b : ℕ) → q ≡ Some b → P (f b)) → P (with_byte q r f)
  on_byte None f h = no_r
  on_byte (Some b) f h = h b refl

  pub on_line : (q : Option ℕ) (f : ℕ → A) → ((l : ℕ) → q ≡ Some l → P (f l)) → P (with_line q r f)
  on_line None f h = no_r
  on_line (Some l) f h = h l refl

  pub on_bits : (q : Option ℕ) (f : ℕ → A) → ((b : ℕ) → q ≡ Some b → P (f b)) → P (with_bits q r f)
  on_bits None f h = no_r
  on_bits (Some b) f h = h b refl

  pub on_text : (q : Option Text) (f : Text → A) → ((t : Text) → q ≡ Some t → P (f t)) → P (with_text q r f)
  on_text None f h = no_r
  on_text (Some t) f h = h t refl

  pub on_kind : (q : Result Kind Refusal) (f : Kind → A) → ((k : Kind) → P (f k)) → P (with_kind q r f)
  on_kind (Err e) f h = no_r
  on_kind (Ok k) f h = h k

  pub on_bin : (q : Result BinOp Refusal) (f : BinOp → A) → ((o : BinOp) → P (f o)) → P (with_bin_op q r f)
  on_bin (Err e) f h = no_r
  on_bin (Ok o) f h = h o

  pub on_un : (q : Result UnOp Refusal) (f : UnOp → A) → ((o : UnOp) → P (f o)) → P (with_un_op q r f)
  on_un (Err e) f h = no_r
  on_un (Ok o) f h = h o

  pub on_require : (q : Bool) (f : Unit {0} → A) → P (f tt) → P (require q r f)
  on_require false f h = no_r
  on_require true f h = h

pub on_test : {A : Type 0} (P : A → Type 0) (q : Bool) (a b : A) → P a → P b → P (elim q [ true ↦ a | false ↦ b ])
on_test P true a b h k = h
on_test P false a b h k = k
