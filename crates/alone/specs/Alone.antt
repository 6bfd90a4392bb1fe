-- What a step is lent alone: whatever the other buffers hold, it neither reads nor changes them. A step is alone over what each part of it is. Assumes nothing.
use Rattle.std.specs.Prelude.{ℕ, Bool, true, false, List, ◌≡◌, refl}
use Rattle.std.proofs.Common.{sym, ap, ◌∙◌}
use Rattle.refusals.specs.declared.Refusal.{Refusal}
use Rattle.model.specs.declared.State.{State}
use Rattle.model.specs.Steps.{Buffers, bufs, Result, done, refused, Step, and_then, ◌>>=◌, return, refuse, get, change, code_now, change_words, skip, when}

-- what is lent of m, and of the others what o has
abbrev pub none : Buffers → Buffers → Buffers
none o m = o

abbrev pub code_alone : Buffers → Buffers → Buffers
code_alone o m = bufs m.code o.lines o.kinds o.values o.pool

abbrev pub words : Buffers → Buffers → Buffers
words o m = bufs m.code m.lines o.kinds o.values o.pool

abbrev pub table : Buffers → Buffers → Buffers
table o m = bufs o.code o.lines m.kinds m.values m.pool

-- an answer over other buffers
abbrev pub onto : {A : Type 0} → (Buffers → Buffers) → Result A → Result A
onto f (done a s m) = done a s (f m)
onto f (refused k m) = refused k (f m)

-- a step that is lent these alone: whatever the others hold, it neither reads nor changes them
abbrev pub Alone : {A : Type 0} → (Buffers → Buffers → Buffers) → Step A → Type 0
Alone lent x = (o : Buffers) (s : State) (m : Buffers) → x s (lent o m) ≡ onto (lent o) (x s m)

-- ---- the parts of a step, whatever it is lent

module _ (lent : Buffers → Buffers → Buffers) where
  pub alone_return : {A : Type 0} (a : A) → Alone lent (return a)
  alone_return a o s m = refl

  pub alone_skip : Alone lent skip
  alone_skip o s m = refl

  pub alone_refuse : (A : Type 0) (k : Refusal) → Alone lent (refuse {A = A} k)
  alone_refuse A k o s m = refl

  pub alone_get : Alone lent get
  alone_get o s m = refl

  pub alone_change : (f : State → State) → Alone lent (change f)
  alone_change f o s m = refl

module _ {lent : Buffers → Buffers → Buffers} where
  onto_then : {A B : Type 0} (f : A → Step B) → ((a : A) → Alone lent (f a)) → (o : Buffers) (r : Result A) → and_then (onto (lent o) r) f ≡ onto (lent o) (and_then r f)
  unfolding and_then
  onto_then f g o (done a s m) = g a o s m
  onto_then f g o (refused k m) = refl

  pub alone_then : {A B : Type 0} (x : Step A) (f : A → Step B) → Alone lent x → ((a : A) → Alone lent (f a)) → Alone lent (x >>= f)
  alone_then {A} x f h g o s m = ap (λ (r : Result A). and_then r f) (h o s m) ∙ onto_then f g o (x s m)

  pub alone_if : {A : Type 0} (t : Bool) (x y : Step A) → Alone lent x → Alone lent y → Alone {A = A} lent (elim t [ true ↦ x | false ↦ y ])
  alone_if true x y h i = h
  alone_if false x y h i = i

  pub alone_when : (t : Bool) (x : Step (Unit {0})) → Alone lent x → Alone lent (when t x)
  alone_when t x h = alone_if t x skip h (alone_skip lent)

onto_none : {A : Type 0} (lent : Buffers → Buffers → Buffers) (o m : Buffers) (r : Result A) → onto (none (lent o m)) r ≡ onto (lent o) (onto (none m) r)
onto_none lent o m (done a s m₁) = refl
onto_none lent o m (refused k m₁) = refl

-- a step that is lent nothing is alone over whatever is lent
pub alone_none : {A : Type 0} (lent : Buffers → Buffers → Buffers) {x : Step A} → Alone none x → Alone lent x
alone_none lent {x} h o s m = h (lent o m) s m ∙ (onto_none lent o m (x s m) ∙ ap (onto (lent o)) (sym (h m s m)))

-- ---- the words of the code

pub alone_code_now : Alone code_alone code_now
alone_code_now o s m = refl

pub alone_change_words : (f : List ℕ → List ℕ) → Alone code_alone (change_words f)
alone_change_words f o s m = refl

onto_code : {A : Type 0} (o m : Buffers) (r : Result A) → onto (code_alone (words o m)) r ≡ onto (words o) (onto (code_alone m) r)
onto_code o m (done a s m₁) = refl
onto_code o m (refused k m₁) = refl

-- a step that is lent the code alone is alone over code and lines
pub alone_code : {A : Type 0} (x : Step A) → Alone code_alone x → Alone words x
alone_code x h o s m = h (words o m) s m ∙ (onto_code o m (x s m) ∙ ap (onto (words o)) (sym (h m s m)))

-- .. the two above too
pub words_code_now : Alone words code_now
words_code_now = alone_code code_now alone_code_now

pub words_change_words : (f : List ℕ → List ℕ) → Alone words (change_words f)
words_change_words f = alone_code (change_words f) (alone_change_words f)
