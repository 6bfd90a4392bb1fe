-- What a step takes of one resource, words, entries of the table of constants or bytes of text: how much more of it is in use behind the step than before, at most; and that the step isn't refused for want of it where so much is left.
-- An answer may hold on to a part of the price, for what is still to be done with it. What a step takes is the sum of what its parts take.
use Rattle.std.specs.Prelude.{ℕ, ◌+◌, ◌≤◌, Bool, true, false, ◌≡◌, List, length}
use Rattle.std.proofs.Math.Path.{refl}
use Rattle.std.proofs.Common.{ap, ◌∙◌, arith}
use Rattle.refusals.specs.Number.{number_of}
use Rattle.refusals.specs.declared.Refusal.{Refusal}
use Rattle.refusals.specs.declared.Refusal.TheVariants.{Constants, Pool, Words}
use Rattle.instructions.specs.Limits.{max_words, max_constants}
use Rattle.model.specs.declared.State.{State}
use Rattle.model.specs.Steps.{Buffers, Result, done, refused, Step, and_then, ◌>>=◌, return, refuse, get, change, code_now, change_words, skip, when}

-- ---- resources

pub data Resource : Type 0 where
  words : Resource
  entries : Resource
  text : Resource

-- how much is in use
abbrev pub used : Resource → State → ℕ
used words s = s.pc
used entries s = s.table.count
used text s = s.table.used

-- the price of a word, of a constant that is no text, and of a text of n bytes
abbrev pub per_word : Resource → ℕ
per_word words = 1
per_word entries = 0
per_word text = 0

abbrev pub per_constant : Resource → ℕ
per_constant words = 0
per_constant entries = 1
per_constant text = 0

abbrev pub per_text : Resource → ℕ → ℕ
per_text words n = 0
per_text entries n = 1
per_text text n = n

-- refused for want of it
abbrev pub want : Resource → Refusal
want words = Words
want entries = Constants
want text = Pool

-- so much of it fits into the buffers
abbrev pub Room : Resource → ℕ → Buffers → Type 0
Room words cap m = (cap ≤ length m.code) × ((cap ≤ length m.lines) × (cap ≤ max_words))
Room entries cap m = (cap ≤ length m.kinds) × ((cap ≤ length m.values) × (cap ≤ max_constants))
Room text cap m = cap ≤ length m.pool

-- ---- steps

-- from n in use on, with c more at most: done at this place and line of the chunk, with an answer of which P holds and that holds on to φ of the price; or refused, and then not for want of the resource where c more fits
pub data Leaves (R : Resource) (cap c n at line : ℕ) {A : Type 0} (φ : A → ℕ) (P : A → Type 0) : Result A → Type 0 where
  left : (a : A) (s : State) (m : Buffers) → P a → used R s + φ a ≤ n + c → s.at ≡ at → s.line ≡ line → Room R cap m → Leaves R cap c n at line φ P (done a s m)
  none : (x : Refusal) (m : Buffers) → (n + c ≤ cap → x ≡ want R → ⊥) → Leaves R cap c n at line φ P (refused x m)

-- a step that stays at its place in the chunk
abbrev pub Spends : Resource → ℕ → ℕ → {A : Type 0} → Step A → (A → ℕ) → (A → Type 0) → Type 0
Spends R cap c x φ P = (s : State) (m : Buffers) → Room R cap m → Leaves R cap c (used R s) s.at s.line φ P (x s m)

-- whose answer holds on to nothing
abbrev pub Gives : Resource → ℕ → ℕ → {A : Type 0} → Step A → (A → Type 0) → Type 0
Gives R cap c x P = Spends R cap c x (λ a. 0) P

-- and is whatever it is
abbrev pub Any : {A : Type 0} → A → Type 0
Any a = Unit {0}

abbrev pub Takes : Resource → ℕ → ℕ → {A : Type 0} → Step A → Type 0
Takes R cap c x = Gives R cap c x Any

-- refusals of other numbers differ
pub other : (x y : Refusal) → (number_of x ≡ number_of y → ⊥) → x ≡ y → ⊥
other x y n e = n (ap number_of e)

-- a refusal up to 10 is for want of no resource
pub not_wanting : (R : Resource) (x : Refusal) → number_of x ≤ 10 → x ≡ want R → ⊥
not_wanting words x h = other x Words (λ y. omega (arith, h, y))
not_wanting entries x h = other x Constants (λ y. omega (arith, h, y))
not_wanting text x h = other x Pool (λ y. omega (arith, h, y))

-- ---- the laws

module _ {R : Resource} {cap : ℕ} where
  -- seen from where less was in use
  pub later : {A : Type 0} {φ : A → ℕ} {P : A → Type 0} {c d n n' at at' line line' : ℕ} {r : Result A} → Leaves R cap d n' at' line' φ P r → n' + d ≤ n + c → at' ≡ at → line' ≡ line → Leaves R cap c n at line φ P r
  later (left a s m p e f g l) h i j = left a s m p (omega (arith, e, h)) (f ∙ i) (g ∙ j) l
  later (none x m n) h i j = none x m (λ k. n (omega (arith, h, k)))

  pub at_most : {A : Type 0} {φ : A → ℕ} {P : A → Type 0} {c d : ℕ} {x : Step A} → Spends R cap c x φ P → c ≤ d → Spends R cap d x φ P
  at_most g h s m l = later (g s m l) (omega (arith, h)) refl refl

  -- holding on to less, and saying less
  leaves_less : {A : Type 0} {φ ψ : A → ℕ} {P Q : A → Type 0} {c n at line : ℕ} {r : Result A} → Leaves R cap c n at line φ P r → ((a : A) → P a → (ψ a ≤ φ a) × Q a) → Leaves R cap c n at line ψ Q r
  leaves_less (left a s m p e f g l) h = left a s m (h a p).1 (omega (arith, e, (h a p).0)) f g l
  leaves_less (none x m n) h = none x m n

  pub spends_less : {A : Type 0} {φ ψ : A → ℕ} {P Q : A → Type 0} {c : ℕ} {x : Step A} → Spends R cap c x φ P → ((a : A) → P a → (ψ a ≤ φ a) × Q a) → Spends R cap c x ψ Q
  spends_less g h s m l = leaves_less (g s m l) h

  -- holding on to more
  leaves_hold : {A : Type 0} {φ : A → ℕ} {P : A → Type 0} {c n at line : ℕ} {r : Result A} (k : ℕ) → Leaves R cap c n at line φ P r → Leaves R cap (k + c) n at line (λ a. k + φ a) P r
  leaves_hold k (left a s m p e f g l) = left a s m p (omega (arith, e)) f g l
  leaves_hold k (none x m n) = none x m (λ h. n (omega (arith, h)))

  pub holding : {A : Type 0} {φ : A → ℕ} {P : A → Type 0} {c : ℕ} {x : Step A} (k : ℕ) → Spends R cap c x φ P → Spends R cap (k + c) x (λ a. k + φ a) P
  holding k g s m l = leaves_hold k (g s m l)

  -- holding on to nothing
  pub takes : {A : Type 0} {φ : A → ℕ} {P : A → Type 0} {c : ℕ} {x : Step A} → Spends R cap c x φ P → Takes R cap c x
  takes g = spends_less g (λ a p. (omega arith, tt))

  -- one step and then another: the second may take what the first's answer holds on to, and d more
  pub then_leaves : {A B : Type 0} {φ : A → ℕ} {ψ : B → ℕ} {P : A → Type 0} {Q : B → Type 0} {c n at line at' line' : ℕ} {r : Result A} {f : A → Step B} (d : ℕ) → Leaves R cap c n at line φ P r →
      ((a : A) (s : State) (m : Buffers) → P a → s.at ≡ at → s.line ≡ line → Room R cap m → Leaves R cap (φ a + d) (used R s) at' line' ψ Q (f a s m)) → Leaves R cap (c + d) n at' line' ψ Q (and_then r f)
  unfolding and_then
  then_leaves d (left a s m p e f g l) h = later (h a s m p f g l) (omega (arith, e)) refl refl
  then_leaves d (none x m n) h = none x m (λ k. n (omega (arith, k)))

  pub spends_then : {A B : Type 0} {φ : A → ℕ} {ψ : B → ℕ} {P : A → Type 0} {Q : B → Type 0} {c : ℕ} {x : Step A} {f : A → Step B} (d : ℕ) → Spends R cap c x φ P → ((a : A) → P a → Spends R cap (φ a + d) (f a) ψ Q) → Spends R cap (c + d) (x >>= f) ψ Q
  spends_then d g h s m l = then_leaves d (g s m l) (λ a s₁ m₁ p e f k. later (h a p s₁ m₁ k) (omega arith) e f)

  pub gives_then : {A B : Type 0} {ψ : B → ℕ} {P : A → Type 0} {Q : B → Type 0} {c d : ℕ} {x : Step A} {f : A → Step B} → Gives R cap c x P → ((a : A) → P a → Spends R cap d (f a) ψ Q) → Spends R cap (c + d) (x >>= f) ψ Q
  gives_then {d = d} g h = spends_then d g (λ a p. at_most (h a p) (omega arith))

  pub takes_then : {A B : Type 0} {ψ : B → ℕ} {Q : B → Type 0} {c d : ℕ} {x : Step A} {f : A → Step B} → Takes R cap c x → ((a : A) → Spends R cap d (f a) ψ Q) → Spends R cap (c + d) (x >>= f) ψ Q
  takes_then g h = gives_then g (λ a p. h a)

  -- a part that takes nothing, before and behind
  pub nothing_then : {A B : Type 0} {ψ : B → ℕ} {Q : B → Type 0} {d : ℕ} {x : Step A} {f : A → Step B} → Takes R cap 0 x → ((a : A) → Spends R cap d (f a) ψ Q) → Spends R cap d (x >>= f) ψ Q
  nothing_then g h = at_most (takes_then g h) (omega arith)

  pub then_nothing : {A B : Type 0} {Q : B → Type 0} {c : ℕ} {x : Step A} {f : A → Step B} → Takes R cap c x → ((a : A) → Gives R cap 0 (f a) Q) → Gives R cap c (x >>= f) Q
  then_nothing g h = at_most (takes_then g h) (omega arith)

  -- ---- the parts of a step

  pub spends_return : {A : Type 0} {φ : A → ℕ} {P : A → Type 0} (a : A) → P a → Spends R cap (φ a) (return a) φ P
  spends_return a p s m l = left a s m p (omega arith) refl refl l

  pub gives_return : {A : Type 0} {P : A → Type 0} (a : A) → P a → Gives R cap 0 (return a) P
  gives_return a p = spends_return a p

  pub takes_return : {A : Type 0} (a : A) → Takes R cap 0 (return a)
  takes_return a = gives_return a tt

  pub takes_skip : Takes R cap 0 skip
  takes_skip = takes_return tt

  pub gives_refuse : {A : Type 0} {P : A → Type 0} (x : Refusal) → number_of x ≤ 10 → Gives R cap 0 (refuse {A = A} x) P
  gives_refuse x h s m l = none x m (λ k. not_wanting R x h)

  pub takes_get : Takes R cap 0 get
  takes_get s m l = left s s m tt (omega arith) refl refl l

  pub takes_code_now : Takes R cap 0 code_now
  takes_code_now s m l = left m.code s m tt (omega arith) refl refl l

  pub spends_if : {A : Type 0} {φ : A → ℕ} {P : A → Type 0} {c : ℕ} (t : Bool) {x y : Step A} → (t ≡ true → Spends R cap c x φ P) → (t ≡ false → Spends R cap c y φ P) → Spends R cap c {A = A} (elim t [ true ↦ x | false ↦ y ]) φ P
  spends_if true g h = g refl
  spends_if false g h = h refl

  pub takes_when : {c : ℕ} (t : Bool) {x : Step (Unit {0})} → Takes R cap c x → Takes R cap c (when t x)
  takes_when t g = spends_if t (λ _. g) (λ _. at_most takes_skip (omega arith))

-- what neither adds words nor constants
pub used_same : (R : Resource) (s t : State) → t.pc ≡ s.pc → t.table ≡ s.table → used R t ≡ used R s
used_same words s t p q = p
used_same entries s t p q = ap (λ y. y.count) q
used_same text s t p q = ap (λ y. y.used) q

pub takes_change : {R : Resource} {cap : ℕ} (f : State → State) → ((s : State) → (f s).pc ≡ s.pc) → ((s : State) → (f s).table ≡ s.table) → ((s : State) → (f s).at ≡ s.at) → ((s : State) → (f s).line ≡ s.line) → Takes R cap 0 (change f)
takes_change {R} f p t a n s m l = left tt (f s) m tt (omega (arith, used_same R s (f s) (p s) (t s))) (a s) (n s) l

-- other buffers of the same lengths
pub room_same : (R : Resource) (cap : ℕ) (m n : Buffers) → length n.code ≡ length m.code → length n.lines ≡ length m.lines → length n.kinds ≡ length m.kinds → length n.values ≡ length m.values → length n.pool ≡ length m.pool → Room R cap m → Room R cap n
room_same words cap m n a b c d e l = (omega (arith, a, l.0), (omega (arith, b, l.1.0), l.1.1))
room_same entries cap m n a b c d e l = (omega (arith, c, l.0), (omega (arith, d, l.1.0), l.1.1))
room_same text cap m n a b c d e l = omega (arith, e, l)

pub takes_change_words : {R : Resource} {cap : ℕ} (f : List ℕ → List ℕ) → ((code : List ℕ) → length (f code) ≡ length code) → Takes R cap 0 (change_words f)
takes_change_words {R} {cap} f e s m l = left tt s _ tt (omega arith) refl refl (room_same R cap m _ (e m.code) refl refl refl refl l)
