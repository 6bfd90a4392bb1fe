-- Lent buffers, as contracts speak of them. Assumes nothing.
use Rattle.std.specs.Prelude.{ℕ, List, ◌≡◌}
use Rattle.std.specs.Borrow.{Bor, MutBor}
use denote.Triple.Both.{Both}

-- a slice that is lent to a function to be changed: `.entry` as it came, `.exit` as it is left
abbrev pub Lent : Type 0
Lent = Both (MutBor (List ℕ)) (MutBor (List ℕ))

-- what a buffer held when it came, and what it holds when it is left
abbrev pub old : Lent → List ℕ
old l = l.entry.now

abbrev pub new : Lent → List ℕ
new l = l.exit.now

-- a slice that is lent to a function for reading only
abbrev pub Read : Type 0
Read = Both (Bor (List ℕ)) (Bor (List ℕ))

-- what it holds
abbrev pub bytes : Read → List ℕ
bytes l = l.entry.now

-- a lent buffer is changed by f
abbrev pub Rewrites : (List ℕ → List ℕ) → Lent → Type 0
Rewrites f l = f (old l) ≡ new l
