-- What the contracts of the constant table say, over lent kinds, values and pool. Assumes nothing.
use Rattle.std.specs.Prelude.{ℕ, Bool, List, ◌≡◌}
use Rattle.buffers.specs.Lent.{Lent, Read, bytes, old, new}
use Rattle.constants.specs.Table.{Out, out, find, Found, Added}

-- r is what is found among the first n entries
abbrev pub Finds : (ℕ → ℕ → Bool) → ℕ → Found → Read → Read → Type 0
Finds fits n r kinds values = find fits n (bytes kinds) (bytes values) ≡ r

-- r is the answer of a change of the table, and the buffers are left as it leaves them
abbrev pub Stores : (List ℕ → List ℕ → List ℕ → Out) → Added → Lent → Lent → Lent → Type 0
Stores f r kinds values pool = f (old kinds) (old values) (old pool) ≡ out r (new kinds) (new values) (new pool)

-- .. whatever the pool holds, which isn't lent
abbrev pub StoresValues : (List ℕ → List ℕ → List ℕ → Out) → Added → Lent → Lent → Type 0
StoresValues f r kinds values = (pool : List ℕ) → f (old kinds) (old values) pool ≡ out r (new kinds) (new values) pool
