-- What the contracts of the lowering say: a definition, on the state and the lent buffers as they came, is the answer on those as they are left. Assumes nothing.
use Rattle.std.specs.Prelude.{ℕ, List, ◌≡◌, length, Result as Res, Ok, Err}
use Rattle.refusals.specs.declared.Refusal.{Refusal}
use Rattle.buffers.specs.Lent.{Lent, old, new}
use Rattle.model.specs.declared.ExprContext.{ExprContext}
use Rattle.model.specs.declared.FuncState.{FuncState}
use Rattle.model.specs.Lowered.{Lowered}
use Rattle.model.specs.Steps.{Buffers, bufs, Result, done, refused, Step}
use Rattle.model.specs.Claims.{sizes, Lowers}

-- ---- a state that lends the buffers

-- what its five buffers hold
abbrev pub bufs_of : FuncState → Buffers
bufs_of fs = bufs fs.code.now fs.lines.now fs.kinds.now fs.values.now fs.pool.now

-- they are still the slices that it was made with: who lent them finds there what it holds
abbrev pub SameBuffers : FuncState → FuncState → Type 0
SameBuffers a b = (b.code.ghost_name ≡ a.code.ghost_name) × (b.lines.ghost_name ≡ a.lines.ghost_name) × (b.kinds.ghost_name ≡ a.kinds.ghost_name) × (b.values.ghost_name ≡ a.values.ghost_name) × (b.pool.ghost_name ≡ a.pool.ghost_name)

-- what an answer stands for, with the state as it is left
abbrev pub answer_is : {A : Type 0} → Res A Refusal → FuncState → Result A
answer_is (Ok a) fs = done a fs.state (bufs_of fs)
answer_is (Err k) fs = refused k (bufs_of fs)

-- .. of a step that leaves what it gives in a descriptor
abbrev pub described : Res (Unit {0}) Refusal → FuncState → ExprContext → Result ExprContext
described (Ok u) fs e = done e fs.state (bufs_of fs)
described (Err k) fs e = refused k (bufs_of fs)

-- the step x from the state a answers r and leaves the state b
abbrev pub Does : {A : Type 0} → Step A → FuncState → Res A Refusal → FuncState → Type 0
Does x a r b = (x a.state (bufs_of a) ≡ answer_is r b) × SameBuffers a b

-- .. and the descriptor e
abbrev pub Makes : Step ExprContext → FuncState → Res (Unit {0}) Refusal → FuncState → ExprContext → Type 0
Makes x a r b e = (x a.state (bufs_of a) ≡ described r b e) × SameBuffers a b

-- the step x, which is never refused, gives v
abbrev pub Yields : {A : Type 0} → Step A → FuncState → A → FuncState → Type 0
Yields x a v b = (x a.state (bufs_of a) ≡ done v b.state (bufs_of b)) × SameBuffers a b

-- ---- the entry's slices

-- the five buffers as they came
abbrev pub before : Lent → Lent → Lent → Lent → Lent → Buffers
before code lines kinds values pool = bufs (old code) (old lines) (old kinds) (old values) (old pool)

-- the five buffers as they are left
abbrev pub after : Lent → Lent → Lent → Lent → Lent → Buffers
after code lines kinds values pool = bufs (new code) (new lines) (new kinds) (new values) (new pool)

-- a whole lowering
abbrev pub LowersLent : List ℕ → Lowered → Lent → Lent → Lent → Lent → Lent → Lent → Type 0
LowersLent chunk r code lines kinds values pool scratch = Lowers (sizes (before code lines kinds values pool) (length (old scratch))) chunk r (after code lines kinds values pool) (new scratch)
