-- What bringing may change of a state and a descriptor, taken from its answer and put back into what it began with. Assumes nothing.
use Rattle.std.specs.Prelude.{ℕ, Float}
use Rattle.model.specs.declared.ExprKind.{ExprKind}
use Rattle.model.specs.declared.ExprContext.{ExprContext}
use Rattle.model.specs.declared.State.{State}
use Rattle.model.specs.Described.{Described}
use Rattle.model.specs.Described as described
use Rattle.discharge.specs.Brought.{Brought}
use Rattle.discharge.specs.Brought as brought

-- a state and a descriptor by their numbers
abbrev pub state_of : ℕ → ℕ → ℕ → ℕ → ℕ → ℕ → ℕ → ℕ → ℕ → ℕ → State
state_of at line pc count used active free frame jpc label =
    record { at = at; line = line; pc = pc; table = record { count = count; used = used }; active = active; free = free; frame = frame; jpc = jpc; label = label }

abbrev pub context_of : ExprKind → ℕ → ℕ → Float → ℕ → ℕ → ℕ → ExprContext
context_of kind info aux nval bits t f = record { kind = kind; info = info; aux = aux; nval = nval; bits = bits; t = t; f = f }

abbrev pub changes : Described → Brought
changes (described.Done s e) = brought.Done e.kind s.pc s.table.count s.table.used s.free s.frame s.jpc s.label e.info e.t e.f
changes (described.Refused k) = brought.Refused k

abbrev pub changed : Brought → State → ExprContext → Described
changed (brought.Done kind pc count used free frame jpc label info t f) s e =
    described.Done (state_of s.at s.line pc count used s.active free frame jpc label) (context_of kind info e.aux e.nval e.bits t f)
changed (brought.Refused k) s e = described.Refused k
