-- The state with the word to come as its label, and the next free register. Assumes nothing.
use Rattle.std.specs.Prelude.{ℕ, ◌+◌, true, false, ◌&&◌, eqb, leb, ltb}
use Rattle.instructions.specs.Limits.{bit_rk, max_words}
use Rattle.model.specs.declared.State.{State}
use Rattle.model.specs.Emission.{with_label}

unfoldable pub labelled : State → State
labelled s = elim (leb s.pc max_words) [ true ↦ with_label (s.pc + 1) s | false ↦ s ]

-- the next free register once r is free again
abbrev pub freed_to : ℕ → ℕ → ℕ → ℕ
freed_to active free r = elim (leb active r && (ltb r bit_rk && eqb (r + 1) free)) [ true ↦ r | false ↦ free ]
