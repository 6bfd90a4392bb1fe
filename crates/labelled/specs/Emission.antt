-- Labelled lowering, the lower part: the state, emitting words, jumps and lists of jumps as labels (model's Emission and Jumps). Label 0 holds the jumps to the word to come. Refusals are left out. Assumes nothing.
use Rattle.std.specs.Prelude.{ℕ, suc, ◌+◌, Bool, true, false, not, ◌||◌, ◌&&◌, List, [], ◌∷◌, leb}
use Rattle.std.proofs.Math.Option.{none}
use Rattle.constants.specs.Entry.{Constant}
use Rattle.labelled.specs.Code.{same, Ctrl, always, test, tset, tseta, cmp, to, lbl, setw, lbs, mark, nilw, callw, selfw, Instr, pl, br, Code, size, Act, keep, land, re, edit}
use Rattle.labelled.specs.Machine.{pick}
use Rattle.labelled.specs.Table.{include}

-- words, the first free register, the next label, the constants
pub record St : Type 0 where
  pub code : Code
  pub free : ℕ
  pub nxt : ℕ
  pub tab : List Constant

abbrev pub with_code : St → Code → St
with_code s c = record { code = c; free = s.free; nxt = s.nxt; tab = s.tab }

abbrev pub set_free : ℕ → St → St
set_free m s = record { code = s.code; free = m; nxt = s.nxt; tab = s.tab }

abbrev pub labelled_with_free : St → ℕ → ℕ → St
labelled_with_free s m n = record { code = s.code; free = m; nxt = n; tab = s.tab }

-- a constant is added where it isn't listed
abbrev pub add_k : Constant → St → St
add_k c s = record { code = s.code; free = s.free; nxt = s.nxt; tab = include c s.tab }

-- one label's edit; the jumps to the word to come land
abbrev pub one : ℕ → Act → ℕ → Act
one a x ℓ = pick (same ℓ a) x keep

abbrev pub here : Code → ℕ → Act
here c = one 0 (land (size c) none (size c))

-- `discharge_jpc`, for a word that is held back in a descriptor
unfoldable pub flush : St → St
flush s = with_code s (edit (here s.code) s.code)

-- `emit`
unfoldable pub push : Instr → St → St
push i s = with_code s (i ∷ edit (here s.code) s.code)

-- `emit_jump`: the pending jumps to here are taken over, stripped of their values (difference 1)
unfoldable pub labelled_emit_jump : ℕ → St → St
labelled_emit_jump ℓ s = with_code s (br always (lbl ℓ) ∷ edit (one 0 (re ℓ true)) s.code)

-- `concat_jumps`: the jumps of one label get another
unfoldable pub relabel : ℕ → ℕ → St → St
relabel a b s = with_code s (edit (one a (re b false)) s.code)

-- `remove_values`
unfoldable pub strip : ℕ → St → St
strip a s = with_code s (edit (one a (re a true)) s.code)

-- does a pending jump of label t or f stand in the code (with a control word that is no `TestSet`, where vals)
abbrev pub is_set : Ctrl → Bool
is_set always = false
is_set (test a b) = false
is_set (tset a b) = true
is_set (tseta a b c) = false
is_set (cmp o c x y) = false

abbrev pub hit1 : Bool → ℕ → ℕ → Instr → Bool
hit1 vals t f (pl w) = false
hit1 vals t f (br c (to p)) = false
hit1 vals t f (br c (lbl ℓ)) = (same ℓ t || same ℓ f) && not (vals && is_set c)

unfoldable pub hit : Bool → ℕ → ℕ → Code → Bool
hit vals t f [] = false
hit vals t f (i ∷ c) = hit1 vals t f i || hit vals t f c

-- `patch_to_here`: a mark where the list is not empty (no `LoadNil` lies below it then, so no word changes)
abbrev pub here_if : Bool → ℕ → St → St
here_if true m s = with_code s (pl mark ∷ edit (one m (re 0 false)) s.code)
here_if false m s = s

unfoldable pub labelled_to_here : ℕ → St → St
labelled_to_here m s = here_if (hit false m m s.code) m s

-- `emit_nil` of register r: nothing at word 0; an adjoining `LoadNil` that is the last word is lengthened
abbrev pub in_range : ℕ → ℕ → ℕ → Bool
in_range a k r = leb a r && leb r (suc (k + a))

abbrev pub longer : Bool → ℕ → ℕ → ℕ → Code → Code
longer true a k r c = pl (nilw a k) ∷ c
longer false a k r c = pl (nilw a (suc k)) ∷ c

-- the register is covered, or the next one; else a word of its own
abbrev pub extend : Bool → Bool → ℕ → ℕ → ℕ → Code → St → St
extend true z a k r c s = with_code s (longer z a k r c)
extend false z a k r c s = push (pl (nilw r 0)) s

abbrev pub nil_top : Code → ℕ → St → St
nil_top [] r s = s
nil_top (pl mark ∷ c) r s = push (pl (nilw r 0)) s
nil_top (pl (setw a x) ∷ c) r s = push (pl (nilw r 0)) s
nil_top (pl (lbs a b) ∷ c) r s = push (pl (nilw r 0)) s
nil_top (pl (nilw a k) ∷ c) r s = extend (in_range a k r) (leb r (k + a)) a k r c s
nil_top (pl (callw t) ∷ c) r s = push (pl (nilw r 0)) s
nil_top (pl (selfw a b d) ∷ c) r s = push (pl (nilw r 0)) s
nil_top (br d t ∷ c) r s = push (pl (nilw r 0)) s
