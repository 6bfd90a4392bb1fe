-- Labelled lowering, conditional jumps and `not` (model's Conditions): goiftrue and goiffalse are one, for the truth that jumps. Assumes nothing.
use Rattle.std.specs.Prelude.{ℕ, Bool, true, false, not}
use Rattle.constants.specs.Entry.{Constant, nil, truth, number, text}
use Rattle.model.specs.Values.{value_of, is_true}
use Rattle.model.specs.Running.{same as agrees}
use Rattle.labelled.specs.Code.{Ex, val, cp, glob, idx, ari, neg, len, notx, cat, vfst, test, tset, cmp, lbl, br}
use Rattle.labelled.specs.Emission.{St, set_free, flush, push, labelled_emit_jump, strip, labelled_to_here}
use Rattle.labelled.specs.Discharge.{K4, kc, kr, kx, kj, Par4, lab, freed, d2r}

-- `jumponcond`, into label m: a loaded value
unfoldable pub on_load : Bool → K4 → ℕ → St → St
on_load c k m s = push (br (tset s.free c) (lbl m)) (d2r k m s.free s)

-- a `Not` to come is dropped, and the test inverted
unfoldable pub on_x : Bool → Ex → ℕ → St → St
on_x c (val v) m s = on_load c (kx (val v)) m s
on_x c (cp r) m s = on_load c (kx (cp r)) m s
on_x c (glob g) m s = on_load c (kx (glob g)) m s
on_x c (idx t k) m s = on_load c (kx (idx t k)) m s
on_x c (ari o x y) m s = on_load c (kx (ari o x y)) m s
on_x c (neg r) m s = on_load c (kx (neg r)) m s
on_x c (len r) m s = on_load c (kx (len r)) m s
on_x c (notx r) m s = push (br (test r (not c)) (lbl m)) s
on_x c (cat b k) m s = on_load c (kx (cat b k)) m s
on_x c vfst m s = on_load c (kx vfst) m s

-- a constant: no jump where it is known not to, a jump for true and false
abbrev pub is_bool : Constant → Bool
is_bool nil = false
is_bool (truth b) = true
is_bool (number n) = false
is_bool (text t) = false

abbrev pub go_con : Bool → Bool → Bool → Constant → ℕ → St → St
go_con false b c v m s = s
go_con true true c v m s = labelled_emit_jump m s
go_con true false c v m s = on_load c (kc v) m s

unfoldable pub go_jump : Bool → K4 → ℕ → St → St
go_jump c (kc v) m s = go_con (agrees (is_true (value_of v)) c) (is_bool v) c v m s
go_jump c (kr u r) m s = set_free (freed (kr u r) s.free) (push (br (tset r c) (lbl m)) s)
go_jump c (kx x) m s = on_x c x m s
go_jump c (kj o d x y) m s = push (br (cmp o (agrees d c) x y) (lbl m)) s

-- `goiftrue` (c false) and `goiffalse` (c true)
unfoldable pub go_if : Bool → Par4 → St
go_if c p = labelled_to_here (lab (not c) p.de) (go_jump c p.de.k4 (lab c p.de) p.st)

-- `code_not`
abbrev pub not_k : K4 → ℕ → K4
not_k (kc v) r = kc (truth (not (is_true (value_of v))))
not_k (kr u k) r = kx (notx k)
not_k (kx x) r = kx (notx r)
not_k (kj o c x y) r = kj o (not c) x y

unfoldable pub not_s : K4 → St → St
not_s (kc v) s = s
not_s (kr u k) s = set_free (freed (kr u k) s.free) (flush s)
not_s (kx x) s = d2r (kx x) 0 s.free s
not_s (kj o c x y) s = s

unfoldable pub labelled_code_not : Par4 → Par4
labelled_code_not p = record {
  st = strip p.de.fl (strip p.de.tl (not_s p.de.k4 p.st));
  de = record { k4 = not_k p.de.k4 p.st.free; tl = p.de.fl; fl = p.de.tl };
}
