-- The table and the frame grow: what was well written for one coding stays so for a coding that allows more. Instruction by instruction.
use Rattle.std.specs.Prelude.{ℕ, List, [], ◌∷◌}
use Rattle.labelled.specs.Code.{Rk, Ctrl, always, test, tset, tseta, cmp, Tgt, to, lbl, PW, Instr, pl, br, Code, size}
use Rattle.threads.specs.Encoding.{Coding, Ctl, Jw, EncI, Enc}
use Rattle.threads.specs.Represents.{Rep}

-- L allows what K allows
pub record More (K L : Coding) : Type 0 where
  pub rks : (x : Rk) (u : ℕ) → K.rk x u → L.rk x u
  pub plains : (ws : List ℕ) (n : ℕ) (w : PW) → K.plain ws n w → L.plain ws n w

module _ {K L : Coding} (m : More K L) where
  ctl_grow : (ws : List ℕ) (n : ℕ) (c : Ctrl) → Ctl K ws n c → Ctl L ws n c
  ctl_grow ws n always h = h
  ctl_grow ws n (test b k) h = h
  ctl_grow ws n (tset b k) h = h
  ctl_grow ws n (tseta a b k) h = h
  ctl_grow ws n (cmp o k x y) h = (h.0, h.1, h.2, h.3, m.rks x h.0 h.4, m.rks y h.1 h.5)

  jw_grow : (ws : List ℕ) (p : ℕ) (c : Ctrl) (t : Tgt) → Jw K ws p c t → Jw L ws p c t
  jw_grow ws p c (to q) h = h
  jw_grow ws p c (lbl ℓ) h = h

  enc_i_grow : (ws : List ℕ) (n : ℕ) (i : Instr) → EncI K ws n i → EncI L ws n i
  enc_i_grow ws n (pl w) h = m.plains ws n w h
  enc_i_grow ws n (br k t) h = (ctl_grow ws n k h.0, jw_grow ws _ k t h.1)

  pub enc_grow : (ws : List ℕ) (c : Code) → Enc K ws c → Enc L ws c
  enc_grow ws [] h = tt
  enc_grow ws (i ∷ c) h = (enc_i_grow ws (size c) i h.0, enc_grow ws c h.1)

  pub rep_grow : {cap : ℕ} {ws : List ℕ} {H : ℕ → ℕ} {c : Code} → Rep K cap ws H c → Rep L cap ws H c
  rep_grow {ws = ws} {c = c} r = record { len = r.len; enc = enc_grow ws c r.enc; fits = r.fits; few = r.few; thr = r.thr; clean = r.clean }
