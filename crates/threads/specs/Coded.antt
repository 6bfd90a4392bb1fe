-- The words of plain instructions and of operands, over a constant table and a frame: what each opcode's fields hold, registers below the frame, constants listed.
-- It is a coding: an instruction is seen at its own places only, and its last word is no test. It allows more with a longer table and a larger frame.
use Rattle.std.specs.Prelude.{ℕ, suc, ◌+◌, ◌≤◌, ◌<◌, false, ◌≡◌, refl, List, [], ◌∷◌}
use Rattle.std.proofs.Common.{◌∙◌, arith as nat}
use Rattle.instructions.specs.Limits.{max_index_rk, bit_rk}
use Rattle.opcodes.specs.OpCodes.{code_of, test_mode}
use Rattle.instructions.specs.Word.{op_of, abc_of, a_bx_of}
use Rattle.instructions.specs.Laws.{op_abc, op_a_bx, opcode_abc, opcode_a_bx}
use Rattle.opcodes.specs.declared.OpCode.{OpCode}
use Rattle.opcodes.specs.declared.OpCode.TheVariants as op
use Rattle.folding.specs.declared.Arith.{Arith}
use Rattle.folding.specs.declared.Arith.TheVariants as arith
use Rattle.constants.specs.Entry.{Constant, number as knumber, text as ktext}
use Rattle.model.specs.Values.{Value, nil, truth, number, text, other, value_of}
use Rattle.model.specs.Jumps.{word}
use Rattle.model.specs.Conditions.{bit}
use Rattle.model.specs.Operators.{arith_op}
use Rattle.labelled.specs.Code.{Rk, reg, con, Ex, val, cp, glob, idx, ari, neg, len, notx, cat, vfst, CT, cfix, cva, cct, cbase, twidth, Ctrl, always, test, tset, tseta, cmp, PW, setw, lbs, mark, nilw, callw, selfw, Instr, pl, br, pwidth, Code}
use Rattle.labelled.specs.Table.{place}
use Rattle.labelled.specs.Places.{Listed, Grows, place_grows, listed_grows}
use Rattle.threads.specs.Encoding.{is_test, Coding}
use Rattle.threads.specs.Growing.{More}

-- ---- what is said

-- negation has one operand, and is no arithmetic of two
abbrev pub Binary : Arith → Type 0
Binary arith.Add = Unit {0}
Binary arith.Sub = Unit {0}
Binary arith.Mul = Unit {0}
Binary arith.Div = Unit {0}
Binary arith.Mod = Unit {0}
Binary arith.Pow = Unit {0}
Binary arith.Unm = ⊥

module _ (t : List Constant) (frame : ℕ) where
  -- u is the RK operand: a register, or 256 and the place of a constant
  abbrev pub CodesRk : Rk → ℕ → Type 0
  CodesRk (reg r) u = (u ≡ r) × (r < frame)
  CodesRk (con v) u = (c : Constant) × ((value_of c ≡ v) × (Listed c t × ((place c t ≤ max_index_rk) × (u ≡ place c t + bit_rk))))

  -- the word w loads a value into register a
  abbrev pub CodesV : ℕ → ℕ → Value → Type 0
  CodesV w a nil = ⊥
  CodesV w a (truth b) = w ≡ abc_of op.LoadBool a (bit b) 0
  CodesV w a (number n) = Listed (knumber n) t × (w ≡ a_bx_of op.LoadK a (place (knumber n) t))
  CodesV w a (text x) = Listed (ktext x) t × (w ≡ a_bx_of op.LoadK a (place (ktext x) t))
  CodesV w a (other i) = ⊥

  -- the word w leaves in register a what x works out
  abbrev pub CodesX : ℕ → ℕ → Ex → Type 0
  CodesX w a (val v) = CodesV w a v
  CodesX w a (cp r) = (r < frame) × (w ≡ abc_of op.Move a r 0)
  CodesX w a (glob g) = Listed (ktext g) t × (w ≡ a_bx_of op.GetGlobal a (place (ktext g) t))
  CodesX w a (idx r k) = (u : ℕ) × ((r < frame) × (CodesRk k u × (w ≡ abc_of op.GetTable a r u)))
  CodesX w a (ari o x y) = (u : ℕ) × ((v : ℕ) × (Binary o × (CodesRk x u × (CodesRk y v × (w ≡ abc_of (arith_op o) a u v)))))
  CodesX w a (neg r) = (r < frame) × (w ≡ abc_of op.Unm a r 0)
  CodesX w a (len r) = (r < frame) × (w ≡ abc_of op.Len a r 0)
  CodesX w a (notx r) = (r < frame) × (w ≡ abc_of op.Not a r 0)
  CodesX w a (cat b k) = (1 ≤ k) × ((k + b < frame) × (w ≡ abc_of op.Concat a b (k + b)))
  CodesX w a vfst = w ≡ abc_of op.VarArg a 2 0

  -- a call from word n on, with C = c: its list of varargs or its inner call come first, with all their values
  abbrev pub CodesC : List ℕ → ℕ → ℕ → CT → Type 0
  CodesC ws n c (cfix b k) = (k + b < frame) × (word ws n ≡ abc_of op.Call b (suc k) c)
  CodesC ws n c (cva b k) = (k + b < frame) × ((word ws n ≡ abc_of op.VarArg (suc (k + b)) 0 0) × (word ws (1 + n) ≡ abc_of op.Call b 0 c))
  CodesC ws n c (cct b k u) = (k + b < frame) × ((cbase u ≡ suc (k + b)) × (CodesC ws n 0 u × (word ws (twidth u + n) ≡ abc_of op.Call b 0 c)))

  abbrev pub Codes : List ℕ → ℕ → PW → Type 0
  Codes ws n (setw a x) = (a < frame) × CodesX (word ws n) a x
  Codes ws n (lbs a b) = (a < frame) × (word ws n ≡ abc_of op.LoadBool a (bit b) 1)
  Codes ws n mark = Unit {0}
  Codes ws n (nilw a k) = (k + a < frame) × (word ws n ≡ abc_of op.LoadNil a (k + a) 0)
  Codes ws n (callw u) = CodesC ws n 2 u
  Codes ws n (selfw a o k) = (u : ℕ) × ((suc a < frame) × ((o < frame) × (CodesRk k u × (word ws n ≡ abc_of op.OpSelf a o u))))

-- the registers of tests are below the frame too
module _ (frame : ℕ) where
  abbrev pub LowC : Ctrl → Type 0
  LowC always = Unit {0}
  LowC (test b k) = b < frame
  LowC (tset b k) = b < frame
  LowC (tseta a b k) = (a < frame) × (b < frame)
  LowC (cmp o k x y) = Unit {0}

  abbrev pub LowI : Instr → Type 0
  LowI (pl w) = Unit {0}
  LowI (br k g) = LowC k

  abbrev pub Low : Code → Type 0
  Low [] = Unit {0}
  Low (i ∷ c) = LowI i × Low c

-- ---- it is a coding

plain_abc : (w : ℕ) (o : OpCode) (a b c : ℕ) → test_mode o ≡ false → w ≡ abc_of o a b c → is_test w ≡ false
plain_abc w o a b c m e = rw (e, opcode_abc o a b c) m

plain_abx : (w : ℕ) (o : OpCode) (a x : ℕ) → test_mode o ≡ false → w ≡ a_bx_of o a x → is_test w ≡ false
plain_abx w o a x m e = rw (e, opcode_a_bx o a x) m

arith_plain : (o : Arith) → test_mode (arith_op o) ≡ false
arith_plain arith.Add = refl
arith_plain arith.Sub = refl
arith_plain arith.Mul = refl
arith_plain arith.Div = refl
arith_plain arith.Mod = refl
arith_plain arith.Pow = refl
arith_plain arith.Unm = refl

module _ (t : List Constant) (frame : ℕ) where
  plain_v : (w a : ℕ) (v : Value) → CodesV t frame w a v → is_test w ≡ false
  plain_v w a nil h = absurd h
  plain_v w a (truth b) h = plain_abc w op.LoadBool a (bit b) 0 refl h
  plain_v w a (number n) h = plain_abx w op.LoadK a _ refl h.1
  plain_v w a (text x) h = plain_abx w op.LoadK a _ refl h.1
  plain_v w a (other i) h = absurd h

  plain_x : (w a : ℕ) (x : Ex) → CodesX t frame w a x → is_test w ≡ false
  plain_x w a (val v) h = plain_v w a v h
  plain_x w a (cp r) h = plain_abc w op.Move a r 0 refl h.1
  plain_x w a (glob g) h = plain_abx w op.GetGlobal a _ refl h.1
  plain_x w a (idx r k) h = plain_abc w op.GetTable a r h.0 refl h.1.1.1
  plain_x w a (ari o x y) h = plain_abc w (arith_op o) a h.0 h.1.0 (arith_plain o) h.1.1.1.1.1
  plain_x w a (neg r) h = plain_abc w op.Unm a r 0 refl h.1
  plain_x w a (len r) h = plain_abc w op.Len a r 0 refl h.1
  plain_x w a (notx r) h = plain_abc w op.Not a r 0 refl h.1
  plain_x w a (cat b k) h = plain_abc w op.Concat a b (k + b) refl h.1.1
  plain_x w a vfst h = plain_abc w op.VarArg a 2 0 refl h

  plain_c : (ws : List ℕ) (n c : ℕ) (u : CT) (q : ℕ) → CodesC t frame ws n c u → suc q ≡ twidth u + n → is_test (word ws q) ≡ false
  plain_c ws n c (cfix b k) q h e = let z : q ≡ n = omega nat in rw z (plain_abc (word ws n) op.Call b (suc k) c refl h.1)
  plain_c ws n c (cva b k) q h e = let z : q ≡ 1 + n = omega nat in rw z (plain_abc (word ws (1 + n)) op.Call b 0 c refl h.1.1)
  plain_c ws n c (cct b k u) q h e = let z : q ≡ twidth u + n = omega nat in rw z (plain_abc (word ws (twidth u + n)) op.Call b 0 c refl h.1.1.1)

  pub last_plain : (ws : List ℕ) (n : ℕ) (w : PW) (q : ℕ) → Codes t frame ws n w → n ≤ q → suc q ≡ pwidth w + n → is_test (word ws q) ≡ false
  last_plain ws n (setw a x) q h l e = let z : q ≡ n = omega nat in rw z (plain_x (word ws n) a x h.1)
  last_plain ws n (lbs a b) q h l e = let z : q ≡ n = omega nat in rw z (plain_abc (word ws n) op.LoadBool a (bit b) 1 refl h.1)
  last_plain ws n mark q h l e = absurd (omega nat)
  last_plain ws n (nilw a k) q h l e = let z : q ≡ n = omega nat in rw z (plain_abc (word ws n) op.LoadNil a (k + a) 0 refl h.1)
  last_plain ws n (callw u) q h l e = plain_c ws n 2 u q h e
  last_plain ws n (selfw a o k) q h l e = let z : q ≡ n = omega nat in rw z (plain_abc (word ws n) op.OpSelf a o h.0 refl h.1.1.1.1)

  pub wide : (u : CT) → 1 ≤ twidth u
  wide (cfix b k) = omega nat
  wide (cva b k) = omega nat
  wide (cct b k u) = omega nat

  pub agree_c : (ws us : List ℕ) (n c : ℕ) (u : CT) → ((q : ℕ) → n ≤ q → q < twidth u + n → word us q ≡ word ws q) → CodesC t frame ws n c u → CodesC t frame us n c u
  agree_c ws us n c (cfix b k) g h = (h.0, g n (omega nat) (omega nat) ∙ h.1)
  agree_c ws us n c (cva b k) g h = (h.0, (g n (omega nat) (omega nat) ∙ h.1.0, g (1 + n) (omega nat) (omega nat) ∙ h.1.1))
  agree_c ws us n c (cct b k u) g h = (h.0, (h.1.0, (agree_c ws us n 0 u (λ q a z. g q a (omega nat)) h.1.1.0, g (twidth u + n) (omega nat) (omega nat) ∙ h.1.1.1)))

  pub agree_plain : (ws us : List ℕ) (n : ℕ) (w : PW) → ((q : ℕ) → n ≤ q → q < pwidth w + n → word us q ≡ word ws q) → Codes t frame ws n w → Codes t frame us n w
  agree_plain ws us n (setw a x) g h = rw (g n (omega nat) (omega nat)) h
  agree_plain ws us n (lbs a b) g h = rw (g n (omega nat) (omega nat)) h
  agree_plain ws us n mark g h = tt
  agree_plain ws us n (nilw a k) g h = rw (g n (omega nat) (omega nat)) h
  agree_plain ws us n (callw u) g h = agree_c ws us n 2 u g h
  agree_plain ws us n (selfw a o k) g h = rw (g n (omega nat) (omega nat)) h

  abbrev pub coded : Coding
  coded = record { rk = CodesRk t frame; plain = Codes t frame; agree = agree_plain; last = last_plain }

-- ---- a longer table and a larger frame

module _ (t u : List Constant) (f g : ℕ) (grows : Grows t u) (more : f ≤ g) where
  pub more_rk : (x : Rk) (w : ℕ) → CodesRk t f x w → CodesRk u g x w
  more_rk (reg r) w h = (h.0, omega (nat, h.1))
  more_rk (con v) w h = let e : place h.0 u ≡ place h.0 t = place_grows h.0 t u grows h.1.1.0 in
      (h.0, (h.1.0, (listed_grows h.0 t u grows h.1.1.0, (omega (nat, e, h.1.1.1.0), omega (nat, e, h.1.1.1.1)))))

  more_v : (w a : ℕ) (v : Value) → CodesV t f w a v → CodesV u g w a v
  more_v w a nil h = h
  more_v w a (truth b) h = h
  more_v w a (number n) h = (listed_grows (knumber n) t u grows h.0, rw (place_grows (knumber n) t u grows h.0) h.1)
  more_v w a (text x) h = (listed_grows (ktext x) t u grows h.0, rw (place_grows (ktext x) t u grows h.0) h.1)
  more_v w a (other i) h = h

  pub more_x : (w a : ℕ) (x : Ex) → CodesX t f w a x → CodesX u g w a x
  more_x w a (val v) h = more_v w a v h
  more_x w a (cp r) h = (omega (nat, h.0), h.1)
  more_x w a (glob x) h = (listed_grows (ktext x) t u grows h.0, rw (place_grows (ktext x) t u grows h.0) h.1)
  more_x w a (idx r k) h = (h.0, (omega (nat, h.1.0), (more_rk k h.0 h.1.1.0, h.1.1.1)))
  more_x w a (ari o x y) h = (h.0, (h.1.0, (h.1.1.0, (more_rk x h.0 h.1.1.1.0, (more_rk y h.1.0 h.1.1.1.1.0, h.1.1.1.1.1)))))
  more_x w a (neg r) h = (omega (nat, h.0), h.1)
  more_x w a (len r) h = (omega (nat, h.0), h.1)
  more_x w a (notx r) h = (omega (nat, h.0), h.1)
  more_x w a (cat b k) h = (h.0, (omega (nat, h.1.0), h.1.1))
  more_x w a vfst h = h

  more_c : (ws : List ℕ) (n c : ℕ) (x : CT) → CodesC t f ws n c x → CodesC u g ws n c x
  more_c ws n c (cfix b k) h = (omega (nat, h.0), h.1)
  more_c ws n c (cva b k) h = (omega (nat, h.0), h.1)
  more_c ws n c (cct b k x) h = (omega (nat, h.0), (h.1.0, (more_c ws n 0 x h.1.1.0, h.1.1.1)))

  more_plain : (ws : List ℕ) (n : ℕ) (w : PW) → Codes t f ws n w → Codes u g ws n w
  more_plain ws n (setw a x) h = (omega (nat, h.0), more_x (word ws n) a x h.1)
  more_plain ws n (lbs a b) h = (omega (nat, h.0), h.1)
  more_plain ws n mark h = tt
  more_plain ws n (nilw a k) h = (omega (nat, h.0), h.1)
  more_plain ws n (callw x) h = more_c ws n 2 x h
  more_plain ws n (selfw a o k) h = (h.0, (omega (nat, h.1.0), (omega (nat, h.1.1.0), (more_rk k h.0 h.1.1.1.0, h.1.1.1.1))))

  pub more_coded : More (coded t f) (coded u g)
  more_coded = record { rks = more_rk; plains = more_plain }

module _ (f g : ℕ) (more : f ≤ g) where
  low_c : (k : Ctrl) → LowC f k → LowC g k
  low_c always h = tt
  low_c (test b k) h = omega nat
  low_c (tset b k) h = omega nat
  low_c (tseta a b k) h = (omega (nat, h.0), omega (nat, h.1))
  low_c (cmp o k x y) h = tt

  low_i : (i : Instr) → LowI f i → LowI g i
  low_i (pl w) h = tt
  low_i (br k d) h = low_c k h

  pub low_more : (c : Code) → Low f c → Low g c
  low_more [] h = tt
  low_more (i ∷ c) h = (low_i i h.0, low_more c h.1)

-- ---- the opcode of a word that sets one register

abbrev pub op_v : Value → OpCode
op_v nil = op.LoadK
op_v (truth b) = op.LoadBool
op_v (number n) = op.LoadK
op_v (text x) = op.LoadK
op_v (other i) = op.LoadK

abbrev pub op_x : Ex → OpCode
op_x (val v) = op_v v
op_x (cp r) = op.Move
op_x (glob g) = op.GetGlobal
op_x (idx r k) = op.GetTable
op_x (ari o x y) = arith_op o
op_x (neg r) = op.Unm
op_x (len r) = op.Len
op_x (notx r) = op.Not
op_x (cat b k) = op.Concat
op_x vfst = op.VarArg

module _ (t : List Constant) (frame w a : ℕ) where
  is_abc : (o : OpCode) (b c : ℕ) → w ≡ abc_of o a b c → op_of w ≡ code_of o
  is_abc o b c e = rw e (op_abc o a b c)

  is_abx : (o : OpCode) (x : ℕ) → w ≡ a_bx_of o a x → op_of w ≡ code_of o
  is_abx o x e = rw e (op_a_bx o a x)

  value_op : (v : Value) → CodesV t frame w a v → op_of w ≡ code_of (op_v v)
  value_op nil h = absurd h
  value_op (truth b) h = is_abc op.LoadBool (bit b) 0 h
  value_op (number n) h = is_abx op.LoadK _ h.1
  value_op (text x) h = is_abx op.LoadK _ h.1
  value_op (other i) h = absurd h

  pub codes_op : (x : Ex) → CodesX t frame w a x → op_of w ≡ code_of (op_x x)
  codes_op (val v) h = value_op v h
  codes_op (cp r) h = is_abc op.Move r 0 h.1
  codes_op (glob g) h = is_abx op.GetGlobal _ h.1
  codes_op (idx r k) h = is_abc op.GetTable r h.0 h.1.1.1
  codes_op (ari o x y) h = is_abc (arith_op o) h.0 h.1.0 h.1.1.1.1.1
  codes_op (neg r) h = is_abc op.Unm r 0 h.1
  codes_op (len r) h = is_abc op.Len r 0 h.1
  codes_op (notx r) h = is_abc op.Not r 0 h.1
  codes_op (cat b k) h = is_abc op.Concat b (k + b) h.1.1
  codes_op vfst h = is_abc op.VarArg 2 0 h
