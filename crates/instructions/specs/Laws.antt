-- What a field of a number is after one was set, for any place and size; and, as instances, what a field of a word is after the word was built or another field of it was set.
-- Which word it is after a field of a built one was set; that of a value only what fits its field counts; that words stay below 2 ^ 32; and that sBx reads back what was stored.
-- Proofs above this crate cite those of words; the others are their reasons, or complete the table of fields. The layout itself is unfolded above only where an example is computed. Assumes nothing.
use Rattle.std.specs.Prelude.{ℕ, suc, ◌+◌, ◌*◌, ◌/◌, ◌%◌, ◌-◌, ◌^◌, ◌<◌, ◌≤◌, Bool, true, false, cond, ◌≡◌, refl, ltb, ℤ, pos, negsuc}
use Rattle.std.proofs.Common.{sym, ap, ◌∙◌, mod-lt, mod-eq_of_lt, div-add-mod', mul_assoc, div-lt_iff_lt-mul, arith, lt-ltb, le-ltb}
use Rattle.std.proofs.Math.Nat.{mod-mod, div-div-eq-div-mul, mul-add-div_right, mul-add-mod_self_right}
use Rattle.std.proofs.Math.Arith.{digits_div, digits_mod, digits_lt}
use Rattle.instructions.specs.Limits.{op_size, a_size, b_size, c_size, bx_size, op_place, a_place, b_place, c_place, bx_place, max_arg_sbx}
use Rattle.instructions.specs.Field.{get_at, set_at}
use Rattle.opcodes.specs.OpCodes.{code_of, op_code_of}
use Rattle.opcodes.specs.Laws.{opcode_code, code_lt}
use Rattle.instructions.specs.Word.{op_of, opcode_of, a_of, b_of, c_of, bx_of, sbx_of, set_a_of, set_b_of, set_c_of, set_bx_of, set_sbx_of, excess, abc_of, a_bx_of, a_sbx_of}
use Rattle.opcodes.specs.declared.OpCode.{OpCode}

-- ---- a field of a number, for any place and size

-- what is read from the field that was set
pub get_set_same : (p n x v : ℕ) → 0 < p → 0 < n → get_at p n (set_at p n x v) ≡ v % n
unfolding get_at set_at
get_set_same p n x v hp hn =
    rw (digits_div (x / p / n * n + v % n) (mod-lt x hp), digits_mod (x / p / n) (mod-lt v hn))

-- a field that lies whole below k * m * q does not depend on what lies above that
low : (q m k y r : ℕ) → 0 < q → (y * (k * m * q) + r) / q % m ≡ r / q % m
low q m k y r hq = rw (← mul_assoc y (k * m) q, mul-add-div_right hq (y * (k * m)) r, ← mul_assoc y k m, mul-add-mod_self_right (y * k) m (r / q))

-- a field that lies whole below the one that was set
pub get_set_below : (q m k n x v : ℕ) → 0 < q → get_at q m (set_at (k * m * q) n x v) ≡ get_at q m x
unfolding get_at set_at
get_set_below q m k n x v hq =
    low q m k (x / (k * m * q) / n * n + v % n) (x % (k * m * q)) hq
    ∙ sym (low q m k (x / (k * m * q)) (x % (k * m * q)) hq)
    ∙ ap (λ (z : ℕ). z / q % m) (div-add-mod' x (k * m * q))

-- a field that lies whole above the one that was set
pub get_set_above : (p n k m x v : ℕ) → 0 < p → 0 < n → get_at (p * n * k) m (set_at p n x v) ≡ get_at (p * n * k) m x
unfolding get_at set_at
get_set_above p n k m x v hp hn =
    simp (← div-div-eq-div-mul)
    (rw (digits_div (x / p / n * n + v % n) (mod-lt x hp), digits_div (x / p / n) (mod-lt v hn)))

-- the same two of places and sizes that are numbers, where the equation is `refl`
pub get_set_lower : (q m p n x v : ℕ) → 0 < q → p / (m * q) * m * q ≡ p → get_at q m (set_at p n x v) ≡ get_at q m x
get_set_lower q m p n x v hq e = rw e at (get_set_below q m (p / (m * q)) n x v hq)

pub get_set_higher : (q m p n x v : ℕ) → 0 < p → 0 < n → p * n * (q / (p * n)) ≡ q → get_at q m (set_at p n x v) ≡ get_at q m x
get_set_higher q m p n x v hp hn e = rw e at (get_set_above p n (q / (p * n)) m x v hp hn)

-- a word of m * n * p values stays one
pub set_lt : (p n m x v : ℕ) → 0 < p → 0 < n → x < m * n * p → set_at p n x v < m * n * p
unfolding set_at
set_lt p n m x v hp hn hx =
    digits_lt (digits_lt ((div-lt_iff_lt-mul hn).1 ((div-lt_iff_lt-mul hp).1 hx)) (mod-lt v hn)) (mod-lt x hp)

-- of a value only what fits the field counts
pub set_mod : (p n x v : ℕ) → set_at p n x (v % n) ≡ set_at p n x v
unfolding set_at
set_mod p n x v = rw (mod-mod v n)

pub get_lt : (p n x : ℕ) → 0 < n → get_at p n x < n
unfolding get_at
get_lt p n x h = mod-lt (x / p) h

-- ---- a word that was built

module _ (op : OpCode) (a b c : ℕ) where
  pub op_abc : op_of (abc_of op a b c) ≡ code_of op
  unfolding get_at abc_of
  op_abc = omega (arith, code_lt op)

  pub a_abc : a_of (abc_of op a b c) ≡ a % a_size
  unfolding get_at abc_of
  a_abc = omega (arith, code_lt op)

  pub b_abc : b_of (abc_of op a b c) ≡ b % b_size
  unfolding get_at abc_of
  b_abc = omega (arith, code_lt op)

  pub c_abc : c_of (abc_of op a b c) ≡ c % c_size
  unfolding get_at abc_of
  c_abc = omega (arith, code_lt op)

  pub opcode_abc : opcode_of (abc_of op a b c) ≡ op
  opcode_abc = ap op_code_of op_abc ∙ opcode_code op

  pub abc_lt : abc_of op a b c < 2 ^ 32
  unfolding abc_of
  abc_lt = omega (arith, code_lt op)

module _ (op : OpCode) (a bx : ℕ) where
  pub op_a_bx : op_of (a_bx_of op a bx) ≡ code_of op
  unfolding get_at a_bx_of
  op_a_bx = omega (arith, code_lt op)

  pub a_a_bx : a_of (a_bx_of op a bx) ≡ a % a_size
  unfolding get_at a_bx_of
  a_a_bx = omega (arith, code_lt op)

  pub bx_a_bx : bx_of (a_bx_of op a bx) ≡ bx % bx_size
  unfolding get_at a_bx_of
  bx_a_bx = omega (arith, code_lt op)

  pub opcode_a_bx : opcode_of (a_bx_of op a bx) ≡ op
  opcode_a_bx = ap op_code_of op_a_bx ∙ opcode_code op

  pub a_bx_lt : a_bx_of op a bx < 2 ^ 32
  unfolding a_bx_of
  a_bx_lt = omega (arith, code_lt op)

-- words of the same fields, each modulo its size
module _ (op : OpCode) where
  pub abc_same : (a b c a' b' c' : ℕ) → a % a_size ≡ a' % a_size → b % b_size ≡ b' % b_size → c % c_size ≡ c' % c_size → abc_of op a b c ≡ abc_of op a' b' c'
  unfolding abc_of
  abc_same a b c a' b' c' x y z = rw (x, y, z)

  pub abc_mod : (a b c : ℕ) → abc_of op (a % a_size) (b % b_size) (c % c_size) ≡ abc_of op a b c
  abc_mod a b c = abc_same _ _ _ _ _ _ (mod-mod a a_size) (mod-mod b b_size) (mod-mod c c_size)

  pub a_bx_mod : (a bx : ℕ) → a_bx_of op (a % a_size) (bx % bx_size) ≡ a_bx_of op a bx
  unfolding a_bx_of
  a_bx_mod a bx = rw (mod-mod a a_size, mod-mod bx bx_size)

-- ---- a word that was built, and then a field of it set

module _ (op : OpCode) (a b c v : ℕ) where
  pub set_a_abc : set_a_of (abc_of op a b c) v ≡ abc_of op v b c
  unfolding set_at abc_of
  set_a_abc = omega (arith, code_lt op)

  pub set_b_abc : set_b_of (abc_of op a b c) v ≡ abc_of op a v c
  unfolding set_at abc_of
  set_b_abc = omega (arith, code_lt op)

  pub set_c_abc : set_c_of (abc_of op a b c) v ≡ abc_of op a b v
  unfolding set_at abc_of
  set_c_abc = omega (arith, code_lt op)

module _ (op : OpCode) (a bx v : ℕ) where
  pub set_a_a_bx : set_a_of (a_bx_of op a bx) v ≡ a_bx_of op v bx
  unfolding set_at a_bx_of
  set_a_a_bx = omega (arith, code_lt op)

  pub set_bx_a_bx : set_bx_of (a_bx_of op a bx) v ≡ a_bx_of op a v
  unfolding set_at a_bx_of
  set_bx_a_bx = omega (arith, code_lt op)

-- ---- a word in which a field was set

module _ (w v : ℕ) where
  pub set_a_mod : set_a_of w (v % a_size) ≡ set_a_of w v
  set_a_mod = set_mod a_place a_size w v

  pub set_b_mod : set_b_of w (v % b_size) ≡ set_b_of w v
  set_b_mod = set_mod b_place b_size w v

  pub op_set_a : op_of (set_a_of w v) ≡ op_of w
  op_set_a = get_set_lower op_place op_size a_place a_size w v (omega arith) refl

  pub a_set_a : a_of (set_a_of w v) ≡ v % a_size
  a_set_a = get_set_same a_place a_size w v (omega arith) (omega arith)

  pub b_set_a : b_of (set_a_of w v) ≡ b_of w
  b_set_a = get_set_higher b_place b_size a_place a_size w v (omega arith) (omega arith) refl

  pub c_set_a : c_of (set_a_of w v) ≡ c_of w
  c_set_a = get_set_higher c_place c_size a_place a_size w v (omega arith) (omega arith) refl

  pub bx_set_a : bx_of (set_a_of w v) ≡ bx_of w
  bx_set_a = get_set_higher bx_place bx_size a_place a_size w v (omega arith) (omega arith) refl

  pub opcode_set_a : opcode_of (set_a_of w v) ≡ opcode_of w
  opcode_set_a = ap op_code_of op_set_a

  pub set_a_lt : w < 2 ^ 32 → set_a_of w v < 2 ^ 32
  set_a_lt = set_lt a_place a_size (2 ^ 32 / (a_place * a_size)) w v (omega arith) (omega arith)

  pub op_set_b : op_of (set_b_of w v) ≡ op_of w
  op_set_b = get_set_lower op_place op_size b_place b_size w v (omega arith) refl

  pub a_set_b : a_of (set_b_of w v) ≡ a_of w
  a_set_b = get_set_lower a_place a_size b_place b_size w v (omega arith) refl

  pub b_set_b : b_of (set_b_of w v) ≡ v % b_size
  b_set_b = get_set_same b_place b_size w v (omega arith) (omega arith)

  pub c_set_b : c_of (set_b_of w v) ≡ c_of w
  c_set_b = get_set_lower c_place c_size b_place b_size w v (omega arith) refl

  pub opcode_set_b : opcode_of (set_b_of w v) ≡ opcode_of w
  opcode_set_b = ap op_code_of op_set_b

  pub set_b_lt : w < 2 ^ 32 → set_b_of w v < 2 ^ 32
  set_b_lt = set_lt b_place b_size (2 ^ 32 / (b_place * b_size)) w v (omega arith) (omega arith)

  pub op_set_c : op_of (set_c_of w v) ≡ op_of w
  op_set_c = get_set_lower op_place op_size c_place c_size w v (omega arith) refl

  pub a_set_c : a_of (set_c_of w v) ≡ a_of w
  a_set_c = get_set_lower a_place a_size c_place c_size w v (omega arith) refl

  pub b_set_c : b_of (set_c_of w v) ≡ b_of w
  b_set_c = get_set_higher b_place b_size c_place c_size w v (omega arith) (omega arith) refl

  pub c_set_c : c_of (set_c_of w v) ≡ v % c_size
  c_set_c = get_set_same c_place c_size w v (omega arith) (omega arith)

  pub opcode_set_c : opcode_of (set_c_of w v) ≡ opcode_of w
  opcode_set_c = ap op_code_of op_set_c

  pub set_c_lt : w < 2 ^ 32 → set_c_of w v < 2 ^ 32
  set_c_lt = set_lt c_place c_size (2 ^ 32 / (c_place * c_size)) w v (omega arith) (omega arith)

  pub op_set_bx : op_of (set_bx_of w v) ≡ op_of w
  op_set_bx = get_set_lower op_place op_size bx_place bx_size w v (omega arith) refl

  pub a_set_bx : a_of (set_bx_of w v) ≡ a_of w
  a_set_bx = get_set_lower a_place a_size bx_place bx_size w v (omega arith) refl

  pub bx_set_bx : bx_of (set_bx_of w v) ≡ v % bx_size
  bx_set_bx = get_set_same bx_place bx_size w v (omega arith) (omega arith)

  pub opcode_set_bx : opcode_of (set_bx_of w v) ≡ opcode_of w
  opcode_set_bx = ap op_code_of op_set_bx

  pub set_bx_lt : w < 2 ^ 32 → set_bx_of w v < 2 ^ 32
  set_bx_lt = set_lt bx_place bx_size (2 ^ 32 / (bx_place * bx_size)) w v (omega arith) (omega arith)

-- Bx is B and C together
pub bx_is : (w : ℕ) → bx_of w ≡ b_of w * c_size + c_of w
unfolding get_at
bx_is w = omega arith

-- ---- the signed field

pub excess_lt : (v : ℤ) → excess v < bx_size
unfolding excess
excess_lt (pos n) = mod-lt (n + max_arg_sbx) (omega arith)
excess_lt (negsuc n) = mod-lt (max_arg_sbx - 1 + (bx_size - n % bx_size)) (omega arith)

-- v is from -131,071 to 131,072
abbrev pub InSbx : ℤ → Type 0
InSbx (pos n) = n ≤ max_arg_sbx + 1
-- -(n + 1)
InSbx (negsuc n) = n < max_arg_sbx

pub sbx_excess : (w : ℕ) (v : ℤ) → InSbx v → bx_of w ≡ excess v → sbx_of w ≡ v
unfolding excess sbx_of
sbx_excess w (pos n) h e = rw (le-ltb (bx_of w) max_arg_sbx (omega arith)) (ap pos (omega arith))
sbx_excess w (negsuc n) h e = rw (lt-ltb (bx_of w) max_arg_sbx (omega arith)) (ap negsuc (omega arith))

pub sbx_a_sbx : (op : OpCode) (a : ℕ) (v : ℤ) → InSbx v → sbx_of (a_sbx_of op a v) ≡ v
sbx_a_sbx op a v h = sbx_excess (a_sbx_of op a v) v h (bx_a_bx op a (excess v) ∙ mod-eq_of_lt (excess_lt v))

pub sbx_set_sbx : (w : ℕ) (v : ℤ) → InSbx v → sbx_of (set_sbx_of w v) ≡ v
sbx_set_sbx w v h = sbx_excess (set_sbx_of w v) v h (bx_set_bx w (excess v) ∙ mod-eq_of_lt (excess_lt v))

-- every word's sBx is in that range; that of a word of zeros leads back
pub sbx_in : (w : ℕ) → InSbx (sbx_of w)
unfolding sbx_of
sbx_in w = go (ltb (bx_of w) max_arg_sbx)
  where
    go : (t : Bool) → InSbx (cond t (negsuc (max_arg_sbx - suc (bx_of w))) (pos (bx_of w - max_arg_sbx)))
    go true = omega arith
    go false = omega (arith, get_lt bx_place bx_size w (omega arith))

pub sbx_zero : sbx_of 0 ≡ negsuc (max_arg_sbx - 1)
unfolding sbx_of get_at
sbx_zero = refl
