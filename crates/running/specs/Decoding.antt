-- What the fields of a word are that was built of fields: opcode and values read back, since each is below its field's size.
-- A truth value as a field, and the sBx of a jump that goes forward, are instances.
use Rattle.std.specs.Prelude.{ℕ, suc, ◌+◌, ◌-◌, ◌≤◌, ◌<◌, Bool, true, false, ◌≡◌, refl, pos}
use Rattle.std.proofs.Common.{ap, ◌∙◌, arith, mod-eq_of_lt, add-one, le-ltb}
use Rattle.instructions.specs.Limits.{a_size, b_size, c_size, bx_size, max_words}
use Rattle.instructions.specs.Word.{opcode_of, a_of, b_of, c_of, bx_of, sbx_of, abc_of, a_bx_of}
use Rattle.instructions.specs.Laws.{opcode_abc, a_abc, b_abc, c_abc, opcode_a_bx, a_a_bx, bx_a_bx}
use Rattle.opcodes.specs.declared.OpCode.{OpCode}
use Rattle.model.specs.Conditions.{bit}
use Rattle.model.specs.Running.{flag}
use Rattle.threads.specs.Words.{jmp_to, sbx_to}

pub record Abc (x : ℕ) (o : OpCode) (a b c : ℕ) : Type 0 where
  pub is_op : opcode_of x ≡ o
  pub is_a : a_of x ≡ a
  pub is_b : b_of x ≡ b
  pub is_c : c_of x ≡ c

pub record ABx (x : ℕ) (o : OpCode) (a k : ℕ) : Type 0 where
  pub is_op : opcode_of x ≡ o
  pub is_a : a_of x ≡ a
  pub is_bx : bx_of x ≡ k

pub abc : {x : ℕ} {o : OpCode} {a b c : ℕ} → x ≡ abc_of o a b c → a < a_size → b < b_size → c < c_size → Abc x o a b c
abc {o = o} {a = a} {b = b} {c = c} e la lb lc = record {
  is_op = ap opcode_of e ∙ opcode_abc o a b c;
  is_a = ap a_of e ∙ a_abc o a b c ∙ mod-eq_of_lt la;
  is_b = ap b_of e ∙ b_abc o a b c ∙ mod-eq_of_lt lb;
  is_c = ap c_of e ∙ c_abc o a b c ∙ mod-eq_of_lt lc;
}

pub a_bx : {x : ℕ} {o : OpCode} {a k : ℕ} → x ≡ a_bx_of o a k → a < a_size → k < bx_size → ABx x o a k
a_bx {o = o} {a = a} {k = k} e la lk = record {
  is_op = ap opcode_of e ∙ opcode_a_bx o a k;
  is_a = ap a_of e ∙ a_a_bx o a k ∙ mod-eq_of_lt la;
  is_bx = ap bx_of e ∙ bx_a_bx o a k ∙ mod-eq_of_lt lk;
}

-- a truth value
pub bit_small : (k : Bool) → bit k < 2
bit_small true = omega arith
bit_small false = omega arith

pub flag_bit : (k : Bool) → flag (bit k) ≡ k
flag_bit true = refl
flag_bit false = refl

-- the jump at word p that leads to word q
pub sbx_forward : (p q : ℕ) → p < q → q ≤ max_words → sbx_of (jmp_to p q) ≡ pos (q - (p + 1))
sbx_forward p q l m = sbx_to p q m (omega arith) ∙ rw (add-one p, le-ltb q (suc p) (omega arith)) refl
