-- Single words that are no jumps: each does in the run what it does in labelled code, one word further on (`LoadBool` that skips: two).
-- Its fields read back, its operands are what labelled code reads, and then both work out the same.
-- What rests on something that a must-fail edit breaks stands in proofs/Plain.antt.
use Prim.Native.Nat.{ℕ, zero, suc, ◌+◌, ◌-◌, ◌≤◌, ◌<◌}
use Rattle.std.specs.Prelude.{Bool, false, not, ◌≡◌, List, [], ◌∷◌, set}
use Rattle.std.proofs.Math.Path.{refl}
use Rattle.std.proofs.Common.{◌∙◌}
use Rattle.std.proofs.Math.Option.{Option}
use native.Mathlib.Omega.{arith as nat}
use Rattle.std.proofs.lemmas.List.Edits.{sets}
use borrow.Author.Tests.{le-leb}
use Rattle.instructions.specs.Limits.{max_stack}
use Rattle.instructions.specs.Word.{opcode_of, a_of, b_of, c_of, bx_of, abc_of, a_bx_of}
use Rattle.opcodes.specs.declared.OpCode.{OpCode}
use Rattle.opcodes.specs.declared.OpCode.TheVariants as op
use Rattle.folding.specs.declared.Arith.{Arith}
use Rattle.folding.specs.declared.Arith.TheVariants as arith
use Rattle.constants.specs.Entry.{Constant, number as knumber, text as ktext}
use Rattle.model.specs.Values.{Value, nil, truth, number, text, other, value_of, is_true, first, fit, World, global_read, index_read, length_of, ask, compute, negation}
use Rattle.model.specs.Running as run
use Rattle.model.specs.Running.{Program, Open, Machine, After, goes}
use Rattle.model.specs.Conditions.{bit}
use Rattle.model.specs.Operators.{arith_op}
use Rattle.labelled.specs.Code.{Rk}
use Rattle.labelled.specs.Machine.{Hist, Regs, Setting, rk, upd, span, cats, eval_s}
use Rattle.labelled.specs.Table.{place}
use Rattle.labelled.specs.Places.{Listed}
use Rattle.threads.specs.Coded.{Binary, CodesRk, CodesV}
use Rattle.running.specs.Registers.{Holds, holds_set, fit_length}
use Rattle.running.specs.Decoding.{Abc, ABx, abc, a_bx, bit_small, flag_bit}
use Rattle.running.specs.Operands.{rk_small, Lists, state, fit_one, put_law, to_law, puts_law, reg_law, constant_law, rk_law}

module _ (Γ : Setting) (p : Program) (t : List Constant) (lists : Lists p t) (most : p.frame ≤ max_stack) (rs : List Value) (R : Regs) (holds : Holds p.frame rs R) (n : ℕ) (l : Option Open) (h : Hist) where
  abbrev W : World
  W = Γ.world

  abbrev VS : List Value
  VS = Γ.varargs

  abbrev m : Machine
  m = state n rs l h

  abbrev carries : ℕ → After
  carries x = run.execute W p VS (opcode_of x) x m

  -- register a gets v after the steps g
  abbrev writes : ℕ → Value → Hist → After
  writes a v g = goes (state (n + 1) (set rs a v) l g)

  reading : (y r : ℕ) (f : Value → After) → y ≡ r → r < p.frame → run.reg W p VS m y f ≡ f (R r)
  reading = reg_law W p VS rs R holds n l h

  operand : (y u : ℕ) (k : Rk) (f : Value → After) → y ≡ u → CodesRk t p.frame k u → run.rk_value W p VS m y f ≡ f (rk k R)
  operand = rk_law W p VS t lists rs R holds n l h (omega nat)

  -- the model's concatenations of a list of registers are those of labelled code
  pub joined_cats : (k b : ℕ) → run.joined W p VS (span (suc k) b R) h ≡ cats Γ k b R h
  unfolding run.joined
  joined_cats zero b = refl
  joined_cats (suc k) b = rw (joined_cats k (suc b)) refl

  module _ (x a : ℕ) (la : a < p.frame) where
    pub writing : (v : Value) (g : Hist) → a_of x ≡ a → run.to W p VS (state n rs l g) (a_of x) v ≡ writes a v g
    writing v g e = to_law W p VS n l g rs (a_of x) a v e la

    -- a constant by its place, which fits Bx
    with_constant : (o : OpCode) (c : Constant) → Listed c t → x ≡ a_bx_of o a (place c t) → ABx x o a (place c t)
    with_constant o c b e = a_bx e (omega nat) (omega (nat, lists.few))

    load : (c : Constant) → Listed c t → x ≡ a_bx_of op.LoadK a (place c t) → carries x ≡ writes a (value_of c) h
    unfolding run.execute
    load c b e = let i : ABx x op.LoadK a (place c t) = with_constant op.LoadK c b e in
        rw i.is_op (constant_law W p VS t lists (bx_of x) c (λ v. run.to W p VS m (a_of x) v) i.is_bx b ∙ writing (value_of c) h i.is_a)

    pub load_bool : (b s : Bool) → x ≡ abc_of op.LoadBool a (bit b) (bit s) → carries x ≡ run.skip_if s (state n (set rs a (truth b)) l h)
    unfolding run.execute
    load_bool b s e = let i : Abc x op.LoadBool a (bit b) (bit s) = abc e (omega nat) (omega (nat, bit_small b)) (omega (nat, bit_small s)) in
        rw i.is_op (put_law W p VS n l h rs (a_of x) a (truth (run.flag (b_of x))) (λ k. run.skip_if (run.flag (c_of x)) k) i.is_a la ∙ rw (i.is_b, i.is_c, flag_bit b, flag_bit s) refl)

    pub value_law : (v : Value) → CodesV t p.frame x a v → carries x ≡ writes a v h
    value_law nil c = absurd c
    value_law (truth b) c = load_bool b false c
    value_law (number k) c = load (knumber k) c.0 c.1
    value_law (text s) c = load (ktext s) c.0 c.1
    value_law (other i) c = absurd c

    -- words with one register
    module _ (r : ℕ) (lr : r < p.frame) where
      of_one : (o : OpCode) → x ≡ abc_of o a r 0 → Abc x o a r 0
      of_one o e = abc e (omega nat) (omega nat) (omega nat)

      pub move_law : x ≡ abc_of op.Move a r 0 → carries x ≡ writes a (R r) h
      unfolding run.execute
      move_law e = let i : Abc x op.Move a r 0 = of_one op.Move e in rw i.is_op (reading (b_of x) r (λ v. run.to W p VS m (a_of x) v) i.is_b lr ∙ writing (R r) h i.is_a)

      pub unm_law : x ≡ abc_of op.Unm a r 0 → carries x ≡ writes a (negation W (R r) h).gives (negation W (R r) h).steps
      unfolding run.execute
      unm_law e = let i : Abc x op.Unm a r 0 = of_one op.Unm e in
          rw i.is_op (reading (b_of x) r (λ v. run.computed W p VS m (a_of x) (negation W v h)) i.is_b lr ∙ writing (negation W (R r) h).gives (negation W (R r) h).steps i.is_a)

      pub not_law : x ≡ abc_of op.Not a r 0 → carries x ≡ writes a (truth (not (is_true (R r)))) h
      unfolding run.execute
      not_law e = let i : Abc x op.Not a r 0 = of_one op.Not e in
          rw i.is_op (reading (b_of x) r (λ v. run.to W p VS m (a_of x) (truth (not (is_true v)))) i.is_b lr ∙ writing (truth (not (is_true (R r)))) h i.is_a)

      pub len_law : x ≡ abc_of op.Len a r 0 → carries x ≡ writes a (ask W length_of (R r ∷ []) h).gives (ask W length_of (R r ∷ []) h).steps
      unfolding run.execute
      len_law e = let i : Abc x op.Len a r 0 = of_one op.Len e in
          rw i.is_op (reading (b_of x) r (λ v. run.asked W p VS m (a_of x) length_of (v ∷ [])) i.is_b lr ∙ writing (ask W length_of (R r ∷ []) h).gives (ask W length_of (R r ∷ []) h).steps i.is_a)

      pub index_law : (k : Rk) (u : ℕ) → CodesRk t p.frame k u → x ≡ abc_of op.GetTable a r u → carries x ≡ writes a (ask W index_read (R r ∷ rk k R ∷ []) h).gives (ask W index_read (R r ∷ rk k R ∷ []) h).steps
      unfolding run.execute
      index_law k u c e = let i : Abc x op.GetTable a r u = abc e (omega nat) (omega nat) (rk_small t p.frame most k u c) in
          rw i.is_op (reading (b_of x) r (λ o. run.rk_value W p VS m (c_of x) λ v. run.asked W p VS m (a_of x) index_read (o ∷ v ∷ [])) i.is_b lr
          ∙ operand (c_of x) u k (λ v. run.asked W p VS m (a_of x) index_read (R r ∷ v ∷ [])) i.is_c c
          ∙ writing (ask W index_read (R r ∷ rk k R ∷ []) h).gives (ask W index_read (R r ∷ rk k R ∷ []) h).steps i.is_a)

    pub global_law : (g : List ℕ) → Listed (ktext g) t → x ≡ a_bx_of op.GetGlobal a (place (ktext g) t) → carries x ≡ writes a (ask W global_read (text g ∷ []) h).gives (ask W global_read (text g ∷ []) h).steps
    unfolding run.execute
    global_law g b e = let i : ABx x op.GetGlobal a (place (ktext g) t) = with_constant op.GetGlobal (ktext g) b e in
        rw i.is_op (constant_law W p VS t lists (bx_of x) (ktext g) (λ k. run.name_of k λ v. run.asked W p VS m (a_of x) global_read (v ∷ [])) i.is_bx b
        ∙ writing (ask W global_read (text g ∷ []) h).gives (ask W global_read (text g ∷ []) h).steps i.is_a)

    abbrev arithmetic : Arith → After
    arithmetic o = run.rk_value W p VS m (b_of x) λ u. run.rk_value W p VS m (c_of x) λ v. run.computed W p VS m (a_of x) (compute W o u v h)

    carry_arith : (o : Arith) → Binary o → run.execute W p VS (arith_op o) x m ≡ arithmetic o
    unfolding run.execute
    carry_arith arith.Add b = refl
    carry_arith arith.Sub b = refl
    carry_arith arith.Mul b = refl
    carry_arith arith.Div b = refl
    carry_arith arith.Mod b = refl
    carry_arith arith.Pow b = refl
    carry_arith arith.Unm b = absurd b

    pub arith_law : (o : Arith) (j k : Rk) (u v : ℕ) → Binary o → CodesRk t p.frame j u → CodesRk t p.frame k v → x ≡ abc_of (arith_op o) a u v →
        carries x ≡ writes a (compute W o (rk j R) (rk k R) h).gives (compute W o (rk j R) (rk k R) h).steps
    arith_law o j k u v b cj ck e = let i : Abc x (arith_op o) a u v = abc e (omega nat) (rk_small t p.frame most j u cj) (rk_small t p.frame most k v ck) in
        rw i.is_op (carry_arith o b ∙ operand (b_of x) u j (λ y. run.rk_value W p VS m (c_of x) λ z. run.computed W p VS m (a_of x) (compute W o y z h)) i.is_b cj
        ∙ operand (c_of x) v k (λ z. run.computed W p VS m (a_of x) (compute W o (rk j R) z h)) i.is_c ck
        ∙ writing (compute W o (rk j R) (rk k R) h).gives (compute W o (rk j R) (rk k R) h).steps i.is_a)

    pub vararg_law : x ≡ abc_of op.VarArg a 2 0 → carries x ≡ writes a (first VS) h
    unfolding run.execute
    vararg_law e = let i : Abc x op.VarArg a 2 0 = abc e (omega nat) (omega nat) (omega nat) in
        rw (i.is_op, i.is_a, i.is_b, fit_one VS) (puts_law W p VS n l h (first VS ∷ []) rs a run.next (omega nat))

  -- nil in the registers a to a + k
  pub nil_law : (x a k : ℕ) → k + a < p.frame → x ≡ abc_of op.LoadNil a (k + a) 0 → carries x ≡ goes (state (n + 1) (sets rs a (fit (suc k) [])) l h)
  unfolding run.execute
  nil_law x a k lk e = let i : Abc x op.LoadNil a (k + a) 0 = abc e (omega nat) (omega nat) (omega nat) in
      let z : k + a + 1 - a ≡ suc k = omega nat in
      rw (i.is_op, i.is_a, i.is_b, le-leb a (k + a) (omega nat), z) (puts_law W p VS n l h (fit (suc k) []) rs a run.next (omega (nat, fit_length (suc k) [])))

  -- a method: the object goes to its register before the key is read
  pub self_law : (x a o : ℕ) (k : Rk) (u : ℕ) → suc a < p.frame → o < p.frame → CodesRk t p.frame k u → x ≡ abc_of op.OpSelf a o u →
      carries x ≡ goes (state (n + 1) (set (set rs (suc a) (R o)) a (eval_s Γ a o k R h).gives) l (eval_s Γ a o k R h).steps)
  unfolding run.execute
  self_law x a o k u la lo c e = let i : Abc x op.OpSelf a o u = abc e (omega nat) (omega nat) (rk_small t p.frame most k u c) in
      let z : a_of x + 1 ≡ suc a = omega (nat, i.is_a) in
      rw i.is_op (reading (b_of x) o (λ v. run.put W p VS m (a_of x + 1) v λ q. run.rk_value W p VS q (c_of x) λ y. run.asked W p VS q (a_of x) index_read (v ∷ y ∷ [])) i.is_b lo
      ∙ put_law W p VS n l h rs (a_of x + 1) (suc a) (R o) (λ q. run.rk_value W p VS q (c_of x) λ y. run.asked W p VS q (a_of x) index_read (R o ∷ y ∷ [])) z la
      ∙ rk_law W p VS t lists (set rs (suc a) (R o)) (upd (suc a) (R o) R) (holds_set p.frame rs R (suc a) (R o) la holds) n l h (omega nat) (c_of x) u k
      (λ y. run.asked W p VS (state n (set rs (suc a) (R o)) l h) (a_of x) index_read (R o ∷ y ∷ [])) i.is_c c
      ∙ to_law W p VS n l (eval_s Γ a o k R h).steps (set rs (suc a) (R o)) (a_of x) a (eval_s Γ a o k R h).gives i.is_a (omega nat))
