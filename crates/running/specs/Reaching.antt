-- A run on its way: a number of words lead from one machine to another, each to a later word, so that there are no more of them than words passed over.
-- Fuel and count only shift by that number, so the fuel of a whole run, one for each word, never runs out.
use Rattle.std.specs.Prelude.{ℕ, suc, ◌+◌, ◌≤◌, ◌<◌, ◌≡◌, List, length, get_or}
use Rattle.std.proofs.Math.Path.{refl}
use Rattle.std.proofs.Common.{◌∙◌, arith}
use borrow.Author.Tests.{lt-ltb}
use Rattle.instructions.specs.Word.{opcode_of}
use Rattle.model.specs.Values.{Value, Outward, World}
use Rattle.model.specs.Running.{Program, Machine, After, goes, ends, returned, execute, run_from}

module _ (w : World) (p : Program) (varargs : List Value) where
  -- what carrying out the word at a machine's pc does
  abbrev pub does : Machine → After
  does m = execute w p varargs (opcode_of (get_or p.words m.pc 0)) (get_or p.words m.pc 0) m

  pub record Reach (m k : Machine) : Type 0 where
    pub steps : ℕ
    pub short : steps + m.pc ≤ k.pc
    pub runs : (fuel n : ℕ) → run_from w p varargs (steps + fuel) m n ≡ run_from w p varargs fuel k (steps + n)

  pub reach_here : (m : Machine) → Reach m m
  reach_here m = record { steps = 0; short = omega arith; runs = λ fuel n. (let e : 0 + fuel ≡ fuel = omega arith in let f : 0 + n ≡ n = omega arith in rw (e, f) refl) }

  one_word : (m k : Machine) → m.pc < length p.words → m.pc < k.pc → does m ≡ goes k → (fuel n : ℕ) → run_from w p varargs (suc fuel) m n ≡ run_from w p varargs fuel k (suc n)
  unfolding run_from
  one_word m k l f e fuel n = rw (lt-ltb m.pc (length p.words) l, run_from, e, run_from, lt-ltb m.pc k.pc f, run_from) refl

  pub last_word : (m : Machine) (vs : List Value) (h : List Outward) → m.pc < length p.words → does m ≡ ends vs h → (fuel n : ℕ) → run_from w p varargs (suc fuel) m n ≡ returned vs h (suc n)
  unfolding run_from
  last_word m vs h l e fuel n = rw (lt-ltb m.pc (length p.words) l, run_from, e, run_from) refl

  pub reach_word : (s m k : Machine) → Reach s m → m.pc < length p.words → m.pc < k.pc → does m ≡ goes k → Reach s k
  reach_word s m k r l f e = record {
    steps = suc r.steps;
    short = omega (arith, r.short);
    runs = λ fuel n.
        (let a : suc r.steps + fuel ≡ r.steps + suc fuel = omega arith in
        let b : suc r.steps + n ≡ suc (r.steps + n) = omega arith in
        rw (a, b) (r.runs (suc fuel) n ∙ one_word m k l f e fuel (r.steps + n)));
  }
