-- Conditional jumps and `not` keep the tails clean: `pop` takes the last word back with its line, which is zero again; the rest part by part.
-- What rests on something that a must-fail edit breaks stands in proofs/Conditions.antt.
use Rattle.std.specs.Prelude.{ℕ, zero, suc, ◌-◌, ◌≤◌, Bool, ◌≡◌, refl, List, [], ◌∷◌, get_or, set, eqb}
use Rattle.std.proofs.Math.Bool.{true, false}
use Rattle.std.proofs.Common.{◌∙◌, arith, get_or-set_other, eqb-true}
use Rattle.std.proofs.Math.ListN.{length-set}
use Rattle.std.proofs.lemmas.Bool.{eqb-false}
use Rattle.instructions.specs.Word.{a_of, set_a_of}
use Rattle.model.specs.declared.ExprContext.{ExprContext}
use Rattle.model.specs.Jumps.{get_jump_control}
use Rattle.model.specs.Conditions.{bit, pop, invertjump}
use Rattle.model.specs.Lowering.{Sizes}
use Rattle.padding.specs.Clean.{clean, Keeps, keeps_words, keeps_then}
use Rattle.padding.specs.Emission.{keeps_change_word}

-- a line taken back; behind the end there is none
set_zero : (l : List ℕ) (i : ℕ) → get_or (set l i 0) i 0 ≡ 0
set_zero [] i = refl
set_zero (x ∷ l) zero = refl
set_zero (x ∷ l) (suc i) = set_zero l i

taken_back : (l : List ℕ) (n i : ℕ) → ((j : ℕ) → n ≤ j → get_or l j 0 ≡ 0) → n - 1 ≤ i → get_or (set l (n - 1) 0) i 0 ≡ 0
taken_back l n i g h = last (eqb i (n - 1)) refl
  where
    last : (b : Bool) → eqb i (n - 1) ≡ b → get_or (set l (n - 1) 0) i 0 ≡ 0
    last true e = rw (eqb-true i (n - 1) e) (set_zero l (n - 1))
    last false e = let ne : i ≡ n - 1 → ⊥ = eqb-false i (n - 1) e in get_or-set_other l (n - 1) i 0 0 ne ∙ g i (omega arith)

module _ {z : Sizes} where
  pub keeps_pop : Keeps z pop
  unfolding pop
  keeps_pop s m c = let f : s.pc - 1 ≤ z.lines = omega (arith, c.lines_fit) in clean tt _ _ (record {
    code_length = length-set m.code (s.pc - 1) 0 ∙ c.code_length;
    lines_length = length-set m.lines (s.pc - 1) 0 ∙ c.lines_length;
    kinds_length = c.kinds_length;
    values_length = c.values_length;
    pool_length = c.pool_length;
    lines_fit = f;
    lines = λ i h. taken_back m.lines s.pc i c.lines h;
    kinds = c.kinds;
    values = c.values;
    pool = c.pool;
  })

  pub keeps_invertjump : (e : ExprContext) → Keeps z (invertjump e)
  unfolding invertjump
  keeps_invertjump e = keeps_then keeps_words (λ code. keeps_change_word (get_jump_control code e.info) (λ w. set_a_of w (bit (eqb (a_of w) 0))))
