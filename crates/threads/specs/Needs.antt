-- `need_value` and `has_jumps` as the labelled lowering asks them: whether a pending jump of a list stands in the code, and one that keeps no value.
-- A test of the places of a label, in any order, is a test of the instructions of the label; heads of two labels agree only where neither has a list.
use Rattle.std.specs.Prelude.{ℕ, zero, suc, ◌+◌, ◌≤◌, ◌<◌, Bool, not, ◌||◌, ◌&&◌, ◌≡◌, length, eqb}
use Rattle.std.proofs.Math.Bool.{true, false}
use Rattle.std.proofs.Math.Path.{refl}
use Rattle.std.proofs.Common.{ap, sym, ◌∙◌, arith}
use mathlib.Core.List.{List, [], ◌∷◌}
use Rattle.instructions.specs.Limits.{no_reg}
use Rattle.opcodes.specs.declared.OpCode.TheVariants.{Test, TestSet}
use Rattle.model.specs.Jumps.{word, keeps_value, need_value}
use Rattle.model.specs.Conditions.{bit}
use Rattle.labelled.specs.Code.{same, same_refl, same_ne, always, test, tset, tseta, cmp, to, lbl, Instr, pl, br, Code, size}
use Rattle.threads.specs.Words.{next}
use Rattle.threads.specs.Places.{tail, key, key_at, mem_k, here_lab, below_lab, is_lab, is_l, look, mem, look_imp, look_beyond, look_apart, lab_apart}
use Rattle.threads.specs.Encoding.{is_test, comparison, comparison_tests, comparison_keeps_none, Coding, pend, is_p, lab_pend, EncI, Enc, prev_word}
use Rattle.threads.specs.Turns.{ctl_pair, ctl_alone, tests, sets, jmp_sets_none}
use Rattle.threads.specs.Chains.{bool_clash, Chain, or_true_r}
use Rattle.threads.specs.Represents.{Rep, fuel}
use Rattle.labelled.specs.Machine.{pick}
use Rattle.labelled.specs.Emission.{hit, hit1, is_set}

-- ---- tests of places and of instructions

-- does an instruction of the code pass the test
unfoldable pub any : (Instr → Bool) → Code → Bool
any F [] = false
any F (i ∷ c) = F i || any F c

unfoldable pub any_l : (ℕ → Bool) → List ℕ → Bool
any_l f [] = false
any_l f (p ∷ l) = f p || any_l f l

any_l_ext : (f g : ℕ → Bool) (l : List ℕ) → ((p : ℕ) → mem p l ≡ true → f p ≡ g p) → any_l f l ≡ any_l g l
unfolding any_l
any_l_ext f g [] h = refl
any_l_ext f g (p ∷ l) h = rw (h p (rw (same_refl p) refl), any_l_ext f g l (λ q m. h q (or_true_r (same q p) (mem q l) m))) refl

-- a list of positions against the code
any_cons : (F : Instr → Bool) (i : Instr) (c : Code) (l : List ℕ) → any_l (look F (i ∷ c)) l ≡ ((mem_k (size c) i l && F i) || any_l (look F c) l)
unfolding any_l look
any_cons F i c [] = refl
any_cons F i c (p ∷ l) = rw (any_cons F i c l) (go (key p (size c) i) (F i) (mem_k (size c) i l) (any_l (look F c) l) refl)
  where
    alg : (x m y : Bool) → (x || ((m && x) || y)) ≡ (x || y)
    alg true m y = refl
    alg false true y = refl
    alg false false y = refl

    alg' : (a x m y : Bool) → (a || ((m && x) || y)) ≡ ((m && x) || (a || y))
    alg' true true true y = refl
    alg' true true false y = refl
    alg' true false true y = refl
    alg' true false false y = refl
    alg' false x m y = refl

    go : (t x m y : Bool) → key p (size c) i ≡ t → (pick t x (look F c p) || ((m && x) || y)) ≡ (((t || m) && x) || (look F c p || y))
    go true x m y e = rw (look_beyond F c p (omega (arith, (key_at p (size c) i e).0))) (alg x m y)
    go false x m y e = alg' (look F c p) x m y

any_nil : (F : Instr → Bool) (l : List ℕ) → any_l (look F []) l ≡ false
unfolding any_l look
any_nil F [] = refl
any_nil F (p ∷ l) = any_nil F l

pub any_all : (ℓ : ℕ) (F : Instr → Bool) (c : Code) (l : List ℕ) → ((p : ℕ) → p < size c → mem p l ≡ is_l ℓ c p) → any_l (look F c) l ≡ any (λ i. is_lab ℓ i && F i) c
unfolding any
any_all ℓ F [] l h = any_nil F l
any_all ℓ F (i ∷ c) l h = any_cons F i c l ∙ rw (here_lab ℓ l i c h, any_all ℓ F c l (below_lab ℓ l i c h)) refl

-- ---- the words

abbrev nv : Instr → Bool
nv (pl w) = true
nv (br c t) = not (is_set c)

-- whether the Jmp at p has no value
abbrev free : List ℕ → ℕ → Bool
free ws p = not (keeps_value ws (suc p))

need_is : (t b : Bool) → elim t [ true ↦ b | false ↦ true ] ≡ (not t || b)
need_is true b = refl
need_is false b = refl

need_chain : (k : ℕ) (ws : List ℕ) (h : ℕ) (l : List ℕ) → Chain ws h l → length l ≤ k → need_value k ws h ≡ any_l (free ws) l
unfolding need_value any_l
need_chain zero ws h [] c z = refl
need_chain zero ws h (p ∷ l) c z = absurd (omega arith)
need_chain (suc k) ws h [] c z = rw c refl
need_chain (suc k) ws h (p ∷ l) c z =
    ap (need_value (suc k) ws) c.0 ∙ need_is (keeps_value ws (suc p)) (need_value k ws (next ws p)) ∙ rw (need_chain k ws (next ws p) l c.3 (omega arith)) refl

module _ (K : Coding) (ws : List ℕ) where
  need_i : (p n : ℕ) (i : Instr) → pend i ≡ true → p ≡ tail i + n → ((q : ℕ) → suc q ≡ n → is_test (word ws q) ≡ false) → EncI K ws n i → free ws p ≡ nv i
  need_i p n (pl w) z e f h = bool_clash true refl (sym z)
  need_i p n (br c (to q)) z e f h = bool_clash true refl (sym z)
  need_i p n (br always (lbl ℓ)) z e f h = rw (ctl_alone ws p (λ q y. f q (omega arith)), e, jmp_sets_none (word ws (0 + n)) h.1.0) refl
  need_i p n (br (test b k) (lbl ℓ)) z e f h =
      rw (ctl_pair ws p n (omega arith) (tests (word ws n) Test b 0 (bit k) h.0.0 refl), sets (word ws n) Test b 0 (bit k) false h.0.0 refl) refl
  need_i p n (br (tset b k) (lbl ℓ)) z e f h =
      rw (ctl_pair ws p n (omega arith) (tests (word ws n) TestSet no_reg b (bit k) h.0.0 refl), sets (word ws n) TestSet no_reg b (bit k) true h.0.0 refl) refl
  need_i p n (br (tseta a b k) (lbl ℓ)) z e f h = absurd h.1.1
  need_i p n (br (cmp o k x y) (lbl ℓ)) z e f h =
      rw (ctl_pair ws p n (omega arith) (tests (word ws n) (comparison o) (bit k) h.0.0 h.0.1 h.0.2 (comparison_tests o)), sets (word ws n) (comparison o) (bit k) h.0.0 h.0.1 false h.0.2 (comparison_keeps_none o)) refl

  need_at : (p : ℕ) (c : Code) → Enc K ws c → is_p c p ≡ true → free ws p ≡ look nv c p
  unfolding look
  need_at p [] h k = bool_clash true refl (sym k)
  need_at p (i ∷ c) h k = go (key p (size c) i) refl k (need_at p c h.1)
    where
      go : (t : Bool) → key p (size c) i ≡ t → pick t (pend i) (is_p c p) ≡ true → (is_p c p ≡ true → free ws p ≡ look nv c p) → free ws p ≡ pick t (nv i) (look nv c p)
      go true e z r = need_i p (size c) i z (key_at p (size c) i e).0 (prev_word K ws c h.1) h.0
      go false e z r = r z

module _ {K : Coding} {cap : ℕ} {ws : List ℕ} {H : ℕ → ℕ} {c : Code} (r : Rep K cap ws H c) (ℓ : ℕ) where
  -- `need_value` of a list
  rep_need : need_value (length ws) ws (H ℓ) ≡ any (λ i. is_lab ℓ i && nv i) c
  rep_need = need_chain (length ws) ws (H ℓ) (r.thr ℓ).at (r.thr ℓ).chain (fuel r ℓ)
      ∙ any_l_ext (free ws) (look nv c) (r.thr ℓ).at (λ p m. need_at K ws p c r.enc (look_imp (is_lab ℓ) pend (lab_pend ℓ) c p (sym ((r.thr ℓ).is p) ∙ m)))
      ∙ any_all ℓ nv c (r.thr ℓ).at (λ p q. (r.thr ℓ).is p)

  -- a head is there where a pending jump is
  any_chain : (h : ℕ) (l : List ℕ) → Chain ws h l → ((p : ℕ) → mem p l ≡ true → look (λ i. true) c p ≡ true) → any_l (look (λ i. true) c) l ≡ not (same h 0)
  unfolding any_l
  any_chain h [] k g = rw (k, same_refl 0) refl
  any_chain h (p ∷ l) k g = rw (g p (rw (same_refl p) refl), same_ne h 0 (λ e. omega (arith, k.0))) refl

  rep_has : not (same (H ℓ) 0) ≡ any (λ i. is_lab ℓ i && true) c
  rep_has = sym (any_chain (H ℓ) (r.thr ℓ).at (r.thr ℓ).chain (λ p m. look_imp (is_lab ℓ) (λ i. true) (λ i e. refl) c p (sym ((r.thr ℓ).is p) ∙ m))) ∙ any_all ℓ (λ i. true) c (r.thr ℓ).at (λ p q. (r.thr ℓ).is p)

-- ---- two lists

alg : (a b x m n : Bool) → (((a || b) && x) || (m || n)) ≡ (((a && x) || m) || ((b && x) || n))
alg true true true m n = refl
alg true false true m n = refl
alg false true true true n = refl
alg false true true false n = refl
alg false false true true n = refl
alg false false true false n = refl
alg true true false true n = refl
alg true true false false n = refl
alg true false false true n = refl
alg true false false false n = refl
alg false true false true n = refl
alg false true false false n = refl
alg false false false true n = refl
alg false false false false n = refl

hit1_true : (t f : ℕ) (i : Instr) → hit1 true t f i ≡ ((is_lab t i || is_lab f i) && nv i)
hit1_true t f (pl w) = refl
hit1_true t f (br k (to p)) = refl
hit1_true t f (br k (lbl m)) = refl

hit1_false : (t f : ℕ) (i : Instr) → hit1 false t f i ≡ ((is_lab t i || is_lab f i) && true)
hit1_false t f (pl w) = refl
hit1_false t f (br k (to p)) = refl
hit1_false t f (br k (lbl m)) = refl

hit_true : (t f : ℕ) (c : Code) → hit true t f c ≡ (any (λ i. is_lab t i && nv i) c || any (λ i. is_lab f i && nv i) c)
unfolding hit any
hit_true t f [] = refl
hit_true t f (i ∷ c) = rw (hit1_true t f i, hit_true t f c) (alg (is_lab t i) (is_lab f i) (nv i) (any (λ i. is_lab t i && nv i) c) (any (λ i. is_lab f i && nv i) c))

hit_false : (t f : ℕ) (c : Code) → hit false t f c ≡ (any (λ i. is_lab t i && true) c || any (λ i. is_lab f i && true) c)
unfolding hit any
hit_false t f [] = refl
hit_false t f (i ∷ c) = rw (hit1_false t f i, hit_false t f c) (alg (is_lab t i) (is_lab f i) true (any (λ i. is_lab t i && true) c) (any (λ i. is_lab f i && true) c))

module _ {K : Coding} {cap : ℕ} {ws : List ℕ} {H : ℕ → ℕ} {c : Code} (r : Rep K cap ws H c) (t f : ℕ) where
  -- need_value(e.t) || need_value(e.f)
  pub need_hit : (need_value (length ws) ws (H t) || need_value (length ws) ws (H f)) ≡ hit true t f c
  need_hit = rw (rep_need r t, rep_need r f) (sym (hit_true t f c))

  head_in : (h : ℕ) (l : List ℕ) (p : ℕ) → Chain ws h l → h ≡ suc p → mem p l ≡ true
  head_in h [] p k e = absurd (omega arith)
  head_in h (q ∷ l) p k e = let z : p ≡ q = omega (arith, k.0) in rw (z, same_refl q) refl

  -- some list of the two
  pub some_hit : (not (same (H t) 0) || not (same (H f) 0)) ≡ hit false t f c
  some_hit = rw (rep_has r t, rep_has r f) (sym (hit_false t f c))

  -- e.t != e.f
  pub has_hit : (t ≡ f → ⊥) → not (same (H t) (H f)) ≡ hit false t f c
  has_hit ne = go (H t) (H f) refl refl ∙ some_hit
    where
      go : (a b : ℕ) → H t ≡ a → H f ≡ b → not (same (H t) (H f)) ≡ (not (same (H t) 0) || not (same (H f) 0))
      go zero zero p q = rw (p, q, same_refl 0) refl
      go zero (suc b) p q = rw (p, q, same_ne 0 (suc b) (λ e. omega arith), same_refl 0, same_ne (suc b) 0 (λ e. omega arith)) refl
      go (suc a) zero p q = rw (p, q, same_ne (suc a) 0 (λ e. omega arith)) refl
      go (suc a) (suc b) p q = rw (same_ne (H t) (H f) apart, same_ne (H t) 0 (λ e. omega arith)) refl
        where
          apart : H t ≡ H f → ⊥
          apart e = bool_clash (is_l f c a) (sym ((r.thr f).is a) ∙ head_in (H f) (r.thr f).at a (r.thr f).chain (sym e ∙ p))
              (look_apart (is_lab t) (is_lab f) (lab_apart t f ne) c a (sym ((r.thr t).is a) ∙ head_in (H t) (r.thr t).at a (r.thr t).chain p))

  -- `has_jumps`
  pub has_jumps_hit : (t ≡ f → ⊥) → not (eqb (H t) (H f)) ≡ hit false t f c
  unfolding same
  has_jumps_hit ne = has_hit ne
