-- `code_comp` stands for `cmp_join`: the left operand goes to RK first, unless it is a far numeral, and both sides look for it in the same table. The comparison and its jump, of a label that is new, are held.
use Prim.Native.Nat.{ℕ, suc, ◌+◌, ◌-◌, ◌≤◌}
use Rattle.std.specs.Prelude.{Bool, not, ◌&&◌, ◌≡◌, leb}
use Rattle.std.proofs.Math.Bool.{true, false}
use Rattle.std.proofs.Math.Path.{refl, sym, ap}
use Rattle.std.proofs.Common.{◌∙◌, subst, arith}
use mathlib.Core.List.{List, [], ◌∷◌}
use Rattle.std.proofs.Math.Option.{Option, some, none}
use Rattle.instructions.specs.Limits.{max_index_rk, bit_rk}
use Rattle.instructions.specs.Word.{abc_of}
use Rattle.constants.specs.Entry.{Constant, nil, truth, number, text, holds, constant_of}
use Rattle.constants.specs.Table.{find}
use Rattle.constants.specs.Distinct.{Short}
use Rattle.constants.specs.declared.Val.{Val}
use Rattle.constants.specs.declared.Val.TheVariants as val
use Rattle.model.specs.Values.{StepKind, value_of}
use Rattle.model.specs.declared.ExprKind.TheVariants as kind
use Rattle.model.specs.declared.ExprContext.{ExprContext}
use Rattle.model.specs.declared.State.{State}
use Rattle.model.specs.Descriptor.{with_kind, with_jumps, is_numeral, has_jumps}
use Rattle.model.specs.Steps.{Buffers, Result, done, refused, Step, and_then, ◌>>=◌, ◌>>◌, return}
use Rattle.model.specs.Conditions.{bit}
use Rattle.model.specs.Emission.{with_free, emit, emit_jump, add_constant}
use Rattle.model.specs.Discharge.{discharge_kind, discharge_vars, exp2anyreg, exp2val, exp2rk, near, rk_kind, rk}
use Rattle.model.specs.Operators.{is_far, far_numeral, compare_operands, either, emit_comp, code_comp}
use Rattle.labelled.specs.Code.{same_refl, same_ne, Rk, con, cmp, lbl, br, Code, size, edit}
use Rattle.labelled.specs.Edits.{size_edit}
use Rattle.labelled.specs.Machine.{pick}
use Rattle.labelled.specs.Table.{place, include, is_near}
use Rattle.labelled.specs.Places.{Grows, grows_include, listed_include, place_include, near_place, place_grows, listed_grows}
use Rattle.labelled.specs.Emission.{St, add_k, flush, push, here}
use Rattle.labelled.specs.Fresh.{On, New4, rk_on, late_of_on, dv_new}
use Rattle.labelled.specs.Discharge.{kc, kr, kx, kj, K, kd, kl, kg, ki, kcl, kva, Pair, Par4, RkS, fresh, add_p, dv_s, dv, exp2rk as exp2rk_l}
use Rattle.labelled.specs.Operators.{late_of, right_first, left_if, left_first, kcmp, cmp_join}
use Rattle.labelled.specs.Sound.{OkK, k4_grow, rk_grow}
use Rattle.threads.specs.Encoding.{comparison, Compares}
use Rattle.threads.specs.Represents.{set_h}
use Rattle.threads.specs.Holding.{Ends, gives, ends_then, ends_map, with_code}
use Rattle.threads.specs.Coded.{CodesRk, more_rk}
use Rattle.simulation.specs.Tabled.{Tabled}
use Rattle.simulation.specs.Sim.{Env, Sim, Is, SimD, Operand, Sound}
use Rattle.simulation.specs.Steps.{sim_pair}
use Rattle.simulation.specs.Absent.{under_list}
use Rattle.simulation.specs.Registers.{chosen, sim_fewer}
use Rattle.simulation.specs.Adding.{Adds, add_moves, far_is}
use Rattle.simulation.specs.Discharging.{dv_tab}
use Rattle.simulation.specs.Loading.{then_done}
use Rattle.simulation.specs.ToRegister.{then_assoc}
use Rattle.simulation.specs.Operands.{operand_stays}
use Rattle.simulation.specs.Freeing.{Takes, constant}
use Rattle.simulation.specs.Late.{Numeral}
use Rattle.simulation.specs.Sides.{Left, numeral_true}
use Rattle.simulation.specs.Arithmetic.{operand_codes, LeftTakes, left_num, Both, both_right_first}

-- ---- a constant added beside a descriptor

abbrev pub add_d : Constant → Pair → Pair
add_d c p = record { st = add_k c p.st; de = p.de }

-- adding it before or behind `discharge_vars` is the same
dv_s_add : (c : Constant) (k : K) (s : St) → dv_s k (add_k c s) ≡ add_k c (dv_s k s)
unfolding dv_s flush push
dv_s_add c (kd k) s = refl
dv_s_add c (kl r) s = refl
dv_s_add c (kg g) s = refl
dv_s_add c (ki f t x) s = refl
dv_s_add c (kcl u) s = refl
dv_s_add c kva s = refl

dv_add : (c : Constant) (p : Pair) → dv (add_d c p) ≡ add_p c (dv p)
dv_add c p = ap (λ (s : St). record { st = s; de = (dv p).de }) (dv_s_add c p.de.kind p.st)

tabled_is : (Γ : Env) (s : State) (m : Buffers) (H : ℕ → ℕ) (e : ExprContext) (σ : St) (k : K) → Is Γ s m H e σ k → Tabled σ.tab s.table m.kinds m.values m.pool
tabled_is Γ s m H e σ (kd (kc nil)) h = h.1.table
tabled_is Γ s m H e σ (kd (kc (truth b))) h = h.1.table
tabled_is Γ s m H e σ (kd (kc (number x))) h = h.1.table
tabled_is Γ s m H e σ (kd (kc (text x))) h = h.1.table
tabled_is Γ s m H e σ (kd (kr u r)) h = h.1.1.1.table
tabled_is Γ s m H e σ (kd (kx x)) h = h.1.1.1.table
tabled_is Γ s m H e σ (kd (kj o c x y)) h = h.1.1.1.1.1.1.table
tabled_is Γ s m H e σ (kl r) h = h.1.1.1.table
tabled_is Γ s m H e σ (kg g) h = h.1.1.1.table
tabled_is Γ s m H e σ (ki f r x) h = h.1.1.1.1.1.table
tabled_is Γ s m H e σ (kcl u) h = h.1.1.1.table
tabled_is Γ s m H e σ kva h = h.1.1.1.1.table

module _ (Γ : Env) (s s' : State) (m m' : Buffers) (H : ℕ → ℕ) (e : ExprContext) (σ : St) (c : Constant) (φ : s'.frame ≡ s.frame) (w : m'.code ≡ m.code) (v : Adds Γ s m σ.tab c s' m') where
  here_on : (d : Code) (f : ℕ) → Sim Γ s m H d f σ.tab → Sim Γ s' m' H d f (include c σ.tab)
  here_on d f x = subst (λ us. Sim Γ s' (with_code us m') H d f (include c σ.tab)) (sym w) (v H d f m.code x)

  add_is : (k : K) → Is Γ s m H e σ k → Is Γ s' m' H e (add_k c σ) k
  add_is (kd (kc nil)) h = (h.0, here_on _ _ h.1)
  add_is (kd (kc (truth true))) h = (h.0, here_on _ _ h.1)
  add_is (kd (kc (truth false))) h = (h.0, here_on _ _ h.1)
  add_is (kd (kc (number x))) h = (h.0, here_on _ _ h.1)
  add_is (kd (kc (text x))) h = ((h.0.0, (h.0.1.0 ∙ sym (place_grows (text x) σ.tab (include c σ.tab) (grows_include c σ.tab) h.0.1.1), listed_grows (text x) σ.tab (include c σ.tab) (grows_include c σ.tab) h.0.1.1)), here_on _ _ h.1)
  add_is (kd (kr u r)) h = (h.0, (h.1.0, (rw φ h.1.1.0, here_on _ _ h.1.1.1)))
  add_is (kd (kx x)) h = (h.0, (h.1.0, (h.1.1.0, here_on _ _ h.1.1.1)))
  add_is (kd (kj o d x y)) h = (h.0, (h.1.0, (h.1.1.0, (h.1.1.1.0, (h.1.1.1.1.0, (h.1.1.1.1.1.0, here_on _ _ h.1.1.1.1.1.1))))))
  add_is (kl r) h = (h.0, (h.1.0, (rw φ h.1.1.0, here_on _ _ h.1.1.1)))
  add_is (kg g) h = (h.0, (h.1.0 ∙ sym (place_grows (text g) σ.tab (include c σ.tab) (grows_include c σ.tab) h.1.1.0), (listed_grows (text g) σ.tab (include c σ.tab) (grows_include c σ.tab) h.1.1.0, here_on _ _ h.1.1.1)))
  add_is (ki f r x) h = (h.0, (h.1.0, (rw φ h.1.1.0, (more_rk σ.tab (include c σ.tab) s.frame s'.frame (grows_include c σ.tab) (omega (arith, φ)) x e.aux h.1.1.1.0, (h.1.1.1.1.0, here_on _ _ h.1.1.1.1.1)))))
  add_is (kcl u) h = (h.0, (h.1.0, (h.1.1.0, here_on _ _ h.1.1.1)))
  add_is kva h = (h.0, (h.1.0, (h.1.1.0, (rw w h.1.1.1.0, rw w (v H _ _ _ h.1.1.1.1)))))

pub sim_add_d : {Γ : Env} {s : State} {m : Buffers} {e : ExprContext} (p : Pair) (v : Val) → Short [] v → SimD Γ s m e p →
    Ends (add_constant [] v s m) (λ i s' m'. (i ≡ place (constant_of [] v) p.st.tab) × ((s'.frame ≡ s.frame) × SimD Γ s' m' e (add_d (constant_of [] v) p)))
sim_add_d {Γ = Γ} {s = s} {m = m} {e = e} p v short d = ends_map (add_moves Γ s m (tabled_is Γ s m d.heads e p.st p.de.kind d.is) [] v short) (λ i s' m' q.
    (q.0, (q.1.0, record { heads = d.heads; is = add_is Γ s s' m m' d.heads e p.st (constant_of [] v) q.1.0 q.1.1.0 q.1.1.1 p.de.kind d.is; trues = d.trues; falses = d.falses })))

-- ---- the comparison and its jump

-- two steps, and what comes behind both
ends_assoc : {A B D : Type 0} (x : Step A) (y : Step B) (k : B → Step D) (s : State) (m : Buffers) {P : B → State → Buffers → Type 0} {Q : D → State → Buffers → Type 0} → Ends ((x >> y) s m) P → ((b : B) (s' : State) (m' : Buffers) → P b s' m' → Ends (k b s' m') Q) → Ends ((x >> (y >>= k)) s m) Q
ends_assoc x y k s m h g = rw (then_assoc (x s m) (λ _. y) k) (ends_then h g)

-- the operands in the word's order
abbrev side_r : Bool → Rk → Rk → Rk
side_r true x y = y
side_r false x y = x

kcmp_is : (swapped : Bool) (o : StepKind) (c : Bool) (x y : Rk) → kcmp swapped o c x y ≡ kj o c (side_r swapped x y) (side_r swapped y x)
kcmp_is true o c x y = refl
kcmp_is false o c x y = refl

side_codes : (swapped : Bool) (s : State) (b c : ExprContext) (σ : St) (x y : Rk) → Operand s b σ x → Operand s c σ y → CodesRk σ.tab s.frame (side_r swapped x y) (either swapped (rk b) (rk c))
side_codes true s b c σ x y p q = operand_codes s c σ y q
side_codes false s b c σ x y p q = operand_codes s b σ x p

module _ (Γ : Env) (o : StepKind) (cmps : Compares o) (cond swapped : Bool) (f : ℕ) (pos : 1 ≤ Γ.n) where
  compared : (s : State) (m : Buffers) (b c : ExprContext) (σ : St) (x y : Rk) → On Γ.n σ → Both Γ s m b c σ x y f → Ends (emit_comp (comparison o) cond swapped b c s m) (λ e' s' m'. SimD Γ s' m' e' (fresh (kd (kcmp swapped o cond x y)) f (flush σ)))
  unfolding emit_comp flush fresh
  compared s m b c σ x y on w = rw (w.freed, then_done {A = Unit {0}} tt (with_free f s) m _, kcmp_is swapped o cond x y)
      (ends_assoc (emit (abc_of (comparison o) (bit cond) u v)) emit_jump (λ list. return (with_jumps 0 0 (with_kind kind.Jmp (list - 1) b))) (with_free f s) m (sim_pair (sim_fewer w.now.sim f w.fewer) (cmp o cond X Y) J (abc_of (comparison o) (bit cond) u v) refl tt
      (λ us z. (u, v, z, cmps, side_codes swapped s b c σ x y w.left w.right, side_codes swapped s c b σ y x w.right w.left)) tt (omega (arith, on.up)) (omega (arith, on.up)) (under_list w.now.sim σ.nxt J (omega arith) on.old))
      (λ list s' m' q. gives _ s' m' refl (standing s' m' list q.0 q.1.1)))
    where
      J : ℕ
      J = 2 + σ.nxt

      X : Rk
      X = side_r swapped x y

      Y : Rk
      Y = side_r swapped y x

      u : ℕ
      u = either swapped (rk b) (rk c)

      v : ℕ
      v = either swapped (rk c) (rk b)

      H : ℕ → ℕ
      H = w.now.heads

      G : ℕ → ℕ
      G = set_h J (suc (1 + size σ.code)) (set_h 0 0 H)

      unused : (ℓ : ℕ) → σ.nxt ≤ ℓ → (ℓ ≡ J → ⊥) → G ℓ ≡ 0
      unused ℓ l z = rw (same_ne ℓ J z, same_ne ℓ 0 (λ z. omega (arith, on.up))) (under_list w.now.sim σ.nxt ℓ l on.old)

      standing : (s' : State) (m' : Buffers) (list : ℕ) → list ≡ suc (1 + size σ.code) → Sim Γ s' m' G (br (cmp o cond X Y) (lbl J) ∷ edit (here σ.code) σ.code) f σ.tab → SimD Γ s' m' (with_jumps 0 0 (with_kind kind.Jmp (list - 1) b)) (fresh (kd (kj o cond X Y)) f (flush σ))
      standing s' m' list z y = record {
        heads = G;
        is = (refl, (omega (arith, z, size_edit (here σ.code) σ.code), (rw (same_ne 0 J (λ z. omega arith), same_refl 0) refl, (J, (omega arith, (rw (same_refl J) (omega (arith, z)), y))))));
        trues = sym (unused σ.nxt (omega arith) (λ z. omega arith));
        falses = sym (unused (1 + σ.nxt) (omega arith) (λ z. omega arith));
      }

-- ---- the operands, the left one first

then_ext : {A B : Type 0} (x : Result A) (f g : A → Step B) → ((a : A) (s : State) (m : Buffers) → f a s m ≡ g a s m) → and_then x f ≡ and_then x g
unfolding and_then
then_ext (done a s m) f g h = h a s m
then_ext (refused k m) f g h = refl

-- `exp2rk` of a numeral
numeral_rk : (e : ExprContext) (b : ℕ) (s : State) (m : Buffers) → Numeral e b → exp2rk e s m ≡ and_then (add_constant [] (val.Num e.nval e.bits) s m) (near e)
unfolding exp2rk exp2val rk_kind discharge_kind
numeral_rk e b s m n = ap (λ x. and_then x (λ e₁. rk_kind e₁.kind e₁)) (chosen (has_jumps e) (exp2anyreg e) (discharge_vars e) s m ∙ plain ∙ ap (λ z. discharge_kind z e s m) n.kind) ∙ then_done e s m (λ e₁. rk_kind e₁.kind e₁) ∙ ap (λ z. rk_kind z e s m) n.kind
  where
    plain : pick (has_jumps e) (exp2anyreg e s m) (discharge_vars e s m) ≡ discharge_vars e s m
    plain = rw (n.trues, n.falses) refl

near_stays : (e : ExprContext) (i : ℕ) (s : State) (m : Buffers) → leb i max_index_rk ≡ true → near e i s m ≡ done (with_kind kind.K i e) s m
unfolding near
near_stays e i s m z = chosen (leb i max_index_rk) (return (with_kind kind.K i e)) (exp2anyreg e) s m ∙ rw z refl

module _ (Γ : Env) (s : State) (m : Buffers) (e₁ e₂ : ExprContext) (f g : ℕ) (p : Pair) (h : Sound Γ g p) (la : Γ.active ≤ f) (rest : ExprContext → ExprContext → Step ExprContext) (Q : ExprContext → State → Buffers → Type 0) where
  -- it is an operand already
  operand_first : (x : RkS) → SimD Γ s m e₂ p → Left s e₁ none x p.st → Takes Γ.active f g x.rkv →
      ((b c : ExprContext) (s₄ : State) (m₄ : Buffers) → Both Γ s₄ m₄ b c (exp2rk_l (dv p)).st x.rkv (exp2rk_l (dv p)).rkv f → Ends (rest b c s₄ m₄) Q) → Ends ((exp2rk e₂ >>= (λ c. rest e₁ c)) s m) Q
  operand_first x d l k go = rw (then_ext (exp2rk e₂ s m) (λ c. rest e₁ c) (λ c. exp2rk e₁ >>= (λ b. rest b c)) (λ c s₃ m₃. sym (ap (λ z. and_then z (λ b. rest b c)) (operand_stays e₁ s s₃ m₃ p.st x.rkv l.0 l.1.0 l.1.1) ∙ then_done e₁ s₃ m₃ (λ b. rest b c))))
      (both_right_first Γ s m e₁ e₂ f g none x p h d l k la rest Q go)

k_grow : (t u : List Constant) → Grows t u → (k : K) → OkK t k → OkK u k
k_grow t u g (kd k) h = k4_grow t u g k h
k_grow t u g (kl r) h = tt
k_grow t u g (kg x) h = listed_grows (text x) t u g h
k_grow t u g (ki f r x) h = rk_grow t u g x h
k_grow t u g (kcl c) h = h
k_grow t u g kva h = tt

pub sound_add : {Γ : Env} {f : ℕ} (c : Constant) (p : Pair) → Sound Γ f p → Sound Γ f (add_d c p)
sound_add c p h = record { own = h.own; new = record { on = record { up = h.new.on.up; old = h.new.on.old }; tl_new = h.new.tl_new; tl_old = h.new.tl_old; fl_new = h.new.fl_new; fl_old = h.new.fl_old }; ok = k_grow p.st.tab (include c p.st.tab) (grows_include c p.st.tab) p.de.kind h.ok; differ = h.differ; some = h.some; locals = h.locals }

-- ---- `code_comp`

module _ (Γ : Env) (s : State) (m : Buffers) (e₁ e₂ : ExprContext) (f g : ℕ) (n : Option ℕ) (x : RkS) (p : Pair) (h : Sound Γ g p) (d : SimD Γ s m e₂ p) (l : Left s e₁ n x p.st) (k : LeftTakes Γ.active f g n x) (la : Γ.active ≤ f) (named : (b : ℕ) → n ≡ some b → x.rkv ≡ con (value_of (number b)))
    (o : StepKind) (cmps : Compares o) (cond swapped : Bool) where
  abbrev F : ExprContext → ExprContext → Step ExprContext
  F = emit_comp (comparison o) cond swapped

  abbrev EndsIn : St → Rk → Rk → ExprContext → State → Buffers → Type 0
  EndsIn σ a b e' s' m' = SimD Γ s' m' e' (fresh (kd (kcmp swapped o cond a b)) f (flush σ))

  comp_is : code_comp (comparison o) cond swapped e₁ e₂ s m ≡ compare_operands (is_numeral e₁ && is_far (find (holds m.pool [] (val.Num e₁.nval e₁.bits)) s.table.count m.kinds m.values) s.table.count) e₁ e₂ F s m
  unfolding code_comp far_numeral and_then
  comp_is = refl

  new : New4 Γ.n (dv p)
  new = dv_new Γ.n h.some p h.new

  -- no numeral
  plain : Left s e₁ none x p.st → Takes Γ.active f g x.rkv → Ends (code_comp (comparison o) cond swapped e₁ e₂ s m) (λ e' s' m'. EndsIn (exp2rk_l (dv p)).st x.rkv (exp2rk_l (dv p)).rkv e' s' m')
  unfolding compare_operands
  plain l k = rw (comp_is, left_num s e₁ none x p.st l, operand_stays e₁ s s m p.st x.rkv l.0 l.1.0 l.1.1, then_done e₁ s m (λ b. exp2rk e₂ >>= (λ c. F b c)))
      (operand_first Γ s m e₁ e₂ f g p h la F _ x d l k (λ b c s₄ m₄ w. compared Γ o cmps cond swapped f h.some s₄ m₄ b c (exp2rk_l (dv p)).st x.rkv (exp2rk_l (dv p)).rkv (rk_on Γ.n h.some (dv p) new) w))

  module _ (b : ℕ) (num : Numeral e₁ b) (z : g ≡ f) where
    far_test : (is_numeral e₁ && is_far (find (holds m.pool [] (val.Num e₁.nval e₁.bits)) s.table.count m.kinds m.values) s.table.count) ≡ not (is_near (number b) p.st.tab)
    far_test = rw (numeral_true e₁ b num) (far_is (tabled_is Γ s m d.heads e₂ p.st p.de.kind d.is) [] (val.Num e₁.nval e₁.bits) ∙ ap (λ i. not (is_near (number i) p.st.tab)) num.bits)

    -- a far one: the right operand first
    far_one : is_near (number b) p.st.tab ≡ false → Ends (code_comp (comparison o) cond swapped e₁ e₂ s m) (λ e' s' m'. EndsIn (late_of (some b) x (exp2rk_l (dv p)).st).st (late_of (some b) x (exp2rk_l (dv p)).st).rkv (exp2rk_l (dv p)).rkv e' s' m')
    unfolding compare_operands
    far_one t = rw (comp_is, far_test, t) (both_right_first Γ s m e₁ e₂ f g (some b) x p h d num z la F _ (λ b' c s₄ m₄ w. compared Γ o cmps cond swapped f h.some s₄ m₄ b' c _ _ _ (late_of_on Γ.n h.some (some b) x (exp2rk_l (dv p)).st (rk_on Γ.n h.some (dv p) new)) w))

  abbrev Near : ℕ → Par4 → ExprContext → State → Buffers → Type 0
  Near b q e' s' m' = EndsIn (exp2rk_l q).st (con (value_of (number b))) (exp2rk_l q).rkv e' s' m'

  -- a near one: listed now, and named
  near_bits : Numeral e₁ e₁.bits → g ≡ f → is_near (number e₁.bits) p.st.tab ≡ true → Ends (code_comp (comparison o) cond swapped e₁ e₂ s m) (λ e' s' m'. Near e₁.bits (dv (add_d (number e₁.bits) p)) e' s' m')
  unfolding compare_operands is_near
  near_bits num z t = rw (comp_is, far_test e₁.bits num z, t, numeral_rk e₁ e₁.bits s m num, ← (then_assoc (add_constant [] (val.Num e₁.nval e₁.bits) s m) (near e₁) (λ b. exp2rk e₂ >>= (λ c. F b c))))
      (ends_then (sim_add_d p (val.Num e₁.nval e₁.bits) tt d) (λ i s₁ m₁ q. rw (near_stays e₁ i s₁ m₁ (rw q.0 t), then_done (with_kind kind.K i e₁) s₁ m₁ (λ b. exp2rk e₂ >>= (λ c. F b c)))
      (operand_first Γ s₁ m₁ (with_kind kind.K i e₁) e₂ f g (add_d c p) (sound_add c p h) la F _ X q.1.1
      ((refl, (c, (refl, (listed_include c p.st.tab, (rw (place_include c p.st.tab) (near_place c p.st.tab t), ap (λ j. j + bit_rk) (q.0 ∙ sym (place_include c p.st.tab))))))), (num.trues, num.falses)) (constant z)
      (λ b c' s₄ m₄ w. compared Γ o cmps cond swapped f h.some s₄ m₄ b c' _ _ _ (rk_on Γ.n h.some (dv (add_d c p)) (dv_new Γ.n h.some (add_d c p) (sound_add c p h).new)) w))))
    where
      c : Constant
      c = number e₁.bits

      X : RkS
      X = record { st = p.st; rkv = con (value_of c) }

  near_one : (b : ℕ) → Numeral e₁ b → g ≡ f → is_near (number b) p.st.tab ≡ true → Ends (code_comp (comparison o) cond swapped e₁ e₂ s m) (λ e' s' m'. Near b (add_p (number b) (dv p)) e' s' m')
  near_one b num z t = subst (λ q. Ends (code_comp (comparison o) cond swapped e₁ e₂ s m) (λ e' s' m'. Near b q e' s' m')) (dv_add (number b) p)
      (subst (λ b. Numeral e₁ b → is_near (number b) p.st.tab ≡ true → Ends (code_comp (comparison o) cond swapped e₁ e₂ s m) (λ e' s' m'. Near b (dv (add_d (number b) p)) e' s' m')) num.bits (λ n y. near_bits n z y) num t)

  pub sim_comp : Ends (code_comp (comparison o) cond swapped e₁ e₂ s m) (λ e' s' m'. SimD Γ s' m' e' (cmp_join o cond swapped f n x (dv p)))
  unfolding cmp_join left_first right_first
  sim_comp = go n l k named
    where
      go : (n : Option ℕ) → Left s e₁ n x p.st → LeftTakes Γ.active f g n x → ((b : ℕ) → n ≡ some b → x.rkv ≡ con (value_of (number b))) → Ends (code_comp (comparison o) cond swapped e₁ e₂ s m) (λ e' s' m'. SimD Γ s' m' e' (cmp_join o cond swapped f n x (dv p)))
      go none l k named = plain l k
      go (some b) num z named = near? (is_near (number b) (dv p).st.tab) (ap (is_near (number b)) (sym (dv_tab p.de.kind p.st)))
        where
          near? : (t : Bool) → is_near (number b) p.st.tab ≡ t → Ends (code_comp (comparison o) cond swapped e₁ e₂ s m) (λ e' s' m'. EndsIn (left_if t b x (dv p)).st (left_if t b x (dv p)).lft (left_if t b x (dv p)).rgt e' s' m')
          near? true t = rw (named b refl) (near_one b num z t)
          near? false t = far_one b num z t
