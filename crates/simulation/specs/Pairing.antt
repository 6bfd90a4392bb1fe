-- A node with two sub-expressions: what `infix` does with the left one, the right one, and what `postfix` makes of both, stand for the five forms of `comp_two`. While the right one is lowered, what is known of the left one stays.
use Rattle.std.specs.Prelude.{ℕ, suc, ◌≤◌, Bool, ◌≡◌, List, length}
use Rattle.std.proofs.Math.Bool.{true, false}
use Rattle.std.proofs.Math.Path.{refl}
use Rattle.std.proofs.Common.{ap, ◌∙◌, subst, arith}
use Rattle.std.proofs.Math.Option.{Option, some, none}
use Rattle.folding.specs.declared.Arith.{Arith}
use Rattle.folding.specs.declared.Arith.TheVariants as ar
use Rattle.ast.specs.declared.BinOp.TheVariants as bin
use Rattle.ast.specs.declared.Two.{Two}
use Rattle.ast.specs.declared.Two.TheVariants as two
use Rattle.chunk.specs.declared.header.Header.{Header}
use Rattle.constants.specs.Entry.{number}
use Rattle.cursor.specs.declared.Text.{Text}
use Rattle.chunk.specs.Ast.{Expr}
use Rattle.model.specs.Values.{StepKind, equal, less, less_or_equal, value_of}
use Rattle.model.specs.declared.ExprContext.{ExprContext}
use Rattle.model.specs.declared.State.{State}
use Rattle.model.specs.Steps.{Buffers, Step, ◌>>=◌}
use Rattle.model.specs.Conditions.{goiftrue, goiffalse}
use Rattle.model.specs.Discharge.{exp2nextreg, exp2anyreg}
use Rattle.model.specs.Operators.{before_right, after_right, operand, code_arith, code_comp, code_and, code_or, join_concat}
use Rattle.model.specs.Expressions.{between, after_two, set_indexed}
use Rattle.labelled.specs.Code.{reg, con}
use Rattle.labelled.specs.Places.{Grows}
use Rattle.labelled.specs.Emission.{St}
use Rattle.labelled.specs.Fresh.{On, New4, before_on, next_on, any_on, dv_new}
use Rattle.labelled.proofs.Fresh.{go_on}
use Rattle.labelled.specs.Owning.{freed_own}
use Rattle.labelled.proofs.Marks.{marks_plain}
use Rattle.labelled.specs.Branching.{go_if_nxt, go_if_free}
use Rattle.labelled.specs.Conditions.{go_if}
use Rattle.labelled.specs.Discharge.{Pair, RkS, RgS, freed, dv, nextreg, anyreg}
use Rattle.labelled.specs.Operators.{numeral, left_of, logical, joining, arithmetic, comparing, indexing, form_of, comp_two}
use Rattle.labelled.specs.Expressions.{comp}
use Rattle.labelled.specs.Settling.{next_free}
use Rattle.threads.specs.Encoding.{comparison, Compares}
use Rattle.threads.specs.Holding.{Ends, ends_then, ends_map}
use Rattle.threads.specs.Coded.{Binary}
use Rattle.simulation.specs.Sim.{Env, Sim, Sims, SimD, Sound}
use Rattle.simulation.specs.Discharging.{sound_dv}
use Rattle.simulation.specs.ToRegister.{sim_next}
use Rattle.simulation.specs.AnyRegister.{sim_any}
use Rattle.simulation.specs.Deciding.{sim_go_true, sim_go_false}
use Rattle.simulation.specs.Freeing.{Takes, rk_takes, any_takes, takes_more}
use Rattle.simulation.specs.Parts.{at_place, inner, framed, outward_d, inward, raise_s, known_d, operand_more, LowersExpr}
use Rattle.simulation.specs.Sides.{SimL, Left, sim_operand}
use Rattle.simulation.specs.Arithmetic.{LeftTakes, numeral_own, sim_arith}
use Rattle.simulation.specs.Comparing.{sim_comp}
use Rattle.simulation.specs.Joining.{sim_and, sim_or}
use Rattle.simulation.specs.Chaining.{sim_join}
use Rattle.simulation.specs.Indexing.{sim_indexed}
use Rattle.simulation.specs.Trees.{sound_comp, comp_grows}

module _ (chunk : List ℕ) (names : List Text) (f : Step ExprContext) (b : Expr) (a₁ l₁ a₂ l₂ : ℕ) (right : LowersExpr (length names) f (comp chunk names b) a₁ l₁ a₂ l₂) (Γ : Env) (act : Γ.active ≡ length names) where
  abbrev Γ₁ : Env
  Γ₁ = at_place Γ a₁ l₁

  abbrev Γ₂ : Env
  Γ₂ = at_place Γ a₂ l₂

  -- the right one, from a state where the frame is that of s
  rights : (one : 1 ≤ Γ.n) (s : State) (m : Buffers) (σ : St) → On Γ.n σ → length names ≤ σ.free → Sims Γ₁ s m σ → Ends (f s m) (λ e s' m'. (s.frame ≤ s'.frame) × SimD Γ₂ s' m' e (comp chunk names b σ))
  rights one s m σ on l h = ends_map (right (framed Γ s) s m σ act one on l (raise_s h)) (λ e s' m' d.
      ((known_d (comp chunk names b σ) d).least, outward_d Γ₂ s.frame Γ.n Γ.lists h.sim.least (omega arith) (λ ℓ x y. refl) (comp chunk names b σ) d))

  module _ {s : State} {m : Buffers} {e : ExprContext} {fr : ℕ} (p : Pair) (h : Sound Γ₁ fr p) (d : SimD Γ₁ s m e p) where
    new : New4 Γ.n (dv p)
    new = dv_new Γ.n h.some p h.new

    low : length names ≤ fr
    low = omega (arith, h.locals, act)

    -- ---- numerals wait: what is known of the left side

    abbrev n : Option ℕ
    n = numeral (dv p)

    abbrev x : RkS
    x = left_of n (dv p)

    left_now : (n : Option ℕ) (s₁ : State) (m₁ : Buffers) (e₁ : ExprContext) (x : RkS) → SimL Γ₁ s₁ m₁ e₁ n x → Sims Γ₁ s₁ m₁ x.st
    left_now none s₁ m₁ e₁ x y = y.now
    left_now (some v) s₁ m₁ e₁ x y = y.1

    left_more : (n : Option ℕ) (s₁ s₂ : State) (m₁ : Buffers) (e₁ : ExprContext) (x : RkS) (τ : St) → Grows x.st.tab τ.tab → s₁.frame ≤ s₂.frame → SimL Γ₁ s₁ m₁ e₁ n x → Left s₂ e₁ n x τ
    left_more none s₁ s₂ m₁ e₁ x τ g l y = (operand_more s₁ s₂ e₁ x.st τ x.rkv g l y.is, (y.trues, y.falses))
    left_more (some v) s₁ s₂ m₁ e₁ x τ g l y = y.0

    left_takes : (n : Option ℕ) → numeral (dv p) ≡ n → LeftTakes Γ.active fr (left_of n (dv p)).st.free n (left_of n (dv p))
    left_takes none z = rk_takes Γ.active (dv p) fr (sound_dv p h).own
    left_takes (some v) z = numeral_own Γ.active fr (dv p) v z (sound_dv p h).own

    left_up : (n : Option ℕ) → LeftTakes Γ.active fr (left_of n (dv p)).st.free n (left_of n (dv p)) → fr ≤ (left_of n (dv p)).st.free
    left_up none k = takes_more Γ.active fr _ _ k
    left_up (some v) k = omega arith

    left_named : (n : Option ℕ) (v : ℕ) → n ≡ some v → (left_of n (dv p)).rkv ≡ con (value_of (number v))
    left_named none v z = absurd (let y : ◌≡◌ {A = ℕ} 0 1 = cc in omega arith)
    left_named (some w) v z = let y : w ≡ v = cc in rw y refl

    -- both operands, and what comes of them
    module _ {B : Type 0} (join : ExprContext → ExprContext → Step B) (Q : B → State → Buffers → Type 0) where
      with_operand : ((s₂ : State) (m₂ : Buffers) (e₁ e₂ : ExprContext) → Sound Γ₂ x.st.free (comp chunk names b x.st) → SimD Γ₂ s₂ m₂ e₂ (comp chunk names b x.st) → Left s₂ e₁ n x (comp chunk names b x.st).st → LeftTakes Γ.active fr x.st.free n x → Ends (join e₁ e₂ s₂ m₂) Q) →
          Ends ((operand e >>= (λ e₁. f >>= (λ e₂. join e₁ e₂))) s m) Q
      with_operand go = ends_then (sim_operand p h d) (λ e₁ s₁ m₁ y.
          let k = left_takes n refl in
          let on : On Γ.n x.st = before_on Γ.n h.some n (dv p) new in
          let l : length names ≤ x.st.free = omega (arith, low, left_up n k) in
          ends_then (rights h.some s₁ m₁ x.st on l (left_now n s₁ m₁ e₁ x y)) (λ e₂ s₂ m₂ z.
          go s₂ m₂ e₁ e₂ (sound_comp chunk names Γ₂ b x.st act h.some on l) z.1 (left_more n s₁ s₂ m₁ e₁ x (comp chunk names b x.st).st (comp_grows chunk names b x.st (omega (arith, on.up, h.some)) l) z.0 y) k))

    pub two_arith : (o : Arith) → Binary o → Ends ((operand e >>= (λ e₁. f >>= (λ e₂. code_arith o e₁ e₂))) s m) (λ e' s' m'. SimD Γ₂ s' m' e' (comp_two (arithmetic o) fr (dv p) (comp chunk names b)))
    unfolding comp_two
    two_arith o two = with_operand (code_arith o) _ (λ s₂ m₂ e₁ e₂ w y l k. sim_arith Γ₂ s₂ m₂ e₁ e₂ fr x.st.free n x (comp chunk names b x.st) w y l k h.locals o two)

    pub two_comp : (o : StepKind) → Compares o → (cond swapped : Bool) → Ends ((operand e >>= (λ e₁. f >>= (λ e₂. code_comp (comparison o) cond swapped e₁ e₂))) s m) (λ e' s' m'. SimD Γ₂ s' m' e' (comp_two (comparing o cond swapped) fr (dv p) (comp chunk names b)))
    unfolding comp_two
    two_comp o cmps cond swapped = with_operand (code_comp (comparison o) cond swapped) _ (λ s₂ m₂ e₁ e₂ w y l k. sim_comp Γ₂ s₂ m₂ e₁ e₂ fr x.st.free n x (comp chunk names b x.st) w y l k h.locals (left_named n) o cmps cond swapped)

    -- ---- concatenation

    pub two_concat : Ends ((exp2nextreg e >>= (λ e₁. f >>= (λ e₂. join_concat e₁ e₂))) s m) (λ e' s' m'. SimD Γ₂ s' m' e' (comp_two joining fr (dv p) (comp chunk names b)))
    unfolding comp_two
    two_concat = ends_then (sim_next p h d) (λ e₁ s₁ m₁ y. ends_then (rights h.some s₁ m₁ τ on (omega (arith, taken)) y.now) (λ e₂ s₂ m₂ z.
        sim_join e₁ fr (comp chunk names b τ) h.locals (record { kind = y.kind; info = y.info ∙ own; trues = y.trues; falses = y.falses }) (subst (λ g. Sound Γ₂ g (comp chunk names b τ)) taken (sound_comp chunk names Γ₂ b τ act h.some on (omega (arith, taken)))) z.1))
      where
        τ : St
        τ = nextreg (dv p)

        own : freed (dv p).de.k4 (dv p).st.free ≡ fr
        own = freed_own Γ.active (dv p).de.k4 fr (dv p).st.free (sound_dv p h).own

        taken : τ.free ≡ suc fr
        taken = next_free (dv p) ∙ ap suc own

        on : On Γ.n τ
        on = next_on Γ.n h.some (dv p) new

    -- ---- an index

    pub two_index : Ends ((exp2anyreg e >>= (λ e₁. f >>= (λ e₂. set_indexed e₁ e₂))) s m) (λ e' s' m'. SimD Γ₂ s' m' e' (comp_two indexing fr (dv p) (comp chunk names b)))
    unfolding comp_two
    two_index = ends_then (sim_any p h d) (λ e₁ s₁ m₁ y. ends_then (rights h.some s₁ m₁ g.st on (omega (arith, takes_more Γ.active fr g.st.free (reg g.rgn) takes)) y.now) (λ e₂ s₂ m₂ z.
        sim_indexed e₁ fr g.st.free g.rgn (comp chunk names b g.st) h.locals y.info (omega (arith, y.below, z.0)) y.trues y.falses takes (sound_comp chunk names Γ₂ b g.st act h.some on (omega (arith, takes_more Γ.active fr g.st.free (reg g.rgn) takes))) z.1))
      where
        g : RgS
        g = anyreg (dv p)

        takes : Takes Γ.active fr g.st.free (reg g.rgn)
        takes = any_takes Γ.active (dv p) fr (sound_dv p h).own

        on : On Γ.n g.st
        on = any_on Γ.n h.some (dv p) new

  -- ---- `and`, `or`

  module _ {s : State} {m : Buffers} {e : ExprContext} (a : Expr) (σ : St) (on₀ : On Γ.n σ) (one : 1 ≤ Γ.n) (l₀ : length names ≤ σ.free) (d : SimD Γ₁ s m e (comp chunk names a σ)) where
    abbrev P : Pair
    P = comp chunk names a σ

    sound : Sound Γ₁ σ.free P
    sound = sound_comp chunk names Γ₁ a σ act one on₀ l₀

    -- the right one, from the state that the left one leaves; its labels begin at the next one
    gone_right : (c : Bool) (s₁ : State) (m₁ : Buffers) (H : ℕ → ℕ) → Sim Γ₁ s₁ m₁ H (go_if c (dv P)).code (go_if c (dv P)).free (go_if c (dv P)).tab → length names ≤ (go_if c (dv P)).free →
        Ends (f s₁ m₁) (λ e₂ s₂ m₂. Sound (inner Γ₂ s₁.frame (go_if c (dv P)).nxt H) (go_if c (dv P)).free (comp chunk names b (go_if c (dv P))) × SimD (inner Γ₂ s₁.frame (go_if c (dv P)).nxt H) s₂ m₂ e₂ (comp chunk names b (go_if c (dv P))))
    gone_right c s₁ m₁ H x l = ends_map (right (inner Γ s₁.frame τ.nxt H) s₁ m₁ τ act pos on' l (record { heads = H; sim = inward τ.nxt x })) (λ e₂ s₂ m₂ y. (sound_comp chunk names (inner Γ₂ s₁.frame τ.nxt H) b τ act pos on' l, y))
      where
        τ : St
        τ = go_if c (dv P)

        on : On Γ.n τ
        on = go_on Γ.n one c (dv P) (dv_new Γ.n one P sound.new)

        pos : 1 ≤ τ.nxt
        pos = omega (arith, on.up)

        on' : On τ.nxt τ
        on' = record { up = omega arith; old = on.old }

    next_is : (c : Bool) → (go_if c (dv P)).nxt ≡ (dv P).st.nxt
    next_is c = go_if_nxt c (dv P)

    free_is : (c : Bool) → length names ≤ (go_if c (dv P)).free
    free_is c = omega (arith, go_if_free c (dv P) ∙ freed_own Γ.active (dv P).de.k4 σ.free (dv P).st.free (sound_dv P sound).own)

    pub two_and : Ends ((goiftrue e >>= (λ e₁. f >>= (λ e₂. code_and e₁ e₂))) s m) (λ e' s' m'. SimD Γ₂ s' m' e' (comp_two (logical false) σ.free (dv P) (comp chunk names b)))
    unfolding comp_two
    two_and = ends_then (sim_go_true P sound d (marks_plain chunk names a σ (omega (arith, on₀.up)) on₀.old false (dv P) refl P.de.tl refl _ refl)) (λ e₁ s₁ m₁ g. ends_then (gone_right false s₁ m₁ g.heads g.sim (free_is false)) (λ e₂ s₂ m₂ y.
        sim_and Γ₂ s₁.frame (go_if false (dv P)).nxt g.heads g.sim.least (omega (arith, next_is false, (sound_dv P sound).new.on.up)) g.sim.others one (comp chunk names b (go_if false (dv P))) y.0 y.1 e₁.f P.de.fl sound.new.fl_new (omega (arith, next_is false, (sound_dv P sound).new.fl_old)) g.list_is e₁ refl))

    pub two_or : Ends ((goiffalse e >>= (λ e₁. f >>= (λ e₂. code_or e₁ e₂))) s m) (λ e' s' m'. SimD Γ₂ s' m' e' (comp_two (logical true) σ.free (dv P) (comp chunk names b)))
    unfolding comp_two
    two_or = ends_then (sim_go_false P sound d (marks_plain chunk names a σ (omega (arith, on₀.up)) on₀.old true (dv P) refl P.de.fl refl _ refl)) (λ e₁ s₁ m₁ g. ends_then (gone_right true s₁ m₁ g.heads g.sim (free_is true)) (λ e₂ s₂ m₂ y.
        sim_or Γ₂ s₁.frame (go_if true (dv P)).nxt g.heads g.sim.least (omega (arith, next_is true, (sound_dv P sound).new.on.up)) g.sim.others one (comp chunk names b (go_if true (dv P))) y.0 y.1 e₁.t P.de.tl sound.new.tl_new (omega (arith, next_is true, (sound_dv P sound).new.tl_old)) g.list_is e₁ refl))

    -- ---- every operator and the index

    pub sim_two : (hd : Header) (t : Two) → Ends ((between chunk hd t e >>= (λ e₁. f >>= (λ e₂. after_two chunk hd t e₁ e₂))) s m) (λ e' s' m'. SimD Γ₂ s' m' e' (comp_two (form_of t) σ.free (dv P) (comp chunk names b)))
    unfolding between after_two before_right after_right
    sim_two hd (two.Binary bin.And) = two_and
    sim_two hd (two.Binary bin.Or) = two_or
    sim_two hd (two.Binary bin.Concat) = two_concat P sound d
    sim_two hd (two.Binary bin.Add) = two_arith P sound d ar.Add tt
    sim_two hd (two.Binary bin.Sub) = two_arith P sound d ar.Sub tt
    sim_two hd (two.Binary bin.Mul) = two_arith P sound d ar.Mul tt
    sim_two hd (two.Binary bin.Div) = two_arith P sound d ar.Div tt
    sim_two hd (two.Binary bin.Mod) = two_arith P sound d ar.Mod tt
    sim_two hd (two.Binary bin.Pow) = two_arith P sound d ar.Pow tt
    sim_two hd (two.Binary bin.Eq) = two_comp P sound d equal tt true false
    sim_two hd (two.Binary bin.Ne) = two_comp P sound d equal tt false false
    sim_two hd (two.Binary bin.Lt) = two_comp P sound d less tt true false
    sim_two hd (two.Binary bin.Le) = two_comp P sound d less_or_equal tt true false
    sim_two hd (two.Binary bin.Gt) = two_comp P sound d less tt true true
    sim_two hd (two.Binary bin.Ge) = two_comp P sound d less_or_equal tt true true
    sim_two hd two.Index = two_index P sound d
