-- The jump that a value takes: `jumponcond`, `invertjump` and what comes of constants, under a label J that is new, stand for `go_jump`. A popped `Not` leaves its test; a loaded value is tested in its register, which is free again.
use Prim.Native.Nat.{ℕ, suc, ◌+◌, ◌≤◌, ◌<◌}
use Rattle.std.specs.Prelude.{Bool, not, ◌≡◌, List, ◌∷◌, eqb}
use Rattle.std.proofs.Math.Bool.{true, false}
use Rattle.std.proofs.Math.Path.{refl, sym, ap, subst}
use Rattle.std.proofs.Common.{◌∙◌, arith}
use Rattle.std.proofs.Math.Option.{none}
use Rattle.instructions.specs.Limits.{no_reg, max_words}
use Rattle.opcodes.specs.OpCodes.{code_of}
use Rattle.instructions.specs.Word.{b_of, abc_of}
use Rattle.instructions.specs.Laws.{op_abc, b_abc}
use Rattle.opcodes.specs.declared.OpCode.{OpCode}
use Rattle.opcodes.specs.declared.OpCode.TheVariants as op
use Rattle.folding.specs.declared.Arith.TheVariants as ar
use Rattle.constants.specs.Entry.{Constant, nil, truth, number, text}
use Rattle.model.specs.Values.{StepKind, nil as vnil, truth as vtruth, number as vnumber, text as vtext, other}
use Rattle.model.specs.Running.{same as agrees}
use Rattle.model.specs.declared.ExprKind.{ExprKind}
use Rattle.model.specs.declared.ExprKind.TheVariants as kind
use Rattle.model.specs.declared.ExprContext.{ExprContext}
use Rattle.model.specs.declared.State.{State}
use Rattle.model.specs.Descriptor.{is_kind, tag_of}
use Rattle.model.specs.Steps.{Buffers, done, Step, and_then, ◌>>◌, return}
use Rattle.model.specs.Jumps.{word, is_op, jump_list}
use Rattle.model.specs.Emission.{emit, emit_jump}
use Rattle.model.specs.Discharge.{free_expr, discharge2anyreg}
use Rattle.model.specs.Conditions.{bit, pop, invertjump, is_not, jumponcond, jump_if_false, jump_if_true}
use Rattle.labelled.specs.Code.{same_refl, same_ne, Rk, Ex, val, cp, glob, idx, ari, neg, len, notx, cat, vfst, Ctrl, always, test, tset, cmp, lbl, setw, Instr, pl, br, width, Code, size, land, re, edit}
use Rattle.labelled.specs.Machine.{pick}
use Rattle.labelled.specs.Emission.{St, set_free, push, labelled_emit_jump, here, one}
use Rattle.labelled.specs.Discharge.{K4, kc, kr, kx, kj, d2r, is_cmp}
use Rattle.labelled.specs.Conditions.{on_load, on_x, go_jump}
use Rattle.labelled.specs.Owning.{Own4, freed_own}
use Rattle.labelled.specs.Fresh.{Under, push_u}
use Rattle.labelled.specs.Branching.{agrees_with_true, agrees_with_false}
use Rattle.threads.specs.Represents.{set_h}
use Rattle.threads.specs.Places.{edit_through}
use Rattle.threads.specs.Emitting.{no_label}
use Rattle.threads.specs.Holding.{Ends, gives, ends_map, with_code}
use Rattle.threads.specs.Last.{inverted}
use Rattle.threads.specs.Coded.{CodesX, op_x, codes_op}
use Rattle.simulation.specs.Sim.{Env, Sim, Is4}
use Rattle.simulation.specs.Steps.{sim_jump, sim_pair, sim_invert, sim_popped}
use Rattle.simulation.specs.Absent.{edit_under, under_list}
use Rattle.simulation.specs.Registers.{chosen}
use Rattle.simulation.specs.Discharging.{no_here}
use Rattle.simulation.specs.Loading.{kind_of, is_reg, then_done, jump_list_is}
use Rattle.simulation.specs.ToRegister.{d2r_label}
use Rattle.simulation.specs.InRegister.{reg_k, code_k, reg_loaded, loaded_code, code_under, in_register}
use Rattle.laws.specs.Truth.{no_and}

-- ---- the opcode `Not`

abbrev is_not_x : Ex → Bool
is_not_x (val v) = false
is_not_x (cp r) = false
is_not_x (glob g) = false
is_not_x (idx r k) = false
is_not_x (ari o x y) = false
is_not_x (neg r) = false
is_not_x (len r) = false
is_not_x (notx r) = true
is_not_x (cat b k) = false
is_not_x vfst = false

abc_op : (w : ℕ) (o : OpCode) (a b c : ℕ) (t : Bool) → eqb (code_of o) (code_of op.Not) ≡ t → w ≡ abc_of o a b c → is_op op.Not w ≡ t
abc_op w o a b c t n e = rw (e, op_abc o a b c) n

not_x : (x : Ex) → eqb (code_of (op_x x)) (code_of op.Not) ≡ is_not_x x
not_x (val vnil) = refl
not_x (val (vtruth b)) = refl
not_x (val (vnumber n)) = refl
not_x (val (vtext t)) = refl
not_x (val (other i)) = refl
not_x (cp r) = refl
not_x (glob g) = refl
not_x (idx r k) = refl
not_x (ari ar.Add x y) = refl
not_x (ari ar.Sub x y) = refl
not_x (ari ar.Mul x y) = refl
not_x (ari ar.Div x y) = refl
not_x (ari ar.Mod x y) = refl
not_x (ari ar.Pow x y) = refl
not_x (ari ar.Unm x y) = refl
not_x (neg r) = refl
not_x (len r) = refl
not_x (notx r) = refl
not_x (cat b k) = refl
not_x vfst = refl

not_word : (t : List Constant) (F w : ℕ) (x : Ex) → CodesX t F w 0 x → is_op op.Not w ≡ is_not_x x
not_word t F w x h = rw (codes_op t F w 0 x h) (not_x x)

two_others : (a x : ℕ) (H : ℕ → ℕ) (i : ℕ) → (i ≡ a → ⊥) → (i ≡ 0 → ⊥) → set_h a x (set_h 0 0 H) i ≡ H i
two_others a x H i p q = rw (same_ne i a p, same_ne i 0 q) refl

-- the jump of a comparison is inside
inside_of : (i : Instr) (c : Code) (p : ℕ) → width i ≡ 2 → p ≡ suc (size c) → size (i ∷ c) ≤ max_words → p < max_words
unfolding size
inside_of i c p w e l = omega arith

-- ---- what a jump leaves

-- the jump stands last under its own label J; under label ℓ the code is τ's
pub record Jumped (Γ : Env) (t₀ f₀ tl fl n : ℕ) (s : State) (m : Buffers) (list ℓ : ℕ) (τ : St) : Type 0 where
  pub heads : ℕ → ℕ
  pub J : ℕ
  pub ctrl : Ctrl
  pub below : Code
  pub under : Code
  pub new : n ≤ J
  pub list_is : list ≡ heads J
  pub through : edit (one J (re ℓ false)) below ≡ under
  pub code : τ.code ≡ br ctrl (lbl ℓ) ∷ under
  pub sim : Sim Γ s m heads (br ctrl (lbl J) ∷ below) τ.free τ.tab
  pub trues : t₀ ≡ heads tl
  pub falses : f₀ ≡ heads fl

-- or there is none
pub record Stayed (Γ : Env) (t₀ f₀ tl fl : ℕ) (s : State) (m : Buffers) (list : ℕ) (τ : St) : Type 0 where
  pub heads : ℕ → ℕ
  pub list_is : list ≡ 0
  pub sim : Sim Γ s m heads τ.code τ.free τ.tab
  pub trues : t₀ ≡ heads tl
  pub falses : f₀ ≡ heads fl

-- the jump that a value takes where its truth is c
abbrev pub jump_if : ExprContext → Bool → ExprKind → Step ℕ
jump_if e true k = jump_if_true k e
jump_if e false k = jump_if_false k e

pub data Jumps (Γ : Env) (t₀ f₀ tl fl n : ℕ) (s : State) (m : Buffers) (list ℓ : ℕ) (τ : St) : Type 0 where
  jumped : Jumped Γ t₀ f₀ tl fl n s m list ℓ τ → Jumps Γ t₀ f₀ tl fl n s m list ℓ τ
  stayed : Stayed Γ t₀ f₀ tl fl s m list τ → Jumps Γ t₀ f₀ tl fl n s m list ℓ τ

module _ (Γ : Env) (s : State) (m : Buffers) (H : ℕ → ℕ) (e : ExprContext) (σ : St) (tl fl ℓ f : ℕ) (nt : Γ.n ≤ tl) (nf : Γ.n ≤ fl) (o : 1 ≤ Γ.n) (tf : fl ≡ tl → ⊥) (lt : tl < σ.nxt) (lf : fl < σ.nxt) (old : Under σ.nxt σ.code) (et : e.t ≡ H tl) (ef : e.f ≡ H fl) (lℓ : ℓ < σ.nxt) (la : Γ.active ≤ f) where
  abbrev Done : St → ℕ → State → Buffers → Type 0
  Done τ list s' m' = Jumps Γ e.t e.f tl fl σ.nxt s' m' list ℓ τ

  pos : 1 ≤ σ.nxt
  pos = omega arith

  -- a pair of words, of a test in register r
  by_pair : (s₁ : State) (m₁ : Buffers) (G : ℕ → ℕ) (τ : St) (r : ℕ) (c : Bool) → Sim Γ s₁ m₁ G τ.code τ.free τ.tab → r < s₁.frame → Under σ.nxt τ.code → e.t ≡ G tl → e.f ≡ G fl →
      Ends ((emit (abc_of op.TestSet no_reg r (bit c)) >> emit_jump) s₁ m₁) (λ list s' m'. Done (push (br (tset r c) (lbl ℓ)) τ) list s' m')
  unfolding push
  by_pair s₁ m₁ G τ r c x b u gt gf = ends_map
      (sim_pair x (tset r c) σ.nxt (abc_of op.TestSet no_reg r (bit c)) refl tt (λ us z. (z, omega (arith, x.most))) b (omega arith) pos (under_list x σ.nxt σ.nxt (omega arith) u))
      (λ list s' m' q. jumped (record {
        heads = set_h σ.nxt (suc (1 + size τ.code)) (set_h 0 0 G);
        J = σ.nxt;
        ctrl = tset r c;
        below = edit (here τ.code) τ.code;
        under = edit (here τ.code) τ.code;
        new = omega arith;
        list_is = q.0 ∙ rw (same_refl σ.nxt) refl;
        through = edit_under σ.nxt σ.nxt (re ℓ false) (omega arith) (edit (here τ.code) τ.code) (push_u σ.nxt pos (br (tset r c) (lbl ℓ)) τ lℓ u).1;
        code = refl;
        sim = q.1.1;
        trues = gt ∙ sym (two_others σ.nxt _ G tl (λ z. omega arith) (λ z. omega arith));
        falses = gf ∙ sym (two_others σ.nxt _ G fl (λ z. omega arith) (λ z. omega arith));
      }))

  -- a jump without a test
  by_jump : Sim Γ s m H σ.code σ.free σ.tab → Ends (emit_jump s m) (λ list s' m'. Done (labelled_emit_jump ℓ σ) list s' m')
  unfolding labelled_emit_jump
  by_jump x = ends_map (sim_jump x σ.nxt (omega arith) pos (under_list x σ.nxt σ.nxt (omega arith) old)) (λ list s' m' q. jumped (record {
    heads = set_h σ.nxt (suc (size σ.code)) (set_h 0 0 H);
    J = σ.nxt;
    ctrl = always;
    below = edit (one 0 (re σ.nxt true)) σ.code;
    under = edit (one 0 (re ℓ true)) σ.code;
    new = omega arith;
    list_is = q.0 ∙ rw (same_refl σ.nxt) refl;
    through = edit_through 0 σ.nxt ℓ true σ.code (no_label (x.holds.rep.thr σ.nxt) (under_list x σ.nxt σ.nxt (omega arith) old));
    code = refl;
    sim = q.1.1;
    trues = et ∙ sym (two_others σ.nxt _ H tl (λ z. omega arith) (λ z. omega arith));
    falses = ef ∙ sym (two_others σ.nxt _ H fl (λ z. omega arith) (λ z. omega arith));
  }))

  -- `jumponcond`
  abbrev tests : Bool → ExprContext → Step ℕ
  tests c e₁ = emit (abc_of op.TestSet no_reg e₁.info (bit c)) >> emit_jump

  cond_is : (c : Bool) → jumponcond e c s m ≡ pick (is_not m.code e) ((pop >> (emit (abc_of op.Test (b_of (word m.code e.info)) 0 (bit (not c))) >> emit_jump)) s m) (and_then (discharge2anyreg e s m) (λ e₁. free_expr e₁ >> tests c e₁))
  unfolding jumponcond and_then
  cond_is c = chosen (is_not m.code e) _ _ s m

  no_not : (k : K4) → e.kind ≡ kind_of k → eqb (tag_of (kind_of k)) 9 ≡ false → is_not m.code e ≡ false
  no_not k q z = no_and (is_kind kind.Relocable e) (is_op op.Not (word m.code e.info)) (ap (λ x. eqb (tag_of x) 9) q ∙ z)

  -- a value in a register, which it may be loaded into first
  on_value : (k : K4) (c : Bool) → is_cmp k ≡ false → is_not m.code e ≡ false → Own4 Γ.active f k σ.free → Is4 Γ s m H e σ k → Ends (jumponcond e c s m) (λ list s' m'. Done (set_free f (push (br (tset (reg_k k f) c) (lbl ℓ)) (code_k k tl f σ))) list s' m')
  unfolding push
  on_value k c z n w h = rw (cond_is c, n) (in_register Γ s m H e σ tl fl f nt nf o tf lt lf old et ef la (tests c) _ k z w h (λ e₁ s₁ m₁ x. rw x.info
      (by_pair s₁ m₁ x.heads (set_free f (code_k k tl f σ)) (reg_k k f) c x.sim x.below (code_under k σ.nxt pos tl f σ lt old) x.trues x.falses)))

  -- a register
  on_register : (u c : Bool) (r : ℕ) → Own4 Γ.active f (kr u r) σ.free → Is4 Γ s m H e σ (kr u r) → Ends (jumponcond e c s m) (λ list s' m'. Done (go_jump c (kr u r) ℓ σ) list s' m')
  unfolding go_jump
  on_register u c r w h = rw (freed_own Γ.active (kr u r) f σ.free w) (on_value (kr u r) c refl (no_not (kr u r) h.0 refl) w h)

  -- a value that is loaded first
  on_loaded : (k : K4) (c : Bool) → is_cmp k ≡ false → is_reg k ≡ false → is_not m.code e ≡ false → Own4 Γ.active f k σ.free → σ.free ≡ f → Is4 Γ s m H e σ k → Ends (jumponcond e c s m) (λ list s' m'. Done (on_load c k ℓ σ) list s' m')
  unfolding on_load push
  on_loaded k c z y n w q h = subst (λ τ. Ends (jumponcond e c s m) (λ list s' m'. Done τ list s' m')) there (on_value k c z n w h)
    where
      there : set_free f (push (br (tset (reg_k k f) c) (lbl ℓ)) (code_k k tl f σ)) ≡ push (br (tset σ.free c) (lbl ℓ)) (d2r k ℓ σ.free σ)
      there = ap (λ r. set_free f (push (br (tset r c) (lbl ℓ)) (code_k k tl f σ))) (reg_loaded k f y) ∙ ap (λ τ. push (br (tset f c) (lbl ℓ)) τ) (loaded_code k tl f σ y q ∙ d2r_label k tl ℓ f σ z) ∙ ap (λ g. push (br (tset g c) (lbl ℓ)) (d2r k ℓ g σ)) (sym q)

  -- a `Not` to come, which is popped
  on_not : (r : ℕ) (c : Bool) → Is4 Γ s m H e σ (kx (notx r)) → Ends (jumponcond e c s m) (λ list s' m'. Done (push (br (test r (not c)) (lbl ℓ)) σ) list s' m')
  unfolding push
  on_not r c h = rw (cond_is c, is_one, h.1.0, b_is) (ends_map
      (sim_popped refl now r σ.nxt (not c) low h.1.1.0 (omega arith) pos unused)
      (λ list s' m' q. jumped (record {
        heads = set_h σ.nxt (suc (1 + size σ.code)) (set_h 0 0 H);
        J = σ.nxt;
        ctrl = test r (not c);
        below = σ.code;
        under = σ.code;
        new = omega arith;
        list_is = q.0 ∙ rw (same_refl σ.nxt) refl;
        through = edit_under σ.nxt σ.nxt (re ℓ false) (omega arith) σ.code old;
        code = ap (λ z. br (test r (not c)) (lbl ℓ) ∷ z) (no_here now h.1.1.0 (land (size σ.code) none (size σ.code)));
        sim = q.1.1;
        trues = et ∙ sym (two_others σ.nxt _ H tl (λ z. omega arith) (λ z. omega arith));
        falses = ef ∙ sym (two_others σ.nxt _ H fl (λ z. omega arith) (λ z. omega arith));
      })))
    where
      now : Sim Γ s m H (pl (setw 0 (notx r)) ∷ σ.code) σ.free σ.tab
      now = h.1.1.1

      w_is : word m.code (size σ.code) ≡ abc_of op.Not 0 r 0
      w_is = now.holds.rep.enc.0.1.1

      low : r < s.frame
      low = now.holds.rep.enc.0.1.0

      b_is : b_of (word m.code (size σ.code)) ≡ r
      b_is = rw w_is (b_abc op.Not 0 r 0 ∙ omega (arith, low, now.most))

      is_one : is_not m.code e ≡ true
      is_one = rw (h.1.0, ap (λ x. eqb (tag_of x) 9) h.0, abc_op (word m.code (size σ.code)) op.Not 0 r 0 true refl w_is) refl

      unused : H σ.nxt ≡ 0
      unused = under_list now σ.nxt σ.nxt (omega arith) (tt, old)

  -- another word to come
  on_other : (x : Ex) (c : Bool) → is_not_x x ≡ false → Own4 Γ.active f (kx x) σ.free → Is4 Γ s m H e σ (kx x) → Ends (jumponcond e c s m) (λ list s' m'. Done (on_load c (kx x) ℓ σ) list s' m')
  on_other x c z w h = on_loaded (kx x) c refl refl other_one w w.0 h
    where
      other_one : is_not m.code e ≡ false
      other_one = rw (h.1.0, ap (λ x. eqb (tag_of x) 9) h.0, not_word σ.tab s.frame (word m.code (size σ.code)) x h.1.1.1.holds.rep.enc.0.1) z

  on_word : (x : Ex) (c : Bool) → Own4 Γ.active f (kx x) σ.free → Is4 Γ s m H e σ (kx x) → Ends (jumponcond e c s m) (λ list s' m'. Done (on_x c x ℓ σ) list s' m')
  unfolding on_x
  on_word (val v) c w h = on_other (val v) c refl w h
  on_word (cp r) c w h = on_other (cp r) c refl w h
  on_word (glob g) c w h = on_other (glob g) c refl w h
  on_word (idx r k) c w h = on_other (idx r k) c refl w h
  on_word (ari a p q) c w h = on_other (ari a p q) c refl w h
  on_word (neg r) c w h = on_other (neg r) c refl w h
  on_word (len r) c w h = on_other (len r) c refl w h
  on_word (notx r) c w h = on_not r c h
  on_word (cat b k) c w h = on_other (cat b k) c refl w h
  on_word vfst c w h = on_other vfst c refl w h

  -- a comparison, whose jump stands already
  standing : (a : StepKind) (k c : Bool) (x y : Rk) (j : ℕ) (m' : Buffers) → σ.nxt ≤ j → H j ≡ suc e.info → H 0 ≡ 0 → e.info < max_words → Sim Γ s m' H (br (cmp a k x y) (lbl j) ∷ σ.code) σ.free σ.tab →
      Done (push (br (cmp a k x y) (lbl ℓ)) σ) (jump_list e.info) s m'
  unfolding push
  standing a k c x y j m' n hj h0 l q = jumped (record {
    heads = H;
    J = j;
    ctrl = cmp a k x y;
    below = σ.code;
    under = σ.code;
    new = n;
    list_is = jump_list_is e.info l ∙ sym hj;
    through = edit_under σ.nxt j (re ℓ false) n σ.code old;
    code = ap (λ z. br (cmp a k x y) (lbl ℓ) ∷ z) (no_here q h0 (land (size σ.code) none (size σ.code)));
    sim = q;
    trues = et;
    falses = ef;
  })

  on_comparison : (a : StepKind) (d c : Bool) (x y : Rk) → Is4 Γ s m H e σ (kj a d x y) → Ends (jump_if e c kind.Jmp s m) (λ list s' m'. Done (go_jump c (kj a d x y) ℓ σ) list s' m')
  unfolding jump_if_false jump_if_true go_jump
  on_comparison a d c x y h = go c
    where
      j : ℕ
      j = h.1.1.1.0

      now : Sim Γ s m H (br (cmp a d x y) (lbl j) ∷ σ.code) σ.free σ.tab
      now = h.1.1.1.1.1.1

      inside : e.info < max_words
      inside = inside_of (br (cmp a d x y) (lbl j)) σ.code e.info refl h.1.0 now.holds.rep.few

      inverse : (invertjump e s m ≡ done tt s (with_code (inverted m.code e.info) m)) × Sim Γ s (with_code (inverted m.code e.info) m) H (br (cmp a (not d) x y) (lbl j) ∷ σ.code) σ.free σ.tab
      inverse = sim_invert e (h.1.0 ∙ omega arith) now

      go : (c : Bool) → Ends (jump_if e c kind.Jmp s m) (λ list s' m'. Done (push (br (cmp a (agrees d c) x y) (lbl ℓ)) σ) list s' m')
      go true = rw (agrees_with_true d) (gives _ s m refl (standing a d true x y j m h.1.1.1.1.0 h.1.1.1.1.1.0 h.1.1.0 inside now))
      go false = rw (agrees_with_false d, inverse.0, then_done {A = Unit {0}} tt s (with_code (inverted m.code e.info) m) (λ _. return (jump_list e.info))) (gives _ s _ refl (standing a (not d) false x y j _ h.1.1.1.1.0 h.1.1.1.1.1.0 h.1.1.0 inside inverse.1))

  -- no jump
  stays : Sim Γ s m H σ.code σ.free σ.tab → Ends (return 0 s m) (λ list s' m'. Done σ list s' m')
  stays x = gives 0 s m refl (stayed (record { heads = H; list_is = refl; sim = x; trues = et; falses = ef }))

  -- the jump that a value takes
  pub at_kind : (c : Bool) (k : K4) → Own4 Γ.active f k σ.free → Is4 Γ s m H e σ k → Ends (jump_if e c (kind_of k) s m) (λ list s' m'. Done (go_jump c k ℓ σ) list s' m')
  unfolding jump_if_false jump_if_true go_jump
  at_kind true (kc nil) w h = stays h.1
  at_kind true (kc (truth true)) w h = by_jump h.1
  at_kind true (kc (truth false)) w h = stays h.1
  at_kind true (kc (number n)) w h = on_loaded (kc (number n)) true refl refl (no_not (kc (number n)) h.0.0 refl) w w h
  at_kind true (kc (text x)) w h = on_loaded (kc (text x)) true refl refl (no_not (kc (text x)) h.0.0 refl) w w h
  at_kind true (kr u r) w h = on_register u true r w h
  at_kind true (kx x) w h = on_word x true w h
  at_kind true (kj a d x y) w h = on_comparison a d true x y h
  at_kind false (kc nil) w h = on_loaded (kc nil) false refl refl (no_not (kc nil) h.0 refl) w w h
  at_kind false (kc (truth true)) w h = stays h.1
  at_kind false (kc (truth false)) w h = by_jump h.1
  at_kind false (kc (number n)) w h = stays h.1
  at_kind false (kc (text x)) w h = stays h.1
  at_kind false (kr u r) w h = on_register u false r w h
  at_kind false (kx x) w h = on_word x false w h
  at_kind false (kj a d x y) w h = on_comparison a d false x y h
