-- The function of a call in its register: `callee` stands for labelled code's. A method is looked up by `Self`, into the two registers behind those taken; its key is near, or lies in a third one, which is free again then.
use Rattle.std.specs.Prelude.{ℕ, suc, ◌+◌, ◌≤◌, ◌<◌, ◌≡◌, List}
use Rattle.std.proofs.Math.Path.{refl}
use Rattle.std.proofs.Common.{ap, ◌∙◌, subst, arith}
use Rattle.instructions.specs.Word.{abc_of}
use Rattle.opcodes.specs.declared.OpCode.TheVariants as op
use Rattle.constants.specs.Entry.{text}
use Rattle.cursor.specs.Fields.{bytes_of}
use Rattle.cursor.specs.declared.Text.{Text}
use Rattle.ast.specs.declared.Many.{Many}
use Rattle.ast.specs.declared.Many.TheVariants as many
use Rattle.chunk.specs.declared.header.Header.{Header}
use Rattle.model.specs.declared.ExprKind.TheVariants as kind
use Rattle.model.specs.declared.ExprContext.{ExprContext}
use Rattle.model.specs.declared.State.{State}
use Rattle.model.specs.Descriptor.{new_of, with_kind}
use Rattle.model.specs.Steps.{Buffers, done, and_then, ◌>>◌, return}
use Rattle.model.specs.Emission.{with_free, emit}
use Rattle.model.specs.Discharge.{free_expr, rk}
use Rattle.model.specs.Expressions.{code_self, callee}
use Rattle.labelled.specs.Code.{reg, selfw}
use Rattle.labelled.specs.Table.{place, is_near}
use Rattle.labelled.specs.Places.{listed_include, near_include}
use Rattle.labelled.specs.Emission.{St, set_free, add_k, push}
use Rattle.labelled.specs.Fresh.{On, any_on, dv_new}
use Rattle.labelled.specs.Owning.{freed_own}
use Rattle.labelled.specs.Discharge.{Pair, RgS, RkS, dv, nextreg, anyreg, late}
use Rattle.labelled.specs.Expressions.{labelled_code_self, callee as callee_l}
use Rattle.threads.specs.Represents.{set_h}
use Rattle.threads.specs.Holding.{Ends, gives, ends_then, ends_map}
use Rattle.simulation.specs.Sim.{Env, Sim, Sims, drop, SimD, SimR, SimK, Sound}
use Rattle.simulation.specs.Steps.{sim_emit}
use Rattle.simulation.specs.Registers.{sim_reserve, sim_fewer}
use Rattle.simulation.specs.Discharging.{sound_dv}
use Rattle.simulation.specs.Loading.{then_done}
use Rattle.simulation.specs.ToRegister.{sim_next}
use Rattle.simulation.specs.AnyRegister.{sim_any}
use Rattle.simulation.specs.Operands.{any_stays}
use Rattle.simulation.specs.Freeing.{Takes, any_takes, takes_more, drop_one, operand_number, free_operand}
use Rattle.simulation.specs.Parts.{framed, outward_s, raise_s, known}
use Rattle.simulation.specs.Late.{sim_late_text}
use Rattle.simulation.specs.Arithmetic.{operand_codes, late_takes}
use Rattle.simulation.specs.Unary.{free_known}
use Rattle.simulation.specs.Texts.{ShortMany}
use Rattle.simulation.specs.Leaves.{text_listed}

-- ---- `code_self`, of a register and a key that is listed

module _ (Γ : Env) (e₁ : ExprContext) (f i : ℕ) (one : 1 ≤ Γ.n) (la : Γ.active ≤ f) (x : RgS) (t : List ℕ) (on : On Γ.n x.st) (takes : Takes Γ.active f x.st.free (reg x.rgn)) where
  abbrev σ : St
  σ = add_k (text t) x.st

  abbrev τ : St
  τ = set_free (2 + f) σ

  abbrev r : RkS
  r = late (is_near (text t) x.st.tab) (text t) τ

  -- the word, and the key is free again
  looked_up : (s : State) (m : Buffers) (k : ExprContext) → e₁.info ≡ x.rgn → x.rgn < s.frame → suc f < s.frame → e₁.t ≡ 0 → e₁.f ≡ 0 → SimK Γ s m k r →
      Ends ((emit (abc_of op.OpSelf f e₁.info (rk k)) >> (free_expr k >> return (with_kind kind.NonReloc f e₁))) s m) (λ e' s' m'. SimR Γ s' m' e' (record { st = labelled_code_self t x f; rgn = f }))
  unfolding labelled_code_self push
  looked_up s m k z l b u v h = rw z (ends_then (sim_emit h.now.sim (selfw f x.rgn r.rkv) (abc_of op.OpSelf f x.rgn (rk k)) refl (λ us y. (rk k, (b, (l, (operand_codes s k r.st r.rkv h.is, y))))))
      (λ pc s₁ m₁ q. let n = q.1.1 in rw (key_free s₁ m₁ n.locals n.free, then_done {A = Unit {0}} tt (with_free (2 + f) s₁) m₁ (λ _. return (with_kind kind.NonReloc f e₁)))
      (gives _ (with_free (2 + f) s₁) m₁ refl (record { kind = refl; info = refl; below = rw q.1.0.frame (omega arith); trues = u; falses = v; now = record { heads = set_h 0 0 h.now.heads; sim = sim_fewer n (2 + f) (takes_more Γ.active (2 + f) r.st.free r.rkv key_takes) } }))))
    where
      key_takes : Takes Γ.active (2 + f) r.st.free r.rkv
      key_takes = late_takes Γ.active (is_near (text t) x.st.tab) (text t) τ

      dropped : (s₁ : State) → s₁.active ≡ Γ.active → s₁.free ≡ r.st.free → drop s₁.active (rk k) s₁.free ≡ 2 + f
      dropped s₁ a y = rw (a, y) (drop_one Γ.active (2 + f) r.st.free (omega arith) r.rkv (rk k) key_takes (operand_number k s r.st r.rkv h.now.sim.most h.is))

      key_free : (s₁ : State) (m₁ : Buffers) → s₁.active ≡ Γ.active → s₁.free ≡ r.st.free → free_expr k s₁ m₁ ≡ done tt (with_free (2 + f) s₁) m₁
      key_free s₁ m₁ a y = free_operand k s r.st r.rkv h.now.sim.most h.is s₁ m₁ ∙ ap (λ z. done tt (with_free z s₁) m₁) (dropped s₁ a y)

  self_at : (s : State) (m : Buffers) → e₁.kind ≡ kind.NonReloc → e₁.info ≡ x.rgn → x.rgn < s.frame → e₁.t ≡ 0 → e₁.f ≡ 0 → i ≡ place (text t) σ.tab → Sims Γ s m σ → Ends (code_self e₁ (new_of kind.K i) s m) (λ e' s' m'. SimR Γ s' m' e' (record { st = labelled_code_self t x f; rgn = f }))
  unfolding code_self and_then
  self_at s m k z l u v w h = rw (any_stays e₁ s m k u v, free_known {Γ = Γ} e₁ f σ.free x.rgn σ k z l la (known h.sim) takes)
      (ends_then (sim_reserve Γ {s = with_free f s} {m = m} {f = f} refl 2) (λ _ s₁ m₁ q.
      let now₁ : Sims Γ s₁ m₁ τ = record { heads = h.heads; sim = two_more (q.1.1 h.heads σ.code σ.tab (sim_fewer h.sim f fewer)) } in
      ends_then (sim_late_text {Γ = framed Γ s₁} (new_of kind.K i) τ one on' (omega arith) (raise_s now₁) t refl w (listed_include (text t) x.st.tab) refl refl) (λ c s₂ m₂ y.
      looked_up s₂ m₂ c z (omega (arith, q.1.0, y.now.sim.least)) (omega (arith, now₁.sim.taken, y.now.sim.least)) u v
      (near_same (record { is = y.is; trues = y.trues; falses = y.falses; now = outward_s Γ s₁.frame Γ.n Γ.lists now₁.sim.least (omega arith) (λ ℓ a b. refl) y.now })))))
    where
      fewer : f ≤ σ.free
      fewer = takes_more Γ.active f x.st.free (reg x.rgn) takes

      on' : On Γ.n τ
      on' = record { up = on.up; old = on.old }

      two_more : {s₁ : State} {m₁ : Buffers} → Sim Γ s₁ m₁ h.heads σ.code (f + 2) σ.tab → Sim Γ s₁ m₁ h.heads σ.code (2 + f) σ.tab
      two_more y = let e : f + 2 ≡ 2 + f = omega arith in rw e at y

      near_same : {s₂ : State} {m₂ : Buffers} {c : ExprContext} → SimK Γ s₂ m₂ c (late (is_near (text t) τ.tab) (text t) τ) → SimK Γ s₂ m₂ c r
      near_same {s₂ = s₂} {m₂ = m₂} {c = c} y = subst (λ b. SimK Γ s₂ m₂ c (late b (text t) τ)) (near_include (text t) x.st.tab) y

-- ---- `callee`

pub sim_callee : {Γ : Env} {s : State} {m : Buffers} {e : ExprContext} {f : ℕ} (chunk : List ℕ) (hd : Header) (names : List Text) (k : Many) (p : Pair) → ShortMany chunk k → Sound Γ f p → SimD Γ s m e p → Ends (callee chunk hd k e s m) (λ e' s' m'. SimR Γ s' m' e' (record { st = callee_l chunk names k f (dv p); rgn = f }))
unfolding callee callee_l
sim_callee {Γ = Γ} {f = f} chunk hd names many.Call p short h d = ends_map (sim_next p h d) (λ e' s' m' x. subst (λ r. SimR Γ s' m' e' (record { st = nextreg (dv p); rgn = r })) (freed_own Γ.active (dv p).de.k4 f (dv p).st.free (sound_dv p h).own) x)
sim_callee {Γ = Γ} {f = f} chunk hd names (many.MethodCall t) p short h d = ends_then (sim_any p h d) (λ e₁ s₁ m₁ y. ends_then (text_listed chunk x.st on h.some y.now t short) (λ i s₂ m₂ q.
    self_at Γ e₁ f i h.some h.locals x (bytes_of chunk t) on (any_takes Γ.active (dv p) f (sound_dv p h).own) s₂ m₂ y.kind y.info (rw q.1.0 y.below) y.trues y.falses q.0 q.1.1))
  where
    x : RgS
    x = anyreg (dv p)

    on : On Γ.n x.st
    on = any_on Γ.n h.some (dv p) (dv_new Γ.n h.some p h.new)
