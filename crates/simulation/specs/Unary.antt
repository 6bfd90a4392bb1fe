-- Negation and length: `prefix` stands for `neg_join` and `len_join`. A numeral is folded alike; else the operand is a register, which is freed, and the word is emitted that wants its own.
use Rattle.folding.specs.Numeral.{Fold}
use Rattle.std.specs.Prelude.{ℕ, ◌≤◌, ◌<◌, Bool, true, false, ◌&&◌, ◌≡◌, List, Float, Some, None}
use Rattle.std.proofs.Math.Path.{refl, sym}
use Rattle.std.proofs.Common.{ap, ◌∙◌, arith}
use Rattle.std.proofs.Math.Option.{Option, some, none}
use Rattle.std.specs.Float.{binary64}
use Rattle.std.specs.Float.Ieee.{of_bits}
use Rattle.instructions.specs.Word.{abc_of}
use Rattle.opcodes.specs.declared.OpCode.{OpCode}
use Rattle.opcodes.specs.declared.OpCode.TheVariants as op
use Rattle.folding.specs.Folding.{fold_of}
use Rattle.folding.proofs.Laws.{fold_bits}
use Rattle.folding.specs.declared.Arith.TheVariants as ar
use Rattle.constants.specs.Entry.{Constant, number}
use Rattle.model.specs.Values.{folds}
use Rattle.ast.specs.declared.UnOp.TheVariants as un
use Rattle.model.specs.declared.ExprKind.TheVariants as kind
use Rattle.model.specs.declared.ExprContext.{ExprContext}
use Rattle.model.specs.declared.State.{State}
use Rattle.model.specs.Descriptor.{with_kind, is_numeral, new_of}
use Rattle.model.specs.Steps.{Buffers, done, ◌>>=◌, return}
use Rattle.model.specs.Emission.{with_free, emit}
use Rattle.model.specs.Discharge.{free_expr, rk}
use Rattle.model.specs.Operators.{const_fold, with_number, unless_folded, code_unary, code_unop}
use Rattle.labelled.specs.Code.{same_refl, reg, Ex, neg, len, setw, pl}
use Rattle.labelled.specs.Edits.{size_edit}
use Rattle.labelled.specs.Emission.{St, flush, here}
use Rattle.labelled.specs.Fresh.{On, Under, any_on, flush_u, dv_new}
use Rattle.labelled.specs.Discharge.{kc, kx, kd, Pair, RgS, fresh, dv, anyreg}
use Rattle.labelled.specs.Operators.{numeral, neg_join, len_join}
use Rattle.threads.specs.Represents.{set_h}
use Rattle.threads.specs.Holding.{Ends, gives, ends_then}
use Rattle.threads.specs.Coded.{CodesX}
use Rattle.simulation.specs.Sim.{Env, drop, SimD, SimR, Operand, Sound}
use Rattle.simulation.specs.Steps.{sim_emit}
use Rattle.simulation.specs.Registers.{sim_fewer}
use Rattle.simulation.specs.Discharging.{sound_dv}
use Rattle.simulation.specs.Loading.{then_done}
use Rattle.simulation.specs.AnyRegister.{sim_any}
use Rattle.simulation.specs.Freeing.{Takes, any_takes, takes_more, drop_one, operand_number, free_operand}
use Rattle.simulation.specs.Parts.{Known, known}
use Rattle.simulation.specs.Late.{Numeral, fresh_desc, fresh_held}
use Rattle.simulation.specs.Sides.{NumIs, numeral_is, numeral_true}
use Rattle.simulation.specs.Arithmetic.{numeral_own}

-- negation has one operand
unm_second : (a b c : Float) → fold_of ar.Unm a b ≡ fold_of ar.Unm a c
unfolding fold_of
unm_second a b c = refl

-- a register without jumps is freed: f registers are taken
pub free_known : {Γ : Env} {s : State} {m : Buffers} (e : ExprContext) (f g r : ℕ) (σ : St) → e.kind ≡ kind.NonReloc → e.info ≡ r → r < s.frame → Γ.active ≤ f → Known Γ s g → Takes Γ.active f g (reg r) → free_expr e s m ≡ done tt (with_free f s) m
free_known {Γ = Γ} {s = s} {m = m} e f g r σ k i l la n t =
    let o : Operand s e σ (reg r) = (k, (i, l)) in
    free_operand e s σ (reg r) n.most o s m ∙ ap (λ z. done tt (with_free z s) m) (here o)
  where
    here : Operand s e σ (reg r) → drop s.active (rk e) s.free ≡ f
    here o = rw (n.active, n.free) (drop_one Γ.active f g la (reg r) (rk e) t (operand_number e s σ (reg r) n.most o))

pub free_register : {Γ : Env} {s : State} {m : Buffers} {e : ExprContext} {f : ℕ} (q : RgS) → Γ.active ≤ f → SimR Γ s m e q → Takes Γ.active f q.st.free (reg q.rgn) → free_expr e s m ≡ done tt (with_free f s) m
free_register {e = e} {f = f} q la h k = free_known e f q.st.free q.rgn q.st h.kind h.info h.below la (known h.now.sim) k

module _ {Γ : Env} {s : State} {m : Buffers} {e : ExprContext} {f : ℕ} (p : Pair) (h : Sound Γ f p) (d : SimD Γ s m e p) where
  abbrev a : RgS
  a = anyreg (dv p)

  pub sim_unary : (o : OpCode) (x : ℕ → Ex) → ((t : List Constant) (F w r : ℕ) → r < F → w ≡ abc_of o 0 r 0 → CodesX t F w 0 (x r)) → Ends (code_unary o e s m) (λ e' s' m'. SimD Γ s' m' e' (fresh (kd (kx (x a.rgn))) f (flush a.st)))
  unfolding code_unary flush
  sim_unary o x codes = ends_then (sim_any p h d) (λ e₁ s₁ m₁ y. rw (free_register a h.locals y takes, then_done {A = Unit {0}} tt (with_free f s₁) m₁ (λ _. emit (abc_of o 0 e₁.info 0) >>= (λ pc. return (with_kind kind.Relocable pc e₁))), y.info)
      (ends_then (sim_emit (sim_fewer y.now.sim f fewer) (setw 0 (x a.rgn)) (abc_of o 0 a.rgn 0) refl (λ us z. (omega (arith, y.now.sim.two), codes a.st.tab s₁.frame _ a.rgn y.below z)))
      (λ pc s₂ m₂ q. gives _ s₂ m₂ refl (fresh_held (set_h 0 0 y.now.heads) (pl (setw 0 (x a.rgn))) _ (kd (kx (x a.rgn))) f f (flush a.st) tt under y.trues y.falses q.1.1 (refl, (q.0 ∙ sym (size_edit (here a.st.code) a.st.code), (rw (same_refl 0) refl, q.1.1)))))))
    where
      takes : Takes Γ.active f a.st.free (reg a.rgn)
      takes = any_takes Γ.active (dv p) f (sound_dv p h).own

      fewer : f ≤ a.st.free
      fewer = takes_more Γ.active f a.st.free (reg a.rgn) takes

      on : On Γ.n a.st
      on = any_on Γ.n h.some (dv p) (dv_new Γ.n h.some p h.new)

      under : Under a.st.nxt (flush a.st).code
      under = flush_u a.st.nxt (omega (arith, on.up, h.some)) a.st on.old

  pub sim_len : Ends (code_unop un.Len e s m) (λ e' s' m'. SimD Γ s' m' e' (len_join f (dv p)))
  unfolding code_unop len_join
  sim_len = sim_unary op.Len (λ r. len r) (λ t F w r l z. (l, z))

  -- a numeral is folded
  pub sim_neg : Ends (code_unop un.Neg e s m) (λ e' s' m'. SimD Γ s' m' e' (neg_join (folds ar.Unm (numeral (dv p)) (numeral (dv p))) f (dv p)))
  unfolding code_unop neg_join
  sim_neg = go (numeral (dv p)) (numeral_is p d) (λ v y. numeral_own Γ.active f (dv p) v y (sound_dv p h).own)
    where
      kept : Ends (code_unary op.Unm e s m) (λ e' s' m'. SimD Γ s' m' e' (neg_join None f (dv p)))
      kept = sim_unary op.Unm (λ r. neg r) (λ t F w r l z. (l, z))

      under : Under (dv p).st.nxt (dv p).st.code
      under = (dv_new Γ.n h.some p h.new).on.old

      tested : (t : Bool) → (is_numeral e && is_numeral (new_of kind.KNum 0)) ≡ t → const_fold ar.Unm e (new_of kind.KNum 0) ≡ elim t [ true ↦ fold_of ar.Unm e.nval (of_bits binary64 0) | false ↦ None ]
      tested t z = ap (λ (b : Bool). elim b [ true ↦ fold_of ar.Unm e.nval (of_bits binary64 0) | false ↦ None ]) z

      go : (n : Option ℕ) → NumIs Γ s m e n (dv p).st → ((v : ℕ) → n ≡ some v → (dv p).st.free ≡ f) → Ends (unless_folded (const_fold ar.Unm e (new_of kind.KNum 0)) e (code_unary op.Unm e) s m) (λ e' s' m'. SimD Γ s' m' e' (neg_join (folds ar.Unm n n) f (dv p)))
      go none q fr = rw (tested false (rw q refl)) kept
      go (some v) q fr = rw (tested true (rw (numeral_true e v q.0) refl) ∙ second v q.0) (each (fold_of ar.Unm (of_bits binary64 v) (of_bits binary64 v)) refl)
        where
          second : (v : ℕ) → Numeral e v → fold_of ar.Unm e.nval (of_bits binary64 0) ≡ fold_of ar.Unm (of_bits binary64 v) (of_bits binary64 v)
          second v n = rw n.double (unm_second (of_bits binary64 v) (of_bits binary64 0) (of_bits binary64 v))

          each : (w : Fold) → fold_of ar.Unm (of_bits binary64 v) (of_bits binary64 v) ≡ w → Ends (unless_folded w e (code_unary op.Unm e) s m) (λ e' s' m'. SimD Γ s' m' e' (neg_join w f (dv p)))
          each None eq = kept
          each (Some z) eq = gives _ s m refl (fresh_desc (with_number z e) (kd (kc (number z.bits))) f (dv p).st under q.0.trues q.0.falses q.1 ((q.0.kind, (refl, ap (λ w. w.value) (fold_bits ar.Unm v v eq))), rw (← (fr v refl)) q.1.sim))
