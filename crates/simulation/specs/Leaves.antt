-- Leaves and names: `leaf_expr` and `resolve_var` stand for `comp_leaf`. A text is listed when it is read; the word of `...` is emitted before it is known how many values it gives.
use Rattle.std.specs.Prelude.{ℕ, ◌≤◌, ◌<◌, true, false, ◌≡◌, List, ◌∷◌, length, set}
use Rattle.std.proofs.Math.Path.{refl, subst}
use Rattle.std.proofs.Common.{sym, ◌∙◌, arith, set-set}
use Rattle.std.proofs.Math.Option.{Option, some, none}
use Rattle.std.proofs.lemmas.List.{set-get_or}
use Rattle.instructions.specs.Word.{abc_of}
use Rattle.opcodes.specs.declared.OpCode.TheVariants as op
use Rattle.folding.specs.Numeral.{numeral_of}
use Rattle.constants.specs.Entry.{nil, truth, number, text}
use Rattle.constants.specs.declared.Val.TheVariants as val
use Rattle.cursor.specs.Fields.{bytes_of}
use Rattle.cursor.specs.declared.Text.{Text}
use Rattle.ast.specs.declared.Leaf.{Leaf}
use Rattle.ast.specs.declared.Leaf.TheVariants as leaf
use Rattle.chunk.specs.Headers.{names_at}
use Rattle.chunk.specs.Form.{names_of}
use Rattle.chunk.specs.declared.header.Header.{Header}
use Rattle.model.specs.declared.ExprKind.TheVariants as kind
use Rattle.model.specs.declared.State.{State}
use Rattle.model.specs.Descriptor.{new_of, descriptor_of}
use Rattle.model.specs.Steps.{Buffers, ◌>>=◌, return}
use Rattle.model.specs.Jumps.{word}
use Rattle.model.specs.Emission.{emit, add_constant}
use Rattle.model.specs.Expressions.{resolved, resolve_var, leaf_expr, search_local}
use Rattle.labelled.specs.Code.{same_refl, vfst, setw, pl, Code, size, edit}
use Rattle.labelled.specs.Edits.{size_edit}
use Rattle.labelled.specs.Table.{place}
use Rattle.labelled.specs.Places.{listed_include, place_include}
use Rattle.labelled.specs.Emission.{St, add_k, flush, here}
use Rattle.labelled.specs.Fresh.{On, flush_u}
use Rattle.labelled.specs.Discharge.{kc, kd, kl, kg, kva, fresh}
use Rattle.labelled.specs.Expressions.{text_c, resolved as resolved_l, comp_leaf}
use Rattle.threads.specs.Words.{word_same}
use Rattle.threads.specs.Represents.{set_h}
use Rattle.threads.specs.Holding.{Ends, gives, ends_then, ends_map, with_code, emit_instead}
use Rattle.simulation.specs.Sim.{Env, Sim, Sims, SimD, Sound}
use Rattle.simulation.specs.Steps.{sim_emit}
use Rattle.simulation.specs.Adding.{sim_add}
use Rattle.simulation.specs.Late.{fresh_desc, fresh_held}
use Rattle.simulation.specs.Texts.{ShortText, ShortLeaf}

within : (c : Code) {n cap k : ℕ} → size (pl (setw 0 vfst) ∷ c) ≤ cap → n ≡ cap → size c ≡ k → k < n
unfolding size
within c a b e = omega arith

module _ {Γ : Env} {s : State} {m : Buffers} (chunk : List ℕ) (σ : St) (on : On Γ.n σ) (one : 1 ≤ Γ.n) (h : Sims Γ s m σ) where
  -- a text is listed, and its index given
  pub text_listed : (t : Text) → ShortText chunk t → Ends (add_constant chunk (val.Str t.start t.len) s m) (λ i s' m'. (i ≡ place (text (bytes_of chunk t)) (add_k (text (bytes_of chunk t)) σ).tab) × ((s'.frame ≡ s.frame) × Sims Γ s' m' (add_k (text (bytes_of chunk t)) σ)))
  text_listed t short = ends_map (sim_add h.sim chunk (val.Str t.start t.len) short) (λ i s' m' q. (q.0 ∙ sym (place_include (text (bytes_of chunk t)) σ.tab), (q.1.0, record { heads = h.heads; sim = q.1.1.1 })))

  -- as a value or a key
  pub text_desc : {s' : State} {m' : Buffers} (t : Text) (i : ℕ) → i ≡ place (text (bytes_of chunk t)) (add_k (text (bytes_of chunk t)) σ).tab → Sims Γ s' m' (add_k (text (bytes_of chunk t)) σ) → SimD Γ s' m' (new_of kind.K i) (text_c (bytes_of chunk t) σ)
  text_desc t i z x = fresh_desc (new_of kind.K i) (kd (kc (text (bytes_of chunk t)))) σ.free (add_k (text (bytes_of chunk t)) σ) on.old refl refl x ((refl, (z, listed_include (text (bytes_of chunk t)) σ.tab)), x.sim)

  -- `...`
  sim_vararg : Ends ((emit (abc_of op.VarArg 0 1 0) >>= (λ pc. return (new_of kind.VarArg pc))) s m) (λ e s' m'. SimD Γ s' m' e (fresh kva σ.free (flush σ)))
  unfolding flush
  sim_vararg = rw (emit_instead (abc_of op.VarArg 0 2 0) (abc_of op.VarArg 0 1 0) s m) (ends_then {P = λ pc s₁ m₁. (m₀ : Buffers) × ((m₁ ≡ with_code (set m₀.code pc (abc_of op.VarArg 0 1 0)) m₀) × ((pc ≡ size σ.code) × Sim Γ s₁ m₀ (set_h 0 0 h.heads) (pl (setw 0 vfst) ∷ edit (here σ.code) σ.code) σ.free σ.tab))}
      (ends_then (sim_emit h.sim (setw 0 vfst) (abc_of op.VarArg 0 2 0) refl (λ us z. (omega (arith, h.sim.two), z))) (λ pc s₁ m₀ q. gives pc s₁ _ refl (m₀, (refl, (q.0, q.1.1)))))
      (λ pc s₁ m₁ q. gives _ s₁ m₁ refl (held pc s₁ m₁ q.0 q.1.0 q.1.1.0 q.1.1.1)))
    where
      held : (pc : ℕ) (s₁ : State) (m₁ m₀ : Buffers) → m₁ ≡ with_code (set m₀.code pc (abc_of op.VarArg 0 1 0)) m₀ → pc ≡ size σ.code → Sim Γ s₁ m₀ (set_h 0 0 h.heads) (pl (setw 0 vfst) ∷ edit (here σ.code) σ.code) σ.free σ.tab → SimD Γ s₁ m₁ (new_of kind.VarArg pc) (fresh kva σ.free (flush σ))
      held pc s₁ m₁ m₀ e z x = rw (e, z) (fresh_held (set_h 0 0 h.heads) (pl (setw 0 vfst)) (new_of kind.VarArg (size σ.code)) kva σ.free σ.free (flush σ) tt (flush_u σ.nxt (omega (arith, on.up)) σ on.old) refl refl x
          (refl, (sym sizes, (rw (same_refl 0) refl, (rw sizes (word_same m₀.code (size σ.code) _ inside), rw sizes back)))))
        where
          sizes : size (edit (here σ.code) σ.code) ≡ size σ.code
          sizes = size_edit (here σ.code) σ.code

          w_is : word m₀.code (size σ.code) ≡ abc_of op.VarArg 0 2 0
          w_is = rw sizes at x.holds.rep.enc.0.1

          inside : size σ.code < length m₀.code
          inside = within (edit (here σ.code) σ.code) x.holds.rep.fits x.holds.rep.len sizes

          same_words : set (set m₀.code (size σ.code) (abc_of op.VarArg 0 1 0)) (size σ.code) (abc_of op.VarArg 0 2 0) ≡ m₀.code
          same_words = set-set m₀.code (size σ.code) _ _ ∙ subst (λ w. set m₀.code (size σ.code) w ≡ m₀.code) w_is (set-get_or m₀.code (size σ.code) 0)

          back : Sim Γ s₁ (with_code (set (set m₀.code (size σ.code) (abc_of op.VarArg 0 1 0)) (size σ.code) (abc_of op.VarArg 0 2 0)) m₀) (set_h 0 0 h.heads) (pl (setw 0 vfst) ∷ edit (here σ.code) σ.code) σ.free σ.tab
          back = rw same_words x

  -- a name that is no local's
  module _ (hd : Header) (names : List Text) where
    sim_resolved : (t : Text) (o : Option ℕ) → ShortText chunk t → Sound Γ σ.free (resolved_l chunk names (bytes_of chunk t) o σ) → Ends (resolved chunk hd t o s m) (λ e s' m'. SimD Γ s' m' e (resolved_l chunk names (bytes_of chunk t) o σ))
    unfolding fresh
    sim_resolved t (some r) short w = gives _ s m refl (fresh_desc (new_of kind.Local r) (kl r) σ.free σ on.old refl refl h (refl, (refl, (omega (arith, w.own.1, w.locals, h.sim.taken), h.sim))))
    sim_resolved t none short w = ends_then (text_listed t short) (λ i s' m' q. gives _ s' m' refl (fresh_desc (new_of kind.Global i) (kg (bytes_of chunk t)) σ.free (add_k (text (bytes_of chunk t)) σ) on.old refl refl q.1.1 (refl, (q.0, (listed_include (text (bytes_of chunk t)) σ.tab, q.1.1.sim)))))

    pub sim_leaf : names ≡ names_of (names_at chunk hd.locals hd.names) → (l : Leaf) → ShortLeaf chunk l → Sound Γ σ.free (comp_leaf chunk names l σ) → Ends (leaf_expr chunk hd l s m) (λ e s' m'. SimD Γ s' m' e (comp_leaf chunk names l σ))
    unfolding leaf_expr comp_leaf resolve_var
    sim_leaf nm leaf.Nil short w = gives _ s m refl (fresh_desc (new_of kind.Nil 0) (kd (kc nil)) σ.free σ on.old refl refl h (refl, h.sim))
    sim_leaf nm leaf.True short w = gives _ s m refl (fresh_desc (new_of kind.True 0) (kd (kc (truth true))) σ.free σ on.old refl refl h (refl, h.sim))
    sim_leaf nm leaf.False short w = gives _ s m refl (fresh_desc (new_of kind.False 0) (kd (kc (truth false))) σ.free σ on.old refl refl h (refl, h.sim))
    sim_leaf nm (leaf.Number b) short w = gives _ s m refl (fresh_desc (descriptor_of (numeral_of b)) (kd (kc (number b))) σ.free σ on.old refl refl h ((refl, (refl, refl)), h.sim))
    sim_leaf nm (leaf.Str t) short w = ends_then (text_listed t short) (λ i s' m' q. gives _ s' m' refl (text_desc t i q.0 q.1.1))
    sim_leaf nm leaf.VarArg short w = sim_vararg
    sim_leaf nm (leaf.Name t) short w = subst (λ ns. Ends (resolved chunk hd t (search_local chunk (bytes_of chunk t) ns 0) s m) (λ e s' m'. SimD Γ s' m' e (resolved_l chunk names (bytes_of chunk t) (search_local chunk (bytes_of chunk t) names 0) σ))) nm (sim_resolved t (search_local chunk (bytes_of chunk t) names 0) short w)
