-- The end of `exp2reg`, `settle`, from a state that holds represented code: it is refused, or done and holds the code in which the jumps of both lists have landed,
-- with the loads of false and true where `hit` says that some jump brings no value, and with a jump over them unless a comparison came last.
-- ---- `load_both`, of a comparison, whose jump is in a list already, and of another value, which jumps over the loads
use Rattle.std.specs.Prelude.{ℕ, suc, ◌+◌, ◌<◌, Bool, true, false, ◌||◌, ◌≡◌, refl, List, ◌∷◌, length}
use Rattle.std.proofs.Common.{sym, ◌∙◌}
use Rattle.instructions.specs.Limits.{no_reg}
use Rattle.instructions.specs.Word.{abc_of}
use Rattle.opcodes.specs.declared.OpCode.TheVariants.{LoadBool}
use Rattle.model.specs.declared.State.{State}
use Rattle.model.specs.declared.ExprContext.{ExprContext}
use Rattle.model.specs.Values.{truth}
use Rattle.model.specs.Steps.{Buffers, ◌>>=◌}
use Rattle.model.specs.Jumps.{word, need_value}
use Rattle.model.specs.Emission.{with_pc, with_jpc, with_label, get_label}
use Rattle.model.specs.declared.ExprKind.TheVariants.{Jmp}
use Rattle.model.specs.Descriptor.{is_kind}
use Rattle.model.specs.Discharge.{land as land_both, load_both, settle}
use Rattle.labelled.specs.Code.{same, same_refl, same_ne, same_true, val, setw, lbs, mark, always, lbl, pl, br, Code, size, re, edit}
use Rattle.threads.specs.Encoding.{Coding}
use Rattle.threads.specs.Represents.{set_h}
use Rattle.threads.specs.Holding.{Ends, gives, ends_then, ends_map, Holds, Aside, aside_with, Kept, kept_trans}
use Rattle.threads.specs.Needs.{need_hit}
use Rattle.threads.specs.Stepping.{hold_jump, hold_heads}
use Rattle.threads.proofs.Landing.{hold_land_all, hold_both}
use Rattle.labelled.specs.Machine.{pick}
use Rattle.labelled.specs.Emission.{hit, one}
use Rattle.labelled.specs.Discharge.{lands, pair_g}
use Rattle.threads.specs.Settling.{load_both_jmp, load_both_over, settle_is}

module _ {K : Coding} {cap : ℕ} {s : State} {m : Buffers} {H : ℕ → ℕ} {c : Code} (h : Holds K cap s m H c) (e : ExprContext) (j t f : ℕ) (ej : H j ≡ 0) (et : e.t ≡ H t) (ef : e.f ≡ H f)
    (j0 : j ≡ 0 → ⊥) (t0 : t ≡ 0 → ⊥) (f0 : f ≡ 0 → ⊥) (jt : j ≡ t → ⊥) (jf : j ≡ f → ⊥) (tf : t ≡ f → ⊥) (reg : ℕ) (rr : reg < no_reg)
    (no : (us : List ℕ) (n : ℕ) → word us n ≡ abc_of LoadBool reg 0 1 → K.plain us n (lbs reg false)) (yes : (us : List ℕ) (n : ℕ) → word us n ≡ abc_of LoadBool reg 1 0 → K.plain us n (setw reg (val (truth true))))
    (mk : (us : List ℕ) (n : ℕ) → K.plain us n mark) where
  -- the code with the loads
  abbrev loaded : Code → Code
  loaded d = pl (setw reg (val (truth true))) ∷ (pl (lbs reg false) ∷ edit (pair_g d j t f reg) d)

  -- and with the jump over them
  abbrev overs : Code
  overs = br always (lbl j) ∷ edit (one 0 (re j true)) c

  -- where some jump brings no value (v); of a comparison (k)
  abbrev settled : Bool → Bool → Code
  settled v k = pick v (pick k (loaded c) (loaded overs)) (pl mark ∷ edit (lands t f reg (size c) (size c) (size c)) c)

  -- the lists of t, f and j are gone; the jump over the loads leads to here
  abbrev settled_heads : Bool → Bool → ℕ → ℕ
  settled_heads v k = set_h t 0 (set_h f 0 (set_h j 0 (set_h 0 (pick v (pick k 0 (suc (size c))) (H 0)) H)))

  abbrev Settles : Bool → Bool → State → Buffers → Type 0
  Settles v k s' m' = Aside s s' × (s'.label ≡ s'.pc + 1) × Kept m m' × Holds K cap s' m' (settled_heads v k) (settled v k)

  hold_load_jmp : is_kind Jmp e ≡ true → Ends (load_both e reg s m) (λ u s' m'. Settles true true s' m')
  hold_load_jmp k = rw (load_both_jmp e reg s m k) (ends_map (hold_both h e j t f 0 (sym ej) et ef j0 t0 f0 jt jf tf reg rr no yes) (λ u s' m' p.
      (aside_with _ _ _ p.state, rw p.state refl, p.kept, hold_heads p.holds (settled_heads true true) heads)))
    where
      heads : (ℓ : ℕ) → set_h t 0 (set_h f 0 (set_h 0 (H j) (set_h j 0 (set_h 0 0 H)))) ℓ ≡ settled_heads true true ℓ
      heads ℓ = rw ej (go (same ℓ t) (same ℓ f) (same ℓ 0) (same ℓ j))
        where
          go : (a b z i : Bool) → pick a 0 (pick b 0 (pick z 0 (pick i 0 (pick z 0 (H ℓ))))) ≡ pick a 0 (pick b 0 (pick i 0 (pick z 0 (H ℓ))))
          go true b z i = refl
          go false true z i = refl
          go false false true true = refl
          go false false true false = refl
          go false false false true = refl
          go false false false false = refl

  hold_load_over : is_kind Jmp e ≡ false → Ends (load_both e reg s m) (λ u s' m'. Settles true false s' m')
  hold_load_over k = rw (load_both_over e reg s m k) (ends_then (hold_jump h j j0 ej) (λ over s₁ m₁ p.
      ends_map (hold_both p.1.holds e j t f over (p.0 ∙ sym head) (et ∙ sym (old t t0 jt)) (ef ∙ sym (old f f0 jf)) j0 t0 f0 jt jf tf reg rr no yes) (λ u s' m' q.
      let z : s' ≡ with_label (s.pc + 1 + 1 + 1 + 1) (with_jpc over (with_pc (s.pc + 1 + 1 + 1) s)) = q.state ∙ rw p.1.state refl in
      (aside_with _ _ _ z, rw z refl, kept_trans p.1.kept q.kept, hold_heads q.holds (settled_heads true false) heads))))
    where
      H₂ : ℕ → ℕ
      H₂ = set_h j (suc (size c)) (set_h 0 0 H)

      head : H₂ j ≡ suc (size c)
      head = rw (same_refl j) refl

      old : (ℓ : ℕ) → (ℓ ≡ 0 → ⊥) → (j ≡ ℓ → ⊥) → H₂ ℓ ≡ H ℓ
      old ℓ l0 jl = rw (same_ne ℓ j (λ y. jl (sym y)), same_ne ℓ 0 l0) refl

      heads : (ℓ : ℕ) → set_h t 0 (set_h f 0 (set_h 0 (H₂ j) (set_h j 0 (set_h 0 0 H₂)))) ℓ ≡ settled_heads true false ℓ
      heads ℓ = rw head (go (same ℓ t) (same ℓ f) (same ℓ 0) (same ℓ j) refl refl)
        where
          go : (a b z i : Bool) → same ℓ 0 ≡ z → same ℓ j ≡ i →
              pick a 0 (pick b 0 (pick z (suc (size c)) (pick i 0 (pick z 0 (pick i (suc (size c)) (pick z 0 (H ℓ))))))) ≡ pick a 0 (pick b 0 (pick i 0 (pick z (suc (size c)) (H ℓ))))
          go true b z i x y = refl
          go false true z i x y = refl
          go false false true true x y = absurd (j0 (sym (same_true ℓ j y) ∙ same_true ℓ 0 x))
          go false false true false x y = refl
          go false false false true x y = refl
          go false false false false x y = refl

  hold_load_none : Ends ((get_label >>= (λ final. land_both e reg final final final)) s m) (λ u s' m'. Settles false false s' m')
  hold_load_none =
      let q = hold_land_all h e t f et ef t0 f0 tf reg rr mk in
      gives tt _ _ q.0 (record { at = refl; line = refl; table = refl; active = refl; free = refl; frame = refl }, refl, record { kinds = refl; values = refl; pool = refl }, hold_heads q.1 (settled_heads false false) heads)
    where
      heads : (ℓ : ℕ) → set_h t 0 (set_h f 0 H) ℓ ≡ settled_heads false false ℓ
      heads ℓ = go (same ℓ t) (same ℓ f) (same ℓ j) (same ℓ 0) refl refl
        where
          go : (a b i z : Bool) → same ℓ j ≡ i → same ℓ 0 ≡ z → pick a 0 (pick b 0 (H ℓ)) ≡ pick a 0 (pick b 0 (pick i 0 (pick z (H 0) (H ℓ))))
          go true b i z x y = refl
          go false true i z x y = refl
          go false false true z x y = rw (same_true ℓ j x) ej
          go false false false true x y = rw (same_true ℓ 0 y) refl
          go false false false false x y = refl

  -- the end of `exp2reg`
  pub hold_settle : Ends (settle e reg s m) (λ u s' m'. Settles (hit true t f c) (is_kind Jmp e) s' m')
  hold_settle = go (hit true t f c) (is_kind Jmp e) refl refl
    where
      need : (need_value (length m.code) m.code e.t || need_value (length m.code) m.code e.f) ≡ hit true t f c
      need = rw (et, ef) (need_hit h.rep t f)

      go : (v k : Bool) → hit true t f c ≡ v → is_kind Jmp e ≡ k → Ends (settle e reg s m) (λ u s' m'. Settles v k s' m')
      go true true a b = rw (settle_is e reg s m true (need ∙ a)) (hold_load_jmp b)
      go true false a b = rw (settle_is e reg s m true (need ∙ a)) (hold_load_over b)
      go false true a b = rw (settle_is e reg s m false (need ∙ a)) hold_load_none
      go false false a b = rw (settle_is e reg s m false (need ∙ a)) hold_load_none
