-- A label that labelled code has not given yet has no jump: its list is empty, and an edit of it changes nothing.
use Rattle.std.specs.Prelude.{ℕ, ◌≤◌, Bool, true, false, not, ◌||◌, ◌≡◌, refl, List, [], ◌∷◌}
use Rattle.std.proofs.Common.{ap, ◌∙◌, arith}
use Rattle.std.proofs.Math.Option.{none}
use Rattle.constants.specs.Entry.{Constant}
use Rattle.model.specs.declared.State.{State}
use Rattle.model.specs.Steps.{Buffers}
use Rattle.labelled.specs.Code.{same, same_ne, same_true, Ctrl, always, test, tset, tseta, cmp, to, lbl, pl, br, Code, Act, keep, land, ed_br, edit}
use Rattle.labelled.specs.Machine.{pick}
use Rattle.labelled.specs.Emission.{one, hit}
use Rattle.labelled.specs.Fresh.{Under, under_none}
use Rattle.labelled.specs.Firm.{true≢false}
use Rattle.threads.specs.Needs.{some_hit}
use Rattle.simulation.specs.Sim.{Env, Sim}

pub edit_under : (n ℓ : ℕ) (a : Act) → n ≤ ℓ → (c : Code) → Under n c → edit (one ℓ a) c ≡ c
unfolding edit
edit_under n ℓ a l [] h = refl
edit_under n ℓ a l (pl w ∷ c) h = ap (λ z. pl w ∷ z) (edit_under n ℓ a l c h.1)
edit_under n ℓ a l (br k (to p) ∷ c) h = ap (λ z. br k (to p) ∷ z) (edit_under n ℓ a l c h.1)
edit_under n ℓ a l (br k (lbl m) ∷ c) h = rw (same_ne m ℓ (λ e. omega (arith, h.0))) (ap (λ z. br k (lbl m) ∷ z) (edit_under n ℓ a l c h.1))

pub no_list : {Γ : Env} {s : State} {m : Buffers} {H : ℕ → ℕ} {c : Code} {f : ℕ} {t : List Constant} (h : Sim Γ s m H c f t) (ℓ : ℕ) → hit false ℓ ℓ c ≡ false → H ℓ ≡ 0
no_list {H = H} {c = c} h ℓ e = go (same (H ℓ) 0) refl (some_hit h.holds.rep ℓ ℓ ∙ e)
  where
    go : (b : Bool) → same (H ℓ) 0 ≡ b → (not b || not b) ≡ false → H ℓ ≡ 0
    go true q z = same_true (H ℓ) 0 q
    go false q z = absurd (true≢false z)

pub under_list : {Γ : Env} {s : State} {m : Buffers} {H : ℕ → ℕ} {c : Code} {f : ℕ} {t : List Constant} (h : Sim Γ s m H c f t) (n ℓ : ℕ) → n ≤ ℓ → Under n c → H ℓ ≡ 0
under_list {c = c} h n ℓ l u = no_list h ℓ (under_none n ℓ l c u)

pub no_lists : {Γ : Env} {s : State} {m : Buffers} {H : ℕ → ℕ} {c : Code} {f : ℕ} {t : List Constant} (h : Sim Γ s m H c f t) (a b : ℕ) → hit false a b c ≡ false → (H a ≡ 0) × (H b ≡ 0)
no_lists {H = H} {c = c} h a b e = go (same (H a) 0) (same (H b) 0) refl refl (some_hit h.holds.rep a b ∙ e)
  where
    go : (x y : Bool) → same (H a) 0 ≡ x → same (H b) 0 ≡ y → (not x || not y) ≡ false → (H a ≡ 0) × (H b ≡ 0)
    go true true p q z = (same_true (H a) 0 p, same_true (H b) 0 q)
    go true false p q z = absurd (true≢false z)
    go false y p q z = absurd (true≢false z)

-- jumps to here that have landed do not land again
pub edit_landed : (a : Act) (v d : ℕ) (c : Code) → edit (one 0 a) (edit (one 0 (land v none d)) c) ≡ edit (one 0 (land v none d)) c
unfolding edit
edit_landed a v d [] = refl
edit_landed a v d (pl w ∷ c) = ap (λ z. pl w ∷ z) (edit_landed a v d c)
edit_landed a v d (br k (to p) ∷ c) = ap (λ z. br k (to p) ∷ z) (edit_landed a v d c)
edit_landed a v d (br k (lbl m) ∷ c) = go (same m 0) refl (edit_landed a v d c)
  where
    landed : (k : Ctrl) (z : Code) → edit (one 0 a) (ed_br (land v none d) k m ∷ z) ≡ ed_br (land v none d) k m ∷ edit (one 0 a) z
    landed always z = refl
    landed (test b k) z = refl
    landed (tset b k) z = refl
    landed (tseta r b k) z = refl
    landed (cmp o k x y) z = refl

    go : (t : Bool) → same m 0 ≡ t → edit (one 0 a) (edit (one 0 (land v none d)) c) ≡ edit (one 0 (land v none d)) c → edit (one 0 a) (ed_br (pick t (land v none d) keep) k m ∷ edit (one 0 (land v none d)) c) ≡ ed_br (pick t (land v none d) keep) k m ∷ edit (one 0 (land v none d)) c
    go true e h = landed k (edit (one 0 (land v none d)) c) ∙ ap (λ z. ed_br (land v none d) k m ∷ z) h
    go false e h = rw e (ap (λ z. br k (lbl m) ∷ z) h)

pub under_both : (n a b : ℕ) → n ≤ a → n ≤ b → (c : Code) → Under n c → hit false a b c ≡ false
unfolding hit
under_both n a b l k [] h = refl
under_both n a b l k (pl w ∷ c) h = under_both n a b l k c h.1
under_both n a b l k (br d (to p) ∷ c) h = under_both n a b l k c h.1
under_both n a b l k (br d (lbl m) ∷ c) h = rw (same_ne m a (λ e. omega (arith, h.0)), same_ne m b (λ e. omega (arith, h.0))) (under_both n a b l k c h.1)
