-- What labelled code says of the lowering of an expression, gathered: what its descriptor owns, that its labels are new and different, that its constants are listed.
use Rattle.std.specs.Prelude.{ℕ, ◌≤◌, ◌≡◌, List, length}
use Rattle.std.proofs.Common.{sym, subst, arith}
use Rattle.cursor.specs.declared.Text.{Text}
use Rattle.chunk.specs.Ast.{Expr}
use Rattle.labelled.specs.Emission.{St}
use Rattle.labelled.specs.Expressions.{comp}
use Rattle.labelled.specs.Places.{Grows}
use Rattle.labelled.specs.Owning.{Own}
use Rattle.labelled.specs.Fresh.{On}
use Rattle.labelled.proofs.Fresh.{comp_new}
use Rattle.labelled.proofs.Shape.{comp_shaped}
use Rattle.labelled.proofs.Listing.{comp_makes}
use Rattle.simulation.specs.Sim.{Env, Sound}

module _ (chunk : List ℕ) (names : List Text) where
  pub sound_comp : (Γ : Env) (a : Expr) (σ : St) → Γ.active ≡ length names → 1 ≤ Γ.n → On Γ.n σ → length names ≤ σ.free → Sound Γ σ.free (comp chunk names a σ)
  sound_comp Γ a σ e o on l =
      let w = comp_shaped chunk names a σ (omega (arith, on.up)) l in
      record {
        own = subst (λ n. Own n σ.free (comp chunk names a σ).de.kind (comp chunk names a σ).st.free) (sym e) w.own;
        new = comp_new chunk names Γ.n o a σ on;
        ok = (comp_makes chunk names a σ (omega (arith, on.up)) l).kind_ok;
        differ = w.differ;
        some = o;
        locals = omega (arith, e);
      }

  pub comp_grows : (a : Expr) (σ : St) → 1 ≤ σ.nxt → length names ≤ σ.free → Grows σ.tab (comp chunk names a σ).st.tab
  comp_grows a σ o l = (comp_makes chunk names a σ o l).way.grows
