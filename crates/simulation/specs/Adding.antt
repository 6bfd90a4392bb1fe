-- A constant added to the model's table, with words, lists and registers as they were; and the tests whether a constant is near, a numeral far, the table roomy, which are labelled code's.
use Rattle.std.specs.Prelude.{ℕ, Bool, true, false, not, ◌≡◌, List, ltb, Some, None, Ok, Err}
use Rattle.std.proofs.Math.Path.{refl, ap}
use Rattle.std.proofs.Common.{sym, ◌∙◌, subst, arith, leb-true, leb-false, lt-ltb, le-ltb}
use Rattle.std.proofs.Math.Dec.{leb}
use Rattle.instructions.specs.Limits.{max_index_rk}
use Rattle.constants.specs.Entry.{Constant, constant_of, holds}
use Rattle.constants.specs.Table.{Out, find, added as added_to, Found, Added}
use Rattle.constants.specs.Laws.{late_added}
use Rattle.constants.specs.Distinct.{Short}
use Rattle.constants.specs.declared.Table.{Table}
use Rattle.constants.specs.declared.Val.{Val}
use Rattle.model.specs.declared.State.{State}
use Rattle.model.specs.Steps.{Buffers}
use Rattle.model.specs.Emission.{with_table, keep, add_constant}
use Rattle.model.specs.Operators.{is_far}
use Rattle.labelled.specs.Code.{Code}
use Rattle.labelled.specs.Table.{place, include, roomy, is_near}
use Rattle.labelled.specs.Places.{grows_include}
use Rattle.threads.specs.Holding.{Ends, gives, refuses, ends_map, with_code}
use Rattle.threads.specs.Stepping.{hold_same, hold_grow}
use Rattle.threads.specs.Coded.{more_coded}
use Rattle.simulation.specs.Tabled.{Tabled}
use Rattle.simulation.specs.Sim.{Env, Sim}
use Rattle.simulation.specs.Steps.{marks_same}
use Rattle.simulation.specs.Constants.{found_place, found_none, tabled_added}

-- whatever code stands, it stands on with the constant listed
abbrev pub Adds : Env → State → Buffers → List Constant → Constant → State → Buffers → Type 0
Adds Γ s m t k s' m' = (H : ℕ → ℕ) (c : Code) (f : ℕ) (us : List ℕ) → Sim Γ s (with_code us m) H c f t → Sim Γ s' (with_code us m') H c f (include k t)

module _ (Γ : Env) (s : State) (m : Buffers) {t : List Constant} (tab : Tabled t s.table m.kinds m.values m.pool) (chunk : List ℕ) (v : Val) (short : Short chunk v) where
  abbrev k : Constant
  k = constant_of chunk v

  -- `add_constant`
  pub add_moves : Ends (add_constant chunk v s m) (λ i s' m'. (i ≡ place k t) × ((s'.frame ≡ s.frame) × ((m'.code ≡ m.code) × Adds Γ s m t k s' m')))
  unfolding add_constant
  add_moves = go (added_to chunk s.table v m.kinds m.values m.pool).answer refl
    where
      o : Out
      o = added_to chunk s.table v m.kinds m.values m.pool

      m₁ : Buffers
      m₁ = record { code = m.code; lines = m.lines; kinds = o.kinds; values = o.values; pool = o.pool }

      moved : (b : Table) → Tabled (include k t) b o.kinds o.values o.pool → Adds Γ s m t k (with_table b s) m₁
      moved b q H c f us h = record {
        holds = hold_same (hold_grow h.holds (more_coded t (include k t) s.frame s.frame (grows_include k t) (omega arith))) (with_table b s) (with_code us m₁) refl refl refl;
        low = h.low;
        free = h.free;
        taken = h.taken;
        two = h.two;
        most = h.most;
        least = h.least;
        locals = h.locals;
        at = h.at;
        line = h.line;
        table = q;
        label = h.label;
        marks = marks_same h c _ refl refl h.marks;
        others = h.others;
      }

      go : (a : Added) → o.answer ≡ a → Ends (keep o.answer s m₁) (λ i s' m'. (i ≡ place k t) × ((s'.frame ≡ s.frame) × ((m'.code ≡ m.code) × Adds Γ s m t k s' m')))
      go (Err r) e = rw e (refuses r m₁ (late_added chunk s.table v m.kinds m.values m.pool r e) refl)
      go (Ok (i, b)) e =
          let q = tabled_added tab chunk v short i b o.kinds o.values o.pool (rw e refl) in
          rw e (gives i (with_table b s) m₁ refl (q.0, (refl, (refl, moved b q.1))))

module _ {Γ : Env} {s : State} {m : Buffers} {H : ℕ → ℕ} {c : Code} {f : ℕ} {t : List Constant} (h : Sim Γ s m H c f t) where
  pub sim_add : (chunk : List ℕ) (v : Val) → Short chunk v → Ends (add_constant chunk v s m) (λ i s' m'. (i ≡ place (constant_of chunk v) t) × ((s'.frame ≡ s.frame) × ((m'.code ≡ m.code) × Sim Γ s' m' H c f (include (constant_of chunk v) t))))
  sim_add chunk v short = ends_map (add_moves Γ s m h.table chunk v short) (λ i s' m' p. (p.0, (p.1.0, (p.1.1.0, back s' m' p.1.1.0 (p.1.1.1 H c f m.code h)))))
    where
      back : (s' : State) (m' : Buffers) → m'.code ≡ m.code → Sim Γ s' (with_code m.code m') H c f (include (constant_of chunk v) t) → Sim Γ s' m' H c f (include (constant_of chunk v) t)
      back s' m' e x = subst (λ us. Sim Γ s' (with_code us m') H c f (include (constant_of chunk v) t)) (sym e) x

  -- near, far, roomy
  pub near_is : (i : ℕ) (k : Constant) → i ≡ place k t → leb i max_index_rk ≡ is_near k t
  unfolding is_near
  near_is i k e = ap (λ z. leb z max_index_rk) e

  pub roomy_is : leb s.table.count max_index_rk ≡ roomy t
  unfolding roomy
  roomy_is = ap (λ z. leb z max_index_rk) h.table.count

not_leb : (a b : ℕ) → ltb b a ≡ not (leb a b)
not_leb a b = go (leb a b) refl
  where
    go : (x : Bool) → leb a b ≡ x → ltb b a ≡ not x
    go true e = le-ltb b a (leb-true a b e)
    go false e = lt-ltb b a (leb-false a b e)

pub far_is : {t : List Constant} {b : Table} {ks ws pool : List ℕ} (tab : Tabled t b ks ws pool) (chunk : List ℕ) (v : Val) → is_far (find (holds pool chunk v) b.count ks ws) b.count ≡ not (is_near (constant_of chunk v) t)
unfolding is_near
far_is {t = t} {b = b} {ks = ks} {ws = ws} {pool = pool} tab chunk v = go (find (holds pool chunk v) b.count ks ws) refl
  where
    go : (r : Found) → find (holds pool chunk v) b.count ks ws ≡ r → is_far r b.count ≡ not (is_near (constant_of chunk v) t)
    go (Some i) e = rw (found_place tab chunk v i e).0 (not_leb (place (constant_of chunk v) t) max_index_rk)
    go None e = rw (tab.count ∙ sym (found_none tab chunk v e)) (not_leb (place (constant_of chunk v) t) max_index_rk)
