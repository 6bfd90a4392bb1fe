-- What emission takes: a price of a word at most for each; constants what they cost, and a constant that is listed nothing; registers and jump lists nothing.
-- ---- constants
use Rattle.std.specs.Prelude.{ℕ, ◌+◌, Bool, ◌≡◌, List, drop, leb, Some, None}
use Rattle.std.proofs.Math.Bool.{true, false}
use Rattle.std.proofs.Math.Path.{refl}
use Rattle.std.proofs.Math.ListN.{length}
use Rattle.constants.specs.Entry.{part, holds}
use Rattle.constants.specs.Table.{added as added_to, append, find, full, Found}
use Rattle.constants.specs.Laws.{added_there, added_full, added_new}
use Rattle.constants.specs.declared.Val.{Val}
use Rattle.constants.specs.declared.Val.TheVariants as val
use Rattle.model.specs.declared.State.{State}
use Rattle.model.specs.Steps.{Buffers}
use Rattle.model.specs.Emission.{add_constant}
use Rattle.simulation.specs.Texts.{take_at_most}
use Rattle.bound.specs.Takes.{Resource, Room, Takes}
use Rattle.bound.specs.Emission.{Fair, fair_full, fair_plain, fair_text, fair_there, kept_in, price}

module _ (cap : ℕ) (s : State) (m : Buffers) where
  module _ (R : Resource) (l : Room R cap m) where
    fair_append : (chunk : List ℕ) (v : Val) → Fair R cap s (price R v) (append chunk s.table v m.kinds m.values m.pool).answer
    unfolding append
    fair_append chunk val.Nil = fair_plain cap s m R s.table.count
    fair_append chunk (val.Bool false) = fair_plain cap s m R s.table.count
    fair_append chunk (val.Bool true) = fair_plain cap s m R s.table.count
    fair_append chunk (val.Num x b) = fair_plain cap s m R s.table.count
    fair_append chunk (val.Str i n) = fair_text cap s m R (leb (s.table.used + length (part chunk i n)) (length m.pool)) (part chunk i n) n l (take_at_most n (drop i chunk)) refl

    pub fair_added : (chunk : List ℕ) (v : Val) → Fair R cap s (price R v) (added_to chunk s.table v m.kinds m.values m.pool).answer
    fair_added chunk v = search (find (holds m.pool chunk v) s.table.count m.kinds m.values) refl
      where
        room : find (holds m.pool chunk v) s.table.count m.kinds m.values ≡ None → (b : Bool) → full s.table.count m.kinds m.values ≡ b → Fair R cap s (price R v) (added_to chunk s.table v m.kinds m.values m.pool).answer
        room e true f = rw (added_full chunk s.table v m.kinds m.values m.pool e refl f refl) (fair_full cap s m R v l f)
        room e false f = rw (added_new chunk s.table v m.kinds m.values m.pool e refl f refl refl) (fair_append chunk v)

        search : (f : Found) → find (holds m.pool chunk v) s.table.count m.kinds m.values ≡ f → Fair R cap s (price R v) (added_to chunk s.table v m.kinds m.values m.pool).answer
        search (Some i) e = rw (added_there chunk s.table v m.kinds m.values m.pool e refl) (fair_there cap s m R (price R v) i)
        search None e = room e (full s.table.count m.kinds m.values) refl

module _ {R : Resource} {cap : ℕ} where
  pub takes_add_constant : (chunk : List ℕ) (v : Val) → Takes R cap (price R v) (add_constant chunk v)
  unfolding add_constant
  takes_add_constant chunk v s m l = kept_in cap s m R l chunk v (price R v) _ _ _ _ refl (fair_added cap s m R l chunk v)
