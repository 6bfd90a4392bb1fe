-- What emission takes: a price of a word at most for each; constants what they cost, and a constant that is listed nothing; registers and jump lists nothing.
-- What rests on something that a must-fail edit breaks stands in proofs/Emission.antt.
use Rattle.std.specs.Prelude.{ℕ, ◌+◌, ◌-◌, ◌≤◌, max, Bool, ◌&&◌, ◌≡◌, List, leb, ltb, Ok, Err}
use Rattle.std.proofs.Math.Bool.{true, false}
use Rattle.std.proofs.Math.Path.{refl}
use Rattle.std.proofs.Common.{sym, ◌∙◌, arith, length-set, leb-false}
use Rattle.std.proofs.Math.ListN.{length}
use Rattle.std.proofs.Math.Dec.{eqb}
use Rattle.std.proofs.lemmas.Bool.{lt-leb}
use Rattle.refusals.specs.declared.Refusal.TheVariants.{Registers, Constants, Pool, Words}
use Rattle.instructions.specs.Limits.{no_reg, max_words, max_stack, bit_rk, max_constants}
use Rattle.instructions.specs.Word.{b_of, set_b_of}
use Rattle.constants.specs.Table.{added as added_to, stored_text, out, full, Added}
use Rattle.constants.specs.Distinct.{Kept, kept_added}
use Rattle.constants.specs.declared.Val.{Val}
use Rattle.constants.specs.declared.Val.TheVariants as val
use Rattle.model.specs.declared.State.{State}
use Rattle.model.specs.Steps.{Buffers, done, refused, Step, and_then, change, change_words}
use Rattle.model.specs.Jumps.{word, remove_values, patch_list_aux}
use Rattle.model.specs.Emission.{with_pc, with_table, with_free, with_frame, with_jpc, with_label, discharge_jpc, no_room, store, push, emit_at, emit, concat, emit_jump, patch_to_here, get_label, code_label, adjoins, load_nil, emit_nil, check_stack, reserve_regs, alloc_reg, free_reg, stored_in}
use Rattle.model.specs.Discharge.{change_word}
use Rattle.padding.specs.Lengths.{length_linked, length_remove, length_patch_list}
use Rattle.bound.specs.Takes.{Resource, words, entries, text, used, per_word, per_constant, per_text, want, Room, Leaves, left, none, Any, Takes, other, at_most, takes_then, nothing_then, then_nothing, takes_return, takes_skip, gives_refuse, takes_get, takes_code_now, used_same, takes_change, room_same, takes_change_words, spends_if}

-- ---- constants

abbrev pub price : Resource → Val → ℕ
price R val.Nil = per_constant R
price R (val.Bool b) = per_constant R
price R (val.Num x b) = per_constant R
price R (val.Str s n) = per_text R n

one_entry : (v : Val) → price entries v ≡ 1
one_entry val.Nil = refl
one_entry (val.Bool b) = refl
one_entry (val.Num x b) = refl
one_entry (val.Str s n) = refl

-- the table's answer takes no more than p, and doesn't refuse for want of what fits
abbrev pub Fair : Resource → ℕ → State → ℕ → Added → Type 0
Fair R cap s p (Ok (i, t)) = used R (with_table t s) ≤ used R s + p
Fair R cap s p (Err x) = used R s + p ≤ cap → x ≡ want R → ⊥

module _ (cap : ℕ) (s : State) (m : Buffers) where
  pub fair_there : (R : Resource) (p i : ℕ) → Fair R cap s p (Ok (i, s.table))
  fair_there words p i = omega arith
  fair_there entries p i = omega arith
  fair_there text p i = omega arith

  pub fair_plain : (R : Resource) (i : ℕ) → Fair R cap s (per_constant R) (Ok (i, record { count = s.table.count + 1; used = s.table.used + 0 }))
  fair_plain words i = omega arith
  fair_plain entries i = omega arith
  fair_plain text i = omega arith

  pub fair_full : (R : Resource) (v : Val) → Room R cap m → full s.table.count m.kinds m.values ≡ true → Fair R cap s (price R v) (Err Constants)
  fair_full words v r e = λ h. other Constants Words (λ y. omega (arith, y))
  fair_full text v r e = λ h. other Constants Pool (λ y. omega (arith, y))
  fair_full entries v r e = λ h g.
      let free : full s.table.count m.kinds m.values ≡ false = rw (lt-leb (length m.kinds) s.table.count (omega (arith, r.0, h, one_entry v)), lt-leb (length m.values) s.table.count (omega (arith, r.1.0, h, one_entry v)), lt-leb max_constants s.table.count (omega (arith, r.1.1, h, one_entry v))) refl in
      let y : ◌≡◌ {A = Bool} true false = sym e ∙ free in
      let z : ◌≡◌ {A = ℕ} 0 1 = cc in omega arith

  pub fair_text : (R : Resource) (b : Bool) (bytes : List ℕ) (n : ℕ) → Room R cap m → length bytes ≤ n → leb (s.table.used + length bytes) (length m.pool) ≡ b → Fair R cap s (per_text R n) (stored_text b s.table bytes m.kinds m.values m.pool).answer
  fair_text words true bytes n r h e = omega arith
  fair_text entries true bytes n r h e = omega arith
  fair_text text true bytes n r h e = omega (arith, h)
  fair_text words false bytes n r h e = λ k. other Pool Words (λ y. omega (arith, y))
  fair_text entries false bytes n r h e = λ k. other Pool Constants (λ y. omega (arith, y))
  fair_text text false bytes n r h e = λ k g. omega (arith, leb-false (s.table.used + length bytes) (length m.pool) e, r, h, k)

  module _ (R : Resource) (l : Room R cap m) where
    pub kept_in : (chunk : List ℕ) (v : Val) (p : ℕ) (r : Added) (ks vs pool : List ℕ) → added_to chunk s.table v m.kinds m.values m.pool ≡ out r ks vs pool → Fair R cap s p r → Leaves R cap p (used R s) s.at s.line (λ i. 0) Any (stored_in s m (out r ks vs pool))
    kept_in chunk v p (Err x) ks vs pool e h = none x _ h
    kept_in chunk v p (Ok (i, t)) ks vs pool e h =
        let k : Kept m.kinds m.values m.pool t ks vs pool = kept_added chunk s.table v m.kinds m.values m.pool e in
        left i (with_table t s) _ tt (omega (arith, h)) refl refl (room_same R cap m _ refl refl k.kinds_length k.values_length k.pool_length l)

-- ---- words

push_leaves : (R : Resource) (cap : ℕ) (w line : ℕ) (s : State) (m : Buffers) → Room R cap m → (b : Bool) → no_room s m ≡ b → Leaves R cap (per_word R) (used R s) s.at s.line {A = ℕ} (λ i. 0) Any (elim b [ true ↦ refused Words m | false ↦ done s.pc (with_pc (s.pc + 1) s) (store w line s m) ])
push_leaves words cap w line s m l true e = none Words m (λ h _.
    let free : no_room s m ≡ false = rw (lt-leb (length m.code) s.pc (omega (arith, l.0, h)), lt-leb (length m.lines) s.pc (omega (arith, l.1.0, h)), lt-leb max_words s.pc (omega (arith, l.1.1, h))) refl in
    let y : ◌≡◌ {A = Bool} true false = sym e ∙ free in
    let z : ◌≡◌ {A = ℕ} 0 1 = cc in omega arith)
push_leaves entries cap w line s m l true e = none Words m (λ h. other Words Constants (λ y. omega (arith, y)))
push_leaves text cap w line s m l true e = none Words m (λ h. other Words Pool (λ y. omega (arith, y)))
push_leaves R cap w line s m l false e = left s.pc (with_pc (s.pc + 1) s) (store w line s m) tt (go R) refl refl (room_same R cap m (store w line s m) (length-set m.code s.pc w) (length-set m.lines s.pc line) refl refl refl l)
  where
    go : (R' : Resource) → used R' (with_pc (s.pc + 1) s) + 0 ≤ used R' s + per_word R'
    go words = omega arith
    go entries = omega arith
    go text = omega arith

module _ {R : Resource} {cap : ℕ} where
  takes_push : (w line : ℕ) → Takes R cap (per_word R) (push w line)
  unfolding push
  takes_push w line s m l = push_leaves R cap w line s m l (no_room s m) refl

  takes_jpc : (l : ℕ) → Takes R cap 0 (change (with_jpc l))
  takes_jpc l = takes_change (with_jpc l) (λ s. refl) (λ s. refl) (λ s. refl) (λ s. refl)

  pub takes_free : (r : ℕ) → Takes R cap 0 (change (with_free r))
  takes_free r = takes_change (with_free r) (λ s. refl) (λ s. refl) (λ s. refl) (λ s. refl)

  takes_discharge_jpc : Takes R cap 0 discharge_jpc
  unfolding discharge_jpc
  takes_discharge_jpc = takes_then takes_get (λ s. takes_then (takes_change_words _ (λ code. length_patch_list (length code) code s.jpc s.pc no_reg s.pc)) (λ _. takes_jpc 0))

  -- a word changed in place
  pub takes_change_word : (pc : ℕ) (f : ℕ → ℕ) → Takes R cap 0 (change_word pc f)
  takes_change_word pc f = takes_change_words _ (λ code. length-set code pc (f (word code pc)))

  pub takes_emit_at : (w line : ℕ) → Takes R cap (per_word R) (emit_at w line)
  unfolding emit_at
  takes_emit_at w line = nothing_then takes_discharge_jpc (λ _. takes_push w line)

  pub takes_emit : (w : ℕ) → Takes R cap (per_word R) (emit w)
  unfolding emit
  takes_emit w = nothing_then takes_get (λ s. takes_emit_at w s.line)

  pub takes_concat : (l1 l2 : ℕ) → Takes R cap 0 (concat l1 l2)
  unfolding concat
  takes_concat l1 l2 = takes_then (takes_change_words _ (λ code. length_linked code l1 l2)) (λ _. takes_return _)

  -- the walks over a list
  pub takes_remove : (list : ℕ) → Takes R cap 0 (change_words (λ code. remove_values (length code) code list))
  takes_remove list = takes_change_words _ (λ code. length_remove (length code) code list)

  pub takes_patch_list : (list vtarget reg dtarget : ℕ) → Takes R cap 0 (change_words (λ code. patch_list_aux (length code) code list vtarget reg dtarget))
  takes_patch_list list vtarget reg dtarget = takes_change_words _ (λ code. length_patch_list (length code) code list vtarget reg dtarget)

  pub takes_emit_jump : Takes R cap (per_word R) emit_jump
  unfolding emit_jump
  takes_emit_jump = nothing_then takes_get (λ s. nothing_then (takes_remove s.jpc) (λ _. nothing_then (takes_jpc 0) (λ _. then_nothing (takes_emit _) (λ pc. takes_concat (pc + 1) s.jpc))))

  pub takes_patch_to_here : (list : ℕ) → Takes R cap 0 (patch_to_here list)
  unfolding patch_to_here
  takes_patch_to_here list = takes_then takes_get (λ s. takes_then (takes_concat s.jpc list) takes_jpc)

  pub takes_get_label : Takes R cap 0 get_label
  unfolding get_label and_then
  takes_get_label s m l = go (leb s.pc max_words)
    where
      go : (b : Bool) → Leaves R cap 0 (used R s) s.at s.line (λ i. 0) Any (done s.pc (elim b as (λ (_ : Bool). State) [ true ↦ with_label (s.pc + 1) s | false ↦ s ]) m)
      go true = left s.pc (with_label (s.pc + 1) s) m tt (omega (arith, used_same R s (with_label (s.pc + 1) s) refl refl)) refl refl l
      go false = left s.pc s m tt (omega arith) refl refl l

  pub takes_code_label : (reg b jump : ℕ) → Takes R cap (per_word R) (code_label reg b jump)
  unfolding code_label
  takes_code_label reg b jump = nothing_then takes_get_label (λ _. takes_emit _)

  takes_load_nil : (r : ℕ) → Takes R cap (per_word R) (load_nil r)
  unfolding load_nil
  takes_load_nil r = then_nothing (takes_emit _) (λ _. takes_skip)

  pub takes_emit_nil : (from : ℕ) → Takes R cap (per_word R) (emit_nil from)
  unfolding emit_nil
  takes_emit_nil from = nothing_then takes_get (λ s. nothing_then takes_code_now (λ code.
      spends_if (leb s.label s.pc) (λ _. spends_if (eqb s.pc 0) (λ _. none_of takes_skip) (λ _.
      spends_if (adjoins (word code (s.pc - 1)) from) (λ _. spends_if (ltb (b_of (word code (s.pc - 1))) from) (λ _. none_of (takes_change_word (s.pc - 1) (λ w. set_b_of w from))) (λ _. none_of takes_skip)) (λ _. takes_load_nil from))) (λ _. takes_load_nil from)))
    where
      none_of : {x : Step (Unit {0})} → Takes R cap 0 x → Takes R cap (per_word R) x
      none_of g = at_most g (omega arith)

  -- ---- registers

  takes_check_stack : (n : ℕ) → Takes R cap 0 (check_stack n)
  unfolding check_stack
  takes_check_stack n = takes_then takes_get (λ s. spends_if (leb (s.free + n) max_stack) (λ _. takes_change (with_frame (max s.frame (s.free + n))) (λ s. refl) (λ s. refl) (λ s. refl) (λ s. refl)) (λ _. gives_refuse Registers (omega arith)))

  pub takes_reserve_regs : (n : ℕ) → Takes R cap 0 (reserve_regs n)
  unfolding reserve_regs
  takes_reserve_regs n = takes_then (takes_check_stack n) (λ _. takes_then takes_get (λ s. takes_free (s.free + n)))

  pub takes_alloc_reg : Takes R cap 0 alloc_reg
  unfolding alloc_reg
  takes_alloc_reg = takes_then takes_get (λ s. takes_then (takes_reserve_regs 1) (λ _. takes_return s.free))

  pub takes_free_reg : (r : ℕ) → Takes R cap 0 (free_reg r)
  unfolding free_reg
  takes_free_reg r = takes_then takes_get (λ s. spends_if (leb s.active r && (ltb r bit_rk && eqb (r + 1) s.free)) (λ _. takes_free r) (λ _. takes_skip))
