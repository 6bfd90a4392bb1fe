-- Emitting words, registers and constants keep the tails clean: a word goes with its line to the first free place, and a new constant to the first free entry, with its text behind those in use.
-- What rests on something that a must-fail edit breaks stands in proofs/Emission.antt.
use Rattle.std.specs.Prelude.{ℕ, ◌+◌, ◌-◌, ◌≤◌, ◌<◌, max, Bool, ◌&&◌, ◌≡◌, List, length, leb, ltb, Some, None, Ok, Err}
use Rattle.std.proofs.Math.Bool.{true, false}
use Rattle.std.proofs.Math.Path.{refl}
use Rattle.std.proofs.Common.{◌∙◌, arith, length-set, get_or-set_other}
use Rattle.std.proofs.Math.Dec.{eqb}
use Rattle.refusals.specs.declared.Refusal.TheVariants.{Registers, Words}
use Rattle.instructions.specs.Limits.{no_reg, max_words, max_stack, bit_rk}
use Rattle.instructions.specs.Word.{b_of, set_b_of}
use Rattle.constants.specs.Entry.{part, holds}
use Rattle.constants.specs.Table.{added as added_to, append, stored_text, out, find, full, Found, Added}
use Rattle.constants.specs.Laws.{added_there, added_full, added_new}
use Rattle.constants.specs.Distinct.{Kept, kept_added}
use Rattle.constants.specs.declared.Table.{Table}
use Rattle.constants.specs.declared.Val.{Val}
use Rattle.constants.specs.declared.Val.TheVariants as val
use Rattle.model.specs.declared.State.{State}
use Rattle.model.specs.Steps.{Buffers, done, refused, change, change_words}
use Rattle.model.specs.Jumps.{word, remove_values, patch_list_aux}
use Rattle.model.specs.Emission.{with_pc, with_free, with_frame, with_jpc, with_label, discharge_jpc, no_room, store, push, emit_at, emit, concat, emit_jump, patch_to_here, get_label, code_label, adjoins, load_nil, emit_nil, check_stack, reserve_regs, alloc_reg, free_reg, stored_in}
use Rattle.model.specs.Discharge.{change_word}
use Rattle.model.specs.Lowering.{Sizes}
use Rattle.threads.specs.Holding.{roomy}
use Rattle.padding.specs.Clean.{Clean, Leaves, clean, none, Keeps, keeps_return, keeps_skip, keeps_refuse, keeps_get, keeps_words, keeps_change, keeps_change_words, keeps_then, keeps_if}
use Rattle.padding.specs.Lengths.{length_linked, length_remove, length_patch_list}

-- ---- constants

-- a table only grows
pub record Grew (t t' : Table) : Type 0 where
  pub count : t.count ≤ t'.count
  pub used : t.used ≤ t'.used

abbrev Grows : Table → Added → Type 0
Grows t (Ok (i, t')) = Grew t t'
Grows t (Err k) = Unit {0}

grew_new : (t : Table) (n : ℕ) → Grew t (record { count = t.count + 1; used = t.used + n })
grew_new t n = record { count = omega arith; used = omega arith }

grows_text : (b : Bool) (t : Table) (bytes ks vs pool : List ℕ) → Grows t (stored_text b t bytes ks vs pool).answer
grows_text true t bytes ks vs pool = grew_new t (length bytes)
grows_text false t bytes ks vs pool = tt

grows_append : (chunk : List ℕ) (t : Table) (v : Val) (ks vs pool : List ℕ) → Grows t (append chunk t v ks vs pool).answer
unfolding append
grows_append chunk t val.Nil ks vs pool = grew_new t 0
grows_append chunk t (val.Bool false) ks vs pool = grew_new t 0
grows_append chunk t (val.Bool true) ks vs pool = grew_new t 0
grows_append chunk t (val.Num x b) ks vs pool = grew_new t 0
grows_append chunk t (val.Str s n) ks vs pool = grows_text (leb (t.used + length (part chunk s n)) (length pool)) t (part chunk s n) ks vs pool

pub grows_added : (chunk : List ℕ) (t : Table) (v : Val) (ks vs pool : List ℕ) → Grows t (added_to chunk t v ks vs pool).answer
grows_added chunk t v ks vs pool = search (find (holds pool chunk v) t.count ks vs) refl
  where
    room : find (holds pool chunk v) t.count ks vs ≡ None → (b : Bool) → full t.count ks vs ≡ b → Grows t (added_to chunk t v ks vs pool).answer
    room e true f = rw (added_full chunk t v ks vs pool e refl f refl) tt
    room e false f = rw (added_new chunk t v ks vs pool e refl f refl refl) (grows_append chunk t v ks vs pool)

    search : (f : Found) → find (holds pool chunk v) t.count ks vs ≡ f → Grows t (added_to chunk t v ks vs pool).answer
    search (Some i) e = rw (added_there chunk t v ks vs pool e refl) (record { count = omega arith; used = omega arith })
    search None e = room e (full t.count ks vs) refl

module _ {z : Sizes} where
  pub stored_leaves : (chunk : List ℕ) (v : Val) (s : State) (m : Buffers) (r : Added) (ks vs pool : List ℕ) → added_to chunk s.table v m.kinds m.values m.pool ≡ out r ks vs pool → Grows s.table r → Clean z s m → Leaves z (stored_in s m (out r ks vs pool))
  stored_leaves chunk v s m (Err k) ks vs pool e g c = none k _
  stored_leaves chunk v s m (Ok (i, t)) ks vs pool e g c =
      let k : Kept m.kinds m.values m.pool t ks vs pool = kept_added chunk s.table v m.kinds m.values m.pool e in
      clean i _ _ (record {
        code_length = c.code_length;
        lines_length = c.lines_length;
        kinds_length = k.kinds_length ∙ c.kinds_length;
        values_length = k.values_length ∙ c.values_length;
        pool_length = k.pool_length ∙ c.pool_length;
        lines_fit = c.lines_fit;
        lines = c.lines;
        kinds = λ j h. k.kinds_behind j h ∙ c.kinds j (omega (arith, g.count));
        values = λ j h. k.values_behind j h ∙ c.values j (omega (arith, g.count));
        pool = λ j h. k.pool_behind j h ∙ c.pool j (omega (arith, g.used));
      })

  -- ---- words

  keeps_jpc : (l : ℕ) → Keeps z (change (with_jpc l))
  keeps_jpc l = keeps_change (with_jpc l) (λ s. refl) (λ s. refl)

  pub keeps_free : (r : ℕ) → Keeps z (change (with_free r))
  keeps_free r = keeps_change (with_free r) (λ s. refl) (λ s. refl)

  pub keeps_discharge_jpc : Keeps z discharge_jpc
  unfolding discharge_jpc
  keeps_discharge_jpc = keeps_then keeps_get (λ s. keeps_then (keeps_change_words _ (λ code. length_patch_list (length code) code s.jpc s.pc no_reg s.pc)) (λ _. keeps_jpc 0))

  -- a word changed in place
  pub keeps_change_word : (pc : ℕ) (f : ℕ → ℕ) → Keeps z (change_word pc f)
  keeps_change_word pc f = keeps_change_words _ (λ code. length-set code pc (f (word code pc)))

  stored_word : (w line : ℕ) (s : State) (m : Buffers) → s.pc < length m.lines → Clean z s m → Clean z (with_pc (s.pc + 1) s) (store w line s m)
  stored_word w line s m l c = record {
    code_length = length-set m.code s.pc w ∙ c.code_length;
    lines_length = length-set m.lines s.pc line ∙ c.lines_length;
    kinds_length = c.kinds_length;
    values_length = c.values_length;
    pool_length = c.pool_length;
    lines_fit = omega (arith, c.lines_length);
    lines = λ i h. get_or-set_other m.lines s.pc i line 0 (λ e. omega arith) ∙ c.lines i (omega arith);
    kinds = c.kinds;
    values = c.values;
    pool = c.pool;
  }

  pub keeps_push : (w line : ℕ) → Keeps z (push w line)
  unfolding push
  keeps_push w line s m c = room (no_room s m) refl
    where
      room : (b : Bool) → no_room s m ≡ b → Leaves z {A = ℕ} (elim b [ true ↦ refused Words m | false ↦ done s.pc (with_pc (s.pc + 1) s) (store w line s m) ])
      room true e = none Words m
      room false e = clean s.pc _ _ (stored_word w line s m (roomy s m e).1.0 c)

  pub keeps_emit_at : (w line : ℕ) → Keeps z (emit_at w line)
  unfolding emit_at
  keeps_emit_at w line = keeps_then keeps_discharge_jpc (λ _. keeps_push w line)

  pub keeps_emit : (w : ℕ) → Keeps z (emit w)
  unfolding emit
  keeps_emit w = keeps_then keeps_get (λ s. keeps_emit_at w s.line)

  pub keeps_concat : (l1 l2 : ℕ) → Keeps z (concat l1 l2)
  unfolding concat
  keeps_concat l1 l2 = keeps_then (keeps_change_words _ (λ code. length_linked code l1 l2)) (λ _. keeps_return _)

  -- the walks over a list
  pub keeps_remove : (list : ℕ) → Keeps z (change_words (λ code. remove_values (length code) code list))
  keeps_remove list = keeps_change_words _ (λ code. length_remove (length code) code list)

  pub keeps_patch_list : (list vtarget reg dtarget : ℕ) → Keeps z (change_words (λ code. patch_list_aux (length code) code list vtarget reg dtarget))
  keeps_patch_list list vtarget reg dtarget = keeps_change_words _ (λ code. length_patch_list (length code) code list vtarget reg dtarget)

  pub keeps_emit_jump : Keeps z emit_jump
  unfolding emit_jump
  keeps_emit_jump = keeps_then keeps_get (λ s. keeps_then (keeps_remove s.jpc) (λ _. keeps_then (keeps_jpc 0) (λ _. keeps_then (keeps_emit _) (λ pc. keeps_concat (pc + 1) s.jpc))))

  pub keeps_patch_to_here : (list : ℕ) → Keeps z (patch_to_here list)
  unfolding patch_to_here
  keeps_patch_to_here list = keeps_then keeps_get (λ s. keeps_then (keeps_concat s.jpc list) keeps_jpc)

  pub keeps_get_label : Keeps z get_label
  unfolding get_label
  keeps_get_label = keeps_then keeps_get (λ s. keeps_then (keeps_change _ (λ s₁. counts s₁ (leb s₁.pc max_words)) (λ s₁. tables s₁ (leb s₁.pc max_words))) (λ _. keeps_return s.pc))
    where
      counts : (s₁ : State) (b : Bool) → (elim b as (λ (_ : Bool). State) [ true ↦ with_label (s₁.pc + 1) s₁ | false ↦ s₁ ]).pc ≡ s₁.pc
      counts s₁ true = refl
      counts s₁ false = refl

      tables : (s₁ : State) (b : Bool) → (elim b as (λ (_ : Bool). State) [ true ↦ with_label (s₁.pc + 1) s₁ | false ↦ s₁ ]).table ≡ s₁.table
      tables s₁ true = refl
      tables s₁ false = refl

  pub keeps_code_label : (reg b jump : ℕ) → Keeps z (code_label reg b jump)
  unfolding code_label
  keeps_code_label reg b jump = keeps_then keeps_get_label (λ _. keeps_emit _)

  keeps_load_nil : (r : ℕ) → Keeps z (load_nil r)
  unfolding load_nil
  keeps_load_nil r = keeps_then (keeps_emit _) (λ _. keeps_skip)

  pub keeps_emit_nil : (from : ℕ) → Keeps z (emit_nil from)
  unfolding emit_nil
  keeps_emit_nil from = keeps_then keeps_get (λ s. keeps_then keeps_words (λ code.
      keeps_if (leb s.label s.pc) (keeps_if (eqb s.pc 0) keeps_skip (
      keeps_if (adjoins (word code (s.pc - 1)) from) (keeps_if (ltb (b_of (word code (s.pc - 1))) from) (keeps_change_word (s.pc - 1) (λ w. set_b_of w from)) keeps_skip) (keeps_load_nil from))) (keeps_load_nil from)))

  -- ---- registers

  pub keeps_check_stack : (n : ℕ) → Keeps z (check_stack n)
  unfolding check_stack
  keeps_check_stack n = keeps_then keeps_get (λ s. keeps_if (leb (s.free + n) max_stack) (keeps_change (with_frame (max s.frame (s.free + n))) (λ s. refl) (λ s. refl)) (keeps_refuse Registers))

  pub keeps_reserve_regs : (n : ℕ) → Keeps z (reserve_regs n)
  unfolding reserve_regs
  keeps_reserve_regs n = keeps_then (keeps_check_stack n) (λ _. keeps_then keeps_get (λ s. keeps_free (s.free + n)))

  pub keeps_alloc_reg : Keeps z alloc_reg
  unfolding alloc_reg
  keeps_alloc_reg = keeps_then keeps_get (λ s. keeps_then (keeps_reserve_regs 1) (λ _. keeps_return s.free))

  pub keeps_free_reg : (r : ℕ) → Keeps z (free_reg r)
  unfolding free_reg
  keeps_free_reg r = keeps_then keeps_get (λ s. keeps_if (leb s.active r && (ltb r bit_rk && eqb (r + 1) s.free)) (keeps_free r) keeps_skip)
