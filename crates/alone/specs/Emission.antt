-- Emitting words, registers and constants: registers and labels are lent nothing, patching the code alone, a word code and lines, and a constant the table. Assumes nothing.
use Rattle.std.specs.Prelude.{ℕ, ◌+◌, ◌-◌, max, List, Bool, true, false, ◌&&◌, ◌≡◌, refl, set, eqb, leb, ltb, Ok, Err}
use Rattle.refusals.specs.declared.Refusal.TheVariants.{Registers, Words}
use Rattle.instructions.specs.Limits.{bit_rk, max_stack}
use Rattle.instructions.specs.Word.{b_of, set_b_of}
use Rattle.opcodes.specs.declared.OpCode.{OpCode}
use Rattle.constants.specs.Table.{added as added_to, Out, Added}
use Rattle.constants.specs.declared.Val.{Val}
use Rattle.model.specs.declared.State.{State}
use Rattle.model.specs.Steps.{Buffers, bufs, Result, done, refused}
use Rattle.model.specs.Jumps.{word}
use Rattle.model.specs.Emission.{with_pc, with_free, with_frame, with_jpc, discharge_jpc, no_room, store, push, emit_at, emit, emit_abc, emit_abx, concat, emit_jump, patch_to_here, get_label, code_label, adjoins, load_nil, emit_nil, check_stack, reserve_regs, alloc_reg, free_reg, keep, stored_in, add_constant}
use Rattle.alone.specs.Alone.{none, code_alone, words, table, onto, Alone, alone_return, alone_skip, alone_refuse, alone_get, alone_change, alone_then, alone_if, alone_none, alone_change_words, alone_code, words_code_now, words_change_words}

-- ---- registers and labels

pub alone_check_stack : (n : ℕ) → Alone none (check_stack n)
unfolding check_stack
alone_check_stack n = alone_then _ _ (alone_get _) (λ s. alone_if (leb (s.free + n) max_stack) _ _ (alone_change _ (with_frame (max s.frame (s.free + n)))) (alone_refuse _ _ Registers))

pub alone_reserve_regs : (n : ℕ) → Alone none (reserve_regs n)
unfolding reserve_regs
alone_reserve_regs n = alone_then _ _ (alone_check_stack n) (λ _. alone_then _ _ (alone_get _) (λ s. alone_change _ (with_free (s.free + n))))

pub alone_alloc_reg : Alone none alloc_reg
unfolding alloc_reg
alone_alloc_reg = alone_then _ _ (alone_get _) (λ s. alone_then _ _ (alone_reserve_regs 1) (λ _. alone_return _ s.free))

pub alone_free_reg : (r : ℕ) → Alone none (free_reg r)
unfolding free_reg
alone_free_reg r = alone_then _ _ (alone_get _) (λ s. alone_if (leb s.active r && (ltb r bit_rk && eqb (r + 1) s.free)) _ _ (alone_change _ (with_free r)) (alone_skip _))

pub alone_get_label : Alone none get_label
unfolding get_label
alone_get_label = alone_then _ _ (alone_get _) (λ s. alone_then _ _ (alone_change _ _) (λ _. alone_return _ s.pc))

-- ---- jump lists

pub alone_discharge_jpc : Alone code_alone discharge_jpc
unfolding discharge_jpc
alone_discharge_jpc = alone_then _ _ (alone_get _) (λ s. alone_then _ _ (alone_change_words _) (λ _. alone_change _ (with_jpc 0)))

pub alone_concat : (l1 l2 : ℕ) → Alone code_alone (concat l1 l2)
unfolding concat
alone_concat l1 l2 = alone_then _ _ (alone_change_words _) (λ _. alone_return _ _)

pub alone_patch_to_here : (list : ℕ) → Alone code_alone (patch_to_here list)
unfolding patch_to_here
alone_patch_to_here list = alone_then _ _ (alone_get _) (λ s. alone_then _ _ (alone_concat s.jpc list) (λ l. alone_change _ (with_jpc l)))

-- ---- words

-- one of two answers, over other buffers
onto_if : {A : Type 0} (f : Buffers → Buffers) (t : Bool) (q r : Result A) → ◌≡◌ {A = Result A} (elim t [ true ↦ onto f q | false ↦ onto f r ]) (onto f (elim t [ true ↦ q | false ↦ r ]))
onto_if f true q r = refl
onto_if f false q r = refl

-- whether there is room is a matter of code and lines
pub alone_push : (w line : ℕ) → Alone words (push w line)
unfolding push
alone_push w line o s m = onto_if (words o) (no_room s m) (refused Words m) (done s.pc (with_pc (s.pc + 1) s) (store w line s m))

pub alone_emit_at : (w line : ℕ) → Alone words (emit_at w line)
unfolding emit_at
alone_emit_at w line = alone_then _ _ (alone_code _ alone_discharge_jpc) (λ _. alone_push w line)

pub alone_emit : (w : ℕ) → Alone words (emit w)
unfolding emit
alone_emit w = alone_then _ _ (alone_get _) (λ s. alone_emit_at w s.line)

pub alone_emit_abc : (op : OpCode) (a b c : ℕ) → Alone words (emit_abc op a b c)
alone_emit_abc op a b c = alone_emit _

pub alone_emit_abx : (op : OpCode) (a bx : ℕ) → Alone words (emit_abx op a bx)
alone_emit_abx op a bx = alone_emit _

pub alone_emit_jump : Alone words emit_jump
unfolding emit_jump
alone_emit_jump = alone_then _ _ (alone_get _) (λ s. alone_then _ _ (words_change_words _) (λ _. alone_then _ _ (alone_change _ (with_jpc 0)) (λ _. alone_then _ _ (alone_emit _) (λ pc. alone_code _ (alone_concat (pc + 1) s.jpc)))))

pub alone_code_label : (reg b jump : ℕ) → Alone words (code_label reg b jump)
unfolding code_label
alone_code_label reg b jump = alone_then _ _ (alone_none _ alone_get_label) (λ _. alone_emit _)

alone_load_nil : (r : ℕ) → Alone words (load_nil r)
unfolding load_nil
alone_load_nil r = alone_then _ _ (alone_emit _) (λ _. alone_skip _)

pub alone_emit_nil : (from : ℕ) → Alone words (emit_nil from)
unfolding emit_nil
alone_emit_nil from = alone_then _ _ (alone_get _) (λ s. alone_then _ _ words_code_now (λ code.
    alone_if (leb s.label s.pc) _ _ (alone_if (eqb s.pc 0) _ _ (alone_skip _) (
    alone_if (adjoins (word code (s.pc - 1)) from) _ _ (alone_if (ltb (b_of (word code (s.pc - 1))) from) _ _ (words_change_words (λ c. set c (s.pc - 1) (set_b_of (word c (s.pc - 1)) from))) (alone_skip _)) (alone_load_nil from))) (alone_load_nil from)))

-- ---- constants

-- the state and the answer don't depend on the buffers
keep_onto : (o m : Buffers) (s : State) (a : Added) → keep a s (table o m) ≡ onto (table o) (keep a s m)
keep_onto o m s (Ok (i, t)) = refl
keep_onto o m s (Err k) = refl

-- what is found, kept or added is a matter of kinds, values and pool
pub alone_add_constant : (chunk : List ℕ) (v : Val) → Alone table (add_constant chunk v)
unfolding add_constant
alone_add_constant chunk v o s m = stored (added_to chunk s.table v m.kinds m.values m.pool)
  where
    stored : (a : Out) → stored_in s (table o m) a ≡ onto (table o) (stored_in s m a)
    stored a = keep_onto o (bufs m.code m.lines a.kinds a.values a.pool) s a.answer
