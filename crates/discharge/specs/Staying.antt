-- Bringing a descriptor leaves its aux, its number and its bits as they are, and of the state the place in the chunk, the line and the number of locals. Assumes nothing.
use Rattle.std.specs.Prelude.{ℕ, ◌+◌, ◌-◌, max, Bool, not, ◌&&◌, ◌||◌, List, [], ◌≡◌, refl, leb, ltb, negsuc, length, set, Ok, Err}
use Rattle.std.proofs.Math.Bool.{true, false}
use Rattle.std.proofs.Common.{ap, subst, ◌∙◌}
use Rattle.std.proofs.Math.Dec.{eqb}
use Rattle.refusals.specs.declared.Refusal.TheVariants.{Words, Registers}
use Rattle.instructions.specs.Limits.{max_words, max_stack, max_index_rk, bit_rk}
use Rattle.instructions.specs.Word.{b_of, set_b_of, a_sbx_of}
use Rattle.opcodes.specs.declared.OpCode.TheVariants as op
use Rattle.constants.specs.Table.{added, Out, Added}
use Rattle.constants.specs.declared.Val.{Val}
use Rattle.constants.specs.declared.Val.TheVariants as val
use Rattle.model.specs.declared.ExprKind.{ExprKind}
use Rattle.model.specs.declared.ExprKind.TheVariants as kind
use Rattle.model.specs.declared.ExprContext.{ExprContext}
use Rattle.model.specs.declared.State.{State}
use Rattle.model.specs.Described.{Described}
use Rattle.model.specs.Described as described
use Rattle.model.specs.Steps.{Buffers, Step, Result, done, refused, and_then, skip, return, refuse, get, change, change_words, described_is}
use Rattle.model.specs.Descriptor.{with_kind, with_jumps, has_jumps, is_kind}
use Rattle.model.specs.Jumps.{word, jump_list, need_value, remove_values}
use Rattle.model.specs.Emission.{with_pc, with_label, with_frame, with_free, with_jpc, no_room, store, discharge_jpc, push, emit_at, emit, emit_abc, emit_abx, concat, emit_jump, patch_to_here, get_label, code_label, adjoins, load_nil, emit_nil, check_stack, reserve_regs, alloc_reg, free_reg, keep, stored_in, add_constant}
use Rattle.model.specs.Discharge.{discharge_kind, discharge_vars, free_expr, load_kind, move, discharge2reg, land, load_both, settle, join_jump, exp2reg, exp2nextreg, exp2anyreg, exp2val, small, near, rk_kind, exp2rk}
use Rattle.emission.specs.Laws.{branch}
use Rattle.discharge.specs.Want.{Want}
use Rattle.discharge.specs.Want as want
use Rattle.discharge.specs.Changes.{changes, changed}
use Rattle.discharge.specs.Kinds.{over_of, load_yes, placed, any_of}
use Rattle.discharge.specs.Wants.{wanted}

-- ---- the second, with what stays of the first

abbrev same_place : State → State → State
same_place s t = record { at = s.at; line = s.line; pc = t.pc; table = t.table; active = s.active; free = t.free; frame = t.frame; jpc = t.jpc; label = t.label }

abbrev same_number : ExprContext → ExprContext → ExprContext
same_number e d = record { kind = d.kind; info = d.info; aux = e.aux; nval = e.nval; bits = e.bits; t = d.t; f = d.f }

-- a step's state is its first one's in what stays, and its answer is as told
unfoldable Stays : {A : Type 0} → (A → Type 0) → State → Result A → Type 0
Stays P s (done a t m) = (same_place s t ≡ t) × P a
Stays P s (refused k m) = Unit {0}

-- of a number or of nothing nothing is told; a descriptor is another's in what stays
abbrev Told : {A : Type 0} → A → Type 0
Told a = Unit {0}

abbrev Of : ExprContext → ExprContext → Type 0
Of e d = same_number e d ≡ d

abbrev Moves : {A : Type 0} → State → Result A → Type 0
Moves s x = Stays Told s x

abbrev Brings : ExprContext → State → Result ExprContext → Type 0
Brings e s x = Stays (Of e) s x

onward : {B : Type 0} (Q : B → Type 0) (s t : State) → same_place s t ≡ t → (x : Result B) → Stays Q t x → Stays Q s x
unfolding Stays
onward Q s t p (done b u m) q = (ap (λ (x : State). same_place x u) p ∙ q.0, q.1)
onward Q s t p (refused k m) q = tt

stays_then : {A B : Type 0} (P : A → Type 0) (Q : B → Type 0) (s : State) (x : Result A) (f : A → Step B) → Stays P s x → ((a : A) (t : State) (m : Buffers) → P a → Stays Q t (f a t m)) → Stays Q s (and_then x f)
unfolding and_then Stays
stays_then P Q s (done a t m) f p h = onward Q s t p.0 (f a t m) (h a t m p.1)
stays_then P Q s (refused k m) f p h = tt

moves : {A B : Type 0} (s : State) (x : Result A) (f : A → Step B) → Moves s x → ((a : A) (t : State) (m : Buffers) → Moves t (f a t m)) → Moves s (and_then x f)
moves s x f p h = stays_then Told Told s x f p (λ a t m _. h a t m)

either_way : {A : Type 0} (P : A → Type 0) (b : Bool) (x y : Step A) (s : State) (m : Buffers) → Stays P s (x s m) → Stays P s (y s m) → Stays P s (branch b x y s m)
either_way P true x y s m p q = p
either_way P false x y s m p q = q

-- a step, and then a descriptor
brings : {A : Type 0} (e : ExprContext) (s : State) (x : Result A) (f : A → Step ExprContext) → Moves s x → ((a : A) (t : State) (m : Buffers) → Brings e t (f a t m)) → Brings e s (and_then x f)
brings e s x f p h = stays_then Told (Of e) s x f p (λ a t m _. h a t m)

-- a descriptor, and what becomes of it
of_of : (e d : ExprContext) (s : State) (x : Result ExprContext) → Of e d → Brings d s x → Brings e s x
unfolding Stays
of_of e d s (done c t m) p q = (q.0, ap (λ (x : ExprContext). same_number x c) p ∙ q.1)
of_of e d s (refused k m) p q = tt

goes_on : (e : ExprContext) (s : State) (x : Result ExprContext) (f : ExprContext → Step ExprContext) → Brings e s x → ((d : ExprContext) (t : State) (m : Buffers) → Brings d t (f d t m)) → Brings e s (and_then x f)
goes_on e s x f p h = stays_then (Of e) (Of e) s x f p (λ d t m q. of_of e d t (f d t m) q (h d t m))

-- ---- emission and registers

module _ (s : State) (m : Buffers) where
  nothing_moves : Moves s (skip s m)
  unfolding Stays
  nothing_moves = (refl, tt)

  stays : (e : ExprContext) → Brings e s (return e s m)
  unfolding Stays
  stays e = (refl, refl)

  becomes : (e : ExprContext) (k : ExprKind) (i : ℕ) → Brings e s (return (with_kind k i e) s m)
  unfolding Stays
  becomes e k i = (refl, refl)

  words_change : (f : List ℕ → List ℕ) → Moves s (change_words f s m)
  unfolding Stays
  words_change f = (refl, tt)

  pushed : (w line : ℕ) → Moves s (push w line s m)
  unfolding push Stays
  pushed w line = go (no_room s m)
    where
      go : (b : Bool) → Moves {A = ℕ} s (elim b [ true ↦ refused Words m | false ↦ done s.pc (with_pc (s.pc + 1) s) (store w line s m) ])
      go true = tt
      go false = (refl, tt)

  got : Moves s (get s m)
  unfolding Stays
  got = (refl, tt)

  unpended : Moves s (change (with_jpc 0) s m)
  unfolding Stays
  unpended = (refl, tt)

  discharged : Moves s (discharge_jpc s m)
  unfolding discharge_jpc and_then Stays
  discharged = (refl, tt)

  concated : (l1 l2 : ℕ) → Moves s (concat l1 l2 s m)
  unfolding concat and_then Stays
  concated l1 l2 = (refl, tt)

  labelled : Moves s (get_label s m)
  unfolding get_label and_then Stays
  labelled = go (leb s.pc max_words)
    where
      go : (b : Bool) → Moves s (done s.pc (elim b [ true ↦ with_label (s.pc + 1) s | false ↦ s ]) m)
      go true = (refl, tt)
      go false = (refl, tt)

  to_here : (list : ℕ) → Moves s (patch_to_here list s m)
  unfolding patch_to_here concat and_then Stays
  to_here list = (refl, tt)

  landed : (e : ExprContext) (reg a b c : ℕ) → Moves s (land e reg a b c s m)
  unfolding land and_then Stays
  landed e reg a b c = (refl, tt)

emitted_at : (s : State) (m : Buffers) (w line : ℕ) → Moves s (emit_at w line s m)
unfolding emit_at
emitted_at s m w line = moves s (discharge_jpc s m) _ (discharged s m) (λ _ t n. pushed t n w line)

emitted : (w : ℕ) (s : State) (m : Buffers) → Moves s (emit w s m)
unfolding emit and_then
emitted w s m = emitted_at s m w s.line

jumped : (s : State) (m : Buffers) → Moves s (emit_jump s m)
unfolding emit_jump
jumped s m =
    moves s (get s m) _ (got s m) (λ first t n.
    let cleaned : List ℕ → List ℕ = λ code. remove_values (length code) code first.jpc in
    moves t (change_words cleaned t n) _ (words_change t n cleaned) (λ _ u o. moves u (change (with_jpc 0) u o) _ (unpended u o) (λ _ v q. moves v (emit (a_sbx_of op.Jmp 0 (negsuc 0)) v q) _ (emitted _ v q) (λ pc x r. concated x r (pc + 1) first.jpc))))

coded : (reg b jump : ℕ) (s : State) (m : Buffers) → Moves s (code_label reg b jump s m)
unfolding code_label
coded reg b jump s m = moves s (get_label s m) _ (labelled s m) (λ _. emitted _)

module _ (e : ExprContext) (reg : ℕ) where
  loaded_yes : (over off : ℕ) (s : State) (m : Buffers) → Moves s (load_yes e reg over off s m)
  loaded_yes over off s m = moves s (code_label reg 1 0 s m) _ (coded reg 1 0 s m) (λ on t n. moves t (patch_to_here over t n) _ (to_here t n over) (λ _ u o. moves u (get_label u o) _ (labelled u o) (λ final v q. landed v q e reg final off on)))

  loaded_both : (s : State) (m : Buffers) → Moves s (load_both e reg s m)
  unfolding load_both Stays
  loaded_both s m = moves s (over_of e s m) _ (either_way Told (is_kind kind.Jmp e) (return 0) emit_jump s m (nothing s m) (jumped s m)) (λ over t n. moves t (code_label reg 0 1 t n) _ (coded reg 0 1 t n) (λ off. loaded_yes over off))
    where
      nothing : (s : State) (m : Buffers) → Moves {A = ℕ} s (return 0 s m)
      nothing s m = (refl, tt)

module _ (s : State) (m : Buffers) where
  set_free : (r : ℕ) → Moves s (change (with_free r) s m)
  unfolding Stays
  set_free r = (refl, tt)

  frees : (r : ℕ) → Moves s (free_reg r s m)
  unfolding free_reg and_then
  frees r = either_way Told (leb s.active r && (ltb r bit_rk && eqb (r + 1) s.free)) (change (with_free r)) skip s m (set_free r) (nothing_moves s m)

  checks : (n : ℕ) → Moves s (check_stack n s m)
  unfolding check_stack and_then Stays
  checks n = either_way Told (leb (s.free + n) max_stack) (change (with_frame (max s.frame (s.free + n)))) (refuse Registers) s m (refl, tt) tt

  adds : (chunk : List ℕ) (v : Val) → Moves s (add_constant chunk v s m)
  unfolding add_constant Stays
  adds chunk v = go (added chunk s.table v m.kinds m.values m.pool)
    where
      kept : (a : Added) (k : Buffers) → Moves s (keep a s k)
      kept (Ok (i, t)) k = (refl, tt)
      kept (Err r) k = tt

      go : (o : Out) → Moves s (stored_in s m o)
      go o = kept o.answer _

reserves : (n : ℕ) (s : State) (m : Buffers) → Moves s (reserve_regs n s m)
unfolding reserve_regs and_then
reserves n s m = moves s (check_stack n s m) _ (checks s m n) (λ _ t k. set_free t k _)

allocates : (s : State) (m : Buffers) → Moves s (alloc_reg s m)
unfolding alloc_reg and_then Stays
allocates s m = moves s (reserve_regs 1 s m) _ (reserves 1 s m) (λ _ t k. (refl, tt))

nil_loads : (r : ℕ) (s : State) (m : Buffers) → Moves s (load_nil r s m)
unfolding load_nil
nil_loads r s m = moves s (emit_abc op.LoadNil r r 0 s m) _ (emitted _ s m) (λ _ t k. nothing_moves t k)

nils : (from : ℕ) (s : State) (m : Buffers) → Moves s (emit_nil from s m)
unfolding emit_nil and_then
nils from s m =
    either_way Told (leb s.label s.pc) _ (load_nil from) s m
    (either_way Told (eqb s.pc 0) skip _ s m (nothing_moves s m)
    (either_way Told (adjoins (word m.code (s.pc - 1)) from) _ (load_nil from) s m
    (either_way Told (ltb (b_of (word m.code (s.pc - 1))) from) (change_words (λ c. set c (s.pc - 1) (set_b_of (word c (s.pc - 1)) from))) skip s m (words_change s m (λ c. set c (s.pc - 1) (set_b_of (word c (s.pc - 1)) from))) (nothing_moves s m))
    (nil_loads from s m)))
    (nil_loads from s m)

-- ---- discharging

discharges : (k : ExprKind) (e : ExprContext) (s : State) (m : Buffers) → Brings e s (discharge_kind k e s m)
unfolding discharge_kind and_then
discharges kind.Nil e s m = stays s m e
discharges kind.True e s m = stays s m e
discharges kind.False e s m = stays s m e
discharges kind.K e s m = stays s m e
discharges kind.KNum e s m = stays s m e
discharges kind.Local e s m = becomes s m e _ _
discharges kind.Global e s m = brings e s (emit_abx op.GetGlobal 0 e.info s m) _ (emitted _ s m) (λ pc t n. becomes t n e _ _)
discharges kind.Indexed e s m = brings e s (free_reg e.aux s m) _ (frees s m _) (λ _ t n. brings e t (free_reg e.info t n) _ (frees t n _) (λ _ u o. brings e u (emit_abc op.GetTable 0 e.info e.aux u o) _ (emitted _ u o) (λ pc v q. becomes v q e _ _)))
discharges kind.Jmp e s m = stays s m e
discharges kind.Relocable e s m = stays s m e
discharges kind.NonReloc e s m = stays s m e
discharges kind.Call e s m = becomes s _ e _ _
discharges kind.VarArg e s m = becomes s _ e _ _

loads : (k : ExprKind) (e : ExprContext) (reg : ℕ) (s : State) (m : Buffers) → Brings e s (load_kind k e reg s m)
unfolding load_kind and_then
loads kind.Nil e reg s m = brings e s (emit_nil reg s m) _ (nils reg s m) (λ _ t n. becomes t n e _ _)
loads kind.True e reg s m = brings e s (emit_abc op.LoadBool reg 1 0 s m) _ (emitted _ s m) (λ _ t n. becomes t n e _ _)
loads kind.False e reg s m = brings e s (emit_abc op.LoadBool reg 0 0 s m) _ (emitted _ s m) (λ _ t n. becomes t n e _ _)
loads kind.K e reg s m = brings e s (emit_abx op.LoadK reg e.info s m) _ (emitted _ s m) (λ _ t n. becomes t n e _ _)
loads kind.KNum e reg s m = brings e s (add_constant [] (val.Num e.nval e.bits) s m) _ (adds s m _ _) (λ i t n. brings e t (emit_abx op.LoadK reg i t n) _ (emitted _ t n) (λ _ u o. becomes u o e _ _))
loads kind.Local e reg s m = stays s m e
loads kind.Global e reg s m = stays s m e
loads kind.Indexed e reg s m = stays s m e
loads kind.Jmp e reg s m = stays s m e
loads kind.Relocable e reg s m = becomes s _ e _ _
loads kind.NonReloc e reg s m = brings e s (branch (not (eqb reg e.info)) (move reg e.info) skip s m) _ (either_way Told (not (eqb reg e.info)) (move reg e.info) skip s m moved (nothing_moves s m)) (λ _ t n. becomes t n e _ _)
  where
    moved : Moves s (move reg e.info s m)
    moved = moves s (emit_abc op.Move reg e.info 0 s m) _ (emitted _ s m) (λ _ t n. nothing_moves t n)
loads kind.Call e reg s m = stays s m e
loads kind.VarArg e reg s m = stays s m e

to_reg : (e : ExprContext) (reg : ℕ) (s : State) (m : Buffers) → Brings e s (discharge2reg e reg s m)
unfolding discharge2reg
to_reg e reg s m = goes_on e s (discharge_vars e s m) _ (discharges e.kind e s m) (λ d. loads d.kind d reg)

joins : (e : ExprContext) (s : State) (m : Buffers) → Brings e s (join_jump e s m)
unfolding join_jump concat and_then Stays
joins e s m = go (is_kind kind.Jmp e)
  where
    go : (b : Bool) → Brings e s (branch b (λ s m. and_then (concat e.t (jump_list e.info) s m) (λ t. return (with_jumps t e.f e))) (return e) s m)
    go true = (refl, refl)
    go false = (refl, refl)

settles : (e : ExprContext) (reg : ℕ) (s : State) (m : Buffers) → Moves s (settle e reg s m)
unfolding settle and_then
settles e reg s m = either_way Told (need_value (length m.code) m.code e.t || need_value (length m.code) m.code e.f) (load_both e reg) _ s m (loaded_both e reg s m) (moves s (get_label s m) _ (labelled s m) (λ final t n. landed t n e reg final final final))

in_place : (e : ExprContext) (reg : ℕ) (s : State) (m : Buffers) → Brings e s (placed e reg s m)
in_place e reg s m = goes_on e s (join_jump e s m) _ (joins e s m) (λ d t n. brings d t (branch (has_jumps d) (settle d reg) skip t n) _ (either_way Told (has_jumps d) (settle d reg) skip t n (settles d reg t n) (nothing_moves t n)) (λ _ u o. bare u o d))
  where
    bare : (s : State) (m : Buffers) (d : ExprContext) → Brings d s (return (with_kind kind.NonReloc reg (with_jumps 0 0 d)) s m)
    bare s m d = becomes s m (with_jumps 0 0 d) kind.NonReloc reg

regs : (e : ExprContext) (reg : ℕ) (s : State) (m : Buffers) → Brings e s (exp2reg e reg s m)
unfolding exp2reg
regs e reg s m = goes_on e s (discharge2reg e reg s m) _ (to_reg e reg s m) (λ d. in_place d reg)

free_exprs : (e : ExprContext) (s : State) (m : Buffers) → Moves s (free_expr e s m)
unfolding free_expr
free_exprs e s m = either_way Told (is_kind kind.NonReloc e) (free_reg e.info) skip s m (frees s m e.info) (nothing_moves s m)

nexts : (e : ExprContext) (s : State) (m : Buffers) → Brings e s (exp2nextreg e s m)
unfolding exp2nextreg
nexts e s m = goes_on e s (discharge_vars e s m) _ (discharges e.kind e s m) (λ d t n. brings d t (free_expr d t n) _ (free_exprs d t n) (λ _ u o. brings d u (alloc_reg u o) _ (allocates u o) (λ reg. regs d reg)))

somewhere : (e : ExprContext) (s : State) (m : Buffers) → Brings e s (any_of e s m)
unfolding and_then
somewhere e s m =
    either_way (Of e) (is_kind kind.NonReloc e) _ (exp2nextreg e) s m
    (either_way (Of e) (has_jumps e) _ (return e) s m
    (either_way (Of e) (leb s.active e.info) (exp2reg e e.info) (exp2nextreg e) s m (regs e e.info s m) (nexts e s m))
    (stays s m e))
    (nexts e s m)

anys : (e : ExprContext) (s : State) (m : Buffers) → Brings e s (exp2anyreg e s m)
unfolding exp2anyreg
anys e s m = goes_on e s (discharge_vars e s m) _ (discharges e.kind e s m) somewhere

vals : (e : ExprContext) (s : State) (m : Buffers) → Brings e s (exp2val e s m)
unfolding exp2val
vals e s m = either_way (Of e) (has_jumps e) (exp2anyreg e) (discharge_vars e) s m (anys e s m) (discharges e.kind e s m)

-- ---- operands

nears : (e : ExprContext) (k : ℕ) (s : State) (m : Buffers) → Brings e s (near e k s m)
unfolding near
nears e k s m = either_way (Of e) (leb k max_index_rk) (return (with_kind kind.K k e)) (exp2anyreg e) s m (becomes s m e kind.K k) (anys e s m)

smalls : (e : ExprContext) (v : Val) (s : State) (m : Buffers) → Brings e s (small e (add_constant [] v) s m)
unfolding small and_then
smalls e v s m = either_way (Of e) (leb s.table.count max_index_rk) _ (exp2anyreg e) s m (brings e s (add_constant [] v s m) _ (adds s m [] v) (λ k t n. becomes t n e kind.K k)) (anys e s m)

operands : (k : ExprKind) (e : ExprContext) (s : State) (m : Buffers) → Brings e s (rk_kind k e s m)
unfolding rk_kind
operands kind.Nil e s m = smalls e val.Nil s m
operands kind.True e s m = smalls e (val.Bool true) s m
operands kind.False e s m = smalls e (val.Bool false) s m
operands kind.K e s m = nears e e.info s m
operands kind.KNum e s m = brings e s (add_constant [] (val.Num e.nval e.bits) s m) _ (adds s m _ _) (λ k t n. nears e k t n)
operands kind.Local e s m = anys e s m
operands kind.Global e s m = anys e s m
operands kind.Indexed e s m = anys e s m
operands kind.Jmp e s m = anys e s m
operands kind.Relocable e s m = anys e s m
operands kind.NonReloc e s m = anys e s m
operands kind.Call e s m = anys e s m
operands kind.VarArg e s m = anys e s m

rks : (e : ExprContext) (s : State) (m : Buffers) → Brings e s (exp2rk e s m)
unfolding exp2rk
rks e s m = goes_on e s (exp2val e s m) _ (vals e s m) (λ d. operands d.kind d)

-- whatever is wanted
wanted_brings : (w : Want) (reg : ℕ) (e : ExprContext) (s : State) (m : Buffers) → Brings e s (wanted w reg e s m)
wanted_brings want.Vars reg e s m = discharges e.kind e s m
wanted_brings want.Load reg e s m = to_reg e reg s m
wanted_brings want.Reg reg e s m = regs e reg s m
wanted_brings want.Next reg e s m = nexts e s m
wanted_brings want.Any reg e s m = anys e s m
wanted_brings want.Val reg e s m = vals e s m
wanted_brings want.Rk reg e s m = rks e s m

-- so the answer is what it began with, with the changes
kept_back : (r : Described) (e : ExprContext) (s : State) (m : Buffers) → Brings e s (described_is r m) → changed (changes r) s e ≡ r
unfolding Stays
kept_back (described.Done t d) e s m p = ap (λ (x : State). described.Done x (same_number e d)) p.0 ∙ ap (described.Done t) p.1
kept_back (described.Refused k) e s m p = refl

pub wanted_kept : (w : Want) (reg : ℕ) (e : ExprContext) (s : State) (m n : Buffers) (r : Described) → wanted w reg e s m ≡ described_is r n → changed (changes r) s e ≡ r
wanted_kept w reg e s m n r q = kept_back r e s n (subst (Brings e s) q (wanted_brings w reg e s m))
