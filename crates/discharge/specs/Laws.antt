-- Discharging step by step: what a definition comes to once its first step's answer is known. Assumes nothing.
use types.Run.{OneOf, miss}
use denote.Enum.Declared.{tag_of}
use Rattle.std.specs.Prelude.{ℕ, ◌≤◌, ◌<◌, Bool, true, false, not, ◌||◌, List, [], ◌∷◌, ◌≡◌, leb, length, set}
use Rattle.std.proofs.Common.{true≢false, ◌∙◌, eq-eqb, ne_eqb, le-leb}
use Rattle.std.proofs.Math.Path.{refl, ap}
use Rattle.std.proofs.lemmas.Bool.{lt-leb}
use Rattle.refusals.specs.declared.Refusal.{Refusal}
use Rattle.instructions.specs.Limits.{max_index_rk}
use Rattle.instructions.specs.Word.{a_of, set_a_of, set_b_of, set_c_of}
use Rattle.opcodes.specs.declared.OpCode.TheVariants as op
use Rattle.constants.specs.declared.Val.TheVariants as val
use Rattle.model.specs.declared.ExprKind.{ExprKind}
use Rattle.model.specs.declared.ExprKind.TheVariants.{Nil, True, False, K, KNum, Local, Global, Indexed, Jmp, Relocable, NonReloc, Call, VarArg}
use Rattle.model.specs.declared.ExprContext.{ExprContext}
use Rattle.model.specs.declared.State.{State}
use Rattle.model.specs.Given.{Given}
use Rattle.model.specs.Described.{Described}
use Rattle.model.specs.Steps.{Buffers, bufs, Step, Result, done, refused, and_then, skip, given_is, described_is}
use Rattle.model.specs.Descriptor.{with_kind, with_jumps, has_jumps, is_kind}
use Rattle.model.specs.Jumps.{word, concat_jumps, linked, jump_list, need_value, patch_list_aux}
use Rattle.model.specs.Emission.{concat, emit_jump, code_label, patch_to_here, get_label, emit_abc, emit_abx, emit_nil, alloc_reg, free_reg, add_constant}
use Rattle.model.specs.Discharge.{discharge_kind, discharge_vars, free_expr, number_constant, load_kind, move, discharge2reg, discharge2anyreg, land, load_both, settle, join_jump, exp2reg, exp2nextreg, exp2anyreg, exp2val, small, near, rk_kind, exp2rk}
use Rattle.model.specs.contracts.ExprKind.{the_type}
use Rattle.emission.specs.Laws.{branch}
use Rattle.discharge.specs.Kinds.{kind_is, put, give, over_of, load_yes, load_no, placed, next_of, any_of, constant_of}

-- an answer that was found to be one of its kinds
pub given_told : (g : Given) (m : Buffers) {x : Result ℕ} {h : Given} → x ≡ given_is g m → g ≡ h → x ≡ given_is h m
given_told g m q e = q ∙ ap (λ (o : Given). given_is o m) e

pub described_told : (g : Described) (m : Buffers) {x : Result ExprContext} {h : Described} → x ≡ described_is g m → g ≡ h → x ≡ described_is h m
described_told g m q e = q ∙ ap (λ (o : Described). described_is o m) e

-- ---- variables

module _ (e : ExprContext) (s : State) (m : Buffers) where
  pub global_done : {pc : ℕ} {t : State} {k : Buffers} → emit_abx op.GetGlobal 0 e.info s m ≡ done pc t k → discharge_kind Global e s m ≡ done (with_kind Relocable pc e) t k
  unfolding discharge_kind and_then
  global_done h = simp (discharge_kind, h)

  pub global_refused : {r : Refusal} {k : Buffers} → emit_abx op.GetGlobal 0 e.info s m ≡ refused r k → discharge_kind Global e s m ≡ refused r k
  unfolding discharge_kind and_then
  global_refused h = simp (discharge_kind, h)

  module _ {a b : State} (ha : free_reg e.aux s m ≡ done tt a m) (hb : free_reg e.info a m ≡ done tt b m) where
    pub indexed_done : {pc : ℕ} {t : State} {k : Buffers} → emit_abc op.GetTable 0 e.info e.aux b m ≡ done pc t k → discharge_kind Indexed e s m ≡ done (with_kind Relocable pc e) t k
    unfolding discharge_kind and_then
    indexed_done h = simp (discharge_kind, ha, hb, h)

    pub indexed_refused : {r : Refusal} {k : Buffers} → emit_abc op.GetTable 0 e.info e.aux b m ≡ refused r k → discharge_kind Indexed e s m ≡ refused r k
    unfolding discharge_kind and_then
    indexed_refused h = simp (discharge_kind, ha, hb, h)

module _ (e : ExprContext) (s : State) (code ls ks vs p : List ℕ) where
  pub call_is : {after : List ℕ} → set code e.info (set_c_of (word code e.info) 2) ≡ after →
      discharge_kind Call e s (bufs code ls ks vs p) ≡ done (with_kind NonReloc (a_of (word after e.info)) e) s (bufs after ls ks vs p)
  unfolding discharge_kind and_then
  call_is h = simp (discharge_kind, h)

  pub vararg_is : {after : List ℕ} → set code e.info (set_b_of (word code e.info) 2) ≡ after →
      discharge_kind VarArg e s (bufs code ls ks vs p) ≡ done (with_kind Relocable e.info e) s (bufs after ls ks vs p)
  unfolding discharge_kind and_then
  vararg_is h = simp (discharge_kind, h)

-- of a known kind
pub of_kind : {k : ExprKind} (e : ExprContext) (s : State) (m : Buffers) {r : Result ExprContext} → e.kind ≡ k → discharge_kind k e s m ≡ r → discharge_kind e.kind e s m ≡ r
of_kind e s m h q = ap (λ (x : ExprKind). discharge_kind x e s m) h ∙ q

pub local_is : (e : ExprContext) (s : State) (m : Buffers) → discharge_kind Local e s m ≡ done (with_kind NonReloc e.info e) s m
unfolding discharge_kind
local_is e s m = refl

-- the kinds that `discharge_vars` names no word for: a value stays as it is
abbrev value_tags : List ℕ
value_tags = 0 ∷ 1 ∷ 2 ∷ 3 ∷ 4 ∷ 8 ∷ 9 ∷ 10 ∷ []

pub value_is : (k : ExprKind) (e : ExprContext) (s : State) (m : Buffers) → OneOf value_tags (tag_of the_type k) → discharge_kind k e s m ≡ done e s m
unfolding discharge_kind
value_is Nil e s m h = refl
value_is True e s m h = refl
value_is False e s m h = refl
value_is K e s m h = refl
value_is KNum e s m h = refl
value_is Local e s m h = absurd (miss value_tags (tag_of the_type Local) tt h)
value_is Global e s m h = absurd (miss value_tags (tag_of the_type Global) tt h)
value_is Indexed e s m h = absurd (miss value_tags (tag_of the_type Indexed) tt h)
value_is Jmp e s m h = refl
value_is Relocable e s m h = refl
value_is NonReloc e s m h = refl
value_is Call e s m h = absurd (miss value_tags (tag_of the_type Call) tt h)
value_is VarArg e s m h = absurd (miss value_tags (tag_of the_type VarArg) tt h)

-- ---- to a register

pub load_of : {k : ExprKind} (e : ExprContext) (reg : ℕ) (s : State) (m : Buffers) {r : Result ExprContext} → e.kind ≡ k → load_kind k e reg s m ≡ r → load_kind e.kind e reg s m ≡ r
load_of e reg s m h q = ap (λ (x : ExprKind). load_kind x e reg s m) h ∙ q

module _ (e : ExprContext) (reg : ℕ) (s : State) (m : Buffers) where
  pub nil_loaded : {t : State} {k : Buffers} → emit_nil reg s m ≡ done tt t k → load_kind Nil e reg s m ≡ done (with_kind NonReloc reg e) t k
  unfolding load_kind and_then
  nil_loaded h = simp (load_kind, h)

  pub nil_refused : {r : Refusal} {k : Buffers} → emit_nil reg s m ≡ refused r k → load_kind Nil e reg s m ≡ refused r k
  unfolding load_kind and_then
  nil_refused h = simp (load_kind, h)

  module _ {x : Result ℕ} {r : Result ExprContext} where
    pub true_loaded : emit_abc op.LoadBool reg 1 0 s m ≡ x → and_then x (put e reg) ≡ r → load_kind True e reg s m ≡ r
    unfolding load_kind
    true_loaded h q = ap (λ (y : Result ℕ). and_then y (put e reg)) h ∙ q

    pub false_loaded : emit_abc op.LoadBool reg 0 0 s m ≡ x → and_then x (put e reg) ≡ r → load_kind False e reg s m ≡ r
    unfolding load_kind
    false_loaded h q = ap (λ (y : Result ℕ). and_then y (put e reg)) h ∙ q

    pub k_loaded : emit_abx op.LoadK reg e.info s m ≡ x → and_then x (put e reg) ≡ r → load_kind K e reg s m ≡ r
    unfolding load_kind
    k_loaded h q = ap (λ (y : Result ℕ). and_then y (put e reg)) h ∙ q

    pub number_loaded : {n : ℕ} {t : State} {k : Buffers} → number_constant e s m ≡ done n t k → emit_abx op.LoadK reg n t k ≡ x → and_then x (put e reg) ≡ r → load_kind KNum e reg s m ≡ r
    unfolding load_kind and_then
    number_loaded f h q =
        ap (λ (y : Result ℕ). and_then y (λ (n : ℕ) (a : State) (b : Buffers). and_then (emit_abx op.LoadK reg n a b) (put e reg))) f ∙ ap (λ (y : Result ℕ). and_then y (put e reg)) h ∙ q

    pub moved : (reg ≡ e.info → ⊥) → emit_abc op.Move reg e.info 0 s m ≡ x → and_then x (put e reg) ≡ r → load_kind NonReloc e reg s m ≡ r
    unfolding load_kind and_then
    moved d h q =
        ap (λ (b : Bool). and_then (branch (not b) (move reg e.info) skip s m) (λ _. put e reg 0)) (ne_eqb reg e.info d)
        ∙ ap (λ (y : Result ℕ). and_then (and_then y (λ _. skip)) (λ _. put e reg 0)) h
        ∙ twice x
        ∙ q
      where
        twice : (y : Result ℕ) → and_then (and_then y (λ _. skip)) (λ _. put e reg 0) ≡ and_then y (put e reg)
        twice (done n a b) = refl
        twice (refused k b) = refl

  pub number_refused : {r : Refusal} {k : Buffers} → number_constant e s m ≡ refused r k → load_kind KNum e reg s m ≡ refused r k
  unfolding load_kind and_then
  number_refused h = simp (load_kind, h)

  pub unmoved : reg ≡ e.info → load_kind NonReloc e reg s m ≡ done (with_kind NonReloc reg e) s m
  unfolding load_kind and_then
  unmoved h = ap (λ (b : Bool). and_then (branch (not b) (move reg e.info) skip s m) (λ _. put e reg 0)) (eq-eqb reg e.info h)

  pub to_reg : {d : ExprContext} {t : State} {k : Buffers} → discharge_vars e s m ≡ done d t k → discharge2reg e reg s m ≡ load_kind d.kind d reg t k
  unfolding discharge2reg and_then
  to_reg h = simp (discharge2reg, h)

  pub to_reg_refused : {r : Refusal} {k : Buffers} → discharge_vars e s m ≡ refused r k → discharge2reg e reg s m ≡ refused r k
  unfolding discharge2reg and_then
  to_reg_refused h = simp (discharge2reg, h)

pub relocated : (e : ExprContext) (reg : ℕ) (s : State) (code ls ks vs p : List ℕ) {after : List ℕ} → set code e.info (set_a_of (word code e.info) reg) ≡ after →
    load_kind Relocable e reg s (bufs code ls ks vs p) ≡ done (with_kind NonReloc reg e) s (bufs after ls ks vs p)
unfolding load_kind and_then
relocated e reg s code ls ks vs p h = simp (load_kind, h)

-- nothing to load
abbrev unloaded_tags : List ℕ
unloaded_tags = 5 ∷ 6 ∷ 7 ∷ 8 ∷ 11 ∷ 12 ∷ []

pub unloaded : (k : ExprKind) (e : ExprContext) (reg : ℕ) (s : State) (m : Buffers) → OneOf unloaded_tags (tag_of the_type k) → load_kind k e reg s m ≡ done e s m
unfolding load_kind
unloaded Nil e reg s m h = absurd (miss unloaded_tags (tag_of the_type Nil) tt h)
unloaded True e reg s m h = absurd (miss unloaded_tags (tag_of the_type True) tt h)
unloaded False e reg s m h = absurd (miss unloaded_tags (tag_of the_type False) tt h)
unloaded K e reg s m h = absurd (miss unloaded_tags (tag_of the_type K) tt h)
unloaded KNum e reg s m h = absurd (miss unloaded_tags (tag_of the_type KNum) tt h)
unloaded Local e reg s m h = refl
unloaded Global e reg s m h = refl
unloaded Indexed e reg s m h = refl
unloaded Jmp e reg s m h = refl
unloaded Relocable e reg s m h = absurd (miss unloaded_tags (tag_of the_type Relocable) tt h)
unloaded NonReloc e reg s m h = absurd (miss unloaded_tags (tag_of the_type NonReloc) tt h)
unloaded Call e reg s m h = refl
unloaded VarArg e reg s m h = refl

module _ (e : ExprContext) (s : State) (m : Buffers) where
  pub any_reg_has : is_kind NonReloc e ≡ true → discharge2anyreg e s m ≡ done e s m
  unfolding discharge2anyreg
  any_reg_has h = ap (λ (b : Bool). branch b (λ (a : State) (k : Buffers). done e a k) (λ (a : State) (k : Buffers). and_then (alloc_reg a k) (λ (reg : ℕ). discharge2reg e reg)) s m) h

  module _ (h : is_kind NonReloc e ≡ false) where
    any_reg_is : discharge2anyreg e s m ≡ and_then (alloc_reg s m) (λ (reg : ℕ). discharge2reg e reg)
    unfolding discharge2anyreg
    any_reg_is = ap (λ (b : Bool). branch b (λ (a : State) (k : Buffers). done e a k) (λ (a : State) (k : Buffers). and_then (alloc_reg a k) (λ (reg : ℕ). discharge2reg e reg)) s m) h

    pub any_reg_done : {n : ℕ} {t : State} {k : Buffers} → alloc_reg s m ≡ done n t k → discharge2anyreg e s m ≡ discharge2reg e n t k
    unfolding and_then
    any_reg_done q = any_reg_is ∙ ap (λ (y : Result ℕ). and_then y (λ (reg : ℕ). discharge2reg e reg)) q

    pub any_reg_refused : {r : Refusal} {k : Buffers} → alloc_reg s m ≡ refused r k → discharge2anyreg e s m ≡ refused r k
    unfolding and_then
    any_reg_refused q = any_reg_is ∙ ap (λ (y : Result ℕ). and_then y (λ (reg : ℕ). discharge2reg e reg)) q

-- ---- jumps that bring a value

module _ (e : ExprContext) (reg last off on : ℕ) (s : State) (code ls ks vs p : List ℕ) where
  pub land_is : {one two : List ℕ} → patch_list_aux (length code) code e.f last reg off ≡ one → patch_list_aux (length one) one e.t last reg on ≡ two →
      land e reg last off on s (bufs code ls ks vs p) ≡ done tt s (bufs two ls ks vs p)
  unfolding land and_then
  land_is h q = simp (land, h, q)

module _ (e : ExprContext) (s : State) (m : Buffers) where
  pub over_none : is_kind Jmp e ≡ true → over_of e s m ≡ done 0 s m
  over_none h = ap (λ (b : Bool). branch b (λ (a : State) (k : Buffers). done 0 a k) emit_jump s m) h

  pub over_some : is_kind Jmp e ≡ false → over_of e s m ≡ emit_jump s m
  over_some h = ap (λ (b : Bool). branch b (λ (a : State) (k : Buffers). done 0 a k) emit_jump s m) h

  pub not_joined : is_kind Jmp e ≡ false → join_jump e s m ≡ done e s m
  unfolding join_jump
  not_joined h = ap (λ (b : Bool). branch b (λ (a : State) (k : Buffers). and_then (concat e.t (jump_list e.info) a k) (λ (t : ℕ) (a₁ : State) (k₁ : Buffers). done (with_jumps t e.f e) a₁ k₁)) (λ (a : State) (k : Buffers). done e a k) s m) h

pub joined : (e : ExprContext) (s : State) (code ls ks vs p : List ℕ) → is_kind Jmp e ≡ true →
    join_jump e s (bufs code ls ks vs p) ≡ done (with_jumps (concat_jumps e.t (jump_list e.info)) e.f e) s (bufs (linked code e.t (jump_list e.info)) ls ks vs p)
unfolding join_jump concat and_then
joined e s code ls ks vs p h = ap (λ (b : Bool). branch b (λ (a : State) (k : Buffers). and_then (concat e.t (jump_list e.info) a k) (λ (t : ℕ) (a₁ : State) (k₁ : Buffers). done (with_jumps t e.f e) a₁ k₁)) (λ (a : State) (k : Buffers). done e a k) s (bufs code ls ks vs p)) h

module _ (e : ExprContext) (reg over : ℕ) (s : State) (m : Buffers) where
  pub yes_done : (off : ℕ) {on : ℕ} {t u v : State} {k l o : Buffers} → code_label reg 1 0 s m ≡ done on t k → patch_to_here over t k ≡ done tt u l → get_label u l ≡ done u.pc v l →
      land e reg u.pc off on v l ≡ done tt v o → load_yes e reg over off s m ≡ done tt v o
  unfolding and_then
  yes_done off a b c d = simp (a, b, c, d)

  pub yes_refused : (off : ℕ) {r : Refusal} {k : Buffers} → code_label reg 1 0 s m ≡ refused r k → load_yes e reg over off s m ≡ refused r k
  unfolding and_then
  yes_refused off h = simp (h)

  pub no_done : {off : ℕ} {t : State} {k : Buffers} → code_label reg 0 1 s m ≡ done off t k → load_no e reg over s m ≡ load_yes e reg over off t k
  unfolding and_then
  no_done h = simp (h)

  pub no_refused : {r : Refusal} {k : Buffers} → code_label reg 0 1 s m ≡ refused r k → load_no e reg over s m ≡ refused r k
  unfolding and_then
  no_refused h = simp (h)

module _ (e : ExprContext) (reg : ℕ) (s : State) (m : Buffers) where
  both_is : load_both e reg s m ≡ and_then (over_of e s m) (load_no e reg)
  unfolding load_both
  both_is = refl

  pub both_done : {over : ℕ} {t : State} {k : Buffers} → over_of e s m ≡ done over t k → load_both e reg s m ≡ load_no e reg over t k
  unfolding and_then
  both_done h = both_is ∙ ap (λ (y : Result ℕ). and_then y (load_no e reg)) h

  pub both_refused : {r : Refusal} {k : Buffers} → over_of e s m ≡ refused r k → load_both e reg s m ≡ refused r k
  unfolding and_then
  both_refused h = both_is ∙ ap (λ (y : Result ℕ). and_then y (load_no e reg)) h

  abbrev landed : Step (Unit {0})
  landed a k = and_then (get_label a k) (λ (final : ℕ). land e reg final final final)

  abbrev needs : ℕ → Bool
  needs list = need_value (length m.code) m.code list

  module _ {b : Bool} (h : (needs e.t || needs e.f) ≡ b) where
    settle_is : settle e reg s m ≡ branch b (load_both e reg) landed s m
    unfolding settle and_then
    settle_is = ap (λ (x : Bool). branch x (load_both e reg) landed s m) h

  pub settle_loads : (needs e.t || needs e.f) ≡ true → settle e reg s m ≡ load_both e reg s m
  settle_loads h = settle_is h

  pub settle_none : {t : State} {k : Buffers} → (needs e.t || needs e.f) ≡ false → get_label s m ≡ done s.pc t m → land e reg s.pc s.pc s.pc t m ≡ done tt t k → settle e reg s m ≡ done tt t k
  unfolding and_then
  settle_none h g l = settle_is h ∙ ap (λ (y : Result ℕ). and_then y (λ (final : ℕ). land e reg final final final)) g ∙ l

  module _ {d : ExprContext} {k : Buffers} (j : join_jump e s m ≡ done d s k) where
    abbrev rest : ExprContext → Step ExprContext
    rest x a o = and_then (branch (has_jumps x) (settle x reg) skip a o) (give (with_kind NonReloc reg (with_jumps 0 0 x)))

    placed_is : placed e reg s m ≡ rest d s k
    unfolding and_then
    placed_is = ap (λ (y : Result ExprContext). and_then y rest) j

    module _ {bare there : ExprContext} (w : with_jumps 0 0 d ≡ bare) (v : with_kind NonReloc reg bare ≡ there) where
      there_is : with_kind NonReloc reg (with_jumps 0 0 d) ≡ there
      there_is = ap (λ (x : ExprContext). with_kind NonReloc reg x) w ∙ v

      pub placed_settled : {x : Result (Unit {0})} {r : Result ExprContext} → has_jumps d ≡ true → settle d reg s k ≡ x → and_then x (give there) ≡ r → placed e reg s m ≡ r
      placed_settled {x} h q z =
          placed_is
          ∙ ap (λ (b : Bool). and_then (branch b (settle d reg) skip s k) (give (with_kind NonReloc reg (with_jumps 0 0 d)))) h
          ∙ ap (λ (y : Result (Unit {0})). and_then y (give (with_kind NonReloc reg (with_jumps 0 0 d)))) q
          ∙ ap (λ (y : ExprContext). and_then x (give y)) there_is
          ∙ z

      pub placed_bare : has_jumps d ≡ false → placed e reg s m ≡ done there s k
      unfolding and_then
      placed_bare h =
          placed_is
          ∙ ap (λ (b : Bool). and_then (branch b (settle d reg) skip s k) (give (with_kind NonReloc reg (with_jumps 0 0 d)))) h
          ∙ ap (λ (y : ExprContext). done y s k) there_is

  pub reg_refused : {r : Refusal} {k : Buffers} → discharge2reg e reg s m ≡ refused r k → exp2reg e reg s m ≡ refused r k
  unfolding exp2reg and_then
  reg_refused h = ap (λ (y : Result ExprContext). and_then y (λ (d : ExprContext). placed d reg)) h

-- ---- to the next register, to any, and as an operand

module _ (e : ExprContext) (s : State) (m : Buffers) where
  pub next_done : {d : ExprContext} {t : State} {k : Buffers} → discharge_vars e s m ≡ done d t k → exp2nextreg e s m ≡ next_of d t k
  unfolding exp2nextreg and_then
  next_done h = ap (λ (y : Result ExprContext). and_then y (λ (d : ExprContext). next_of d)) h

  pub next_refused : {r : Refusal} {k : Buffers} → discharge_vars e s m ≡ refused r k → exp2nextreg e s m ≡ refused r k
  unfolding exp2nextreg and_then
  next_refused h = ap (λ (y : Result ExprContext). and_then y (λ (d : ExprContext). next_of d)) h

  pub any_done : {d : ExprContext} {t : State} {k : Buffers} → discharge_vars e s m ≡ done d t k → exp2anyreg e s m ≡ any_of d t k
  unfolding exp2anyreg and_then
  any_done h = ap (λ (y : Result ExprContext). and_then y (λ (d : ExprContext). any_of d)) h

  pub any_refused : {r : Refusal} {k : Buffers} → discharge_vars e s m ≡ refused r k → exp2anyreg e s m ≡ refused r k
  unfolding exp2anyreg and_then
  any_refused h = ap (λ (y : Result ExprContext). and_then y (λ (d : ExprContext). any_of d)) h

  module _ {t : State} (f : free_expr e s m ≡ done tt t m) where
    taken_is : next_of e s m ≡ and_then (alloc_reg t m) (λ (reg : ℕ). exp2reg e reg)
    unfolding and_then
    taken_is = ap (λ (y : Result (Unit {0})). and_then y (λ _ (a : State) (k : Buffers). and_then (alloc_reg a k) (λ (reg : ℕ). exp2reg e reg))) f

    pub taken_done : {reg : ℕ} {u : State} {k : Buffers} → alloc_reg t m ≡ done reg u k → next_of e s m ≡ exp2reg e reg u k
    unfolding and_then
    taken_done h = taken_is ∙ ap (λ (y : Result ℕ). and_then y (λ (reg : ℕ). exp2reg e reg)) h

    pub taken_refused : {r : Refusal} {k : Buffers} → alloc_reg t m ≡ refused r k → next_of e s m ≡ refused r k
    unfolding and_then
    taken_refused h = taken_is ∙ ap (λ (y : Result ℕ). and_then y (λ (reg : ℕ). exp2reg e reg)) h

  abbrev reused : Step ExprContext
  reused = branch (leb s.active e.info) (exp2reg e e.info) (exp2nextreg e)

  abbrev stays : Step ExprContext
  stays = give e tt

  pub any_elsewhere : is_kind NonReloc e ≡ false → any_of e s m ≡ exp2nextreg e s m
  unfolding and_then
  any_elsewhere h = ap (λ (b : Bool). branch b (branch (has_jumps e) reused stays) (exp2nextreg e) s m) h

  module _ (h : is_kind NonReloc e ≡ true) where
    any_is : any_of e s m ≡ branch (has_jumps e) reused stays s m
    unfolding and_then
    any_is = ap (λ (b : Bool). branch b (branch (has_jumps e) reused stays) (exp2nextreg e) s m) h

    pub any_there : has_jumps e ≡ false → any_of e s m ≡ done e s m
    any_there q = any_is ∙ ap (λ (b : Bool). branch b reused stays s m) q

    pub any_jumps : has_jumps e ≡ true → any_of e s m ≡ reused s m
    any_jumps q = any_is ∙ ap (λ (b : Bool). branch b reused stays s m) q

    pub any_reused : has_jumps e ≡ true → s.active ≤ e.info → any_of e s m ≡ exp2reg e e.info s m
    any_reused q l = any_jumps q ∙ ap (λ (b : Bool). branch b (exp2reg e e.info) (exp2nextreg e) s m) (le-leb s.active e.info l)

    pub any_next : has_jumps e ≡ true → e.info < s.active → any_of e s m ≡ exp2nextreg e s m
    any_next q l = any_jumps q ∙ ap (λ (b : Bool). branch b (exp2reg e e.info) (exp2nextreg e) s m) (lt-leb s.active e.info l)

  pub val_jumps : has_jumps e ≡ true → exp2val e s m ≡ exp2anyreg e s m
  unfolding exp2val
  val_jumps h = ap (λ (b : Bool). branch b (exp2anyreg e) (discharge_vars e) s m) h

  pub val_plain : has_jumps e ≡ false → exp2val e s m ≡ discharge_vars e s m
  unfolding exp2val
  val_plain h = ap (λ (b : Bool). branch b (exp2anyreg e) (discharge_vars e) s m) h

  module _ (constant : Step ℕ) where
    abbrev fitting : Step ExprContext
    fitting a k = and_then (constant a k) (constant_of e)

    module _ (l : leb s.table.count max_index_rk ≡ true) where
      fits_is : small e constant s m ≡ and_then (constant s m) (constant_of e)
      unfolding small and_then
      fits_is = ap (λ (b : Bool). branch b fitting (exp2anyreg e) s m) l

      pub small_done : {k : ℕ} {t : State} {n : Buffers} → constant s m ≡ done k t n → small e constant s m ≡ done (with_kind K k e) t n
      unfolding and_then
      small_done h = fits_is ∙ ap (λ (y : Result ℕ). and_then y (constant_of e)) h

      pub small_refused : {r : Refusal} {n : Buffers} → constant s m ≡ refused r n → small e constant s m ≡ refused r n
      unfolding and_then
      small_refused h = fits_is ∙ ap (λ (y : Result ℕ). and_then y (constant_of e)) h

    pub small_not : leb s.table.count max_index_rk ≡ false → small e constant s m ≡ exp2anyreg e s m
    unfolding small and_then
    small_not l = ap (λ (b : Bool). branch b fitting (exp2anyreg e) s m) l

  pub near_fits : (k : ℕ) → leb k max_index_rk ≡ true → near e k s m ≡ done (with_kind K k e) s m
  unfolding near
  near_fits k l = ap (λ (b : Bool). branch b (constant_of e k) (exp2anyreg e) s m) l

  pub near_not : (k : ℕ) → leb k max_index_rk ≡ false → near e k s m ≡ exp2anyreg e s m
  unfolding near
  near_not k l = ap (λ (b : Bool). branch b (constant_of e k) (exp2anyreg e) s m) l

  pub rk_of : (k : ExprKind) {r : Result ExprContext} → is_kind k e ≡ true → rk_kind k e s m ≡ r → rk_kind e.kind e s m ≡ r
  rk_of k h q = ap (λ (x : ExprKind). rk_kind x e s m) (kind_is k e h) ∙ q

  pub rk_nil : rk_kind Nil e s m ≡ small e (add_constant [] val.Nil) s m
  unfolding rk_kind
  rk_nil = refl

  pub rk_true : rk_kind True e s m ≡ small e (add_constant [] (val.Bool true)) s m
  unfolding rk_kind
  rk_true = refl

  pub rk_false : rk_kind False e s m ≡ small e (add_constant [] (val.Bool false)) s m
  unfolding rk_kind
  rk_false = refl

  pub rk_k : rk_kind K e s m ≡ near e e.info s m
  unfolding rk_kind
  rk_k = refl

  pub rk_number_done : {d : ℕ} {t : State} {k : Buffers} → number_constant e s m ≡ done d t k → rk_kind KNum e s m ≡ near e d t k
  unfolding rk_kind and_then
  rk_number_done h = ap (λ (y : Result ℕ). and_then y (λ (d : ℕ). near e d)) h

  pub rk_number_refused : {r : Refusal} {k : Buffers} → number_constant e s m ≡ refused r k → rk_kind KNum e s m ≡ refused r k
  unfolding rk_kind and_then
  rk_number_refused h = ap (λ (y : Result ℕ). and_then y (λ (d : ℕ). near e d)) h

  pub operand_done : {d : ExprContext} {t : State} {k : Buffers} → exp2val e s m ≡ done d t k → exp2rk e s m ≡ rk_kind d.kind d t k
  unfolding exp2rk and_then
  operand_done h = ap (λ (y : Result ExprContext). and_then y (λ (d : ExprContext). rk_kind d.kind d)) h

  pub operand_refused : {r : Refusal} {k : Buffers} → exp2val e s m ≡ refused r k → exp2rk e s m ≡ refused r k
  unfolding exp2rk and_then
  operand_refused h = ap (λ (y : Result ExprContext). and_then y (λ (d : ExprContext). rk_kind d.kind d)) h

pub rk_else : (k : ExprKind) (e : ExprContext) (s : State) (m : Buffers) → e.kind ≡ k →
    is_kind Nil e ≡ false → is_kind True e ≡ false → is_kind False e ≡ false → is_kind K e ≡ false → is_kind KNum e ≡ false → rk_kind k e s m ≡ exp2anyreg e s m
unfolding rk_kind
rk_else Nil e s m q a b c d f = absurd (true≢false (rw q at a))
rk_else True e s m q a b c d f = absurd (true≢false (rw q at b))
rk_else False e s m q a b c d f = absurd (true≢false (rw q at c))
rk_else K e s m q a b c d f = absurd (true≢false (rw q at d))
rk_else KNum e s m q a b c d f = absurd (true≢false (rw q at f))
rk_else Local e s m q a b c d f = refl
rk_else Global e s m q a b c d f = refl
rk_else Indexed e s m q a b c d f = refl
rk_else Jmp e s m q a b c d f = refl
rk_else Relocable e s m q a b c d f = refl
rk_else NonReloc e s m q a b c d f = refl
rk_else Call e s m q a b c d f = refl
rk_else VarArg e s m q a b c d f = refl
