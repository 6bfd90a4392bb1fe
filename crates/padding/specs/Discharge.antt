-- Discharging keeps the tails clean: it changes words in place, patches lists and emits. Part by part.
-- What rests on something that a must-fail edit breaks stands in proofs/Discharge.antt.
use Rattle.std.specs.Prelude.{ℕ, ◌||◌, length}
use Rattle.instructions.specs.Word.{set_b_of, set_c_of}
use Rattle.model.specs.declared.ExprKind.{ExprKind}
use Rattle.model.specs.declared.ExprKind.TheVariants.{Nil, True, False, K, KNum, Local, Global, Indexed, Jmp, Relocable, NonReloc, Call, VarArg}
use Rattle.model.specs.declared.ExprContext.{ExprContext}
use Rattle.model.specs.Descriptor.{is_kind}
use Rattle.model.specs.Jumps.{jump_list, need_value}
use Rattle.model.specs.Discharge.{discharge_kind, discharge_vars, free_expr, move, land, load_both, settle, join_jump}
use Rattle.model.specs.Lowering.{Sizes}
use Rattle.padding.specs.Clean.{Keeps, keeps_return, keeps_skip, keeps_words, keeps_then, keeps_if, keeps_when}
use Rattle.padding.specs.Emission.{keeps_change_word, keeps_emit, keeps_concat, keeps_patch_list, keeps_emit_jump, keeps_patch_to_here, keeps_get_label, keeps_code_label, keeps_free_reg}

module _ {z : Sizes} where
  keeps_discharge_kind : (k : ExprKind) (e : ExprContext) → Keeps z (discharge_kind k e)
  unfolding discharge_kind
  keeps_discharge_kind Nil e = keeps_return _
  keeps_discharge_kind True e = keeps_return _
  keeps_discharge_kind False e = keeps_return _
  keeps_discharge_kind K e = keeps_return _
  keeps_discharge_kind KNum e = keeps_return _
  keeps_discharge_kind Local e = keeps_return _
  keeps_discharge_kind Global e = keeps_then (keeps_emit _) (λ pc. keeps_return _)
  keeps_discharge_kind Indexed e = keeps_then (keeps_free_reg e.aux) (λ _. keeps_then (keeps_free_reg e.info) (λ _. keeps_then (keeps_emit _) (λ pc. keeps_return _)))
  keeps_discharge_kind Jmp e = keeps_return _
  keeps_discharge_kind Relocable e = keeps_return _
  keeps_discharge_kind NonReloc e = keeps_return _
  keeps_discharge_kind Call e = keeps_then (keeps_change_word e.info (λ w. set_c_of w 2)) (λ _. keeps_then keeps_words (λ code. keeps_return _))
  keeps_discharge_kind VarArg e = keeps_then (keeps_change_word e.info (λ w. set_b_of w 2)) (λ _. keeps_return _)

  pub keeps_discharge_vars : (e : ExprContext) → Keeps z (discharge_vars e)
  keeps_discharge_vars e = keeps_discharge_kind e.kind e

  pub keeps_free_expr : (e : ExprContext) → Keeps z (free_expr e)
  unfolding free_expr
  keeps_free_expr e = keeps_when (is_kind NonReloc e) (keeps_free_reg e.info)

  pub keeps_move : (to from : ℕ) → Keeps z (move to from)
  keeps_move to from = keeps_then (keeps_emit _) (λ _. keeps_skip)

  keeps_land : (e : ExprContext) (reg final on_false on_true : ℕ) → Keeps z (land e reg final on_false on_true)
  unfolding land
  keeps_land e reg final on_false on_true = keeps_then (keeps_patch_list e.f final reg on_false) (λ _. keeps_patch_list e.t final reg on_true)

  keeps_load_both : (e : ExprContext) (reg : ℕ) → Keeps z (load_both e reg)
  unfolding load_both
  keeps_load_both e reg =
      keeps_then (keeps_if (is_kind Jmp e) (keeps_return 0) keeps_emit_jump) (λ over.
      keeps_then (keeps_code_label reg 0 1) (λ on_false.
      keeps_then (keeps_code_label reg 1 0) (λ on_true.
      keeps_then (keeps_patch_to_here over) (λ _.
      keeps_then keeps_get_label (λ final. keeps_land e reg final on_false on_true)))))

  pub keeps_settle : (e : ExprContext) (reg : ℕ) → Keeps z (settle e reg)
  unfolding settle
  keeps_settle e reg = keeps_then keeps_words (λ code.
      keeps_if (need_value (length code) code e.t || need_value (length code) code e.f) (keeps_load_both e reg) (keeps_then keeps_get_label (λ final. keeps_land e reg final final final)))

  pub keeps_join_jump : (e : ExprContext) → Keeps z (join_jump e)
  unfolding join_jump
  keeps_join_jump e = keeps_if (is_kind Jmp e) (keeps_then (keeps_concat e.t (jump_list e.info)) (λ t. keeps_return _)) (keeps_return e)
