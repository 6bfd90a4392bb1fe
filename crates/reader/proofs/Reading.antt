-- A function of a slice and a place that makes a Reader and asks it for a field of any kind (`Field.antt`): a walk of its MIR. The Reader that one call returns is held in a local and passed to the next; all that is known of the two callees is that each meets its contract.
-- In a local of a body MIR erases the lifetime of the struct's type, so the value is shown to have the type at `erased`: what the struct owns does not say the lifetime's name.
-- Assumes nothing.
use mathlib.Core.Path.{◌≡◌, refl, sym, ap, ◌∙◌}
use Prim.Native.Nat.{ℕ, ◌<◌, ◌^◌}
use mathlib.Core.List.{List, [], ◌∷◌}
use lib.ListN.{length}
use seplogic.Ra.Ura.{Ura}
use mir.Syntax.{Callee, Fn, named, erased, w8, w64, place, copy, call, seq, return}
use mir.Val.{Val, vint}
use base.Logic.{SProp, ent, sep, via, fst∗, snd∗, ex_e, id⊢}
use base.Fml.{Lft, Share, Fml, ftrue, flft}
use prog.Memory.{Memory}
use prog.Model.{Model}
use prog.Routine.{Routine, Env}
use prog.Wired.{Wired}
use prog.Wp.{Calls, Loops, WpFn, Closed, Tables}
use types.Logic.{Logic, sem}
use contract.Monad.{Fun, fact}
use contract.Running.{Running, tables, tables_of, within}
use types.Kit.{‵, raw, ◌⊛◌, ⋆, some, later, ◌$◌, ◌∵◌, !, qed, by, move, use1, use2, split, join, pick, fsplit, fjoin, suffices, frame, await, done}
use types.Run.{look, init, forget, stop, from, load, and_then, no_more, land, returns, enter, alloc1, alloc0, params1, pass1, pass0, free1, free0}
use sound.WpLaws.{FmC, fm_of, WpFn-mono}
use denote.RattleType.{owns}
use denote.Laws.{Is, shows}
use denote.Plain.{uint_row_laws, uint_vals, uint_Tells, uint_Makes}
use denote.Builtin.{u8, usize}
use denote.Ref.{Bor, NamedLft}
use denote.Signature.{plain}
use denote.Slice.{slice_val, ShrSlice, shr_slice_vals, shr_slice_Tells, shr_slice_Lawful, shr_slice_copy}
use denote.Steps.{owned, peeks, heard, nothing}
use denote.Enum.Enum.{Few}
use denote.Enum.Declared as E
use denote.Enum.Laws as EL
use denote.Struct.Laws as LL
use denote.Triple.Statement.{Contract, Triple}
use denote.Triple.Call.{calls_at}
use denote.Triple.Entry.{Vals, on_entry}
use denote.Triple.Spec.{Meets, triple_of}
use denote.Triple.Table.{entered, cited}
use denote.Triple.Walked.{Stays, stay_none, stay_none_slice, walk_of, Goes-none, Goes-none_slice, Walks, ends_at, walked, walk_Meets}
use denote.Exit.{yes}
use denote.Triple.Clauses.{Clauses, ensured, lasts, closing}
use Rattle.reader.specs.declared.Reader.{Reader}
use Rattle.reader.specs.contracts.Reader as T
use Rattle.reader.proofs.Reader.TheLaws as T'
use Rattle.reader.specs.contracts.reader_at as new
use Rattle.reader.proofs.reader_at.Symbol as new_def
use Rattle.reader.proofs.reader_at.Met as new_thm
use Rattle.reader.proofs.Field.{B, slice_local, number_local, reader_local, field_local, of_bytes, of_reader, from_reader, BytesTell, told}

module _ (S : E.Declared) where
  -- `f(reader_at(bytes, at))`
  abbrev pub reading : Callee → Fn
  reading f = record {
    lifetimes = 1;
    outlives = [];
    ty_params = [];
    givens = 0;
    params = 2;
    locals = field_local S ∷ slice_local (named 0) ∷ number_local ∷ reader_local erased ∷ [];
    body =
        seq (call new_def.name (copy (place 1 []) ∷ copy (place 2 []) ∷ []) (place 3 []))
        (seq (call f (copy (place 3 []) ∷ []) (place 0 [])) return);
  }

  abbrev stayed : Stays (of_bytes S).signature.params (of_bytes S).kept
  stayed = (stay_none_slice (0 ∷ []) tt (plain (λ _. u8)) yes, (stay_none (λ _. usize) yes, tt))

module _ {M : Type 1} {𝓤 : Ura M} (𝓛 : Logic 𝓤) (mem : Memory → SProp 𝓤) (run : Routine → Fun 𝓤) where
  -- the contracts that the proof cites
  abbrev New : Contract 𝓤
  New = triple_of 𝓛 new.signature (new.spec 𝓛 mem run)

  module _ (S : E.Declared) (field : List ℕ → ℕ → S.D) where
    abbrev Next : Contract 𝓤
    Next = triple_of 𝓛 (of_reader S).signature (closing 𝓛 (of_reader S) (from_reader S field 𝓤))

module _ (S : E.Declared) (few : Few (E.shape S)) (laws : EL.Laws S) (field : List ℕ → ℕ → S.D) (f : Callee) {M : Type 1} {𝓤 : Ura M} (𝓛 : Logic 𝓤) (mem : Memory → SProp 𝓤) (run : Routine → Fun 𝓤) (c : Clauses 𝓤 (of_bytes S)) (tells : BytesTell S field 𝓤 c) where
  open 𝓛 use {H}

  module _ (κ : Lft) (q : Share) (s : Bor (List ℕ)) (n : ℕ) (ok : n < 2 ^ 64) (g : (c (κ, tt) (s, (n, tt))).ghost) where
    -- the machine value that s has
    abbrev v : Val
    v = slice_val s.ref_ptr (length s.now)

    abbrev at : Vals (of_bytes S).signature (κ, tt)
    at = (v ∷ [], (vint w64 n ∷ [], tt))

    abbrev found : S.D
    found = field s.now n

    -- the struct's type as a local of a body has it
    abbrev αᵉ : NamedLft
    αᵉ = record { mir = erased; lft = κ }

    abbrev Post : Val → SProp 𝓤
    Post = (walk_of 𝓛 (of_bytes S) (stayed S) c).post (((κ, tt), (q, tt), tt, (s, (n, tt)), at), g)

    abbrev Own : Fml
    Own = (ShrSlice (named 0) κ u8).own_val s (v ∷ [])

    -- the call of `reader_at`: what it is passed, what it asks, and what is known of its result
    abbrev to_new : (New 𝓛 mem run).Ghost
    to_new = (((κ, tt), (q, tt), tt, (s, (n, tt)), at), tt)

    goes_new : ent 𝓤 (on_entry 𝓛 (of_bytes S).signature (κ, tt) (q, tt) (s, (n, tt)) at) (sep 𝓤 ((New 𝓛 mem run).pre to_new) (sem 𝓛 Own))
    goes_new =
        qed 𝓛 ((‵ (flft κ q) ⊛ ‵ ftrue) ∷ ‵ (owns (ShrSlice (named 0) κ u8 ∷ usize ∷ []) (s, (n, tt)) at) ∷ []) ∵
        move ! (1 ∷ []) $ fsplit ! $ use1 𝓛 (‵ Own ⊛ ‵ Own) ((shr_slice_copy 𝓛 (named 0) κ u8 (uint_row_laws w8)).twice s (v ∷ [])) $ split ! $
        move ! (0 ∷ 2 ∷ []) $ fjoin ! $ move ! (2 ∷ 0 ∷ []) $ use2 𝓛 (raw ((New 𝓛 mem run).pre to_new)) (qed 𝓛 ((‵ (flft κ q) ⊛ ‵ ftrue) ∷ ‵ (owns (ShrSlice (named 0) κ u8 ∷ usize ∷ []) (s, (n, tt)) at) ∷ []) ∵ join ! $ frame ! $ done !) $ frame ! $ done !

    new_said : (r : Reader) → ent 𝓤 (ensured 𝓛 new.ended (new.clauses 𝓛 mem run) (κ, tt) (s, (n, tt)) tt r) (fact 𝓤 ((r.bytes ≡ s) × (r.at ≡ n)))
    new_said r = ex_e 𝓤 _ (λ ws. snd∗ 𝓤 (sem 𝓛 (lasts new.ended (κ, tt) (s, (n, tt)) ws)) (fact 𝓤 ((r.bytes ≡ s) × (r.at ≡ n))))

    -- the call of f, at the struct r with the machine value u
    abbrev to_next : Reader → Val → (Next 𝓛 mem run S field).Ghost
    to_next r u = (((κ, tt), (q, tt), tt, (r, tt), (u ∷ [], tt)), tt)

    goes_next : (r : Reader) (u : Val) → ent 𝓤 (⋆ 𝓛 (‵ ((B (κ, tt)).own_val r (u ∷ [])) ∷ (‵ (flft κ q) ⊛ ‵ ftrue) ∷ [])) ((Next 𝓛 mem run S field).pre (to_next r u))
    goes_next r u = qed 𝓛 (‵ ((B (κ, tt)).own_val r (u ∷ [])) ∷ (‵ (flft κ q) ⊛ ‵ ftrue) ∷ []) ∵ nothing ! $ move ! (1 ∷ 0 ∷ []) $ fjoin ! $ move ! (1 ∷ 0 ∷ []) $ join ! $ frame ! $ done !

    next_said : (r : Reader) (t : S.D) → ent 𝓤 (ensured 𝓛 (of_reader S) (from_reader S field 𝓤) (κ, tt) (r, tt) tt t) (fact 𝓤 (field r.bytes.now r.at ≡ t))
    next_said r t = ex_e 𝓤 _ (λ ws. snd∗ 𝓤 (sem 𝓛 (lasts (of_reader S) (κ, tt) (r, tt) ws)) (fact 𝓤 (field r.bytes.now r.at ≡ t)))

    exits : (t : S.D) (u : Val) → found ≡ t → ent 𝓤 (⋆ 𝓛 (‵ ((E.row S).own_val t (u ∷ [])) ∷ (‵ (flft κ q) ⊛ ‵ ftrue) ∷ ‵ Own ∷ [])) (Post u)
    exits t u e =
        qed 𝓛 (‵ ((E.row S).own_val t (u ∷ [])) ∷ (‵ (flft κ q) ⊛ ‵ ftrue) ∷ ‵ Own ∷ []) ∵
        suffices ! _ (ends_at 𝓛 (of_bytes S) (stayed S) c (((κ, tt), (q, tt), tt, (s, (n, tt)), at), g) u t (tt, (tt, tt)) (tt, (tt, tt))) $ told ! (tells (κ, tt) (s, (n, tt)) g t _ e) $
        move ! (1 ∷ []) $ frame ! $ nothing ! $ owned ! usize (Is usize) (uint_Makes 𝓛 w64) n _ (refl, ok) $ fjoin ! $ move ! (2 ∷ 0 ∷ []) $ fjoin ! $ frame ! $ done !

    module _ (C : Calls 𝓤 H) (Λ : Loops 𝓤 H) (fm : FmC 𝓤 H 𝓛.laws C) (known_new : Triple 𝓤 (C new_def.name) (New 𝓛 mem run)) (known_next : Triple 𝓤 (C f) (Next 𝓛 mem run S field)) where
      walk : Is (ShrSlice (named 0) κ u8) s (v ∷ []) → ent 𝓤 (on_entry 𝓛 (of_bytes S).signature (κ, tt) (q, tt) (s, (n, tt)) at) (WpFn 𝓤 H C Λ (reading S f) (v ∷ vint w64 n ∷ []) Post)
      walk p =
          qed 𝓛 (raw (on_entry 𝓛 (of_bytes S).signature (κ, tt) (q, tt) (s, (n, tt)) at) ∷ []) ∵ enter ! C Λ (reading S f) (v ∷ vint w64 n ∷ []) _ $
          alloc1 ! (λ l₀. alloc1 ! (λ l₁. alloc1 ! (λ l₂. alloc1 ! (λ l₃. alloc0 ! $ params1 ! $ pass1 ! (init ! 4 refl ((shr_slice_Lawful 𝓛 (named 0) κ u8).typed s (v ∷ []) p).0) $ pass1 ! (init ! 2 refl (tt, record { fits = ok })) $ pass0 ! $
          move ! (8 ∷ []) $ use1 𝓛 (raw ((New 𝓛 mem run).pre to_new) ⊛ ‵ Own) goes_new $ split ! $
          calls_at ! fm (New 𝓛 mem run) known_new to_new (and_then ! (load ! (from ! (stop !)) (look ! 6 refl)) (and_then ! (load ! (from ! (stop !)) (look ! 4 refl)) (no_more !))) (λ u.
          use1 𝓛 (later (some (λ (r : Reader). ((‵ (flft κ q) ⊛ ‵ ftrue) ⊛ ‵ ((B (κ, tt)).own_val r (u ∷ []))) ⊛ raw (ensured 𝓛 new.ended (new.clauses 𝓛 mem run) (κ, tt) (s, (n, tt)) tt r)))) (id⊢ 𝓤 _) $ await ! tt $ pick ! (λ r.
          split ! $ move ! (1 ∷ []) $ use1 𝓛 (raw (fact 𝓤 ((r.bytes ≡ s) × (r.at ≡ n)))) (new_said r) $ heard ! ((r.bytes ≡ s) × (r.at ≡ n)) (λ e. split ! $ move ! (1 ∷ []) $
          -- [what the struct owns; the token; what s owns; room for _3; …; _2; …; _1; …; room for _0; …]
          peeks ! (B (κ, tt)) (Is (B (κ, tt))) (shows 𝓛 (B (κ, tt))) r (u ∷ []) (λ is.
          land ! (from ! (stop !)) (init ! 3 refl ((LL.lawful (T.the_type αᵉ) (T'.the_laws αᵉ) 𝓛).typed r _ is).0) $
          use2 𝓛 (raw ((Next 𝓛 mem run S field).pre (to_next r u))) (goes_next r u) $
          calls_at ! fm (Next 𝓛 mem run S field) known_next (to_next r u) (and_then ! (load ! (from ! (stop !)) (look ! 2 refl)) (no_more !)) (λ u'.
          use1 𝓛 (later (some (λ (t : S.D). ((‵ (flft κ q) ⊛ ‵ ftrue) ⊛ ‵ ((E.row S).own_val t (u' ∷ []))) ⊛ raw (ensured 𝓛 (of_reader S) (from_reader S field 𝓤) (κ, tt) (r, tt) tt t)))) (id⊢ 𝓤 _) $ await ! tt $ pick ! (λ t.
          split ! $ move ! (1 ∷ []) $ use1 𝓛 (raw (fact 𝓤 (field r.bytes.now r.at ≡ t))) (next_said r t) $ heard ! (field r.bytes.now r.at ≡ t) (λ e'. split ! $ move ! (1 ∷ []) $
          -- [the result; the token; what s owns; _3; …; _2; …; _1; …; room for _0; …]
          peeks ! (E.row S) (Is (E.row S)) (shows 𝓛 (E.row S)) t (u' ∷ []) (λ is'.
          land ! (from ! (stop !)) (init ! 9 refl ((EL.lawful S laws 𝓛 few).typed t _ is').0) $
          returns ! (look ! 9 refl) $ forget ! 3 refl $ forget ! 5 refl $ forget ! 7 refl $ forget ! 9 refl $ move ! (9 ∷ 10 ∷ []) $ free1 ! $ move ! (7 ∷ 8 ∷ []) $ free1 ! $ move ! (5 ∷ 6 ∷ []) $ free1 ! $ move ! (3 ∷ 4 ∷ []) $ free1 ! $ free0 ! $
          by ! (exits t u' (sym (ap (λ (x : Bor (List ℕ)). field x.now r.at) e.0 ∙ ap (field s.now) e.1) ∙ e'))))))))))))))

  walks : (C : Calls 𝓤 H) (Λ : Loops 𝓤 H) → FmC 𝓤 H 𝓛.laws C → Triple 𝓤 (C new_def.name) (New 𝓛 mem run) → Triple 𝓤 (C f) (Next 𝓛 mem run S field) → Walks 𝓛 (of_bytes S) (stayed S) (WpFn 𝓤 H C Λ (reading S f)) c
  walks C Λ fm known_new known_next = walked 𝓛 (of_bytes S) (stayed S) c (WpFn 𝓤 H C Λ (reading S f)) (λ κs. (shr_slice_vals, (uint_vals w64, tt))) (λ κs. (shr_slice_Tells (named 0) κs.0 u8, (uint_Tells w64, tt)))
      (λ κs qs bounds a g are. via 𝓤 _ (fst∗ 𝓤 _ ((c κs a).requires g)) (walk κs.0 qs.0 a.0 a.1.0 are.1.0.1 g C Λ fm known_new known_next are.0))

  meets : (𝓣 : Tables 𝓤 H) → Triple 𝓤 (𝓣.C new_def.name) (New 𝓛 mem run) → Triple 𝓤 (𝓣.C f) (Next 𝓛 mem run S field)
      → Meets 𝓛 (of_bytes S).signature (WpFn 𝓤 H 𝓣.C 𝓣.Λ (reading S f)) (closing 𝓛 (of_bytes S) c)
  meets 𝓣 known_new known_next = walk_Meets 𝓛 (of_bytes S) (stayed S) (Goes-none_slice 𝓛 1 (0 ∷ []) tt (plain (λ _. u8)) yes, (Goes-none 𝓛 1 (λ _. usize) yes (λ κs x f. refl), tt)) c (WpFn 𝓤 H 𝓣.C 𝓣.Λ (reading S f)) (WpFn-mono 𝓤 H 𝓛.laws 𝓣 (reading S f))
      (walks 𝓣.C 𝓣.Λ (fm_of 𝓤 H 𝓛.laws 𝓣) known_new known_next)

-- at the name k of an environment that has this code, where the callees are `reader_at` and a routine that meets the contract over a Reader
module _ (S : E.Declared) (few : Few (E.shape S)) (laws : EL.Laws S) (field : List ℕ → ℕ → S.D) (f : Callee) {M : Type 1} {𝓤 : Ura M} (𝓛 : Logic 𝓤) (𝓜 : Model 𝓤 𝓛.H) (𝓡 : Running 𝓤 𝓛.H 𝓜) (env : Env) (k : Callee) where
  open 𝓛 use {H}

  pub reads : Closed 𝓤 H (tables 𝓤 H 𝓜 𝓡 env).C (tables 𝓤 H 𝓜 𝓡 env).Λ k (reading S f) → Wired env new_def.code
      → (callee : Routine) → env f ≡ callee → Triple 𝓤 (𝓡.run callee) (Next 𝓛 𝓜.mem 𝓡.returns S field)
      → (c : Clauses 𝓤 (of_bytes S)) → BytesTell S field 𝓤 c → Triple 𝓤 ((tables 𝓤 H 𝓜 𝓡 env).C k) (triple_of 𝓛 (of_bytes S).signature (closing 𝓛 (of_bytes S) c))
  unfolding tables_of
  reads closed wired callee is known c tells =
      entered 𝓤 H (triple_of 𝓛 (of_bytes S).signature (closing 𝓛 (of_bytes S) c)) (tables 𝓤 H 𝓜 𝓡 env).C (tables 𝓤 H 𝓜 𝓡 env).Λ k (reading S f) closed
      (meets S few laws field f 𝓛 𝓜.mem 𝓡.returns c tells (tables_of 𝓤 H 𝓜 (tables 𝓤 H 𝓜 𝓡 env))
      (cited 𝓤 H (New 𝓛 𝓜.mem 𝓡.returns) 𝓜 𝓡 env new_def.name (env new_def.name) refl (new_thm.met 𝓤 𝓛 𝓜 (within 𝓤 H 𝓜 𝓡 env) wired))
      (cited 𝓤 H (Next 𝓛 𝓜.mem 𝓡.returns S field) 𝓜 𝓡 env f callee is known))
