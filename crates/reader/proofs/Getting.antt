-- A function over a Reader that asks the cursor for a field of any kind (`Field.antt`) at the reader's place: a walk of its MIR. The struct is taken apart, and the callee is called on the slice and the number; all that is known of it is that it meets its contract.
-- The struct is Copy: what it owns is had twice, one copy is kept whole for the exit, and of the other what the slice owns goes to the callee, beside the lifetime's token, which comes back.
-- Assumes nothing.
use mathlib.Core.Path.{◌≡◌, refl}
use Prim.Native.Nat.{ℕ, ◌<◌, ◌^◌}
use mathlib.Core.List.{List, [], ◌∷◌}
use lib.Dec.{T as Holds}
use lib.ListN.{length}
use seplogic.Ra.Ura.{Ura}
use mir.Syntax.{Callee, Fn, named, erased, w64, place, field as field_at, copy, rv_opd, assign, call, seq, return}
use mir.Val.{Val, WT, has_ty, vint}
use base.Logic.{SProp, ent, sep, via, fst∗, snd∗, ex_e, id⊢}
use base.Fml.{Lft, Share, Fml, ftrue, flft}
use prog.Model.{Model}
use prog.Routine.{Routine, Env}
use prog.Wp.{Calls, Loops, WpFn, Closed, Tables}
use types.Logic.{Logic, sem}
use contract.Monad.{fact}
use contract.Running.{Running, tables, tables_of}
use types.Kit.{‵, raw, ◌⊛◌, given, ⋆, some, later, ◌$◌, ◌∵◌, !, qed, by, move, drop, use1, use2, split, join, learn, pick, fsplit, fjoin, suffices, frame, await, done}
use types.Part.{whole, sub, look_in}
use types.Run.{look, init, forget, stop, fld, from, load, of_opd, and_then, no_more, assigns, land, returns, enter, alloc1, alloc0, params1, pass1, pass0, free1, free0}
use sound.WpLaws.{FmC, fm_of, WpFn-mono}
use denote.RattleType.{owns}
use denote.Laws.{Is, shows}
use denote.Plain.{uint_Makes}
use denote.Builtin.{u8, usize}
use denote.Signature.{named_lft}
use denote.Slice.{slice_val, ShrSlice}
use denote.Steps.{owned, peeks, heard, nothing}
use denote.Enum.Enum.{Few}
use denote.Enum.Declared as E
use denote.Enum.Laws as EL
use denote.Struct.Declared.{Declared}
use denote.Struct.Laws as LL
use denote.Struct.Rest.{all_own, field_own, rest, own_open, own_out}
use denote.Struct.Values.{Values}
use denote.Triple.Statement.{Contract, Triple}
use denote.Triple.Call.{calls_at}
use denote.Triple.Entry.{Vals, on_entry}
use denote.Triple.Spec.{Meets, triple_of}
use denote.Triple.Table.{entered, cited}
use denote.Triple.Walked.{Stays, stay_none, walk_of, Goes-none, Walks, ends_at, walked, walk_Meets}
use denote.Exit.{yes}
use denote.Triple.Clauses.{Clauses, ensured, lasts, closing}
use Rattle.reader.specs.declared.Reader.{Reader}
use Rattle.reader.specs.contracts.Reader as T
use Rattle.reader.proofs.Reader.TheLaws as T'
use Rattle.reader.proofs.Field.{B, slice_local, number_local, reader_local, field_local, of_bytes, of_reader, from_bytes, ReaderTells, told}

module _ (S : E.Declared) where
  -- `f(r.bytes, r.at)`
  abbrev pub getting : Callee → Fn
  getting f = record {
    lifetimes = 1;
    outlives = [];
    ty_params = [];
    givens = 0;
    params = 1;
    locals = field_local S ∷ reader_local (named 0) ∷ slice_local erased ∷ number_local ∷ [];
    body =
        seq (assign (place 2 []) (rv_opd (copy (place 1 (field_at 0 ∷ [])))))
        (seq (assign (place 3 []) (rv_opd (copy (place 1 (field_at 1 ∷ [])))))
        (seq (call f (copy (place 2 []) ∷ copy (place 3 []) ∷ []) (place 0 [])) return));
  }

  abbrev stayed : Stays (of_reader S).signature.params (of_reader S).kept
  stayed = (stay_none B yes, tt)

-- the contract that the proof cites
abbrev AtPlace : (S : E.Declared) → (List ℕ → ℕ → S.D) → {M : Type 1} {𝓤 : Ura M} (𝓛 : Logic 𝓤) → Contract 𝓤
AtPlace S field {𝓤 = 𝓤} 𝓛 = triple_of 𝓛 (of_bytes S).signature (closing 𝓛 (of_bytes S) (from_bytes S field 𝓤))

module _ (S : E.Declared) (few : Few (E.shape S)) (laws : EL.Laws S) (field : List ℕ → ℕ → S.D) (f : Callee) {M : Type 1} {𝓤 : Ura M} (𝓛 : Logic 𝓤) (c : Clauses 𝓤 (of_reader S)) (tells : ReaderTells S field 𝓤 c) where
  open 𝓛 use {H}

  abbrev At : Contract 𝓤
  At = AtPlace S field 𝓛

  module _ (κ : Lft) (q : Share) (d : Reader) (g : (c (κ, tt) (d, tt)).ghost) where
    abbrev mach : Val
    mach = T'.lowered d

    -- the machine value of the slice
    abbrev v : Val
    v = slice_val d.bytes.ref_ptr (length d.bytes.now)

    abbrev found : S.D
    found = field d.bytes.now d.at

    abbrev Post : Val → SProp 𝓤
    Post = (walk_of 𝓛 (of_reader S) (stayed S) c).post (((κ, tt), (q, tt), tt, (d, tt), (mach ∷ [], tt)), g)

    abbrev Own : Fml
    Own = (B (κ, tt)).own_val d (mach ∷ [])

    -- the struct's type and laws, and d's fields' values
    abbrev D : Declared
    D = T.the_type (named_lft 1 0 tt (κ, tt))

    abbrev L : LL.Laws D
    L = T'.the_laws (named_lft 1 0 tt (κ, tt))

    abbrev vd : Values D.parts
    vd = (d.bytes, (d.at, tt))

    -- what the callee is passed
    abbrev passed : Vals (of_bytes S).signature (κ, tt)
    passed = (v ∷ [], (vint w64 d.at ∷ [], tt))

    abbrev to : At.Ghost
    to = (((κ, tt), (q, tt), tt, (d.bytes, (d.at, tt)), passed), tt)

    asked : ent 𝓤 (on_entry 𝓛 (of_bytes S).signature (κ, tt) (q, tt) (d.bytes, (d.at, tt)) passed) (At.pre to)
    asked = qed 𝓛 ((‵ (flft κ q) ⊛ ‵ ftrue) ∷ ‵ (owns (ShrSlice (named 0) κ u8 ∷ usize ∷ []) (d.bytes, (d.at, tt)) passed) ∷ []) ∵ join ! $ frame ! $ done !

    -- what the struct owns gives what the callee asks, and is kept
    apart : d.at < 2 ^ 64 → ent 𝓤 (on_entry 𝓛 (of_reader S).signature (κ, tt) (q, tt) (d, tt) (mach ∷ [], tt)) (sep 𝓤 (At.pre to) (sem 𝓛 Own))
    apart fits =
        qed 𝓛 ((‵ (flft κ q) ⊛ ‵ ftrue) ∷ ‵ (owns (B (κ, tt) ∷ []) (d, tt) (mach ∷ [], tt)) ∷ []) ∵
        move ! (1 ∷ []) $ fsplit ! $ move ! (1 ∷ []) $ drop ! $ use1 𝓛 (‵ Own ⊛ ‵ Own) ((LL.copy D (T'.the_copy (named_lft 1 0 tt (κ, tt))) 𝓛).twice d (mach ∷ [])) $ split ! $
        use1 𝓛 (given (mach ∷ [] ≡ mach ∷ []) (‵ (all_own D.parts L vd))) (own_open 𝓛 D L vd mach) $ learn ! (λ _. use1 𝓛 (‵ (field_own D.parts L 0 d.bytes) ⊛ ‵ (rest D.parts L 0 vd)) (own_out 𝓛 D.parts L 0 vd) $ split ! $
        -- [what the slice owns; what at owns; what the struct owns; the token]
        move ! (1 ∷ []) $ drop ! $ nothing ! $ owned ! usize (Is usize) (uint_Makes 𝓛 w64) d.at _ (refl, fits) $ fjoin ! $ move ! (1 ∷ 0 ∷ []) $ fjoin ! $
        move ! (2 ∷ 0 ∷ []) $ use2 𝓛 (raw (At.pre to)) asked $ frame ! $ done !)

    -- of the callee's `ensured`, the clause alone: it has no `&mut`, so what is said of last values is dropped
    said : (r : S.D) → ent 𝓤 (ensured 𝓛 (of_bytes S) (from_bytes S field 𝓤) (κ, tt) (d.bytes, (d.at, tt)) tt r) (fact 𝓤 (found ≡ r))
    said r = ex_e 𝓤 _ (λ ws. snd∗ 𝓤 (sem 𝓛 (lasts (of_bytes S) (κ, tt) (d.bytes, (d.at, tt)) ws)) (fact 𝓤 (found ≡ r)))

    exits : (r : S.D) (u : Val) → found ≡ r → ent 𝓤 (⋆ 𝓛 (‵ ((E.row S).own_val r (u ∷ [])) ∷ (‵ (flft κ q) ⊛ ‵ ftrue) ∷ ‵ Own ∷ [])) (Post u)
    exits r u e =
        qed 𝓛 (‵ ((E.row S).own_val r (u ∷ [])) ∷ (‵ (flft κ q) ⊛ ‵ ftrue) ∷ ‵ Own ∷ []) ∵
        suffices ! _ (ends_at 𝓛 (of_reader S) (stayed S) c (((κ, tt), (q, tt), tt, (d, tt), (mach ∷ [], tt)), g) u r (tt, tt) (tt, tt)) $ told ! (tells (κ, tt) (d, tt) g r _ e) $
        move ! (1 ∷ []) $ frame ! $ nothing ! $ move ! (2 ∷ 0 ∷ []) $ fjoin ! $ frame ! $ done !

    module _ (C : Calls 𝓤 H) (Λ : Loops 𝓤 H) (fm : FmC 𝓤 H 𝓛.laws C) (known : Triple 𝓤 (C f) At) where
      walk : Holds (has_ty (T'.mir (named 0)) mach) × WT mach → ent 𝓤 (on_entry 𝓛 (of_reader S).signature (κ, tt) (q, tt) (d, tt) (mach ∷ [], tt)) (WpFn 𝓤 H C Λ (getting S f) (mach ∷ []) Post)
      walk wt =
          qed 𝓛 (raw (on_entry 𝓛 (of_reader S).signature (κ, tt) (q, tt) (d, tt) (mach ∷ [], tt)) ∷ []) ∵ enter ! C Λ (getting S f) (mach ∷ []) _ $
          alloc1 ! (λ l₀. alloc1 ! (λ l₁. alloc1 ! (λ l₂. alloc1 ! (λ l₃. alloc0 ! $ params1 ! $ pass1 ! (init ! 4 refl wt) $ pass0 ! $
          assigns ! (of_opd ! (load ! (from ! (fld ! refl (stop !))) (look_in ! 4 (sub ! 0 refl (whole !))))) (from ! (stop !)) (init ! 2 refl (tt, wt.1.0)) $
          assigns ! (of_opd ! (load ! (from ! (fld ! refl (stop !))) (look_in ! 4 (sub ! 1 refl (whole !))))) (from ! (stop !)) (init ! 0 refl (tt, wt.1.1.0)) $
          move ! (8 ∷ []) $ use1 𝓛 (raw (At.pre to) ⊛ ‵ Own) (apart wt.1.1.0.fits) $ split ! $
          calls_at ! fm At known to (and_then ! (load ! (from ! (stop !)) (look ! 4 refl)) (and_then ! (load ! (from ! (stop !)) (look ! 2 refl)) (no_more !))) (λ u.
          use1 𝓛 (later (some (λ (r : S.D). ((‵ (flft κ q) ⊛ ‵ ftrue) ⊛ ‵ ((E.row S).own_val r (u ∷ []))) ⊛ raw (ensured 𝓛 (of_bytes S) (from_bytes S field 𝓤) (κ, tt) (d.bytes, (d.at, tt)) tt r)))) (id⊢ 𝓤 _) $ await ! tt $ pick ! (λ r.
          split ! $ move ! (1 ∷ []) $ use1 𝓛 (raw (fact 𝓤 (found ≡ r))) (said r) $ heard ! (found ≡ r) (λ e. split ! $ move ! (1 ∷ []) $
          -- [the result; the token; what the struct owns; _3; …; _2; …; _1; …; room for _0; …]
          peeks ! (E.row S) (Is (E.row S)) (shows 𝓛 (E.row S)) r (u ∷ []) (λ is.
          land ! (from ! (stop !)) (init ! 9 refl ((EL.lawful S laws 𝓛 few).typed r _ is).0) $
          returns ! (look ! 9 refl) $ forget ! 3 refl $ forget ! 5 refl $ forget ! 7 refl $ forget ! 9 refl $
          move ! (9 ∷ 10 ∷ []) $ free1 ! $ move ! (7 ∷ 8 ∷ []) $ free1 ! $ move ! (5 ∷ 6 ∷ []) $ free1 ! $ move ! (3 ∷ 4 ∷ []) $ free1 ! $ free0 ! $ by ! (exits r u e)))))))))

  walks : (C : Calls 𝓤 H) (Λ : Loops 𝓤 H) → FmC 𝓤 H 𝓛.laws C → Triple 𝓤 (C f) At → Walks 𝓛 (of_reader S) (stayed S) (WpFn 𝓤 H C Λ (getting S f)) c
  walks C Λ fm known = walked 𝓛 (of_reader S) (stayed S) c (WpFn 𝓤 H C Λ (getting S f)) (λ κs. (LL.vals (T.the_type (named_lft 1 0 tt κs)) (T'.the_laws (named_lft 1 0 tt κs)), tt)) (λ κs. (LL.tells (T.the_type (named_lft 1 0 tt κs)) (T'.the_laws (named_lft 1 0 tt κs)), tt))
      (λ κs qs bounds a g are. via 𝓤 _ (fst∗ 𝓤 _ ((c κs a).requires g)) (walk κs.0 qs.0 a.0 g C Λ fm known ((LL.lawful (T.the_type (named_lft 1 0 tt κs)) (T'.the_laws (named_lft 1 0 tt κs)) 𝓛).typed a.0 _ are.0).0))

  meets : (𝓣 : Tables 𝓤 H) → Triple 𝓤 (𝓣.C f) At
      → Meets 𝓛 (of_reader S).signature (WpFn 𝓤 H 𝓣.C 𝓣.Λ (getting S f)) (closing 𝓛 (of_reader S) c)
  meets 𝓣 known = walk_Meets 𝓛 (of_reader S) (stayed S) (Goes-none 𝓛 1 B yes (λ κs x f. refl), tt) c (WpFn 𝓤 H 𝓣.C 𝓣.Λ (getting S f)) (WpFn-mono 𝓤 H 𝓛.laws 𝓣 (getting S f))
      (walks 𝓣.C 𝓣.Λ (fm_of 𝓤 H 𝓛.laws 𝓣) known)

-- at the name k of an environment that has this code, where f is a routine that meets the cursor's contract
module _ (S : E.Declared) (few : Few (E.shape S)) (laws : EL.Laws S) (field : List ℕ → ℕ → S.D) (f : Callee) {M : Type 1} {𝓤 : Ura M} (𝓛 : Logic 𝓤) (𝓜 : Model 𝓤 𝓛.H) (𝓡 : Running 𝓤 𝓛.H 𝓜) (env : Env) (k : Callee) where
  open 𝓛 use {H}

  pub gets : Closed 𝓤 H (tables 𝓤 H 𝓜 𝓡 env).C (tables 𝓤 H 𝓜 𝓡 env).Λ k (getting S f) → (callee : Routine) → env f ≡ callee → Triple 𝓤 (𝓡.run callee) (AtPlace S field 𝓛)
      → (c : Clauses 𝓤 (of_reader S)) → ReaderTells S field 𝓤 c → Triple 𝓤 ((tables 𝓤 H 𝓜 𝓡 env).C k) (triple_of 𝓛 (of_reader S).signature (closing 𝓛 (of_reader S) c))
  unfolding tables_of
  gets closed callee is known c tells =
      entered 𝓤 H (triple_of 𝓛 (of_reader S).signature (closing 𝓛 (of_reader S) c)) (tables 𝓤 H 𝓜 𝓡 env).C (tables 𝓤 H 𝓜 𝓡 env).Λ k (getting S f) closed
      (meets S few laws field f 𝓛 c tells (tables_of 𝓤 H 𝓜 (tables 𝓤 H 𝓜 𝓡 env)) (cited 𝓤 H (AtPlace S field 𝓛) 𝓜 𝓡 env f callee is known))
