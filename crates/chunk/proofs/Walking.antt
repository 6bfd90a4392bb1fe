-- One turn of each walk: what is known of a part, or of the rest, gives what holds of the whole. By cases on what was read.
use Prim.Native.Nat.{ℕ, zero, suc, ◌+◌, ◌-◌, ◌≤◌, ◌<◌}
use mathlib.Core.Path.{◌≡◌, refl, sym, ap, ◌∙◌, subst}
use mathlib.Core.List.{List, [], ◌∷◌, ◌++◌, append-nil}
use mathlib.Core.Bool.{Bool}
use native.Mathlib.Omega.{arith}
use native.Mathlib.Nat.{add_assoc, add-zero}
use native.Mathlib.Numerals.{add-one}
use lib.ListN.{length, set, length-append}
use lib.Seq.{sets}
use Rattle.std.specs.Prelude.{Result, Ok, Err}
use Rattle.laws.specs.Stores.{sets_append}
use Rattle.chunk.specs.Ast.{Span, Expr, one, two, many, Exprs, more, spans, spans_of, places_of}
use Rattle.ast.specs.Children.{children_of}
use Rattle.nodes.specs.Nodes.{node_at}
use Rattle.nodes.specs.Extents.{extent_of}
use Rattle.chunk.specs.Form.{Parsed, parsed, refused, with_parsed, with_node, expr_at, exprs_at, rest, max_nesting}
use Rattle.chunk.specs.Walks.{passed, Walked}
use Rattle.ast.specs.declared.Head.{Head}
use Rattle.ast.specs.declared.Head.TheVariants as head
use Rattle.ast.specs.declared.Node.{Node}
use Rattle.refusals.specs.declared.Refusal.{Refusal}
use Rattle.refusals.specs.declared.Refusal.TheVariants as refusal
use Rattle.nodes.specs.declared.skip.Extent.{Extent}
use Rattle.chunk.specs.declared.form.Walk.{Walk}

places_append : (ss ts : List Span) → places_of (ss ++ ts) ≡ places_of ss ++ places_of ts
places_append [] ts = refl
places_append (s ∷ ss) ts = ap (λ (l : List ℕ). s.place ∷ l) (places_append ss ts)

length_places : (ss : List Span) → length (places_of ss) ≡ length ss
length_places [] = refl
length_places (s ∷ ss) = ap suc (length_places ss)

-- nodes passed in two parts
module _ (ss ts : List Span) (n : ℕ) where
  stored_append : (l : List ℕ) → sets l n (places_of (ss ++ ts)) ≡ sets (sets l n (places_of ss)) (n + length ss) (places_of ts)
  stored_append l =
      ap (sets l n) (places_append ss ts) ∙ sets_append (places_of ss) (places_of ts) l n
      ∙ ap (λ (k : ℕ). sets (sets l n (places_of ss)) (n + k) (places_of ts)) (length_places ss)

  passed_append : (at line : ℕ) → passed at line n (ss ++ ts) ≡ passed at line (n + length ss) ts
  passed_append at line =
      ap (λ (k : ℕ). record { at = at; line = line; nodes = k }) (ap (λ (k : ℕ). n + k) (length-append ss ts) ∙ sym (add_assoc n (length ss) (length ts)))

-- what is read in two parts, both walked
module _ {A B : Type 0} (sp : A → List Span) (sq : B → List Span) (ss : List Span) (make : A → B) (is : (a : A) → sq (make a) ≡ ss ++ sp a)
    (n : ℕ) (s : List ℕ) (R : Result Walk Refusal) (S : List ℕ) where
  behind : (r : Parsed A) → Walked sp r (n + length ss) (sets s n (places_of ss)) R S
      → Walked sq (with_parsed r (λ a p l. parsed (make a) p l)) n s R S
  behind (refused k) h = h
  behind (parsed a p l) h =
      rw (is a) (ap Ok (passed_append ss (sp a) n p l) ∙ h.0, stored_append ss (sp a) n s ∙ h.1)

-- the walks of several expressions
module _ (f : ℕ → ℕ → Parsed Expr) (at line n : ℕ) (s : List ℕ) where
  -- the first one is walked to v, the others from there on
  pub more_walked : (k : ℕ) (v : Walk) (s₁ : List ℕ) (R : Result Walk Refusal) (S : List ℕ) → 0 < k → Walked spans (f at line) n s (Ok v) s₁
      → Walked spans_of (exprs_at f (k - 1) v.at v.line) v.nodes s₁ R S → Walked spans_of (exprs_at f k at line) n s R S
  unfolding exprs_at spans_of
  more_walked zero v s₁ R S h w r = absurd (omega arith)
  more_walked (suc k) v s₁ R S h w r =
      let e : suc k - 1 ≡ k = omega arith in
      go (f at line) w (subst (λ (j : ℕ). Walked spans_of (exprs_at f j v.at v.line) v.nodes s₁ R S) e r)
    where
      go : (q : Parsed Expr) → Walked spans q n s (Ok v) s₁ → Walked spans_of (exprs_at f k v.at v.line) v.nodes s₁ R S
          → Walked spans_of (with_parsed q (λ a p l. with_parsed (exprs_at f k p l) (λ es p₂ l₂. parsed (more a es) p₂ l₂))) n s R S
      go (refused e) w₁ r₁ = absurd (let z : ◌≡◌ {A = ℕ} 0 1 = cc in omega arith)
      go (parsed a p l) w₁ r₁ =
          let e : passed p l n (spans a) ≡ v = cc in
          behind spans_of spans_of (spans a) (more a) (λ es. refl) n s R S (exprs_at f k p l)
          (subst (λ (t : List ℕ). Walked spans_of (exprs_at f k p l) (n + length (spans a)) t R S) (sym w₁.1)
          (subst (λ (u : Walk). Walked spans_of (exprs_at f k u.at u.line) u.nodes s₁ R S) (sym e) r₁))

  pub cut_walked : (k : ℕ) (e : Refusal) (s₁ S : List ℕ) → 0 < k → Walked spans (f at line) n s (Err e) s₁
      → Walked spans_of (exprs_at f k at line) n s (Err e) S
  unfolding exprs_at
  cut_walked zero e s₁ S h w = absurd (omega arith)
  cut_walked (suc k) e s₁ S h w = go (f at line) w
    where
      go : (q : Parsed Expr) → Walked spans q n s (Err e) s₁
          → Walked spans_of (with_parsed q (λ a p l. with_parsed (exprs_at f k p l) (λ es p₂ l₂. parsed (more a es) p₂ l₂))) n s (Err e) S
      go (refused j) w₁ = w₁
      go (parsed a p l) w₁ = absurd (let z : ◌≡◌ {A = ℕ} 0 1 = cc in omega arith)

  pub none_walked : (k : ℕ) → k ≤ 0 → Walked spans_of (exprs_at f k at line) n s (Ok (record { at = at; line = line; nodes = n })) s
  unfolding exprs_at spans_of
  none_walked zero h = (ap (λ (k : ℕ). Ok (record { at = at; line = line; nodes = k })) (add-zero n), refl)
  none_walked (suc k) h = absurd (omega arith)

-- a node whose sub-expressions are walked behind it
module _ (f : ℕ → ℕ → Parsed Expr) (sp : Span) (n : ℕ) (s : List ℕ) (R : Result Walk Refusal) (S : List ℕ) where
  abbrev Rest : Parsed Exprs → Type 0
  Rest q = Walked spans_of q (n + 1) (set s n sp.place) R S

  -- its own place first
  front : (ss : List Span) (p l : ℕ) → (Ok (passed p l (n + 1) ss) ≡ R) × (sets (set s n sp.place) (n + 1) (places_of ss) ≡ S)
      → (Ok (passed p l n (sp ∷ ss)) ≡ R) × (sets s n (places_of (sp ∷ ss)) ≡ S)
  front ss p l h =
      let e : n + suc (length ss) ≡ n + 1 + length ss = omega arith in (
        ap (λ (k : ℕ). Ok (record { at = p; line = l; nodes = k })) e ∙ h.0,
        ap (λ (k : ℕ). sets (set s n sp.place) k (places_of ss)) (sym (add-one n)) ∙ h.1,
      )

  -- the same nodes, said in another way
  like : (ss ts : List Span) (p l : ℕ) → ss ≡ ts → (Ok (passed p l (n + 1) ss) ≡ R) × (sets (set s n sp.place) (n + 1) (places_of ss) ≡ S)
      → (Ok (passed p l n (sp ∷ ts)) ≡ R) × (sets s n (places_of (sp ∷ ts)) ≡ S)
  like ss ts p l e h = front ts p l (subst (λ (us : List Span). (Ok (passed p l (n + 1) us) ≡ R) × (sets (set s n sp.place) (n + 1) (places_of us) ≡ S)) e h)

  pub rest_walked : (h : Head) (at line : ℕ) → Rest (exprs_at f (children_of h) at line) → Walked spans (rest f sp h at line) n s R S
  unfolding exprs_at rest spans spans_of
  rest_walked (head.Leaf l) at line w = front [] at line w
  rest_walked (head.One o) at line w = go (f at line) w
    where
      go : (q : Parsed Expr) → Rest (with_parsed q (λ a p l. with_parsed (exprs_at f 0 p l) (λ es p₂ l₂. parsed (more a es) p₂ l₂)))
          → Walked spans (with_parsed q (λ a p l. parsed (one sp o a) p l)) n s R S
      go (refused k) w₁ = w₁
      go (parsed a p l) w₁ = like (spans a ++ []) (spans a) p l (append-nil (spans a)) w₁
  rest_walked (head.Two t) at line w = go (f at line) w
    where
      go₂ : (a : Expr) (q : Parsed Expr)
          → Rest (with_parsed (with_parsed q (λ b p l. with_parsed (exprs_at f 0 p l) (λ es p₂ l₂. parsed (more b es) p₂ l₂))) (λ es p₂ l₂. parsed (more a es) p₂ l₂))
          → Walked spans (with_parsed q (λ b p l. parsed (two sp t a b) p l)) n s R S
      go₂ a (refused k) w₁ = w₁
      go₂ a (parsed b p l) w₁ = like (spans a ++ (spans b ++ [])) (spans a ++ spans b) p l (ap (λ (x : List Span). spans a ++ x) (append-nil (spans b))) w₁

      go : (q : Parsed Expr) → Rest (with_parsed q (λ a p l. with_parsed (exprs_at f 1 p l) (λ es p₂ l₂. parsed (more a es) p₂ l₂)))
          → Walked spans (with_parsed q (λ a p l. with_parsed (f p l) (λ b p₂ l₂. parsed (two sp t a b) p₂ l₂))) n s R S
      go (refused k) w₁ = w₁
      go (parsed a p l) w₁ = go₂ a (f p l) w₁
  rest_walked (head.Many m c) at line w = go (f at line) (subst (λ (k : ℕ). Rest (exprs_at f k at line)) (add-one c) w)
    where
      go₂ : (a : Expr) (q : Parsed Exprs) → Rest (with_parsed q (λ es p₂ l₂. parsed (more a es) p₂ l₂))
          → Walked spans (with_parsed q (λ es p l. parsed (many sp m a es) p l)) n s R S
      go₂ a (refused k) w₁ = w₁
      go₂ a (parsed es p l) w₁ = front (spans a ++ spans_of es) p l w₁

      go : (q : Parsed Expr) → Rest (with_parsed q (λ a p l. with_parsed (exprs_at f c p l) (λ es p₂ l₂. parsed (more a es) p₂ l₂)))
          → Walked spans (with_parsed q (λ a p l. with_parsed (exprs_at f c p l) (λ es p₂ l₂. parsed (many sp m a es) p₂ l₂))) n s R S
      go (refused k) w₁ = w₁
      go (parsed a p l) w₁ = go₂ a (exprs_at f c p l) w₁

-- a node at a place, with nestings left
module _ (b : List ℕ) (va : Bool) (at line n : ℕ) (s : List ℕ) where
  pub expr_walked : (left : ℕ) (x : Extent) (R : Result Walk Refusal) (S : List ℕ) → (left ≡ 0 → ⊥) → extent_of (node_at b va at line) ≡ Ok x
      → Walked spans_of (exprs_at (expr_at b va (left - 1)) x.children x.next x.line) (n + 1) (set s n at) R S
      → Walked spans (expr_at b va left at line) n s R S
  unfolding expr_at
  expr_walked zero x R S h e w = absurd (h refl)
  expr_walked (suc left) x R S h e w = go (node_at b va at line) e
    where
      q : suc left - 1 ≡ left
      q = omega arith

      span : Node → Span
      span nd = record { line = nd.line; place = at; nesting = max_nesting - left }

      go : (r : Result Node Refusal) → extent_of r ≡ Ok x → Walked spans (with_node r (λ nd. rest (expr_at b va left) (span nd) nd.head nd.next nd.line)) n s R S
      go (Ok nd) g =
          let is : record { children = children_of nd.head; line = nd.line; next = nd.next } ≡ x = cc in
          rest_walked (expr_at b va left) (span nd) n s R S nd.head nd.next nd.line (rw (q, ← is) at w)
      go (Err k) g = absurd (let y : ◌≡◌ {A = ℕ} 0 1 = cc in omega arith)

  pub unread_walked : (left : ℕ) (k : Refusal) (S : List ℕ) → (left ≡ 0 → ⊥) → extent_of (node_at b va at line) ≡ Err k
      → Walked spans (expr_at b va left at line) n s (Err k) S
  unfolding expr_at
  unread_walked zero k S h e = absurd (h refl)
  unread_walked (suc left) k S h e = go (node_at b va at line) _ e
    where
      go : (r : Result Node Refusal) (f : Node → Parsed Expr) → extent_of r ≡ Err k → Walked spans (with_node r f) n s (Err k) S
      go (Ok nd) f g = absurd (let y : ◌≡◌ {A = ℕ} 0 1 = cc in omega arith)
      go (Err j) f g = let is : j ≡ k = cc in ap Err is

  pub deep_walked : (left : ℕ) (S : List ℕ) → left ≡ 0 → Walked spans (expr_at b va left at line) n s (Err refusal.Nesting) S
  unfolding expr_at
  deep_walked zero S e = refl
  deep_walked (suc left) S e = absurd (omega arith)
