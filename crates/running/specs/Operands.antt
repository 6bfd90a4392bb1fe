-- What a word reads and writes: a register below the frame, several, a listed constant, an operand that is either, and stores.
-- Each read goes on with the value that labelled code's registers or the table give, since below the frame the registers hold it and the entries are the table's.
use Prim.Native.Nat.{ℕ, zero, suc, ◌+◌, ◌-◌, ◌≤◌, ◌<◌}
use Rattle.std.specs.Prelude.{◌≡◌, length, get_or, set}
use Rattle.std.proofs.Math.Path.{refl}
use Rattle.std.proofs.Common.{ap, ◌∙◌, arith, lt-ltb, le-ltb}
use mathlib.Core.List.{List, [], ◌∷◌}
use Rattle.std.proofs.Math.Option.{Option, some}
use Rattle.std.proofs.lemmas.List.Edits.{sets}
use Rattle.instructions.specs.Limits.{max_constants, max_stack, bit_rk}
use Rattle.constants.specs.Entry.{Constant, nil as knil, constant_at}
use Rattle.model.specs.Values.{Value, value_of, first, fit, World}
use Rattle.model.specs.Running as run
use Rattle.model.specs.Running.{Program, Open, Machine, After, goes, next}
use Rattle.labelled.specs.Code.{Rk, reg, con}
use Rattle.labelled.specs.Machine.{Hist, Regs, rk, span}
use Rattle.labelled.specs.Table.{place}
use Rattle.labelled.specs.Places.{Listed, entry_there}
use Rattle.threads.specs.Coded.{CodesRk}
use Rattle.running.specs.Registers.{Holds}

-- the entries of a program are a table's
pub record Lists (p : Program) (t : List Constant) : Type 0 where
  pub count : p.constants ≡ length t
  pub few : length t ≤ max_constants
  pub entries : (i : ℕ) → i < length t → constant_at p.pool p.kinds p.values i ≡ some (get_or t i knil)

-- a machine
abbrev pub state : ℕ → List Value → Option Open → Hist → Machine
state n rs l h = record { pc = n; registers = rs; list = l; steps = h }

-- the first of a list, as registers take it
pub fit_one : (vs : List Value) → fit 1 vs ≡ first vs ∷ []
fit_one [] = refl
fit_one (v ∷ vs) = refl

-- an operand fits its field
pub rk_small : (t : List Constant) (frame : ℕ) → frame ≤ max_stack → (x : Rk) (u : ℕ) → CodesRk t frame x u → u < 512
rk_small t frame m (reg r) u h = omega (arith, h.0, h.1)
rk_small t frame m (con v) u h = omega (arith, h.1.1.1.0, h.1.1.1.1)

module _ (w : World) (p : Program) (varargs : List Value) where
  -- stores
  module _ (n : ℕ) (l : Option Open) (h : Hist) where
    pub put_law : (rs : List Value) (y a : ℕ) (v : Value) (f : Machine → After) → y ≡ a → a < p.frame → run.put w p varargs (state n rs l h) y v f ≡ f (state n (set rs a v) l h)
    put_law rs y a v f e b = rw (e, lt-ltb a p.frame b) refl

    pub to_law : (rs : List Value) (y a : ℕ) (v : Value) → y ≡ a → a < p.frame → run.to w p varargs (state n rs l h) y v ≡ goes (state (n + 1) (set rs a v) l h)
    to_law rs y a v e b = put_law rs y a v next e b

    pub puts_law : (vs : List Value) (rs : List Value) (a : ℕ) (f : Machine → After) → length vs + a ≤ p.frame → run.puts w p varargs (state n rs l h) a vs f ≡ f (state n (sets rs a vs) l h)
    unfolding run.puts
    puts_law [] rs a f b = refl
    puts_law (v ∷ vs) rs a f b = put_law rs a a v (λ m. run.puts w p varargs m (suc a) vs f) refl (omega arith) ∙ puts_law vs (set rs a v) (suc a) f (omega arith)

  -- reads
  module _ (rs : List Value) (R : Regs) (holds : Holds p.frame rs R) (n : ℕ) (l : Option Open) (h : Hist) where
    pub reg_law : (y r : ℕ) (f : Value → After) → y ≡ r → r < p.frame → run.reg w p varargs (state n rs l h) y f ≡ f (R r)
    reg_law y r f e b = rw e (rw (lt-ltb r p.frame b, run.reg) (ap f (holds.each r b)))

    pub regs_law : (k a : ℕ) (f : List Value → After) → k + a ≤ p.frame → run.regs w p varargs (state n rs l h) a k f ≡ f (span k a R)
    unfolding run.regs
    regs_law zero a f b = refl
    regs_law (suc k) a f b = reg_law a a (λ v. run.regs w p varargs (state n rs l h) (suc a) k λ vs. f (v ∷ vs)) refl (omega arith) ∙ regs_law k (suc a) (λ vs. f (R a ∷ vs)) (omega arith)

  -- constants
  module _ (t : List Constant) (lists : Lists p t) where
    pub constant_law : (y : ℕ) (c : Constant) (f : Value → After) → y ≡ place c t → Listed c t → run.constant w p varargs y f ≡ f (value_of c)
    constant_law y c f e b = let z : constant_at p.pool p.kinds p.values (place c t) ≡ some c = lists.entries (place c t) b ∙ ap some (entry_there c t b) in
        rw (e, lt-ltb (place c t) p.constants (omega (arith, lists.count)), z) refl

    -- operands
    module _ (rs : List Value) (R : Regs) (holds : Holds p.frame rs R) (n : ℕ) (l : Option Open) (h : Hist) (most : p.frame ≤ bit_rk) where
      pub rk_law : (y u : ℕ) (x : Rk) (f : Value → After) → y ≡ u → CodesRk t p.frame x u → run.rk_value w p varargs (state n rs l h) y f ≡ f (rk x R)
      rk_law y u (reg r) f e c = let z : y ≡ r = e ∙ c.0 in rw (lt-ltb y bit_rk (omega (arith, c.1)), run.rk_value) (reg_law rs R holds n l h y r f z c.1)
      rk_law y u (con v) f e c = let z : y - bit_rk ≡ place c.0 t = omega (arith, c.1.1.1.1) in
          rw (le-ltb y bit_rk (omega (arith, c.1.1.1.1)), run.rk_value) (constant_law (y - bit_rk) c.0 f z c.1.1.0 ∙ ap f c.1.0)
