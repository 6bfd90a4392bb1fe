-- A field of a number: `size` values at the place value `place`. Assumes nothing.
use Rattle.std.specs.Prelude.{ℕ, ◌+◌, ◌*◌, ◌/◌, ◌%◌}

unfoldable pub get_at : ℕ → ℕ → ℕ → ℕ
get_at place size x = x / place % size

unfoldable pub set_at : ℕ → ℕ → ℕ → ℕ → ℕ
set_at place size x v = (x / place / size * size + v % size) * place + x % place
