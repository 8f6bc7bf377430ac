-- A place that a search finds, as an option. It belongs to functions that are no open calls, so nothing here has to be believed.
use Rattle.std.specs.Prelude.{ℕ, zero, suc, Option, Some, None}

-- places are counted from 1, and 0 is none
abbrev pub found_at : ℕ → Option ℕ
found_at zero = None
found_at (suc n) = Some (suc n)
