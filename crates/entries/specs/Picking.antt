-- Which kind a number leads to. No open call's contract cites it, so nothing here is to be believed.
use Rattle.std.specs.Prelude.{ℕ, ◌+◌, ◌*◌, ◌/◌, ◌≤◌, ◌<◌, ◌≡◌, List, length, get_or, take}
use Rattle.rules.specs.Stock.{sum, total}

-- of the orders of what is left, `ahead` begin with a kind before y, counted from 0, and `own` with y; the place `rest` is among the latter
pub record Picked (left : List ℕ) (rest y ahead own : ℕ) : Type 0 where
  pub within : y < length left
  pub ahead_is : ahead ≡ total left * sum (take y left) / sum left
  pub own_is : own ≡ total left * get_or left y 0 / sum left
  pub from : ahead ≤ rest
  pub to : rest < ahead + own
