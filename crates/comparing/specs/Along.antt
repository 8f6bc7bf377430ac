-- Which of two places comes first in a list that runs forward or backward. No open call's contract cites it, so nothing here is to be believed.
use Rattle.std.specs.Prelude.{ℕ, Bool, true, false}
use Rattle.comparing.specs.Order.{which_of}

abbrev pub which_along : Bool → ℕ → ℕ → ℕ
which_along false m n = which_of m n
which_along true m n = which_of n m
