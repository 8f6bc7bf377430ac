-- What a loop that searches promises. No open call's contract cites it, so nothing here is to be believed.
use Rattle.std.specs.Prelude.{ℕ, ◌≡◌, Bool, List}
use Rattle.searching.specs.Searching.{outcome, steps_made, found_or}

-- how it ended and the steps made; and the strip t, where one is found
pub record Sought (test : List ℕ → Bool) (l : List (List ℕ)) (given : ℕ) (s : List ℕ) (end steps : ℕ) (t : List ℕ) : Type 0 where
  pub outcome_is : end ≡ outcome test l given
  pub steps_are : steps ≡ steps_made test l given
  pub strip_is : end ≡ 1 → t ≡ found_or test l given s
