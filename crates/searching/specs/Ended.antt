-- The number of an outcome in an answer: 1 found, 2 none left, 3 stopped; and a search that ended so, as a loop promises it. No open call's contract cites
-- them, so nothing here is to be believed.
use Rattle.std.specs.Prelude.{ℕ, Bool, List}
use Rattle.searching.specs.Sought.{Sought}
use Rattle.searching.specs.declared.Outcome.{Outcome}
use Rattle.searching.specs.declared.Outcome.TheVariants.{Found, NoneLeft, Stopped}
use Rattle.searching.specs.declared.Ended.{Ended}

abbrev pub number_of : Outcome → ℕ
number_of Found = 1
number_of NoneLeft = 2
number_of Stopped = 3

-- the search of a list from a strip, within the given steps, ended so and left the strip t
abbrev pub EndsSo : (List ℕ → Bool) → List (List ℕ) → ℕ → List ℕ → Ended → List ℕ → Type 0
EndsSo test l given s e t = Sought test l given s (number_of e.outcome) e.steps t
