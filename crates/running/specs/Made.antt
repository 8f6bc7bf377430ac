-- What the private loop of Run promises of a strip that is checked. No open call's contract cites it, so nothing here is to be believed.
use Rattle.std.specs.Prelude.{ℕ, ◌*◌, ◌≡◌, Bool, List, ◌++◌, eqb, drop}
use Rattle.rules.specs.Refusals.{fine}
use Rattle.walker.specs.Walkers.{walker_for}
use Rattle.walking.specs.Answers.{along, left_along}
use Rattle.running.specs.declared.run.Ran.{Ran}
use Rattle.running.specs.Answers.{run_moves, as_ran, moves_from}

-- the moves that there is room for are made from s: the answer r, the strip t and the list that are left
pub record Made (back : Bool) (counts s list₀ : List ℕ) (r : Ran) (t list : List ℕ) : Type 0 where
  pub answer : r ≡ as_ran fine (run_moves back counts s list₀) (eqb (run_moves back counts s list₀) (left_along back counts s)) (walker_for counts (along back counts s (run_moves back counts s list₀)))
  pub strip : t ≡ along back counts s (run_moves back counts s list₀)
  pub listed : list ≡ moves_from back counts s (run_moves back counts s list₀) ++ drop (2 * run_moves back counts s list₀) list₀
