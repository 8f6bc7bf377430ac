-- TO BE BELIEVED. What Run answers, by the book and the table of refusals, and what it leaves in the lent strip and the lent list.
use Rattle.std.specs.Prelude.{ℕ, zero, suc, min, ◌*◌, ◌/◌, Bool, false, List, [], ◌++◌, eqb, length, drop}
use Rattle.rules.specs.Neighbours.{places}
use Rattle.rules.specs.Refusals.{No, first_of, unless}
use Rattle.stock.specs.Refused.{refusal}
use Rattle.walker.specs.declared.Walker.{Walker}
use Rattle.walker.specs.Walkers.{walker_for, walker_nos}
use Rattle.walking.specs.Answers.{along, left_along}
use Rattle.running.specs.declared.run.Ran.{Ran}

-- the moves that a list of so many bytes has room for, or those that are left, if fewer
unfoldable pub run_moves : Bool → List ℕ → List ℕ → List ℕ → ℕ
run_moves back counts s list = min (length list / 2) (left_along back counts s)

abbrev pub as_ran : No → ℕ → Bool → Walker → Ran
as_ran r m ended w = record { refusal = refusal r; moves = m; ended = ended; walker = w }

-- the moves made, whether the strip then is the last one, or at true strip 0, and its walker; refused by 1 to 6 or 10, 0, no, and the walker that was lent
unfoldable pub run_answer : Bool → List ℕ → List ℕ → Walker → List ℕ → Ran
run_answer back counts s w list =
    let r = first_of (walker_nos counts s w) in
    let m = run_moves back counts s list in
    as_ran r (unless r 0 m) (unless r false (eqb m (left_along back counts s))) (unless r w (walker_for counts (along back counts s m)))

-- the strip that is left in the lent one
unfoldable pub run_strip : Bool → List ℕ → List ℕ → Walker → List ℕ → List ℕ
run_strip back counts s w list = unless (first_of (walker_nos counts s w)) s (along back counts s (run_moves back counts s list))

-- the places of m moves from a strip, on or at true back, two a move, smaller first
unfoldable pub moves_from : Bool → List ℕ → List ℕ → ℕ → List ℕ
unfolding along
moves_from back counts s zero = []
moves_from back counts s (suc m) = moves_from back counts s m ++ places (along back counts s m) (along back counts s (suc m))

-- the list that is left in the lent one: later bytes stay
unfoldable pub run_list : Bool → List ℕ → List ℕ → Walker → List ℕ → List ℕ
run_list back counts s w list = let m = run_moves back counts s list in unless (first_of (walker_nos counts s w)) list (moves_from back counts s m ++ drop (2 * m) list)
