-- TO BE BELIEVED. Demand 3: a walk, one move after another, on (false) or back (true).
use Rattle.std.specs.Prelude.{ℕ, ◌<◌, Bool, List, [], ◌∷◌}
use Rattle.walker.specs.declared.Walker.{Walker}
use Rattle.walking.specs.Answers.{shifted, ahead, move_answer, move_strip}

-- the strip and the walker after such moves: each move is made of the strip and the walker that the move before it left
unfoldable pub after : List ℕ → List Bool → List ℕ → Walker → List ℕ × Walker
after counts [] s w = (s, w)
after counts (d ∷ ds) s w = after counts ds (move_strip d counts s w) (move_answer d counts s w).walker

-- the number to which they lead from number i
unfoldable pub number_after : List Bool → ℕ → ℕ
number_after [] i = i
number_after (d ∷ ds) i = number_after ds (shifted d i 1)

-- they stay within the numbers below n
abbrev pub StayBelow : ℕ → List Bool → ℕ → Type 0
StayBelow n [] i = Unit {0}
StayBelow n (d ∷ ds) i = (0 < ahead d n i) × StayBelow n ds (shifted d i 1)
