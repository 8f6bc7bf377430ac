-- TO BE BELIEVED. A list of moves in reverse order: the two places of a move stay together, smaller first.
use Rattle.std.specs.Prelude.{ℕ, List, [], ◌∷◌, ◌++◌}

unfoldable pub in_reverse : List ℕ → List ℕ
in_reverse [] = []
in_reverse (low ∷ []) = low ∷ []
in_reverse (low ∷ high ∷ moves) = in_reverse moves ++ (low ∷ high ∷ [])
