-- TO BE BELIEVED. Document 02, P7 and P8: among all turns of a strip, as it stands and foot up, the smallest in dictionary order stands for the paper.
use Rattle.std.specs.Prelude.{ℕ, Bool, not, cond, List, [], ◌∷◌}
use Rattle.rules.specs.Book.{same, place_in}
use Rattle.searching.specs.Searching.{is_among}
use Rattle.papers.specs.Papers.{turns_of, hung, turns}
use Rattle.dictionary.specs.Dictionary.{before}

-- the smallest in dictionary order of s and the strips of a list
unfoldable pub smallest_of : List ℕ → List (List ℕ) → List ℕ
smallest_of s [] = s
smallest_of s (t ∷ l) = smallest_of (cond (before t s) t s) l

-- the strip that stands for the paper of s
unfoldable pub standing : List ℕ → List ℕ
unfolding smallest_of
standing s = smallest_of s (turns s)

-- whether s is read backwards to have it: only where it is no turn of s as it stands
unfoldable pub is_reversed : List ℕ → Bool
unfolding standing
is_reversed s = not (is_among (turns_of s) (standing s))

-- the smallest number of places to turn s by, so read, to have it: how many turns come ahead of it
unfoldable pub turn_of : List ℕ → ℕ
unfolding standing is_reversed
turn_of s = place_in (turns_of (hung (is_reversed s) s)) (standing s)

-- whether a strip stands for its paper
unfoldable pub stands_for_paper : List ℕ → Bool
unfolding standing
stands_for_paper s = same (standing s) s
