-- TO BE BELIEVED. Document 02, P1: dictionary order, kind 1 before kind 2, and the strips of a stock in that order.
use Rattle.std.specs.Prelude.{ℕ, Bool, false, cond, ◌||◌, ◌&&◌, List, [], ◌∷◌, eqb, ltb}
use Rattle.rules.specs.Book.{book}

-- whether s comes before t in a dictionary: at the first place where they differ, s has the lower kind
unfoldable pub before : List ℕ → List ℕ → Bool
before [] t = false
before (x ∷ s) [] = false
before (x ∷ s) (y ∷ t) = ltb x y || (eqb x y && before s t)

-- a strip put into a list, in front of the first that it comes before
unfoldable pub insert : List ℕ → List (List ℕ) → List (List ℕ)
insert s [] = s ∷ []
insert s (t ∷ l) = cond (before s t) (s ∷ t ∷ l) (t ∷ insert s l)

-- a list put in dictionary order
unfoldable pub in_order : List (List ℕ) → List (List ℕ)
unfolding insert
in_order [] = []
in_order (s ∷ l) = insert s (in_order l)

-- the strips of a stock in dictionary order. A strip's dictionary number is its place here, from 0
unfoldable pub dictionary : List ℕ → List (List ℕ)
unfolding in_order
dictionary counts = in_order (book counts)
