-- TO BE BELIEVED. Document 02, P14: the bar with the highest kind k lifted out, and the book that then remains. A direction is true for back.
use Rattle.std.specs.Prelude.{ℕ, ◌-◌, Bool, List, [], ◌∷◌, ◌++◌, length, take, replicate}
use Rattle.rules.specs.Stock.{N, binom}
use Rattle.rules.specs.Book.{turn, book, reduced}

-- the counts of the first k - 1 kinds. They may end in 0, and are then no stock that is accepted; but they have a book
abbrev pub small : List ℕ → List ℕ
small counts = take (length counts - 1) counts

-- a strip with the blocks of kind k taken off as it stands: its reduced strip at k - 1
abbrev pub lifted : List ℕ → List ℕ → List ℕ
lifted counts s = reduced (length counts - 1) s

-- C(N(k), N(k - 1))
abbrev pub times : List ℕ → ℕ
times counts = binom (N counts (length counts)) (N counts (length counts - 1))

-- each strip of a list n times in a row
unfoldable pub each_in_a_row : ℕ → List (List ℕ) → List (List ℕ)
each_in_a_row n [] = []
each_in_a_row n (s ∷ l) = replicate n s ++ each_in_a_row n l

-- the book of the first k - 1 kinds, on or back, each strip C(N(k), N(k - 1)) times in a row
abbrev pub small_in_a_row : Bool → List ℕ → List (List ℕ)
small_in_a_row back counts = each_in_a_row (times counts) (turn back (book (small counts)))
