-- Proofs. What Which answers for marked strips of document 01, and for strips of a stock with a sold-out kind, as rows of one list under one theorem, by the
-- definitions alone.
use Prim.Native.Nat.{ℕ}
use mathlib.Core.Path.{◌≡◌, refl}
use mathlib.Core.List.{List, [], ◌∷◌, map}
use Rattle.rules.specs.Stock.{sum, count}
use Rattle.rules.specs.Book.{book, same, place_in, reduced}
use Rattle.rules.specs.Refusals.{first_of, smallest_from, stock_nos, strip_nos, check_nos, pair_nos}
use Rattle.comparing.specs.Order.{which_of}
use Rattle.comparing.specs.Answers.{which_answer}

-- a pair of strips, which of them stands first, and the kind at which they part
pub record Row : Type 0 where
  pub counts : List ℕ
  pub first : List ℕ
  pub second : List ℕ
  pub which : ℕ
  pub kind : ℕ

abbrev row : List ℕ → List ℕ → List ℕ → ℕ → ℕ → Row
row c s t w k = record { counts = c; first = s; second = t; which = w; kind = k }

-- of 1 2 2 by the numbers 9 and 10, 0 and 6, 9 and 7, 29 and 20, 7 and 7, with 122, 212 or 221 below kind 3; of 1 0 2 by 0 and 1; and a strip too short
pub marked : List Row
marked =
    row (1 ∷ 2 ∷ 2 ∷ []) (3 ∷ 3 ∷ 1 ∷ 2 ∷ 2 ∷ []) (3 ∷ 3 ∷ 2 ∷ 1 ∷ 2 ∷ []) 1 2
    ∷ row (1 ∷ 2 ∷ 2 ∷ []) (1 ∷ 2 ∷ 2 ∷ 3 ∷ 3 ∷ []) (1 ∷ 2 ∷ 3 ∷ 3 ∷ 2 ∷ []) 1 3
    ∷ row (1 ∷ 2 ∷ 2 ∷ []) (3 ∷ 3 ∷ 1 ∷ 2 ∷ 2 ∷ []) (1 ∷ 3 ∷ 3 ∷ 2 ∷ 2 ∷ []) 2 3
    ∷ row (1 ∷ 2 ∷ 2 ∷ []) (3 ∷ 3 ∷ 2 ∷ 2 ∷ 1 ∷ []) (2 ∷ 2 ∷ 1 ∷ 3 ∷ 3 ∷ []) 2 3
    ∷ row (1 ∷ 2 ∷ 2 ∷ []) (1 ∷ 3 ∷ 3 ∷ 2 ∷ 2 ∷ []) (1 ∷ 3 ∷ 3 ∷ 2 ∷ 2 ∷ []) 3 0
    ∷ row (1 ∷ 0 ∷ 2 ∷ []) (1 ∷ 3 ∷ 3 ∷ []) (3 ∷ 1 ∷ 3 ∷ []) 1 3
    ∷ row (1 ∷ 0 ∷ 2 ∷ []) (1 ∷ 3 ∷ 3 ∷ []) (3 ∷ 1 ∷ []) 0 0
    ∷ []

-- the row that the definitions give for its strips
abbrev answered : Row → Row
answered r =
    let a = which_answer r.counts r.first r.second in
    record { counts = r.counts; first = r.first; second = r.second; which = a.which; kind = a.kind }

pub marked_right : map answered marked ≡ marked
unfolding marked which_answer which_of book same place_in reduced smallest_from first_of pair_nos check_nos stock_nos strip_nos count sum
marked_right = refl
