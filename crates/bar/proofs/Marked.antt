-- Theorems. Marked replays of P9, computed from the definitions: what was walked, what stood, the first that is missing, the final strip; and wrong pairs.
use Prim.Native.Nat.{ℕ}
use mathlib.Core.Path.{◌≡◌, refl}
use mathlib.Core.List.{List, [], ◌∷◌}
use Rattle.rules.specs.Stock.{sum}
use Rattle.rules.specs.Book.{E, lay, snake, turn, book_to, book, same, place_in, after}
use Rattle.walking.specs.Answers.{along}
use Rattle.searching.specs.Searching.{passed_over, passing, some}
use Rattle.bar.specs.Bar.{made, stood, last_of, final_strip, next_ones, walked, different, distinct, missing}
use Rattle.bar.specs.Pairs.{wrong_from}

abbrev stock : List ℕ
stock = 2 ∷ 2 ∷ []

abbrev first : List ℕ
first = 1 ∷ 1 ∷ 2 ∷ 2 ∷ []

abbrev last : List ℕ
last = 2 ∷ 2 ∷ 1 ∷ 1 ∷ []

-- walked, different, missing
abbrev tells : List ℕ → List ℕ → ℕ × ℕ × ℕ
tells s pairs = (walked stock s pairs, different (stood s pairs) (book stock), missing (stood s pairs) (book stock))

-- three moves of the walk; then back to a strip that stood, and on to another that did
abbrev pairs : List ℕ
pairs = 2 ∷ 3 ∷ 1 ∷ 2 ∷ 3 ∷ 4 ∷ 1 ∷ 4 ∷ 1 ∷ 3 ∷ []

pub replayed : (tells first pairs ≡ (3, 4, 4)) × (final_strip first pairs ≡ 2 ∷ 1 ∷ 1 ∷ 2 ∷ []) × (distinct (stood first pairs) ≡ 4)
unfolding E lay snake turn book_to book same place_in after sum along passed_over passing some made last_of next_ones distinct
replayed = (refl, refl, refl)

-- no pair: one strip stood. Two blocks alike exchanged: the same. From the last strip no exchange is the walk's next move, and strip 0 is missing
pub few : (tells first [] ≡ (0, 1, 1)) × (tells first (1 ∷ 2 ∷ []) ≡ (0, 1, 1)) × (tells last (1 ∷ 3 ∷ []) ≡ (0, 2, 0))
unfolding E lay snake turn book_to book same place_in after sum along passed_over passing some made next_ones
few = (refl, refl, refl)

-- the moves of the whole book, on from its first strip and back from its last: no move back is the walk's next move on
pub whole : (tells first (2 ∷ 3 ∷ 1 ∷ 2 ∷ 3 ∷ 4 ∷ 1 ∷ 2 ∷ 1 ∷ 3 ∷ []) ≡ (5, 6, 6)) × (tells last (1 ∷ 3 ∷ 1 ∷ 2 ∷ 3 ∷ 4 ∷ 1 ∷ 2 ∷ 2 ∷ 3 ∷ []) ≡ (0, 6, 6))
unfolding E lay snake turn book_to book same place_in after sum along passed_over passing some made next_ones
whole = (refl, refl)

-- half a pair; a place 0; places equal, before half a pair; a place above n; places that fall
pub wrong : (wrong_from 1 4 (2 ∷ 3 ∷ 1 ∷ []) ≡ 2) × (wrong_from 1 4 (0 ∷ 1 ∷ []) ≡ 1) × (wrong_from 1 4 (2 ∷ 3 ∷ 2 ∷ 2 ∷ 1 ∷ []) ≡ 2) × (wrong_from 1 4 (1 ∷ 2 ∷ 4 ∷ 5 ∷ 3 ∷ []) ≡ 2)
    × (wrong_from 1 4 (1 ∷ 2 ∷ 1 ∷ 4 ∷ 3 ∷ 2 ∷ []) ≡ 3)
unfolding wrong_from
wrong = (refl, refl, refl, refl, refl)
