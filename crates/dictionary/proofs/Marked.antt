-- Theorem. The binary case that document 02 names: 0011 is 0 and 1010 is 4, with kind 1 for 0 and kind 2 for 1; and the whole dictionary of the stock 1 1 2.
use mathlib.Core.Path.{◌≡◌, refl}
use mathlib.Core.List.{[], ◌∷◌}
use Rattle.rules.specs.Stock.{sum}
use Rattle.rules.specs.Book.{E, lay, snake, turn, book_to, book, same, place_in, after}
use Rattle.dictionary.specs.Dictionary.{before, insert, in_order, dictionary}

pub binary : (place_in (dictionary (2 ∷ 2 ∷ [])) (1 ∷ 1 ∷ 2 ∷ 2 ∷ []) ≡ 0) × (place_in (dictionary (2 ∷ 2 ∷ [])) (2 ∷ 1 ∷ 2 ∷ 1 ∷ []) ≡ 4)
unfolding E lay snake turn book_to book same place_in after sum before insert in_order dictionary
binary = (refl, refl)

pub twelve : dictionary (1 ∷ 1 ∷ 2 ∷ []) ≡
    (1 ∷ 2 ∷ 3 ∷ 3 ∷ []) ∷ (1 ∷ 3 ∷ 2 ∷ 3 ∷ []) ∷ (1 ∷ 3 ∷ 3 ∷ 2 ∷ []) ∷ (2 ∷ 1 ∷ 3 ∷ 3 ∷ []) ∷ (2 ∷ 3 ∷ 1 ∷ 3 ∷ []) ∷ (2 ∷ 3 ∷ 3 ∷ 1 ∷ [])
    ∷ (3 ∷ 1 ∷ 2 ∷ 3 ∷ []) ∷ (3 ∷ 1 ∷ 3 ∷ 2 ∷ []) ∷ (3 ∷ 2 ∷ 1 ∷ 3 ∷ []) ∷ (3 ∷ 2 ∷ 3 ∷ 1 ∷ []) ∷ (3 ∷ 3 ∷ 1 ∷ 2 ∷ []) ∷ (3 ∷ 3 ∷ 2 ∷ 1 ∷ []) ∷ []
unfolding E lay snake turn book_to book same place_in after sum before insert in_order dictionary
twelve = refl
