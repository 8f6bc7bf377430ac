-- Small books, computed: of 1 1 2, whose twelve strips document 01 lists, on and back; of 2 0 3, where the small stock 2 0 is none that is accepted; of 0 3, with no blocks below kind 2; and of one kind.
use mathlib.Core.Path.{◌≡◌, refl}
use mathlib.Core.Bool.{true, false}
use mathlib.Core.List.{[], ◌∷◌, ◌++◌, map}
use lib.ListN.{replicate}
use Rattle.rules.specs.Stock.{binom, sum}
use Rattle.rules.specs.Book.{turn, book, reduced}
use Rattle.lifting.specs.Lifting.{small, lifted, small_in_a_row, each_in_a_row}

pub on_1_1_2 : (map (lifted (1 ∷ 1 ∷ 2 ∷ [])) (turn false (book (1 ∷ 1 ∷ 2 ∷ []))) ≡ replicate 6 (1 ∷ 2 ∷ []) ++ replicate 6 (2 ∷ 1 ∷ [])) × (small_in_a_row false (1 ∷ 1 ∷ 2 ∷ []) ≡ replicate 6 (1 ∷ 2 ∷ []) ++ replicate 6 (2 ∷ 1 ∷ []))
unfolding book turn reduced binom sum each_in_a_row
on_1_1_2 = (refl, refl)

pub back_1_1_2 : (map (lifted (1 ∷ 1 ∷ 2 ∷ [])) (turn true (book (1 ∷ 1 ∷ 2 ∷ []))) ≡ replicate 6 (2 ∷ 1 ∷ []) ++ replicate 6 (1 ∷ 2 ∷ [])) × (small_in_a_row true (1 ∷ 1 ∷ 2 ∷ []) ≡ replicate 6 (2 ∷ 1 ∷ []) ++ replicate 6 (1 ∷ 2 ∷ []))
unfolding book turn reduced binom sum each_in_a_row
back_1_1_2 = (refl, refl)

pub on_2_0_3 : (map (lifted (2 ∷ 0 ∷ 3 ∷ [])) (book (2 ∷ 0 ∷ 3 ∷ [])) ≡ replicate 10 (1 ∷ 1 ∷ [])) × (book (small (2 ∷ 0 ∷ 3 ∷ [])) ≡ (1 ∷ 1 ∷ []) ∷ [])
unfolding book reduced
on_2_0_3 = (refl, refl)

pub on_0_3 : (map (lifted (0 ∷ 3 ∷ [])) (book (0 ∷ 3 ∷ [])) ≡ [] ∷ []) × (book (small (0 ∷ 3 ∷ [])) ≡ [] ∷ [])
unfolding book reduced
on_0_3 = (refl, refl)

pub on_3 : (map (lifted (3 ∷ [])) (book (3 ∷ [])) ≡ [] ∷ []) × (book (small (3 ∷ [])) ≡ [] ∷ [])
unfolding book reduced
on_3 = (refl, refl)
