-- Theorems. Searches for strips with no two of a kind touching, of small stocks, computed.
use Prim.Native.Nat.{ℕ}
use mathlib.Core.Path.{◌≡◌, refl}
use mathlib.Core.Bool.{Bool, true, false}
use mathlib.Core.List.{List, [], ◌∷◌}
use Rattle.rules.specs.Stock.{sum}
use Rattle.rules.specs.Book.{E, lay, snake, turn, book_to, book, same, place_in, after}
use Rattle.papers.specs.Papers.{turned}
use Rattle.searching.specs.Searching.{later, passed_over, is_found_in, outcome, steps_made, found_or}
use Rattle.touching.specs.Apart.{on_right, unlike, stands_apart}
use Rattle.spacing.specs.Answers.{apart_outcome, apart_moves, apart_after}

-- outcome, moves and the strip that is left
abbrev pub searched : Bool → List ℕ → List ℕ → ℕ → ℕ × ℕ × List ℕ
unfolding apart_outcome apart_moves apart_after
searched endless counts s given = (apart_outcome endless counts s given, apart_moves endless counts s given, apart_after endless counts s given)

-- 2 2, either way: 1212 and 2121 are such. None where exactly the given moves reach the last strip, and stopped with one fewer; the strip lent is never the one found
abbrev pub two_two : Bool → List ℕ → ℕ → ℕ × ℕ × List ℕ
unfolding searched
two_two endless = searched endless (2 ∷ 2 ∷ [])

pub rows : (two_two false (1 ∷ 1 ∷ 2 ∷ 2 ∷ []) 0 ≡ (3, 0, 1 ∷ 1 ∷ 2 ∷ 2 ∷ [])) × (two_two true (1 ∷ 1 ∷ 2 ∷ 2 ∷ []) 1 ≡ (1, 1, 1 ∷ 2 ∷ 1 ∷ 2 ∷ []))
    × (two_two false (1 ∷ 2 ∷ 1 ∷ 2 ∷ []) 9 ≡ (1, 2, 2 ∷ 1 ∷ 2 ∷ 1 ∷ [])) × (two_two false (1 ∷ 2 ∷ 1 ∷ 2 ∷ []) 1 ≡ (3, 1, 1 ∷ 2 ∷ 1 ∷ 2 ∷ []))
    × (two_two true (2 ∷ 1 ∷ 2 ∷ 1 ∷ []) 1 ≡ (3, 1, 2 ∷ 1 ∷ 2 ∷ 1 ∷ [])) × (two_two true (2 ∷ 1 ∷ 2 ∷ 1 ∷ []) 2 ≡ (2, 2, 2 ∷ 1 ∷ 2 ∷ 1 ∷ [])) × (two_two false (2 ∷ 2 ∷ 1 ∷ 1 ∷ []) 0 ≡ (2, 0, 2 ∷ 2 ∷ 1 ∷ 1 ∷ []))
unfolding E lay snake turn book_to book same place_in after sum later passed_over is_found_in outcome steps_made found_or stands_apart on_right unlike turned apart_outcome apart_moves apart_after searched two_two
rows = (refl, refl, refl, refl, refl, refl, refl)

-- 2 1 from 112: 121 on a panel; on an endless paper none, with the two moves to the end. One block: none and 0, either way
pub rows_ends : (searched false (2 ∷ 1 ∷ []) (1 ∷ 1 ∷ 2 ∷ []) 5 ≡ (1, 1, 1 ∷ 2 ∷ 1 ∷ [])) × (searched true (2 ∷ 1 ∷ []) (1 ∷ 1 ∷ 2 ∷ []) 5 ≡ (2, 2, 1 ∷ 1 ∷ 2 ∷ []))
    × (searched false (1 ∷ []) (1 ∷ []) 7 ≡ (2, 0, 1 ∷ [])) × (searched true (1 ∷ []) (1 ∷ []) 7 ≡ (2, 0, 1 ∷ []))
unfolding E lay snake turn book_to book same place_in after sum later passed_over is_found_in outcome steps_made found_or stands_apart on_right unlike turned apart_outcome apart_moves apart_after searched
rows_ends = (refl, refl, refl, refl)
