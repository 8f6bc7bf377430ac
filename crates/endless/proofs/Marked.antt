-- Theorems. Steps through the papers of two small stocks, computed.
use Prim.Native.Nat.{ℕ}
use mathlib.Core.Path.{◌≡◌, refl}
use mathlib.Core.List.{List, [], ◌∷◌}
use Rattle.rules.specs.Stock.{sum}
use Rattle.rules.specs.Book.{E, lay, snake, turn, book_to, book, same, place_in, after}
use Rattle.papers.specs.Papers.{turned, up_to, turns_of, turns}
use Rattle.dictionary.specs.Dictionary.{before, insert, in_order, dictionary}
use Rattle.searching.specs.Searching.{later, passed_over, is_found_in, outcome, steps_made, found_or}
use Rattle.standing.specs.Standing.{smallest_of, standing, stands_for_paper}
use Rattle.endless.specs.Answers.{paper_outcome, paper_steps, paper_after}

-- outcome, steps and the strip that is left
abbrev pub stepped : List ℕ → List ℕ → ℕ → ℕ × ℕ × List ℕ
unfolding paper_outcome paper_steps paper_after
stepped counts s given = (paper_outcome counts s given, paper_steps counts s given, paper_after counts s given)

-- 2 2: 1122 and 1212 are standing
abbrev pub two_two : List ℕ → ℕ → ℕ × ℕ × List ℕ
unfolding stepped
two_two = stepped (2 ∷ 2 ∷ [])

pub rows : (two_two (1 ∷ 1 ∷ 2 ∷ 2 ∷ []) 0 ≡ (3, 0, 1 ∷ 1 ∷ 2 ∷ 2 ∷ [])) × (two_two (1 ∷ 1 ∷ 2 ∷ 2 ∷ []) 1 ≡ (1, 1, 1 ∷ 2 ∷ 1 ∷ 2 ∷ []))
    × (two_two (1 ∷ 2 ∷ 1 ∷ 2 ∷ []) 3 ≡ (3, 3, 1 ∷ 2 ∷ 1 ∷ 2 ∷ [])) × (two_two (1 ∷ 2 ∷ 1 ∷ 2 ∷ []) 4 ≡ (2, 4, 1 ∷ 2 ∷ 1 ∷ 2 ∷ [])) × (two_two (2 ∷ 2 ∷ 1 ∷ 1 ∷ []) 0 ≡ (2, 0, 2 ∷ 2 ∷ 1 ∷ 1 ∷ []))
unfolding E lay snake turn book_to book same place_in after sum before insert in_order dictionary turned up_to turns_of turns smallest_of standing stands_for_paper later passed_over is_found_in outcome steps_made found_or
    paper_outcome paper_steps paper_after stepped two_two
rows = (refl, refl, refl, refl, refl)

-- 1 1 1: 123 alone is standing, since 132 is a turn of it read backwards
pub rows_foot_up : (stepped (1 ∷ 1 ∷ 1 ∷ []) (1 ∷ 2 ∷ 3 ∷ []) 4 ≡ (3, 4, 1 ∷ 2 ∷ 3 ∷ [])) × (stepped (1 ∷ 1 ∷ 1 ∷ []) (1 ∷ 2 ∷ 3 ∷ []) 5 ≡ (2, 5, 1 ∷ 2 ∷ 3 ∷ []))
unfolding E lay snake turn book_to book same place_in after sum before insert in_order dictionary turned up_to turns_of turns smallest_of standing stands_for_paper later passed_over is_found_in outcome steps_made found_or
    paper_outcome paper_steps paper_after stepped
rows_foot_up = (refl, refl)
