-- Theorem. Rows of a search, computed: of five strips of one block, those of kind 2 pass.
use Prim.Native.Nat.{ℕ}
use mathlib.Core.Path.{◌≡◌, refl}
use mathlib.Core.Bool.{Bool}
use mathlib.Core.List.{List, [], ◌∷◌}
use Rattle.rules.specs.Book.{same, place_in}
use Rattle.searching.specs.Searching.{later, passed_over, is_found_in, outcome, steps_made, found_or, passing}

abbrev pub row : List (List ℕ)
row = (1 ∷ []) ∷ (3 ∷ []) ∷ (2 ∷ []) ∷ (4 ∷ []) ∷ (5 ∷ []) ∷ []

abbrev pub two : List ℕ → Bool
unfolding same
two s = same s (2 ∷ [])

-- outcome, steps, and the strip that is left, from the strip of kind x with so many steps
abbrev pub searched : ℕ → ℕ → ℕ × ℕ × List ℕ
unfolding later outcome steps_made found_or
searched x given =
    let l = later row (x ∷ []) in
    (outcome two l given, steps_made two l given, found_or two l given (x ∷ []))

pub rows_later : (later row (1 ∷ []) ≡ (3 ∷ []) ∷ (2 ∷ []) ∷ (4 ∷ []) ∷ (5 ∷ []) ∷ []) × (later row (5 ∷ []) ≡ [])
unfolding later place_in same
rows_later = (refl, refl)

-- stopped one step short of it, found; none left exactly where the steps reach the last strip
pub rows : (searched 1 1 ≡ (3, 1, 1 ∷ [])) × (searched 1 2 ≡ (1, 2, 2 ∷ [])) × (searched 1 9 ≡ (1, 2, 2 ∷ [])) × (searched 3 0 ≡ (3, 0, 3 ∷ []))
    × (searched 2 1 ≡ (3, 1, 2 ∷ [])) × (searched 2 2 ≡ (2, 2, 2 ∷ [])) × (searched 2 9 ≡ (2, 2, 2 ∷ [])) × (searched 5 0 ≡ (2, 0, 5 ∷ []))
unfolding later place_in same passed_over is_found_in outcome steps_made found_or two searched
rows = (refl, refl, refl, refl, refl, refl, refl, refl)

pub rows_passing : passing two row ≡ (2 ∷ []) ∷ []
unfolding passing two same
rows_passing = refl
