-- Theorem. Standing strips with how they are reached, computed.
use Prim.Native.Nat.{ℕ}
use mathlib.Core.Path.{◌≡◌, refl}
use mathlib.Core.Bool.{Bool, true, false}
use mathlib.Core.List.{List, [], ◌∷◌}
use Rattle.rules.specs.Book.{turn, same, place_in}
use Rattle.searching.specs.Searching.{some}
use Rattle.papers.specs.Papers.{turned, up_to, turns_of, turns}
use Rattle.dictionary.specs.Dictionary.{before}
use Rattle.standing.specs.Standing.{smallest_of, standing, is_reversed, turn_of, stands_for_paper}

-- the standing strip, whether the strip is reversed, and the places to turn by
abbrev pub stood : List ℕ → List ℕ × Bool × ℕ
unfolding standing is_reversed turn_of
stood s = (standing s, is_reversed s, turn_of s)

-- a strip of one kind, or that a turn leads back to, turns by 0 places
pub rows_there : (stood (2 ∷ 1 ∷ 2 ∷ 1 ∷ []) ≡ (1 ∷ 2 ∷ 1 ∷ 2 ∷ [], false, 1)) × (stood (1 ∷ 2 ∷ 1 ∷ 2 ∷ []) ≡ (1 ∷ 2 ∷ 1 ∷ 2 ∷ [], false, 0))
    × (stood (1 ∷ 1 ∷ 1 ∷ []) ≡ (1 ∷ 1 ∷ 1 ∷ [], false, 0)) × (stood (3 ∷ 3 ∷ 1 ∷ 2 ∷ []) ≡ (1 ∷ 2 ∷ 3 ∷ 3 ∷ [], false, 2)) × (stood (1 ∷ 2 ∷ 1 ∷ []) ≡ (1 ∷ 1 ∷ 2 ∷ [], false, 2))
unfolding turn same place_in turned up_to turns_of turns some before smallest_of standing is_reversed turn_of stood
rows_there = (refl, refl, refl, refl, refl)

pub rows_back : (stood (1 ∷ 3 ∷ 2 ∷ []) ≡ (1 ∷ 2 ∷ 3 ∷ [], true, 2)) × (stood (3 ∷ 2 ∷ 1 ∷ []) ≡ (1 ∷ 2 ∷ 3 ∷ [], true, 0)) × (stood (3 ∷ 2 ∷ 1 ∷ 3 ∷ []) ≡ (1 ∷ 2 ∷ 3 ∷ 3 ∷ [], true, 1))
unfolding turn same place_in turned up_to turns_of turns some before smallest_of standing is_reversed turn_of stood
rows_back = (refl, refl, refl)

pub rows_stand : (stands_for_paper (1 ∷ 2 ∷ 1 ∷ 2 ∷ []) ≡ true) × (stands_for_paper (1 ∷ 2 ∷ 1 ∷ []) ≡ false) × (stands_for_paper (1 ∷ 3 ∷ 2 ∷ []) ≡ false)
unfolding same turned up_to turns_of turns before smallest_of standing stands_for_paper
rows_stand = (refl, refl, refl)
