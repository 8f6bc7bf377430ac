-- TO BE BELIEVED. Document 01: the walker of a strip, and refusal 10.
use Rattle.std.specs.Prelude.{ℕ, suc, Bool, true, false, not, ◌&&◌, List, [], ◌∷◌, ◌++◌, map, leb, length, replicate}
use Rattle.rules.specs.Book.{backward}
use Rattle.rules.specs.Refusals.{No, at_place, pick, check_nos}
use Rattle.walker.specs.declared.Walker.{Walker}

abbrev pub kinds : List ℕ
kinds = 1 ∷ 2 ∷ 3 ∷ 4 ∷ 5 ∷ 6 ∷ 7 ∷ 8 ∷ 9 ∷ 10 ∷ 11 ∷ 12 ∷ 13 ∷ 14 ∷ 15 ∷ 16 ∷ []

-- the direction of each of sixteen kinds in a strip, true for backward: kinds that the stock has not run forward, and so does kind 1 (`kind_one_forward`,
-- proved). A kind without blocks has a direction as the others have
unfoldable pub directions : List ℕ → List ℕ → List Bool
directions counts s = map (λ j. leb j (length counts) && backward counts j s) kinds

-- the walker that Open gives for a strip
unfoldable pub walker_for : List ℕ → List ℕ → Walker
unfolding directions
walker_for counts s = record { back = directions counts s }

-- all directions forward
abbrev pub all_forward : Walker
all_forward = record { back = replicate 16 false }

-- whether two directions are the same
abbrev pub alike : Bool → Bool → Bool
alike false b = not b
alike true b = b

-- the smallest kind, from j on, at which two lists of directions differ; 0 where there is none
unfoldable pub differing_from : ℕ → List Bool → List Bool → ℕ
differing_from j [] e = 0
differing_from j (b ∷ d) [] = 0
differing_from j (b ∷ d) (c ∷ e) = pick (alike b c) (differing_from (suc j) d e) j

-- 10: the walker is not what Open gives for this strip; the smallest wrong kind
unfoldable pub walker_no : List ℕ → List ℕ → Walker → No
walker_no counts s w = at_place 10 (differing_from 1 w.back (walker_for counts s).back)

-- the refusals of a stock, a strip and a walker: 1 to 6, then 10
abbrev pub walker_nos : List ℕ → List ℕ → Walker → List No
walker_nos counts s w = check_nos counts s ++ (walker_no counts s w ∷ [])
