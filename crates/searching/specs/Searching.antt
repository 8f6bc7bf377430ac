-- TO BE BELIEVED. Document 02, P7 and P13: from a strip, the next later strip of a list that passes a test, within a given number of steps along the list;
-- all that pass; and whether some strip of a list does, or is a given one.
use Rattle.std.specs.Prelude.{ℕ, suc, min, ◌+◌, Bool, false, cond, ◌||◌, List, [], ◌∷◌, ltb, leb, length, get_or, drop}
use Rattle.rules.specs.Book.{same, ahead, place_in}
use Rattle.rules.specs.Refusals.{pick}

-- the strips of a list that come later than s: the first of them is one step on
unfoldable pub later : List (List ℕ) → List ℕ → List (List ℕ)
later list s = drop (place_in list s + 1) list

-- how many strips stand ahead of the first that passes a test; all of them where none passes
unfoldable pub passed_over : (List ℕ → Bool) → List (List ℕ) → ℕ
passed_over test [] = 0
passed_over test (s ∷ l) = ahead (test s) (passed_over test l)

-- whether a strip that passes is met within the given steps
unfoldable pub is_found_in : (List ℕ → Bool) → List (List ℕ) → ℕ → Bool
is_found_in test l given = ltb (passed_over test l) (min given (length l))

-- 1 found; 2 none left, where none is found and the given steps reach the last strip; 3 stopped
unfoldable pub outcome : (List ℕ → Bool) → List (List ℕ) → ℕ → ℕ
outcome test l given = pick (is_found_in test l given) 1 (pick (leb (length l) given) 2 3)

-- the steps to the strip found; or those to the last strip, or all the given ones, whichever are fewer
unfoldable pub steps_made : (List ℕ → Bool) → List (List ℕ) → ℕ → ℕ
steps_made test l given = pick (is_found_in test l given) (suc (passed_over test l)) (min given (length l))

-- the strip found; s where none is
unfoldable pub found_or : (List ℕ → Bool) → List (List ℕ) → ℕ → List ℕ → List ℕ
found_or test l given s = cond (is_found_in test l given) (get_or l (passed_over test l) []) s

-- the strips of a list that pass a test, in order
unfoldable pub passing : (List ℕ → Bool) → List (List ℕ) → List (List ℕ)
passing test [] = []
passing test (s ∷ l) = cond (test s) (s ∷ passing test l) (passing test l)

-- whether a test holds of some strip of a list
unfoldable pub some : (List ℕ → Bool) → List (List ℕ) → Bool
some test [] = false
some test (s ∷ l) = test s || some test l

-- whether a strip is among those of a list
abbrev pub is_among : List (List ℕ) → List ℕ → Bool
is_among l s = some (λ t. same t s) l
