-- TO BE BELIEVED. Document 02, P11: the cuts that the pattern rule makes of a word, those for all kinds of a strip, and the ceiling for a stock.
use Rattle.std.specs.Prelude.{ℕ, zero, suc, ◌+◌, ◌-◌, Bool, true, false, not, ◌&&◌, ◌||◌, List, [], ◌∷◌, reverse, eqb, ltb, length, get_or}
use Rattle.rules.specs.Stock.{sum, N}
use Rattle.rules.specs.Book.{Letter, K, R, Word, reduced, pattern}
use Rattle.rules.specs.Refusals.{pick, smallest_from, smallest}

-- ---- of a word

-- whether two letters are the same
abbrev pub alike : Letter → Letter → Bool
alike K K = true
alike K R = false
alike R K = false
alike R R = true

-- whether a word has a letter
unfoldable pub has : Letter → Word → Bool
has x [] = false
has x (y ∷ w) = alike x y || has x w

abbrev pub has_both : Word → Bool
has_both w = has K w && has R w

-- of a word that is read from its last letter to its first: as long as it has both letters, a cut takes its last letter off where that is K, and its last two
-- where it ends in K R or in R R, as the rule put them after a shorter word
unfoldable pub cuts_from_end : Word → ℕ
unfolding has
cuts_from_end [] = 0
cuts_from_end (K ∷ w) = pick (has_both (K ∷ w)) (suc (cuts_from_end w)) 0
cuts_from_end (R ∷ []) = 0
cuts_from_end (R ∷ x ∷ w) = pick (has_both (R ∷ x ∷ w)) (suc (cuts_from_end w)) 0

-- of a word as it stands
unfoldable pub cuts : Word → ℕ
unfolding cuts_from_end
cuts w = cuts_from_end (reverse w)

-- ---- of a strip

-- the sum of f(j) over the kinds j from 2 to k; 0 where k is below 2
unfoldable pub sum_over : (ℕ → ℕ) → ℕ → ℕ
sum_over f zero = 0
sum_over f (suc zero) = 0
sum_over f (suc (suc k)) = sum_over f (suc k) + f (suc (suc k))

-- the cuts for kind j: those of the pattern by which it stands in the reduced strip at j
abbrev pub kind_cuts : List ℕ → ℕ → ℕ
kind_cuts s j = cuts (pattern j (reduced j s))

-- the cuts for all kinds of a strip
unfoldable pub strip_cuts : List ℕ → List ℕ → ℕ
unfolding cuts pattern reduced sum_over
strip_cuts counts s = sum_over (kind_cuts s) (length counts)

-- ---- the ceiling

-- the first kind that has blocks; 0 where none has
abbrev pub first_kind : List ℕ → ℕ
first_kind counts = smallest (λ kind c. ltb 0 c) counts

-- kind j has blocks, and is not the first that has any
abbrev pub is_counted : List ℕ → ℕ → Bool
is_counted counts j = ltb 0 (get_or counts (j - 1) 0) && not (eqb j (first_kind counts))

-- the sum of N(j) - 1 over the kinds j from 2 that have blocks, leaving out the first kind that has any
unfoldable pub ceiling : List ℕ → ℕ
unfolding sum sum_over smallest_from
ceiling counts = sum_over (λ j. pick (is_counted counts j) (N counts j - 1) 0) (length counts)
