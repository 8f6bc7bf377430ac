-- TO BE BELIEVED. Document 01, Same paper, as document 02, P8, has it: a strip turned round by some number of places, as it stands or read backwards.
use Rattle.std.specs.Prelude.{ℕ, zero, suc, Bool, false, List, [], ◌∷◌, ◌++◌, map, reverse, length, take, drop}
use Rattle.rules.specs.Book.{turn}
use Rattle.rules.specs.Refusals.{No, answer, pair_nos}
use Rattle.stock.specs.Refused.{refusal}
use Rattle.searching.specs.Searching.{is_among}
use Rattle.papers.specs.declared.Asked.{Asked}

-- a strip turned by t places: its first t blocks in order to the end
unfoldable pub turned : ℕ → List ℕ → List ℕ
turned t s = drop t s ++ take t s

-- the numbers from 0 to n - 1, in that order
unfoldable pub up_to : ℕ → List ℕ
up_to zero = []
up_to (suc n) = up_to n ++ (n ∷ [])

-- the turns of a strip as it stands: by 0 to n - 1 places, in that order
unfoldable pub turns_of : List ℕ → List (List ℕ)
unfolding turned up_to
turns_of s = map (λ t. turned t s) (up_to (length s))

-- a strip as it hangs: foot up it is read backwards
abbrev pub hung : Bool → List ℕ → List ℕ
hung footUp s = turn footUp s

-- the turns of a strip, as it stands and then foot up
unfoldable pub turns : List ℕ → List (List ℕ)
unfolding turns_of
turns s = turns_of s ++ turns_of (reverse s)

-- whether u is one of the turns of s
unfoldable pub is_a_turn : List ℕ → List ℕ → Bool
is_a_turn s u = is_among (turns s) u

-- ---- Same paper: refusals 1 to 3, then 4 to 6 of the first strip, then of the second

abbrev pub as_asked : No → Bool → Asked
as_asked r b = record { refusal = refusal r; same = b }

unfoldable pub same_paper_answer : List ℕ → List ℕ → List ℕ → Asked
same_paper_answer counts first second = answer as_asked (pair_nos counts first second) false (is_a_turn first second)
