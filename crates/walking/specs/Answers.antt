-- TO BE BELIEVED. What a move on or back answers, by the book and the table of refusals, and what it leaves in the lent strip. A direction is true for back;
-- what it means is said of numbers, by `shifted` and `ahead`, and all else follows from these two.
use Rattle.std.specs.Prelude.{ℕ, ◌+◌, ◌-◌, Bool, true, false, List, [], ◌∷◌, ◌++◌, eqb, get_or}
use Rattle.rules.specs.Stock.{total}
use Rattle.rules.specs.Book.{book, place_in}
use Rattle.rules.specs.Neighbours.{places}
use Rattle.rules.specs.Refusals.{No, when, first_of, unless, check_nos}
use Rattle.stock.specs.Refused.{refusal}
use Rattle.walker.specs.declared.Walker.{Walker}
use Rattle.walker.specs.Walkers.{walker_for, walker_no}
use Rattle.walking.specs.declared.Moved.{Moved}

-- the number m further on than number i, or at true further back
abbrev pub shifted : Bool → ℕ → ℕ → ℕ
shifted false i m = i + m
shifted true i m = i - m

-- of n numbers, from 0, how many come after number i, or at true before it
abbrev pub ahead : Bool → ℕ → ℕ → ℕ
ahead false n i = n - 1 - i
ahead true n i = i

-- the strip of the book that is m numbers further on, or at true further back
unfoldable pub along : Bool → List ℕ → List ℕ → ℕ → List ℕ
along back counts s m = get_or (book counts) (shifted back (place_in (book counts) s) m) []

-- how many strips of the book come after a strip, or at true before it
unfoldable pub left_along : Bool → List ℕ → List ℕ → ℕ
left_along back counts s = ahead back (total counts) (place_in (book counts) s)

-- the next strip of the book, or at true the one before
abbrev pub beside : Bool → List ℕ → List ℕ → List ℕ
beside back counts s = along back counts s 1

-- of moves on, as a sheet has them
abbrev pub onward : List ℕ → List ℕ → ℕ → List ℕ
onward counts s m = along false counts s m

abbrev pub left : List ℕ → List ℕ → ℕ
left counts s = left_along false counts s

-- 9: no next strip, or at true no previous one
unfoldable pub end_no : Bool → List ℕ → List ℕ → No
end_no back counts s = when 9 (eqb (left_along back counts s) 0)

-- ---- Walk, one move on or at true back: refusals 1 to 6, then 10, then 9

unfoldable pub move_nos : Bool → List ℕ → List ℕ → Walker → List No
move_nos back counts s w = check_nos counts s ++ (walker_no counts s w ∷ end_no back counts s ∷ [])

abbrev pub as_moved : No → List ℕ → Walker → Moved
as_moved r pq w = record { refusal = refusal r; low = get_or pq 0 0; high = get_or pq 1 0; walker = w }

-- the two places, and the walker of the new strip; refused, 0 and 0 and the walker that was lent
unfoldable pub move_answer : Bool → List ℕ → List ℕ → Walker → Moved
move_answer back counts s w =
    let r = first_of (move_nos back counts s w) in
    let t = beside back counts s in
    as_moved r (unless r [] (places s t)) (unless r w (walker_for counts t))

-- the strip that is left in the lent one
unfoldable pub move_strip : Bool → List ℕ → List ℕ → Walker → List ℕ
move_strip back counts s w = unless (first_of (move_nos back counts s w)) s (beside back counts s)
