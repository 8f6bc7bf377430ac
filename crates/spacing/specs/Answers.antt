-- TO BE BELIEVED. Document 02, P13: what the search for the next strip with no two of a kind touching answers, and what it leaves in the lent strip. A flag is true for an endless paper.
use Rattle.std.specs.Prelude.{ℕ, Bool, cond, List}
use Rattle.rules.specs.Book.{book}
use Rattle.rules.specs.Refusals.{No, first_of, unless}
use Rattle.stock.specs.Refused.{refusal}
use Rattle.walker.specs.declared.Walker.{Walker}
use Rattle.walker.specs.Walkers.{walker_for, walker_nos}
use Rattle.searching.specs.Searching.{later, is_found_in, outcome, steps_made, found_or}
use Rattle.touching.specs.Apart.{stands_apart}
use Rattle.spacing.specs.declared.next_apart.Spaced.{Spaced}

-- ---- Next apart: a search among the strips that come later in the book; a step is a move

-- 1 found, 2 none, 3 stopped
unfoldable pub apart_outcome : Bool → List ℕ → List ℕ → ℕ → ℕ
apart_outcome endless counts s given = outcome (stands_apart endless) (later (book counts) s) given

-- the moves made
unfoldable pub apart_moves : Bool → List ℕ → List ℕ → ℕ → ℕ
apart_moves endless counts s given = steps_made (stands_apart endless) (later (book counts) s) given

-- the strip found; the lent one where none is
unfoldable pub apart_after : Bool → List ℕ → List ℕ → ℕ → List ℕ
apart_after endless counts s given = found_or (stands_apart endless) (later (book counts) s) given s

-- the walker of the strip found; the lent one where none is
unfoldable pub apart_walker : Bool → List ℕ → List ℕ → Walker → ℕ → Walker
apart_walker endless counts s w given = cond (is_found_in (stands_apart endless) (later (book counts) s) given) (walker_for counts (apart_after endless counts s given)) w

abbrev pub as_spaced : No → ℕ → ℕ → Walker → Spaced
as_spaced r o m w = record { refusal = refusal r; outcome = o; moves = m; walker = w }

-- refused by 1 to 6 or 10: 0, 0, the walker that was lent, and the strip stays
unfoldable pub next_apart_answer : Bool → List ℕ → List ℕ → Walker → ℕ → Spaced
next_apart_answer endless counts s w given =
    let r = first_of (walker_nos counts s w) in
    as_spaced r (unless r 0 (apart_outcome endless counts s given)) (unless r 0 (apart_moves endless counts s given)) (unless r w (apart_walker endless counts s w given))

unfoldable pub next_apart_after : Bool → List ℕ → List ℕ → Walker → ℕ → List ℕ
next_apart_after endless counts s w given = unless (first_of (walker_nos counts s w)) s (apart_after endless counts s given)
