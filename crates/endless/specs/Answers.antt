-- TO BE BELIEVED. Document 02, P7 and P8: what the calls on endless papers answer, and what they leave in the lent strip. Refusals of both: 1 to 6.
use Rattle.std.specs.Prelude.{ℕ, false, List}
use Rattle.rules.specs.Refusals.{first_of, unless, check_nos}
use Rattle.stock.specs.Refused.{refusal}
use Rattle.dictionary.specs.Dictionary.{dictionary}
use Rattle.searching.specs.Searching.{later, outcome, steps_made, found_or}
use Rattle.standing.specs.Standing.{standing, is_reversed, turn_of, stands_for_paper}
use Rattle.endless.specs.declared.stand.Stood.{Stood}
use Rattle.endless.specs.declared.next_paper.Stepped.{Stepped}

-- ---- Stand: the strip becomes the standing one; the answer is whether it is reversed, and then the smallest number of places to turn by. Refused: no and 0, and the strip stays

unfoldable pub stand_answer : List ℕ → List ℕ → Stood
stand_answer counts s =
    let r = first_of (check_nos counts s) in
    record { refusal = refusal r; turn = unless r 0 (turn_of s); reversed = unless r false (is_reversed s) }

unfoldable pub stand_after : List ℕ → List ℕ → List ℕ
stand_after counts s = unless (first_of (check_nos counts s)) s (standing s)

-- ---- Next paper: a search for a standing strip among those that come later in the dictionary. Refused: 0 and 0, and the strip stays

-- 1 found, 2 none left, 3 stopped
unfoldable pub paper_outcome : List ℕ → List ℕ → ℕ → ℕ
paper_outcome counts s given = outcome stands_for_paper (later (dictionary counts) s) given

-- the steps made
unfoldable pub paper_steps : List ℕ → List ℕ → ℕ → ℕ
paper_steps counts s given = steps_made stands_for_paper (later (dictionary counts) s) given

-- the strip found; the lent one where none is
unfoldable pub paper_after : List ℕ → List ℕ → ℕ → List ℕ
paper_after counts s given = found_or stands_for_paper (later (dictionary counts) s) given s

unfoldable pub next_paper_answer : List ℕ → List ℕ → ℕ → Stepped
next_paper_answer counts s given =
    let r = first_of (check_nos counts s) in
    record { refusal = refusal r; outcome = unless r 0 (paper_outcome counts s given); steps = unless r 0 (paper_steps counts s given) }

unfoldable pub next_paper_after : List ℕ → List ℕ → ℕ → List ℕ
next_paper_after counts s given = unless (first_of (check_nos counts s)) s (paper_after counts s given)
