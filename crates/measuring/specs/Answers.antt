-- TO BE BELIEVED. What Distance answers, by the book and the table of refusals: the number of the second strip minus the number of the first, an integer;
-- refused as Which, then 7, then 14.
use Rattle.std.specs.Prelude.{ℕ, List, [], ◌∷◌, ◌++◌, ℤ, pos, ◌-ℤ◌}
use Rattle.rules.specs.Book.{book, place_in}
use Rattle.rules.specs.Refusals.{No, answer, many_no, far_no, pair_nos}
use Rattle.stock.specs.Refused.{refusal}
use Rattle.measuring.specs.declared.distance.Apart.{Apart}

abbrev pub as_apart : No → ℤ → Apart
as_apart r n = record { refusal = refusal r; moves = n }

unfoldable pub distance_nos : List ℕ → List ℕ → List ℕ → List No
distance_nos counts first second = pair_nos counts first second ++ (many_no counts ∷ far_no (place_in (book counts) first) (place_in (book counts) second) ∷ [])

unfoldable pub distance_answer : List ℕ → List ℕ → List ℕ → Apart
distance_answer counts first second = answer as_apart (distance_nos counts first second) (pos 0) (pos (place_in (book counts) second) -ℤ pos (place_in (book counts) first))

-- ---- of a part of the code: no call's contract cites it

-- of two numbers, past all other refusals
abbrev pub between : ℕ → ℕ → Apart
between from to = answer as_apart (far_no from to ∷ []) (pos 0) (pos to -ℤ pos from)
