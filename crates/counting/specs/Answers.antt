-- TO BE BELIEVED. What each call answers, by the book and the table of refusals.
use Rattle.std.specs.Prelude.{ℕ, List, [], ◌∷◌, ◌++◌, get_or}
use Rattle.rules.specs.Stock.{total}
use Rattle.rules.specs.Book.{book}
use Rattle.rules.specs.Refusals.{No, first_of, unless, answer, stock_nos, buffer_nos, many_no}
use Rattle.stock.specs.declared.Refusal.{Refusal}
use Rattle.stock.specs.Refused.{refusal}
use Rattle.counting.specs.declared.count.Counted.{Counted}

-- ---- Count: T; refusals 1, 2, 3, then 7

unfoldable pub count_nos : List ℕ → List No
count_nos counts = stock_nos counts ++ (many_no counts ∷ [])

abbrev pub as_counted : No → ℕ → Counted
as_counted r n = record { refusal = refusal r; total = n }

unfoldable pub count_answer : List ℕ → Counted
count_answer counts = answer as_counted (count_nos counts) 0 (total counts)

-- ---- First: the buffer becomes strip 0; refusals 1 to 4

unfoldable pub first_answer : List ℕ → List ℕ → Refusal
first_answer counts buffer = refusal (first_of (buffer_nos counts buffer))

unfoldable pub first_after : List ℕ → List ℕ → List ℕ
first_after counts buffer = unless (first_of (buffer_nos counts buffer)) buffer (get_or (book counts) 0 [])
