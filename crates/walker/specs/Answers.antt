-- TO BE BELIEVED. What Open answers, by the book and the table of refusals.
use Rattle.std.specs.Prelude.{ℕ, List}
use Rattle.rules.specs.Refusals.{No, answer, check_nos}
use Rattle.stock.specs.Refused.{refusal}
use Rattle.walker.specs.declared.Walker.{Walker}
use Rattle.walker.specs.declared.open.Opened.{Opened}
use Rattle.walker.specs.Walkers.{walker_for, all_forward}

-- ---- Open: the walker of the strip; refusals 1 to 6, and then all directions forward

abbrev pub as_opened : No → Walker → Opened
as_opened r w = record { refusal = refusal r; walker = w }

unfoldable pub open_answer : List ℕ → List ℕ → Opened
open_answer counts s = answer as_opened (check_nos counts s) all_forward (walker_for counts s)
