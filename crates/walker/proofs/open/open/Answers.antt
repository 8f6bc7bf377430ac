-- `walker::open::open` meets its contract: a refusal with all directions forward, or the walker.
use Prim.Native.Nat.{ℕ}
use mathlib.Core.Path.{◌≡◌, ◌∙◌}
use mathlib.Core.List.{List}
use Rattle.std.specs.Prelude.{Result, Ok, Err, IfOk}
use Rattle.rules.specs.Refusals.{first_of, check_nos}
use Rattle.stock.specs.declared.refused.Refused.{Refused}
use Rattle.stock.specs.Refused.{told, answered}
use Rattle.stock.proofs.Told.{stopped_answer, passed_answer}
use Rattle.walker.specs.declared.Walker.{Walker}
use Rattle.walker.specs.Walkers.{walker_for, all_forward}
use Rattle.walker.specs.Answers.{as_opened, open_answer}
use Rattle.walker.proofs.open.open.Goals as goal

by_result : (counts s : List ℕ) (r : Result Walker Refused) → told r ≡ first_of (check_nos counts s) → IfOk r (λ w. w ≡ walker_for counts s) → answered as_opened all_forward r ≡ open_answer counts s
unfolding open_answer
by_result counts s (Ok w) h v = rw v (passed_answer (check_nos counts s) all_forward (walker_for counts s) as_opened h)
by_result counts s (Err e) h v = stopped_answer (check_nos counts s) all_forward (walker_for counts s) as_opened e h

pub returns : goal.returns
returns c = c.into.ensures ∙ by_result _ _ _ c.checked_walker.ensures.refused c.checked_walker.ensures.walker
