-- `walker::check::check_walker` meets its contract: 1 to 6, then 10.
use mathlib.Core.Path.{ap, ◌∙◌}
use Rattle.rules.specs.Refusals.{check_nos}
use Rattle.stock.specs.Refused.{no_of}
use Rattle.stock.proofs.Told.{told_error, stopped_first}
use Rattle.walker.proofs.Differing.{walker_wrong, walker_fine}
use Rattle.walker.proofs.check.check_walker.Goals as goal

pub returns-in_err-right : goal.returns-in_err-right
returns-in_err-right c = told_error _ _ c.from_residual.ensures.1 ∙ stopped_first (check_nos _ _) _ c.in_err-right.ensures.refused _

pub returns-in-Some : goal.returns-in-Some
returns-in-Some c = ap no_of c.at.ensures ∙ walker_wrong _ _ _ c.in_ok-right.ensures.refused _ c.in_ok-right.ensures.walker _ c.in-Some.ensures

pub returns-in-None : goal.returns-in-None
returns-in-None c = walker_fine _ _ _ c.in_ok-right.ensures.refused _ c.in_ok-right.ensures.walker c.in-None.ensures
