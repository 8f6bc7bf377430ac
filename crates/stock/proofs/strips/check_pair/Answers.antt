-- `stock::strips::check_pair` meets its contract: the refusals of the stock and the first strip, then those of the second.
use mathlib.Core.Path.{◌∙◌}
use Rattle.rules.specs.Refusals.{check_nos, pair_nos}
use Rattle.rules.proofs.Checks.{accepted_both}
use Rattle.stock.proofs.Told.{told_error, passed, stopped_first, passed_next}
use Rattle.stock.proofs.strips.check_pair.Goals as goal

pub returns-in_err-check_strip : goal.returns-in_err-check_strip
unfolding pair_nos
returns-in_err-check_strip c = told_error _ _ c.from_residual.ensures.1 ∙ stopped_first (check_nos _ _) _ c.in_err-check_strip.ensures _

pub check_strip_only-requires : goal.check_strip_only-requires
check_strip_only-requires c = (accepted_both _ _ (passed (check_nos _ _) c.in_ok-check_strip.ensures)).0

pub returns : goal.returns
unfolding pair_nos
returns c = passed_next (check_nos _ _) _ c.in_ok-check_strip.ensures _ c.check_strip_only.ensures
