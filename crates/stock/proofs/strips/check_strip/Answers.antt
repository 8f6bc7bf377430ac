-- `stock::strips::check_strip` meets its contract: the stock's refusals, then the strip's.
use mathlib.Core.Path.{◌∙◌}
use Rattle.rules.specs.Refusals.{stock_nos, check_nos}
use Rattle.rules.proofs.Checks.{accepted}
use Rattle.stock.proofs.Told.{told_error, passed, stopped_first, passed_next}
use Rattle.stock.proofs.strips.check_strip.Goals as goal

pub returns-in_err-check_stock : goal.returns-in_err-check_stock
unfolding check_nos
returns-in_err-check_stock c = told_error _ _ c.from_residual.ensures.1 ∙ stopped_first (stock_nos _) _ c.in_err-check_stock.ensures _

pub check_strip_only-requires : goal.check_strip_only-requires
check_strip_only-requires c = accepted _ (passed (stock_nos _) c.in_ok-check_stock.ensures)

pub returns : goal.returns
unfolding check_nos
returns c = passed_next (stock_nos _) _ c.in_ok-check_stock.ensures _ c.check_strip_only.ensures
