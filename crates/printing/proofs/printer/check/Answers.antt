-- `printing::printer::check` meets its contract: the refusals of the stock, and of its papers 7 then.
use Rattle.std.proofs.Common.{rules}
use mathlib.Core.Path.{◌∙◌}
use Rattle.rules.specs.Refusals.{stock_nos}
use Rattle.rules.proofs.Checks.{accepted}
use Rattle.stock.proofs.Told.{told_error, passed}
use Rattle.showing.specs.States.{of_papers}
use Rattle.printing.proofs.Refused.{stock_refused, many_stopped, few_passed}
use Rattle.printing.proofs.printer.check.Goals as goal

pub returns-in_err-check_stock : goal.returns-in_err-check_stock
returns-in_err-check_stock c =
    let e = c.in_err-check_stock.field-0.0 in
    told_error c.from_residual.result e c.from_residual.ensures.1 ∙ stock_refused c.args.stock.now (of_papers c.args.listing) e c.in_err-check_stock.ensures

pub patterns_of-requires : goal.patterns_of-requires
patterns_of-requires c = accepted _ (passed (stock_nos _) c.in_ok-check_stock.ensures)

pub total_of-requires : goal.total_of-requires
total_of-requires c = (c.patterns_of.ensures, accepted _ (passed (stock_nos _) c.in_ok-check_stock.ensures))

pub returns-in-Some : goal.returns-in-Some
returns-in-Some c = rw c.in-Papers.is (few_passed c.args.stock.now c.in_ok-check_stock.ensures c.in-Some.ensures)

pub returns-in-None : goal.returns-in-None
returns-in-None c = let m = many_stopped c.args.stock.now c.in_ok-check_stock.ensures c.in-None.ensures in rw c.in-Papers.is (search (rules, m))
