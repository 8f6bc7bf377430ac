-- `stock::stocks::check_buffer` meets its contract: the stock's refusals, then the length.
use mathlib.Core.Path.{◌≡◌, ap, ◌∙◌}
use mathlib.Core.List.{[]}
use native.Mathlib.Omega.{arith}
use Rattle.rules.specs.Stock.{sum}
use Rattle.rules.specs.Refusals.{fine, first_of, stock_nos, buffer_nos}
use Rattle.rules.proofs.Checks.{accepted, length_wrong, length_right}
use Rattle.stock.specs.Refused.{no_of}
use Rattle.stock.proofs.Told.{told_error, passed, stopped_first, passed_next}
use Rattle.stock.proofs.stocks.check_buffer.Goals as goal
use Rattle.stock.proofs.stocks.check_buffer.Goals.{After-blocks-2}

-- the stock is accepted, so `blocks` gives n
blocks_n : (c : After-blocks-2) → c.blocks-2.result ≡ sum c.args.stock.now
blocks_n c = omega (arith, c.blocks-2.ensures, (accepted _ (passed (stock_nos _) c.in_ok-check_stock.ensures)).short)

pub returns-in_err-check_stock : goal.returns-in_err-check_stock
unfolding buffer_nos
returns-in_err-check_stock c = told_error _ _ c.from_residual.ensures.1 ∙ stopped_first (stock_nos _) _ c.in_err-check_stock.ensures _

pub returns-then-buffer-blocks : goal.returns-then-buffer-blocks
unfolding buffer_nos
returns-then-buffer-blocks c =
    ap no_of c.at.ensures ∙ passed_next (stock_nos _) _ c.in_ok-check_stock.ensures _ (length_wrong _ _ [] (omega (arith, blocks_n (goal.at.returns-then-buffer-blocks c).After-blocks-2)))

pub returns : goal.returns
unfolding buffer_nos first_of
returns c = passed_next (stock_nos _) _ c.in_ok-check_stock.ensures fine (length_right _ _ [] (omega (arith, blocks_n (goal.at.returns c).After-blocks-2)))
