-- `printing::printer::next_line` meets its contract.
use mathlib.Core.Path.{◌≡◌, sym, ap, ◌∙◌}
use mathlib.Core.List.{List}
use Prim.Native.Nat.{ℕ}
use Rattle.showing.specs.States.{of_papers, next_shown}
use Rattle.printing.specs.States.{stock_of}
use Rattle.showing.proofs.Showing.{follows}
use Rattle.printing.proofs.Answering.{next_printed, none_printed}
use Rattle.printing.proofs.printer.next_line.Goals as goal
use Rattle.printing.proofs.printer.next_line.Goals.{After-show_next}

-- the stock that is lent on is the printer's own
own : (c : After-show_next) → c.as_slice-stock.result.now ≡ stock_of c.args.printer.read
own c = c.as_slice-stock.ensures ∙ sym (ap stock_of c.in_ok-counts.was)

shown : (c : After-show_next) → c.show_next.result ≡ next_shown (of_papers c.args.printer.listing) (stock_of c.args.printer.read) c.args.printer.shown
shown c = c.show_next.ensures ∙ ap (λ (s : List ℕ). next_shown (of_papers c.args.printer.listing) s c.args.printer.shown) (own c)

pub returns-in_err-shown : goal.returns-in_err-shown
returns-in_err-shown c =
    rw c.from_residual-in_err-shown.ensures
    (none_printed c.args.printer c.args.line.now c.requires.0 (sym (shown (goal.at.returns-in_err-shown c).After-show_next) ∙ c.in_err-shown.was))

pub put_shown-length-requires : goal.put_shown-length-requires
put_shown-length-requires c =
    let a = (goal.at.put_shown-length-requires c).After-show_next in
    let p = c.args.printer in
    rw (own a) ((follows (of_papers p.listing) (stock_of p.read) p.shown c.requires.0.shows c.in_ok-shown.shown (sym (shown a) ∙ c.in_ok-shown.was)).fits, c.requires.1)

pub returns : goal.returns
returns c =
    let a = (goal.at.returns c).After-show_next in
    next_printed c.args.printer c.args.line.now c.requires.0 c.put_shown-length.new.line c.put_shown-length.result c.in_ok-shown.shown (sym (shown a) ∙ c.in_ok-shown.was)
    (rw (own a) at c.put_shown-length.ensures)
