-- `printing::printer::begin` meets its contract: the refusal of the stock, or its first strip.
use mathlib.Core.Path.{ap}
use native.Mathlib.Omega.{arith}
use Rattle.rules.specs.Stock.{IsStock}
use Rattle.rules.specs.Refusals.{No}
use Rattle.stock.specs.Refused.{no_of}
use Rattle.stock.proofs.Told.{passed, stopped}
use Rattle.lines.proofs.Lengths.{refused_length}
use Rattle.printed.specs.Output.{nos_of}
use Rattle.showing.specs.States.{of_papers}
use Rattle.printing.proofs.Refused.{refused_place, none_refused}
use Rattle.printed.proofs.Lines.{some_strip}
use Rattle.showing.proofs.Showing.{fits_at}
use Rattle.printing.proofs.Answering.{begun_refused, begun_shown}
use Rattle.printing.proofs.printer.begin.Goals as goal
use Rattle.printing.proofs.printer.begin.Goals.{In_default}

pub put_refusal-requires : goal.put_refusal-requires
put_refusal-requires c =
    let r = c.in-Err.refused in rw c.into.ensures (
      omega (arith, ap (λ (n : No). n.1) c.in-Err.ensures, refused_place (of_papers c.args.listing) c.args.stock.now),
      omega (arith, refused_length (no_of r), c.requires),
    )

pub returns-in-Err : goal.returns-in-Err
returns-in-Err c =
    let papers = of_papers c.args.listing in
    begun_refused papers c.args.stock.now _ _ _ (stopped (nos_of papers c.args.stock.now) c.in-Err.refused c.in-Err.ensures) (rw (c.into.ensures, c.in-Err.ensures) at c.put_refusal.ensures)

-- past the refusals the stock is accepted
sound : (c : In_default) → IsStock c.args.stock.now
sound c = none_refused (of_papers c.args.listing) c.args.stock.now (passed (nos_of (of_papers c.args.listing) c.args.stock.now) c.in_default.ensures)

pub show_first-shown-requires : goal.show_first-shown-requires
show_first-shown-requires c = sound (goal.at.show_first-shown-requires c).In_default

pub put_shown-requires : goal.put_shown-requires
put_shown-requires c =
    let papers = of_papers c.args.listing in
    let k = sound (goal.at.put_shown-requires c).In_default in
    (fits_at papers c.args.stock.now k 0 (some_strip c.args.stock.now papers k) _ (c.show_first-shown.ensures papers), c.requires)

pub returns : goal.returns
returns c =
    let papers = of_papers c.args.listing in
    begun_shown papers c.args.stock.now _ _ _ (passed (nos_of papers c.args.stock.now) c.in_default.ensures) _ (c.show_first-shown.ensures papers) c.put_shown.ensures
