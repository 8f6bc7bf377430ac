-- `printing::printer::first_line` meets its contract: unreadable, or the first line of the stock.
use mathlib.Core.Path.{sym, ◌∙◌}
use Rattle.showing.specs.States.{of_papers}
use Rattle.printing.proofs.Answering.{first_printed, begun_unreadable, begun_stock}
use Rattle.printing.proofs.printer.first_line.Goals as goal
use Rattle.printing.proofs.printer.first_line.Goals.{in-Some, in-None}

pub returns : goal.returns
returns c =
    first_printed c.args.listing c.args.input.now c.args.line.now c.match-read.line c.read_line-read.result c.match-read.begun c.read_line-read.ensures
    (elim c.match-read.branch [
      | in-Some w ↦
          rw (w.line-is, w.begun-is)
          (begun_stock (of_papers c.args.listing) c.args.input.now c.args.line.now _ _ _ (sym w.in-Some.is ∙ c.read_line-read.ensures) (rw w.as_slice.ensures at w.begin-begun.ensures))
      | in-None w ↦
          rw (w.line-is, w.begun-is) (begun_unreadable (of_papers c.args.listing) c.args.input.now c.args.line.now _ _ (sym w.in-None.is ∙ c.read_line-read.ensures) w.put_unreadable.ensures)
    ])
