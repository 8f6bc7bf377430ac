-- `following::sheet_moves::check_end` meets its contract: something follows, or nothing.
use mathlib.Core.Path.{ap, ◌∙◌}
use native.Mathlib.Omega.{arith}
use Rattle.stock.specs.Refused.{no_of}
use Rattle.following.proofs.Steps.{end_more, end_last}
use Rattle.following.proofs.sheet_moves.check_end.Goals as goal

pub returns-then-next-sheet : goal.returns-then-next-sheet
returns-then-next-sheet c = ap no_of c.at.ensures ∙ end_more c.args.at c.args.sheet.now (omega arith)

pub returns : goal.returns
returns c = end_last c.args.at c.args.sheet.now (omega arith)
