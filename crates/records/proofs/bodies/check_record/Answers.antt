-- `records::bodies::check_record` meets its contract, case by case.
use mathlib.Core.Path.{ap, ◌∙◌}
use native.Mathlib.Omega.{arith}
use Rattle.stock.specs.Refused.{no_of}
use Rattle.records.proofs.BodyLaws.{record_short, record_other, record_there}
use Rattle.records.proofs.bodies.check_record.Goals as goal
use Rattle.records.proofs.bodies.check_record.Goals.{then-sheet-at-via-then-sheet-at, then-sheet-at-via-else-sheet-at+then-sheet-at-2, then-sheet-at-via-else-sheet-at+else-sheet-at-2+then-sheet-at-3}

pub returns-then-sheet-at : goal.returns-then-sheet-at
returns-then-sheet-at c =
    ap no_of c.at.ensures ∙ elim c.then-sheet-at.branch [
      | then-sheet-at-via-then-sheet-at w ↦ record_short _ _ _ _ (omega arith)
      | then-sheet-at-via-else-sheet-at+then-sheet-at-2 w ↦ record_other _ _ _ _ w.if-sheet-at-2.true
      | then-sheet-at-via-else-sheet-at+else-sheet-at-2+then-sheet-at-3 w ↦ record_short _ _ _ _ (omega arith)
    ]

pub returns : goal.returns
returns c = record_there _ _ _ _ c.if-sheet-at-2.false (omega arith)
