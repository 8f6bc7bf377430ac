-- `sheets::records::put_stock` meets its contract.
use lib.Seq.{paste}
use mathlib.Core.Path.{◌≡◌}
use Rattle.sheets.proofs.records.put_stock.Given as goal

abbrev pub invariant-loop-i : goal.invariant-loop-i
invariant-loop-i l = l.body ≡ paste l.initial.body 0 l.stock l.i
