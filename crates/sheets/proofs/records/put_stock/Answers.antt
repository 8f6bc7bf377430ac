-- `sheets::records::put_stock` meets its contract.
use mathlib.Core.Path.{◌∙◌}
use native.Mathlib.Omega.{arith}
use Rattle.rules.proofs.Prefixes.{count_below}
use Rattle.sheets.specs.Sheets.{stock_record}
use Rattle.sheets.proofs.Bodies.{padded_copy, padded_record}
use Rattle.sheets.proofs.records.put_stock.Goals as goal

pub overflow_cast-body : goal.overflow_cast-body
overflow_cast-body c = record { fits = omega (arith, count_below c.args.stock.now c.loop-i.i, c.requires.0.short) }

pub returns : goal.returns
unfolding stock_record
returns c =
    let a = c.args in
    padded_record 16 1 a.stock.now _ a.rest.now _ c.requires.0.few (c.loop-i.invariant ∙ padded_copy 16 a.stock.now c.loop-i.i (omega arith)) c.put_record.ensures
