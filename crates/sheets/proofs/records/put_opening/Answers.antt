-- `sheets::records::put_opening` meets its contract: the sheet is filled record by record.
use native.Mathlib.Omega.{arith}
use Rattle.sheets.proofs.Rest.{first, more}
use Rattle.sheets.proofs.records.put_opening.Goals as goal

pub returns : goal.returns
returns c =
    let room = c.requires.2 in
    let stocked = first _ _ _ 17 (omega (arith, room)) c.put_stock.auto.rest c.put_stock.ensures in
    (more _ _ _ 17 stocked 65 c.put_strip.new.rest _ room c.put_strip.auto.rest c.put_strip.ensures).put
