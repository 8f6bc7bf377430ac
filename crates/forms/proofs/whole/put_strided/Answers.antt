-- `forms::whole::put_strided` meets its contract: the sheet is filled record by record.
use mathlib.Core.Path.{refl, ◌∙◌}
use mathlib.Core.List.{◌++◌, append_assoc}
use native.Mathlib.Omega.{arith}
use Rattle.sheets.specs.Sheets.{stock_record, strip_record, end_record}
use Rattle.sheets.proofs.Rest.{first, more}
use Rattle.strides.specs.Strides.{stride_record}
use Rattle.forms.proofs.whole.put_strided.Goals as goal

pub returns : goal.returns
returns c =
    let a = c.args in
    let room = c.requires.2 in
    let opened = first _ _ _ 82 (omega (arith, room)) c.put_opening.auto.rest c.put_opening.ensures in
    let strode = more _ _ _ 82 opened 9 c.put_stride.new.rest _ (omega (arith, room)) c.put_stride.auto.rest c.put_stride.ensures in
    let ended = more _ _ _ 91 strode 1 c.put_end.new.rest end_record room c.put_end.auto.rest c.put_end.ensures in
    let opening = stock_record a.stock.now ++ strip_record a.strip.now in
    ended.put ∙ rw (append_assoc opening (stride_record a.moves) end_record, append_assoc (stock_record a.stock.now) (strip_record a.strip.now) (stride_record a.moves ++ end_record)) refl
