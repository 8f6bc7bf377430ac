-- `sheets::records::put_strip` meets its contract.
use Rattle.sheets.specs.Sheets.{padded, strip_record}
use Rattle.sheets.proofs.Bodies.{padded_record}
use Rattle.sheets.proofs.records.put_strip.Goals as goal

pub returns : goal.returns
unfolding strip_record padded
returns c =
    padded_record 64 2 c.args.strip.now _ c.args.rest.now _ c.requires.0 c.copied.ensures c.put_record.ensures
