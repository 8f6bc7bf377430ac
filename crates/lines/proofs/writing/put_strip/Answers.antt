-- The line of a strip: its parts, one after the other.
use Rattle.std.proofs.Common.{rules}
use mathlib.Core.Path.{ap}
use native.Mathlib.Omega.{arith}
use lib.ListN.{length}
use Rattle.lines.specs.Text.{strip_line}
use Rattle.lines.specs.Writing.{Writes}
use Rattle.lines.proofs.Parts.{strip_parts, strip_room}
use Rattle.lines.proofs.Putting.{writes_on}
use Rattle.lines.proofs.writing.put_strip.Goals as goal

pub returns : goal.returns
returns c =
    let r = strip_room c.args.number c.args.strip.now in
    let n = ap length c.begin-text.ensures.bytes in
    let w : Writes c.begin-text.result (strip_line c.args.number c.args.strip.now) c.put_byte-2.new.self =
    rw (strip_parts c.args.number c.args.strip.now)
    (writes_on c.put_decimal.ensures (writes_on c.put_byte.ensures (writes_on c.put_kinds.ensures c.put_byte-2.ensures (omega arith)) (omega arith)) (omega arith)) in
    search (rules, w)
