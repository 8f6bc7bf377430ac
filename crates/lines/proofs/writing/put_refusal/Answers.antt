-- The line of a refusal: its parts, one after the other.
use Rattle.std.proofs.Common.{rules}
use mathlib.Core.Path.{ap}
use native.Mathlib.Omega.{arith}
use lib.ListN.{length}
use Rattle.lines.specs.Text.{refused_line}
use Rattle.lines.specs.Writing.{Writes}
use Rattle.lines.proofs.Parts.{refused_parts, refused_room}
use Rattle.lines.proofs.Putting.{writes_on}
use Rattle.lines.proofs.writing.put_refusal.Goals as goal

pub returns : goal.returns
returns c =
    let r = refused_room (c.args.refusal.no, c.args.refusal.place) in
    let n = ap length c.begin-text.ensures.bytes in
    let no = rw c.from.ensures at c.put_decimal.ensures in
    let w : Writes c.begin-text.result (refused_line (c.args.refusal.no, c.args.refusal.place)) c.put_byte-2.new.self =
    rw (refused_parts (c.args.refusal.no, c.args.refusal.place))
    (writes_on c.put_word.ensures (writes_on no (writes_on c.put_byte.ensures (writes_on c.put_decimal-2.ensures c.put_byte-2.ensures (omega arith)) (omega arith)) (omega arith)) (omega arith)) in
    search (rules, w)
