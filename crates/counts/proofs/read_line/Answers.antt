-- `counts::read_line` meets its contract: the line feed, then the counts before it.
use mathlib.Core.Path.{sym, ap, ◌∙◌}
use Rattle.counts.specs.Reading.{line_read}
use Rattle.counts.proofs.ReadOn.{no_feed, with_feed}
use Rattle.counts.proofs.read_line.Goals as goal

pub returns-then-end-ne10 : goal.returns-then-end-ne10
returns-then-end-ne10 c =
    let e = c.in_ok-end.ensures.cases.0 in
    let h = rw e at c.if-input-gt255.false in
    rw e (ap line_read (sym (no_feed c.in_ok-end.line.now c.in_ok-end.end.now h c.if-end-ne10.true)))

pub returns : goal.returns
returns c =
    let e = c.in_ok-end.ensures.cases.0 in
    let h = rw e at c.if-input-gt255.false in
    c.read_counts.ensures ∙ rw e (ap line_read (sym (with_feed c.in_ok-end.line.now c.in_ok-end.end.now h c.if-end-ne10.false)))
