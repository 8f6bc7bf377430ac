-- At every turn the line has room, and the printer is one that gives the next line.
use Rattle.std.proofs.Common.{of_calls, rules}
use mathlib.Core.Path.{◌∙◌}
use Rattle.printing.proofs.Theorems.{first_gives, next_gives}
use Rattle.printout.proofs.each_line.Goals as goal

pub loop-index-init : goal.loop-index-init
loop-index-init g c =
    let f = c.first_line-printed in
    let k = first_gives _ _ _ _ _ f.ensures in
    record { callable = search rules; room = f.auto.line; inside = k.inside; sound = k.sound }

pub loop-index-preserved : goal.loop-index-preserved
loop-index-preserved g c =
    let n = c.next_line in
    let l = c.loop-index in
    let k = next_gives _ _ _ _ l.invariant.sound (rw c.in-Some.is at n.ensures) in
    record { callable = search of_calls; room = n.auto.line ∙ l.invariant.room; inside = k.inside; sound = k.sound }
