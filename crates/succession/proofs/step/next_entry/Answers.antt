-- `succession::step::next_entry` meets its contract.
use native.Mathlib.Omega.{arith}
use Rattle.std.proofs.lemmas.Grind.{common_steps}
use Rattle.succession.proofs.Steps.{at_end, advanced}
use Rattle.succession.proofs.step.next_entry.Goals as goal

pub returns-in_default : goal.returns-in_default
returns-in_default c counts h = at_end counts c.args.strip.now h c.in_default.ensures

pub returns : goal.returns
returns c counts h =
    let l = c.last_above-higher in
    advanced c.args.strip.now c.in-Some.at l.result (omega (arith, l.ensures.0)) l.ensures.1 c.in-Some.ensures.2 l.ensures.2 l.ensures.3 counts c.swap.new.self _ h c.swap.ensures.after (grind (arith, common_steps))
