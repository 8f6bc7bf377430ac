-- `drawers::next::step` meets its contract: 1 to 6, then the step, and 9 where there is none.
use mathlib.Core.Path.{ap, ◌∙◌}
use native.Mathlib.Omega.{arith}
use Rattle.rules.proofs.Checks.{some_block}
use Rattle.rules.proofs.Strips.{strip_sum}
use Rattle.stock.specs.Refused.{no_of}
use Rattle.stock.proofs.Told.{told_error}
use Rattle.drawers.proofs.Steps.{refused, good, ended, stepped}
use Rattle.drawers.proofs.next.step.Goals as goal

pub returns-in_err-check_strip : goal.returns-in_err-check_strip
returns-in_err-check_strip c =
    let e = refused _ _ _ c.in_err-check_strip.ensures in
    (told_error _ _ c.from_residual.ensures.1 ∙ e.0, e.1)

pub next_entry-requires : goal.next_entry-requires
next_entry-requires c =
    let g = good _ _ c.in_ok-check_strip.ensures in
    omega (arith, strip_sum _ _ g.1, some_block _ g.0)

pub returns-then-not-next_entry : goal.returns-then-not-next_entry
returns-then-not-next_entry c =
    let n = c.next_entry in
    let z = c.in_ok-check_strip.ensures in
    let e = ended _ _ z n.result n.new.strip (n.ensures _ (good _ _ z).1) c.if-not-next_entry.true in
    (ap no_of c.at.ensures ∙ e.0, e.1)

pub returns : goal.returns
returns c =
    let n = c.next_entry in
    let z = c.in_ok-check_strip.ensures in
    stepped _ _ z n.result n.new.strip (n.ensures _ (good _ _ z).1) c.if-not-next_entry.false
