-- `counting::totals::check_number` meets its contract.
use mathlib.Core.Path.{sym, ap, ◌∙◌}
use native.Mathlib.Omega.{arith}
use Rattle.rules.specs.Refusals.{first_of}
use Rattle.rules.proofs.Refusals.{many_refused, many_passed, above_refused, above_passed}
use Rattle.stock.specs.Refused.{no_of}
use Rattle.counting.proofs.Held.{few, told_many}
use Rattle.counting.proofs.totals.check_number.Goals as goal

pub returns-in_err-strips : goal.returns-in_err-strips
unfolding first_of
returns-in_err-strips c =
    let p = told_many c.args.stock.now c.from_residual.result c.requires c.in_err-strips.ensures.value c.from_residual.ensures.1 in
    rw (many_refused c.args.stock.now p.0) p.1

pub returns-then-strips-number : goal.returns-then-strips-number
unfolding first_of
returns-then-strips-number c =
    let p = few c.args.stock.now (sym c.in_ok-strips.ensures.ok_part ∙ c.requires) in
    rw (many_passed c.args.stock.now p.0, above_refused c.args.stock.now c.args.number (omega arith)) (ap no_of c.at.ensures)

pub returns : goal.returns
unfolding first_of
returns c =
    let p = few c.args.stock.now (sym c.in_ok-strips.ensures.ok_part ∙ c.requires) in
    rw (many_passed c.args.stock.now p.0, above_passed c.args.stock.now c.args.number (omega arith))
