-- `comparing::order::check_and_compare` meets its contract: the checks of both strips, then the comparison.
use Rattle.rules.specs.Refusals.{pair_nos}
use Rattle.rules.proofs.Checks.{accepted_pair}
use Rattle.stock.proofs.Told.{passed}
use Rattle.comparing.proofs.Checked.{compared_refused, compared_passed}
use Rattle.comparing.proofs.order.check_and_compare.Goals as goal

pub returns-in_err-check_pair : goal.returns-in_err-check_pair
returns-in_err-check_pair c = compared_refused _ _ _ _ _ c.from_residual.ensures.1 c.in_err-check_pair.ensures

pub compare-requires : goal.compare-requires
compare-requires c =
    let a = accepted_pair _ _ _ (passed (pair_nos _ _ _) c.in_ok-check_pair.ensures) in
    (a.0, a.1, a.2)

pub returns : goal.returns
returns c = compared_passed _ _ _ c.in_ok-check_pair.ensures _ c.compare.ensures.0 c.compare.ensures.1
