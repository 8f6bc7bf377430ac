-- `forms::long::check_and_write` meets its contract: refused by 1 to 6, or as checked input is answered.
use Rattle.rules.specs.Refusals.{check_nos}
use Rattle.rules.proofs.Checks.{accepted_both}
use Rattle.stock.proofs.Told.{passed}
use Rattle.sheets.proofs.Called.{refused}
use Rattle.forms.proofs.long.check_and_write.Goals as goal

pub returns-in_err-check_strip : goal.returns-in_err-check_strip
returns-in_err-check_strip c = refused _ _ _ _ _ _ _ _ c.from_residual.ensures.1 c.in_err-check_strip.ensures

pub write_form-requires : goal.write_form-requires
write_form-requires c = accepted_both _ _ (passed (check_nos _ _) c.in_ok-check_strip.ensures)
