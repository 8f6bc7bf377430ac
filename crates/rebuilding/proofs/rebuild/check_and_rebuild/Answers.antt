-- `rebuilding::rebuild::check_and_rebuild` meets its contract: by its length, by its first two records, or by what they hold.
use native.Mathlib.Omega.{arith}
use Rattle.rebuilding.proofs.Called.{too_short, records_refused, sound}
use Rattle.rebuilding.proofs.rebuild.check_and_rebuild.Goals as goal

pub returns-then-sheet-lt82 : goal.returns-then-sheet-lt82
returns-then-sheet-lt82 c = too_short _ _ (omega arith) _ c.at.ensures

pub returns-in_err-opening : goal.returns-in_err-opening
returns-in_err-opening c = records_refused _ _ (omega arith) _ c.in_err-opening.ensures _ c.from_residual.ensures.1

pub rebuild_from-requires : goal.rebuild_from-requires
rebuild_from-requires c = rw (c.stock.ensures, c.strip.ensures) (sound _ _ c.in_ok-opening.ensures)
