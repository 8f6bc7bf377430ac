-- `comparing::earlier::earlier` meets its contract: what the comparison comes to names the lent strip.
use mathlib.Core.Path.{refl}
use Rattle.comparing.proofs.Handed.{handed_none, handed_named}
use Rattle.comparing.proofs.earlier.earlier.Goals as goal

pub returns-in-Ok-Some : goal.returns-in-Ok-Some
returns-in-Ok-Some c = handed_named _ _ _ _ c.in-Ok-Some.ensures _ (rw c.in-Ok-Some.field-0-is c.of.ensures)

pub returns-in-Ok-None : goal.returns-in-Ok-None
returns-in-Ok-None c = handed_named _ _ _ _ c.in-Ok-None.ensures _ (rw c.in-Ok-None.field-0-is refl)

pub returns-in-Err : goal.returns-in-Err
returns-in-Err c = handed_none _ _ _ _ c.in-Err.ensures _ (refl, refl)
