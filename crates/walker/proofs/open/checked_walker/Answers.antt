-- `walker::open::checked_walker` meets its contract: what is accepted has a walker.
use Rattle.rules.specs.Refusals.{check_nos}
use Rattle.rules.proofs.Checks.{accepted_both}
use Rattle.stock.proofs.Told.{passed}
use Rattle.walker.proofs.open.checked_walker.Goals as goal

pub walker_of-requires : goal.walker_of-requires
walker_of-requires c = let b = accepted_both _ _ (passed (check_nos _ _) c.in_ok-check_strip.ensures) in (b.0, b.1)
