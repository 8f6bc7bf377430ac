-- `counting::first::lay_first` meets its contract: the checks, then strip 0.
use mathlib.Core.Path.{◌∙◌}
use Rattle.rules.specs.Refusals.{buffer_nos}
use Rattle.rules.proofs.Checks.{accepted_buffer}
use Rattle.stock.proofs.Told.{told_error, passed, stopped_left, passed_left}
use Rattle.counting.specs.Answers.{first_after}
use Rattle.counting.proofs.first.lay_first.Goals as goal

pub returns-in_err-check_buffer : goal.returns-in_err-check_buffer
unfolding first_after
returns-in_err-check_buffer c =
    let e = c.in_err-check_buffer.ensures in
    (told_error _ _ c.from_residual.ensures.1 ∙ e, stopped_left (buffer_nos _ _) _ _ _ e)

pub lay_runs-requires : goal.lay_runs-requires
lay_runs-requires c = accepted_buffer _ _ (passed (buffer_nos _ _) c.in_ok-check_buffer.ensures)

pub returns : goal.returns
unfolding first_after
returns c =
    let e = c.in_ok-check_buffer.ensures in
    (e, c.lay_runs.ensures ∙ passed_left (buffer_nos _ _) _ _ e)
