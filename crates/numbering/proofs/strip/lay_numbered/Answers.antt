-- `numbering::strip::lay_numbered` meets its contract: 1 to 4, then 7 and 8, then the strip.
use mathlib.Core.Path.{◌∙◌}
use Rattle.stock.proofs.Told.{told_error, stopped_left, passed_left}
use Rattle.numbering.specs.Answers.{by_number_nos, strip_after}
use Rattle.numbering.proofs.Written as written
use Rattle.numbering.proofs.strip.lay_numbered.Goals as goal

pub returns-in_err-check_buffer : goal.returns-in_err-check_buffer
unfolding strip_after
returns-in_err-check_buffer c =
    let a = c.args in
    let e = written.refused a.stock.now a.number a.buffer.now _ c.in_err-check_buffer.ensures in
    (told_error _ _ c.from_residual.ensures.1 ∙ e, stopped_left (by_number_nos _ _ _) _ _ _ e)

pub patterns_of-patterns-requires : goal.patterns_of-patterns-requires
patterns_of-patterns-requires c = (written.good _ c.args.number _ c.in_ok-check_buffer.ensures).0

pub total_of-requires : goal.total_of-requires
total_of-requires c = (c.patterns_of-patterns.ensures, (written.good _ c.args.number _ c.in_ok-check_buffer.ensures).0)

pub check_number-requires : goal.check_number-requires
check_number-requires c = c.total_of.ensures

pub returns-in_err-check_number : goal.returns-in_err-check_number
unfolding strip_after
returns-in_err-check_number c =
    let a = c.args in
    let e = written.decided a.stock.now a.number a.buffer.now c.in_ok-check_buffer.ensures _ c.in_err-check_number.ensures in
    (told_error _ _ c.from_residual-in_err-check_number.ensures.1 ∙ e, stopped_left (by_number_nos _ _ _) _ _ _ e)

pub strip_of-requires : goal.strip_of-requires
strip_of-requires c =
    let g = written.good _ c.args.number _ c.in_ok-check_buffer.ensures in
    (c.patterns_of-patterns.ensures, g.0, g.1, (written.in_range _ _ c.in_ok-check_number.ensures).1)

pub returns : goal.returns
unfolding strip_after
returns c =
    let a = c.args in
    let e = written.decided a.stock.now a.number a.buffer.now c.in_ok-check_buffer.ensures _ c.in_ok-check_number.ensures in
    (e, c.strip_of.ensures ∙ passed_left (by_number_nos _ _ _) _ _ e)
