-- `drawers::strip::lay_entry` meets its contract: 1 to 4, then 7 and 8, then the strip.
use mathlib.Core.Path.{◌≡◌, refl, sym, ◌∙◌}
use native.Mathlib.Omega.{arith}
use Rattle.std.specs.Prelude.{Some}
use Rattle.rules.specs.Stock.{total}
use Rattle.stock.proofs.Told.{told_error, stopped_left, passed_left}
use Rattle.counting.proofs.Held.{some_held}
use Rattle.numbering.specs.Answers.{by_number_nos}
use Rattle.numbering.proofs.Written as written
use Rattle.drawers.specs.Answers.{dictionary_strip_after}
use Rattle.drawers.proofs.strip.lay_entry.Goals as goal
use Rattle.drawers.proofs.strip.lay_entry.Goals.{In_ok-check_number}

-- the total that is known once 7 and 8 are passed
total_is : (c : In_ok-check_number) → c.total_of-strips.result ≡ Some (total c.args.stock.now)
total_is c = c.total_of-strips.ensures ∙ sym (some_held _ (written.in_range _ _ c.in_ok-check_number.ensures).0)

pub returns-in_err-check_buffer : goal.returns-in_err-check_buffer
unfolding dictionary_strip_after
returns-in_err-check_buffer c =
    let a = c.args in
    let e = written.refused a.stock.now a.number a.buffer.now _ c.in_err-check_buffer.ensures in
    (told_error _ _ c.from_residual.ensures.1 ∙ e, stopped_left (by_number_nos _ _ _) _ _ _ e)

pub patterns_of-requires : goal.patterns_of-requires
patterns_of-requires c = (written.good _ c.args.number _ c.in_ok-check_buffer.ensures).0

pub total_of-strips-requires : goal.total_of-strips-requires
total_of-strips-requires c = (c.patterns_of.ensures, (written.good _ c.args.number _ c.in_ok-check_buffer.ensures).0)

pub check_number-requires : goal.check_number-requires
check_number-requires c = c.total_of-strips.ensures

pub returns-in_err-check_number : goal.returns-in_err-check_number
unfolding dictionary_strip_after
returns-in_err-check_number c =
    let a = c.args in
    let e = written.decided a.stock.now a.number a.buffer.now c.in_ok-check_buffer.ensures _ c.in_err-check_number.ensures in
    (told_error _ _ c.from_residual-in_err-check_number.ensures.1 ∙ e, stopped_left (by_number_nos _ _ _) _ _ _ e)

pub unwrap-requires : goal.unwrap-requires
unwrap-requires c = rw (total_is (goal.at.unwrap-requires c).In_ok-check_number) refl

pub strip_at-requires : goal.strip_at-requires
strip_at-requires c =
    let g = written.good _ c.args.number _ c.in_ok-check_buffer.ensures in
    let r = written.in_range _ _ c.in_ok-check_number.ensures in
    let e : c.unwrap.result ≡ total c.args.stock.now = let t = total_is (goal.at.strip_at-requires c).In_ok-check_number in let u = c.unwrap.ensures in cc in
    (g.0, e, g.1, omega (arith, r.1, e))

pub returns : goal.returns
unfolding dictionary_strip_after
returns c =
    let a = c.args in
    let e = written.decided a.stock.now a.number a.buffer.now c.in_ok-check_buffer.ensures _ c.in_ok-check_number.ensures in
    (e, c.strip_at.ensures ∙ passed_left (by_number_nos _ _ _) _ _ e)
