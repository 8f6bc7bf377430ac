-- `numbering::number::placed` meets its contract: 1 to 6, then 7.
use mathlib.Core.Path.{sym, ◌∙◌}
use Rattle.std.proofs.lemmas.Result.{IfOk-from_err}
use Rattle.stock.proofs.Told.{told_error}
use Rattle.counting.proofs.Held.{few, told_many}
use Rattle.numbering.proofs.Answered as answered
use Rattle.numbering.proofs.number.placed.Goals as goal

pub returns-in_err-check_strip : goal.returns-in_err-check_strip
returns-in_err-check_strip c =
    let r = c.from_residual in
    (told_error r.result _ r.ensures.1 ∙ answered.refused _ _ _ c.in_err-check_strip.ensures, IfOk-from_err r.result _ r.ensures.0)

pub patterns_of-patterns-requires : goal.patterns_of-patterns-requires
patterns_of-patterns-requires c = (answered.good _ _ c.in_ok-check_strip.ensures).0

pub total_of-requires : goal.total_of-requires
total_of-requires c = (c.patterns_of-patterns.ensures, (answered.good _ _ c.in_ok-check_strip.ensures).0)

pub returns-in_err-ok_or : goal.returns-in_err-ok_or
returns-in_err-ok_or c =
    let r = c.from_residual-in_err-ok_or in
    let p = told_many c.args.stock.now r.result c.total_of.ensures c.in_err-ok_or.ensures.value r.ensures.1 in
    (p.1 ∙ answered.many _ _ c.in_ok-check_strip.ensures p.0, IfOk-from_err r.result _ r.ensures.0)

pub number_of-requires : goal.number_of-requires
number_of-requires c =
    let g = answered.good _ _ c.in_ok-check_strip.ensures in
    (c.patterns_of-patterns.ensures, g.0, g.1, (few c.args.stock.now (sym c.in_ok-ok_or.ensures.ok_part ∙ c.total_of.ensures)).0)

pub returns : goal.returns
returns c = (answered.few _ _ c.in_ok-check_strip.ensures (few c.args.stock.now (sym c.in_ok-ok_or.ensures.ok_part ∙ c.total_of.ensures)).0, c.number_of.ensures)
