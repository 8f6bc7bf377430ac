-- `walking::walk::walk_checked` meets its contract: 1 to 6 and 10 refuse, or what was found decides.
use mathlib.Core.Path.{ap, ◌∙◌}
use Rattle.std.proofs.Common.{rules}
use Rattle.stock.specs.Refused.{no_of}
use Rattle.stock.proofs.Told.{told_error}
use Rattle.walking.specs.Checked.{Checked}
use Rattle.walking.proofs.Called.{checked, refused, kept, not_moved, moved}
use Rattle.walking.proofs.walk.walk_checked.Goals as goal
use Rattle.walking.proofs.walk.walk_checked.Goals.{In_ok-check_walker}

-- none of 1 to 6 and 10 refuses
ready : (c : In_ok-check_walker) → let a = c.args in Checked a.stock.now a.strip.now a.walker
ready c = checked _ _ _ c.in_ok-check_walker.ensures (search rules)

pub returns-in_err-check_walker-clause-refused : goal.returns-in_err-check_walker-clause-refused
returns-in_err-check_walker-clause-refused c =
    told_error _ _ c.from_residual.ensures.1 ∙ refused c.args.back _ _ _ _ c.in_err-check_walker.ensures

pub returns-in_err-check_walker-clause-left : goal.returns-in_err-check_walker-clause-left
returns-in_err-check_walker-clause-left c = kept c.args.back _ _ _ _ c.in_err-check_walker.ensures

pub find_by_rule-m-requires : goal.find_by_rule-m-requires
find_by_rule-m-requires c = ready (goal.at.find_by_rule-m-requires c).In_ok-check_walker

pub make_any-requires : goal.make_any-requires
make_any-requires c = (ready (goal.at.make_any-requires c).In_ok-check_walker, (_, c.find_by_rule-m.ensures))

pub returns-in-Some : goal.returns-in-Some
returns-in-Some c =
    let m = moved c.args.back _ _ _ c.in_ok-check_walker.ensures _ _ (c.in-Some.ensures _ c.find_by_rule-m.ensures) in
    record { refused = m.0; made = m.1; left = m.2 }

pub returns-in-None : goal.returns-in-None
returns-in-None c =
    let m = not_moved c.args.back _ _ _ c.in_ok-check_walker.ensures _ (c.in-None.ensures _ c.find_by_rule-m.ensures) in
    record { refused = ap no_of c.at.ensures ∙ m.0; made = search rules; left = m.1 }
