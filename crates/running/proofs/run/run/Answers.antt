-- `running::run::run` meets its contract: 1 to 6 and 10 refuse, or the loop runs.
use mathlib.Core.Bool.{false}
use mathlib.Core.Path.{ap, ◌∙◌}
use Rattle.std.proofs.Common.{rules}
use Rattle.stock.specs.declared.refused.Refusal.{Refusal}
use Rattle.walking.proofs.Called.{checked}
use Rattle.running.specs.declared.run.Ran.{Ran}
use Rattle.running.proofs.Refused.{refused, run}
use Rattle.running.proofs.run.run.Goals as goal

pub returns-in-Err : goal.returns-in-Err
returns-in-Err c =
    let stays = refused c.args.back _ _ c.args.list.now _ _ c.in-Err.ensures in
    let answer : Refusal → Ran = λ r. record { refusal = r; moves = 0; ended = false; walker = c.args.walker } in
    (ap answer c.into.ensures ∙ stays.0, stays.1, stays.2)

pub run_checked-requires : goal.run_checked-requires
run_checked-requires c = checked _ _ _ c.in_default.ensures (search rules)

pub returns : goal.returns
returns c = run _ _ _ _ _ c.in_default.ensures _ _ _ c.run_checked.ensures
