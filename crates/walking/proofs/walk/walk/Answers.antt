-- `walking::walk::walk` meets its contract: the move that was made, or why there is none.
use mathlib.Core.Path.{ap, ◌∙◌}
use Rattle.stock.specs.declared.refused.Refusal.{Refusal}
use Rattle.walking.specs.declared.Moved.{Moved}
use Rattle.walking.proofs.Called.{walk_refused, walk_moved}
use Rattle.walking.proofs.walk.walk.Goals as goal

pub returns-in-Ok : goal.returns-in-Ok
returns-in-Ok c = (walk_moved c.args.back _ _ _ c.in-Ok.ensures.refused _ c.in-Ok.ensures.made, c.in-Ok.ensures.left)

pub returns-in-Err : goal.returns-in-Err
returns-in-Err c =
    let refused : Refusal → Moved = λ r. record { refusal = r; low = 0; high = 0; walker = c.args.walker } in
    (ap refused c.into.ensures ∙ walk_refused c.args.back _ _ _ _ c.in-Err.ensures.refused, c.in-Err.ensures.left)
