-- `spacing::seek::seek` meets its contract.
use mathlib.Core.Path.{◌≡◌, sym, ◌∙◌}
use native.Mathlib.Omega.{arith}
use Rattle.rules.proofs.Checks.{some_blocks}
use Rattle.walking.proofs.OneMove.{can_be_made}
use Rattle.spacing.proofs.Seeking.{start, checked, at_end, move, at_given, behind, at_found, at_next}
use Rattle.spacing.proofs.seek.seek.Goals as goal
use Rattle.spacing.proofs.seek.seek.Goals.{After-loop-moves}

pub overflow_sub-seen : goal.overflow_sub-seen
overflow_sub-seen c = some_blocks _ _ c.requires.stock c.requires.strip

pub loop-moves-init : goal.loop-moves-init
loop-moves-init c = start _ _ _ _ _ c.requires

-- the strip and the walker at the loop's head are checked
pub find-requires : goal.find-requires
find-requires c = checked _ _ _ _ _ _ _ _ c.requires.stock c.requires.strip c.loop-moves.invariant

pub returns-in_default : goal.returns-in_default
returns-in_default c = at_end _ _ _ _ _ _ _ _ c.requires.stock c.requires.strip c.loop-moves.invariant c.in_default.ensures _ c.after.ensures

-- a move is found, and may be made
pub make-made-requires : goal.make-made-requires
make-made-requires c =
    let p = c.requires in
    can_be_made (checked _ _ _ _ _ _ _ _ p.stock p.strip c.loop-moves.invariant) (move _ _ _ _ _ _ _ _ p.stock p.strip c.loop-moves.invariant _ c.in-Some.ensures)

-- what is known of the strip that the move made
pub last_touching-last-requires : goal.last_touching-last-requires
last_touching-last-requires c =
    behind _ _ _ _ _ _ _ _ c.requires.stock c.requires.strip c.loop-moves.invariant _ c.in-Some.ensures (omega arith) _ _ c.make-made.ensures

pub returns-then-is_apart : goal.returns-then-is_apart
returns-then-is_apart c =
    at_found _ _ _ _ _ _ _ _ c.requires.stock c.requires.strip c.loop-moves.invariant _ c.in-Some.ensures (omega arith) _ _ c.make-made.ensures
    (sym c.is_apart.ensures ∙ c.if-is_apart.true) _ c.after-then-is_apart.ensures

pub loop-moves-preserved : goal.loop-moves-preserved
loop-moves-preserved c =
    rw c.unwrap_or-seen.ensures
    (at_next _ _ _ _ _ _ _ _ c.requires.stock c.requires.strip c.loop-moves.invariant _ c.in-Some.ensures (omega arith) _ _ c.make-made.ensures
    _ c.last_touching-last.ensures (sym c.is_apart.ensures ∙ c.if-is_apart.false))

-- all the given moves are made
all_made : (c : After-loop-moves) → c.args.given ≡ c.loop-moves.moves
all_made c = omega arith

pub find-requires-2 : goal.find-requires-2
find-requires-2 c = checked _ _ _ _ _ _ _ _ c.requires.stock c.requires.strip c.loop-moves.invariant

pub returns-in-None : goal.returns-in-None
returns-in-None c =
    let made = all_made (goal.at.returns-in-None c).After-loop-moves in
    at_end _ _ _ _ _ _ _ _ c.requires.stock c.requires.strip c.loop-moves.invariant c.in-None.ensures _ (rw made at c.after-in-None.ensures)

pub returns-in-Some-find : goal.returns-in-Some-find
returns-in-Some-find c =
    let made = all_made (goal.at.returns-in-Some-find c).After-loop-moves in
    at_given _ _ _ _ _ _ _ _ c.requires.stock c.requires.strip c.loop-moves.invariant _ c.in-Some-find.ensures (sym made) _ (rw made at c.after-in-Some-find.ensures)
