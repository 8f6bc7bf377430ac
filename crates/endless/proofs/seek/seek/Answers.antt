-- `endless::seek::seek` meets its contract. The invariant: the steps made lead from the strip lent to the strip as it is now, and none of the strips passed is standing.
use Prim.Native.Nat.{ℕ}
use mathlib.Core.Path.{◌≡◌, refl, sym, ◌∙◌}
use mathlib.Core.List.{List}
use native.Mathlib.Omega.{arith}
use Rattle.rules.specs.Stock.{IsStrip}
use Rattle.endless.proofs.Steps.{Made, made_last, made_stopped, made_found, made_on}
use Rattle.endless.proofs.seek.seek.Goals as goal
use Rattle.endless.proofs.seek.seek.Goals.{After-next_entry-2}

pub returns-then-not-next_entry : goal.returns-then-not-next_entry
returns-then-not-next_entry c counts h =
    let m = c.loop-steps.invariant.1 counts h in
    rw c.after.ensures (made_last counts _ h _ _ _ m _ _ (c.next_entry.ensures counts m.own) c.if-not-next_entry.true (omega arith))

pub returns-then-is_standing : goal.returns-then-is_standing
returns-then-is_standing c counts h =
    let m = c.loop-steps.invariant.1 counts h in
    rw c.after-then-is_standing.ensures (made_found counts _ h _ _ _ m _ _ (c.next_entry.ensures counts m.own) c.if-not-next_entry.false (omega arith) (sym c.is_standing.ensures ∙ c.if-is_standing.true))

pub loop-steps-preserved : goal.loop-steps-preserved
loop-steps-preserved c = (
  c.next_entry.auto.strip ∙ c.loop-steps.invariant.0,
  λ counts h.
      let m = c.loop-steps.invariant.1 counts h in
      made_on counts _ h c.args.given _ _ m _ _ (c.next_entry.ensures counts m.own) c.if-not-next_entry.false (sym c.is_standing.ensures ∙ c.if-is_standing.false),
)

-- all the given steps are made
all_made : (c : After-next_entry-2) (counts : List ℕ) → IsStrip counts c.args.strip.now → Made counts c.args.strip.now c.loop-steps.strip c.args.given
all_made c counts h =
    let e : c.loop-steps.steps ≡ c.args.given = omega arith in
    rw e at (c.loop-steps.invariant.1 counts h)

pub returns-then-not-next_entry-2 : goal.returns-then-not-next_entry-2
returns-then-not-next_entry-2 c counts h =
    let m = all_made (goal.at.returns-then-not-next_entry-2 c).After-next_entry-2 counts h in
    rw c.after-then-not-next_entry-2.ensures (made_last counts _ h _ _ _ m _ _ (c.next_entry-2.ensures counts m.own) c.if-not-next_entry-2.true (omega arith))

pub returns : goal.returns
returns c counts h =
    let m = all_made (goal.at.returns c).After-next_entry-2 counts h in
    rw c.after-2.ensures (made_stopped counts _ h _ _ _ m _ _ (c.next_entry-2.ensures counts m.own) c.if-not-next_entry-2.false refl)
