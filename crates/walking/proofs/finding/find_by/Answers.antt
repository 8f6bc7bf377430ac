-- `walking::finding::find_by` meets its contract. The invariant: the blocks of the kinds that are left are a part of the strip, and the move is theirs.
use Prim.Native.Nat.{◌+◌, ◌-◌}
use mathlib.Core.Path.{◌≡◌, sym, ap}
use mathlib.Core.Bool.{false, not, beq}
use native.Mathlib.Omega.{arith}
use lib.ListN.{length, get_or}
use Rattle.std.proofs.Common.{rules}
use Rattle.rules.proofs.Listed.{differs}
use Rattle.rules.proofs.Descent.{start, end}
use Rattle.walking.specs.Checked.{found}
use Rattle.walking.proofs.OneKind.{Turn, turn}
use Rattle.walking.proofs.finding.find_by.Given.{Over}
use Rattle.walking.proofs.finding.find_by.Goals as goal
use Rattle.walking.proofs.finding.find_by.Goals.{In-loop-j}

-- the turn that the last kind left takes
at : (g : Over) (c : In-loop-j g) → let a = c.args in let l = c.loop-j in
    Turn a.back a.stock.now a.strip.now (not (beq (get_or a.walker.back (l.j - 1) false) a.back)) (l.j - 1 + 1) (l.j - 1) l.lo l.hi
at g c =
    turn c.args.back _ _ _ c.requires.checked _ _ _ c.loop-j-test.true c.loop-j.invariant _ (differs (get_or c.args.walker.back (c.loop-j.j - 1) false) c.args.back)

pub loop-j-init : goal.loop-j-init
loop-j-init g c = start _ _ _ c.requires.checked.strip

pub overflow_sub-hi-in-loop-j : goal.overflow_sub-hi-in-loop-j
overflow_sub-hi-in-loop-j g c = omega (arith, (at g (goal.at.overflow_sub-hi-in-loop-j g c).In-loop-j).fits)

pub step-requires : goal.step-requires
step-requires g c =
    let t = at g (goal.at.step-requires g c).In-loop-j in
    search rules

pub overflow_add-result : goal.overflow_add-result
overflow_add-result g c =
    let t = at g (goal.at.overflow_add-result g c).In-loop-j in
    omega (arith, (t.moves _ (c.requires.told _ _ _ _ _ t.others c.in-Some.ensures)).0)

pub overflow_add-result-in-Some : goal.overflow_add-result-in-Some
overflow_add-result-in-Some g c =
    let t = at g (goal.at.overflow_add-result-in-Some g c).In-loop-j in
    omega (arith, (t.moves _ (c.requires.told _ _ _ _ _ t.others c.in-Some.ensures)).1)

pub returns-in-Some : goal.returns-in-Some
returns-in-Some g c =
    let t = at g (goal.at.returns-in-Some g c).In-loop-j in
    (t.moves _ (c.requires.told _ _ _ _ _ t.others c.in-Some.ensures)).2

pub overflow_sub-hi-then-heading : goal.overflow_sub-hi-then-heading
overflow_sub-hi-then-heading g c = omega (arith, (at g (goal.at.overflow_sub-hi-then-heading g c).In-loop-j).fits)

pub loop-j-preserved-then-heading : goal.loop-j-preserved-then-heading
loop-j-preserved-then-heading g c =
    let t = at g (goal.at.loop-j-preserved-then-heading g c).In-loop-j in
    t.past_back (c.requires.told _ _ _ _ _ t.others c.in_default.ensures) c.if-heading.true

pub loop-j-preserved : goal.loop-j-preserved
loop-j-preserved g c =
    let t = at g (goal.at.loop-j-preserved g c).In-loop-j in
    t.past_front (c.requires.told _ _ _ _ _ t.others c.in_default.ensures) c.if-heading.false

pub returns : goal.returns
returns g c =
    let z : c.loop-j.j ≡ 0 = omega arith in
    ap (found (length c.args.stock.now)) (sym (end c.args.back _ _ c.requires.checked.strip _ _ (rw z at c.loop-j.invariant)))
