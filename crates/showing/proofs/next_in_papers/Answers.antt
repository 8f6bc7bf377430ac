-- `showing::next_in_papers` meets its contract.
use mathlib.Core.Path.{◌≡◌, sym}
use native.Mathlib.Omega.{arith}
use Rattle.rules.specs.Stock.{sum}
use Rattle.showing.proofs.NextInPapers.{small, steps_few, none_found, found}
use Rattle.showing.proofs.next_in_papers.Goals as goal
use Rattle.showing.proofs.next_in_papers.Goals.{After-blocks-n}

n_is : (c : After-blocks-n) → c.blocks-n.result ≡ sum c.args.stock.now
n_is c = omega (arith, c.blocks-n.ensures, c.requires.0.stock.short)

pub returns-then-stepped-ne1 : goal.returns-then-stepped-ne1
returns-then-stepped-ne1 c =
    let h = c.requires.0 in
    let p = rw (n_is (goal.at.returns-then-stepped-ne1 c).After-blocks-n) at c.next_paper-stepped.ensures in
    sym (none_found _ _ h _ (omega (arith, small _ _ h)) c.next_paper-stepped.result p.0 (omega arith))

pub overflow_add-result : goal.overflow_add-result
overflow_add-result c =
    let h = c.requires.0 in
    let p = rw (n_is (goal.at.overflow_add-result c).After-blocks-n) at c.next_paper-stepped.ensures in
    omega (arith, steps_few _ _ h _ (omega (arith, small _ _ h)) c.next_paper-stepped.result p.0)

pub returns : goal.returns
returns c =
    let h = c.requires.0 in
    let e = n_is (goal.at.returns c).After-blocks-n in
    let p = rw e at c.next_paper-stepped.ensures in
    rw e (found _ _ h _ (omega (arith, small _ _ h)) c.next_paper-stepped.result p.0 _ p.1 (omega arith) c.requires.1)

pub overflow_sub-given : goal.overflow_sub-given
overflow_sub-given c = omega (arith, small _ _ c.requires.0)
