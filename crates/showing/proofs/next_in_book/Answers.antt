-- `showing::next_in_book` meets its contract.
use mathlib.Core.Path.{◌≡◌, sym, ◌∙◌}
use native.Mathlib.Omega.{arith}
use Rattle.rules.specs.Stock.{sum}
use Rattle.showing.proofs.NextInBook.{ready, counted, no_step, stepped}
use Rattle.showing.proofs.next_in_book.Goals as goal
use Rattle.showing.proofs.next_in_book.Goals.{After-blocks-n}

n_is : (c : After-blocks-n) → c.blocks-n.result ≡ sum c.args.stock.now
n_is c = omega (arith, c.blocks-n.ensures, c.requires.0.stock.short)

pub step-requires : goal.step-requires
step-requires c = rw (n_is (goal.at.step-requires c).After-blocks-n) (ready _ _ c.requires.0)

pub returns-in_err-made : goal.returns-in_err-made
returns-in_err-made c =
    let p = rw (n_is (goal.at.returns-in_err-made c).After-blocks-n) at c.step.ensures in
    c.from_residual.ensures ∙ sym (no_step _ _ c.requires.0 _ (sym c.in_err-made.was ∙ p.0, p.1))

pub returns : goal.returns
returns c =
    let e = n_is (goal.at.returns c).After-blocks-n in
    let p = rw e at c.step.ensures in
    rw e (stepped _ _ c.requires.0 _ c.in_ok-made.made (sym c.in_ok-made.was ∙ p.0, p.1) c.requires.1)

pub overflow_add-result : goal.overflow_add-result
overflow_add-result c = omega (arith, counted _ _ c.requires.0, c.requires.1)
