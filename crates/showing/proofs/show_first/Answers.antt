-- `showing::show_first` meets its contract.
use mathlib.Core.Path.{◌≡◌}
use native.Mathlib.Omega.{arith}
use lib.ListN.{drop, replicate, length-append}
use Rattle.rules.specs.Stock.{sum}
use Rattle.showing.proofs.First.{room, length_0, own_part, first_shown}
use Rattle.showing.proofs.show_first.Goals as goal
use Rattle.showing.proofs.show_first.Goals.{After-blocks-n}

n_is : (c : After-blocks-n) → c.blocks-n.result ≡ sum c.args.stock.now
n_is c = omega (arith, c.blocks-n.ensures, c.requires.short)

pub slice_bounds-first-end : goal.slice_bounds-first-end
slice_bounds-first-end c = room c.args.stock.now c.requires c.blocks-n.result (n_is (goal.at.slice_bounds-first-end c).After-blocks-n)

pub slice_bounds-strip-end-2 : goal.slice_bounds-strip-end-2
slice_bounds-strip-end-2 c =
    let f = c.first in
    omega (arith, length_0 c.args.stock.now c.requires c.blocks-n.result (n_is (goal.at.slice_bounds-strip-end-2 c).After-blocks-n) f.new.buffer f.ensures.1, length-append f.new.buffer (drop c.blocks-n.result (replicate 64 0)))

pub walker_of-walker-requires : goal.walker_of-walker-requires
walker_of-walker-requires c =
    (c.requires, own_part c.args.stock.now c.requires c.blocks-n.result (n_is (goal.at.walker_of-walker-requires c).After-blocks-n) c.first.new.buffer c.first.ensures.1)

pub returns : goal.returns
returns c =
    let f = c.first in
    first_shown c.args.stock.now c.requires c.blocks-n.result (n_is (goal.at.returns c).After-blocks-n) f.new.buffer f.ensures.1 c.walker_of-walker.result c.walker_of-walker.ensures
