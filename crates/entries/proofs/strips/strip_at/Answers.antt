-- `entries::strips::strip_at` meets its contract. The invariant: the blocks before the place are laid.
use native.Mathlib.Omega.{arith}
use Rattle.entries.proofs.Going.{going_end, going_on}
use Rattle.entries.proofs.strips.strip_at.Goals as goal

pub loop-place-preserved : goal.loop-place-preserved
loop-place-preserved c =
    let l = c.loop-place in
    let r = c.choose_kind-choice in
    going_on c.args.stock.now l.strip c.args.number l.left l.ways l.rest l.n l.place-index c.requires.0 l.invariant (omega arith) r.result.kind r.result.ahead r.result.own r.ensures

pub returns : goal.returns
returns c =
    let l = c.loop-place in
    going_end c.args.stock.now l.strip c.args.number l.left l.ways l.rest l.n l.place-index l.invariant (omega arith)
