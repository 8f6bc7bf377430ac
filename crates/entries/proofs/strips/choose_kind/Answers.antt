-- `entries::strips::choose_kind` meets its contract. The invariant: the kinds before `kind` are passed.
use native.Mathlib.Omega.{arith}
use Rattle.entries.proofs.Seeking.{seek_start, kind_few, own_fits, seek_on}
use Rattle.entries.proofs.strips.choose_kind.Goals as goal

pub loop-kind-init : goal.loop-kind-init
loop-kind-init c = seek_start _ _

pub scale-own-requires : goal.scale-own-requires
scale-own-requires c =
    let a = c.args in
    let l = c.loop-kind in
    let few = kind_few a.left.now a.n a.ways a.rest l.kind l.ahead l.invariant (omega arith) c.requires.1 c.requires.2 c.requires.4 in
    let fits = own_fits a.left.now a.n a.ways a.rest l.kind l.ahead l.invariant (omega arith) c.requires.1 c.requires.2 c.requires.4 in
    (c.requires.2, omega (arith, c.requires.3), omega (arith, few, c.requires.3), omega (arith, fits))

pub loop-kind-preserved : goal.loop-kind-preserved
loop-kind-preserved c =
    let a = c.args in
    let l = c.loop-kind in
    seek_on a.left.now a.n a.ways a.rest l.kind l.ahead l.invariant (omega arith) c.requires.1 c.requires.2 c.requires.4 _ c.scale-own.ensures c.if-rest-ahead.false
