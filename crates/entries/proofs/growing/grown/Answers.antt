-- `entries::growing::grown` meets its contract.
use mathlib.Core.Path.{◌∙◌}
use native.Mathlib.Omega.{arith}
use Rattle.entries.proofs.Fitting.{beyond, grows}
use Rattle.entries.proofs.growing.grown.Goals as goal

pub returns-in_err-checked_mul : goal.returns-in_err-checked_mul
returns-in_err-checked_mul c =
    let a = c.args in
    let p = c.requires in
    c.from_residual.ensures ∙ beyond a.orders a.n a.alike p.0 p.1 p.2 (omega (arith, c.in_err-checked_mul.ensures))

pub returns : goal.returns
returns c =
    let a = c.args in
    let p = c.requires in
    grows a.orders a.n a.alike p.0 p.1 p.2 _ _ c.in_ok-checked_mul.ensures.1 c.checked_add.ensures
