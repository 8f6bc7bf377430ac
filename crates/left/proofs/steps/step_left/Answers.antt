-- `left::steps::step_left` meets its contract.
use mathlib.Core.Path.{◌∙◌}
use native.Mathlib.Omega.{arith}
use Rattle.left.proofs.FirstRuns.{counted, begins, behind, ahead_is, near_is, far_is}
use Rattle.left.proofs.steps.step_left.Goals as goal

pub overflow_sub-others : goal.overflow_sub-others
overflow_sub-others c = omega (arith, counted _ _ _ _ _ c.requires (omega arith) c.run_end-j.ensures.0)

pub step_far-requires : goal.step_far-requires
step_far-requires c h =
    let g = begins _ _ _ _ _ c.requires (omega arith) c.run_end-j.ensures.0 (omega arith) in
    (g, omega (arith, g))

pub step_ahead-requires : goal.step_ahead-requires
step_ahead-requires c =
    let n = c.requires in
    (c.run_end-j.ensures.1, begins _ _ _ _ _ n (omega arith) c.run_end-j.ensures.0, behind _ _ _ _ _ n (omega arith) c.run_end-j.ensures.0)

pub returns-then-x-gt0 : goal.returns-then-x-gt0
returns-then-x-gt0 c =
    c.step_near.ensures ∙ near_is _ _ _ _ _ c.requires (omega arith) c.run_end-j.ensures.0 _ _ c.is_odd.ensures c.if-is_odd-back.true (omega arith)

pub returns-then-is_odd-back : goal.returns-then-is_odd-back
returns-then-is_odd-back c =
    c.step_far.ensures
    ∙ far_is _ _ _ _ _ c.requires (omega arith) c.run_end-j.ensures.0 _ _ c.is_odd.ensures c.if-is_odd-back.true (omega arith) _ _ c.run_end-k.ensures.0 c.run_end-l.ensures.0

pub returns : goal.returns
returns c =
    c.step_ahead.ensures ∙ ahead_is _ _ _ _ _ c.requires (omega arith) c.run_end-j.ensures.0 _ _ c.is_odd.ensures c.if-is_odd-back.false
