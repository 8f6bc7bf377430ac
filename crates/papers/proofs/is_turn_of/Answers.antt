-- `papers::is_turn_of` meets its contract: the second strip is one of the turns, or none of them.
use Prim.Native.Nat.{ℕ}
use mathlib.Core.Bool.{true, false}
use native.Mathlib.Omega.{arith}
use lib.ListN.{length}
use Rattle.std.proofs.Common.{rules, tests}
use Rattle.std.proofs.lemmas.Iterator.{cases_from_any, YieldsList-from_range}
use Rattle.papers.proofs.Below.{any_below}
use Rattle.papers.proofs.Turning.{Turn, some_turn_is}
use Rattle.papers.proofs.is_turn_of.Goals as goal

pub returns : goal.returns
returns c =
    let a = c.args in
    let n = length a.first.strip.now in
    let one : ℕ → Type 0 = Turn a.first.strip.now a.first.back a.second.now true in
    let other : ℕ → Type 0 = Turn a.first.strip.now a.first.back a.second.now false in
    some_turn_is _ _ _ _
    (any_below n one other _
    (cases_from_any _ _ _ one other c.any.ensures.ran (YieldsList-from_range 0 n n (cc) (omega arith)) (λ x q k. search (rules, tests)) (λ x q k. search (rules, tests))))
