-- `replaying::replay::replay_any` meets its contract: 1 to 6, then 15 and 16 refuse, or the exchanges are made.
use Prim.Native.Nat.{ℕ}
use mathlib.Core.Path.{◌≡◌, refl, sym, ◌∙◌}
use native.Mathlib.Omega.{arith}
use Rattle.std.specs.Prelude.{Option, Some}
use Rattle.rules.specs.Stock.{total, IsStock, IsStrip}
use Rattle.rules.proofs.Strips.{strip_sum}
use Rattle.counting.proofs.Held.{some_held, few}
use Rattle.replaying.proofs.Called.{refused_early, both, refused_list, right, replayed}
use Rattle.replaying.proofs.replay.replay_any.Goals as goal
use Rattle.replaying.proofs.replay.replay_any.Goals.{In_ok-check_strip, In_ok-check_pairs}

-- past 1 to 6: the stock and the strip are accepted
good : (c : In_ok-check_strip) → IsStock c.args.stock.now × IsStrip c.args.stock.now c.args.strip.now
good c = both c.args.stock.now c.args.strip.now c.args.pairs.now c.in_ok-check_strip.ensures

-- past 15: T is a number
held : (c : In_ok-check_pairs) → ◌≡◌ {A = Option ℕ} c.total_of-strips.result (Some (total c.args.stock.now))
held c =
    let r = right c.args.stock.now c.args.strip.now c.args.pairs.now c.in_ok-check_strip.ensures c.in_ok-check_pairs.ensures in
    c.total_of-strips.ensures ∙ sym (some_held c.args.stock.now (omega (arith, r.0)))

pub returns-in_err-check_strip : goal.returns-in_err-check_strip
returns-in_err-check_strip c = let a = c.args in refused_early a.stock.now a.strip.now a.pairs.now _ c.in_err-check_strip.ensures _ c.from_residual.ensures.1

pub patterns_of-patterns-requires : goal.patterns_of-patterns-requires
patterns_of-patterns-requires c = (good c).0

pub total_of-strips-requires : goal.total_of-strips-requires
total_of-strips-requires c = (c.patterns_of-patterns.ensures, (good (goal.at.total_of-strips-requires c).In_ok-check_strip).0)

pub check_pairs-requires : goal.check_pairs-requires
check_pairs-requires c = (c.total_of-strips.ensures, strip_sum c.args.stock.now c.args.strip.now (good (goal.at.check_pairs-requires c).In_ok-check_strip).1)

pub returns-in_err-check_pairs : goal.returns-in_err-check_pairs
returns-in_err-check_pairs c =
    let a = c.args in
    refused_list a.stock.now a.strip.now a.pairs.now c.in_ok-check_strip.ensures _ c.in_err-check_pairs.ensures _ c.from_residual-in_err-check_pairs.ensures.1

pub unwrap-many-requires : goal.unwrap-many-requires
unwrap-many-requires c = rw (held c) refl

pub replay_checked-told-requires : goal.replay_checked-told-requires
replay_checked-told-requires c =
    let at = goal.at.replay_checked-told-requires c in
    let g = good at.In_ok-check_strip in
    let r = right c.args.stock.now c.args.strip.now c.args.pairs.now c.in_ok-check_strip.ensures c.in_ok-check_pairs.ensures in
    (c.patterns_of-patterns.ensures, record { stock = g.0; strip = g.1; small = r.0; right = r.1 }, (few _ (sym c.unwrap-many.ensures ∙ c.total_of-strips.ensures)).1)

pub returns : goal.returns
returns c =
    let e = c.replay_checked-told.ensures in
    replayed c.args.stock.now c.args.strip.now c.args.pairs.now c.in_ok-check_strip.ensures c.in_ok-check_pairs.ensures _ _ e.0 e.1
