-- `endless::next_paper::step_on` meets its contract.
use Prim.Native.Nat.{◌≤◌}
use mathlib.Core.Path.{◌≡◌, ap, ◌∙◌}
use native.Mathlib.Omega.{arith}
use lib.ListN.{length, take}
use Rattle.std.proofs.Common.{rules}
use Rattle.rules.specs.Stock.{IsStock, IsStrip}
use Rattle.rules.specs.Refusals.{check_nos}
use Rattle.rules.proofs.Checks.{some_blocks, accepted_both}
use Rattle.rules.proofs.Strips.{strip_fits}
use Rattle.stock.proofs.Told.{passed}
use Rattle.copying.proofs.Copies.{copy_start, copy_whole, start}
use Rattle.dictionary.specs.Dictionary.{dictionary}
use Rattle.searching.specs.Searching.{later}
use Rattle.searching.specs.Ended.{EndsSo}
use Rattle.searching.specs.declared.Outcome.TheVariants.{Found}
use Rattle.standing.specs.Standing.{stands_for_paper}
use Rattle.endless.proofs.Steps.{stepped_refused, stepped_found, stepped_kept}
use Rattle.endless.proofs.next_paper.step_on.Goals as goal
use Rattle.endless.proofs.next_paper.step_on.Goals.{After-copied-word, After-seek-ended, In_ok-check_strip}

-- past the checks: the stock and the strip are accepted
good : (c : In_ok-check_strip) → IsStock c.args.stock.now × IsStrip c.args.stock.now c.args.strip.now
good c = accepted_both _ _ (passed (check_nos c.args.stock.now c.args.strip.now) c.in_ok-check_strip.ensures)

short : (c : In_ok-check_strip) → length c.args.strip.now ≤ 64
short c = strip_fits c.args.stock.now c.args.strip.now (good c).0 (good c).1

-- the copy begins with the strip
copy_is : (c : After-copied-word) → take (length c.args.strip.now) c.copied-word.result ≡ c.args.strip.now
copy_is c = copy_start 64 c.args.strip.now c.copied-word.result c.copied-word.ensures

-- what the search says of the strip
sought : (c : After-seek-ended) → EndsSo stands_for_paper (later (dictionary c.args.stock.now) c.args.strip.now) c.args.given c.args.strip.now c.seek-ended.result c.seek-ended.new.strip
sought c =
    let strip = c.args.strip.now in
    let k = copy_start 64 strip c.copied-word.result c.copied-word.ensures in
    let own = accepted_both _ _ (passed (check_nos c.args.stock.now strip) c.in_ok-check_strip.ensures) in
    rw k at (c.seek-ended.ensures c.args.stock.now (rw k own.1))

long : (c : After-seek-ended) → length c.seek-ended.new.strip ≡ length c.args.strip.now
long c =
    c.seek-ended.auto.strip ∙ ap length (copy_start 64 c.args.strip.now c.copied-word.result c.copied-word.ensures)

-- 1 to 6 refuse
pub returns-in_err-check_strip : goal.returns-in_err-check_strip
returns-in_err-check_strip c = stepped_refused _ _ _ _ _ c.from_residual.ensures.1 c.in_err-check_strip.ensures

pub copied-word-requires : goal.copied-word-requires
copied-word-requires c = short (goal.at.copied-word-requires c).In_ok-check_strip

pub seek-ended-requires : goal.seek-ended-requires
seek-ended-requires c =
    let own = good (goal.at.seek-ended-requires c).In_ok-check_strip in
    omega (arith, ap length (copy_is (goal.at.seek-ended-requires c).After-copied-word), some_blocks c.args.stock.now c.args.strip.now own.0 own.1)

pub returns-then-eq : goal.returns-then-eq
returns-then-eq c =
    let is : c.seek-ended.result.outcome ≡ Found = search rules in
    let whole = long (goal.at.returns-then-eq c).After-seek-ended in
    let p = start (length c.args.strip.now) c.seek-ended.new.strip _ whole in
    stepped_found _ _ _ c.in_ok-check_strip.ensures _ _ (sought (goal.at.returns-then-eq c).After-seek-ended) _ is (copy_whole _ _ _ c.copy.ensures (ap length p ∙ whole) ∙ p)

pub returns-else-eq : goal.returns-else-eq
returns-else-eq c =
    let not : c.seek-ended.result.outcome ≡ Found → ⊥ = search rules in
    stepped_kept _ _ _ c.in_ok-check_strip.ensures _ _ (sought (goal.at.returns-else-eq c).After-seek-ended) not
