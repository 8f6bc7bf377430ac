-- `spacing::next_apart::move_on` meets its contract.
use mathlib.Core.Path.{◌≡◌, ap, ◌∙◌}
use lib.ListN.{length, take}
use Rattle.std.proofs.Common.{rules}
use Rattle.rules.proofs.Strips.{strip_fits}
use Rattle.copying.proofs.Copies.{copy_start, copy_whole, start}
use Rattle.searching.specs.declared.Outcome.TheVariants.{Found}
use Rattle.walking.specs.Checked.{Checked}
use Rattle.walking.proofs.Called.{checked}
use Rattle.spacing.specs.Seeking.{Reached}
use Rattle.spacing.proofs.Called.{refused, not_found, found}
use Rattle.spacing.proofs.next_apart.move_on.Goals as goal
use Rattle.spacing.proofs.next_apart.move_on.Goals.{After-copied-word, After-seek-ended, In_ok-check_walker}

-- past the checks: the stock, the strip and the walker are accepted
good : (c : In_ok-check_walker) → Checked c.args.stock.now c.args.strip.now c.args.walker
good c = checked _ _ _ c.in_ok-check_walker.ensures (search rules)

-- the copy begins with the strip
copy_is : (c : After-copied-word) → take (length c.args.strip.now) c.copied-word.result ≡ c.args.strip.now
copy_is c = copy_start 64 c.args.strip.now c.copied-word.result c.copied-word.ensures

-- what the search says of the strip
reached : (c : After-seek-ended) → let a = c.args in Reached a.endless a.stock.now a.strip.now a.given c.seek-ended.result c.seek-ended.new.strip c.seek-ended.new.walker
reached c =
    let copy_is = copy_start 64 c.args.strip.now c.copied-word.result c.copied-word.ensures in
    rw copy_is at c.seek-ended.ensures

long : (c : After-seek-ended) → length c.seek-ended.new.strip ≡ length c.args.strip.now
long c =
    c.seek-ended.auto.strip ∙ ap length (copy_start 64 c.args.strip.now c.copied-word.result c.copied-word.ensures)

-- 1 to 6 and 10 refuse
pub returns-in_err-check_walker : goal.returns-in_err-check_walker
returns-in_err-check_walker c = refused _ _ _ _ _ _ _ c.from_residual.ensures.1 c.in_err-check_walker.ensures

pub copied-word-requires : goal.copied-word-requires
copied-word-requires c =
    let p = good (goal.at.copied-word-requires c).In_ok-check_walker in
    strip_fits _ _ p.stock p.strip

pub seek-ended-requires : goal.seek-ended-requires
seek-ended-requires c = rw (copy_is (goal.at.seek-ended-requires c).After-copied-word) (good (goal.at.seek-ended-requires c).In_ok-check_walker)

-- none is found
pub returns-then-ne : goal.returns-then-ne
returns-then-ne c =
    let not : c.seek-ended.result.outcome ≡ Found → ⊥ = search rules in
    not_found _ _ _ _ _ c.in_ok-check_walker.ensures _ _ _ (reached (goal.at.returns-then-ne c).After-seek-ended) not

-- one is found, and copied back
pub returns : goal.returns
returns c =
    let is : c.seek-ended.result.outcome ≡ Found = search rules in
    let whole = long (goal.at.returns c).After-seek-ended in
    let p = start (length c.args.strip.now) c.seek-ended.new.strip _ whole in
    found _ _ _ _ _ c.in_ok-check_walker.ensures _ _ _ (reached (goal.at.returns c).After-seek-ended) is _ (copy_whole _ _ _ c.copy.ensures (ap length p ∙ whole) ∙ p)
