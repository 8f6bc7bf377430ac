-- `records::opening::opening_at` meets its contract: the stock record, then the strip record behind it.
use mathlib.Core.Path.{refl}
use native.Mathlib.Omega.{arith}
use Rattle.records.proofs.Beginning.{stock_stopped, counts_stock, strip_stopped, read_short, word_long, word_start, word_sound, both_read, stock_fits}
use Rattle.records.proofs.opening.opening_at.Goals as goal

pub returns-in_err-counts : goal.returns-in_err-counts
returns-in_err-counts c = stock_stopped _ _ _ _ c.from_residual.ensures.1 c.in_err-counts.ensures.refused

pub overflow_add-at : goal.overflow_add-at
overflow_add-at c = omega (arith, stock_fits _ _ c.in_ok-counts.ensures.refused)

pub read_strip-requires : goal.read_strip-requires
read_strip-requires c = counts_stock _ _ c.in_ok-counts.ensures.refused _ c.in_ok-counts.ensures.held.1

pub returns-in_err-strip : goal.returns-in_err-strip
returns-in_err-strip c =
    let p = c.in_ok-counts.ensures in
    strip_stopped _ _ p.refused _ p.held.1 _ _ c.from_residual-in_err-strip.ensures.1 c.in_err-strip.ensures.refused

pub invariant_of-result : goal.invariant_of-result
invariant_of-result c =
    let p = c.in_ok-counts.ensures in
    let q = c.in_ok-strip.ensures in
    let w = c.copied.ensures in
    record {
      used = p.held.0;
      within = word_long _ _ p.refused _ p.held.1 q.refused _ q.held _ w;
      sound = word_sound _ _ p.refused _ p.held.1 q.refused _ q.held _ w;
    }

pub copied-requires : goal.copied-requires
copied-requires c =
    let p = c.in_ok-counts.ensures in
    let q = c.in_ok-strip.ensures in
    read_short _ _ p.refused _ p.held.1 q.refused _ q.held

pub returns : goal.returns
returns c =
    let p = c.in_ok-counts.ensures in
    let q = c.in_ok-strip.ensures in
    both_read _ _ p.refused _ p.held.1 q.refused _ q.held _ refl (word_start _ _ p.refused _ p.held.1 q.refused _ q.held _ c.copied.ensures)
