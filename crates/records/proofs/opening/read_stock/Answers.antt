-- `records::opening::read_stock` meets its contract: the record, then the stock in it.
use Prim.Native.Nat.{ℕ, ◌+◌, ◌<◌}
use mathlib.Core.Path.{◌≡◌, ap, ◌∙◌}
use mathlib.Core.List.{List}
use native.Mathlib.Omega.{arith}
use lib.ListN.{length, take}
use Rattle.rules.specs.Refusals.{first_of, stock_nos}
use Rattle.stock.proofs.Told.{told_error}
use Rattle.records.specs.Opened.{stock_at, stock_at_nos}
use Rattle.records.proofs.BodyLaws.{used_fits, used_long}
use Rattle.records.proofs.Checking.{record_stopped, record_passed, record_body, counts_held}
use Rattle.records.proofs.opening.read_stock.Goals as goal
use Rattle.records.proofs.opening.read_stock.Goals.{In_ok-check_record, After-used_kinds-kinds}

body : (c : In_ok-check_record) → c.args.at + 16 < length c.args.sheet.now
body c = record_body 1 16 _ _ c.in_ok-check_record.ensures

held : (c : After-used_kinds-kinds) → take c.used_kinds-kinds.result c.counts_at-counts.result ≡ stock_at c.args.at c.args.sheet.now
held c = counts_held _ _ _ _ c.counts_at-counts.ensures c.used_kinds-kinds.ensures

pub returns-in_err-check_record-clause-refused : goal.returns-in_err-check_record-clause-refused
unfolding stock_at_nos
returns-in_err-check_record-clause-refused c = told_error _ _ c.from_residual.ensures.1 ∙ record_stopped 1 16 _ _ _ c.in_err-check_record.ensures _

pub overflow_add-at : goal.overflow_add-at
overflow_add-at c = omega (arith, body (goal.at.overflow_add-at c).In_ok-check_record)

pub counts_at-counts-requires : goal.counts_at-counts-requires
counts_at-counts-requires c = omega (arith, body (goal.at.counts_at-counts-requires c).In_ok-check_record)

pub slice_bounds-counts-end : goal.slice_bounds-counts-end
slice_bounds-counts-end c = used_fits _ _ c.used_kinds-kinds.ensures

pub slice_bounds-check_stock-end : goal.slice_bounds-check_stock-end
slice_bounds-check_stock-end c = used_long _ _ c.used_kinds-kinds.ensures

pub returns-in_err-check_stock-clause-refused : goal.returns-in_err-check_stock-clause-refused
unfolding stock_at_nos
returns-in_err-check_stock-clause-refused c =
    told_error _ _ c.from_residual-in_err-check_stock.ensures.1
    ∙ record_passed 1 16 _ _ c.in_ok-check_record.ensures (stock_nos (stock_at _ _)) _ (c.in_err-check_stock.ensures ∙ ap (λ (l : List ℕ). first_of (stock_nos l)) (held (goal.at.returns-in_err-check_stock-clause-refused c).After-used_kinds-kinds))

pub returns-clause-refused : goal.returns-clause-refused
unfolding stock_at_nos
returns-clause-refused c =
    record_passed 1 16 _ _ c.in_ok-check_record.ensures (stock_nos (stock_at _ _)) _ (c.in_ok-check_stock.ensures ∙ ap (λ (l : List ℕ). first_of (stock_nos l)) (held (goal.at.returns-clause-refused c).After-used_kinds-kinds))

pub returns-clause-held : goal.returns-clause-held
returns-clause-held c = (used_fits _ _ c.used_kinds-kinds.ensures, held (goal.at.returns-clause-held c).After-used_kinds-kinds)
