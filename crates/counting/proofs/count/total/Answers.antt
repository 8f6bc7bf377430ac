-- `counting::count::total` meets its contract: 1, 2 and 3, then 7.
use mathlib.Core.Path.{sym, ap, ◌∙◌}
use mathlib.Core.List.{[], ◌∷◌}
use Rattle.rules.specs.Stock.{total}
use Rattle.rules.specs.Refusals.{No, many_no, stock_nos}
use Rattle.rules.proofs.Refusals.{answer_next, answer_row, answer_last, many_refused, many_passed}
use Rattle.rules.proofs.Checks.{accepted}
use Rattle.stock.proofs.Told.{passed, stopped_first, stopped_answer}
use Rattle.counting.specs.Answers.{as_counted, count_nos, count_answer}
use Rattle.counting.proofs.Held.{few, answered_error, answered_told, told_many}
use Rattle.counting.proofs.count.total.Goals as goal

pub returns-in_err-check_stock : goal.returns-in_err-check_stock
unfolding count_answer count_nos
returns-in_err-check_stock c =
    let s = c.args.stock.now in
    let e = c.in_err-check_stock.field-0.0 in
    answered_error as_counted 0 c.from_residual.result e c.from_residual.ensures.1 ∙ stopped_answer (count_nos s) 0 (total s) as_counted e (stopped_first (stock_nos s) e c.in_err-check_stock.ensures (many_no s ∷ []))

pub patterns_of-requires : goal.patterns_of-requires
patterns_of-requires c = accepted _ (passed (stock_nos _) c.in_ok-check_stock.ensures)

pub total_of-requires : goal.total_of-requires
total_of-requires c = (c.patterns_of.ensures, accepted _ (passed (stock_nos _) c.in_ok-check_stock.ensures))

pub returns-in_err-strips : goal.returns-in_err-strips
unfolding count_answer count_nos
returns-in_err-strips c =
    let s = c.args.stock.now in
    let r = c.from_residual-in_err-strips in
    let p = told_many s r.result c.total_of.ensures c.in_err-strips.ensures.value r.ensures.1 in
    let k = passed (stock_nos s) c.in_ok-check_stock.ensures in
    answered_told as_counted 0 r.result r.ensures.0 ∙ ap (λ (n : No). as_counted n 0) p.1 ∙ answer_row as_counted 0 (total s) 6 0 (many_no s) [] (many_refused s p.0) ∙ answer_next as_counted 0 (total s) (stock_nos s) (many_no s ∷ []) k

pub returns : goal.returns
unfolding count_answer count_nos
returns c =
    let s = c.args.stock.now in
    let p = few s (sym c.in_ok-strips.ensures.ok_part ∙ c.total_of.ensures) in
    let k = passed (stock_nos s) c.in_ok-check_stock.ensures in
    rw p.1 (answer_last as_counted 0 (total s) (many_no s) (many_passed s p.0) ∙ answer_next as_counted 0 (total s) (stock_nos s) (many_no s ∷ []) k)
