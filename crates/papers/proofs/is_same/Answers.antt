-- `papers::is_same` meets its contract: the checks in the order of its refusals, then the search.
use mathlib.Core.Path.{sym, ◌∙◌}
use mathlib.Core.Bool.{false}
use Rattle.rules.specs.Refusals.{pair_nos}
use Rattle.rules.proofs.Checks.{accepted_pair}
use Rattle.rules.proofs.Strips.{strip_sum}
use Rattle.stock.proofs.Told.{passed, passed_answer}
use Rattle.papers.specs.Papers.{same_paper_answer, as_asked, is_a_turn}
use Rattle.papers.proofs.Answered.{error_answer}
use Rattle.papers.proofs.is_same.Goals as goal

pub returns-in_err-check_pair : goal.returns-in_err-check_pair
unfolding same_paper_answer
returns-in_err-check_pair c =
    let a = c.args in
    error_answer (pair_nos a.stock.now a.first.now a.second.now) false (is_a_turn a.first.now a.second.now) as_asked _ _ c.from_residual.ensures.1 c.in_err-check_pair.ensures

pub is_turn-requires : goal.is_turn-requires
is_turn-requires c =
    let a = c.args in
    let p = accepted_pair a.stock.now a.first.now a.second.now (passed (pair_nos _ _ _) c.in_ok-check_pair.ensures) in
    strip_sum a.stock.now a.first.now p.1 ∙ sym (strip_sum a.stock.now a.second.now p.2)

pub returns : goal.returns
unfolding same_paper_answer
returns c =
    let a = c.args in
    rw c.is_turn.ensures (passed_answer (pair_nos a.stock.now a.first.now a.second.now) false (is_a_turn a.first.now a.second.now) as_asked c.in_ok-check_pair.ensures)
