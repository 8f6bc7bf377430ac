-- `measuring::distance::moves_on` meets its contract: 1 to 6, then 7, then 14.
use Prim.Native.Nat.{ℕ, zero, suc}
use mathlib.Core.Path.{◌≡◌, sym, ap, ◌∙◌}
use mathlib.Core.List.{List, [], ◌∷◌}
use lib.IntN.{ℤ, pos, ◌-ℤ◌}
use Rattle.rules.specs.Stock.{IsStock, IsStrip}
use Rattle.rules.specs.Book.{book, place_in}
use Rattle.rules.specs.Refusals.{No, first_of, many_no, far_no, pair_nos}
use Rattle.rules.proofs.Refusals.{answer_next, answer_row, many_refused, many_passed}
use Rattle.rules.proofs.Checks.{accepted_pair}
use Rattle.stock.proofs.Told.{passed, stopped_first, stopped_answer}
use Rattle.counting.proofs.Held.{few, answered_error, answered_told, told_many}
use Rattle.measuring.specs.Answers.{as_apart, distance_nos, distance_answer}
use Rattle.measuring.proofs.distance.moves_on.Goals as goal
use Rattle.measuring.proofs.distance.moves_on.Goals.{Start, In_ok-check_pair}

module _ (c : Start) where
  abbrev counts : List ℕ
  counts = c.args.stock.now

  abbrev from : ℕ
  from = place_in (book counts) c.args.first.now

  abbrev to : ℕ
  to = place_in (book counts) c.args.second.now

  abbrev moves : ℤ
  moves = pos to -ℤ pos from

  abbrev one_to_six : List No
  one_to_six = pair_nos counts c.args.first.now c.args.second.now

  abbrev rest : List No
  rest = many_no counts ∷ far_no from to ∷ []

-- past 1 to 6
accepted : (c : In_ok-check_pair) → IsStock c.args.stock.now × IsStrip c.args.stock.now c.args.first.now × IsStrip c.args.stock.now c.args.second.now
accepted c = accepted_pair _ _ _ (passed (pair_nos _ _ _) c.in_ok-check_pair.ensures)

pub returns-in_err-check_pair : goal.returns-in_err-check_pair
unfolding distance_answer distance_nos
returns-in_err-check_pair c =
    let s = (goal.at.returns-in_err-check_pair c).Start in
    let e = c.in_err-check_pair.field-0.0 in
    answered_error as_apart (pos 0) c.from_residual.result e c.from_residual.ensures.1
    ∙ stopped_answer (distance_nos (counts s) c.args.first.now c.args.second.now) (pos 0) (moves s) as_apart e (stopped_first (one_to_six s) e c.in_err-check_pair.ensures (rest s))

pub patterns_of-patterns-requires : goal.patterns_of-patterns-requires
patterns_of-patterns-requires c = (accepted (goal.at.patterns_of-patterns-requires c).In_ok-check_pair).0

pub total_of-requires : goal.total_of-requires
total_of-requires c = (c.patterns_of-patterns.ensures, (accepted (goal.at.total_of-requires c).In_ok-check_pair).0)

pub returns-in_err-ok_or : goal.returns-in_err-ok_or
unfolding distance_answer distance_nos
returns-in_err-ok_or c =
    let s = (goal.at.returns-in_err-ok_or c).Start in
    let r = c.from_residual-in_err-ok_or in
    let p = told_many (counts s) r.result c.total_of.ensures c.in_err-ok_or.ensures.value r.ensures.1 in
    answered_told as_apart (pos 0) r.result r.ensures.0
    ∙ ap (λ (n : No). as_apart n (pos 0)) p.1
    ∙ answer_row as_apart (pos 0) (moves s) 6 0 (many_no (counts s)) (far_no (from s) (to s) ∷ []) (many_refused (counts s) p.0)
    ∙ answer_next as_apart (pos 0) (moves s) (one_to_six s) (rest s) (passed (one_to_six s) c.in_ok-check_pair.ensures)

pub number_of-from-requires : goal.number_of-from-requires
number_of-from-requires c =
    let a = accepted (goal.at.number_of-from-requires c).In_ok-check_pair in
    (c.patterns_of-patterns.ensures, a.0, a.1, (few c.args.stock.now (sym c.in_ok-ok_or.ensures.ok_part ∙ c.total_of.ensures)).0)

pub number_of-to-requires : goal.number_of-to-requires
number_of-to-requires c =
    let a = accepted (goal.at.number_of-to-requires c).In_ok-check_pair in
    (c.patterns_of-patterns.ensures, a.0, a.2, (few c.args.stock.now (sym c.in_ok-ok_or.ensures.ok_part ∙ c.total_of.ensures)).0)

not_many : (n : No) → n.0 ≡ 0 → (first_of (n ∷ [])).0 ≡ 0
unfolding first_of
not_many (zero, p) h = h
not_many (suc n, p) h = h

pub returns : goal.returns
unfolding distance_answer distance_nos
returns c =
    let s = (goal.at.returns c).Start in
    let p = few (counts s) (sym c.in_ok-ok_or.ensures.ok_part ∙ c.total_of.ensures) in
    c.moves_between.ensures
    ∙ rw (c.number_of-from.ensures.0, c.number_of-to.ensures.0) (answer_next as_apart (pos 0) (moves s) (many_no (counts s) ∷ []) (far_no (from s) (to s) ∷ []) (not_many (many_no (counts s)) (ap (λ (n : No). n.0) (many_passed (counts s) p.0))))
    ∙ answer_next as_apart (pos 0) (moves s) (one_to_six s) (rest s) (passed (one_to_six s) c.in_ok-check_pair.ensures)
