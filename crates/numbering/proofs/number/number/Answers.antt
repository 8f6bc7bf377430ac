-- `numbering::number::number` meets its contract.
use Prim.Native.Nat.{ℕ}
use mathlib.Core.Path.{ap, ◌∙◌}
use Rattle.rules.specs.Book.{book, place_in}
use Rattle.cuts.specs.Cuts.{strip_cuts}
use Rattle.stock.specs.declared.refused.Refusal.{Refusal}
use Rattle.stock.proofs.Told.{stopped_answer, passed_answer}
use Rattle.numbering.specs.declared.number.Numbered.{Numbered}
use Rattle.numbering.specs.Answers.{as_numbered, number_nos, number_answer}
use Rattle.numbering.proofs.number.number.Goals as goal

pub returns-in-Ok : goal.returns-in-Ok
unfolding number_answer
returns-in-Ok c =
    let a = c.args in
    let found : ℕ × ℕ = (place_in (book a.stock.now) a.strip.now, strip_cuts a.stock.now a.strip.now) in
    let e = c.in-Ok.ensures in
    rw (c.from.ensures, e.1.0, e.1.1) (passed_answer (number_nos a.stock.now a.strip.now) (0, 0) found as_numbered e.0)

pub returns-in-Err : goal.returns-in-Err
unfolding number_answer
returns-in-Err c =
    let a = c.args in
    let found : ℕ × ℕ = (place_in (book a.stock.now) a.strip.now, strip_cuts a.stock.now a.strip.now) in
    ap (λ (r : Refusal). let n : Numbered = record { refusal = r; number = 0; cuts = 0 } in n) c.into.ensures ∙ stopped_answer (number_nos a.stock.now a.strip.now) (0, 0) found as_numbered _ c.in-Err.ensures.0
