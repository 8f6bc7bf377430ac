-- `drawers::number::place_of` meets its contract: 1 to 6, then 7.
use mathlib.Core.Path.{ap, ◌∙◌}
use Rattle.rules.specs.Book.{place_in}
use Rattle.rules.specs.Refusals.{fine}
use Rattle.stock.specs.declared.refused.Reason.TheVariants.{Many}
use Rattle.stock.specs.declared.refused.Refused.{Refused}
use Rattle.stock.specs.Refused.{no_of}
use Rattle.stock.proofs.Told.{stopped_answer, passed_answer}
use Rattle.counting.proofs.Held.{answered_error}
use Rattle.numbering.specs.Answers.{number_nos}
use Rattle.numbering.proofs.Answered as numbered
use Rattle.dictionary.specs.Dictionary.{dictionary}
use Rattle.drawers.specs.Answers.{as_filed, dictionary_number_answer}
use Rattle.drawers.proofs.number.place_of.Goals as goal

pub returns-in_err-check_strip : goal.returns-in_err-check_strip
unfolding dictionary_number_answer
returns-in_err-check_strip c =
    let s = c.args.stock.now in
    let t = c.args.strip.now in
    let e = c.in_err-check_strip.field-0.0 in
    answered_error as_filed 0 c.from_residual.result e c.from_residual.ensures.1 ∙ stopped_answer (number_nos s t) 0 (place_in (dictionary s) t) as_filed e (numbered.refused s t e c.in_err-check_strip.ensures)

pub entry_of-requires : goal.entry_of-requires
entry_of-requires c = numbered.good _ _ c.in_ok-check_strip.ensures

pub returns-in-None : goal.returns-in-None
unfolding dictionary_number_answer
returns-in-None c =
    let s = c.args.stock.now in
    let t = c.args.strip.now in
    let many : Refused = record { reason = Many; place = 0 } in
    ap (λ (e : Refused). as_filed (no_of e) 0) c.at.ensures ∙ stopped_answer (number_nos s t) 0 (place_in (dictionary s) t) as_filed many (numbered.many s t c.in_ok-check_strip.ensures c.in-None.ensures)

pub returns-in-Some : goal.returns-in-Some
unfolding dictionary_number_answer
returns-in-Some c =
    let s = c.args.stock.now in
    let t = c.args.strip.now in
    let e = c.in-Some.ensures in
    ap (as_filed fine) e.2 ∙ passed_answer (number_nos s t) 0 (place_in (dictionary s) t) as_filed (numbered.few s t c.in_ok-check_strip.ensures e.1)
