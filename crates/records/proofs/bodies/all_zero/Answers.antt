-- `records::bodies::all_zero` meets its contract: each byte is compared with 0.
use Rattle.std.proofs.Common.{eqb, rules, tests, ◌∙◌}
use Rattle.std.proofs.lemmas.Iterator.{YieldsList-from_slice}
use Rattle.std.proofs.lemmas.Iterator.Search.{all_from_yields_List}
use Rattle.records.proofs.BodyLaws.{zeros_all}
use Rattle.records.proofs.bodies.all_zero.Goals as goal

pub returns : goal.returns
returns c =
    let l = c.args.bytes.now in
    all_from_yields_List (λ b. eqb b 0) _ _ _ c.all.ensures.ran (YieldsList-from_slice l cc) (λ x b q k. search (rules, tests)) ∙ zeros_all l
