-- `records::bodies::used_kinds` meets its contract: the last count that is not 0 is found from the end.
use Rattle.std.proofs.Common.{◌≡◌, ◌+◌, MatchOption, rules}
use Rattle.std.proofs.iter.runs.Made.{chains}
use Rattle.records.proofs.BodyLaws.{LastUsed, kinds_to_last}
use Rattle.records.proofs.bodies.used_kinds.Goals as goal

pub returns : goal.returns
returns c =
    let last = c.rposition-last.result in
    let found : LastUsed c.args.counts.now last = search (rules, chains) in
    let after : MatchOption last (c.map_or.result ≡ 0) (λ i. c.map_or.result ≡ i + 1) = search rules in
    kinds_to_last _ last _ found after
