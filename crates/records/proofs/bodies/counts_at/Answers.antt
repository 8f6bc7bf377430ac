-- `records::bodies::counts_at` meets its contract: each count is the byte at its place.
use Rattle.std.proofs.Common.{◌+◌, ◌<◌, ◌≡◌, ◌∙◌, sym, length, get_or, take, drop, arith, rules}
use Rattle.std.proofs.lemmas.List.{ext_get_or, get_or-take, get_or-drop, length-take, length-drop}
use Rattle.records.proofs.BodyLaws.{made_at}
use Rattle.records.proofs.bodies.counts_at.Goals as goal

pub returns : goal.returns
returns c =
    let s = c.args.sheet.now in
    let long : length (take 16 (drop c.args.at s)) ≡ 16 = simp (length-take, length-drop) (omega (arith, c.requires)) in
    ext_get_or 0 _ _ (c.from_fn.ensures.items.long ∙ sym long)
    (λ i h. let j : i < 16 = omega (arith, h, c.from_fn.ensures.items.long) in
    rw (get_or-take 16 (drop c.args.at s) i 0 j, get_or-drop) (made_at _ _ (λ i. get_or s (c.args.at + i) 0) (λ i y q r. search rules) _ 16 c.from_fn.ensures.items.each i j))
