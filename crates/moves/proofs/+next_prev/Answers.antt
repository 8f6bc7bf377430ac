-- `moves::next` and `prev` meet their contracts.
use Rattle.std.proofs.Common.{◌∙◌, arith, length-take}
use Rattle.rules.proofs.Endings.{rest_k, rest_kr, rest_rr}
use Rattle.moves.proofs.Stepping.{both, next_k, prev_kr}
use Rattle.moves.proofs.+next_prev.Goals as goal

-- moving on
pub next-next-inner-requires : goal.next-next-inner-requires
next-next-inner-requires t c =
    let b = both c.requires.1 c.if-others-eq0.false c.if-a-others.false in
    (simp length-take (omega arith), (simp length-take (omega arith), rest_k b (omega arith)))

pub next-returns-then-word-last : goal.next-returns-then-word-last
next-returns-then-word-last t c =
    let b = both c.requires.1 c.if-others-eq0.false c.if-a-others.false in
    c.or.ensures ∙ next_k b (omega arith) (omega arith) (omega arith) c.next-inner.ensures

pub next-prev-inner-requires : goal.next-prev-inner-requires
next-prev-inner-requires t c =
    let b = both c.requires.1 c.if-others-eq0.false c.if-a-others.false in
    (simp length-take (omega arith), (simp length-take (omega arith), rest_kr b (omega arith) (omega arith)))

pub next-next-requires : goal.next-next-requires
next-next-requires t c =
    let b = both c.requires.1 c.if-others-eq0.false c.if-a-others.false in
    (simp length-take (omega arith), (simp length-take (omega arith), rest_rr b (omega arith) (omega arith)))

-- moving back
pub prev-prev-requires : goal.prev-prev-requires
prev-prev-requires t c =
    let b = both c.requires.1 c.if-others-eq0.false c.if-a-others.false in
    (simp length-take (omega arith), (simp length-take (omega arith), rest_k b (omega arith)))

pub prev-next-inner-requires : goal.prev-next-inner-requires
prev-next-inner-requires t c =
    let b = both c.requires.1 c.if-others-eq0.false c.if-a-others.false in
    (simp length-take (omega arith), (simp length-take (omega arith), rest_kr b (omega arith) (omega arith)))

pub prev-returns-then-word-before : goal.prev-returns-then-word-before
prev-returns-then-word-before t c =
    let b = both c.requires.1 c.if-others-eq0.false c.if-a-others.false in
    c.or.ensures ∙ prev_kr b (omega arith) (omega arith) (omega arith) (omega arith) c.next-inner.ensures

pub prev-prev-inner-requires : goal.prev-prev-inner-requires
prev-prev-inner-requires t c =
    let b = both c.requires.1 c.if-others-eq0.false c.if-a-others.false in
    (simp length-take (omega arith), (simp length-take (omega arith), rest_rr b (omega arith) (omega arith)))
