-- `pattern::index::index_of` meets its contract.
use native.Mathlib.Omega.{arith}
use Rattle.pattern.proofs.Narrowing.{start, fewer, fits, few, end_k, end_r, k_in_all, kr_in_all, on_k, on_kr, more_r, rr_in_all, on_rr}
use Rattle.pattern.proofs.index.index_of.Goals as goal

pub loop-b-init : goal.loop-b-init
loop-b-init c = start c.requires.1 c.requires.2 (omega arith)

pub overflow_add-cuts : goal.overflow_add-cuts
overflow_add-cuts c = omega (arith, few c.loop-b.invariant c.requires.0)

pub ends_in_k-requires : goal.ends_in_k-requires
ends_in_k-requires c = let s = c.loop-b.invariant in (s.patterns, fewer s, omega arith, omega (arith, s.left, c.requires.0))

pub ends_in_k-in_k-requires : goal.ends_in_k-in_k-requires
ends_in_k-in_k-requires c = let s = c.loop-b.invariant in (s.patterns, fewer s, omega arith, omega (arith, s.left, c.requires.0))

pub ends_in_kr-requires : goal.ends_in_kr-requires
ends_in_kr-requires c = let s = c.loop-b.invariant in (s.patterns, omega arith, omega (arith, fewer s), omega (arith, s.left, c.requires.0))

pub ends_in_rr-in_rr-requires : goal.ends_in_rr-in_rr-requires
ends_in_rr-in_rr-requires c =
    let s = c.loop-b.invariant in
    (s.patterns, more_r s c.if-b-eq0.false (λ e. omega arith) c.if-last-kind.false c.if-before-kind.false, fewer s, omega (arith, s.left, c.requires.0))

pub overflow_sub-part : goal.overflow_sub-part
overflow_sub-part c = rr_in_all c.loop-b.invariant c.if-b-eq0.false (λ e. omega arith) c.if-last-kind.false c.if-before-kind.false c.ends_in_rr-in_rr.ensures

pub overflow_sub-b-else-before-kind : goal.overflow_sub-b-else-before-kind
overflow_sub-b-else-before-kind c = more_r c.loop-b.invariant c.if-b-eq0.false (λ e. omega arith) c.if-last-kind.false c.if-before-kind.false

pub narrowed-part-requires : goal.narrowed-part-requires
narrowed-part-requires c = let s = c.loop-b.invariant in (omega (arith, k_in_all s c.if-b-eq0.false (λ e. omega arith) c.ends_in_k.ensures), fits s c.requires.0)

pub narrowed-part-requires-then-before-kind : goal.narrowed-part-requires-then-before-kind
narrowed-part-requires-then-before-kind c = let s = c.loop-b.invariant in (kr_in_all s c.if-b-eq0.false (λ e. omega arith) c.ends_in_k-in_k.ensures c.ends_in_kr.ensures, fits s c.requires.0)

pub narrowed-part-requires-else-before-kind : goal.narrowed-part-requires-else-before-kind
narrowed-part-requires-else-before-kind c =
    let s = c.loop-b.invariant in
    (omega (arith, rr_in_all s c.if-b-eq0.false (λ e. omega arith) c.if-last-kind.false c.if-before-kind.false c.ends_in_rr-in_rr.ensures), fits s c.requires.0)

pub loop-b-preserved-then-last-kind : goal.loop-b-preserved-then-last-kind
loop-b-preserved-then-last-kind c = on_k c.loop-b.invariant c.if-b-eq0.false (λ e. omega arith) c.if-last-kind.true c.ends_in_k.ensures c.narrowed-part.ensures (omega arith)

pub loop-b-preserved-then-before-kind : goal.loop-b-preserved-then-before-kind
loop-b-preserved-then-before-kind c =
    on_kr c.loop-b.invariant c.if-b-eq0.false (λ e. omega arith) c.if-last-kind.false c.if-before-kind.true c.ends_in_k-in_k.ensures c.ends_in_kr.ensures c.narrowed-part-then-before-kind.ensures (omega arith)

pub loop-b-preserved : goal.loop-b-preserved
loop-b-preserved c =
    on_rr c.loop-b.invariant c.if-b-eq0.false (λ e. omega arith) c.if-last-kind.false c.if-before-kind.false c.ends_in_rr-in_rr.ensures c.narrowed-part-else-before-kind.ensures (omega arith) (omega arith)

pub returns-after-loop-b : goal.returns-after-loop-b
returns-after-loop-b c = end_r c.loop-b.invariant (omega (arith, fewer c.loop-b.invariant))

pub returns-then-b-eq0 : goal.returns-then-b-eq0
returns-then-b-eq0 c = end_k c.loop-b.invariant c.if-b-eq0.true
