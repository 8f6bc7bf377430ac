-- `numbering::numbers::number_of` meets its contract. The invariant: the number of the reduced strip at j in the book of the first j kinds, and their cuts.
use Prim.Native.Nat.{ℕ, ◌≤◌, ◌+◌, ◌<◌}
use mathlib.Core.Path.{◌≡◌, refl, sym, ap, ◌∙◌}
use mathlib.Core.List.{List}
use native.Mathlib.Omega.{arith}
use lib.ListN.{length, get_or, take}
use lib.Seq.{take_all, get_or-take, length-take-le}
use Rattle.rules.specs.Stock.{sum, binom}
use Rattle.rules.specs.Book.{pattern, reduced}
use Rattle.rules.proofs.Index.{index}
use Rattle.rules.proofs.Strips.{number, strip_fits}
use Rattle.rules.proofs.Prefixes.{OneMore, one_more, Laid, laid}
use Rattle.rules.proofs.Reduced.{reduced_fits, prefix_all}
use Rattle.rules.proofs.Places.{place_number}
use Rattle.rules.proofs.Books.{number'}
use Rattle.cuts.specs.Cuts.{cuts, sum_over, kind_cuts, strip_cuts}
use Rattle.cuts.proofs.Theorems.{cuts_next, cuts_so_far}
use Rattle.counting.proofs.Product.{of_kind}
use Rattle.numbering.proofs.numbers.number_of.Goals as goal
use Rattle.numbering.proofs.numbers.number_of.Goals.{Start, In-loop-j, After-index_of-found}

-- the kinds of the stock are those whose patterns are read
kinds : (c : Start) → length (take (length c.args.stock.now) c.args.patterns.now) ≡ length c.args.stock.now
kinds c = length-take-le (length c.args.stock.now) c.args.patterns.now (omega (arith, c.requires.0.room, c.requires.1.few))

module _ (c : In-loop-j) where
  abbrev counts : List ℕ
  counts = c.args.stock.now

  abbrev strip : List ℕ
  strip = c.args.strip.now

  abbrev j : ℕ
  j = c.loop-j.j

  here : j < length counts
  here = omega (arith, length-take-le (length counts) c.args.patterns.now (omega (arith, c.requires.0.room, c.requires.1.few)))

  same : get_or (take (length counts) c.args.patterns.now) j 0 ≡ get_or c.args.patterns.now j 0
  same = get_or-take (length counts) c.args.patterns.now j 0 here

  -- what the book says of the kind that a turn lays in
  more : OneMore counts strip j (j + 1)
  more = one_more counts strip c.requires.2 j here

  -- the strip fits the word, and so does the reduced strip
  short : (length strip ≤ 64) × (length (reduced (j + 1) strip) ≤ 64)
  short = (strip_fits counts strip c.requires.1 c.requires.2, reduced_fits counts strip c.requires.1 c.requires.2 (j + 1))

  -- how many patterns the kind has
  patterns_at : (n : ℕ) → n ≡ length (reduced (j + 1) strip) → get_or (take (length counts) c.args.patterns.now) j 0 ≡ binom n c.loop-j.below
  patterns_at n is = same ∙ of_kind counts strip _ c.requires.0 j here more n _ is c.loop-j.invariant.0

-- the kind that a turn lays in, once its own pattern is found
turn : (c : After-index_of-found) → Laid c.args.stock.now c.args.strip.now (c.loop-j.j + 1) c.loop-j.number (get_or (take (length c.args.stock.now) c.args.patterns.now) c.loop-j.j 0) c.index_of-found.result.index
turn c =
    let r = c.reduce-n.ensures in
    let i = c.loop-j.invariant in
    let b = (goal.at.numbered_by-number-requires c).In-loop-j in
    laid _ _ _ _ (more b) _ _ _ _ _ r.0 i.0 i.1 (patterns_at b _ r.0) (c.index_of-found.ensures.0 ∙ ap (index (c.loop-j.j + 1)) r.1)

-- the cuts of the kinds before, and of this one
cuts_on : (c : After-index_of-found) → c.loop-j.cuts + c.index_of-found.result.cuts ≡ sum_over (kind_cuts c.args.strip.now) (c.loop-j.j + 1)
cuts_on c =
    let own : c.index_of-found.result.cuts ≡ kind_cuts c.args.strip.now (c.loop-j.j + 1) = c.index_of-found.ensures.1 ∙ ap (λ (w : List ℕ). cuts (pattern (c.loop-j.j + 1) w)) c.reduce-n.ensures.1 in
    omega (arith, own, c.loop-j.invariant.2, cuts_next c.args.stock.now c.args.strip.now c.requires.2 c.loop-j.j (here (goal.at.numbered_by-number-requires c).In-loop-j))

pub loop-j-init : goal.loop-j-init
unfolding sum number number' sum_over
loop-j-init c = (refl, refl, refl)

pub reduce-n-requires : goal.reduce-n-requires
reduce-n-requires c = omega (arith, (short (goal.at.reduce-n-requires c).In-loop-j).0)

pub slice_bounds-word-end : goal.slice_bounds-word-end
slice_bounds-word-end c = omega (arith, c.reduce-n.ensures.0, (short (goal.at.slice_bounds-word-end c).In-loop-j).1)

pub slice_bounds-index_of-end : goal.slice_bounds-index_of-end
slice_bounds-index_of-end c = c.reduce-n.ensures.0 ∙ sym (ap length c.reduce-n.ensures.1)

pub index_of-found-requires : goal.index_of-found-requires
index_of-found-requires c =
    let b = (goal.at.index_of-found-requires c).In-loop-j in
    let r = c.reduce-n.ensures in
    (rw r.1 (short b).1, rw r.1 (c.loop-j.invariant.0 ∙ sym (more b).others), rw r.1 (patterns_at b _ refl))

pub numbered_by-number-requires : goal.numbered_by-number-requires
numbered_by-number-requires c =
    let t = turn (goal.at.numbered_by-number-requires c).After-index_of-found in
    (t.within, omega (arith, t.bounded, c.requires.3))

pub overflow_add-cuts : goal.overflow_add-cuts
overflow_add-cuts c =
    let d = goal.at.overflow_add-cuts c in
    omega (arith, cuts_on d.After-index_of-found, cuts_so_far c.args.stock.now c.args.strip.now c.requires.2 c.requires.1 (c.loop-j.j + 1) (omega (arith, here d.In-loop-j)))

pub loop-j-preserved : goal.loop-j-preserved
loop-j-preserved c =
    let d = goal.at.loop-j-preserved c in
    (c.reduce-n.ensures.0 ∙ (more d.In-loop-j).letters, c.numbered_by-number.ensures ∙ (turn d.After-index_of-found).next, cuts_on d.After-index_of-found)

pub returns : goal.returns
unfolding strip_cuts
returns c =
    let counts = c.args.stock.now in
    let e : c.loop-j.j ≡ length counts = omega (arith, kinds (goal.at.returns c).Start) in
    let all = prefix_all counts c.args.strip.now c.requires.2 in (
      c.loop-j.invariant.1 ∙ rw (e, take_all (length counts) counts (omega arith), all) (sym (place_number counts c.args.strip.now c.requires.2)),
      c.loop-j.invariant.2 ∙ ap (sum_over (kind_cuts c.args.strip.now)) e,
    )
