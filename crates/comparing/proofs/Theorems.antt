-- Theorems on Which and Earlier, over their contracts as the functions state them: `Post` says which answers each allows for which input.
use Prim.Native.Nat.{ℕ, zero, suc, ◌-◌, ◌≤◌, ◌<◌}
use mathlib.Core.Path.{◌≡◌, refl, sym, ap, ◌∙◌}
use mathlib.Core.Bool.{Bool, true, false}
use mathlib.Core.List.{List, []}
use native.Mathlib.Decide.{ℕ_discrete}
use native.Mathlib.Omega.{arith}
use borrow.Author.Tests.{ne_eqb}
use lib.Dec.{eqb}
use lib.ListN.{length, get_or, take}
use contract.Lifetimes.{Lfts}
use borrow.Fn.Kinds.{Dens, ended_of}
use denote.Triple.Clauses.{AtExit}
use Rattle.rules.specs.Stock.{IsStock, IsStrip}
use Rattle.rules.specs.Book.{book, place_in, reduced}
use Rattle.rules.specs.Refusals.{No, first_of, unless, pair_nos}
use Rattle.rules.specs.Outcome.{OneAnswer}
use Rattle.rules.proofs.Listed.{same_place}
use Rattle.rules.proofs.Strips.{strip_sum, listed}
use Rattle.rules.proofs.Places.{place_number}
use Rattle.rules.proofs.Reduced.{prefix_strip}
use Rattle.rules.proofs.Refusals.{unless_refused, unless_passed}
use Rattle.rules.proofs.Checks.{some_block, accepted_pair, accepted_pair_back}
use Rattle.comparing.specs.declared.which.Compared.{Compared}
use Rattle.comparing.specs.Order.{which_of, parting_kind}
use Rattle.comparing.specs.Answers.{which_answer, Lent, EmptyPart, second_if, named, IsEarlier}
use Rattle.comparing.proofs.Numbers.{which_first, which_second, which_equal, only_second, only_equal}
use Rattle.comparing.proofs.Ahead.{decides}
use Rattle.comparing.proofs.Parting.{none_same, same_none, from_two, to_last, differ_at, alike_below, has_blocks}
use Rattle.comparing.proofs.Handed.{order, refused}
use Rattle.comparing.proofs.which.which.Kinds as which
use Rattle.comparing.proofs.which.which.Reads as which_reads
use Rattle.comparing.proofs.earlier.earlier.Kinds as earlier
use Rattle.comparing.proofs.earlier.earlier.Reads as earlier_reads

-- ---- Which

-- two answers that the contract allows for one input are the same
pub which_one_outcome : OneAnswer 3 which.ps which.r which_reads.Post
which_one_outcome κs a x y s t h k = h ∙ sym k

-- any answer r that the contract allows for a stock and two strips
module _ (κs : Lfts 3) (a : Dens κs which.ps) (r : Compared) (s : AtExit (ended_of 3 which.ps which.r) κs) (h : which_reads.Post κs a r s) where
  abbrev counts : List ℕ
  counts = a.0.now

  abbrev first : List ℕ
  first = a.1.0.now

  abbrev second : List ℕ
  second = a.1.1.0.now

  which_no : r.refusal.no ≡ (first_of (pair_nos counts first second)).0
  unfolding which_answer
  which_no = ap (λ (r : Compared). r.refusal.no) h

  kind_is : r.kind ≡ unless (first_of (pair_nos counts first second)) 0 (parting_kind counts first second)
  unfolding which_answer
  kind_is = ap (λ (r : Compared). r.kind) h

  which_is : r.which ≡ unless (first_of (pair_nos counts first second)) 0 (which_of (place_in (book counts) first) (place_in (book counts) second))
  unfolding which_answer
  which_is = ap (λ (r : Compared). r.which) h

  -- it refuses no more and no less than the table says
  pub which_accepts : r.refusal.no ≡ 0 → IsStock counts × IsStrip counts first × IsStrip counts second
  which_accepts e = accepted_pair counts first second (sym which_no ∙ e)

  pub which_accepted : IsStock counts → IsStrip counts first → IsStrip counts second → r.refusal.no ≡ 0
  which_accepted stock one two = which_no ∙ accepted_pair_back counts first second stock one two

  pub which_refused_zero : (r.refusal.no ≡ 0 → ⊥) → (r.which ≡ 0) × (r.kind ≡ 0)
  which_refused_zero e = (which_is ∙ unless_refused 0 _ _ (λ k. e (which_no ∙ k)), kind_is ∙ unless_refused 0 _ _ (λ k. e (which_no ∙ k)))

  module _ (e : r.refusal.no ≡ 0) where
    -- the order of the two numbers, that is, of the strips in full
    pub order_is : r.which ≡ which_of (place_in (book counts) first) (place_in (book counts) second)
    order_is = which_is ∙ unless_passed 0 _ _ (sym which_no ∙ e)

    pub first_is_1 : place_in (book counts) first < place_in (book counts) second → r.which ≡ 1
    first_is_1 l = order_is ∙ which_first _ _ l

    pub second_is_2 : place_in (book counts) second < place_in (book counts) first → r.which ≡ 2
    second_is_2 l = order_is ∙ which_second _ _ l

    pub same_is_3 : first ≡ second → r.which ≡ 3
    same_is_3 k = order_is ∙ which_equal _ _ (ap (place_in (book counts)) k)

    -- equal are only two strips that are the same
    pub only_same_is_3 : r.which ≡ 3 → first ≡ second
    only_same_is_3 k =
        let one = (which_accepts e).1 in
        let two = (which_accepts e).2 in
        same_place (listed counts) first second one two (sym (place_number counts first one) ∙ only_equal _ _ (sym order_is ∙ k) ∙ place_number counts second two)

    -- ---- the kind at which the two part

    part_is : r.kind ≡ parting_kind counts first second
    part_is = kind_is ∙ unless_passed 0 _ _ (sym which_no ∙ e)

    some : 0 < length counts
    some = (which_accepts e).0.some

    -- 0 exactly where they are equal
    pub kind_zero_same : r.kind ≡ 0 → first ≡ second
    kind_zero_same z = none_same counts first second some (which_accepts e).1 (which_accepts e).2 (sym part_is ∙ z)

    pub same_kind_zero : first ≡ second → r.kind ≡ 0
    same_kind_zero k = part_is ∙ same_none counts first second some (which_accepts e).1 (which_accepts e).2 k

    -- below it the reduced strips agree
    pub kind_before : (j : ℕ) → j < r.kind → reduced j first ≡ reduced j second
    kind_before j l = alike_below counts first second some (which_accepts e).1 (which_accepts e).2 (λ z. omega (arith, part_is, z, l)) j (rw part_is at l)

    -- where they are not equal it is one of the kinds from 2 to the last, and at it they differ
    module _ (ne : r.kind ≡ 0 → ⊥) where
      parts : parting_kind counts first second ≡ 0 → ⊥
      parts z = ne (part_is ∙ z)

      pub kind_from_two : (2 ≤ r.kind) × (r.kind ≤ length counts)
      kind_from_two = rw part_is (from_two counts first second some (which_accepts e).1 (which_accepts e).2 parts, to_last counts first second some (which_accepts e).1 (which_accepts e).2 parts)

      -- it has blocks: a sold-out kind is never reported
      pub kind_has_blocks : 1 ≤ get_or counts (r.kind - 1) 0
      kind_has_blocks = rw part_is (has_blocks counts first second some (which_accepts e).1 (which_accepts e).2 parts)

      pub kind_differs : reduced r.kind first ≡ reduced r.kind second → ⊥
      kind_differs = rw part_is (differ_at counts first second some (which_accepts e).1 (which_accepts e).2 parts)

      -- and there the order is settled: it is that of the reduced strips in the book of the kinds up to it
      pub kind_decides : r.which ≡ which_of (place_in (book (take r.kind counts)) (reduced r.kind first)) (place_in (book (take r.kind counts)) (reduced r.kind second))
      kind_decides =
          let one = (which_accepts e).1 in
          let two = (which_accepts e).2 in
          let l = kind_from_two.1 in
          order_is ∙ sym (rw (place_number (take r.kind counts) (reduced r.kind first) (prefix_strip counts first one r.kind l), place_number (take r.kind counts) (reduced r.kind second) (prefix_strip counts second two r.kind l)) (decides counts first second one two r.kind l kind_differs))

-- ---- Earlier

empty_is_no_strip : (counts : List ℕ) → IsStock counts → IsStrip counts [] → ⊥
empty_is_no_strip counts stock strip = omega (arith, strip_sum counts [] strip, some_block counts stock)

-- any slice r that the contract allows for a stock and two lent strips
module _ (κs : Lfts 2) (a : Dens κs earlier.ps) (r : Lent) (s : AtExit (ended_of 2 earlier.ps earlier.r) κs) (h : earlier_reads.Post κs a r s) where
  abbrev stock : List ℕ
  stock = a.0.now

  abbrev lent_first : Lent
  lent_first = a.1.0

  abbrev lent_second : Lent
  lent_second = a.1.1.0

  abbrev first_no : No
  first_no = refused stock lent_first lent_second

  abbrev chosen : Lent
  chosen = named (order stock lent_first lent_second) lent_first lent_second

  -- where refused, the empty part at the start of the first lent strip
  pub earlier_refused : (first_no.0 ≡ 0 → ⊥) → EmptyPart lent_first r
  unfolding IsEarlier
  earlier_refused f = go first_no f h
    where
      go : (p : No) → (p.0 ≡ 0 → ⊥) → unless p (EmptyPart lent_first r) (r ≡ chosen) → EmptyPart lent_first r
      go (zero, p) f k = absurd (f refl)
      go (suc n, p) f k = k

  earlier_chosen : first_no.0 ≡ 0 → r ≡ chosen
  unfolding IsEarlier
  earlier_chosen f = go first_no f h
    where
      go : (p : No) → p.0 ≡ 0 → unless p (EmptyPart lent_first r) (r ≡ chosen) → r ≡ chosen
      go (zero, p) f k = k
      go (suc n, p) f k = absurd (omega arith)

  -- and else one of the two lent strips, the first where they are equal
  pub earlier_second : first_no.0 ≡ 0 → place_in (book stock) lent_second.now < place_in (book stock) lent_first.now → r ≡ lent_second
  earlier_second f l = earlier_chosen f ∙ rw (which_second _ _ l)

  pub earlier_first : first_no.0 ≡ 0 → place_in (book stock) lent_first.now ≤ place_in (book stock) lent_second.now → r ≡ lent_first
  earlier_first f l = earlier_chosen f ∙ rw (ne_eqb (order stock lent_first lent_second) 2 (λ e. omega (arith, only_second _ _ e)))

  -- an empty slice was refused
  pub earlier_shows : r.now ≡ [] → first_no.0 ≡ 0 → ⊥
  earlier_shows none f = go (eqb (order stock lent_first lent_second) 2) (earlier_chosen f)
    where
      strips : IsStock stock × IsStrip stock lent_first.now × IsStrip stock lent_second.now
      strips = accepted_pair stock lent_first.now lent_second.now f

      go : (b : Bool) → r ≡ second_if b lent_first lent_second → ⊥
      go true e = empty_is_no_strip stock strips.0 (rw (sym none, e) strips.2)
      go false e = empty_is_no_strip stock strips.0 (rw (sym none, e) strips.1)

-- two slices that the contract allows for one input are the same: they start at one place and hold the same blocks
pub earlier_one_slice : (κs : Lfts 2) (a : Dens κs earlier.ps) (x y : Lent) (s t : AtExit (ended_of 2 earlier.ps earlier.r) κs)
    → earlier_reads.Post κs a x s → earlier_reads.Post κs a y t → (x.ref_ptr ≡ y.ref_ptr) × (x.now ≡ y.now)
earlier_one_slice κs a x y s t h k = elim (ℕ_discrete (refused a.0.now a.1.0 a.1.1.0).0 0) [
  | yes f ↦
      let e : x ≡ y = earlier_chosen κs a x s h f ∙ sym (earlier_chosen κs a y t k f) in
      (ap (λ (r : Lent). r.ref_ptr) e, ap (λ (r : Lent). r.now) e)
  | no f ↦
      let e = earlier_refused κs a x s h f in
      let g = earlier_refused κs a y t k f in
      (e.0 ∙ sym g.0, e.1 ∙ sym g.1)
]
