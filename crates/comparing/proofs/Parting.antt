-- Proofs. The kind at which two strips of a stock part: below it the reduced strips are the same, at it they differ, and where there is none the strips are
-- the same.
use Prim.Native.Nat.{ℕ, zero, suc, ◌+◌, ◌-◌, ◌≤◌, ◌<◌}
use mathlib.Core.Path.{◌≡◌, refl, sym, ap, ◌∙◌}
use mathlib.Core.Bool.{Bool, true, false, not, false≢true}
use mathlib.Core.List.{List}
use native.Mathlib.Decide.{dec_lt}
use native.Mathlib.Numerals.{add-one}
use native.Mathlib.Omega.{arith}
use lib.ListN.{length, get_or, take, drop, length-drop}
use Rattle.rules.specs.Stock.{sum, IsStrip}
use Rattle.rules.specs.Book.{same, reduced}
use Rattle.rules.proofs.Smallest.{FoundAt, smallest_nowhere, smallest_zero, smallest_found}
use Rattle.rules.proofs.Turned.{sum_next}
use Rattle.rules.proofs.Patterns.{binom_self}
use Rattle.rules.proofs.Books.{number'}
use Rattle.rules.proofs.Strips.{number}
use Rattle.rules.proofs.Index.{index}
use Rattle.rules.proofs.Places.{same_self, same_not, same_true}
use Rattle.rules.proofs.Reduced.{prefix_all}
use Rattle.rules.proofs.Prefixes.{one_kind_first, one_more}
use Rattle.comparing.specs.Order.{is_parted, parting_kind}
use Rattle.comparing.proofs.Ahead.{same_number}

-- ---- one kind

-- whatever its count
module _ (s t : List ℕ) (kind : ℕ) where
  pub parted_yes : (reduced kind s ≡ reduced kind t → ⊥) → is_parted s t kind 0 ≡ true
  parted_yes h = rw (same_not (reduced kind s) (reduced kind t) h)

  pub parted_no : reduced kind s ≡ reduced kind t → is_parted s t kind 0 ≡ false
  parted_no e = rw (e, same_self (reduced kind t))

  only_differing : is_parted s t kind 0 ≡ true → reduced kind s ≡ reduced kind t → ⊥
  only_differing h e = false≢true (sym (parted_no e) ∙ h)

  only_alike : is_parted s t kind 0 ≡ false → reduced kind s ≡ reduced kind t
  only_alike h = same_true (reduced kind s) (reduced kind t) (go (same (reduced kind s) (reduced kind t)) h)
    where
      go : (b : Bool) → not b ≡ false → b ≡ true
      go true h = refl
      go false h = absurd (false≢true (sym h))

-- ---- the kinds of a stock

module _ (counts s t : List ℕ) (some : 0 < length counts) (hs : IsStrip counts s) (ht : IsStrip counts t) where
  -- kind 1 alone has one strip
  pub alike_one : reduced 1 s ≡ reduced 1 t
  alike_one = same_number counts s t hs ht 1 some (one_kind_first counts s hs some ∙ sym (one_kind_first counts t ht some))

  alike_low : (j : ℕ) → j < 2 → reduced j s ≡ reduced j t
  unfolding number number'
  alike_low zero h = same_number counts s t hs ht 0 (omega arith) refl
  alike_low (suc zero) h = alike_one
  alike_low (suc (suc j)) h = absurd (omega arith)

  -- from kind 2 on by the test of the definition
  alike_at : (j : ℕ) → (2 ≤ j → is_parted s t (2 + (j - 2)) 0 ≡ false) → reduced j s ≡ reduced j t
  alike_at j tested = elim (dec_lt j 2) [
    | yes h ↦ alike_low j h
    | no h ↦
        let e : 2 + (j - 2) ≡ j = omega arith in
        only_alike s t j (rw e at (tested (omega arith)))
  ]

  -- a kind without blocks has one pattern: strips that are alike below it are alike in it
  alike_in_none : (j : ℕ) → j < length counts → get_or counts j 0 ≡ 0 → reduced j s ≡ reduced j t → reduced (j + 1) s ≡ reduced (j + 1) t
  alike_in_none j l z e =
      let n = sum (take j counts) in
      let all : sum (take (j + 1) counts) ≡ n = rw (add-one j) (omega (arith, sum_next counts j l)) in
      let m₁ = one_more counts s hs j l in
      let m₂ = one_more counts t ht j l in
      let i₁ : index (j + 1) (reduced (j + 1) s) ≡ 0 = omega (arith, rw (all, binom_self n) at m₁.within) in
      let i₂ : index (j + 1) (reduced (j + 1) t) ≡ 0 = omega (arith, rw (all, binom_self n) at m₂.within) in
      same_number counts s t hs ht (j + 1) (omega arith) (sym m₁.next ∙ rw (i₁, e) (rw i₂ at m₂.next))

  -- where no kind is reported
  pub none_same : parting_kind counts s t ≡ 0 → s ≡ t
  none_same z =
      let k = length counts in
      let e : reduced k s ≡ reduced k t = alike_at k (λ h. smallest_zero (is_parted s t) 1 (drop 1 counts) z (k - 2) (simp length-drop (omega arith))) in
      sym (prefix_all counts s hs) ∙ e ∙ prefix_all counts t ht

  pub same_none : s ≡ t → parting_kind counts s t ≡ 0
  same_none e = smallest_nowhere (is_parted s t) 2 (drop 1 counts) (λ i h. parted_no s t (2 + i) (ap (reduced (2 + i)) e))

  -- where one is
  module _ (parted : parting_kind counts s t ≡ 0 → ⊥) where
    found : (i : ℕ) × FoundAt (is_parted s t) 2 (drop 1 counts) i
    found = smallest_found (is_parted s t) 2 (drop 1 counts) parted

    pub from_two : 2 ≤ parting_kind counts s t
    from_two = omega (arith, found.1.is)

    pub to_last : parting_kind counts s t ≤ length counts
    to_last = let w : found.0 < length counts - 1 = rw (length-drop 1 counts) at found.1.within in omega (arith, found.1.is)

    pub differ_at : reduced (parting_kind counts s t) s ≡ reduced (parting_kind counts s t) t → ⊥
    differ_at = rw found.1.is (only_differing s t (2 + found.0) found.1.holds)

    pub alike_below : (j : ℕ) → j < parting_kind counts s t → reduced j s ≡ reduced j t
    alike_below j l = alike_at j (λ h. found.1.before (j - 2) (omega (arith, found.1.is)))

    pub has_blocks : 1 ≤ get_or counts (parting_kind counts s t - 1) 0
    has_blocks = elim (dec_lt 0 (get_or counts (parting_kind counts s t - 1) 0)) [
      | yes h ↦ h
      | no h ↦
          let k = parting_kind counts s t in
          let e : k - 1 + 1 ≡ k = omega (arith, from_two) in
          absurd (differ_at (rw e at (alike_in_none (k - 1) (omega (arith, from_two, to_last)) (omega arith) (alike_below (k - 1) (omega (arith, from_two))))))
    ]
