-- Theorems. What a cut is, and how many there are at most.
use Prim.Native.Nat.{ℕ, suc, ◌+◌, ◌-◌, ◌≤◌, ◌<◌}
use mathlib.Core.Path.{◌≡◌, refl, sym, ◌∙◌}
use mathlib.Core.Bool.{true, false}
use mathlib.Core.List.{List, [], ◌∷◌, ◌++◌, reverse, reverse-append}
use native.Mathlib.Decide.{ℕ_discrete}
use native.Mathlib.Numerals.{add-one}
use native.Mathlib.Omega.{arith}
use borrow.Author.Tests.{lt-ltb, ne_eqb}
use lib.ListN.{length, get_or, length-reverse}
use Rattle.rules.specs.Stock.{sum, N, IsStock, IsStrip}
use Rattle.rules.specs.Book.{Letter, K, R, Word, lay, pattern, reduced}
use Rattle.rules.proofs.Turned.{sum_next}
use Rattle.rules.proofs.Patterns.{IsWord}
use Rattle.rules.proofs.Books.{lay_back}
use Rattle.rules.proofs.Reduced.{reduced_without}
use Rattle.rules.proofs.Prefixes.{prefix_word}
use Rattle.cuts.specs.Cuts.{has_both, cuts, sum_over, kind_cuts, strip_cuts, first_kind, ceiling}
use Rattle.cuts.proofs.Words.{no_r, no_k, both_turned, uncut, one_off, two_off, cuts_fewer}
use Rattle.cuts.proofs.Sums.{sum_on, sum_within, sum_part, none_before, share, at_most_840}

-- ---- a cut is one use of the pattern rule

-- the rule puts K, K R or R R after a shorter word, and of a word that has both letters a cut takes them off again
module _ (w : Word) where
  pub cut_one : has_both (w ++ (K ∷ [])) ≡ true → cuts (w ++ (K ∷ [])) ≡ suc (cuts w)
  unfolding cuts
  cut_one e =
      let r = reverse-append w (K ∷ []) in
      rw r (one_off (reverse w) (rw r at (both_turned (w ++ (K ∷ [])) ∙ e)))

  pub cut_two : (x : Letter) → has_both (w ++ (x ∷ R ∷ [])) ≡ true → cuts (w ++ (x ∷ R ∷ [])) ≡ suc (cuts w)
  unfolding cuts
  cut_two x e =
      let r = reverse-append w (x ∷ R ∷ []) in
      rw r (two_off x (reverse w) (rw r at (both_turned (w ++ (x ∷ R ∷ [])) ∙ e)))

  -- a word that has not both letters is not cut
  pub cut_none : has_both w ≡ false → cuts w ≡ 0
  unfolding cuts
  cut_none e = uncut (reverse w) (both_turned w ∙ e)

  pub cuts_below : cuts w ≤ length w - 1
  unfolding cuts
  cuts_below = omega (arith, cuts_fewer (reverse w), length-reverse w)

-- the word whose cuts are counted for kind j + 1 is the pattern by which the rule of the books lays it on the reduced strip at j
pub pattern_laid : (j : ℕ) (s : List ℕ) → lay (suc j) (reduced j s) (pattern (suc j) (reduced (suc j) s)) ≡ reduced (suc j) s
pattern_laid j s = rw (← reduced_without j s) (lay_back (suc j) (reduced (suc j) s))

-- ---- how many there are

module _ (counts s : List ℕ) (h : IsStrip counts s) where
  module _ (j : ℕ) (l : j < length counts) where
    abbrev p : Word
    p = pattern (suc j) (reduced (suc j) s)

    word : IsWord (N counts (suc j)) (N counts j) p
    word = prefix_word counts s h j l

    -- the lowest kind that has blocks is not cut
    lowest_uncut : N counts j ≡ 0 → kind_cuts s (suc j) ≡ 0
    lowest_uncut e = cut_none p (no_r p (word.1 ∙ e))

    kind_within : kind_cuts s (suc j) ≤ share counts (suc j)
    kind_within =
        let e : suc j - 1 ≡ j = omega arith in
        elim (ℕ_discrete (get_or counts j 0) 0) [
          | yes z ↦ omega (arith, cut_none p (no_k p (omega (arith, word.0, word.1, sum_next counts j l))))
          | no z ↦ elim (ℕ_discrete (N counts j) 0) [
            | yes y ↦ omega (arith, lowest_uncut y)
            | no y ↦ rw (e, lt-ltb 0 (get_or counts j 0) (omega arith), ne_eqb (suc j) (first_kind counts) (λ f. y (none_before counts j l (sym f)))) (omega (arith, cuts_below p, word.0))
          ]
        ]

  -- at most the sum of N(j) - 1 over the kinds j from 2 that have blocks, leaving out the first kind that has any
  pub cuts_at_most : strip_cuts counts s ≤ ceiling counts
  unfolding strip_cuts ceiling
  cuts_at_most = sum_within (kind_cuts s) (share counts) (length counts) kind_within

  -- and never more than 840
  pub never_more : IsStock counts → strip_cuts counts s ≤ 840
  never_more stock = omega (arith, cuts_at_most, at_most_840 counts stock)

  -- ---- in the terms of a loop that has done the first j kinds

  pub cuts_next : (j : ℕ) → j < length counts → sum_over (kind_cuts s) (j + 1) ≡ sum_over (kind_cuts s) j + kind_cuts s (j + 1)
  unfolding sum
  cuts_next j l = rw (add-one j) (sum_on (kind_cuts s) j (lowest_uncut 0 (omega arith) refl))

  pub cuts_so_far : IsStock counts → (j : ℕ) → j ≤ length counts → sum_over (kind_cuts s) j ≤ 840
  unfolding strip_cuts
  cuts_so_far stock j l = omega (arith, sum_part (kind_cuts s) j (length counts) l, never_more stock)
