-- Proofs. Refusals 15 and 16 of a list of pairs: as a check finds them, and what a list that passes both is.
use Prim.Native.Nat.{ℕ, ◌≤◌, ◌<◌}
use mathlib.Core.Path.{◌≡◌, sym, ap, ◌∙◌}
use mathlib.Core.List.{List, [], ◌∷◌}
use borrow.Author.Tests.{ltb-false, lt-ltb, le-ltb}
use Rattle.rules.specs.Stock.{sum, total}
use Rattle.rules.specs.Refusals.{No, fine, at_place, first_of}
use Rattle.rules.proofs.Refusals.{at_place_lem}
use Rattle.rules.proofs.Checks.{when_passed, at_passed, passed_head}
use Rattle.bar.specs.Pairs.{wrong_from, large_no, pairs_no}
use Rattle.bar.proofs.Pairs.{Right, none_wrong_right, right_none_wrong}

module _ (counts pairs : List ℕ) where
  abbrev rows : List No
  rows = large_no counts ∷ pairs_no counts pairs ∷ []

  -- ---- by T, and then by the number of the first wrong pair

  pub fifteen : 4096 < total counts → (15, 0) ≡ first_of rows
  unfolding first_of
  fifteen l = rw (lt-ltb 4096 (total counts) l)

  module _ (small : total counts ≤ 4096) (n : ℕ) (blocks : n ≡ sum counts) (w : ℕ) (w_is : w ≡ wrong_from 1 n pairs) where
    wrong_is : wrong_from 1 (sum counts) pairs ≡ w
    wrong_is = rw (← blocks) (sym w_is)

    passes_large : first_of rows ≡ first_of (pairs_no counts pairs ∷ [])
    unfolding first_of
    passes_large = rw (le-ltb 4096 (total counts) small)

    pub sixteen : (w ≡ 0 → ⊥) → (16, w) ≡ first_of rows
    sixteen h = sym (passes_large ∙ ap (λ (w : ℕ). first_of (at_place 16 w ∷ [])) wrong_is ∙ at_place_lem 15 [] w h)

    pub neither : w ≡ 0 → fine ≡ first_of rows
    unfolding first_of
    neither z = sym (passes_large ∙ rw (wrong_is, z))

  -- ---- a list that passes both

  pub rows_passed : (first_of rows).0 ≡ 0 → (total counts ≤ 4096) × Right (sum counts) pairs
  rows_passed e =
      let a = passed_head (large_no counts) (pairs_no counts pairs ∷ []) e in
      let b = passed_head (pairs_no counts pairs) [] a.1 in
      (ltb-false 4096 (total counts) (when_passed 14 0 _ a.0), none_wrong_right 0 (sum counts) pairs (at_passed 15 _ b.0))

  pub rows_passed_back : total counts ≤ 4096 → Right (sum counts) pairs → (first_of rows).0 ≡ 0
  unfolding first_of
  rows_passed_back l r = rw (le-ltb 4096 (total counts) l, right_none_wrong 1 (sum counts) pairs r)
