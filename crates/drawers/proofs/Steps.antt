-- Proofs. The next strip, and refusal 9, from what the step says of a strip that 1 to 6 have passed.
use Prim.Native.Nat.{ℕ, suc, ◌+◌}
use mathlib.Core.Path.{◌≡◌, ◌∙◌}
use mathlib.Core.Bool.{Bool, true, false}
use mathlib.Core.List.{List, [], ◌∷◌}
use native.Mathlib.Numerals.{add-one}
use native.Mathlib.Omega.{arith}
use borrow.Author.Tests.{eq-eqb, ne_eqb}
use lib.ListN.{get_or}
use Rattle.rules.specs.Stock.{total, IsStock, IsStrip}
use Rattle.rules.specs.Book.{place_in}
use Rattle.rules.specs.Refusals.{No, fine, first_of, check_nos}
use Rattle.rules.proofs.Checks.{accepted_both}
use Rattle.stock.specs.declared.refused.Refused.{Refused}
use Rattle.stock.specs.declared.refused.Reason.TheVariants.{NoMove}
use Rattle.stock.specs.Refused.{no_of}
use Rattle.stock.proofs.Told.{passed, stopped_first, passed_next, stopped_left, passed_left}
use Rattle.dictionary.specs.Dictionary.{dictionary}
use Rattle.succession.specs.Steps.{Advanced}
use Rattle.drawers.specs.Answers.{last_no, dictionary_next_nos, dictionary_next_after}

module _ (counts s : List ℕ) where
  -- refused by 1 to 6
  pub refused : (e : Refused) → no_of e ≡ first_of (check_nos counts s) → (no_of e ≡ first_of (dictionary_next_nos counts s)) × (s ≡ dictionary_next_after counts s)
  unfolding dictionary_next_after dictionary_next_nos
  refused e is =
      let f = stopped_first (check_nos counts s) e is (last_no counts s ∷ []) in
      (f, stopped_left (dictionary_next_nos counts s) s _ e f)

  module _ (z : fine ≡ first_of (check_nos counts s)) where
    pub good : IsStock counts × IsStrip counts s
    good = accepted_both counts s (passed (check_nos counts s) z)

    -- 9 decides
    decided : (q : No) → q ≡ first_of (last_no counts s ∷ []) → q ≡ first_of (dictionary_next_nos counts s)
    unfolding dictionary_next_nos
    decided q e = passed_next (check_nos counts s) (last_no counts s ∷ []) z q e

    module _ (moved : Bool) (t : List ℕ) (a : Advanced counts s moved t) where
      pub ended : moved ≡ false → ((9, 0) ≡ first_of (dictionary_next_nos counts s)) × (t ≡ dictionary_next_after counts s)
      unfolding dictionary_next_after first_of
      ended m =
          let e = decided (9, 0) (rw (add-one (place_in (dictionary counts) s), eq-eqb (suc (place_in (dictionary counts) s)) (total counts) (a.end m).0)) in
          (e, (a.end m).1 ∙ stopped_left (dictionary_next_nos counts s) s _ (record { reason = NoMove; place = 0 }) e)

      pub stepped : moved ≡ true → (fine ≡ first_of (dictionary_next_nos counts s)) × (t ≡ dictionary_next_after counts s)
      unfolding dictionary_next_after first_of
      stepped m =
          let e = decided fine (rw (add-one (place_in (dictionary counts) s), ne_eqb (suc (place_in (dictionary counts) s)) (total counts) (λ f. omega (arith, (a.on m).0)))) in
          let next : t ≡ get_or (dictionary counts) (place_in (dictionary counts) s + 1) [] = rw (add-one (place_in (dictionary counts) s)) (a.on m).1 in
          (e, next ∙ passed_left (dictionary_next_nos counts s) s _ e)
