-- Proofs. A call that gives the number of a strip: what it comes to, from what its checks come to.
use Prim.Native.Nat.{ℕ, ◌^◌, ◌≤◌, ◌<◌}
use mathlib.Core.Path.{◌≡◌}
use mathlib.Core.List.{List, [], ◌∷◌}
use Rattle.rules.specs.Stock.{total, IsStock, IsStrip}
use Rattle.rules.specs.Refusals.{fine, first_of, check_nos, many_no}
use Rattle.rules.proofs.Refusals.{many_refused, many_passed}
use Rattle.rules.proofs.Checks.{accepted_both}
use Rattle.stock.specs.declared.refused.Refused.{Refused}
use Rattle.stock.specs.Refused.{no_of}
use Rattle.stock.proofs.Told.{passed, stopped_first, passed_next}
use Rattle.numbering.specs.Answers.{number_nos}

module _ (counts s : List ℕ) where
  -- refused by 1 to 6
  pub refused : (e : Refused) → no_of e ≡ first_of (check_nos counts s) → no_of e ≡ first_of (number_nos counts s)
  unfolding number_nos
  refused e is = stopped_first (check_nos counts s) e is (many_no counts ∷ [])

  module _ (z : fine ≡ first_of (check_nos counts s)) where
    pub good : IsStock counts × IsStrip counts s
    good = accepted_both counts s (passed (check_nos counts s) z)

    -- 7 decides
    pub many : 2 ^ 64 ≤ total counts → (7, 0) ≡ first_of (number_nos counts s)
    unfolding number_nos first_of
    many h = passed_next (check_nos counts s) (many_no counts ∷ []) z (7, 0) (rw (many_refused counts h))

    pub few : total counts < 2 ^ 64 → fine ≡ first_of (number_nos counts s)
    unfolding number_nos first_of
    few h = passed_next (check_nos counts s) (many_no counts ∷ []) z fine (rw (many_passed counts h))
