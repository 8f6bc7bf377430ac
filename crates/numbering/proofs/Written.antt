-- Proofs. A call that writes the strip of a number into a buffer: what it comes to, from what its checks come to.
use Prim.Native.Nat.{ℕ, ◌^◌, ◌<◌}
use mathlib.Core.Path.{◌≡◌}
use mathlib.Core.List.{List, [], ◌∷◌}
use lib.ListN.{length}
use Rattle.rules.specs.Stock.{sum, total, IsStock}
use Rattle.rules.specs.Refusals.{No, fine, first_of, buffer_nos, many_no, above_no}
use Rattle.rules.proofs.Checks.{accepted_buffer, accepted_number}
use Rattle.stock.specs.declared.refused.Refused.{Refused}
use Rattle.stock.specs.Refused.{no_of}
use Rattle.stock.proofs.Told.{passed, stopped_first, passed_next}
use Rattle.numbering.specs.Answers.{by_number_nos}

module _ (counts : List ℕ) (number : ℕ) where
  abbrev rows : List No
  rows = many_no counts ∷ above_no counts number ∷ []

  -- 7 and 8 refuse nothing
  pub in_range : fine ≡ first_of rows → (total counts < 2 ^ 64) × (number < total counts)
  in_range h = accepted_number counts number (passed rows h)

  module _ (buffer : List ℕ) where
    -- refused by 1 to 4
    pub refused : (e : Refused) → no_of e ≡ first_of (buffer_nos counts buffer) → no_of e ≡ first_of (by_number_nos counts number buffer)
    unfolding by_number_nos
    refused e is = stopped_first (buffer_nos counts buffer) e is rows

    module _ (z : fine ≡ first_of (buffer_nos counts buffer)) where
      pub good : IsStock counts × (length buffer ≡ sum counts)
      good = accepted_buffer counts buffer (passed (buffer_nos counts buffer) z)

      -- 7 and 8 decide
      pub decided : (q : No) → q ≡ first_of rows → q ≡ first_of (by_number_nos counts number buffer)
      unfolding by_number_nos
      decided q is = passed_next (buffer_nos counts buffer) rows z q is
