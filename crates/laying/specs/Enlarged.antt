-- Numbers of patterns that go along multiplied, so that they need no quotient. No open call's contract cites them, so nothing here is to be believed.
use Rattle.std.specs.Prelude.{ℕ, ◌-◌, ◌*◌, ◌<◌, ◌≡◌}
use Rattle.rules.specs.Stock.{binom}

-- all the patterns of a letters with b letters R, and the index i of one of them, each `times` as large as it is
pub record Enlarged (a b i all index times : ℕ) : Type 0 where
  pub some : 0 < times
  pub within : i < binom a b
  pub all_is : all ≡ binom a b * times
  pub index_is : index ≡ i * times

-- and those that end in K
pub record InParts (a b i all in_k index times : ℕ) : Type 0 where
  pub number : Enlarged a b i all index times
  pub in_k_is : in_k ≡ binom (a - 1) b * times
