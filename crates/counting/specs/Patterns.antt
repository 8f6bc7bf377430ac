-- How many patterns each kind has, as the calls on numbers lend it on. No open call's contract cites it, so nothing here is to be believed.
use Rattle.std.specs.Prelude.{ℕ, suc, ◌<◌, ◌≡◌, List, length, get_or}
use Rattle.rules.specs.Stock.{N, binom}

-- of sixteen numbers, those of the stock's kinds: C(N(j), N(j-1)) for kind j, kind 1 first
pub record ArePatterns (counts patterns : List ℕ) : Type 0 where
  pub room : length patterns ≡ 16
  pub each : (j : ℕ) → j < length counts → get_or patterns j 0 ≡ binom (N counts (suc j)) (N counts j)
