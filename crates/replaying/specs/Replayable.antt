-- What the functions behind Replay ask for. No open call's contract cites it, so nothing here is to be believed.
use Rattle.std.specs.Prelude.{ℕ, ◌≤◌, List}
use Rattle.rules.specs.Stock.{sum, total, IsStock, IsStrip}
use Rattle.bar.proofs.Pairs.{Right}

-- nothing is refused: an accepted stock of up to 4,096 strips, a strip of it, and right pairs
pub record Replayable (counts s pairs : List ℕ) : Type 0 where
  pub stock : IsStock counts
  pub strip : IsStrip counts s
  pub small : total counts ≤ 4096
  pub right : Right (sum counts) pairs
