-- What a finder of moves answers. No open call's contract cites it, so nothing here is to be believed.
use Rattle.std.specs.Prelude.{ℕ, Bool, List, Option, Some, None}
use Rattle.std.proofs.Math.Option as maybe
use Rattle.std.proofs.Math.Option.{none, some}
use Rattle.rules.specs.Book.{pattern}
use Rattle.rules.proofs.Moves.{move_e}
use Rattle.moves.specs.declared.Step.{Step}

-- the two places to exchange, from 0, smaller first, where there is a move
abbrev pub step : maybe.Option (ℕ × ℕ) → Option Step
step none = None
step (some pq) = Some (record { low = pq.0; high = pq.1 })

-- the move on, or at true back, in the list of kind j's patterns, from that of a word of blocks: what every finder promises
abbrev pub step_of : Bool → ℕ → List ℕ → Option Step
step_of back j w = step (move_e back (pattern j w))
