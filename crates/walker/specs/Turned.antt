-- The walker with the directions of some kinds turned. That a move turns these is proved (`move_turns`), so nothing here is to be believed.
use Rattle.std.specs.Prelude.{ℕ, ◌-◌, Bool, false, ◌&&◌, map, ltb, leb, get_or}
use Rattle.rules.proofs.Listed.{flip}
use Rattle.walker.specs.declared.Walker.{Walker}
use Rattle.walker.specs.Walkers.{kinds}

-- the direction of kind j, turned where j is up to the last and above a kind
abbrev pub turned_at : ℕ → ℕ → Walker → ℕ → Bool
turned_at kind last w j = flip (leb j last && ltb kind j) (get_or w.back (j - 1) false)

-- the walker with the directions of the kinds above a kind turned, up to the last
unfoldable pub above_turned : ℕ → ℕ → Walker → Walker
above_turned kind last w = record { back = map (turned_at kind last w) kinds }
