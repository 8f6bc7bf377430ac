-- `replaying::replay::replay_checked` meets its contract: the flags are clear.
use Prim.Native.Nat.{ℕ, ◌≤◌}
use mathlib.Core.Path.{◌≡◌, sym, ◌∙◌}
use mathlib.Core.List.{List}
use native.Mathlib.Omega.{arith}
use Rattle.rules.specs.Stock.{total}
use Rattle.flags.proofs.Flagging.{part_length, part_clear}
use Rattle.replaying.specs.Replayable.{Replayable}
use Rattle.replaying.proofs.replay.replay_checked.Goals as goal

-- the book has no more strips than there are flags
fits : (counts s pairs : List ℕ) (strips : ℕ) → Replayable counts s pairs → strips ≡ total counts → strips ≤ 4096
fits counts s pairs strips r e = omega (arith, r.small)

pub slice_bounds-replay_with-end : goal.slice_bounds-replay_with-end
slice_bounds-replay_with-end c = sym (part_length c.args.strips 4096 (fits _ _ _ _ c.requires.1 c.requires.2) _)

pub replay_with-requires : goal.replay_with-requires
replay_with-requires c =
    let f = fits _ _ _ _ c.requires.1 c.requires.2 in
    (c.requires.0, c.requires.1, part_length c.args.strips 4096 f _ ∙ c.requires.2, part_clear c.args.strips 4096 f)
