-- `succession::ends::last_rise` meets its contract. The invariant: the blocks before the place looked at last, and that one, are not passed; the tail from there on falls.
use Prim.Native.Nat.{◌-◌}
use lib.ListN.{drop}
use Rattle.dictionary.proofs.Following.{Falls}
use Rattle.succession.proofs.ends.last_rise.Given as goal

abbrev pub invariant-loop-behind : goal.invariant-loop-behind
invariant-loop-behind l = Falls (drop (l.behind - 1) l.strip)
