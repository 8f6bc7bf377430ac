-- At every turn the line has room, and the printer is one that gives the next line.
use Prim.Native.Nat.{◌≤◌}
use mathlib.Core.Path.{◌≡◌}
use lib.ListN.{length}
use Rattle.printing.specs.States.{Sound}
use Rattle.printout.proofs.each_line.Given as goal

abbrev pub invariant-loop-index : goal.invariant-loop-index
invariant-loop-index g l = record {
  callable : goal.F-IsAlwaysCallable g l.put;
  room : length l.line ≡ 256;
  inside : l.printed.length ≤ length l.line;
  sound : Sound l.printed.printer;
}
