-- The theorem on `step_left`, over its contract as the function states it: `Post` says which answers it allows for which word.
use contract.Lifetimes.{Lfts}
use borrow.Fn.Kinds.{Dens, ended_of}
use denote.Triple.Clauses.{AtExit}
use Rattle.std.proofs.Common.{Option}
use Rattle.moves.specs.declared.Step.{Step}
use Rattle.moves.proofs.Theorems.{Right, move_right}
use Rattle.left.proofs.steps.step_left.Kinds as step_left
use Rattle.left.proofs.steps.step_left.Reads as reads

-- any answer that the contract allows is right, as that of `next` and `prev` is
pub step_left_right : (κs : Lfts 1) (args : Dens κs step_left.ps) (r : Option Step) (s : AtExit (ended_of 1 step_left.ps step_left.r) κs) → reads.Post κs args r s
    → Right args.1.1.1.0 args.1.0 args.0.now r
step_left_right κs args r s h = move_right args.1.1.1.0 args.1.0 args.0.now r h
