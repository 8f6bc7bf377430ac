-- The counts that are done, and what is read from here on, are what is read of the line.
use Rattle.counts.proofs.ReadOn.{ReadOn}
use Rattle.counts.proofs.read_counts.Given as goal

abbrev pub invariant-loop-byte : goal.invariant-loop-byte
invariant-loop-byte l = ReadOn l.line l.counts l.begun l.byte-index
