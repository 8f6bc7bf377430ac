-- The kinds that are left, each with a hyphen before it, have room, and once they are written all kinds are.
use Prim.Native.Nat.{◌+◌, ◌≤◌}
use mathlib.Core.List.{map}
use lib.ListN.{length}
use Rattle.lines.specs.Text.{hyphen, decimal, joined}
use Rattle.lines.specs.declared.text.Line.{Line}
use Rattle.lines.specs.Writing.{Writes}
use Rattle.lines.proofs.Parts.{kinds_from}
use Rattle.lines.proofs.writing.put_kinds.Given as goal

abbrev pub invariant-loop-kind : goal.invariant-loop-kind
invariant-loop-kind l = record {
  room : l.line.end + length (kinds_from (l.kind-index + 1) l.fn.strip) ≤ length l.line.bytes.now;
  rest : (after : Line) → Writes l.line (kinds_from (l.kind-index + 1) l.fn.strip) after → Writes l.fn.line (joined hyphen (map decimal l.fn.strip)) after;
}
