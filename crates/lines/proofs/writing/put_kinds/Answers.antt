-- The first kind, then the others, each with a hyphen before it.
use Prim.Native.Nat.{ℕ, ◌+◌, ◌<◌}
use mathlib.Core.Path.{◌≡◌, ap, ◌∙◌}
use mathlib.Core.List.{List, map}
use native.Mathlib.Omega.{arith}
use lib.ListN.{length, get_or, length-append}
use Rattle.lines.specs.Text.{hyphen, decimal, joined}
use Rattle.lines.proofs.Parts.{kinds_from, kinds_first, kinds_next, kinds_end, others_length, others_at}
use Rattle.lines.proofs.Putting.{writes_none, writes_on}
use Rattle.lines.proofs.writing.put_kinds.Goals as goal
use Rattle.lines.proofs.writing.put_kinds.Goals.{In-loop-kind}

-- the room of all kinds is that of the first and of the others
first_room : (s : List ℕ) → 0 < length s → length (joined hyphen (map decimal s)) ≡ length (decimal (get_or s 0 0)) + length (kinds_from 1 s)
first_room s h = ap length (kinds_first s h) ∙ length-append (decimal (get_or s 0 0)) (kinds_from 1 s)

-- and that of some others is that of a hyphen, the next kind and the others behind it
next_room : (s : List ℕ) (i : ℕ) → i < length s → length (kinds_from i s) ≡ 1 + length (decimal (get_or s i 0)) + length (kinds_from (i + 1) s)
next_room s i h = ap length (kinds_next s i h) ∙ omega (arith, length-append (decimal (get_or s i 0)) (kinds_from (i + 1) s))

pub put_decimal-requires : goal.put_decimal-requires
put_decimal-requires c = rw c.from.ensures (omega (arith, c.type_inv.strip 0), omega (arith, c.requires.1, first_room c.args.strip.now c.requires.0))

pub loop-kind-init : goal.loop-kind-init
loop-kind-init c =
    let w = rw c.from.ensures at c.put_decimal.ensures in
    let r = first_room c.args.strip.now c.requires.0 in
    record {
      room = omega (arith, w.kept, w.puts.0, r);
      rest = λ after v. rw (kinds_first c.args.strip.now c.requires.0) (writes_on w v (omega (arith, r)));
    }

-- there is a next kind
inside : (c : In-loop-kind) → c.loop-kind.kind-index + 1 < length c.args.strip.now
inside c = omega (arith, others_length c.args.strip.now)

pub put_byte-requires : goal.put_byte-requires
put_byte-requires c =
    omega (arith, next_room c.args.strip.now (c.loop-kind.kind-index + 1) (inside (goal.at.put_byte-requires c).In-loop-kind))

pub put_decimal-requires-in-loop-kind : goal.put_decimal-requires-in-loop-kind
put_decimal-requires-in-loop-kind c =
    let h = inside (goal.at.put_decimal-requires-in-loop-kind c).In-loop-kind in
    rw (c.from-in-loop-kind.ensures, others_at c.args.strip.now c.loop-kind.kind-index (omega arith))
    (omega (arith, c.type_inv.strip (c.loop-kind.kind-index + 1)), omega (arith, next_room c.args.strip.now (c.loop-kind.kind-index + 1) h))

pub loop-kind-preserved : goal.loop-kind-preserved
loop-kind-preserved c =
    let h = inside (goal.at.loop-kind-preserved c).In-loop-kind in
    let r = next_room c.args.strip.now (c.loop-kind.kind-index + 1) h in
    let w = rw (c.from-in-loop-kind.ensures, others_at c.args.strip.now c.loop-kind.kind-index (omega arith)) at c.put_decimal-in-loop-kind.ensures in
    record {
      room = omega (arith, r, w.kept, w.puts.0);
      rest = λ after v. c.loop-kind.invariant.rest after (rw (kinds_next c.args.strip.now (c.loop-kind.kind-index + 1) h) (writes_on c.put_byte.ensures (writes_on w v (omega (arith, r))) (omega (arith, r))));
    }

pub returns : goal.returns
returns c =
    c.loop-kind.invariant.rest c.loop-kind.line
    (rw (kinds_end c.args.strip.now (c.loop-kind.kind-index + 1) (omega (arith, others_length c.args.strip.now))) (writes_none c.loop-kind.line))
