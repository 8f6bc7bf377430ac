-- `writing::sheet::write_moves` meets its contract: 13, then 9, then the sheet.
use Prim.Native.Nat.{◌+◌, ◌*◌, ◌≤◌}
use mathlib.Core.Path.{◌≡◌}
use native.Mathlib.Omega.{arith}
use lib.ListN.{length}
use Rattle.rules.specs.Refusals.{first_of, check_nos}
use Rattle.rules.proofs.Checks.{accepted_both_back}
use Rattle.sheets.specs.Sheets.{sheet_of}
use Rattle.sheets.proofs.Called.{no_room, fewer, written}
use Rattle.writing.proofs.sheet.write_moves.Goals as goal
use Rattle.writing.proofs.sheet.write_moves.Goals.{Else-not-has_room, Start}

-- 1 to 6 refuse nothing
none_yet : (b : Start) → (first_of (check_nos b.args.stock.now b.args.strip.now)).0 ≡ 0
none_yet b = accepted_both_back _ _ b.requires.0 b.requires.1

-- past 13
room : (c : Else-not-has_room) → 83 + 3 * c.args.moves ≤ length c.args.sheet.now
room c = c.has_room.ensures.0 (rw c.if-not-has_room.false tt)

pub returns-then-not-has_room : goal.returns-then-not-has_room
returns-then-not-has_room c =
    let a = c.args in
    rw c.at.ensures (no_room _ (sheet_of a.stock.now a.strip.now a.moves) _ _ a.moves a.sheet.now (none_yet (goal.at.returns-then-not-has_room c).Start) (c.has_room.ensures.1 (rw c.if-not-has_room.true tt)))

pub returns-then-moves_up_to-c : goal.returns-then-moves_up_to-c
returns-then-moves_up_to-c c =
    let a = c.args in
    rw c.at-then-moves_up_to-c.ensures (fewer _ (sheet_of a.stock.now a.strip.now a.moves) _ _ a.moves a.sheet.now (none_yet (goal.at.returns-then-moves_up_to-c c).Start) (room (goal.at.returns-then-moves_up_to-c c).Else-not-has_room) (omega (arith, c.moves_up_to.ensures)))

pub returns : goal.returns
returns c =
    let a = c.args in
    written _ _ _ _ a.moves a.sheet.now (none_yet (goal.at.returns c).Start) (room (goal.at.returns c).Else-not-has_room) (omega (arith, c.moves_up_to.ensures)) _ c.put_sheet.ensures
