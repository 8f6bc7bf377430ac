-- `rebuilding::rebuild::rebuild_from` meets its contract: the moves, the room for them, the proper sheet, and what differs in it.
use Prim.Native.Nat.{◌+◌, ◌*◌, ◌≤◌}
use mathlib.Core.Path.{◌≡◌, sym}
use native.Mathlib.Omega.{arith}
use lib.ListN.{length, take}
use lib.Seq.{length-take-le}
use Rattle.walking.specs.Answers.{left}
use Rattle.walking.specs.Checked.{Checked}
use Rattle.sheets.specs.Sheets.{sheet_of}
use Rattle.sheets.proofs.Lengths.{sheet_long}
use Rattle.rebuilding.specs.Rebuilding.{rebuilt_moves}
use Rattle.rebuilding.proofs.Called.{sound_stock, sound_strip, sound_long, moves_are, front_is, no_room, rebuilt}
use Rattle.rebuilding.proofs.rebuild.rebuild_from.Goals as goal
use Rattle.rebuilding.proofs.rebuild.rebuild_from.Goals.{After-moves_up_to-moves, After-put_sheet, After-walker_of-walker, Else-not-has_room}

-- the strip with its walker
ready : (c : After-walker_of-walker) → Checked c.args.stock.now c.args.strip.now c.walker_of-walker.result
ready c = record { stock = sound_stock _ _ _ c.requires; strip = sound_strip _ _ _ c.requires; walker = c.walker_of-walker.ensures }

-- how many moves are made
made : (c : After-moves_up_to-moves) → c.moves_up_to-moves.result ≡ rebuilt_moves c.args.sheet.now
made c = moves_are _ _ _ c.requires c.moves_up_to-moves.result c.moves_up_to-moves.ensures

-- past 13
room : (c : Else-not-has_room) → 83 + 3 * c.moves_up_to-moves.result ≤ length c.args.out.now
room c = c.has_room.ensures.0 (rw c.if-not-has_room.false tt)

enough : (c : Else-not-has_room) → c.moves_up_to-moves.result ≤ left c.args.stock.now c.args.strip.now
enough c = omega (arith, c.moves_up_to-moves.ensures)

-- the proper sheet stands in the buffer
long : (c : After-put_sheet) → length (let a = c.args in sheet_of a.stock.now a.strip.now c.moves_up_to-moves.result) ≡ 83 + 3 * c.moves_up_to-moves.result
long c =
    let enough : (c.moves_up_to-moves.result ≤ left c.args.stock.now c.args.strip.now) = omega (arith, c.moves_up_to-moves.ensures) in
    sheet_long _ _ (sound_stock _ _ _ c.requires) (sound_strip _ _ _ c.requires) c.moves_up_to-moves.result enough

front : (c : After-put_sheet) → take (83 + 3 * c.moves_up_to-moves.result) c.put_sheet.new.sheet ≡ (let a = c.args in sheet_of a.stock.now a.strip.now c.moves_up_to-moves.result)
front c = front_is c.put_sheet.new.sheet (let a = c.args in sheet_of a.stock.now a.strip.now c.moves_up_to-moves.result) _ (83 + 3 * c.moves_up_to-moves.result) (long c) c.put_sheet.ensures

fits : (c : After-put_sheet) → 83 + 3 * c.moves_up_to-moves.result ≤ length c.put_sheet.new.sheet
fits c =
    let room : (83 + 3 * c.moves_up_to-moves.result ≤ length c.args.out.now) = c.has_room.ensures.0 (rw c.if-not-has_room.false tt) in
    omega (arith, room, c.put_sheet.auto.sheet)

-- the damaged sheet has bytes for each of the moves
held : (c : After-put_sheet) → 82 + 3 * c.moves_up_to-moves.result ≤ length c.args.sheet.now
held c = omega (arith, c.moves_up_to-moves.ensures, sound_long _ _ _ c.requires)

pub returns-then-not-has_room : goal.returns-then-not-has_room
returns-then-not-has_room c =
    no_room c.args.sheet.now c.args.out.now _ _ c.requires c.moves_up_to-moves.result (made (goal.at.returns-then-not-has_room c).After-moves_up_to-moves) (c.has_room.ensures.1 (rw c.if-not-has_room.true tt)) _ c.at.ensures

pub returns : goal.returns
returns c =
    rebuilt c.args.sheet.now c.args.out.now _ _ c.requires c.moves_up_to-moves.result (made (goal.at.returns c).After-moves_up_to-moves) (room (goal.at.returns c).Else-not-has_room) c.differ-found.result
    (rw (front (goal.at.returns c).After-put_sheet) at c.differ-found.ensures) _ c.put_sheet.ensures

pub overflow_sub-most : goal.overflow_sub-most
overflow_sub-most c = omega (arith, sound_long _ _ _ c.requires)

pub walker_of-walker-requires : goal.walker_of-walker-requires
walker_of-walker-requires c = let p = c.requires in (sound_stock _ _ _ p, sound_strip _ _ _ p)

pub moves_up_to-moves-requires : goal.moves_up_to-moves-requires
moves_up_to-moves-requires c = ready (goal.at.moves_up_to-moves-requires c).After-walker_of-walker

pub put_sheet-requires : goal.put_sheet-requires
put_sheet-requires c = (ready (goal.at.put_sheet-requires c).After-walker_of-walker, enough (goal.at.put_sheet-requires c).Else-not-has_room, room (goal.at.put_sheet-requires c).Else-not-has_room)

pub slice_bounds-differ-end : goal.slice_bounds-differ-end
slice_bounds-differ-end c = omega (arith, fits (goal.at.slice_bounds-differ-end c).After-put_sheet)

pub slice_bounds-differ-end-2 : goal.slice_bounds-differ-end-2
slice_bounds-differ-end-2 c = sym (length-take-le _ _ (fits (goal.at.slice_bounds-differ-end-2 c).After-put_sheet))

pub differ-found-requires : goal.differ-found-requires
differ-found-requires c = (omega (arith, length-take-le (83 + 3 * c.moves_up_to-moves.result) c.put_sheet.new.sheet (fits (goal.at.differ-found-requires c).After-put_sheet)), held (goal.at.differ-found-requires c).After-put_sheet)
