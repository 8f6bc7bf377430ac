-- `writing::whole::put_sheet` meets its contract: the sheet is filled record by record.
use Prim.Native.Nat.{ℕ, ◌+◌, ◌*◌}
use mathlib.Core.Path.{◌≡◌, ◌∙◌}
use mathlib.Core.List.{List, ◌++◌, append_assoc}
use native.Mathlib.Omega.{arith}
use lib.ListN.{drop}
use Rattle.rules.proofs.Strips.{strip_fits}
use Rattle.copying.proofs.Copies.{copy_start}
use Rattle.sheets.specs.Sheets.{stock_record, strip_record, move_records, end_record, sheet_of}
use Rattle.sheets.proofs.Rest.{Filled, first, more}
use Rattle.writing.proofs.Listing.{of_same}
use Rattle.writing.proofs.whole.put_sheet.Goals as goal

-- the records, one after the other, are the sheet
whole : (counts s z₀ z : List ℕ) (c : ℕ) → Filled z₀ z (((stock_record counts ++ strip_record s) ++ move_records counts s c) ++ end_record) (82 + 3 * c + 1)
    → z ≡ sheet_of counts s c ++ drop (83 + 3 * c) z₀
unfolding sheet_of
whole counts s z₀ z c v =
    let m = move_records counts s c in
    let n : 82 + 3 * c + 1 ≡ 83 + 3 * c = omega arith in
    v.put ∙ rw (n, append_assoc (stock_record counts ++ strip_record s) m end_record, append_assoc (stock_record counts) (strip_record s) (m ++ end_record))

pub put_opening-requires : goal.put_opening-requires
put_opening-requires c = (c.requires.0.stock, strip_fits _ _ c.requires.0.stock c.requires.0.strip, omega (arith, c.requires.2))

pub copied-word-requires : goal.copied-word-requires
copied-word-requires c = strip_fits _ _ c.requires.0.stock c.requires.0.strip

pub returns : goal.returns
returns c =
    let room = c.requires.2 in
    let own = copy_start 64 c.args.strip.now c.copied-word.result c.copied-word.ensures in
    let opened = first _ _ _ 82 (omega (arith, room)) c.put_opening.auto.rest c.put_opening.ensures in
    let listed = more _ _ _ 82 opened (3 * c.args.moves) c.put_moves.new.rest _ (omega (arith, room)) c.put_moves.auto.rest (of_same _ _ _ _ _ _ own c.put_moves.ensures) in
    whole _ _ _ _ _ (more _ _ _ (82 + 3 * c.args.moves) listed 1 c.put_end.new.rest end_record (omega (arith, room)) c.put_end.auto.rest c.put_end.ensures)
