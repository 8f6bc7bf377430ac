-- `reading::reader::read_whole` meets its contract: by 4, by the first two records, by the moves and the end, or the final strip.
use mathlib.Core.Path.{◌≡◌, ◌∙◌}
use mathlib.Core.List.{[]}
use native.Mathlib.Omega.{arith}
use lib.ListN.{length}
use Rattle.rules.specs.Stock.{sum}
use Rattle.records.specs.Opened.{held_stock}
use Rattle.reading.proofs.Whole.{too_small, records_refused, moves_refused, read_on, held_sound, held_long}
use Rattle.reading.proofs.reader.read_whole.Goals as goal

pub returns-then-buffer-lt64 : goal.returns-then-buffer-lt64
returns-then-buffer-lt64 c = too_small _ _ _ (omega arith) _ c.at.ensures

pub returns-in_err-opening : goal.returns-in_err-opening
returns-in_err-opening c = records_refused _ _ _ (omega arith) _ c.in_err-opening.ensures _ c.from_residual.ensures.1

pub moves-requires : goal.moves-requires
moves-requires c = rw c.stock.ensures (held_sound c.in_ok-opening.opening)

pub returns-in_err-moves : goal.returns-in_err-moves
returns-in_err-moves c = moves_refused _ _ _ (omega arith) _ c.in_ok-opening.ensures _ [] (rw c.stock.ensures at c.in_err-moves.ensures) _ c.from_residual-in_err-moves.ensures.1

pub returns : goal.returns
returns c =
    let t = c.moves.new.strip in
    let l : length t ≡ sum (held_stock c.in_ok-opening.opening) = c.moves.auto.strip ∙ held_long c.in_ok-opening.opening in
    read_on _ _ _ (omega arith) _ c.in_ok-opening.ensures _ t (rw c.stock.ensures at c.in_ok-moves.ensures) l _ c.copy.ensures
