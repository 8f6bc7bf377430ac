-- `forms::long::write_form` meets its contract: single moves, or 13, then 9, then the sheet of one stride.
use Prim.Native.Nat.{◌^◌, ◌<◌}
use mathlib.Core.Path.{◌≡◌}
use native.Mathlib.Omega.{arith}
use Rattle.std.specs.Prelude.{Err}
use Rattle.std.proofs.Common.{rules}
use Rattle.rules.specs.Stock.{total}
use Rattle.rules.specs.Refusals.{first_of, check_nos}
use Rattle.rules.proofs.Strips.{strip_fits}
use Rattle.rules.proofs.Checks.{accepted_both_back}
use Rattle.stock.specs.declared.refused.Reason.TheVariants.{Many}
use Rattle.strides.proofs.Rows.{seen_many, seen_numbered, seen_past, seen_within}
use Rattle.forms.proofs.Cases.{Long, long, short_few, short_many}
use Rattle.forms.proofs.Called.{as_single, no_room, fewer, written}
use Rattle.forms.proofs.long.write_form.Goals as goal
use Rattle.forms.proofs.long.write_form.Goals.{Else-eq}

-- past 7: the stock can be numbered
none_yet : (c : Else-eq) → (first_of (check_nos c.args.stock.now c.args.strip.now)).0 ≡ 0
none_yet c = accepted_both_back _ _ c.requires.0 c.requires.1

few : (c : Else-eq) → total c.args.stock.now < 2 ^ 64
few c = let other : c.look_ahead-ahead.result ≡ Err Many → ⊥ = search rules in seen_numbered _ _ _ (omega arith) _ c.look_ahead-ahead.ensures other

stride : (c : Else-eq) → Long c.args.stock.now c.args.strip.now c.args.moves
stride c = long _ _ _ (few c) (omega arith)

pub returns-then-moves-lt3 : goal.returns-then-moves-lt3
returns-then-moves-lt3 c = as_single _ _ _ _ (short_few _ _ _ (omega arith)) _ _ c.write_moves.ensures

pub returns-then-eq : goal.returns-then-eq
returns-then-eq c =
    let is : c.look_ahead-ahead.result ≡ Err Many = search rules in
    as_single _ _ _ _ (short_many _ _ _ (seen_many _ _ _ (omega arith) _ c.look_ahead-ahead.ensures is)) _ _ c.write_moves-then-eq.ensures

pub returns-then-sheet-lt92 : goal.returns-then-sheet-lt92
returns-then-sheet-lt92 c =
    let past = (goal.at.returns-then-sheet-lt92 c).Else-eq in
    rw c.at.ensures (no_room _ _ _ c.args.sheet.now (none_yet past) (stride past) (omega arith))

pub returns-then-is_err : goal.returns-then-is_err
returns-then-is_err c =
    let past = (goal.at.returns-then-is_err c).Else-eq in
    let fewer_left = seen_past _ _ _ (omega arith) _ c.look_ahead-ahead.ensures (few past) (search rules) in
    rw c.at-then-is_err.ensures (fewer _ _ _ c.args.sheet.now (none_yet past) (stride past) (omega arith) fewer_left)

pub put_strided-requires : goal.put_strided-requires
put_strided-requires c = (c.requires.0, strip_fits _ _ c.requires.0 c.requires.1, omega arith)

pub returns : goal.returns
returns c =
    let past = (goal.at.returns c).Else-eq in
    let within = seen_within _ _ _ _ c.look_ahead-ahead.ensures (search rules) in
    written _ _ _ _ (none_yet past) (stride past) (omega arith) within _ c.put_strided.ensures
