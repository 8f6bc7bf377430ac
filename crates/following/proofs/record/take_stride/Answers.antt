-- `following::record::take_stride` meets its contract, case by case.
use native.Mathlib.Omega.{arith}
use Rattle.strides.proofs.Rows.{own_after}
use Rattle.following.proofs.Took.{took_short_stride, took_stride_no, took_stride}
use Rattle.following.proofs.record.take_stride.Goals as goal

pub returns-then-sheet-at-lt9 : goal.returns-then-sheet-at-lt9
returns-then-sheet-at-lt9 c = took_short_stride _ _ _ _ c.requires.2 c.requires.3 (omega arith) _ c.at.ensures

pub returns-in-Err : goal.returns-in-Err
returns-in-Err c = took_stride_no _ _ _ _ c.requires.2 c.requires.3 (omega arith) _ c.number_at-moves.ensures _ _ c.in-Err.ensures _ c.at-in-Err.ensures

pub walker_of-requires : goal.walker_of-requires
walker_of-requires c = (c.requires.0, own_after _ _ _ _ c.requires.1 c.in_default.ensures)

pub returns : goal.returns
returns c = took_stride _ _ _ _ c.requires.2 c.requires.3 (omega arith) _ c.number_at-moves.ensures _ c.in_default.ensures _ c.walker_of.ensures
