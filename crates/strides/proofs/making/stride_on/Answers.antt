-- `strides::making::stride_on` meets its contract: refused as it is seen ahead, or the strip by its number.
use Rattle.rules.proofs.Strips.{strip_sum}
use Rattle.numbering.proofs.Theorems.{strip_is_right}
use Rattle.strides.proofs.Rows.{seen_few, seen_below, strode}
use Rattle.strides.proofs.making.stride_on.Goals as goal

pub returns : goal.returns
returns c =
    let m = c.strip in
    let v = c.in_ok-number.ensures in
    let right = strip_is_right _ _ _ _ _ m.ensures.0 m.ensures.1 in
    let fine = right.accepted c.requires.0 (strip_sum _ _ c.requires.1) (seen_few _ _ _ _ v) (seen_below _ _ _ _ v c.requires.1) in
    strode _ _ _ _ v _ (right.written fine)
