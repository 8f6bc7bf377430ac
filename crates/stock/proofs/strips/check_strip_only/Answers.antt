-- `stock::strips::check_strip_only` meets its contract: row by row of the table.
use mathlib.Core.Path.{◌≡◌, refl, sym, ap, ◌∙◌}
use native.Mathlib.Omega.{arith}
use lib.ListN.{length}
use Rattle.rules.specs.Stock.{sum}
use Rattle.rules.specs.Refusals.{smallest, is_stranger, strip_nos}
use Rattle.rules.proofs.Checks.{length_wrong, strip_stranger, strip_amount, strip_fine}
use Rattle.stock.specs.Refused.{no_of}
use Rattle.stock.proofs.Places.{is_found, is_nowhere}
use Rattle.stock.proofs.strips.check_strip_only.Goals as goal
use Rattle.stock.proofs.strips.check_strip_only.Goals.{Else-strip-blocks, In_default}

-- past the length: the stock is accepted, so `blocks` gives n
long : (c : Else-strip-blocks) → length c.args.strip.now ≡ sum c.args.stock.now
long c = omega (arith, c.blocks-2.ensures, c.requires.short)

pub returns-then-strip-blocks : goal.returns-then-strip-blocks
unfolding strip_nos
returns-then-strip-blocks c = ap no_of c.at.ensures ∙ length_wrong _ _ _ (omega (arith, c.blocks-2.ensures, c.requires.short))

-- past the strangers: there is none
own : (c : In_default) → 0 ≡ smallest (is_stranger c.args.stock.now) c.args.strip.now
own c = sym (is_nowhere _ c.in_default.ensures)

pub returns-in-Some : goal.returns-in-Some
returns-in-Some c =
    let f = is_found _ _ c.in-Some.ensures in
    ap no_of c.at-in-Some.ensures ∙ strip_stranger _ _ (long (goal.at.returns-in-Some c).Else-strip-blocks) _ f.0 f.1

pub miscounted_kind-requires : goal.miscounted_kind-requires
miscounted_kind-requires c = (c.requires, is_nowhere _ c.in_default.ensures)

pub returns-in-Some-miscounted_kind : goal.returns-in-Some-miscounted_kind
returns-in-Some-miscounted_kind c =
    let f = is_found _ _ c.in-Some-miscounted_kind.ensures in
    let at = goal.at.returns-in-Some-miscounted_kind c in
    ap no_of c.at-in-Some-miscounted_kind.ensures ∙ strip_amount _ _ (long at.Else-strip-blocks) _ (own at.In_default) refl _ f.0 f.1

pub returns : goal.returns
returns c =
    let at = goal.at.returns c in
    strip_fine _ _ (long at.Else-strip-blocks) _ (own at.In_default) refl _ (sym (is_nowhere _ c.in_default-miscounted_kind.ensures)) refl
