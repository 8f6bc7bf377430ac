-- `following::record::take_records` meets its contract, by the kind of the record.
use mathlib.Core.Path.{◌≡◌, sym, ap, ◌∙◌}
use mathlib.Core.Bool.{Bool, false, ◌&&◌, and-false}
use native.Mathlib.Omega.{arith}
use borrow.Author.Tests.{ne_eqb}
use lib.Dec.{eqb}
use lib.ListN.{get_or}
use Rattle.following.specs.Editions.{has_strides}
use Rattle.following.proofs.Took.{took_other}
use Rattle.following.proofs.record.take_records.Goals as goal
use Rattle.following.proofs.record.take_records.Goals.{in_default-via-in-5+else-has_strides, in_default-via-in_default-1}

pub returns-in_default : goal.returns-in_default
returns-in_default c =
    let kind = get_or c.args.sheet.now c.args.at 0 in
    let none : (has_strides c.args.edition && eqb kind 5) ≡ false = elim c.in_default.branch [
      | in_default-via-in-5+else-has_strides w ↦ ap (λ (x : Bool). x && eqb kind 5) (sym w.has_strides.ensures ∙ w.if-has_strides.false)
      | in_default-via-in_default-1 w ↦ ap (λ (x : Bool). has_strides c.args.edition && x) (ne_eqb kind 5 (omega arith)) ∙ and-false (has_strides c.args.edition)
    ] in
    took_other _ _ _ _ c.requires.1 _ (omega arith) none c.requires.2 _ c.at.ensures
