-- `walking::stepping::make_any` meets its contract: where no move was found the strip stays; else the move is made.
use mathlib.Core.Path.{sym, ap, ◌∙◌}
use Rattle.std.proofs.Common.{Some}
use Rattle.walking.specs.declared.stepping.Made.{Made}
use Rattle.walking.proofs.OneMove.{found_none, found_some, can_be_made, stays, moves}
use Rattle.walking.proofs.stepping.make_any.Goals as goal

pub returns-in_err-found : goal.returns-in_err-found
returns-in_err-found c back is =
    let none = stays back _ _ (found_none back _ _ c.requires.0.strip (sym c.in_err-found.was ∙ is)) in
    (c.from_residual.ensures ∙ none.0, none.1)

pub make-requires : goal.make-requires
make-requires c =
    let p = c.requires in
    can_be_made p.0 (found_some p.1.0 _ _ p.0.strip _ (sym c.in_ok-found.was ∙ p.1.1))

pub returns : goal.returns
returns c back is =
    let m = moves back _ _ _ c.requires.0 _ (found_some back _ _ c.requires.0.strip _ (sym c.in_ok-found.was ∙ is)) in
    (ap (λ (r : Made). Some r) c.make.ensures.0 ∙ m.0, c.make.ensures.1 ∙ m.1)
