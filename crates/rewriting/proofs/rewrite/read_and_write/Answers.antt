-- `rewriting::rewrite::read_and_write` meets its contract: refused as reading is, or the one form.
use mathlib.Core.Path.{sym, ap, ◌∙◌}
use native.Mathlib.Omega.{arith}
use Rattle.stock.specs.Refused.{answered}
use Rattle.following.specs.Following.{as_readout}
use Rattle.rewriting.proofs.Called.{read_refused, read_fine, moves_are, refused, no_refusal, sound, rewritten}
use Rattle.rewriting.proofs.rewrite.read_and_write.Goals as goal

pub returns-in_err-moves : goal.returns-in_err-moves
returns-in_err-moves c =
    let m = sym (ap (answered as_readout 0) c.in_err-moves.was) ∙ c.read_whole.ensures.0 in
    refused _ _ _ (read_refused _ _ (omega arith) _ m) _ c.from_residual.ensures.1

pub returns-in_err-opening : goal.returns-in_err-opening
returns-in_err-opening c =
    let m = sym (ap (answered as_readout 0) c.in_ok-moves.was) ∙ c.read_whole.ensures.0 in
    absurd (no_refusal _ c.args.out.now (read_fine _ _ (omega arith) _ m) _ c.in_err-opening.ensures)

pub write_form-requires : goal.write_form-requires
write_form-requires c =
    let m = sym (ap (answered as_readout 0) c.in_ok-moves.was) ∙ c.read_whole.ensures.0 in
    rw (c.stock.ensures, c.strip.ensures) (sound _ c.args.out.now (read_fine _ _ (omega arith) _ m) _ c.in_ok-opening.ensures)

pub returns : goal.returns
returns c =
    let m = sym (ap (answered as_readout 0) c.in_ok-moves.was) ∙ c.read_whole.ensures.0 in
    rewritten _ _ (read_fine _ _ (omega arith) _ m) _ c.in_ok-opening.ensures _ (moves_are _ _ (omega arith) _ m) _ _ (rw (c.stock.ensures, c.strip.ensures) at c.write_form.ensures)
