-- `converting::convert` meets its contract: a stock that is checked has 64 blocks at most, the strip of the number is laid, and numbered in the other list.
use Prim.Native.Nat.{◌≤◌}
use mathlib.Core.Path.{sym, ap, ◌∙◌}
use native.Mathlib.Omega.{arith}
use mathlib.Core.List.{[], ◌∷◌}
use lib.ListN.{replicate}
use lib.Seq.{length-take-le}
use Rattle.rules.specs.Refusals.{stock_nos, many_no, above_no}
use Rattle.rules.proofs.Checks.{accepted}
use Rattle.stock.specs.declared.refused.Refusal.{Refusal}
use Rattle.drawers.specs.declared.Filed.{Filed}
use Rattle.drawers.specs.Answers.{as_filed}
use Rattle.stock.proofs.Told.{passed, stopped_first, stopped_answer}
use Rattle.converting.specs.Answers.{convert_nos, convert_answer}
use Rattle.converting.proofs.Halves.{few, as_long, not_laid, laid_in, word_own, converted}
use Rattle.converting.proofs.convert.Goals as goal
use Rattle.converting.proofs.convert.Goals.{After-blocks-2}

-- a stock that is refused
pub returns-in-Err : goal.returns-in-Err
unfolding convert_answer convert_nos
returns-in-Err c =
    let s = c.args.stock.now in
    c.into.ensures ∙ stopped_answer (convert_nos s c.args.number) 0 _ as_filed _ (stopped_first (stock_nos s) _ c.in-Err.ensures (many_no s ∷ above_no s c.args.number ∷ []))

-- the word is a part of the buffer
fits : (c : After-blocks-2) → c.blocks-2.result ≤ 64
fits c = few c.blocks-2.ensures (accepted _ (passed (stock_nos _) c.in_default.ensures))

pub slice_bounds-buffer-end : goal.slice_bounds-buffer-end
slice_bounds-buffer-end c = fits c

pub slice_bounds-word-end : goal.slice_bounds-word-end
slice_bounds-word-end c = sym (length-take-le c.blocks-2.result (replicate 64 0) (fits (goal.at.slice_bounds-word-end c).After-blocks-2))

pub place-number-requires : goal.place-number-requires
place-number-requires c =
    let e = c.lay-refusal.ensures in
    let z = ap (λ (r : Refusal). r.no) (sym e.0) ∙ omega arith in
    let i = laid_in _ _ _ z in
    (i.0, word_own _ _ _ z _ _ e.1, i.1)

pub returns-then-refusal-eq0 : goal.returns-then-refusal-eq0
returns-then-refusal-eq0 c =
    let e = c.lay-refusal.ensures in
    let z = ap (λ (r : Refusal). r.no) (sym e.0) ∙ omega arith in
    let number = c.place-number.result in
    ap (λ (r : Refusal). let f : Filed = record { refusal = r; number = number } in f) e.0 ∙ converted _ _ _ (as_long c.blocks-2.ensures) z _ _ e.1 _ _ c.place-number.ensures

pub returns-else-refusal-eq0 : goal.returns-else-refusal-eq0
returns-else-refusal-eq0 c =
    let e = c.lay-refusal.ensures in
    ap (λ (r : Refusal). let f : Filed = record { refusal = r; number = 0 } in f) e.0
    ∙ not_laid _ _ _ (as_long c.blocks-2.ensures) _ _ (λ z. omega (arith, ap (λ (r : Refusal). r.no) e.0, z))
