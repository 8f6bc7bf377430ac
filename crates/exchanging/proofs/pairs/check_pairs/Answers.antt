-- `exchanging::pairs::check_pairs` meets its contract: 15 by T, then 16 by the first wrong pair.
use Prim.Native.Nat.{ℕ}
use mathlib.Core.Path.{◌≡◌, refl, sym, ap, ◌∙◌}
use native.Mathlib.Omega.{arith}
use Rattle.std.specs.Prelude.{Option, None, Some, Result, Err}
use Rattle.std.specs.Option.{ok_or}
use Rattle.std.proofs.lemmas.Result.{err_from_is_err_and}
use Rattle.stock.specs.declared.refused.Reason.{Reason}
use Rattle.stock.specs.declared.refused.Reason.TheVariants.{Large}
use Rattle.stock.specs.Refused.{no_of}
use Rattle.stock.proofs.Places.{is_found, is_nowhere}
use Rattle.counting.proofs.Held.{many, few}
use Rattle.bar.proofs.Refused.{fifteen, sixteen, neither}
use Rattle.exchanging.proofs.pairs.check_pairs.Goals as goal

-- the total was none, and the refusal is 15
no_total : (t : Option ℕ) (e : Reason) → ◌≡◌ {A = Result ℕ Reason} (Err e) (ok_or t Large) → (t ≡ None) × (e ≡ Large)
no_total None e h = (refl, cc)
no_total (Some x) e h = absurd (cc)

pub returns-in_err-strips : goal.returns-in_err-strips
returns-in_err-strips c =
    let n = no_total c.args.strips _ c.in_err-strips.ensures.value in
    let p = err_from_is_err_and c.from_residual.result c.from_residual.ensures.1 in
    rw (p.1, p.2, n.1) (fifteen _ _ (omega (arith, many _ (rw n.0 at c.requires.0))))

pub returns-then-strips-gt4096 : goal.returns-then-strips-gt4096
returns-then-strips-gt4096 c =
    let p = few _ (sym c.in_ok-strips.ensures.ok_part ∙ c.requires.0) in
    ap no_of c.at.ensures ∙ fifteen _ _ (omega (arith, p.1))

pub returns-in-Some : goal.returns-in-Some
returns-in-Some c =
    let p = few _ (sym c.in_ok-strips.ensures.ok_part ∙ c.requires.0) in
    let f = is_found _ _ c.in-Some.ensures in
    ap no_of c.at-in-Some.ensures ∙ sixteen _ _ (omega (arith, p.1)) _ c.requires.1 _ f.0 f.1

pub returns : goal.returns
returns c =
    let p = few _ (sym c.in_ok-strips.ensures.ok_part ∙ c.requires.0) in
    neither _ _ (omega (arith, p.1)) _ c.requires.1 _ (sym (is_nowhere _ c.in_default.ensures)) refl
