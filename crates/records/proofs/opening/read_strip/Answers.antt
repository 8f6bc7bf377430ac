-- `records::opening::read_strip` meets its contract: the record, then the strip in it, then the bytes after the strip.
use Prim.Native.Nat.{ℕ, ◌+◌, ◌<◌}
use mathlib.Core.Path.{◌≡◌, refl, sym, ap, ◌∙◌}
use mathlib.Core.List.{List}
use native.Mathlib.Omega.{arith}
use lib.ListN.{length}
use Rattle.rules.specs.Refusals.{fine, first_of, strip_nos}
use Rattle.stock.specs.Refused.{no_of}
use Rattle.stock.proofs.Told.{told_error}
use Rattle.records.specs.Opened.{strip_at, rest_at, strip_at_nos}
use Rattle.records.proofs.BodyLaws.{zeros}
use Rattle.records.proofs.Checking.{record_stopped, record_body, strip_part, rest_part, strip_stopped, strip_padded, strip_unpadded}
use Rattle.records.proofs.opening.read_strip.Goals as goal
use Rattle.records.proofs.opening.read_strip.Goals.{In_ok-check_record, In_ok-check_strip_only, After-split_at, After-all_zero}

body : (c : In_ok-check_record) → c.args.at + 64 < length c.args.sheet.now
body c = record_body 2 64 _ _ c.in_ok-check_record.ensures

own : (c : After-split_at) → c.split_at.result.0.now ≡ strip_at c.args.stock.now c.args.at c.args.sheet.now
own c = c.split_at.ensures.front ∙ strip_part _ c.requires _ _ _ refl _ c.blocks-2.ensures

-- the bytes after it are zeros as far as was found
rest : (c : After-all_zero) → c.all_zero.result ≡ zeros (rest_at c.args.stock.now c.args.at c.args.sheet.now)
rest c = c.all_zero.ensures ∙ ap zeros (c.split_at.ensures.back ∙ rest_part _ c.requires _ _ _ refl _ c.blocks-2.ensures)

pub returns-in_err-check_record-clause-refused : goal.returns-in_err-check_record-clause-refused
unfolding strip_at_nos
returns-in_err-check_record-clause-refused c = told_error _ _ c.from_residual.ensures.1 ∙ record_stopped 2 64 _ _ _ c.in_err-check_record.ensures _

pub overflow_add-body : goal.overflow_add-body
overflow_add-body c = omega (arith, body (goal.at.overflow_add-body c).In_ok-check_record)

pub overflow_add-body-2 : goal.overflow_add-body-2
overflow_add-body-2 c = omega (arith, body (goal.at.overflow_add-body-2 c).In_ok-check_record)

pub slice_bounds-body-end : goal.slice_bounds-body-end
slice_bounds-body-end c = omega (arith, body (goal.at.slice_bounds-body-end c).In_ok-check_record)

pub returns-in_err-check_strip_only-clause-refused : goal.returns-in_err-check_strip_only-clause-refused
returns-in_err-check_strip_only-clause-refused c =
    told_error _ _ c.from_residual-in_err-check_strip_only.ensures.1
    ∙ strip_stopped _ c.requires _ _ c.in_ok-check_record.ensures _ (c.in_err-check_strip_only.ensures ∙ ap (λ (s : List ℕ). first_of (strip_nos c.args.stock.now s)) (own (goal.at.returns-in_err-check_strip_only-clause-refused c).After-split_at))

-- its own rows pass
passed : (c : In_ok-check_strip_only) → fine ≡ first_of (strip_nos c.args.stock.now (strip_at c.args.stock.now c.args.at c.args.sheet.now))
passed c = c.in_ok-check_strip_only.ensures ∙ ap (λ (s : List ℕ). first_of (strip_nos c.args.stock.now s)) (c.split_at.ensures.front ∙ strip_part _ c.requires _ _ _ refl _ c.blocks-2.ensures)

pub returns-then-not-all_zero-clause-refused : goal.returns-then-not-all_zero-clause-refused
returns-then-not-all_zero-clause-refused c =
    let p = goal.at.returns-then-not-all_zero-clause-refused c in
    ap no_of c.at.ensures ∙ strip_unpadded _ c.requires _ _ c.in_ok-check_record.ensures (passed p.In_ok-check_strip_only) (sym (rest p.After-all_zero) ∙ c.if-not-all_zero.true)

pub returns-clause-refused : goal.returns-clause-refused
returns-clause-refused c =
    let p = goal.at.returns-clause-refused c in
    strip_padded _ c.requires _ _ c.in_ok-check_record.ensures (passed p.In_ok-check_strip_only) (sym (rest p.After-all_zero) ∙ c.if-not-all_zero.false)

pub returns-clause-held : goal.returns-clause-held
returns-clause-held c = own (goal.at.returns-clause-held c).After-split_at
