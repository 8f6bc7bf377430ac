-- Proofs. How long the one form is.
use Prim.Native.Nat.{ℕ, ◌≤◌}
use mathlib.Core.Path.{◌≡◌, refl, ap, ◌∙◌}
use mathlib.Core.List.{List, ◌∷◌, ◌++◌}
use native.Mathlib.Omega.{arith}
use lib.ListN.{length, length-append}
use Rattle.rules.specs.Stock.{IsStock, IsStrip}
use Rattle.rules.proofs.Strips.{strip_fits}
use Rattle.walking.specs.Answers.{left}
use Rattle.sheets.specs.Sheets.{stock_record, strip_record, move_records, end_record, sheet_of}
use Rattle.sheets.proofs.Bodies.{padded_long}
use Rattle.sheets.proofs.Lengths.{sheet_long}
use Rattle.strides.specs.Strides.{bytes_of, stride_record}
use Rattle.strides.proofs.Values.{bytes_long}
use Rattle.forms.specs.Forms.{form_of, form_length}
use Rattle.forms.proofs.Cases.{by_case}

module _ (counts s : List ℕ) (k : IsStock counts) (h : IsStrip counts s) (c : ℕ) (l : c ≤ left counts s) where
  moves_form : stock_record counts ++ (strip_record s ++ (move_records counts s c ++ end_record)) ≡ sheet_of counts s c
  unfolding sheet_of
  moves_form = refl

  pub form_long_lem : length (form_of counts s c) ≡ form_length counts c
  unfolding form_of stride_record stock_record strip_record
  form_long_lem = by_case counts s c
      (λ v. rw (v.records, v.length) (omega (
        arith,
        length-append (stock_record counts) (strip_record s ++ ((5 ∷ bytes_of 8 c) ++ end_record)),
        length-append (strip_record s) ((5 ∷ bytes_of 8 c) ++ end_record),
        length-append (bytes_of 8 c) end_record,
        bytes_long 8 c,
        padded_long 16 counts k.few,
        padded_long 64 s (strip_fits counts s k h),
      )))
      (λ v. rw (v.records, v.length) (ap length moves_form ∙ sheet_long counts s k h c l))
