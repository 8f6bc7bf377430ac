-- Proofs. The one form: how long it is, that it is read, and that no right sheet is shorter.
use Prim.Native.Nat.{ℕ, ◌^◌, ◌≤◌}
use mathlib.Core.Path.{◌≡◌, refl, ap, ◌∙◌}
use mathlib.Core.Bool.{true}
use mathlib.Core.List.{List, [], ◌∷◌, ◌++◌}
use native.Mathlib.Decide.{dec_lt}
use native.Mathlib.Omega.{arith}
use lib.ListN.{length, length-drop}
use Rattle.rules.specs.Stock.{total, IsStock, IsStrip}
use Rattle.rules.specs.Refusals.{fine, first_of}
use Rattle.walking.specs.Answers.{onward, left}
use Rattle.sheets.specs.Sheets.{stock_record, strip_record}
use Rattle.strides.specs.Strides.{stride_record}
use Rattle.records.specs.Records.{sheet_stock, sheet_strip}
use Rattle.following.specs.Following.{follow}
use Rattle.reading.specs.Reading.{followed, record_nos}
use Rattle.reading.proofs.MoveRecords.{end_alone, follow_written, follow_stride}
use Rattle.reading.proofs.Exactly.{headed, stock_of_lem, strip_of_lem, followed_of, records_of, read_long, read_right}
use Rattle.forms.specs.Forms.{form_records, form_of}
use Rattle.forms.proofs.Cases.{Long, by_case}
use Rattle.rewriting.specs.Rewriting.{moves_of, form_long}

form_headed : (counts s : List ℕ) (c : ℕ) → form_of counts s c ≡ headed counts s (form_records counts s c ++ (4 ∷ []))
unfolding form_of stock_record strip_record
form_headed counts s c = refl

module _ (counts s : List ℕ) (k : IsStock counts) (h : IsStrip counts s) (c : ℕ) where
  abbrev records : List ℕ
  records = form_records counts s c ++ (4 ∷ [])

  pub form_stock : sheet_stock (form_of counts s c) ≡ counts
  form_stock = rw (form_headed counts s c) (stock_of_lem counts s k h records)

  pub form_strip : sheet_strip (form_of counts s c) ≡ s
  form_strip = rw (form_headed counts s c) (strip_of_lem counts s k h records)

  module _ (l : c ≤ left counts s) where
    stride_read : Long counts s c → follow true counts s 82 (stride_record c ++ (4 ∷ [])) ≡ record { no = fine; moves = c; strip = onward counts s c }
    stride_read v =
        follow_stride counts c s h (omega (arith, v.three)) v.few l 82 (4 ∷ [])
        ∙ rw (end_alone true counts (onward counts s c) 91) (ap (λ (m : ℕ). record { no = fine; moves = m; strip = onward counts s c }) (omega arith))

    form_read : follow true counts s 82 records ≡ record { no = fine; moves = c; strip = onward counts s c }
    form_read = by_case counts s c (λ v. rw v.records (stride_read v)) (λ v. rw v.records (follow_written true counts c s h l 82))

    -- it is read as c moves and the strip that many numbers further on
    pub form_followed : followed true (form_of counts s c) ≡ record { no = fine; moves = c; strip = onward counts s c }
    form_followed = rw (form_headed counts s c) (followed_of counts s k h records true ∙ form_read)

    pub form_fine : first_of (record_nos true (form_of counts s c)) ≡ fine
    unfolding first_of
    form_fine = rw (form_headed counts s c) (records_of counts s k h records true ∙ rw form_read)

-- a right sheet: no shorter than the one form of its stock, strip and moves
pub no_shorter : (sheet : List ℕ) → (first_of (record_nos true sheet)).0 ≡ 0 → form_long sheet ≤ length sheet
no_shorter sheet z =
    let n = length-drop 82 sheet in
    let r = read_right true sheet z in
    let l = read_long true sheet z in
    by_case (sheet_stock sheet) (sheet_strip sheet) (moves_of sheet)
    (λ v. omega (arith, n, l, v.length, v.three, r.bytes))
    (λ v. elim (dec_lt (total (sheet_stock sheet)) (2 ^ 64)) [
      | yes e ↦ omega (arith, n, l, v.length, v.why e, r.bytes)
      | no e ↦ omega (arith, n, l, v.length, r.listed (omega arith))
    ])
