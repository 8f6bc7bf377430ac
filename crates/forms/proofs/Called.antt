-- Proofs. Writing the one form of a checked stock and strip: single moves as edition 1 writes them, or one stride.
use Prim.Native.Nat.{ℕ, ◌≤◌, ◌<◌}
use mathlib.Core.Path.{◌≡◌, sym, ap, ◌∙◌}
use mathlib.Core.List.{List, ◌++◌}
use lib.ListN.{length, drop}
use Rattle.rules.specs.Refusals.{fine, first_of, check_nos}
use Rattle.walking.specs.Answers.{left}
use Rattle.sheets.specs.declared.Written.{Written}
use Rattle.sheets.specs.Sheets.{stock_record, strip_record, end_record, sheet_of}
use Rattle.sheets.specs.Writing.{as_written, write_answer, sheet_written}
use Rattle.sheets.proofs.Called as called
use Rattle.strides.specs.Strides.{stride_record}
use Rattle.forms.specs.Forms.{form_of, form_length, long_answer, long_sheet}
use Rattle.forms.proofs.Cases.{Long, Short}

module _ (counts s : List ℕ) (c : ℕ) (sheet : List ℕ) where
  abbrev pub Leaves : Written → List ℕ → Type 0
  Leaves r z = (r ≡ long_answer counts s c sheet) × (z ≡ long_sheet counts s c sheet)

  -- single moves: as edition 1 writes them
  pub as_single : Short counts s c → (r : Written) (z : List ℕ) → (r ≡ write_answer counts s c sheet) × (z ≡ sheet_written counts s c sheet) → Leaves r z
  unfolding form_of sheet_of
  as_single v r z e = rw (v.length, v.records) e

  -- one stride
  module _ (none : (first_of (check_nos counts s)).0 ≡ 0) (v : Long counts s c) where
    pub no_room : length sheet < 92 → Leaves (as_written (13, 0) 0) sheet
    no_room h = called.no_room (form_length counts c) (form_of counts s c) counts s c sheet none (rw v.length h)

    module _ (room : 92 ≤ length sheet) where
      pub fewer : left counts s < c → Leaves (as_written (9, 0) 0) sheet
      fewer l = called.fewer (form_length counts c) (form_of counts s c) counts s c sheet none (rw v.length room) l

      pub written : c ≤ left counts s → (z : List ℕ) → z ≡ (stock_record counts ++ (strip_record s ++ (stride_record c ++ end_record))) ++ drop 92 sheet → Leaves (as_written fine 92) z
      unfolding form_of
      written l z e =
          let w = called.written (form_length counts c) (form_of counts s c) counts s c sheet none (rw v.length room) l z (e ∙ rw (v.length, v.records)) in
          (ap (as_written fine) (sym v.length) ∙ w.0, w.1)
