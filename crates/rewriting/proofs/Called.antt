-- Proofs. Rewriting called with any sheet and any second buffer: refused as reading is, or as writing the one form answers.
use Prim.Native.Nat.{ℕ, ◌≤◌}
use mathlib.Core.Path.{◌≡◌, refl, sym, ap, ◌∙◌}
use mathlib.Core.Bool.{true}
use mathlib.Core.List.{List, [], ◌∷◌, ◌++◌}
use borrow.Author.Tests.{le-ltb}
use lib.ListN.{length}
use Rattle.std.specs.Prelude.{Result, Ok, Err}
use Rattle.std.specs.Result.{IsErrAnd}
use Rattle.std.proofs.lemmas.Result.{err_from_is_err_and}
use Rattle.rules.specs.Stock.{IsStock, IsStrip}
use Rattle.rules.specs.Refusals.{No, fine, first_of, check_nos}
use Rattle.rules.proofs.Refusals.{passed_first, unless_passed}
use Rattle.rules.proofs.Checks.{accepted_both, accepted_both_back}
use Rattle.stock.specs.declared.refused.Refused.{Refused}
use Rattle.stock.specs.declared.refused.Refusal.{Refusal}
use Rattle.stock.specs.Refused.{no_of, answered, refusal}
use Rattle.stock.proofs.Told.{stopped, stopped_first, stopped_left, stopped_answer}
use Rattle.walking.specs.Answers.{left}
use Rattle.sheets.specs.declared.Written.{Written}
use Rattle.sheets.specs.Writing.{short_no, fewer_no, put_nos, as_written, put_answer, sheet_put}
use Rattle.records.specs.declared.held.Opening.{Opening}
use Rattle.records.specs.Records.{sheet_stock, sheet_strip, first_two_nos}
use Rattle.records.specs.Opened.{held_stock, held_strip, Opened}
use Rattle.records.proofs.FirstTwo.{first_two_refused, stock_held, strip_held}
use Rattle.following.specs.declared.Readout.{Readout}
use Rattle.following.specs.Following.{as_readout}
use Rattle.reading.specs.Reading.{record_nos, read_answer}
use Rattle.reading.proofs.Exactly.{read_roomy, read_head, read_stock, read_strip, read_right}
use Rattle.forms.specs.Forms.{long_nos, long_answer, long_sheet}
use Rattle.rewriting.specs.Rewriting.{moves_of, form_long, rewrite_nos, rewrite_answer, rewrite_out}

-- what reading tells with a buffer that is long enough
module _ (sheet buffer : List ℕ) (room : 64 ≤ length buffer) where
  row_of : (r : Readout) (n : No) → r.refusal ≡ refusal n → r ≡ read_answer true sheet buffer → n ≡ first_of (record_nos true sheet)
  unfolding read_answer
  row_of r n e is = ap (λ (f : Refusal). (f.no, f.place)) (sym e ∙ ap (λ (r : Readout). r.refusal) is) ∙ read_roomy true sheet buffer room

  pub read_refused : (e : Refused) → as_readout (no_of e) 0 ≡ read_answer true sheet buffer → no_of e ≡ first_of (record_nos true sheet)
  read_refused e = row_of (as_readout (no_of e) 0) (no_of e) refl

  module _ (moves : ℕ) (is : as_readout fine moves ≡ read_answer true sheet buffer) where
    pub read_fine : fine ≡ first_of (record_nos true sheet)
    read_fine = row_of (as_readout fine moves) fine refl is

    pub moves_are : moves ≡ moves_of sheet
    unfolding read_answer
    moves_are = ap (λ (r : Readout). r.moves) is ∙ rw (read_roomy true sheet buffer room) (unless_passed 0 _ _ (ap (λ (r : No). r.0) (sym read_fine)))

-- writing refuses what rewriting a right sheet does
same_rows : (sheet out : List ℕ) → (first_of (record_nos true sheet)).0 ≡ 0 → first_of (long_nos (sheet_stock sheet) (sheet_strip sheet) (moves_of sheet) out) ≡ first_of (rewrite_nos sheet out)
unfolding put_nos rewrite_nos fewer_no first_of
same_rows sheet out none =
    passed_first (check_nos (sheet_stock sheet) (sheet_strip sheet)) _ (accepted_both_back (sheet_stock sheet) (sheet_strip sheet) (read_stock true sheet none) (read_strip true sheet none))
    ∙ rw (le-ltb (left (sheet_stock sheet) (sheet_strip sheet)) (moves_of sheet) (read_right true sheet none).within)
    (sym (passed_first (record_nos true sheet) (short_no (form_long sheet) out ∷ []) none))

module _ (sheet out : List ℕ) where
  abbrev pub Leaves : Result ℕ Refused → List ℕ → Type 0
  Leaves r z = (answered as_written 0 r ≡ rewrite_answer sheet out) × (z ≡ rewrite_out sheet out)

  pub refused : (e : Refused) → no_of e ≡ first_of (record_nos true sheet) → (r : Result ℕ Refused) → IsErrAnd r (λ y. y ≡ e) → Leaves r out
  unfolding rewrite_nos rewrite_answer rewrite_out
  refused e is r h =
      let p = err_from_is_err_and r h in
      let n = record_nos true sheet ++ (short_no (form_long sheet) out ∷ []) in
      let k : no_of e ≡ first_of n = stopped_first (record_nos true sheet) e is (short_no (form_long sheet) out ∷ []) in
      rw (p.1, p.2) (stopped_answer n 0 (form_long sheet) as_written e k, stopped_left n out _ e k)

  -- a sheet that is read
  module _ (none : fine ≡ first_of (record_nos true sheet)) where
    passes : (first_of (record_nos true sheet)).0 ≡ 0
    passes = ap (λ (r : No). r.0) (sym none)

    -- the records before the moves are not refused
    pub no_refusal : (e : Refused) → Opened 0 sheet (Err e) → ⊥
    no_refusal e o = stopped (first_two_nos sheet) e (first_two_refused sheet (Err e) o) (read_head true sheet passes)

    module _ (o : Opening) (v : Opened 0 sheet (Ok o)) where
      pub sound : IsStock (held_stock o) × IsStrip (held_stock o) (held_strip o)
      sound = accepted_both (held_stock o) (held_strip o) o.sound

      pub rewritten : (moves : ℕ) → moves ≡ moves_of sheet → (w : Written) (u : List ℕ) → (w ≡ long_answer (held_stock o) (held_strip o) moves out) × (u ≡ long_sheet (held_stock o) (held_strip o) moves out) → (w ≡ rewrite_answer sheet out) × (u ≡ rewrite_out sheet out)
      unfolding put_answer sheet_put rewrite_answer rewrite_out
      rewritten moves m w u x =
          let n = same_rows sheet out passes in
          let a : long_answer (sheet_stock sheet) (sheet_strip sheet) (moves_of sheet) out ≡ rewrite_answer sheet out = rw n in
          let b : long_sheet (sheet_stock sheet) (sheet_strip sheet) (moves_of sheet) out ≡ rewrite_out sheet out = rw n in
          (x.0 ∙ rw (stock_held sheet o v, strip_held sheet o v, m) a, x.1 ∙ rw (stock_held sheet o v, strip_held sheet o v, m) b)
