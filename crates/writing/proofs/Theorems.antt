-- Theorems on writing a sheet, over its contract as the function states it: `Post` says which answers it allows for which input, and which sheets it leaves.
use Prim.Native.Nat.{ℕ, ◌+◌, ◌*◌, ◌≤◌}
use mathlib.Core.Path.{◌≡◌, sym, ◌∙◌}
use mathlib.Core.List.{List, ◌++◌}
use lib.ListN.{length, drop}
use contract.Lifetimes.{Lfts}
use borrow.Fn.Kinds.{Dens, ended_of}
use denote.Triple.Clauses.{AtExit}
use Rattle.rules.specs.Stock.{IsStock, IsStrip}
use Rattle.rules.specs.Outcome.{OneOutcome}
use Rattle.walking.specs.Answers.{left}
use Rattle.sheets.specs.declared.Written.{Written}
use Rattle.sheets.specs.Sheets.{sheet_of}
use Rattle.sheets.proofs.Called.{put_accepts, put_accepted, put_long, put_written, put_refused}
use Rattle.sheets.proofs.Lengths.{sheet_long}
use Rattle.writing.proofs.sheet.write_sheet.Kinds as write
use Rattle.writing.proofs.sheet.write_sheet.Reads as reads

-- two outcomes that the contract allows for one input have the same answer, and leave the same sheet
pub one_outcome : OneOutcome 3 write.ps write.r (λ κs s. s.1.1.1.0.now) reads.Post
one_outcome κs a x y s t h k = (h.0 ∙ sym k.0, h.1 ∙ sym k.1)

-- any answer r and any sheet left that the contract allows for a stock, a strip, a count of moves and a sheet
module _ (κs : Lfts 3) (a : Dens κs write.ps) (r : Written) (s : AtExit (ended_of 3 write.ps write.r) κs) (h : reads.Post κs a r s) where
  abbrev counts : List ℕ
  counts = a.0.now

  abbrev strip : List ℕ
  strip = a.1.0.now

  abbrev moves : ℕ
  moves = a.1.1.0

  abbrev sheet : List ℕ
  sheet = a.1.1.1.0.now

  abbrev after : List ℕ
  after = s.1.1.1.0.now

  -- it refuses no more and no less than the table says
  pub accepts : r.refusal.no ≡ 0 → IsStock counts × IsStrip counts strip × (83 + 3 * moves ≤ length sheet) × (moves ≤ left counts strip)
  accepts = put_accepts _ _ _ _ _ _ r after h

  pub accepted : IsStock counts → IsStrip counts strip → 83 + 3 * moves ≤ length sheet → moves ≤ left counts strip → r.refusal.no ≡ 0
  accepted = put_accepted _ _ _ _ _ _ r after h

  -- accepted, the sheet has the records at its front, as many bytes as the answer says, and its later bytes stay
  pub written : r.refusal.no ≡ 0 → after ≡ sheet_of counts strip moves ++ drop r.length sheet
  written = put_written _ _ _ _ _ _ r after h

  pub length_written : r.refusal.no ≡ 0 → r.length ≡ length (sheet_of counts strip moves)
  length_written e =
      let b = accepts e in
      put_long _ _ _ _ _ _ r after h e ∙ sym (sheet_long counts strip b.0 b.1 moves b.3)

  -- refused, the length is 0, and the sheet stays as it was
  pub refused_stays : (r.refusal.no ≡ 0 → ⊥) → (r.length ≡ 0) × (after ≡ sheet)
  refused_stays = put_refused _ _ _ _ _ _ r after h
