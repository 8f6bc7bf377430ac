-- Document 02, P3. A sold-out block keeps its number: a stock may have counts of 0, but for the last. That every call takes such a stock, and that demands 2 and
-- 3 and the promises of P1 and P2 hold for it, needs no theorem of its own: they are stated for accepted stocks, and these are accepted (`IsStock`).
use Prim.Native.Nat.{ℕ, ◌<◌}
use mathlib.Core.Path.{◌≡◌, sym, ◌∙◌}
use mathlib.Core.List.{List, ◌∷◌, ◌++◌}
use lib.ListN.{length}
use contract.Lifetimes.{Lfts}
use borrow.Fn.Kinds.{Dens, ended_of}
use denote.Triple.Clauses.{AtExit}
use Rattle.rules.specs.Stock.{total}
use Rattle.rules.specs.SoldOut.{renamed}
use Rattle.stock.specs.declared.Refusal.{Refusal}
use Rattle.numbering.specs.declared.number.Numbered.{Numbered}
use Rattle.numbering.proofs.Theorems.{number_right, strip_right}
use Rattle.numbering.proofs.number.number.Kinds as number
use Rattle.numbering.proofs.number.number.Reads as number_reads
use Rattle.numbering.proofs.strip.strip.Kinds as strip
use Rattle.numbering.proofs.strip.strip.Reads as strip_reads
-- 2 is a last count of 0, at that kind and before 3; a count of 0 elsewhere is no refusal. So 0 is 2 at kind 1, 70 0 is 2 at kind 2, and 0 70 is 3
pub use Rattle.rules.proofs.Checks.{stock_zero, accepted_back}
pub use Rattle.rules.proofs.Marked.{refused_right}
-- a kind without blocks has one pattern, first and last at once
pub use Rattle.rules.proofs.SoldOut.{one_pattern}
-- its direction is by parity, as any kind's, and a move turns it with the others above the kind that moves; a wrong direction of it is 10 at that kind
pub use Rattle.walker.proofs.Theorems.{each_kind}
pub use Rattle.rules.proofs.Directions.{book_turns}
pub use Rattle.walker.proofs.Differing.{one_wrong}
-- a byte that names it meets 6, in a strip and in a sheet; in a sheet 2 is never met, and sixteen zeros are 1, place 0, whichever reader reads it
pub use Rattle.rules.proofs.SoldOut.{sold_out_is_six}
pub use Rattle.rules.proofs.Marked.{bytes_right}
pub use Rattle.reading.proofs.Theorems.{sold_out_byte, never_two, sixteen_zeros}
-- the book of a stock with a sold-out kind is the book of the stock without it, each kind above called one higher, in the same order; that of 2 0 3 is that of
-- 2 3 with kind 2 called 3
pub use Rattle.rules.proofs.SoldOut.{book_sold_out, total_sold_out, strip_sold_out, number_sold_out}
pub use Rattle.rules.proofs.Marked.{book_2_0_3}

-- ---- the calls: with a sold-out kind put in, a strip keeps its number, and a number its strip

module _ (below above : List ℕ) (κs κs' : Lfts 2) where
  -- any answers of Number for a strip of the one stock, and for that strip, renamed, of the other
  pub number_stays : (a : Dens κs number.ps) (r : Numbered) (t : AtExit (ended_of 2 number.ps number.r) κs) → number_reads.Post κs a r t
      → (a' : Dens κs' number.ps) (r' : Numbered) (t' : AtExit (ended_of 2 number.ps number.r) κs') → number_reads.Post κs' a' r' t'
      → a.0.now ≡ below ++ above → a'.0.now ≡ below ++ (0 ∷ above) → a'.1.0.now ≡ renamed (length below) a.1.0.now
      → r.refusal.no ≡ 0 → r'.refusal.no ≡ 0 → r'.number ≡ r.number
  number_stays a r t h a' r' t' h' e e' f z z' =
      (number_right κs' a' r' t' h').place z' ∙ rw (e', f) (number_sold_out below above a.1.0.now) ∙ sym (rw e at ((number_right κs a r t h).place z))

  -- any outcomes of Strip for one number
  pub strip_stays : (a : Dens κs strip.ps) (r : Refusal) (t : AtExit (ended_of 2 strip.ps strip.r) κs) → strip_reads.Post κs a r t
      → (a' : Dens κs' strip.ps) (r' : Refusal) (t' : AtExit (ended_of 2 strip.ps strip.r) κs') → strip_reads.Post κs' a' r' t'
      → a.0.now ≡ below ++ above → a'.0.now ≡ below ++ (0 ∷ above) → a'.1.0 ≡ a.1.0 → a.1.0 < total (below ++ above)
      → r.no ≡ 0 → r'.no ≡ 0 → t'.1.1.0.now ≡ renamed (length below) t.1.1.0.now
  strip_stays a r t h a' r' t' h' e e' f l z z' =
      let there = rw e at ((strip_right κs a r t h).written z) in
      (strip_right κs' a' r' t' h').written z' ∙ rw (e', f, there) (strip_sold_out below above a.1.0 l)
