-- Theorems. What is read of a line, over the contract as the function states it.
use Prim.Native.Nat.{ℕ}
use mathlib.Core.Path.{◌≡◌, refl, sym, ap, ◌∙◌}
use mathlib.Core.Option.{Option, none, some}
use mathlib.Core.List.{List}
use contract.Lifetimes.{Lfts}
use borrow.Fn.Kinds.{Dens, ended_of}
use denote.Triple.Clauses.{AtExit}
use Rattle.rules.specs.Outcome.{OneAnswer}
use Rattle.counts.specs.Readable.{Readable}
use Rattle.std.specs.Prelude.{Option as Answer}
use Rattle.counts.specs.Reading.{counts_read, line_read}
use Rattle.counts.proofs.Readings.{readable_read, read_readable}
use Rattle.counts.proofs.read_line.Kinds as read_line
use Rattle.counts.proofs.read_line.Reads as read_line_reads

-- one outcome: two answers that the contract allows for one input are the same
pub one_outcome : OneAnswer 1 read_line.ps read_line.r read_line_reads.Post
one_outcome κs a x y s t h k = h ∙ sym k

-- a line has at most one reading
pub readable_once : (a b input : List ℕ) → Readable a input → Readable b input → a ≡ b
readable_once a b input p q = cc (readable_read a input p, readable_read b input q)

-- what an answer must be: the counts of the line where it can be read, and unreadable where no counts have that line
pub record LineRight (input : List ℕ) (r : Answer (List ℕ)) : Type 0 where
  pub read : (counts : List ℕ) → Readable counts input → r ≡ line_read (some counts)
  pub unreadable : ((counts : List ℕ) → Readable counts input → ⊥) → r ≡ line_read none

pub nothing_read : (input : List ℕ) → ((counts : List ℕ) → Readable counts input → ⊥) → (o : Option (List ℕ)) → counts_read input ≡ o → o ≡ none
nothing_read input h none e = refl
nothing_read input h (some counts) e = absurd (h counts (read_readable counts input e))

pub line_right : (κs : Lfts 1) (a : Dens κs read_line.ps) (r : Answer (List ℕ)) (s : AtExit (ended_of 1 read_line.ps read_line.r) κs) → read_line_reads.Post κs a r s → LineRight a.0.now r
line_right κs a r s h = record {
  read = λ counts p. h ∙ ap line_read (readable_read counts a.0.now p);
  unreadable = λ n. h ∙ ap line_read (nothing_read a.0.now n (counts_read a.0.now) refl);
}
