-- What looking ahead for a stride and making one promise. No open call's contract cites it, so nothing here is to be believed.
use Rattle.std.specs.Prelude.{ℕ, ◌+◌, ◌≡◌, List, Result, Ok, Err, IfOk}
use Rattle.rules.specs.Book.{book, place_in}
use Rattle.rules.specs.Refusals.{No, fine, first_of}
use Rattle.stock.specs.declared.refused.Reason.{Reason}
use Rattle.stock.specs.Refused.{number_of}
use Rattle.walking.specs.Answers.{onward}
use Rattle.strides.specs.Strides.{stride_nos}

-- the row that refuses, which has no place, or none
abbrev pub row_of : {A : Type 0} → Result A Reason → No
row_of (Ok a) = fine
row_of (Err r) = (number_of r, 0)

-- a stride of n moves from the strip s: its refusal, and where there is none, the number of the strip that it leads to
pub record Sees (counts s : List ℕ) (n : ℕ) (a : Result ℕ Reason) : Type 0 where
  pub refusal : row_of a ≡ first_of (stride_nos counts s n)
  pub place : IfOk a (λ number. number ≡ place_in (book counts) s + n)

-- and where there is none, the strip that is left
pub record Strode (counts s : List ℕ) (n : ℕ) (a : Result (Unit {0}) Reason) (t : List ℕ) : Type 0 where
  pub refusal : row_of a ≡ first_of (stride_nos counts s n)
  pub strip : IfOk a (λ made. t ≡ onward counts s n)
