-- What the functions promise of the records and the end. No open call's contract cites it, so nothing here is to be believed.
use Rattle.std.specs.Prelude.{ℕ, ◌+◌, ◌^◌, ◌≤◌, ◌<◌, ◌≡◌, Bool, true, false, List, [], ◌∷◌, length, drop, Option, MatchOption, Result, MatchResult}
use Rattle.rules.specs.Stock.{total}
use Rattle.rules.specs.Book.{same}
use Rattle.rules.specs.Neighbours.{places}
use Rattle.rules.specs.Refusals.{fine}
use Rattle.stock.specs.declared.refused.Refused.{Refused}
use Rattle.stock.specs.Refused.{no_of}
use Rattle.walker.specs.declared.Walker.{Walker}
use Rattle.walker.specs.Walkers.{walker_for}
use Rattle.walking.specs.Answers.{onward, left}
use Rattle.following.specs.declared.record.Taken.{Taken}
use Rattle.following.specs.Following.{Followed, more, follow}

-- what following comes to: the moves and the strip that is left, or the first refusal
abbrev pub Ends : Followed → Result ℕ Refused → List ℕ → Type 0
Ends f r t = MatchResult r (λ moves. f ≡ record { no = fine; moves = moves; strip = t }) (λ e. f.no ≡ no_of e)

-- a strip's next move beside the two places of a move record
abbrev pub shows : List ℕ → List ℕ → ℕ → ℕ → Bool
shows counts s low high = same (places s (onward counts s 1)) (low ∷ high ∷ [])

-- it is made, and the walker is that of the strip that is left
pub record NextMade (counts s : List ℕ) (low high : ℕ) (w : Walker) (t : List ℕ) : Type 0 where
  pub shown : shows counts s low high ≡ true
  pub some : 1 ≤ left counts s
  pub strip : t ≡ onward counts s 1
  pub walker : w ≡ walker_for counts t

-- or it is another move
abbrev pub NextMove : List ℕ → List ℕ → ℕ → ℕ → Option Walker → List ℕ → Type 0
NextMove counts s low high r t = MatchOption r (shows counts s low high ≡ false) (λ w. NextMade counts s low high w t)

-- records at a byte that are passed: what follows them from the strip that is left. More moves than they have bytes are made only where the stock can be numbered
pub record Passed (strides : Bool) (counts sheet s : List ℕ) (at : ℕ) (r : Taken) (t : List ℕ) : Type 0 where
  pub follows : follow strides counts s at (drop at sheet) ≡ more r.moves (follow strides counts t (at + r.bytes) (drop (at + r.bytes) sheet))
  pub inside : at + r.bytes ≤ length sheet
  pub strip : t ≡ onward counts s r.moves
  pub within : r.moves ≤ left counts s
  pub walker : r.walker ≡ walker_for counts t
  pub few : r.bytes < r.moves → total counts < 2 ^ 64
  pub some : 1 ≤ r.bytes

-- records at a byte: all of them passed, or one of them refused
abbrev pub Took : Bool → List ℕ → List ℕ → List ℕ → ℕ → Result Taken Refused → List ℕ → Type 0
Took strides counts sheet s at r t = MatchResult r (λ v. Passed strides counts sheet s at v t) (λ e. (follow strides counts s at (drop at sheet)).no ≡ no_of e)

-- in either edition
abbrev pub TookAny : List ℕ → List ℕ → List ℕ → ℕ → Result Taken Refused → List ℕ → Type 0
TookAny counts sheet s at r t = (strides : Bool) → Took strides counts sheet s at r t
