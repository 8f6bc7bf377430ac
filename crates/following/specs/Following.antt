-- TO BE BELIEVED. What the records after the strip of a sheet come to, in both editions. Edition 2 is edition 1 with strides, record 5 of document 02, P12.
use Rattle.std.specs.Prelude.{ℕ, zero, suc, ◌+◌, Bool, true, false, not, ◌&&◌, List, [], ◌∷◌, eqb, ltb, length, take}
use Rattle.rules.specs.Book.{same}
use Rattle.rules.specs.Neighbours.{places}
use Rattle.rules.specs.Refusals.{No, fine, when, first_of}
use Rattle.stock.specs.Refused.{refusal}
use Rattle.walking.specs.Answers.{along, onward}
use Rattle.strides.specs.Strides.{value, stride_nos}
use Rattle.following.specs.declared.Readout.{Readout}

-- what they come to: the first refusal, the moves, the strip after them
pub record Followed : Type 0 where
  pub no : No
  pub moves : ℕ
  pub strip : List ℕ

abbrev pub refused_at : ℕ → ℕ → Followed
refused_at n at = record { no = (n, at); moves = 0; strip = [] }

-- n moves before what follows
abbrev pub more : ℕ → Followed → Followed
more n f = record { no = f.no; moves = n + f.moves; strip = f.strip }

abbrev pub choice : Bool → Followed → Followed → Followed
choice true f g = f
choice false f g = g

-- the end at a byte: nothing may follow
abbrev pub ended : List ℕ → ℕ → List ℕ → Followed
ended s at [] = record { no = fine; moves = 0; strip = s }
ended s at (x ∷ rest) = refused_at 11 (at + 1)

-- a record at a byte whose body has k bytes: 11 where it is cut short
abbrev pub whole : ℕ → List ℕ → ℕ → Followed → Followed
whole k rest at f = choice (ltb (length rest) k) (refused_at 11 at) f

-- n moves by the record at a byte, or its refusal, whose place is that byte
abbrev pub if_made : No → ℕ → ℕ → Followed → Followed
if_made (zero, p) n at f = more n f
if_made (suc m, p) n at f = refused_at (suc m) at

-- 12: the two places of a move are not those of the next one
abbrev pub next_no : List ℕ → List ℕ → List ℕ → No
next_no s t pair = when 12 (not (same (places s t) pair))

-- by the kind of the record at a byte: 3 is a move, 5 a stride where there are strides, 4 an end, any other is 11
abbrev pub by_kind : Bool → ℕ → ℕ → Followed → Followed → Followed → Followed
by_kind strides kind at move stride end = choice (eqb kind 3) move (choice (strides && eqb kind 5) stride (choice (eqb kind 4) end (refused_at 11 at)))

-- the bytes from a byte on, the strip s standing: the first `body` of them belong to the record before, then a record follows; where none does, it is 11
unfoldable pub follow_past : Bool → List ℕ → List ℕ → ℕ → ℕ → List ℕ → Followed
unfolding along
follow_past strides counts s at zero [] = refused_at 11 at
follow_past strides counts s at (suc body) [] = refused_at 11 at
follow_past strides counts s at (suc body) (x ∷ rest) = follow_past strides counts s (at + 1) body rest
follow_past strides counts s at zero (kind ∷ rest) =
    let t = onward counts s 1 in
    let n = value (take 8 rest) in
    let u = onward counts s n in
    by_kind strides kind at
    (whole 2 rest at (if_made (next_no s t (take 2 rest)) 1 at (follow_past strides counts t (at + 1) 2 rest)))
    (whole 8 rest at (if_made (first_of (stride_nos counts s n)) n at (follow_past strides counts u (at + 1) 8 rest)))
    (ended s at rest)

-- the records from a byte on: of edition 2 where strides is true, and else of edition 1
abbrev pub follow : Bool → List ℕ → List ℕ → ℕ → List ℕ → Followed
follow strides counts s at l = follow_past strides counts s at 0 l

-- what reading answers: a refusal, and the moves
abbrev pub as_readout : No → ℕ → Readout
as_readout r c = record { refusal = refusal r; moves = c }
