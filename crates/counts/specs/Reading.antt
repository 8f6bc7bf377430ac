-- How the programs' line is read, byte after byte. What is read is exactly a readable line's counts (`read_readable`, `readable_read`, proved), so
-- nothing here is to be believed.
use Rattle.std.specs.Prelude.{ℕ, ◌+◌, ◌*◌, ◌-◌, Bool, true, false, not, cond, ◌&&◌, ◌||◌, List, [], ◌∷◌, ◌++◌, eqb, ltb, leb, length, get_or, take}
use Rattle.std.proofs.Math.Option.{Option, none, some}
use Rattle.std.specs.Prelude.{Option as Answer, Some, None}
use Rattle.lines.specs.Text.{feed, space}

-- whether a byte is a digit that may stand next in a count: there is none yet, or what is read is not 0 and has fewer than three digits
abbrev pub takes : Bool → ℕ → ℕ → Bool
takes begun value b = leb 48 b && (leb b 57 && (ltb value 100 && (not begun || ltb 0 value)))

-- what is read, with counts that were read before it
abbrev pub before : List ℕ → Option (List ℕ) → Option (List ℕ)
before done none = none
before done (some l) = some (done ++ l)

-- the counts of a line without its line feed, where the digits of a count may have begun
unfoldable pub read_from : Bool → ℕ → List ℕ → Option (List ℕ)
read_from begun value [] = cond begun (some (value ∷ [])) none
read_from begun value (b ∷ l) = cond (takes begun value b) (read_from true (10 * value + (b - 48)) l) (cond (begun && eqb b space) (before (value ∷ []) (read_from false 0 l)) none)

-- the counts of a line; none where it cannot be read
unfoldable pub counts_read : List ℕ → Option (List ℕ)
unfolding read_from
counts_read input = cond (leb (length input) 255 && eqb (get_or input (length input - 1) 0) feed) (read_from false 0 (take (length input - 1) input)) none

-- a count on its way: whether its first digit is read, and what is read of it
abbrev pub has_begun : Answer ℕ → Bool
has_begun None = false
has_begun (Some value) = true

abbrev pub value_of : Answer ℕ → ℕ
value_of None = 0
value_of (Some value) = value

-- what is read as a call hands it back
abbrev pub line_read : Option (List ℕ) → Answer (List ℕ)
line_read none = None
line_read (some counts) = Some counts
