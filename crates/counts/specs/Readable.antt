-- TO BE BELIEVED. Document 01, "The printing program": the line that it reads, as bytes.
use Rattle.std.specs.Prelude.{ℕ, ◌≤◌, ◌<◌, ◌≡◌, List, [], ◌∷◌, ◌++◌, map, length, get_or}
use Rattle.lines.specs.Text.{feed, space, decimal, joined}

-- counts in decimal, single spaces between, a line feed at the end
unfoldable pub line_of : List ℕ → List ℕ
line_of counts = joined space (map decimal counts) ++ (feed ∷ [])

-- an input that can be read: the line of one or more counts of one to three digits, nothing after, at most 255 bytes
pub record Readable (counts input : List ℕ) : Type 0 where
  pub some : 1 ≤ length counts
  pub each : (i : ℕ) → i < length counts → get_or counts i 0 < 1000
  pub line : input ≡ line_of counts
  pub short : length input ≤ 255
