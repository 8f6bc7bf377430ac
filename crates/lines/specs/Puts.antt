-- TO BE BELIEVED. A text written into a lent line.
use Rattle.std.specs.Prelude.{ℕ, ◌+◌, ◌≡◌, List, ◌++◌, length, take, drop}

-- a line with a text written from an index on: what stands before the text and after it stays
abbrev pub put : List ℕ → ℕ → List ℕ → List ℕ
put line at text = take at line ++ (text ++ drop (at + length text) line)

-- the text is written, and the answer is the index after it
abbrev pub Puts : List ℕ → ℕ → List ℕ → List ℕ → ℕ → Type 0
Puts line at text written after = (after ≡ at + length text) × (written ≡ put line at text)
