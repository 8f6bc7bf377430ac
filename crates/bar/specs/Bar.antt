-- TO BE BELIEVED. Document 02, P9: what stood on the bar while blocks were exchanged by hand. A list of pairs has two places a pair, counted from 1.
use Rattle.std.specs.Prelude.{ℕ, ◌-◌, Bool, not, List, [], ◌∷◌, length}
use Rattle.rules.specs.Stock.{tally}
use Rattle.rules.specs.Book.{same}
use Rattle.rules.specs.Neighbours.{swap}
use Rattle.walking.specs.Answers.{onward}
use Rattle.searching.specs.Searching.{passed_over, passing, is_among}

-- ---- the strips that stood

-- the strip with the blocks at places p and q exchanged
abbrev pub exchanged : ℕ → ℕ → List ℕ → List ℕ
exchanged p q s = swap 0 s (p - 1) (q - 1)

-- the strip after each exchange, from strip s on
unfoldable pub made : List ℕ → List ℕ → List (List ℕ)
made s [] = []
made s (p ∷ []) = []
made s (p ∷ q ∷ pairs) = exchanged p q s ∷ made (exchanged p q s) pairs

-- all strips that stood on the bar, start included
abbrev pub stood : List ℕ → List ℕ → List (List ℕ)
stood s pairs = s ∷ made s pairs

-- the last of strip s and the strips of a list
unfoldable pub last_of : List ℕ → List (List ℕ) → List ℕ
last_of s [] = s
last_of s (t ∷ l) = last_of t l

-- the final strip
abbrev pub final_strip : List ℕ → List ℕ → List ℕ
final_strip s pairs = last_of s (made s pairs)

-- ---- the exchanges that were moves of the walk

-- whether t is the next strip of the book after s. After the last strip there is none
abbrev pub is_next : List ℕ → List ℕ → List ℕ → Bool
is_next counts s t = same t (onward counts s 1)

-- how many strips of a list are the next one after the strip that stood before them, s before the first
unfoldable pub next_ones : List ℕ → List ℕ → List (List ℕ) → ℕ
next_ones counts s [] = 0
next_ones counts s (t ∷ l) = tally (is_next counts s t) (next_ones counts t l)

-- how many exchanges were the walk's next move on from where the bar then stood
abbrev pub walked : List ℕ → List ℕ → List ℕ → ℕ
walked counts s pairs = next_ones counts s (made s pairs)

-- ---- by a list of strips and a book

-- how many strips of the book are among those of the list
abbrev pub different : List (List ℕ) → List (List ℕ) → ℕ
different l book = length (passing (is_among l) book)

-- the smallest number of a strip of the book that is not: how many stand ahead of it. All of them where none is missing
abbrev pub missing : List (List ℕ) → List (List ℕ) → ℕ
missing l book = passed_over (λ s. not (is_among l s)) book

-- how many different strips there are in the list alone: each is counted where it is not met again
unfoldable pub distinct : List (List ℕ) → ℕ
distinct [] = 0
distinct (s ∷ l) = tally (not (is_among l s)) (distinct l)
