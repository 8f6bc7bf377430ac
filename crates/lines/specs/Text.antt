-- TO BE BELIEVED. Document 01, "The printing program": the lines that it prints, as bytes.
use Rattle.std.specs.Prelude.{ℕ, zero, suc, ◌+◌, ◌/◌, ◌%◌, List, [], ◌∷◌, ◌++◌, map, ltb}
use Rattle.rules.specs.Refusals.{No, pick}

-- ---- numbers

-- the last k digits of a number
unfoldable pub digits : ℕ → ℕ → List ℕ
digits zero n = []
digits (suc k) n = digits k (n / 10) ++ ((48 + n % 10) ∷ [])

-- how many digits a number below 1,000,000 has
abbrev pub width : ℕ → ℕ
width n = pick (ltb n 10) 1 (pick (ltb n 100) 2 (pick (ltb n 1000) 3 (pick (ltb n 10000) 4 (pick (ltb n 100000) 5 6))))

-- a number below 1,000,000 in decimal, without leading zeros
unfoldable pub decimal : ℕ → List ℕ
unfolding digits
decimal n = digits (width n) n

-- ---- texts

abbrev pub feed : ℕ
feed = 10

abbrev pub space : ℕ
space = 32

abbrev pub hyphen : ℕ
hyphen = 45

-- texts, each with a byte before it
unfoldable pub preceded : ℕ → List (List ℕ) → List ℕ
preceded b [] = []
preceded b (t ∷ ts) = b ∷ (t ++ preceded b ts)

-- texts joined by a byte
unfoldable pub joined : ℕ → List (List ℕ) → List ℕ
unfolding preceded
joined b [] = []
joined b (t ∷ ts) = t ++ preceded b ts

-- ---- the lines that are printed

-- unreadable
abbrev pub unreadable_line : List ℕ
unreadable_line = 117 ∷ 110 ∷ 114 ∷ 101 ∷ 97 ∷ 100 ∷ 97 ∷ 98 ∷ 108 ∷ 101 ∷ feed ∷ []

-- refused
abbrev pub refused_word : List ℕ
refused_word = 114 ∷ 101 ∷ 102 ∷ 117 ∷ 115 ∷ 101 ∷ 100 ∷ []

-- refused, the number and the place, with spaces between
unfoldable pub refused_line : No → List ℕ
unfolding decimal joined
refused_line r = joined space (refused_word ∷ decimal r.0 ∷ decimal r.1 ∷ []) ++ (feed ∷ [])

-- the number, a space, and the kinds in order joined by hyphens
unfoldable pub strip_line : ℕ → List ℕ → List ℕ
unfolding decimal joined
strip_line number s = joined space (decimal number ∷ joined hyphen (map decimal s) ∷ []) ++ (feed ∷ [])
