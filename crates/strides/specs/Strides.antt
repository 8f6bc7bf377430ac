-- TO BE BELIEVED. Document 02, P12: record 5, a stride. Its bytes, and what refuses so many moves on from a strip.
use Rattle.std.specs.Prelude.{ℕ, zero, suc, ◌+◌, ◌*◌, ◌/◌, ◌%◌, List, [], ◌∷◌, ◌++◌, ltb}
use Rattle.rules.specs.Refusals.{No, when, many_no}
use Rattle.walking.specs.Answers.{left}

-- ---- a number as bytes, highest byte first

-- the number of some bytes, behind others that come to n
unfoldable pub value_after : ℕ → List ℕ → ℕ
value_after n [] = n
value_after n (x ∷ l) = value_after (n * 256 + x) l

abbrev pub value : List ℕ → ℕ
value l = value_after 0 l

-- the last k bytes of a number
unfoldable pub bytes_of : ℕ → ℕ → List ℕ
bytes_of zero n = []
bytes_of (suc k) n = bytes_of k (n / 256) ++ (n % 256 ∷ [])

-- kind 5, stride: a number of 8 bytes
unfoldable pub stride_record : ℕ → List ℕ
stride_record n = 5 ∷ bytes_of 8 n

-- ---- n moves on from the strip s: 17 for a number below 2, then 7, then 12 if that passes the last strip

unfoldable pub stride_nos : List ℕ → List ℕ → ℕ → List No
stride_nos counts s n = when 17 (ltb n 2) ∷ many_no counts ∷ when 12 (ltb (left counts s) n) ∷ []
