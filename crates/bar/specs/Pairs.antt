-- TO BE BELIEVED. Document 02, P9: refusals 15 and 16.
use Rattle.std.specs.Prelude.{ℕ, suc, Bool, ◌&&◌, List, [], ◌∷◌, ltb, leb}
use Rattle.rules.specs.Stock.{sum, total}
use Rattle.rules.specs.Refusals.{No, when, at_place, pick}

-- whether two places are in 1 to n and rise
abbrev pub is_place_pair : ℕ → ℕ → ℕ → Bool
is_place_pair n p q = leb 1 p && (ltb p q && leb q n)

-- the number, from i on, of the first pair that is not so, or of half a pair at the end; 0 where there is none
unfoldable pub wrong_from : ℕ → ℕ → List ℕ → ℕ
wrong_from i n [] = 0
wrong_from i n (p ∷ []) = i
wrong_from i n (p ∷ q ∷ pairs) = pick (is_place_pair n p q) (wrong_from (suc i) n pairs) i

-- 15: total above 4,096
abbrev pub large_no : List ℕ → No
large_no counts = when 15 (ltb 4096 (total counts))

-- 16: a pair with a place outside 1 to n, its places equal or falling, or half a pair at the end; the smallest such pair's number, from 1
abbrev pub pairs_no : List ℕ → List ℕ → No
pairs_no counts pairs = at_place 16 (wrong_from 1 (sum counts) pairs)
