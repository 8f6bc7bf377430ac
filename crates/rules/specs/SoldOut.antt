-- TO BE BELIEVED. Document 02, P3: what the kinds of a stock are called in the stock that has a sold-out kind among them; and counts without the sold-out kinds at their end.
use Rattle.std.specs.Prelude.{ℕ, zero, suc, List, [], ◌∷◌, map, ltb}
use Rattle.rules.specs.Refusals.{pick}

-- with a kind put in above kind j, each kind above j is called one higher
abbrev pub one_higher : ℕ → ℕ → ℕ
one_higher j kind = pick (ltb j kind) (suc kind) kind

-- a strip, so renamed
abbrev pub renamed : ℕ → List ℕ → List ℕ
renamed j s = map (one_higher j) s

-- a count put in front of others, but no 0 in front of none
abbrev pub until_last : ℕ → List ℕ → List ℕ
until_last zero [] = []
until_last zero (y ∷ l) = zero ∷ y ∷ l
until_last (suc x) l = suc x ∷ l

-- counts to the last one that is not 0
unfoldable pub used : List ℕ → List ℕ
used [] = []
used (x ∷ l) = until_last x (used l)
