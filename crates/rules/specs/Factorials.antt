-- TO BE BELIEVED. Document 01, "Stock, strip, numbers": the factorials by which T is said a second time.
use Rattle.std.specs.Prelude.{ℕ, zero, suc, ◌*◌, List, [], ◌∷◌}

-- n!
unfoldable pub factorial : ℕ → ℕ
factorial zero = 1
factorial (suc n) = suc n * factorial n

-- the product of the factorials of the counts
unfoldable pub factorials : List ℕ → ℕ
unfolding factorial
factorials [] = 1
factorials (c ∷ cs) = factorial c * factorials cs
