-- TO BE BELIEVED. Demand 3: what it is that two neighbours in the book differ by one exchange; the places at which two strips differ; and the exchange of two places.
use Rattle.std.specs.Prelude.{ℕ, suc, ◌<◌, ◌≡◌, ◌⊎◌, List, [], ◌∷◌, ◌++◌, eqb, get_or, set, replicate}
use Rattle.rules.specs.Book.{skip}

-- in s a block stands before one of a higher kind, with only blocks of that higher kind between them; t is s with the two exchanged
pub record Passes (s t : List ℕ) : Type 0 where
  pub front : List ℕ
  pub lower : ℕ
  pub higher : ℕ
  pub between : ℕ
  pub back : List ℕ
  pub order : lower < higher
  pub is_from : s ≡ front ++ lower ∷ (replicate between higher ++ higher ∷ back)
  pub is_to : t ≡ front ++ higher ∷ (replicate between higher ++ lower ∷ back)

abbrev pub Neighbours : List ℕ → List ℕ → Type 0
Neighbours s t = Passes s t ⊎ Passes t s

-- the places, from p on, at which two strips differ
unfoldable pub differ_from : ℕ → List ℕ → List ℕ → List ℕ
differ_from p [] t = []
differ_from p (x ∷ s) [] = []
differ_from p (x ∷ s) (y ∷ t) = skip (eqb x y) p (differ_from (suc p) s t)

-- places run from 1
abbrev pub places : List ℕ → List ℕ → List ℕ
places s t = differ_from 1 s t

-- the list in which what stands at places p and q, counted from 0, is exchanged; d stands for what is missing
abbrev pub swap : {A : Type 0} → A → List A → ℕ → ℕ → List A
swap d s p q = set (set s p (get_or s q d)) q (get_or s p d)
