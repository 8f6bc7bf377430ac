-- TO BE BELIEVED. Which of two numbers comes first, and the kind at which two strips part.
use Rattle.std.specs.Prelude.{ℕ, Bool, not, List, ltb, drop}
use Rattle.rules.specs.Book.{same, reduced}
use Rattle.rules.specs.Refusals.{pick, smallest_from}

-- 1: the first is the smaller; 2: the second is; 3: they are equal
unfoldable pub which_of : ℕ → ℕ → ℕ
which_of m n = pick (ltb m n) 1 (pick (ltb n m) 2 3)

-- the reduced strips of the two differ at a kind, whatever its count
abbrev pub is_parted : List ℕ → List ℕ → ℕ → ℕ → Bool
is_parted s t kind c = not (same (reduced kind s) (reduced kind t))

-- the first kind from 2 upward at which the reduced strips of the two differ; 0 where there is none. Behind the first count stand those of kinds 2, 3 and so on
abbrev pub parting_kind : List ℕ → List ℕ → List ℕ → ℕ
parting_kind counts s t = smallest_from 2 (is_parted s t) (drop 1 counts)
