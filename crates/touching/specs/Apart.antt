-- TO BE BELIEVED. Document 02, P13: no two of a kind touching, on a panel, or at true on an endless paper.
use Rattle.std.specs.Prelude.{ℕ, Bool, true, false, not, ◌&&◌, List, [], ◌∷◌, eqb, drop}
use Rattle.papers.specs.Papers.{turned}

-- the right neighbour of each place, as far as it has one: on an endless paper the last place neighbours the first, so that a strip of one block neighbours itself
unfoldable pub on_right : Bool → List ℕ → List ℕ
on_right false s = drop 1 s
on_right true s = turned 1 s

-- whether two lists, as far as both reach, have different blocks at every place
unfoldable pub unlike : List ℕ → List ℕ → Bool
unlike [] t = true
unlike (x ∷ s) [] = true
unlike (x ∷ s) (y ∷ t) = not (eqb x y) && unlike s t

-- whether a strip is without equal neighbours
unfoldable pub stands_apart : Bool → List ℕ → Bool
stands_apart endless s = unlike s (on_right endless s)
