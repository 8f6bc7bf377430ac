-- Theorem. Refusals of Replay, computed from the definitions: 15 before 16 and behind 6, 16 at the first wrong pair, and none.
use Prim.Native.Nat.{ℕ}
use mathlib.Core.Path.{◌≡◌, refl}
use mathlib.Core.List.{List, [], ◌∷◌, ◌++◌}
use lib.ListN.{replicate}
use Rattle.rules.specs.Stock.{sum, count, binom, product, total}
use Rattle.rules.specs.Refusals.{No, first_of, smallest_from, stock_nos, strip_nos, check_nos}
use Rattle.bar.specs.Pairs.{wrong_from}
use Rattle.replaying.specs.Answers.{replay_nos}

-- 4 4 3 has 11,550 strips
abbrev large : List ℕ
large = replicate 4 1 ++ (replicate 4 2 ++ replicate 3 3)

abbrev first : List ℕ → List ℕ → List ℕ → No
first counts s pairs = first_of (replay_nos counts s pairs)

pub refusals : (first (4 ∷ 4 ∷ 3 ∷ []) large (0 ∷ []) ≡ (15, 0)) × (first (4 ∷ 4 ∷ 3 ∷ []) (1 ∷ large) (0 ∷ []) ≡ (4, 0)) × (first (2 ∷ 2 ∷ []) (1 ∷ 1 ∷ 2 ∷ 2 ∷ []) (2 ∷ 3 ∷ 1 ∷ []) ≡ (16, 2))
    × (first (2 ∷ 2 ∷ []) (1 ∷ 1 ∷ 2 ∷ 2 ∷ []) (2 ∷ 3 ∷ 3 ∷ 2 ∷ 0 ∷ []) ≡ (16, 2)) × (first (2 ∷ 2 ∷ []) (1 ∷ 1 ∷ 2 ∷ 2 ∷ []) (2 ∷ 3 ∷ 1 ∷ 4 ∷ []) ≡ (0, 0))
unfolding sum count binom product total first_of smallest_from stock_nos strip_nos check_nos wrong_from replay_nos
refusals = (refl, refl, refl, refl, refl)
