-- Theorems. Cuts and ceilings, computed. They need the definitions alone.
use Prim.Native.Nat.{ℕ}
use mathlib.Core.Path.{◌≡◌, refl}
use mathlib.Core.List.{List, [], ◌∷◌, map}
use lib.ListN.{replicate}
use Rattle.rules.specs.Stock.{sum, count, binom, product, total}
use Rattle.rules.specs.Book.{E, after, pattern, reduced}
use Rattle.rules.specs.Refusals.{fine, first_of, smallest_from, stock_nos, strip_nos, check_nos}
use Rattle.cuts.specs.Cuts.{has, cuts_from_end, cuts, sum_over, strip_cuts, ceiling}

-- the words of E(4, 2), as document 01 has them: RRKK, RKRK, KRRK, KRKR, RKKR, KKRR
pub cuts_4_2 : map cuts (E 4 2) ≡ 2 ∷ 2 ∷ 2 ∷ 2 ∷ 2 ∷ 1 ∷ []
unfolding cuts cuts_from_end has E after
cuts_4_2 = refl

-- of 7; of 2 2; of 0 3, whose first kind with blocks is kind 2; of 0 2 0 3
pub ceilings : map ceiling ((7 ∷ []) ∷ (2 ∷ 2 ∷ []) ∷ (0 ∷ 3 ∷ []) ∷ (0 ∷ 2 ∷ 0 ∷ 3 ∷ []) ∷ []) ≡ 0 ∷ 3 ∷ 0 ∷ 4 ∷ []
unfolding ceiling sum sum_over smallest_from
ceilings = refl

-- ---- how far the ceiling is from what happens

-- one block of kind 1, so many of kind 2, and then so many kinds of one block each
abbrev pub stock_of : ℕ → ℕ → List ℕ
stock_of twos more = 1 ∷ twos ∷ replicate more 1

-- a strip of 1 49 1 1 .. 1, of 16 kinds: 1, then 16 down to 3, and then the 2s
abbrev pub deep : List ℕ
deep = 1 ∷ 16 ∷ 15 ∷ 14 ∷ 13 ∷ 12 ∷ 11 ∷ 10 ∷ 9 ∷ 8 ∷ 7 ∷ 6 ∷ 5 ∷ 4 ∷ 3 ∷ replicate 49 2

-- and one of 1 50 1 1 .. 1, of 12 kinds, which can be numbered: 1, then 12 down to 3, and then the 2s
abbrev pub deep_numbered : List ℕ
deep_numbered = 1 ∷ 12 ∷ 11 ∷ 10 ∷ 9 ∷ 8 ∷ 7 ∷ 6 ∷ 5 ∷ 4 ∷ 3 ∷ replicate 50 2

pub are_strips : first_of (check_nos (stock_of 49 14) deep) ∷ first_of (check_nos (stock_of 50 10) deep_numbered) ∷ [] ≡ fine ∷ fine ∷ []
unfolding first_of check_nos stock_nos strip_nos smallest_from count sum
are_strips = refl

pub cuts_448_330 : strip_cuts (stock_of 49 14) deep ∷ strip_cuts (stock_of 50 10) deep_numbered ∷ [] ≡ 448 ∷ 330 ∷ []
unfolding strip_cuts sum_over cuts cuts_from_end has pattern reduced
cuts_448_330 = refl

-- T of the two stocks: not below 2^64 of the first, which Number refuses by 7, and below it of the second
pub totals : map total (stock_of 49 14 ∷ stock_of 50 10 ∷ []) ≡ 208598907329474462760960000 ∷ 16688980681121548800 ∷ []
unfolding total product binom sum
totals = refl

-- the ceilings of the two, and of 49 1 1 .. 1, of 16 kinds
pub ceilings_840 : map ceiling (stock_of 49 14 ∷ stock_of 50 10 ∷ (49 ∷ replicate 15 1) ∷ []) ≡ 840 ∷ 605 ∷ 840 ∷ []
unfolding ceiling sum sum_over smallest_from
ceilings_840 = refl
