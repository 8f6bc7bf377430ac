-- Counts are held in 128 places: after the last one, zeros. That this gives the counts back is proved here, so nothing here is to be believed.
use Rattle.std.specs.Prelude.{ℕ, ◌-◌, ◌≤◌, ◌≡◌, List, ◌++◌, length, take, replicate}
use Rattle.std.proofs.Common.{arith, length-take-le}

abbrev pub held : List ℕ → List ℕ
held counts = counts ++ replicate (128 - length counts) 0

-- the first so many of 128 places hold counts
abbrev pub Holds : List ℕ → ℕ → Type 0
Holds places kinds = (kinds ≤ 128) × (length places ≡ 128) × (held (take kinds places) ≡ places)

pub kinds_back : (places : List ℕ) (kinds : ℕ) → Holds places kinds → length (take kinds places) ≡ kinds
kinds_back places kinds h = length-take-le kinds places (omega (arith, h.0, h.1))
