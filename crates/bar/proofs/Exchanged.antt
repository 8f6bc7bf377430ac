-- Proofs. The stock on the bar is the same after every exchange.
use Prim.Native.Nat.{ℕ, zero, suc, ◌<◌}
use mathlib.Core.List.{List, [], ◌∷◌}
use native.Mathlib.Omega.{arith}
use lib.ListN.{length, get_or}
use Rattle.rules.specs.Stock.{sum, IsStrip}
use Rattle.rules.proofs.Strips.{strip_sum}
use Rattle.rules.proofs.Swapped.{swap_strip}
use Rattle.bar.specs.Bar.{exchanged, made, stood}
use Rattle.bar.proofs.Pairs.{Places, Right}

pub exchanged_strip : (counts s : List ℕ) (p q : ℕ) → IsStrip counts s → Places (sum counts) p q → IsStrip counts (exchanged p q s)
exchanged_strip counts s p q h r = swap_strip s _ _ (omega (arith, r.some, r.rise)) (omega (arith, r.some, r.rise, r.inside, strip_sum counts s h)) counts h

pub stood_strips : (counts s pairs : List ℕ) → IsStrip counts s → Right (sum counts) pairs → (i : ℕ) → i < length (stood s pairs) → IsStrip counts (get_or (stood s pairs) i [])
unfolding made
stood_strips counts s pairs h r zero l = h
stood_strips counts s [] h r (suc i) l = absurd (omega arith)
stood_strips counts s (p ∷ []) h r (suc i) l = absurd r
stood_strips counts s (p ∷ q ∷ pairs) h r (suc i) l = stood_strips counts (exchanged p q s) pairs (exchanged_strip counts s p q h r.0) r.1 i (omega arith)
