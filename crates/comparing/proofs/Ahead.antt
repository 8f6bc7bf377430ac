-- Proofs. Which of two strips has the smaller number: the first kinds decide, where the strips differ in them.
use Prim.Native.Nat.{ℕ, zero, suc, ◌+◌, ◌-◌, ◌≤◌, ◌<◌}
use mathlib.Core.Path.{◌≡◌}
use mathlib.Core.List.{List}
use native.Mathlib.Omega.{arith}
use lib.ListN.{length, take}
use lib.Seq.{take_all}
use Rattle.rules.specs.Stock.{sum, IsStrip}
use Rattle.rules.specs.Book.{reduced, book, place_in, pattern}
use Rattle.rules.proofs.Listed.{same_place}
use Rattle.rules.proofs.Patterns.{listed_e}
use Rattle.rules.proofs.Strips.{number, listed}
use Rattle.rules.proofs.Numbers.{numbered_lt}
use Rattle.rules.proofs.Reduced.{prefix_strip, prefix_all}
use Rattle.rules.proofs.Prefixes.{prefix_word, number_next}
use Rattle.rules.proofs.Places.{place_number}
use Rattle.comparing.specs.Order.{which_of}
use Rattle.comparing.proofs.Numbers.{which_as}

-- ahead in the first kinds, ahead in all: from the first j kinds up, one kind after the other
module _ (counts s t : List ℕ) (hs : IsStrip counts s) (ht : IsStrip counts t) where
  up : (d j : ℕ) → j + d ≡ length counts → number (take j counts) (reduced j s) < number (take j counts) (reduced j t) → number counts s < number counts t
  up zero j e h =
      let k : j ≡ length counts = omega arith in
      rw (k, take_all (length counts) counts (omega arith), prefix_all counts s hs, prefix_all counts t ht) at h
  up (suc d) j e h =
      let l : j < length counts = omega arith in
      let w = (listed_e (sum (take (suc j) counts)) (sum (take j counts))).below (pattern (suc j) (reduced (suc j) s)) (prefix_word counts s hs j l) in
      up d (suc j) (omega arith) (rw (number_next counts s hs j l, number_next counts t ht j l) (numbered_lt _ _ _ _ _ w h))

  ahead : (j : ℕ) → j ≤ length counts → number (take j counts) (reduced j s) < number (take j counts) (reduced j t) → place_in (book counts) s < place_in (book counts) t
  ahead j l h = rw (place_number counts s hs, place_number counts t ht) (up (length counts - j) j (omega arith) h)

module _ (counts s t : List ℕ) (hs : IsStrip counts s) (ht : IsStrip counts t) (j : ℕ) (l : j ≤ length counts) where
  -- reduced strips with one number are the same
  pub same_number : number (take j counts) (reduced j s) ≡ number (take j counts) (reduced j t) → reduced j s ≡ reduced j t
  same_number = same_place (listed (take j counts)) (reduced j s) (reduced j t) (prefix_strip counts s hs j l) (prefix_strip counts t ht j l)

  -- where they differ, their order is that of the strips
  pub decides : (reduced j s ≡ reduced j t → ⊥) → which_of (number (take j counts) (reduced j s)) (number (take j counts) (reduced j t)) ≡ which_of (place_in (book counts) s) (place_in (book counts) t)
  decides differ = which_as _ _ _ _ (ahead counts s t hs ht j l) (ahead counts t s ht hs j l) (λ e. absurd (differ (same_number e)))
