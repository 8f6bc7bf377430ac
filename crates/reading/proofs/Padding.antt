-- Proofs. Lists with zeros after them: what is used of one is the list before the zeros, and each list of bytes is what is used of it with zeros after.
use Prim.Native.Nat.{ℕ, zero, suc, ◌-◌, ◌≤◌}
use mathlib.Core.Path.{◌≡◌, refl, ap, ◌∙◌}
use mathlib.Core.Bool.{true}
use mathlib.Core.List.{List, [], ◌∷◌, ◌++◌}
use native.Mathlib.Omega.{arith}
use lib.ListN.{length, take, drop, replicate, length-replicate, length-take, length-drop, take-append-drop}
use lib.Seq.{take_at, drop_at}
use Rattle.rules.specs.Stock.{last_count}
use Rattle.rules.specs.SoldOut.{until_last, used}
use Rattle.rules.proofs.Places.{same_self, same_true}
use Rattle.rules.proofs.Used.{used_all}
use Rattle.records.proofs.BodyLaws.{zeros}
use Rattle.sheets.specs.Sheets.{padded}

-- ---- counts

used_zeros : (l : List ℕ) (k : ℕ) → used (l ++ replicate k 0) ≡ used l
unfolding used
used_zeros [] zero = refl
used_zeros [] (suc k) = ap (until_last 0) (used_zeros [] k)
used_zeros (x ∷ l) k = ap (until_last x) (used_zeros l k)

pub used_padded : (n : ℕ) (l : List ℕ) → 1 ≤ last_count l → used (padded n l) ≡ l
unfolding padded
used_padded n l h = used_zeros l (n - length l) ∙ used_all l h

pub padded_used : (l : List ℕ) → padded (length l) (used l) ≡ l
unfolding padded used
padded_used [] = refl
padded_used (x ∷ l) = go x (used l) (padded_used l)
  where
    go : (x : ℕ) (u : List ℕ) → u ++ replicate (length l - length u) 0 ≡ l → until_last x u ++ replicate (suc (length l) - length (until_last x u)) 0 ≡ x ∷ l
    go zero [] e =
        let m : suc (length l) - 0 ≡ suc (length l) = omega arith in
        let n : length l - 0 ≡ length l = omega arith in
        rw m (ap (λ (r : List ℕ). 0 ∷ r) (rw n at e))
    go zero (y ∷ u) e =
        let m : suc (length l) - suc (suc (length u)) ≡ length l - suc (length u) = omega arith in
        rw m (ap (λ (r : List ℕ). 0 ∷ r) e)
    go (suc x) u e =
        let m : suc (length l) - suc (length u) ≡ length l - length u = omega arith in
        rw m (ap (λ (r : List ℕ). suc x ∷ r) e)

-- ---- a strip

module _ (n k : ℕ) (l : List ℕ) (long : length l ≡ k) where
  pub padded_front : take k (padded n l) ≡ l
  unfolding padded
  padded_front = take_at l (replicate (n - length l) 0) k long

  pub padded_rest : drop k (padded n l) ≡ replicate (n - length l) 0
  unfolding padded
  padded_rest = drop_at l (replicate (n - length l) 0) k long

pub zeros_zeros : (k : ℕ) → zeros (replicate k 0) ≡ true
zeros_zeros k = rw (length-replicate {A = ℕ} k 0) (same_self (replicate k 0))

-- a list whose bytes from k on are 0
pub padded_split : (k : ℕ) (l : List ℕ) → k ≤ length l → zeros (drop k l) ≡ true → padded (length l) (take k l) ≡ l
unfolding padded
padded_split k l h z =
    let n : length l - length (take k l) ≡ length (drop k l) = omega (arith, length-take k l, length-drop k l) in
    rw (n, ← same_true (drop k l) (replicate (length (drop k l)) 0) z) (take-append-drop k l)
