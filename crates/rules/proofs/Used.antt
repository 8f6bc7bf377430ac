-- Proofs. Counts to the last one that is not 0: the first of them, with all the blocks and the same book; and where there are some blocks, an accepted stock.
use Prim.Native.Nat.{ℕ, zero, suc, ◌-◌, ◌≤◌, ◌<◌}
use mathlib.Core.Path.{◌≡◌, refl, sym, ap, ◌∙◌}
use mathlib.Core.List.{List, [], ◌∷◌, ◌++◌}
use native.Mathlib.Decide.{ℕ_discrete}
use native.Mathlib.Omega.{arith}
use lib.ListN.{length, take, length-take}
use Rattle.rules.specs.Stock.{sum, last_count, IsStock}
use Rattle.rules.specs.Book.{book}
use Rattle.rules.specs.SoldOut.{until_last, used}
use Rattle.rules.proofs.Last.{split_last, last_added, from_end}
use Rattle.rules.proofs.Turned.{sum_append}
use Rattle.rules.proofs.SoldOut.{last_sold_out}

module _ (x : ℕ) (some : x ≡ 0 → ⊥) where
  until_one : until_last x [] ≡ x ∷ []
  until_one = go x some
    where
      go : (x : ℕ) → (x ≡ 0 → ⊥) → until_last x [] ≡ x ∷ []
      go zero h = absurd (h refl)
      go (suc x) h = refl

until_more : (y x : ℕ) (l : List ℕ) → until_last y (l ++ (x ∷ [])) ≡ y ∷ (l ++ (x ∷ []))
until_more zero x [] = refl
until_more zero x (z ∷ l) = refl
until_more (suc y) x l = refl

pub used_zero : (l : List ℕ) → used (l ++ (0 ∷ [])) ≡ used l
unfolding used
used_zero [] = refl
used_zero (x ∷ l) = ap (until_last x) (used_zero l)

pub used_last : (l : List ℕ) (x : ℕ) → (x ≡ 0 → ⊥) → used (l ++ (x ∷ [])) ≡ l ++ (x ∷ [])
unfolding used
used_last [] x h = until_one x h
used_last (y ∷ l) x h = ap (until_last y) (used_last l x h) ∙ until_more y x l

pub used_prefix : (l : List ℕ) → take (length (used l)) l ≡ used l
unfolding used
used_prefix [] = refl
used_prefix (x ∷ l) = go x (used l) (used_prefix l)
  where
    go : (x : ℕ) (u : List ℕ) → take (length u) l ≡ u → take (length (until_last x u)) (x ∷ l) ≡ until_last x u
    go zero [] e = refl
    go zero (y ∷ u) e = ap (λ (r : List ℕ). zero ∷ r) e
    go (suc x) u e = ap (λ (r : List ℕ). suc x ∷ r) e

-- a list whose last count is not 0
pub used_all : (l : List ℕ) → 1 ≤ last_count l → used l ≡ l
used_all [] h = absurd (omega arith)
used_all (x ∷ l) h =
    let e = split_last (x ∷ l) (omega arith) in
    ap used e ∙ used_last (take (length (x ∷ l) - 1) (x ∷ l)) (last_count (x ∷ l)) (omega arith) ∙ sym e

-- what is used of counts ends in one that is not 0
pub used_ends : (l : List ℕ) → 0 < length (used l) → 1 ≤ last_count (used l)
unfolding used
used_ends = from_end (λ l. 0 < length (used l) → 1 ≤ last_count (used l)) (λ h. absurd (omega arith)) next
  where
    next : (l : List ℕ) (x : ℕ) → (0 < length (used l) → 1 ≤ last_count (used l)) → 0 < length (used (l ++ (x ∷ []))) → 1 ≤ last_count (used (l ++ (x ∷ [])))
    next l x before = elim (ℕ_discrete x 0) [
      | yes e ↦ rw (e, used_zero l) before
      | no e ↦ rw (used_last l x e) (λ h. omega (arith, last_added l x))
    ]

pub used_within : (l : List ℕ) → length (used l) ≤ length l
used_within l = omega (arith, ap length (used_prefix l), length-take (length (used l)) l)

-- what a count of 0 at the end does not change is the same of the counts that are used
used_alike : {A : Type 0} (f : List ℕ → A) → ((l : List ℕ) → f (l ++ (0 ∷ [])) ≡ f l) → (l : List ℕ) → f (used l) ≡ f l
unfolding used
used_alike f none = from_end (λ l. f (used l) ≡ f l) refl next
  where
    next : (l : List ℕ) (x : ℕ) → f (used l) ≡ f l → f (used (l ++ (x ∷ []))) ≡ f (l ++ (x ∷ []))
    next l x before = elim (ℕ_discrete x 0) [ yes e ↦ rw (e, used_zero l) (before ∙ sym (none l)) | no e ↦ rw (used_last l x e) ]

pub used_sum : (l : List ℕ) → sum (used l) ≡ sum l
unfolding sum
used_sum = used_alike sum (λ l. omega (arith, sum_append l (0 ∷ [])))

pub used_book : (l : List ℕ) → book (used l) ≡ book l
used_book = used_alike book last_sold_out

-- 16 counts at most, with some blocks and no more than 64
pub used_stock : (l : List ℕ) → length l ≤ 16 → 1 ≤ sum l → sum l ≤ 64 → IsStock (used l)
unfolding sum
used_stock l few blocks short =
    let some : 0 < length (used l) = has_kind (used l) (omega (arith, used_sum l)) in
    record { some = some; few = omega (arith, used_within l); last = used_ends l some; short = omega (arith, used_sum l) }
  where
    has_kind : (l : List ℕ) → 1 ≤ sum l → 0 < length l
    has_kind [] h = absurd (omega arith)
    has_kind (x ∷ l) h = omega arith
