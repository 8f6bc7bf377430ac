-- Proofs. How many blocks of each kind a strip has, and how many orders those blocks have.
use Prim.Native.Nat.{ℕ, zero, suc, ◌+◌, ◌*◌, ◌≤◌, ◌<◌, suc-le-suc}
use mathlib.Core.Path.{◌≡◌, refl, sym, ap, ◌∙◌}
use mathlib.Core.Bool.{Bool, true, false}
use mathlib.Core.List.{List, [], ◌∷◌, ◌++◌, reverse, reverse-cons}
use native.Mathlib.Decide.{ℕ_discrete, dec_lt}
use native.Mathlib.Nat.{add-zero, eq_of_mul-eq-mul_right}
use native.Mathlib.Omega.{arith}
use lib.Dec.{eqb, ltb}
use borrow.Author.Tests.{eq-eqb, ne_eqb, lt-ltb, le-ltb}
use lib.ListN.{length, get_or}
use lib.Seq.{ext_get_or}
use Rattle.rules.specs.Stock.{sum, total, count, tally, IsStrip}
use Rattle.rules.specs.Factorials.{factorial, factorials}
use Rattle.rules.proofs.Factorials.{total_factorials, factorials_some}
use Rattle.rules.proofs.Prefixes.{total_some}

-- each block a kind from 1 to k
abbrev pub Kinds : ℕ → List ℕ → Type 0
Kinds k [] = Unit {0}
Kinds k (x ∷ s) = (0 < x) × (x ≤ k) × Kinds k s

pub kinds_of : (k : ℕ) (s : List ℕ) → ((i : ℕ) → i < length s → (0 < get_or s i 0) × (get_or s i 0 ≤ k)) → Kinds k s
kinds_of k [] h = tt
kinds_of k (x ∷ s) h =
    let a = h 0 (omega arith) in
    (a.0, a.1, kinds_of k s (λ i l. h (suc i) (suc-le-suc l)))

pub kinds_at : (k : ℕ) (s : List ℕ) → Kinds k s → (i : ℕ) → i < length s → (0 < get_or s i 0) × (get_or s i 0 ≤ k)
kinds_at k [] h i l = absurd (omega arith)
kinds_at k (x ∷ s) h zero l = (h.0, h.1)
kinds_at k (x ∷ s) h (suc i) l = kinds_at k s h.2 i (omega arith)

pub kinds_append : (k : ℕ) (s t : List ℕ) → Kinds k (s ++ t) → Kinds k s × Kinds k t
kinds_append k [] t h = (tt, h)
kinds_append k (x ∷ s) t h = let r = kinds_append k s t h.2 in ((h.0, h.1, r.0), r.1)

pub append_kinds : (k : ℕ) (s t : List ℕ) → Kinds k s → Kinds k t → Kinds k (s ++ t)
append_kinds k [] t h l = l
append_kinds k (x ∷ s) t h l = (h.0, h.1, append_kinds k s t h.2 l)

pub kinds_reverse : (k : ℕ) (s : List ℕ) → Kinds k s → Kinds k (reverse s)
kinds_reverse k [] h = tt
kinds_reverse k (x ∷ s) h = rw (reverse-cons x s) (append_kinds k (reverse s) (x ∷ []) (kinds_reverse k s h.2) (h.0, h.1, tt))

-- two strips with the same blocks
abbrev pub Same : List ℕ → List ℕ → Type 0
Same s t = (j : ℕ) → count j s ≡ count j t

-- ---- counting

pub count_hit : (x : ℕ) (s : List ℕ) → count x (x ∷ s) ≡ suc (count x s)
unfolding count
count_hit x s = rw (eq-eqb x x refl)

pub count_miss : (j x : ℕ) (s : List ℕ) → (x ≡ j → ⊥) → count j (x ∷ s) ≡ count j s
unfolding count
count_miss j x s h = rw (ne_eqb x j h)

pub count_append : (j : ℕ) (s t : List ℕ) → count j (s ++ t) ≡ count j s + count j t
unfolding count
count_append j [] t = omega arith
count_append j (x ∷ s) t = go (eqb x j) (count_append j s t)
  where
    go : (b : Bool) → count j (s ++ t) ≡ count j s + count j t → tally b (count j (s ++ t)) ≡ tally b (count j s) + count j t
    go true e = omega arith
    go false e = e

pub count_cons : (j x : ℕ) (s : List ℕ) → count j (x ∷ s) ≡ count j (x ∷ []) + count j s
count_cons j x s = count_append j (x ∷ []) s

pub count_reverse : (j : ℕ) (s : List ℕ) → count j (reverse s) ≡ count j s
unfolding count
count_reverse j [] = refl
count_reverse j (x ∷ s) = rw (reverse-cons x s) (omega (arith, count_append j (reverse s) (x ∷ []), count_reverse j s, count_cons j x s))

-- how many blocks are of a lower kind than x
unfoldable pub lower : ℕ → List ℕ → ℕ
lower x [] = 0
lower x (y ∷ s) = tally (ltb y x) (lower x s)

pub lower_hit : (x y : ℕ) (s : List ℕ) → y < x → lower x (y ∷ s) ≡ suc (lower x s)
unfolding lower
lower_hit x y s h = rw (lt-ltb y x h)

pub lower_miss : (x y : ℕ) (s : List ℕ) → x ≤ y → lower x (y ∷ s) ≡ lower x s
unfolding lower
lower_miss x y s h = rw (le-ltb y x h)

pub lower_zero : (s : List ℕ) → lower 0 s ≡ 0
unfolding lower
lower_zero [] = refl
lower_zero (y ∷ s) = lower_miss 0 y s (omega arith) ∙ lower_zero s

pub lower_suc : (x : ℕ) (s : List ℕ) → lower (suc x) s ≡ lower x s + count x s
unfolding lower count
lower_suc x [] = refl
lower_suc x (y ∷ s) = elim (dec_lt y x) [
  | yes l ↦ omega (arith, lower_hit (suc x) y s (omega arith), lower_hit x y s l, count_miss x y s (λ e. omega arith), lower_suc x s)
  | no l ↦ elim (ℕ_discrete y x) [
    | yes e ↦ rw e (omega (arith, lower_hit (suc x) x s (omega arith), lower_miss x x s (omega arith), count_hit x s, lower_suc x s))
    | no e ↦ omega (arith, lower_miss (suc x) y s (omega arith), lower_miss x y s (omega arith), count_miss x y s e, lower_suc x s)
  ]
]

pub lower_mono : (x y : ℕ) (s : List ℕ) → x ≤ y → lower x s ≤ lower y s
lower_mono x zero s h =
    let e : x ≡ 0 = omega arith in
    rw e (omega arith)
lower_mono x (suc y) s h = elim (ℕ_discrete x (suc y)) [
  | yes e ↦ rw e (omega arith)
  | no e ↦ omega (arith, lower_suc y s, lower_mono x y s (omega arith))
]

pub lower_same : (x : ℕ) (s t : List ℕ) → Same s t → lower x s ≡ lower x t
lower_same zero s t h = lower_zero s ∙ sym (lower_zero t)
lower_same (suc x) s t h = omega (arith, lower_suc x s, lower_suc x t, lower_same x s t h, h x)

pub lower_length : (x : ℕ) (s : List ℕ) → lower x s ≤ length s
unfolding lower
lower_length x [] = omega arith
lower_length x (y ∷ s) = elim (dec_lt y x) [
  | yes l ↦ omega (arith, lower_hit x y s l, lower_length x s)
  | no l ↦ omega (arith, lower_miss x y s (omega arith), lower_length x s)
]

-- ---- the blocks of each kind, as counts of a stock

unfoldable pub amounts_from : ℕ → ℕ → List ℕ → List ℕ
amounts_from j zero s = []
amounts_from j (suc k) s = count j s ∷ amounts_from (suc j) k s

abbrev pub amounts : ℕ → List ℕ → List ℕ
amounts k s = amounts_from 1 k s

pub length_amounts : (j k : ℕ) (s : List ℕ) → length (amounts_from j k s) ≡ k
unfolding amounts_from
length_amounts j zero s = refl
length_amounts j (suc k) s = ap suc (length_amounts (suc j) k s)

pub amounts_at : (j k i : ℕ) (s : List ℕ) → i < k → get_or (amounts_from j k s) i 0 ≡ count (j + i) s
unfolding amounts_from
amounts_at j zero i s h = absurd (omega arith)
amounts_at j (suc k) zero s h = rw (add-zero j)
amounts_at j (suc k) (suc i) s h =
    let e : j + suc i ≡ suc j + i = omega arith in
    rw e (amounts_at (suc j) k i s (omega arith))

pub amounts_same : (j k : ℕ) (s t : List ℕ) → Same s t → amounts_from j k s ≡ amounts_from j k t
unfolding amounts_from
amounts_same j zero s t h = refl
amounts_same j (suc k) s t h = rw (h j, amounts_same (suc j) k s t h)

pub amounts_strip : (counts s : List ℕ) → IsStrip counts s → amounts (length counts) s ≡ counts
amounts_strip counts s h = ext_get_or 0 (amounts (length counts) s) counts (length_amounts 1 (length counts) s) (λ i l.
    let m : i < length counts = omega (arith, length_amounts 1 (length counts) s) in
    let e : 1 + i ≡ suc i = omega arith in
    amounts_at 1 (length counts) i s m ∙ rw e (h.amounts i m))

-- a block of a kind that is not looked at
pub miss : (j k x : ℕ) (s : List ℕ) → x < j → amounts_from j k (x ∷ s) ≡ amounts_from j k s
unfolding amounts_from
miss j zero x s h = refl
miss j (suc k) x s h = rw (count_miss j x s (λ e. omega arith), miss (suc j) k x s (omega arith))

-- one block more
factorials_more : (j k x : ℕ) (s : List ℕ) → j ≤ x → x < j + k → factorials (amounts_from j k (x ∷ s)) ≡ factorials (amounts_from j k s) * suc (count x s)
unfolding amounts_from factorials factorial
factorials_more j zero x s h l = absurd (omega arith)
factorials_more j (suc k) x s h l = elim (ℕ_discrete x j) [
  | yes e ↦ rw (e, count_hit j s, miss (suc j) k j s (omega arith)) (omega arith)
  | no e ↦ rw (count_miss j x s e) (omega (arith, ap (λ (n : ℕ). factorial (count j s) * n) (factorials_more (suc j) k x s (omega arith) (omega arith))))
]

sum_more : (j k x : ℕ) (s : List ℕ) → j ≤ x → x < j + k → sum (amounts_from j k (x ∷ s)) ≡ suc (sum (amounts_from j k s))
unfolding amounts_from sum
sum_more j zero x s h l = absurd (omega arith)
sum_more j (suc k) x s h l = elim (ℕ_discrete x j) [
  | yes e ↦ rw (e, count_hit j s, miss (suc j) k j s (omega arith)) (omega arith)
  | no e ↦ rw (count_miss j x s e) (omega (arith, sum_more (suc j) k x s (omega arith) (omega arith)))
]

sum_none : (j k : ℕ) → sum (amounts_from j k []) ≡ 0
unfolding amounts_from sum count
sum_none j zero = refl
sum_none j (suc k) = omega (arith, sum_none (suc j) k)

pub sum_amounts : (k : ℕ) (s : List ℕ) → Kinds k s → sum (amounts k s) ≡ length s
sum_amounts k [] h = sum_none 1 k
sum_amounts k (x ∷ s) h = sum_more 1 k x s h.0 (omega (arith, h.1)) ∙ ap suc (sum_amounts k s h.2)

pub same_length : (k : ℕ) (s t : List ℕ) → Kinds k s → Kinds k t → Same s t → length s ≡ length t
same_length k s t h l m = sym (sum_amounts k s h) ∙ ap sum (amounts_same 1 k s t m) ∙ sum_amounts k t l

-- ---- how many orders there are

-- the orders of the blocks of a strip
unfoldable pub orders : ℕ → List ℕ → ℕ
orders k s = total (amounts k s)

pub orders_some : (k : ℕ) (s : List ℕ) → 0 < orders k s
unfolding orders
orders_some k s = omega (arith, total_some (amounts k s))

factorials_none : (j k : ℕ) → factorials (amounts_from j k []) ≡ 1
unfolding amounts_from factorials factorial count
factorials_none j zero = refl
factorials_none j (suc k) = omega (arith, factorials_none (suc j) k)

-- no blocks have one order
pub orders_none : (k : ℕ) → orders k [] ≡ 1
unfolding orders factorial
orders_none k = omega (arith, rw (factorials_none 1 k, sum_none 1 k) at (total_factorials (amounts k [])))

pub orders_same : (k : ℕ) (s t : List ℕ) → Same s t → orders k s ≡ orders k t
unfolding orders
orders_same k s t h = rw (amounts_same 1 k s t h)

pub orders_strip : (counts s : List ℕ) → IsStrip counts s → orders (length counts) s ≡ total counts
unfolding orders
orders_strip counts s h = rw (amounts_strip counts s h)

-- one block more in front
pub orders_more : (k x : ℕ) (s : List ℕ) → Kinds k (x ∷ s) → orders k (x ∷ s) * suc (count x s) ≡ orders k s * suc (length s)
unfolding orders factorial
orders_more k x s h =
    let f = factorials (amounts k s) in
    let some : 0 < f = factorials_some (amounts k s) in
    let before : total (amounts k s) * f ≡ factorial (length s) = total_factorials (amounts k s) ∙ ap factorial (sum_amounts k s h.2) in
    let now : total (amounts k (x ∷ s)) * (f * suc (count x s)) ≡ suc (length s) * factorial (length s) =
    rw (factorials_more 1 k x s h.0 (omega (arith, h.1))) at (total_factorials (amounts k (x ∷ s)) ∙ ap factorial (sum_amounts k (x ∷ s) h)) in
    eq_of_mul-eq-mul_right f some _ _ (omega (arith, now, ap (λ (n : ℕ). suc (length s) * n) before))
