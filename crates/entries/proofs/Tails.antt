-- Proofs. The number of the blocks from a place on, and one block more.
use Prim.Native.Nat.{ℕ, zero, suc, ◌+◌, ◌-◌, ◌*◌, ◌/◌, ◌^◌, ◌≤◌, ◌<◌}
use mathlib.Core.Path.{◌≡◌, refl, sym, ap, ◌∙◌}
use mathlib.Core.List.{List, [], ◌∷◌}
use native.Mathlib.Decide.{ℕ_discrete}
use native.Mathlib.Nat.{div-eq_of_eq-mul_left, mul-le-mul_left, le_of_mul-le-mul_right}
use native.Mathlib.Numerals.{add-one}
use native.Mathlib.Omega.{arith}
use lib.ListN.{length, get_or, take, drop, set, replicate, length-drop, length-set, length-replicate, get_or-replicate}
use lib.Seq.{drop-cons, drop-length, get_or-set_same, get_or-set_other}
use Rattle.std.specs.Prelude.{Some, None}
use Rattle.std.specs.List.{sum as added}
use Rattle.std.proofs.lemmas.List.Recursion.{is_sum_by}
use Rattle.rules.specs.Stock.{sum, total, count, IsStock, IsStrip}
use Rattle.rules.specs.Book.{place_in}
use Rattle.rules.proofs.Strips.{strip_sum}
use Rattle.rules.proofs.Turned.{sum_next}
use Rattle.dictionary.specs.Dictionary.{dictionary}
use Rattle.dictionary.proofs.Amounts.{Kinds, count_hit, count_miss, lower, lower_length, lower_zero, lower_suc, orders, orders_none, orders_strip, orders_more}
use Rattle.dictionary.proofs.Places.{rank, rank_below, dict_rank, strip_kinds}
use Rattle.dictionary.proofs.Theorems.{place_rank}
use Rattle.entries.specs.Fitting.{fitting}
use Rattle.entries.proofs.Fitting.{same_share, none_over, some_fits}

-- ---- a tail has no more orders than the whole

orders_grow : (k x : ℕ) (s : List ℕ) → Kinds k (x ∷ s) → orders k s ≤ orders k (x ∷ s)
orders_grow k x s h = le_of_mul-le-mul_right {k = suc (length s)}
    (omega (arith, orders_more k x s h, mul-le-mul_left (orders k (x ∷ s)) (fewer))) (omega arith)
  where
    fewer : suc (count x s) ≤ suc (length s)
    fewer = omega (arith, lower_suc x s, lower_length (suc x) s)

kinds_drop : (k i : ℕ) (s : List ℕ) → Kinds k s → Kinds k (drop i s)
kinds_drop k zero s h = h
kinds_drop k (suc i) [] h = tt
kinds_drop k (suc i) (x ∷ s) h = kinds_drop k i s h.2

orders_drop : (k i : ℕ) (s : List ℕ) → Kinds k s → orders k (drop i s) ≤ orders k s
orders_drop k zero s h = omega arith
orders_drop k (suc i) [] h = omega arith
orders_drop k (suc i) (x ∷ s) h = omega (arith, orders_drop k i s h.2, orders_grow k x s h)

-- ---- how many blocks there are of each kind, in an array

pub record Seen (seen t : List ℕ) : Type 0 where
  pub room : length seen ≡ 17
  pub each : (j : ℕ) → j < 17 → get_or seen j 0 ≡ count j t

seen_none : Seen (replicate 17 0) []
unfolding count
seen_none = record { room = length-replicate {A = ℕ} 17 0; each = λ j h. get_or-replicate {A = ℕ} 17 j 0 0 h }

module _ (seen t : List ℕ) (s : Seen seen t) where
  -- those of the kinds below x are those of a lower kind
  seen_lower : (x : ℕ) → x ≤ 17 → sum (take x seen) ≡ lower x t
  unfolding sum
  seen_lower zero h = sym (lower_zero t)
  seen_lower (suc x) h = omega (arith, sum_next seen x (omega (arith, s.room)), s.each x h, seen_lower x (omega arith), lower_suc x t)

  -- as the program adds them up
  added_lower : (x : ℕ) → x ≤ 17 → added (take x seen) ≡ lower x t
  unfolding sum
  added_lower x h = sym (is_sum_by sum (λ n. n) refl (λ n l. refl) (take x seen)) ∙ seen_lower x h

  seen_more : (x : ℕ) → x < 17 → Seen (set seen x (get_or seen x 0 + 1)) (x ∷ t)
  seen_more x h = record { room = length-set seen x (get_or seen x 0 + 1) ∙ s.room; each = at }
    where
      at : (j : ℕ) → j < 17 → get_or (set seen x (get_or seen x 0 + 1)) j 0 ≡ count j (x ∷ t)
      at j l = elim (ℕ_discrete x j) [
        | yes e ↦ rw (← e) (omega (arith, get_or-set_same seen x (get_or seen x 0 + 1) 0 (omega (arith, s.room)), s.each x h, count_hit x t))
        | no e ↦ get_or-set_other seen x j (get_or seen x 0 + 1) 0 (λ f. e (sym f)) ∙ s.each j l ∙ sym (count_miss j x t e)
      ]

-- ---- the blocks from i on: how many of each kind, how many orders, and the number

pub record Tail (counts s seen : List ℕ) (ways number i : ℕ) : Type 0 where
  pub passed : i ≤ length s
  pub counted : Seen seen (drop i s)
  pub ways_are : ways ≡ orders (length counts) (drop i s)
  pub small : ways < 2 ^ 64
  pub number_is : number ≡ rank (length counts) (drop i s)

pub tail_none : (counts s : List ℕ) → Tail counts s (replicate 17 0) 1 0 (length s)
unfolding rank
tail_none counts s = record {
  passed = omega arith;
  counted = rw (drop-length s) seen_none;
  ways_are = rw (drop-length s) (sym (orders_none (length counts)));
  small = omega arith;
  number_is = rw (drop-length s);
}

-- all blocks
pub tail_all : (counts s : List ℕ) → IsStrip counts s → (seen : List ℕ) (ways number : ℕ) → Tail counts s seen ways number 0
    → (ways ≡ total counts) × (total counts < 2 ^ 64) × (number ≡ place_in (dictionary counts) s)
unfolding dict_rank
tail_all counts s own seen ways number t =
    let e : ways ≡ total counts = t.ways_are ∙ orders_strip counts s own in
    (e, omega (arith, e, t.small), t.number_is ∙ sym (place_rank counts s own))

-- what one turn of the loop needs and does: x is the block before place i, m is how many blocks there are with it
pub record Turn (counts s seen : List ℕ) (ways number m i x : ℕ) : Type 0 where
  pub kind_few : x < 17
  pub more_few : m ≤ 64
  pub alike_few : get_or seen x 0 + 1 ≤ m
  pub less_few : added (take x seen) ≤ 64
  pub past : None ≡ fitting (ways * m / (get_or seen x 0 + 1)) → 2 ^ 64 ≤ total counts
  pub number_fits : (more less : ℕ) → Some more ≡ fitting (ways * m / (get_or seen x 0 + 1)) → less ≡ added (take x seen) → number + ways * less / (get_or seen x 0 + 1) < 2 ^ 64
  pub next : (more less q : ℕ) → Some more ≡ fitting (ways * m / (get_or seen x 0 + 1)) → less ≡ added (take x seen) → q ≡ ways * less / (get_or seen x 0 + 1)
      → Tail counts s (set seen x (get_or seen x 0 + 1)) more (number + q) (i - 1)

module _ (counts s seen : List ℕ) (stock : IsStock counts) (own : IsStrip counts s) (ways number i j : ℕ) (t : Tail counts s seen ways number i) (e : suc j ≡ i) where
  abbrev x : ℕ
  x = get_or s j 0

  abbrev rest : List ℕ
  rest = drop i s

  abbrev m : ℕ
  m = length s - j

  opened : drop j s ≡ x ∷ rest
  opened = rw (← e) (drop-cons s j 0 (omega (arith, t.passed)))

  kinds : Kinds (length counts) (x ∷ rest)
  kinds = rw opened at (kinds_drop (length counts) j s (strip_kinds counts s own))

  long : m ≡ suc (length rest)
  long = omega (arith, length-drop i s, t.passed)

  x_few : x < 17
  x_few = omega (arith, kinds.1, stock.few)

  alike_is : get_or seen x 0 ≡ count x rest
  alike_is = t.counted.each x x_few

  less_is : added (take x seen) ≡ lower x rest
  less_is = added_lower seen rest t.counted x (omega (arith, x_few))

  m_few : m ≤ 64
  m_few = omega (arith, strip_sum counts s own, stock.short)

  -- how many orders there are now
  product : orders (length counts) (x ∷ rest) * suc (count x rest) ≡ ways * m
  product = rw (t.ways_are, long) (orders_more (length counts) x rest kinds)

  more_ways : ways * m / (get_or seen x 0 + 1) ≡ orders (length counts) (drop j s)
  more_ways = rw (opened, alike_is, add-one (count x rest)) (div-eq_of_eq-mul_left (omega arith) (sym product))

  -- and the number
  more_number : number + ways * added (take x seen) / (get_or seen x 0 + 1) ≡ rank (length counts) (drop j s)
  unfolding rank
  more_number =
      let q : orders (length counts) (x ∷ rest) * lower x rest / suc (length rest) ≡ ways * lower x rest / suc (count x rest) = same_share (orders (length counts) (x ∷ rest)) ways (count x rest) (length rest) (lower x rest) (rw long at product) in
      rw (opened, q, alike_is, less_is, add-one (count x rest), t.number_is) (omega arith)

  number_below : rank (length counts) (drop j s) < orders (length counts) (drop j s)
  number_below = rank_below (length counts) (drop j s) (kinds_drop (length counts) j s (strip_kinds counts s own))

  past : None ≡ fitting (ways * m / (get_or seen x 0 + 1)) → 2 ^ 64 ≤ total counts
  past z = omega (arith, none_over (orders (length counts) (drop j s)) (z ∙ ap fitting more_ways), orders_drop (length counts) j s (strip_kinds counts s own), orders_strip counts s own)

  module _ (more : ℕ) (is : Some more ≡ fitting (ways * m / (get_or seen x 0 + 1))) where
    fit : (orders (length counts) (drop j s) < 2 ^ 64) × (more ≡ orders (length counts) (drop j s))
    fit = some_fits more (orders (length counts) (drop j s)) (is ∙ ap fitting more_ways)

    number_fits : number + ways * added (take x seen) / (get_or seen x 0 + 1) < 2 ^ 64
    number_fits = omega (arith, more_number, number_below, fit.0)

    next : Tail counts s (set seen x (get_or seen x 0 + 1)) more (number + ways * added (take x seen) / (get_or seen x 0 + 1)) j
    next = record {
      passed = omega (arith, t.passed);
      counted = rw opened (seen_more seen rest t.counted x x_few);
      ways_are = fit.1;
      small = omega (arith, fit.0, fit.1);
      number_is = more_number;
    }

  turn_at : Turn counts s seen ways number m i x
  turn_at =
      let l : i - 1 ≡ j = omega arith in
      record {
        kind_few = x_few;
        more_few = m_few;
        alike_few = omega (arith, alike_is, lower_suc x rest, lower_length (suc x) rest, long);
        less_few = omega (arith, less_is, lower_length x rest, long, m_few);
        past = past;
        number_fits = λ more less is f. rw f (number_fits more is);
        next = λ more less q is f g. rw (g, f, l) (next more is);
      }

pub turn : (counts s seen : List ℕ) → IsStock counts → IsStrip counts s → (ways number i : ℕ) → Tail counts s seen ways number i → 0 < i → Turn counts s seen ways number (length s - (i - 1)) i (get_or s (i - 1) 0)
turn counts s seen stock own ways number i t h = turn_at counts s seen stock own ways number i (i - 1) t (omega arith)
