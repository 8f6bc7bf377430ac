-- Proofs. The strip of a number, from its first block to its last: which kind stands next, and what is left.
use Prim.Native.Nat.{ℕ, zero, suc, ◌+◌, ◌-◌, ◌*◌, ◌/◌, ◌≤◌, ◌<◌}
use mathlib.Core.Path.{◌≡◌, refl, sym, ap, ◌∙◌}
use mathlib.Core.Logic.{inl}
use mathlib.Core.List.{List, [], ◌∷◌, ◌++◌, append-nil, append_assoc}
use native.Mathlib.Nat.{add-zero, zero-div, div-eq_of_eq-mul_left, eq_of_mul-eq-mul_right, mul-add-div_right}
use native.Mathlib.Numerals.{add-one}
use native.Mathlib.Omega.{arith}
use lib.ListN.{length, get_or, take, set, length-set}
use lib.Seq.{take_all, take-suc-set, set-set, set-get_or, get_or-set_same}
use Rattle.rules.specs.Stock.{sum, total, count, IsStrip}
use Rattle.rules.specs.Factorials.{factorial, factorials}
use Rattle.rules.proofs.Factorials.{total_factorials, factorials_some}
use Rattle.rules.proofs.Turned.{sum_next}
use Rattle.dictionary.specs.Dictionary.{dictionary}
use Rattle.dictionary.proofs.Amounts.{Kinds, kinds_at, count_hit, count_miss, lower, lower_zero, lower_suc, lower_miss, amounts_from, amounts, amounts_at, length_amounts, miss, sum_amounts, orders, orders_none}
use Rattle.dictionary.proofs.Places.{count_none, rank, dict_rank, listed}
use Rattle.entries.specs.Picking.{Picked}

-- ---- one block of kind y (from 0) less

factorials_set : (cs : List ℕ) (y c : ℕ) → y < length cs → get_or cs y 0 ≡ suc c → factorials (set cs y c) * suc c ≡ factorials cs
unfolding factorials factorial
factorials_set [] y c h e = absurd (omega arith)
factorials_set (d ∷ cs) zero c h e = rw e (omega arith)
factorials_set (d ∷ cs) (suc y) c h e = omega (arith, ap (λ (n : ℕ). factorial d * n) (factorials_set cs y c (omega arith) e))

pub sum_set : (cs : List ℕ) (y c : ℕ) → y < length cs → get_or cs y 0 ≡ suc c → suc (sum (set cs y c)) ≡ sum cs
unfolding sum
sum_set [] y c h e = absurd (omega arith)
sum_set (d ∷ cs) zero c h e = omega arith
sum_set (d ∷ cs) (suc y) c h e = omega (arith, sum_set cs y c (omega arith) e)

pub total_set : (cs : List ℕ) (y c m : ℕ) → y < length cs → get_or cs y 0 ≡ suc c → sum cs ≡ suc m → total cs * suc c ≡ total (set cs y c) * suc m
unfolding factorial
total_set cs y c m h e f =
    let fewer = set cs y c in
    let less : sum fewer ≡ m = omega (arith, sum_set cs y c h e) in
    let old : total cs * factorials cs ≡ suc m * factorial m = total_factorials cs ∙ ap factorial f in
    let new : total fewer * factorials fewer ≡ factorial m = total_factorials fewer ∙ ap factorial less in
    eq_of_mul-eq-mul_right (factorials fewer) (factorials_some fewer) _ _
    (omega (arith, old, ap (λ (n : ℕ). suc m * n) new, ap (λ (n : ℕ). total cs * n) (factorials_set cs y c h e)))

-- the orders that begin with a kind before y are a whole number of n-th parts
exact : (cs : List ℕ) (m : ℕ) → sum cs ≡ suc m → (y : ℕ) → y ≤ length cs → (q : ℕ) × (total cs * sum (take y cs) ≡ q * suc m)
unfolding sum
exact cs m f zero h = (0, omega arith)
exact cs m f (suc y) h =
    let before = exact cs m f y (omega arith) in
    rw (sum_next cs y (omega arith)) (go (get_or cs y 0) refl before.0 before.1)
  where
    go : (c : ℕ) → get_or cs y 0 ≡ c → (q : ℕ) → total cs * sum (take y cs) ≡ q * suc m → (r : ℕ) × (total cs * (c + sum (take y cs)) ≡ r * suc m)
    go zero e q g = (q, omega (arith, g))
    go (suc c) e q g = (q + total (set cs y c), omega (arith, g, total_set cs y c m (omega arith) e f))

-- those that begin with kind y are as many as the rest has orders
one_kind : (cs : List ℕ) (m y c : ℕ) → sum cs ≡ suc m → y < length cs → get_or cs y 0 ≡ suc c → total cs * suc c / suc m ≡ total (set cs y c)
one_kind cs m y c f h e = div-eq_of_eq-mul_left (omega arith) (total_set cs y c m h e f)

-- and with those that begin with a kind before y they are those that begin with no later kind
pub shares_meet : (cs : List ℕ) (m y : ℕ) → sum cs ≡ suc m → y < length cs
    → total cs * sum (take y cs) / suc m + total cs * get_or cs y 0 / suc m ≡ total cs * sum (take (suc y) cs) / suc m
shares_meet cs m y f h =
    let w = exact cs m f y (omega arith) in
    let a : total cs * sum (take y cs) / suc m ≡ w.0 = div-eq_of_eq-mul_left (omega arith) w.1 in
    let b : total cs * (get_or cs y 0 + sum (take y cs)) ≡ w.0 * suc m + total cs * get_or cs y 0 = omega (arith, w.1) in
    rw (sum_next cs y h, a, b) (sym (mul-add-div_right {m = suc m} (omega arith) w.0 (total cs * get_or cs y 0)))

-- ---- one block more in front of a strip

amounts_more : (j k y : ℕ) (s : List ℕ) → y < k → amounts_from j k ((j + y) ∷ s) ≡ set (amounts_from j k s) y (suc (count (j + y) s))
unfolding amounts_from
amounts_more j zero y s h = absurd (omega arith)
amounts_more j (suc k) zero s h = rw (add-zero j, count_hit j s, miss (suc j) k j s (omega arith))
amounts_more j (suc k) (suc y) s h =
    let e : j + suc y ≡ suc j + y = omega arith in
    rw (e, count_miss j (suc j + y) s (λ f. omega arith), amounts_more (suc j) k y s (omega arith))

lower_sum : (k y : ℕ) (s : List ℕ) → Kinds k s → y ≤ k → lower (suc y) s ≡ sum (take y (amounts k s))
unfolding sum
lower_sum k zero s h l = omega (arith, lower_suc 0 s, lower_zero s, count_none k 0 s h (inl refl))
lower_sum k (suc y) s h l =
    let e : 1 + y ≡ suc y = omega arith in
    omega (arith, lower_suc (suc y) s, lower_sum k y s h (omega arith), sum_next (amounts k s) y (omega (arith, length_amounts 1 k s)), rw e at (amounts_at 1 k y s (omega arith)))

module _ (k y c : ℕ) (s left : List ℕ) (kinds : Kinds k s) (h : y < k) (e : get_or left y 0 ≡ suc c) (a : amounts k s ≡ set left y c) (l : length left ≡ k) where
  more_kinds : Kinds k (suc y ∷ s)
  more_kinds = (omega arith, omega arith, kinds)

  more_amounts : amounts k (suc y ∷ s) ≡ left
  more_amounts =
      let f : 1 + y ≡ suc y = omega arith in
      let had : count (suc y) s ≡ c = rw (← f) (sym (amounts_at 1 k y s h) ∙ ap (λ (l : List ℕ). get_or l y 0) a ∙ get_or-set_same left y c 0 (omega arith)) in
      let m : amounts k (suc y ∷ s) ≡ set (amounts k s) y (suc c) = rw (f, had) at (amounts_more 1 k y s h) in
      m ∙ rw (a, set-set left y c (suc c), ← e) (set-get_or left y 0)

  more_rank : rank k (suc y ∷ s) ≡ total left * sum (take y left) / sum left + rank k s
  unfolding rank orders
  more_rank =
      let n : sum left ≡ suc (length s) = ap sum (sym more_amounts) ∙ sum_amounts k (suc y ∷ s) more_kinds in
      let low : lower (suc y) s ≡ sum (take y left) =
      sym (lower_miss (suc y) (suc y) s (omega arith)) ∙ lower_sum k y (suc y ∷ s) more_kinds (omega arith) ∙ ap (λ (l : List ℕ). sum (take y l)) more_amounts in
      rw (more_amounts, low, n)

-- ---- laying a strip, i blocks laid

-- whatever strip of what is left has the rest of the number, behind the blocks laid it makes the strip of the number
pub record Laying (counts strip : List ℕ) (number i : ℕ) (left : List ℕ) (ways rest : ℕ) : Type 0 where
  pub long : length strip ≡ sum counts
  pub kinds : length left ≡ length counts
  pub some : sum left + i ≡ sum counts
  pub ways_are : ways ≡ total left
  pub below : rest < ways
  pub goes : (s : List ℕ) → Kinds (length counts) s → amounts (length counts) s ≡ left → rank (length counts) s ≡ rest
      → Kinds (length counts) (take i strip ++ s) × (amounts (length counts) (take i strip ++ s) ≡ counts) × (rank (length counts) (take i strip ++ s) ≡ number)

pub laying_start : (counts strip : List ℕ) (number ways : ℕ) → length strip ≡ sum counts → ways ≡ total counts → number < ways → Laying counts strip number 0 counts ways number
laying_start counts strip number ways l w b = record {
  long = l;
  kinds = refl;
  some = omega arith;
  ways_are = w;
  below = b;
  goes = λ s k a r. (k, a, r);
}

module _ (counts strip : List ℕ) (number i : ℕ) (left : List ℕ) (ways rest : ℕ) (t : Laying counts strip number i left ways rest) (y ahead own : ℕ) (p : Picked left rest y ahead own) where
  -- there is such a block
  pub has : (c : ℕ) × (get_or left y 0 ≡ suc c)
  has = go (get_or left y 0) p.own_is
    where
      go : (g : ℕ) → own ≡ total left * g / sum left → (c : ℕ) × (g ≡ suc c)
      go zero e =
          let z : total left * 0 ≡ 0 = omega arith in
          let none : own ≡ 0 = rw (z, zero-div (sum left)) at e in
          absurd (omega (arith, p.from, p.to))
      go (suc c) e = (c, refl)

  module _ (m : ℕ) (f : sum left ≡ suc m) (c : ℕ) (e : get_or left y 0 ≡ suc c) where
    own_next : own ≡ total (set left y c)
    own_next = p.own_is ∙ rw (e, f) (one_kind left m y c f p.within e)

    pub laying_on : i < sum counts → Laying counts (set strip i (y + 1)) number (i + 1) (set left y c) own (rest - ahead)
    laying_on h = record {
      long = length-set strip i (y + 1) ∙ t.long;
      kinds = length-set left y c ∙ t.kinds;
      some = omega (arith, sum_set left y c p.within e, t.some);
      ways_are = own_next;
      below = omega (arith, p.from, p.to);
      goes = λ s k a d.
          let in_range : y < length counts = omega (arith, p.within, t.kinds) in
          let one : take (i + 1) (set strip i (y + 1)) ++ s ≡ take i strip ++ (suc y ∷ s) =
          rw (add-one i, take-suc-set strip i (y + 1) (omega (arith, t.long)), add-one y) (append_assoc (take i strip) (suc y ∷ []) s) in
          rw one (t.goes (suc y ∷ s) (more_kinds (length counts) y c s left k in_range e a t.kinds) (more_amounts (length counts) y c s left k in_range e a t.kinds)
          (more_rank (length counts) y c s left k in_range e a t.kinds ∙ rw (← p.ahead_is, d) (omega (arith, p.from))));
    }

-- ---- all blocks laid

zeros : (j : ℕ) (left : List ℕ) → sum left ≡ 0 → amounts_from j (length left) [] ≡ left
unfolding amounts_from sum count
zeros j [] h = refl
zeros j (c ∷ left) h =
    let z : c ≡ 0 = omega arith in
    let r = zeros (suc j) left (omega arith) in
    rw (z, r)

pub amounts_strip_back : (counts s : List ℕ) → Kinds (length counts) s → amounts (length counts) s ≡ counts → IsStrip counts s
amounts_strip_back counts s k a = record {
  kinds = kinds_at (length counts) s k;
  amounts = λ j l.
      let e : 1 + j ≡ suc j = omega arith in
      rw (← e) (sym (amounts_at 1 (length counts) j s l) ∙ ap (λ (l : List ℕ). get_or l j 0) a);
}

pub laying_end : (counts strip : List ℕ) (number i : ℕ) (left : List ℕ) (ways rest : ℕ) → Laying counts strip number i left ways rest → i ≡ sum counts → strip ≡ get_or (dictionary counts) number []
unfolding dict_rank rank orders
laying_end counts strip number i left ways rest t e =
    let z : sum left ≡ 0 = omega (arith, t.some) in
    let none : amounts (length counts) [] ≡ left = rw t.kinds at (zeros 1 left z) in
    let one : total left ≡ 1 = ap total (sym none) ∙ orders_none (length counts) in
    let r : 0 ≡ rest = omega (arith, t.below, t.ways_are) in
    let all : take i strip ++ [] ≡ strip = append-nil (take i strip) ∙ take_all i strip (omega (arith, t.long)) in
    let g = t.goes [] tt none r in
    let own : IsStrip counts strip = amounts_strip_back counts strip (rw all at g.0) (rw all at g.1) in
    let rk : rank (length counts) strip ≡ number = rw all at g.2 in
    rw (← rk) (sym ((listed counts).find strip own))
