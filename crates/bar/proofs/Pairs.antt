-- Proofs. A list of pairs: none is wrong exactly where each is two rising places and no half is left; and the pairs from one on.
use Prim.Native.Nat.{ℕ, suc, ◌+◌, ◌*◌, ◌-◌, ◌/◌, ◌≤◌, ◌<◌}
use mathlib.Core.Path.{◌≡◌, refl, ◌∙◌}
use mathlib.Core.Bool.{Bool, true, false, ◌&&◌, false≢true}
use mathlib.Core.List.{List, [], ◌∷◌}
use native.Mathlib.Omega.{arith}
use lib.Dec.{ltb, leb}
use borrow.Author.Tests.{ltb-true, leb-true, lt-ltb, le-leb, le-ltb, lt-leb}
use lib.ListN.{length, get_or, drop, drop_of_length-le}
use lib.Seq.{drop-cons}
use Rattle.rules.specs.Refusals.{pick}
use Rattle.bar.specs.Pairs.{is_place_pair, wrong_from}

-- ---- right pairs

-- two rising places in 1 to n
pub record Places (n p q : ℕ) : Type 0 where
  pub some : 1 ≤ p
  pub rise : p < q
  pub inside : q ≤ n

and_true : (a b : Bool) → (a && b) ≡ true → (a ≡ true) × (b ≡ true)
and_true true b h = (refl, h)
and_true false b h = absurd (false≢true h)

pub pair_places : (n p q : ℕ) → is_place_pair n p q ≡ true → Places n p q
pair_places n p q h =
    let a = and_true (leb 1 p) (ltb p q && leb q n) h in
    let b = and_true (ltb p q) (leb q n) a.1 in
    record { some = leb-true 1 p a.0; rise = ltb-true p q b.0; inside = leb-true q n b.1 }

pub places_pair : (n p q : ℕ) → Places n p q → is_place_pair n p q ≡ true
places_pair n p q h = rw (le-leb 1 p h.some, lt-ltb p q h.rise, le-leb q n h.inside)

-- as a check finds it, test by test
module _ (n p q : ℕ) where
  pub pair_none : p ≡ 0 → false ≡ is_place_pair n p q
  pair_none h = rw (lt-leb 1 p (omega arith))

  pub pair_falls : 1 ≤ p → q ≤ p → false ≡ is_place_pair n p q
  pair_falls h k = rw (le-leb 1 p h, le-ltb p q k)

  pub pair_inside : 1 ≤ p → p < q → leb q n ≡ is_place_pair n p q
  pair_inside h k = rw (le-leb 1 p h, lt-ltb p q k)

-- every pair of a list is right, and no half is left
abbrev pub Right : ℕ → List ℕ → Type 0
Right n [] = Unit {0}
Right n (p ∷ []) = ⊥
Right n (p ∷ q ∷ pairs) = Places n p q × Right n pairs

pub none_wrong_right : (i n : ℕ) (pairs : List ℕ) → wrong_from (suc i) n pairs ≡ 0 → Right n pairs
unfolding wrong_from
none_wrong_right i n [] h = tt
none_wrong_right i n (p ∷ []) h = absurd (omega arith)
none_wrong_right i n (p ∷ q ∷ pairs) h = go (is_place_pair n p q) refl h (none_wrong_right (suc i) n pairs)
  where
    go : (b : Bool) → is_place_pair n p q ≡ b → pick b (wrong_from (suc (suc i)) n pairs) (suc i) ≡ 0 → (wrong_from (suc (suc i)) n pairs ≡ 0 → Right n pairs) → Places n p q × Right n pairs
    go true e f rest = (pair_places n p q e, rest f)
    go false e f rest = absurd (omega arith)

pub right_none_wrong : (i n : ℕ) (pairs : List ℕ) → Right n pairs → wrong_from i n pairs ≡ 0
unfolding wrong_from
right_none_wrong i n [] h = refl
right_none_wrong i n (p ∷ []) h = absurd h
right_none_wrong i n (p ∷ q ∷ pairs) h = rw (places_pair n p q h.0) (right_none_wrong (suc i) n pairs h.1)

-- ---- the pairs from number k on, counted from 0

module _ (pairs : List ℕ) (k : ℕ) where
  abbrev pub low : ℕ
  low = get_or pairs (2 * k) 0

  abbrev pub high : ℕ
  high = get_or pairs (2 * k + 1) 0

  pub pair_here : k < length pairs / 2 → drop (2 * k) pairs ≡ low ∷ high ∷ drop (2 * (k + 1)) pairs
  pair_here h =
      let e : 2 * k + 1 ≡ suc (2 * k) = omega arith in
      let f : 2 * (k + 1) ≡ suc (suc (2 * k)) = omega arith in
      rw (e, f) (drop-cons pairs (2 * k) 0 (omega arith) ∙ rw (drop-cons pairs (suc (2 * k)) 0 (omega arith)))

  pub half_here : 2 * k + 1 ≡ length pairs → drop (2 * k) pairs ≡ low ∷ []
  half_here h =
      let l : length pairs ≤ suc (2 * k) = omega arith in
      drop-cons pairs (2 * k) 0 (omega arith) ∙ rw (drop_of_length-le pairs l)

  pub no_more_pairs : length pairs ≤ 2 * k → drop (2 * k) pairs ≡ []
  no_more_pairs h = drop_of_length-le pairs h

-- ---- the search for a wrong pair, k of them passed

pub record Sought (n : ℕ) (pairs : List ℕ) (k : ℕ) : Type 0 where
  pub passed : k ≤ length pairs / 2
  pub rest : wrong_from (k + 1) n (drop (2 * k) pairs) ≡ wrong_from 1 n pairs

pub sought_start : (n : ℕ) (pairs : List ℕ) → Sought n pairs 0
sought_start n pairs = record { passed = omega arith; rest = refl }

module _ (n : ℕ) (pairs : List ℕ) (k : ℕ) (s : Sought n pairs k) where
  -- at the end: half a pair is left, or none
  module _ (end : length pairs / 2 ≤ k) where
    at : length pairs / 2 ≡ k
    at = omega (arith, s.passed)

    pub sought_half : length pairs - 2 * (length pairs / 2) ≡ 1 → length pairs / 2 + 1 ≡ wrong_from 1 n pairs
    unfolding wrong_from
    sought_half h = rw at (rw (half_here pairs k (omega (arith, at))) at s.rest)

    pub sought_none : (length pairs - 2 * (length pairs / 2) ≡ 1 → ⊥) → 0 ≡ wrong_from 1 n pairs
    unfolding wrong_from
    sought_none h = rw (no_more_pairs pairs k (omega (arith, at))) at s.rest

  module _ (h : k < length pairs / 2) where
    here : pick (is_place_pair n (low pairs k) (high pairs k)) (wrong_from (suc (k + 1)) n (drop (2 * (k + 1)) pairs)) (k + 1) ≡ wrong_from 1 n pairs
    unfolding wrong_from
    here = rw (pair_here pairs k h, wrong_from) at s.rest

    pub sought_wrong : is_place_pair n (low pairs k) (high pairs k) ≡ false → k + 1 ≡ wrong_from 1 n pairs
    sought_wrong e = rw e at here

    pub sought_on : is_place_pair n (low pairs k) (high pairs k) ≡ true → Sought n pairs (k + 1)
    sought_on e =
        let g : suc (k + 1) ≡ k + 1 + 1 = omega arith in
        record { passed = omega arith; rest = rw g at (rw e at here) }
