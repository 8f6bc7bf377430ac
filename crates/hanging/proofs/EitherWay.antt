-- Proofs. Of the smallest turn as a strip stands and the smallest foot up, the smaller is the standing strip.
use Prim.Native.Nat.{ℕ, ◌+◌, ◌≤◌, ◌<◌}
use mathlib.Core.Path.{◌≡◌, refl, sym, ◌∙◌}
use mathlib.Core.Bool.{Bool, true, false, not}
use mathlib.Core.Logic.{◌⊎◌, inl, inr}
use mathlib.Core.List.{List}
use native.Mathlib.Decide.{dec_lt}
use native.Mathlib.Omega.{arith}
use lib.Dec.{ltb}
use lib.ListN.{length}
use Rattle.std.proofs.lemmas.Bool.{lt-ltb, le-ltb}
use Rattle.rules.specs.Book.{turn}
use Rattle.papers.specs.Papers.{turned, hung, turns}
use Rattle.papers.specs.Blocks.{block_at}
use Rattle.papers.proofs.Turning.{hung_length, turned_length}
use Rattle.dictionary.specs.Dictionary.{before}
use Rattle.dictionary.proofs.Order.{Before, before_true, not_before, transitive}
use Rattle.dictionary.proofs.Sorted.{In}
use Rattle.standing.specs.Standing.{standing, is_reversed, turn_of}
use Rattle.hanging.specs.Least.{Least}
use Rattle.standing.proofs.Turns.{turn_in, in_turn}
use Rattle.standing.proofs.Theorems.{standing_is, reversed_only, turn_least}
use Rattle.hanging.proofs.Alike.{Alike, lower_first, higher_last, all_alike}
use Rattle.hanging.proofs.Leading.{least_none}

-- ---- a strip as it hangs, turned by t places, and hung the other way, turned by u places, k blocks of the two being alike

module _ (s : List ℕ) (back : Bool) (t u : ℕ) (in_one : t < length s) (in_other : u < length s) (k : ℕ) (a : Alike (hung back s) t (hung (not back) s) u k) where
  abbrev v : List ℕ
  v = hung back s

  abbrev w : List ℕ
  w = hung (not back) s

  in_v : t < length v
  in_v = omega (arith, hung_length back s)

  in_w : u < length w
  in_w = omega (arith, hung_length (not back) s)

  one : length v ≡ length w
  one = hung_length back s ∙ sym (hung_length (not back) s)

  -- at the first block in which they differ the lower decides
  pub turn_unlike : k < length s → (x y : ℕ) → x ≡ block_at v (t + k) → y ≡ block_at w (u + k) → (x ≡ y → ⊥) → ltb x y ≡ before (turned t v) (turned u w)
  turn_unlike l x y e f d = elim (dec_lt x y) [
    | yes p ↦ lt-ltb _ _ p ∙ lower_first v w (omega (arith, in_v)) (omega (arith, in_w)) one t u in_v in_w k a (omega (arith, hung_length back s)) (omega (arith, e, f))
    | no p ↦ le-ltb _ _ (omega arith) ∙ higher_last v w (omega (arith, in_v)) (omega (arith, in_w)) one t u in_v in_w k a (omega (arith, hung_length back s)) (omega (arith, e, f))
  ]

  pub turn_alike : length s ≤ k → false ≡ before (turned t v) (turned u w)
  turn_alike l = all_alike v w (omega (arith, in_v)) (omega (arith, in_w)) one t u in_v in_w k a (omega (arith, hung_length back s))

-- ---- which of them stands

module _ (s : List ℕ) (h : 0 < length s) where
  -- the smallest turn of the strip as it hangs, where that is the standing strip, is found by the smallest number of places
  turn_is : (back : Bool) (m : ℕ) → Least (hung back s) m → is_reversed s ≡ back → standing s ≡ turned m (hung back s) → m ≡ turn_of s
  turn_is back m l e f =
      let w = rw e at (turn_least s h) in
      elim (dec_lt m (turn_of s)) [
        | yes p ↦ absurd (w.2 m p (sym f))
        | no p ↦ elim (dec_lt (turn_of s) m) [ yes q ↦ absurd (l.fewest (turn_of s) q (w.1 ∙ f)) | no q ↦ omega arith ]
      ]

  -- no turn of the strip as it hangs comes before the smallest
  none_before : (back : Bool) (m : ℕ) → Least (hung back s) m → (t : ℕ) → t < length s → Before (turned t (hung back s)) (turned m (hung back s)) → ⊥
  none_before back m l t k = least_none (hung back s) m l t (omega (arith, hung_length back s))

  -- there: the smallest number of places for the smallest turn of the strip as it stands; back: foot up
  module _ (there back : ℕ) (l : Least (hung false s) there) (m : Least (hung true s) back) where
    abbrev forward : List ℕ
    forward = turned there (hung false s)

    abbrev backward : List ℕ
    backward = turned back (hung true s)

    -- foot up it is smaller: every turn as it stands comes later, and the strip is reversed
    pub back_stands : (r : Bool) → r ≡ before backward forward → r ≡ true → (true ≡ is_reversed s) × (back ≡ turn_of s)
    back_stands r f y = (sym reversed, turn_is true back m reversed is)
      where
        smaller : Before backward forward
        smaller = before_true backward forward (sym f ∙ y)

        none : (v : List ℕ) → In v (turns s) → Before v backward → ⊥
        none v i b = go (in_turn s v i)
          where
            go : (w : Bool) × (t : ℕ) × (t < length s) × (turned t (hung w s) ≡ v) → ⊥
            go (false, t, k, e) = none_before false there l t k (rw e (transitive v backward forward b smaller))
            go (true, t, k, e) = none_before true back m t k (rw e b)

        is : standing s ≡ backward
        is = standing_is s h backward (turn_in s true back (omega (arith, m.inside, hung_length true s))) none

        reversed : is_reversed s ≡ true
        reversed = go (is_reversed s) refl
          where
            go : (w : Bool) → is_reversed s ≡ w → w ≡ true
            go true e = refl
            go false e =
                let w = rw e at (turn_least s h) in
                absurd (none_before false there l (turn_of s) w.0 (rw (w.1, is) smaller))

    -- it is not: no turn foot up comes before the smallest as it stands, and the strip is not reversed
    pub there_stands : (r : Bool) → r ≡ before backward forward → r ≡ false → (false ≡ is_reversed s) × (there ≡ turn_of s)
    unfolding turn
    there_stands r f y = (sym as_it_stands, turn_is false there l as_it_stands is)
      where
        one : length backward ≡ length forward
        one = turned_length (hung true s) back m.inside ∙ hung_length true s ∙ sym (turned_length (hung false s) there l.inside ∙ hung_length false s)

        none_back : (v : List ℕ) → (Before v backward → ⊥) → Before v forward → ⊥
        none_back v d b = go (not_before backward forward one (sym f ∙ y))
          where
            go : (backward ≡ forward) ⊎ Before forward backward → ⊥
            go (inl e) = d (rw e b)
            go (inr c) = d (transitive v forward backward b c)

        none : (v : List ℕ) → In v (turns s) → Before v forward → ⊥
        none v i b = go (in_turn s v i)
          where
            go : (w : Bool) × (t : ℕ) × (t < length s) × (turned t (hung w s) ≡ v) → ⊥
            go (false, t, k, e) = none_before false there l t k (rw e b)
            go (true, t, k, e) = none_back v (λ c. none_before true back m t k (rw e c)) b

        inside : there < length s
        inside = omega (arith, l.inside, hung_length false s)

        is : standing s ≡ forward
        is = standing_is s h forward (turn_in s false there inside) none

        as_it_stands : is_reversed s ≡ false
        as_it_stands = go (is_reversed s) refl
          where
            go : (w : Bool) → is_reversed s ≡ w → w ≡ false
            go false e = refl
            go true e = absurd (reversed_only s h e there inside (sym is))
