-- Proofs. The smallest number of places to turn by: a loop that holds two turns against each other and throws out those that come later.
use Prim.Native.Nat.{ℕ, max, ◌+◌, ◌-◌, ◌%◌, ◌≤◌, ◌<◌}
use mathlib.Core.Path.{◌≡◌, refl, sym, ◌∙◌}
use mathlib.Core.Bool.{false≢true}
use mathlib.Core.List.{List}
use native.Mathlib.Decide.{dec_lt}
use native.Mathlib.Nat.{mod-lt}
use native.Mathlib.Omega.{arith}
use lib.ListN.{length}
use Rattle.rules.specs.Book.{place_in}
use Rattle.papers.specs.Papers.{turned, turns_of}
use Rattle.papers.specs.Blocks.{block_at}
use Rattle.papers.proofs.Turning.{turned_none, turned_length, length_turns_of, turns_of_at}
use Rattle.dictionary.proofs.Order.{Before, before_not, true_before}
use Rattle.dictionary.proofs.Sorted.{In}
use Rattle.standing.specs.Standing.{smallest_of}
use Rattle.hanging.specs.Least.{Least}
use Rattle.standing.proofs.Turns.{turn_of_in, in_turn_of}
use Rattle.standing.proofs.Smallest.{smallest_one, none_smaller, place_in_lem}
use Rattle.hanging.proofs.Alike.{Alike, alike_none, alike_on, from, from_own, lower_before, alike_same}

-- ---- the number that is sought

-- no turn comes before the smallest
pub least_none : (s : List ℕ) (t : ℕ) → Least s t → (u : ℕ) → u < length s → Before (turned u s) (turned t s) → ⊥
least_none s t l u h b = false≢true (sym (l.smallest u h) ∙ true_before (turned u s) (turned t s) b)

abbrev least_of : List ℕ → ℕ
least_of s = place_in (turns_of s) (smallest_of s (turns_of s))

module _ (s : List ℕ) (h : 0 < length s) where
  own : In s (turns_of s)
  own = rw (turned_none s) at (turn_of_in s 0 h)

  one : (u : List ℕ) → In u (turns_of s) → length u ≡ length s
  one u i = let w = in_turn_of s u i in rw (← w.2) (turned_length s w.0 w.1)

  least_is : Least s (least_of s)
  least_is =
      let w = place_in_lem (turns_of s) (smallest_of s (turns_of s)) (smallest_one s (turns_of s) own one) in
      let below : least_of s < length s = omega (arith, w.0, length_turns_of s) in
      let is : turned (least_of s) s ≡ smallest_of s (turns_of s) = sym (turns_of_at s (least_of s) below) ∙ w.1 in
      record {
        inside = below;
        smallest = λ u l. before_not (turned u s) (turned (least_of s) s) (λ b. none_smaller s (turns_of s) own one (turned u s) (turn_of_in s u l) (rw is at b));
        fewest = λ u l e. w.2 u l (turns_of_at s u (omega arith) ∙ e ∙ is);
      }

-- ---- the loop

-- of the numbers below t only `best` can be the one sought; the turns by t and by best places start with k blocks alike
pub record Leading (s : List ℕ) (best t k : ℕ) : Type 0 where
  pub apart : best < t
  pub inside : best < length s
  pub only : least_of s < t → least_of s ≡ best
  pub alike : Alike s t s best k

module _ (s : List ℕ) (h : 0 < length s) where
  pub leading_start : Leading s 0 1 0
  leading_start = record { apart = omega arith; inside = h; only = λ l. omega arith; alike = alike_none s 1 s 0 }

  -- nothing comes before the turn that is sought
  none_before : (x : ℕ) → Before (from s h x) (turned (least_of s) s) → ⊥
  none_before x = least_none s (least_of s) (least_is s h) (x % length s) (mod-lt x h)

  module _ (best t k : ℕ) (l : Leading s best t k) where
    pub leading_alike : block_at s (t + k) ≡ block_at s (best + k) → Leading s best t (k + 1)
    leading_alike e = record { apart = l.apart; inside = l.inside; only = l.only; alike = alike_on s t s best k l.alike e }

    module _ (short : k < length s) where
      -- the turn by t places comes later: it is out, with those by up to k places more
      pub leading_on : block_at s (best + k) < block_at s (t + k) → Leading s best (t + (k + 1)) 0
      leading_on d = record {
        apart = omega (arith, l.apart);
        inside = l.inside;
        only = λ m. elim (dec_lt (least_of s) t) [
          | yes p ↦ l.only p
          | no p ↦
              let e : t + (least_of s - t) ≡ least_of s = omega arith in
              absurd (none_before (best + (least_of s - t))
              (rw (e, from_own s h (least_of s) (least_is s h).inside) at (lower_before s s h h refl best t k short (λ i q. sym (l.alike i q)) d (least_of s - t) (omega arith))))
        ];
        alike = alike_none s (t + (k + 1)) s best;
      }

      module _ (d : block_at s (t + k) < block_at s (best + k)) where
        -- the turn by best places comes later: it is out, with those by up to k places more
        out : (j : ℕ) → j ≤ k → least_of s ≡ best + j → ⊥
        out j m e = none_before (t + j) (rw (← e, from_own s h (least_of s) (least_is s h).inside) at (lower_before s s h h refl t best k short l.alike d j m))

        beyond : max t (best + (k + 1)) ≤ least_of s
        beyond = elim (dec_lt (least_of s) t) [
          | yes p ↦ absurd (out 0 (omega arith) (omega (arith, l.only p)))
          | no p ↦ elim (dec_lt (best + k) (least_of s)) [
            | yes q ↦ omega arith
            | no q ↦ absurd (out (least_of s - best) (omega (arith, l.apart)) (omega (arith, l.apart)))
          ]
        ]

        pub leading_new : (r : ℕ) → r ≡ max t (best + (k + 1)) → Leading s r (r + 1) 0
        leading_new r e = record {
          apart = omega arith;
          inside = omega (arith, beyond, (least_is s h).inside);
          only = λ m. omega (arith, beyond);
          alike = alike_none s (r + 1) s r;
        }

    found : best ≡ least_of s → Least s best
    found e = rw e (least_is s h)

    -- no turn is left, or the turn by t places is the one by best places
    pub leading_last : length s ≤ t → Least s best
    leading_last m = found (sym (l.only (omega (arith, (least_is s h).inside))))

    pub leading_round : length s ≤ k → Least s best
    leading_round m = elim (dec_lt (least_of s) t) [
      | yes p ↦ found (sym (l.only p))
      | no p ↦
          let e : t + (least_of s - t) ≡ least_of s = omega arith in
          let f : turned (least_of s) s ≡ turned (best + (least_of s - t)) s =
          rw (e, from_own s h (least_of s) (least_is s h).inside, from_own s h (best + (least_of s - t)) (omega (arith, l.apart, (least_is s h).inside))) at (alike_same s s h h refl t best (λ i q. l.alike i (omega arith)) (least_of s - t)) in
          absurd ((least_is s h).fewest (best + (least_of s - t)) (omega (arith, l.apart)) (sym f))
    ]
