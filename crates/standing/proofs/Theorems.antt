-- Theorems on endless papers: the standing strip, and the papers of a stock.
use Prim.Native.Nat.{ℕ, ◌<◌}
use mathlib.Core.Path.{◌≡◌, refl, sym, ap, ◌∙◌}
use mathlib.Core.Bool.{Bool, true, false, not, false≢true}
use mathlib.Core.List.{List, [], reverse}
use native.Mathlib.Omega.{arith}
use lib.ListN.{length, get_or, length-reverse}
use Rattle.rules.specs.Stock.{IsStrip}
use Rattle.rules.specs.Book.{turn, place_in}
use Rattle.rules.proofs.Places.{same_self, same_true}
use Rattle.searching.specs.Searching.{is_among}
use Rattle.papers.specs.Papers.{turned, turns_of, hung, turns, is_a_turn}
use Rattle.papers.proofs.Turning.{length_turns_of, turns_of_at, hung_length}
use Rattle.dictionary.specs.Dictionary.{dictionary}
use Rattle.dictionary.proofs.Order.{Before, Ordered, less, equal, more, ordered, true_before}
use Rattle.dictionary.proofs.Sorted.{In}
use Rattle.dictionary.proofs.Theorems.{dictionary_undone, before_smaller}
use Rattle.standing.specs.Standing.{standing, is_reversed, turn_of, stands_for_paper}
use Rattle.standing.proofs.Turns.{some_in, in_some, turn_of_in, in_turn, turns_self, turns_length, turns_back, turns_on, turns_strip, same_paper_in, in_same_paper}
use Rattle.standing.proofs.Smallest.{smallest_one, none_smaller, place_in_lem}

module _ (s : List ℕ) (h : 0 < length s) where
  -- the standing strip is a turn of the strip
  pub standing_in : In (standing s) (turns s)
  unfolding standing
  standing_in = smallest_one s (turns s) (turns_self s h) (turns_length s h)

  -- and no turn of it comes before
  pub standing_least : (u : List ℕ) → In u (turns s) → Before u (standing s) → ⊥
  unfolding standing
  standing_least = none_smaller s (turns s) (turns_self s h) (turns_length s h)

  pub standing_length : length (standing s) ≡ length s
  standing_length = turns_length s h (standing s) standing_in

  -- so it is the turn that none comes before
  pub standing_is : (u : List ℕ) → In u (turns s) → ((v : List ℕ) → In v (turns s) → Before v u → ⊥) → standing s ≡ u
  standing_is u i none = go (ordered (standing s) u (standing_length ∙ sym (turns_length s h u i)))
    where
      go : Ordered (standing s) u → standing s ≡ u
      go (less b) = absurd (none (standing s) standing_in b)
      go (equal e) = e
      go (more b) = absurd (standing_least u i b)

  -- the strip is read backwards only where no turn of it as it stands is the standing strip
  pub reversed_only : is_reversed s ≡ true → (t : ℕ) → t < length s → turned t s ≡ standing s → ⊥
  unfolding is_reversed
  reversed_only e t l f = false≢true (ap not (sym (in_some (standing s) (turns_of s) (rw f at (turn_of_in s t l)))) ∙ e)

  -- so read, one of its turns is
  standing_hung : In (standing s) (turns_of (hung (is_reversed s) s))
  unfolding is_reversed turn
  standing_hung = go (is_among (turns_of s) (standing s)) refl (in_turn s (standing s) standing_in)
    where
      go : (b : Bool) → is_among (turns_of s) (standing s) ≡ b → (back : Bool) × (t : ℕ) × (t < length s) × (turned t (hung back s) ≡ standing s)
          → In (standing s) (turns_of (hung (not (is_among (turns_of s) (standing s))) s))
      go true e w = rw e (some_in (standing s) (turns_of s) e)
      go false e (false, t, l, f) = absurd (false≢true (sym e ∙ in_some (standing s) (turns_of s) (rw f at (turn_of_in s t l))))
      go false e (true, t, l, f) = rw e (rw f at (turn_of_in (reverse s) t (omega (arith, length-reverse s))))

  -- and the smallest number of places leads to it
  pub turn_least : (turn_of s < length s) × (turned (turn_of s) (hung (is_reversed s) s) ≡ standing s) × ((t : ℕ) → t < turn_of s → turned t (hung (is_reversed s) s) ≡ standing s → ⊥)
  unfolding turn_of
  turn_least =
      let v = hung (is_reversed s) s in
      let w = place_in_lem (turns_of v) (standing s) standing_hung in
      let below : place_in (turns_of v) (standing s) < length v = omega (arith, w.0, length_turns_of v) in (
        omega (arith, below, hung_length (is_reversed s) s),
        sym (turns_of_at v (place_in (turns_of v) (standing s)) below) ∙ w.1,
        λ t l e. w.2 t l (turns_of_at v t (omega arith) ∙ e),
      )

-- two strips that are turns of each other have one standing strip
same_standing : (s u : List ℕ) → 0 < length s → In u (turns s) → standing s ≡ standing u
same_standing s u h i =
    let k : 0 < length u = omega (arith, turns_length s h u i) in
    standing_is s h (standing u) (turns_on s h u (standing u) i (standing_in u k)) (λ v j. standing_least u k v (turns_on u k s v (turns_back s h u i) j))

-- Two strips have the same standing strip exactly when Same paper says yes.
pub standing_paper : (s u : List ℕ) → 0 < length s → is_a_turn s u ≡ true → standing s ≡ standing u
standing_paper s u h e = same_standing s u h (same_paper_in s u e)

pub paper_standing : (s u : List ℕ) → 0 < length s → 0 < length u → standing s ≡ standing u → is_a_turn s u ≡ true
paper_standing s u h k e =
    in_same_paper s u (turns_on s h (standing s) u (standing_in s h) (turns_back u k (standing s) (rw e (standing_in u k))))

-- Standing twice changes nothing.
pub standing_twice : (s : List ℕ) → 0 < length s → standing (standing s) ≡ standing s
standing_twice s h = sym (same_standing s (standing s) h (standing_in s h))

pub stands : (s : List ℕ) → 0 < length s → stands_for_paper (standing s) ≡ true
unfolding stands_for_paper
stands s h = rw (standing_twice s h) (same_self (standing s))

-- a standing strip is its own standing strip
pub standing_own : (s : List ℕ) → stands_for_paper s ≡ true → standing s ≡ s
unfolding stands_for_paper
standing_own s e = same_true (standing s) s e

-- it stands exactly when no turn of it comes before it
pub standing_if : (s : List ℕ) → 0 < length s → ((u : List ℕ) → In u (turns s) → Before u s → ⊥) → stands_for_paper s ≡ true
unfolding stands_for_paper
standing_if s h none = rw (standing_is s h s (turns_self s h) none) (same_self s)

pub standing_only : (s : List ℕ) → 0 < length s → stands_for_paper s ≡ true → (u : List ℕ) → In u (turns s) → Before u s → ⊥
standing_only s h e u i b = standing_least s h u i (rw (standing_own s e) b)

-- ---- the papers of a stock

module _ (counts : List ℕ) where
  -- the standing strip is a strip of the stock
  pub standing_strip : (s : List ℕ) → 0 < length s → IsStrip counts s → IsStrip counts (standing s)
  standing_strip s h own = turns_strip counts s (standing s) own (standing_in s h)

  -- each paper has one standing strip in the dictionary: that of each of its strips
  pub paper_once : (s u : List ℕ) → 0 < length s → is_a_turn s u ≡ true → stands_for_paper u ≡ true → u ≡ standing s
  paper_once s u h e k = sym (standing_own u k) ∙ sym (standing_paper s u h e)

  pub paper_there : (s : List ℕ) → 0 < length s → IsStrip counts s
      → (get_or (dictionary counts) (place_in (dictionary counts) (standing s)) [] ≡ standing s) × (is_a_turn s (standing s) ≡ true) × (stands_for_paper (standing s) ≡ true)
  paper_there s h own = (dictionary_undone counts (standing s) (standing_strip s h own), in_same_paper s (standing s) (standing_in s h), stands s h)

  -- the first strip in dictionary order is standing
  pub first_stands : (s : List ℕ) → 0 < length s → IsStrip counts s → place_in (dictionary counts) s ≡ 0 → stands_for_paper s ≡ true
  first_stands s h own e = standing_if s h (λ u i b.
      omega (arith, before_smaller counts u s (turns_strip counts s u own i) own (true_before u s b)))
