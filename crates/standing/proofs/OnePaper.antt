-- Theorems. To be one paper, as Same paper says it, is an equivalence of strips, and whether either strip is read backwards makes no difference.
use Prim.Native.Nat.{ℕ, ◌<◌}
use mathlib.Core.Path.{◌≡◌, refl, sym}
use mathlib.Core.Bool.{Bool, true, false}
use mathlib.Core.List.{List}
use native.Mathlib.Omega.{arith}
use lib.ListN.{length}
use Rattle.rules.specs.Stock.{IsStrip}
use Rattle.papers.specs.Papers.{hung, turns, is_a_turn}
use Rattle.papers.proofs.Turning.{hung_length, turned_none}
use Rattle.dictionary.proofs.Sorted.{In}
use Rattle.standing.proofs.Turns.{turn_in, turns_self, turns_back, turns_on, turns_strip, same_paper_in, in_same_paper}

module _ (s : List ℕ) (h : 0 < length s) where
  pub paper_self : is_a_turn s s ≡ true
  paper_self = in_same_paper s s (turns_self s h)

  pub paper_back : (u : List ℕ) → is_a_turn s u ≡ true → is_a_turn u s ≡ true
  paper_back u e = in_same_paper u s (turns_back s h u (same_paper_in s u e))

  pub paper_on : (u v : List ℕ) → is_a_turn s u ≡ true → is_a_turn u v ≡ true → is_a_turn s v ≡ true
  paper_on u v e f = in_same_paper s v (turns_on s h u v (same_paper_in s u e) (same_paper_in u v f))

  -- the strip read backwards is one of its turns, and as long
  hung_in : (back : Bool) → In (hung back s) (turns s)
  hung_in back = rw (turned_none (hung back s)) at (turn_in s back 0 h)

  hung_paper : (back : Bool) → is_a_turn s (hung back s) ≡ true
  hung_paper back = in_same_paper s (hung back s) (hung_in back)

  hung_some : (back : Bool) → 0 < length (hung back s)
  hung_some back = omega (arith, hung_length back s)

  -- and a strip of the same stock
  pub hung_strip : (counts : List ℕ) (back : Bool) → IsStrip counts s → IsStrip counts (hung back s)
  hung_strip counts back own = turns_strip counts s (hung back s) own (hung_in back)

-- yes of the one is yes of the other
alike : (a b : Bool) → (a ≡ true → b ≡ true) → (b ≡ true → a ≡ true) → a ≡ b
alike true b f g = sym (f refl)
alike false true f g = g refl
alike false false f g = refl

-- the answer stays, whichever of the two strips is read backwards
pub either_end_up : (a b : Bool) (s u : List ℕ) → 0 < length s → 0 < length u → is_a_turn (hung a s) (hung b u) ≡ is_a_turn s u
either_end_up a b s u h k =
    alike (is_a_turn (hung a s) (hung b u)) (is_a_turn s u)
    (λ e. paper_on s h (hung a s) u (hung_paper s h a) (paper_on (hung a s) (hung_some s h a) (hung b u) u e (paper_back u k (hung b u) (hung_paper u k b))))
    (λ e. paper_on (hung a s) (hung_some s h a) s (hung b u) (paper_back s h (hung a s) (hung_paper s h a)) (paper_on s h u (hung b u) e (hung_paper u k b)))
