-- Proofs. Whether a strip stands: a loop that looks for a turn that comes before it, of the strip as it stands and then foot up.
use Prim.Native.Nat.{ℕ, zero, suc, ◌+◌, ◌-◌, ◌≤◌, ◌<◌}
use mathlib.Core.Path.{◌≡◌, refl, sym, ap, ◌∙◌}
use mathlib.Core.Bool.{Bool, true, false, not, false≢true}
use mathlib.Core.List.{List}
use native.Mathlib.Decide.{dec_lt}
use native.Mathlib.Omega.{arith}
use lib.ListN.{length, get_or}
use mir.Val.{bool_byte}
use Rattle.rules.specs.Book.{turn}
use Rattle.searching.specs.Searching.{some}
use Rattle.papers.specs.Papers.{turned, turns_of, hung}
use Rattle.papers.specs.Blocks.{block_at}
use Rattle.papers.proofs.Turning.{hung_length, turned_none, some_turn, no_turn, which_turn}
use Rattle.dictionary.specs.Dictionary.{before}
use Rattle.dictionary.proofs.Order.{Before, before_true, true_before, before_not, irreflexive, transitive}
use Rattle.standing.specs.Standing.{stands_for_paper}
use Rattle.standing.proofs.Turns.{turn_in, in_turn}
use Rattle.standing.proofs.Theorems.{standing_if, standing_only}
use Rattle.hanging.proofs.Alike.{block_own, Alike, alike_none, alike_on, from_own, from_start, lower_before, alike_same}

-- ---- whether some turn of a strip as it hangs comes before it

abbrev pub SomeBefore : List ℕ → Bool → Bool
SomeBefore s back = some (λ t. before t s) (turns_of (hung back s))

module _ (s : List ℕ) (back : Bool) where
  before_some : (t : ℕ) → t < length s → Before (turned t (hung back s)) s → SomeBefore s back ≡ true
  before_some t l b = some_turn (λ t. before t s) s back t l (true_before (turned t (hung back s)) s b)

  none_some : ((t : ℕ) → t < length s → Before (turned t (hung back s)) s → ⊥) → SomeBefore s back ≡ false
  none_some none = no_turn (λ t. before t s) s back (λ t l. before_not (turned t (hung back s)) s (none t l))

  not_some : SomeBefore s back ≡ false → (t : ℕ) → t < length s → Before (turned t (hung back s)) s → ⊥
  not_some e t l b = false≢true (sym e ∙ before_some t l b)

-- a strip stands where none does, as it stands and foot up
module _ (s : List ℕ) (h : 0 < length s) where
  pub does_not_stand : (back : Bool) → SomeBefore s back ≡ true → stands_for_paper s ≡ false
  does_not_stand back e = go (stands_for_paper s) refl (which_turn (λ t. before t s) s back e)
    where
      go : (b : Bool) → stands_for_paper s ≡ b → (t : ℕ) × (t < length s) × (before (turned t (hung back s)) s ≡ true) → b ≡ false
      go false f w = refl
      go true f (t, l, b) = absurd (standing_only s h f (turned t (hung back s)) (turn_in s back t l) (before_true (turned t (hung back s)) s b))

  does_stand : SomeBefore s false ≡ false → SomeBefore s true ≡ false → stands_for_paper s ≡ true
  does_stand e f = standing_if s h (λ u i b. let w = in_turn s u i in none w.0 w.1 w.2 (rw w.3 b))
    where
      none : (back : Bool) (t : ℕ) → t < length s → Before (turned t (hung back s)) s → ⊥
      none false t l b = not_some s false e t l b
      none true t l b = not_some s true f t l b

  pub stands_unless : SomeBefore s false ≡ false → not (SomeBefore s true) ≡ stands_for_paper s
  stands_unless e = go (SomeBefore s true) refl
    where
      go : (b : Bool) → SomeBefore s true ≡ b → not b ≡ stands_for_paper s
      go true f = sym (does_not_stand true f)
      go false f = sym (does_stand e f)

-- ---- the loop

-- none of the turns by fewer than t places comes before the strip; the turn by t places starts with k blocks as the strip does
pub record NoneBefore (s : List ℕ) (back : Bool) (t k : ℕ) : Type 0 where
  pub started : back ≡ false → 1 ≤ t
  pub none : (u : ℕ) → u < t → u < length s → Before (turned u (hung back s)) s → ⊥
  pub alike : Alike (hung back s) t s 0 k

-- foot up it is known that no turn of the strip as it stands comes before it
module _ (s : List ℕ) (h : 0 < length s) (back : Bool) (own : back ≡ true → SomeBefore s false ≡ false) where
  abbrev v : List ℕ
  v = hung back s

  long : length v ≡ length s
  long = hung_length back s

  v_some : 0 < length v
  v_some = omega (arith, long)

  as_it_stands : back ≡ false → v ≡ s
  unfolding turn
  as_it_stands e = ap (λ (b : Bool). hung b s) e

  pub none_start : (t : ℕ) → t ≡ bool_byte (not back) → (t ≤ 1) × NoneBefore s back t 0
  none_start t first = (small back refl, record { started = λ e. omega (arith, down e); none = go back refl; alike = alike_none v t s 0 })
    where
      up : back ≡ true → t ≡ 0
      up e = rw e at first

      down : back ≡ false → t ≡ 1
      down e = rw e at first

      small : (b : Bool) → back ≡ b → t ≤ 1
      small true e = omega (arith, up e)
      small false e = omega (arith, down e)

      go : (b : Bool) → back ≡ b → (u : ℕ) → u < t → u < length s → Before (turned u v) s → ⊥
      go true e u l m c = absurd (omega (arith, up e))
      go false e u l m c =
          let z : u ≡ 0 = omega (arith, down e) in
          irreflexive s (rw (z, as_it_stands e, turned_none s) at c)

  module _ (t k : ℕ) (n : NoneBefore s back t k) where
    -- a turn does not come before the strip where the strip's own turn by t places fewer comes before that, or is it
    out : (b : ℕ) → ((j : ℕ) → t + j < b → t + j < length s → Before (turned (t + j) v) s → Before (turned j s) s) → (u : ℕ) → u < b → u < length s → Before (turned u v) s → ⊥
    unfolding turn
    out b less u = go (suc u) u (omega arith)
      where
        go : (f u : ℕ) → u < f → u < b → u < length s → Before (turned u v) s → ⊥
        go zero u p l m c = omega arith
        go (suc f) u p l m c = elim (dec_lt u t) [
          | yes q ↦ n.none u q m c
          | no q ↦ let e : u ≡ t + (u - t) = omega arith in
              on back refl (less (u - t) (omega arith) (omega arith) (rw (← e) c)) (go f (u - t)) (omega arith)
        ]
          where
            on : (w : Bool) → back ≡ w → Before (turned (u - t) s) s → (u - t < f → u - t < b → u - t < length s → Before (turned (u - t) v) s → ⊥) → t ≤ u → ⊥
            on true e d rest q = not_some s false (own e) (u - t) (omega arith) d
            on false e d rest q = rest (omega (arith, n.started e)) (omega arith) (omega arith) (rw (as_it_stands e) d)

    module _ (inside : k < length s) where
      own_block : block_at s (0 + k) ≡ get_or s k 0
      own_block =
          let z : 0 + k ≡ k = omega arith in
          rw z (block_own s k inside)

      pub none_alike : block_at v (t + k) ≡ get_or s k 0 → NoneBefore s back t (k + 1)
      none_alike e = record { started = n.started; none = n.none; alike = alike_on v t s 0 k n.alike (e ∙ sym own_block) }

      -- the turn by t places comes later at the next block: so do the turns by up to k places more
      pub none_later : get_or s k 0 < block_at v (t + k) → NoneBefore s back (t + (k + 1)) 0
      none_later d = record {
        started = λ e. omega arith;
        none = out (t + (k + 1)) (λ j l m c.
            let z : 0 + j ≡ j = omega arith in
            let b : Before (turned j s) (turned (t + j) v) =
            rw (z, from_own s h j (omega arith), from_own v v_some (t + j) (omega (arith, long))) at (lower_before s v h v_some (sym long) 0 t k inside (λ i p. sym (n.alike i p)) (omega (arith, own_block)) j (omega arith)) in
            transitive (turned j s) (turned (t + j) v) s b c);
        alike = alike_none v (t + (k + 1)) s 0;
      }

      -- it comes before
      pub one_before : t < length s → block_at v (t + k) < get_or s k 0 → true ≡ SomeBefore s back
      one_before l d =
          let e : t + 0 ≡ t = omega arith in
          sym (before_some s back t l
          (rw (e, from_own v v_some t (omega (arith, long)), from_start s h) at (lower_before v s v_some h long t 0 k (omega (arith, long)) n.alike (omega (arith, own_block)) 0 (omega arith))))

    -- no turn is left, or the turn by t places is the strip
    pub none_before : length s ≤ t → false ≡ SomeBefore s back
    none_before l = sym (none_some s back (λ u m. n.none u (omega arith) m))

    pub none_round : length s ≤ k → false ≡ SomeBefore s back
    none_round l = sym (none_some s back (λ u m. out (length s) (λ j p q c.
        let z : 0 + j ≡ j = omega arith in
        let e : turned (t + j) v ≡ turned j s =
        rw (z, from_own s h j (omega arith), from_own v v_some (t + j) (omega (arith, long))) at (alike_same v s v_some h long t 0 (λ i r. n.alike i (omega (arith, long))) j) in
        rw e at c) u m m))
