-- Proofs. Turns of two strips compared on the strips themselves, as they hang endless: block after block, the first again after the last.
use Prim.Native.Nat.{ℕ, zero, suc, ◌+◌, ◌-◌, ◌%◌, ◌≤◌, ◌<◌, suc-le-suc}
use mathlib.Core.Path.{◌≡◌, sym, ap, ◌∙◌}
use mathlib.Core.Bool.{true, false}
use mathlib.Core.Logic.{inl, inr}
use mathlib.Core.List.{List, [], ◌∷◌}
use native.Mathlib.Decide.{ℕ_discrete}
use native.Mathlib.Nat.{mod-lt, mod-eq_of_lt, add-mod-mod}
use native.Mathlib.Omega.{arith}
use lib.ListN.{length, get_or}
use lib.Seq.{ext_get_or}
use Rattle.papers.specs.Papers.{turned}
use Rattle.papers.specs.Blocks.{block_at}
use Rattle.papers.proofs.Turning.{turned_none, turned_length, turned_at_lem}
use Rattle.dictionary.specs.Dictionary.{before}
use Rattle.dictionary.proofs.Order.{Before, before_true, true_before, before_not, irreflexive, transitive}

-- ---- the first place at which two lists differ decides

pub less_at : (s u : List ℕ) (i : ℕ) → i < length s → i < length u → ((k : ℕ) → k < i → get_or s k 0 ≡ get_or u k 0) → get_or s i 0 < get_or u i 0 → Before s u
less_at [] u i h l a d = absurd (omega arith)
less_at (x ∷ s) [] i h l a d = absurd (omega arith)
less_at (x ∷ s) (y ∷ u) zero h l a d = inl d
less_at (x ∷ s) (y ∷ u) (suc i) h l a d = inr (a 0 (omega arith), less_at s u i (omega arith) (omega arith) (λ k m. a (suc k) (suc-le-suc m)) d)

-- ---- a strip that hangs endless

pub block_own : (s : List ℕ) (i : ℕ) → i < length s → block_at s i ≡ get_or s i 0
block_own s i h = ap (λ (k : ℕ). get_or s k 0) (mod-eq_of_lt h)

module _ (s : List ℕ) (some : 0 < length s) where
  -- the strip turned to start at place x
  abbrev pub from : ℕ → List ℕ
  from x = turned (x % length s) s

  from_length : (x : ℕ) → length (from x) ≡ length s
  from_length x = turned_length s (x % length s) (mod-lt x some)

  from_at : (x i : ℕ) → i < length s → get_or (from x) i 0 ≡ block_at s (x + i)
  from_at x i h =
      let e : (i + x % length s) % length s ≡ (x + i) % length s = add-mod-mod i x (length s) ∙ ap (λ (k : ℕ). k % length s) (omega arith) in
      turned_at_lem s (x % length s) (mod-lt x some) i h ∙ ap (λ (k : ℕ). get_or s k 0) e

  pub from_own : (x : ℕ) → x < length s → from x ≡ turned x s
  from_own x h = ap (λ (k : ℕ). turned k s) (mod-eq_of_lt h)

  pub from_start : from 0 ≡ s
  from_start = from_own 0 some ∙ turned_none s

-- ---- two strips that hang endless

-- so many blocks of s from place x on are those of u from place y on
abbrev pub Alike : List ℕ → ℕ → List ℕ → ℕ → ℕ → Type 0
Alike s x u y k = (i : ℕ) → i < k → block_at s (x + i) ≡ block_at u (y + i)

pub alike_none : (s : List ℕ) (x : ℕ) (u : List ℕ) (y : ℕ) → Alike s x u y 0
alike_none s x u y i h = absurd (omega arith)

pub alike_on : (s : List ℕ) (x : ℕ) (u : List ℕ) (y k : ℕ) → Alike s x u y k → block_at s (x + k) ≡ block_at u (y + k) → Alike s x u y (k + 1)
alike_on s x u y k a e i h = elim (ℕ_discrete i k) [ yes f ↦ rw f e | no f ↦ a i (omega arith) ]

-- two strips of one length, the one turned to start at place x and the other at place y
module _ (s u : List ℕ) (some : 0 < length s) (some_too : 0 < length u) (one : length s ≡ length u) (x y : ℕ) where
  -- they are alike for k blocks, and then the one is lower: it comes before; and so do those that start up to k places on
  pub lower_before : (k : ℕ) → k < length s → Alike s x u y k → block_at s (x + k) < block_at u (y + k) → (j : ℕ) → j ≤ k → Before (from s some (x + j)) (from u some_too (y + j))
  lower_before k h a l j m =
      less_at (from s some (x + j)) (from u some_too (y + j)) (k - j) (omega (arith, from_length s some (x + j))) (omega (arith, from_length u some_too (y + j)))
      (λ i p. from_at s some (x + j) i (omega arith) ∙ shifted i (omega arith) ∙ sym (from_at u some_too (y + j) i (omega arith)))
      (rw (from_at s some (x + j) (k - j) (omega arith), from_at u some_too (y + j) (k - j) (omega arith)) last)
    where
      shifted : (i : ℕ) → i < k - j → block_at s (x + j + i) ≡ block_at u (y + j + i)
      shifted i p =
          let e : x + (j + i) ≡ x + j + i = omega arith in
          let f : y + (j + i) ≡ y + j + i = omega arith in
          rw (e, f) at (a (j + i) (omega arith))

      last : block_at s (x + j + (k - j)) < block_at u (y + j + (k - j))
      last =
          let e : x + k ≡ x + j + (k - j) = omega arith in
          let f : y + k ≡ y + j + (k - j) = omega arith in
          rw (e, f) at l

  -- they are alike for all blocks: so are those that start any number of places on
  pub alike_same : Alike s x u y (length s) → (j : ℕ) → from s some (x + j) ≡ from u some_too (y + j)
  alike_same a j = ext_get_or 0 (from s some (x + j)) (from u some_too (y + j)) (from_length s some (x + j) ∙ one ∙ sym (from_length u some_too (y + j))) (λ i h.
      let l : i < length s = omega (arith, from_length s some (x + j)) in
      from_at s some (x + j) i l ∙ shifted i ∙ sym (from_at u some_too (y + j) i (omega arith)))
    where
      round : (s : List ℕ) (z i : ℕ) → block_at s (z + (i % length s)) ≡ block_at s (z + i)
      round s z i = ap (λ (k : ℕ). get_or s k 0) (add-mod-mod z i (length s))

      shifted : (i : ℕ) → block_at s (x + j + i) ≡ block_at u (y + j + i)
      shifted i =
          let e : x + (j + i) ≡ x + j + i = omega arith in
          let f : y + (j + i) ≡ y + j + i = omega arith in
          rw (e, f) at (sym (round s x (j + i)) ∙ a ((j + i) % length s) (mod-lt (j + i) some) ∙ ap (λ (n : ℕ). block_at u (y + (j + i) % n)) one ∙ round u y (j + i))

  -- ---- which of the two comes first, k blocks of them being alike

  module _ (in_one : x < length s) (in_other : y < length u) (k : ℕ) (a : Alike s x u y k) where
    starts : (from s some (x + 0) ≡ turned x s) × (from u some_too (y + 0) ≡ turned y u)
    starts =
        let e : x + 0 ≡ x = omega arith in
        let f : y + 0 ≡ y = omega arith in
        (rw e (from_own s some x in_one), rw f (from_own u some_too y in_other))

    pub lower_first : k < length s → block_at s (x + k) < block_at u (y + k) → true ≡ before (turned x s) (turned y u)
    lower_first l d = sym (true_before (turned x s) (turned y u) (rw (starts.0, starts.1) at (lower_before k l a d 0 (omega arith))))

    pub all_alike : length s ≤ k → false ≡ before (turned x s) (turned y u)
    all_alike l = rw (sym starts.0 ∙ alike_same (λ i m. a i (omega arith)) 0 ∙ starts.1) (sym (before_not (turned y u) (turned y u) (irreflexive (turned y u))))

-- the same of the other
pub higher_last : (s u : List ℕ) (some : 0 < length s) (some_too : 0 < length u) (one : length s ≡ length u) (x y : ℕ) → x < length s → y < length u → (k : ℕ) → Alike s x u y k → k < length s
    → block_at u (y + k) < block_at s (x + k) → false ≡ before (turned x s) (turned y u)
higher_last s u some some_too one x y in_one in_other k a l d =
    let b : Before (turned y u) (turned x s) = before_true (turned y u) (turned x s) (sym (lower_first u s some_too some (sym one) y x in_other in_one k (λ i m. sym (a i m)) (omega arith) d)) in
    sym (before_not (turned x s) (turned y u) (λ c. irreflexive (turned x s) (transitive (turned x s) (turned y u) (turned x s) c b)))
