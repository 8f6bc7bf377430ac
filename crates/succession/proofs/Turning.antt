-- Proofs. Turning a tail round by exchanging its ends, one pair after the other.
use Prim.Native.Nat.{ℕ, ◌+◌, ◌-◌, ◌≤◌, ◌<◌}
use mathlib.Core.Path.{◌≡◌, refl, sym, ap, ◌∙◌}
use mathlib.Core.List.{List, ◌++◌, reverse}
use native.Mathlib.Decide.{ℕ_discrete, dec_lt}
use native.Mathlib.Omega.{arith}
use lib.ListN.{length, get_or, take, drop, set, length-set, length-append, length-drop, length-reverse, get_or-append}
use lib.Seq.{get_or-set_same, get_or-set_other, get_or-take, get_or-drop, get_or-append-add, length-take-le, ext_get_or}
use Rattle.rules.proofs.Listed.{get_d_reverse}

-- of the tail of s from `from` on, the blocks before low and from high on are exchanged
pub record Turned (s : List ℕ) (from : ℕ) (t : List ℕ) (low high : ℕ) : Type 0 where
  pub long : length t ≡ length s
  pub order : (from ≤ low) × (low ≤ high + 1) × (high ≤ length s)
  pub bound : from ≤ length s
  pub meet : low + high ≡ from + length s
  pub before : (k : ℕ) → k < from → get_or t k 0 ≡ get_or s k 0
  pub inside : (k : ℕ) → low ≤ k → k < high → get_or t k 0 ≡ get_or s k 0
  pub swapped : (k m : ℕ) → from ≤ k → k < low → k + m + 1 ≡ from + length s → get_or t k 0 ≡ get_or s m 0
  pub swapped_back : (k m : ℕ) → high ≤ k → k < length s → k + m + 1 ≡ from + length s → get_or t k 0 ≡ get_or s m 0

pub turned_start : (s : List ℕ) (from : ℕ) → from ≤ length s → Turned s from s from (length s)
turned_start s from h = record {
  long = refl;
  order = (omega arith, omega arith, omega arith);
  bound = h;
  meet = omega arith;
  before = λ k l. refl;
  inside = λ k l m. refl;
  swapped = λ k m a b e. absurd (omega arith);
  swapped_back = λ k m a b e. absurd (omega arith);
}

module _ (s : List ℕ) (from : ℕ) (t : List ℕ) (low high : ℕ) (u : Turned s from t low high) (h : low < high) where
  abbrev top : ℕ
  top = high - 1

  abbrev new : List ℕ
  new = set (set t low (get_or t top 0)) top (get_or t low 0)

  long_first : length (set t low (get_or t top 0)) ≡ length s
  long_first = length-set t low (get_or t top 0) ∙ u.long

  at_top : get_or new top 0 ≡ get_or t low 0
  at_top = get_or-set_same (set t low (get_or t top 0)) top (get_or t low 0) 0 (omega (arith, long_first, u.order.2))

  other : (k : ℕ) → (k ≡ top → ⊥) → (k ≡ low → ⊥) → get_or new k 0 ≡ get_or t k 0
  other k a b = get_or-set_other (set t low (get_or t top 0)) top k (get_or t low 0) 0 a ∙ get_or-set_other t low k (get_or t top 0) 0 b

  at_low : get_or new low 0 ≡ get_or t top 0
  at_low = elim (ℕ_discrete low top) [
    | yes e ↦ ap (λ (k : ℕ). get_or new k 0) e ∙ at_top ∙ ap (λ (k : ℕ). get_or t k 0) e
    | no e ↦ get_or-set_other (set t low (get_or t top 0)) top low (get_or t low 0) 0 e ∙ get_or-set_same t low (get_or t top 0) 0 (omega (arith, u.long, u.order.2))
  ]

  pub turned_on : Turned s from new (low + 1) (high - 1)
  turned_on = record {
    long = length-set (set t low (get_or t top 0)) top (get_or t low 0) ∙ long_first;
    order = (omega (arith, u.order.0), omega arith, omega (arith, u.order.2));
    bound = u.bound;
    meet = omega (arith, u.meet);
    before = λ k l. other k (λ e. omega (arith, u.order.0)) (λ e. omega (arith, u.order.0)) ∙ u.before k l;
    inside = λ k l m. other k (λ e. omega arith) (λ e. omega arith) ∙ u.inside k (omega arith) (omega arith);
    swapped = λ k m a b e. elim (ℕ_discrete k low) [
      | yes f ↦ let g : top ≡ m = omega (arith, u.meet) in rw (f, ← g) (at_low ∙ u.inside top (omega arith) (omega arith))
      | no f ↦ other k (λ e. omega arith) f ∙ u.swapped k m a (omega arith) e
    ];
    swapped_back = λ k m a b e. elim (ℕ_discrete k top) [
      | yes f ↦ let g : low ≡ m = omega (arith, u.meet) in rw (f, ← g) (at_top ∙ u.inside low (omega arith) h)
      | no f ↦ other k f (λ e. omega arith) ∙ u.swapped_back k m (omega arith) b e
    ];
  }

-- all exchanged
pub turned_end : (s : List ℕ) (from : ℕ) (t : List ℕ) (low high : ℕ) → Turned s from t low high → high ≤ low → t ≡ take from s ++ reverse (drop from s)
turned_end s from t low high u h = ext_get_or 0 t (take from s ++ reverse (drop from s)) (u.long ∙ sym long) at
  where
    front : length (take from s) ≡ from
    front = length-take-le from s u.bound

    back : length (reverse (drop from s)) ≡ length s - from
    back = length-reverse (drop from s) ∙ length-drop from s

    long : length (take from s ++ reverse (drop from s)) ≡ length s
    long = omega (arith, length-append (take from s) (reverse (drop from s)), front, back, u.bound)

    tail : (j : ℕ) → from + j < length s → get_or (take from s ++ reverse (drop from s)) (from + j) 0 ≡ get_or s (length s - 1 - j) 0
    tail j l =
        let m = length s - 1 - j - from in
        let e : from + m ≡ length s - 1 - j = omega arith in
        let f : get_or (take from s ++ reverse (drop from s)) (length (take from s) + j) 0 ≡ get_or (reverse (drop from s)) j 0 = get_or-append-add (take from s) (reverse (drop from s)) j 0 in
        (rw front at f) ∙ get_d_reverse (drop from s) j m 0 (omega (arith, length-drop from s)) ∙ get_or-drop from s m 0 ∙ rw e

    behind : (k : ℕ) → from ≤ k → k < length s → get_or t k 0 ≡ get_or s (from + length s - 1 - k) 0
    behind k a b = elim (dec_lt k low) [
      | yes l ↦ u.swapped k (from + length s - 1 - k) a l (omega arith)
      | no l ↦ u.swapped_back k (from + length s - 1 - k) (omega arith) b (omega arith)
    ]

    at : (k : ℕ) → k < length t → get_or t k 0 ≡ get_or (take from s ++ reverse (drop from s)) k 0
    at k l = elim (dec_lt k from) [
      | yes m ↦ u.before k m ∙ sym (get_or-append (take from s) (reverse (drop from s)) 0 k (omega (arith, front)) ∙ get_or-take from s k 0 m)
      | no m ↦ let e : from + (k - from) ≡ k = omega arith in
          let f : length s - 1 - (k - from) ≡ from + length s - 1 - k = omega (arith, u.long) in
          behind k (omega arith) (omega (arith, u.long)) ∙ sym ((rw e at (tail (k - from) (omega (arith, u.long)))) ∙ rw f)
    ]
