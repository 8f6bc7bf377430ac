-- Proofs. The indices of a strip's patterns while they are found from its number, the last kind first: j kinds are left.
use Prim.Native.Nat.{ℕ, suc, ◌-◌, ◌/◌, ◌%◌, ◌≤◌, ◌<◌}
use mathlib.Core.Path.{◌≡◌, sym, ap, ◌∙◌}
use mathlib.Core.Bool.{Bool}
use mathlib.Core.List.{List, []}
use native.Mathlib.Decide.{ℕ_discrete}
use native.Mathlib.Omega.{arith}
use lib.Dec.{eqb}
use lib.ListN.{length, get_or, take, set, replicate, length-set, length-replicate}
use lib.Seq.{take_all, get_or-set_same, get_or-set_other}
use Rattle.rules.specs.Stock.{sum, binom, total, IsStrip}
use Rattle.rules.specs.Book.{book, odd, reduced}
use Rattle.rules.proofs.Listed.{face}
use Rattle.rules.proofs.Index.{index}
use Rattle.rules.proofs.Strips.{number, listed}
use Rattle.rules.proofs.Reduced.{prefix_all}
use Rattle.rules.proofs.Numbers.{odd_rest}
use Rattle.rules.proofs.TakenApart.{number_below, index_from}
use Rattle.counting.specs.Patterns.{ArePatterns}
use Rattle.counting.proofs.Product.{some_patterns}

pub record Descending (counts s indices : List ℕ) (left j : ℕ) : Type 0 where
  pub own : IsStrip counts s
  pub room : length indices ≡ 16
  pub kinds : j ≤ length counts
  pub numbers : left ≡ number (take j counts) (reduced j s)
  pub found : (m : ℕ) → j ≤ m → m < length counts → get_or indices m 0 ≡ index (suc m) (reduced (suc m) s)

pub start : (counts : List ℕ) (i : ℕ) → i < total counts → Descending counts (get_or (book counts) i []) (replicate 16 0) i (length counts)
start counts i h =
    let s = get_or (book counts) i [] in
    let own : IsStrip counts s = (listed counts).sound i h in
    let all : take (length counts) counts ≡ counts = take_all (length counts) counts (omega arith) in
    record {
      own = own;
      room = length-replicate {A = ℕ} 16 0;
      kinds = omega arith;
      numbers = rw (all, prefix_all counts s own) (sym ((listed counts).place i h));
      found = λ m a b. absurd (omega arith);
    }

module _ {counts s indices : List ℕ} {left : ℕ} where
  module _ {j : ℕ} (d : Descending counts s indices left (suc j)) where
    -- the kind's index is written, and the number is that of the kinds below
    module _ (patterns : ℕ) (are : patterns ≡ binom (sum (take (suc j) counts)) (sum (take j counts))) (at : ℕ) (face_is : at ≡ face (eqb (left / patterns % 2) 1) patterns (left % patterns)) where
      left_is : left / patterns ≡ number (take j counts) (reduced j s)
      left_is = rw (are, d.numbers) (number_below counts s d.own j d.kinds)

      at_is : at ≡ index (suc j) (reduced (suc j) s)
      at_is =
          face_is
          ∙ ap (λ (b : Bool). face b patterns (left % patterns)) (odd_rest (left / patterns) ∙ ap odd left_is)
          ∙ rw (are, d.numbers) (index_from counts s d.own j d.kinds)

      next_found : (m : ℕ) → j ≤ m → m < length counts → j < 16 → Dec (m ≡ j) → get_or (set indices j at) m 0 ≡ index (suc m) (reduced (suc m) s)
      next_found m a b k (yes e) = rw (e, get_or-set_same indices j at 0 (omega (arith, d.room))) at_is
      next_found m a b k (no e) = get_or-set_other indices j m at 0 e ∙ d.found m (omega arith) b

      on_one : length counts ≤ 16 → Descending counts s (set indices j at) (left / patterns) j
      on_one few = record {
        own = d.own;
        room = length-set indices j at ∙ d.room;
        kinds = omega (arith, d.kinds);
        numbers = left_is;
        found = λ m a b. next_found m a b (omega (arith, d.kinds)) (ℕ_discrete m j);
      }

  -- ---- the same in the terms of the loop, which has taken 1 from j

  module _ {j : ℕ} (d : Descending counts s indices left j) (h : 0 < j) (patterns : List ℕ) (are : ArePatterns counts patterns) where
    e : j ≡ suc (j - 1)
    e = omega arith

    pub some : 0 < get_or patterns (j - 1) 0
    some = some_patterns counts patterns are (j - 1) (omega (arith, d.kinds))

    pub on : length counts ≤ 16 → (at : ℕ) → at ≡ face (eqb (left / get_or patterns (j - 1) 0 % 2) 1) (get_or patterns (j - 1) 0) (left % get_or patterns (j - 1) 0)
        → Descending counts s (set indices (j - 1) at) (left / get_or patterns (j - 1) 0) (j - 1)
    on few at face_is = on_one (rw e at d) (get_or patterns (j - 1) 0) (are.each (j - 1) (omega (arith, d.kinds))) at face_is few

  pub end : {j : ℕ} → Descending counts s indices left j → j ≤ 0 → (m : ℕ) → m < length counts → get_or indices m 0 ≡ index (suc m) (reduced (suc m) s)
  end d h m l = d.found m (omega arith) l
