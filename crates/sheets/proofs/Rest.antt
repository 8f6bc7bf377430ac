-- Proofs. A sheet that is filled from the front: p stands there, at bytes long, and behind it the bytes that were there. What is lent on is the rest.
use Prim.Native.Nat.{ℕ, ◌+◌, ◌-◌, ◌≤◌}
use mathlib.Core.Path.{◌≡◌, sym, ap, ◌∙◌}
use mathlib.Core.List.{List, [], ◌++◌, append_assoc, append-nil}
use native.Mathlib.Omega.{arith}
use borrow.Author.Rules.{part_to_end}
use borrow.Rule.Slice.PartMut.{put_mid}
use lib.ListN.{length, take, drop, length-append, length-drop, drop_of_length-le}
use lib.Seq.{take_at, drop_at, drop-drop}

abbrev pub rest_of : ℕ → List ℕ → List ℕ
rest_of at z = take (length z - at) (drop at z)

pub rest_long : (at : ℕ) (z : List ℕ) → length (rest_of at z) ≡ length z - at
rest_long at z = ap length (part_to_end z at) ∙ length-drop at z

pub record Filled (z₀ z p : List ℕ) (at : ℕ) : Type 0 where
  pub room : at ≤ length z₀
  pub long : length p ≡ at
  pub put : z ≡ p ++ drop at z₀

-- what is put in front of bytes that stay from k on is k long
pub first : (z₀ z p : List ℕ) (k : ℕ) → k ≤ length z₀ → length z ≡ length z₀ → z ≡ p ++ drop k z₀ → Filled z₀ z p k
first z₀ z p k h e f = record { room = h; long = omega (arith, length-append p (drop k z₀), length-drop k z₀, ap length f); put = f }

module _ (z₀ z p : List ℕ) (at : ℕ) (v : Filled z₀ z p at) where
  pub same_long : length z ≡ length z₀
  same_long = ap length v.put ∙ length-append p (drop at z₀) ∙ omega (arith, v.long, v.room, length-drop at z₀)

  rest_is : rest_of at z ≡ drop at z₀
  rest_is = part_to_end z at ∙ ap (drop at) v.put ∙ drop_at p (drop at z₀) at v.long

  -- the law of all writers: r is put at the front of the rest, which stays from k on
  pub more : (k : ℕ) (ys r : List ℕ) → at + k ≤ length z₀ → length ys ≡ length (rest_of at z) → ys ≡ r ++ drop k (rest_of at z)
      → Filled z₀ (put_mid at (length z - at) z ys) (p ++ r) (at + k)
  more k ys r h e f =
      let front : take at z ≡ p = ap (take at) v.put ∙ take_at p (drop at z₀) at v.long in
      let none : drop (length z - at) (drop at z) ≡ [] = drop_of_length-le (drop at z) {i = length z - at} (omega (arith, length-drop at z)) in
      let n : length r ≡ k = (first (rest_of at z) ys r k (omega (arith, rest_long at z, same_long)) e f).long in
      record {
        room = h;
        long = length-append p r ∙ omega (arith, v.long);
        put = rw (front, none, f, rest_is, append-nil) (rw (drop-drop k at z₀) (sym (append_assoc p r (drop (at + k) z₀))));
      }
