-- Proofs. A strip with parts of it in reverse order: the strip reversed, and then turned round.
use Prim.Native.Nat.{ℕ, ◌-◌, ◌≤◌}
use mathlib.Core.Path.{◌≡◌, sym, ap, ◌∙◌}
use mathlib.Core.Bool.{Bool, true, not, not-not}
use mathlib.Core.List.{List, ◌++◌, reverse, reverse-append, append-nil}
use native.Mathlib.Omega.{arith}
use borrow.Rule.Slice.PartMut.{put_mid, mid_of}
use lib.ListN.{length, take, drop, length-append, length-drop, length-reverse, take-append-drop, drop_of_length-le}
use lib.Seq.{length-take-le, take_all, take_at, drop_at}
use Rattle.rules.specs.Book.{turn}
use Rattle.papers.specs.Papers.{turned, hung}
use Rattle.papers.proofs.Turning.{hung_length, hung_hung}

-- the other way, and that reversed
hung_other : (back : Bool) (s : List ℕ) → hung true (hung (not back) s) ≡ hung back s
hung_other back s = hung_hung true (not back) s ∙ ap (λ (b : Bool). hung b s) (not-not back)

module _ (f : ℕ) (s : List ℕ) (h : f ≤ length s) where
  first_length : length (reverse (take f s)) ≡ f
  first_length = length-reverse (take f s) ∙ length-take-le f s h

  -- the first f blocks are in reverse order
  abbrev half : List ℕ
  half = reverse (take f s) ++ drop f s

  half_length : length half ≡ length s
  half_length = length-append (reverse (take f s)) (drop f s) ∙ omega (arith, first_length, length-drop f s)

  -- then the others
  both_parts : (y : List ℕ) → y ≡ reverse (mid_of f (length half - f) half) → put_mid f (length half - f) half y ≡ reverse (take f s) ++ reverse (drop f s)
  both_parts y e =
      let long : length (drop f s) ≤ length half - f = omega (arith, half_length, length-drop f s) in
      rw (
        e,
        take_at (reverse (take f s)) (drop f s) f first_length,
        drop_at (reverse (take f s)) (drop f s) f first_length,
        take_all (length half - f) (drop f s) long,
        drop_of_length-le (drop f s) {i = length half - f} long,
      )
      (ap (λ (l : List ℕ). reverse (take f s) ++ l) (append-nil (reverse (drop f s))))

  -- that is the strip reversed, and then turned by as many places as the others are
  parts_turned : reverse (take f s) ++ reverse (drop f s) ≡ turned (length s - f) (hung true s)
  unfolding turned turn
  parts_turned =
      let e : reverse s ≡ reverse (drop f s) ++ reverse (take f s) = ap reverse (sym (take-append-drop f s)) ∙ reverse-append (take f s) (drop f s) in
      let l : length (reverse (drop f s)) ≡ length s - f = length-reverse (drop f s) ∙ length-drop f s in
      sym (rw (e, drop_at (reverse (drop f s)) (reverse (take f s)) (length s - f) l, take_at (reverse (drop f s)) (reverse (take f s)) (length s - f) l))

  pub parts_reversed : (x y : List ℕ) → x ≡ reverse (take f s) → y ≡ reverse (mid_of f (length (x ++ drop f s) - f) (x ++ drop f s)) → put_mid f (length (x ++ drop f s) - f) (x ++ drop f s) y ≡ turned (length s - f) (hung true s)
  parts_reversed x y e g = rw e (both_parts y (rw e at g) ∙ parts_turned)

-- a strip that hangs the other way, so reversed, hangs as it should, turned by t places
pub hangs_so : (s : List ℕ) (back : Bool) (t f : ℕ) (other after : List ℕ) → length s - f ≡ t → other ≡ hung (not back) s → after ≡ turned (length other - f) (hung true other) → after ≡ turned t (hung back s)
hangs_so s back t f other after e g h =
    let long : length other ≡ length s = ap length g ∙ hung_length (not back) s in
    h ∙ rw (long, e, g) (ap (turned t) (hung_other back s))
