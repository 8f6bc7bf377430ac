-- Proofs. Numbers of patterns that go along multiplied, while a word loses its last letter.
use Prim.Native.Nat.{ℕ, suc, ◌+◌, ◌-◌, ◌*◌, ◌/◌, ◌≤◌, ◌<◌}
use mathlib.Core.Path.{◌≡◌, sym, ap, ◌∙◌}
use mathlib.Core.Bool.{Bool, true, false}
use native.Mathlib.Nat.{mul-one, mul-pos, mul-div_cancel, mul-le-mul_right, mul-lt-mul_of_pos_right}
use native.Mathlib.Decide.{dec_lt}
use native.Mathlib.Omega.{arith}
use Rattle.rules.specs.Stock.{binom}
use Rattle.rules.proofs.Listed.{face, face_lt}
use Rattle.choose.proofs.Pascal.{in_k, k_and_r, k_at_most}
use Rattle.laying.specs.Enlarged.{Enlarged, InParts}

-- ---- divided, they are what they were

module _ {a b i all index times : ℕ} (e : Enlarged a b i all index times) where
  pub quotient : index / times ≡ i
  quotient = rw e.index_is (mul-div_cancel i {n = times} e.some)

-- as they are
pub plain : (a b i all : ℕ) → all ≡ binom a b → i < all → Enlarged a b i all i 1
plain a b i all is h = record { some = omega arith; within = rw is at h; all_is = is ∙ sym (mul-one (binom a b)); index_is = sym (mul-one i) }

-- ---- those that end in K

module _ {a b i all index times : ℕ} (e : Enlarged a b i all index times) (l : b ≤ a) (h : 0 < a) where
  pub by_letters_lem : InParts a b i (all * a) (all * (a - b)) (index * a) (times * a)
  by_letters_lem = record {
    number = record { some = mul-pos e.some h; within = e.within; all_is = omega (arith, ap (λ (n : ℕ). n * a) e.all_is); index_is = omega (arith, ap (λ (n : ℕ). n * a) e.index_is) };
    in_k_is = omega (arith, ap (λ (n : ℕ). n * (a - b)) e.all_is, ap (λ (n : ℕ). n * times) (in_k a b l h));
  }

-- ---- one letter less

module _ {a b i all in_k_word index times : ℕ} (p : InParts a b i all in_k_word index times) where
  abbrev n : ℕ
  n = binom (a - 1) b

  pub before : index < in_k_word → i < n
  before l = elim (dec_lt i n) [
    | yes k ↦ k
    | no k ↦ absurd (omega (arith, p.in_k_is, p.number.index_is, mul-le-mul_right {m = n} {n = i} times (omega arith)))
  ]

  pub past : in_k_word ≤ index → n ≤ i
  past l = elim (dec_lt i n) [
    | yes k ↦ absurd (omega (arith, p.in_k_is, p.number.index_is, mul-lt-mul_of_pos_right {m = i} {n = n} {k = times} k p.number.some))
    | no k ↦ omega arith
  ]

  module _ (l : index < in_k_word) where
    -- of the multiples below those that end in K, the last
    pub room : index + times ≤ in_k_word
    room = omega (arith, p.in_k_is, p.number.index_is, mul-le-mul_right {m = suc i} {n = n} times (before l))

    pub on_k : (turned : Bool) {at : ℕ} → at ≡ face turned (in_k_word - times + 1) index → Enlarged (a - 1) b (face turned n i) in_k_word at times
    unfolding face
    on_k turned is = record { some = p.number.some; within = face_lt turned n i (before l); all_is = p.in_k_is; index_is = is ∙ go turned }
      where
        go : (turned : Bool) → face turned (in_k_word - times + 1) index ≡ face turned n i * times
        go false = p.number.index_is
        go true =
            let m = n - suc i in
            let e : n ≡ suc i + m = omega (arith, before l) in
            let f : in_k_word ≡ times + index + m * times = omega (arith, p.in_k_is, p.number.index_is, ap (λ (x : ℕ). x * times) e) in
            omega arith

  pub fewer : 0 < a → in_k_word ≤ all
  fewer h = omega (arith, p.in_k_is, p.number.all_is, mul-le-mul_right {m = n} {n = binom a b} times (k_at_most a b h))

  pub on_r : in_k_word ≤ index → 0 < a → 0 < b → Enlarged (a - 1) (b - 1) (i - n) (all - in_k_word) (index - in_k_word) times
  on_r l h k =
      let m = i - n in
      let r = binom (a - 1) (b - 1) in
      let e : i ≡ n + m = omega (arith, past l) in
      let f : n + r ≡ binom a b = k_and_r a b h k in
      record {
        some = p.number.some;
        within = omega (arith, p.number.within);
        all_is = omega (arith, p.in_k_is, p.number.all_is, ap (λ (x : ℕ). x * times) f);
        index_is = omega (arith, p.in_k_is, p.number.index_is, ap (λ (x : ℕ). x * times) e);
      }
