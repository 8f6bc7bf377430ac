-- Proofs. A pattern laid in place from the right end of the word to the left: the last places are laid, and a places and b blocks are left.
use Prim.Native.Nat.{ℕ, zero, suc, ◌-◌, ◌≤◌, ◌<◌}
use mathlib.Core.Path.{◌≡◌, refl, sym, ap, ◌∙◌}
use mathlib.Core.Bool.{Bool, false, not}
use mathlib.Core.List.{List, [], ◌∷◌, ◌++◌, reverse, append_assoc, append-nil}
use native.Mathlib.Omega.{arith}
use lib.ListN.{length, get_or, take, drop, set, length-set, length-reverse, take-append-drop, drop_of_length-le}
use lib.Seq.{take-suc, take-take, take-set-le, drop-cons, drop-set-lt, get_or-set_same, get_or-take, length-take-le}
use Rattle.rules.specs.Stock.{binom}
use Rattle.rules.specs.Book.{E, lay}
use Rattle.rules.proofs.Listed.{face, face_lt}
use Rattle.rules.proofs.Turned.{binom_zero}
use Rattle.rules.proofs.Patterns.{count_r, count_r_reverse, binom_suc, e_at, unrank, unrank_is}
use Rattle.rules.proofs.Laying.{unrank_k, unrank_r, lay_k, lay_r, lay_all_r}

-- the kind, and the strip that stands first in a word, laid by the pattern of an index
abbrev pub laid_at : ℕ → List ℕ → ℕ → ℕ → List ℕ
laid_at kind word others index = lay kind (take others word) (get_or (E (length word) others) index [])

-- what is left is as it was, and by the letters that `unrank` finds it makes up the whole with what is laid
pub record FromRight (kind : ℕ) (word₀ : List ℕ) (others index : ℕ) (word : List ℕ) (a b i : ℕ) (turned : Bool) : Type 0 where
  pub room : length word ≡ length word₀
  pub left : a ≤ length word₀
  pub fewer : b ≤ a
  pub blocks : b ≤ others
  pub within : i < binom a b
  pub kept : take a word ≡ take a word₀
  pub laid : lay kind (take b word₀) (reverse (unrank turned a b i)) ++ drop a word ≡ laid_at kind word₀ others index

drop_set : (l : List ℕ) (i x : ℕ) → i < length l → drop i (set l i x) ≡ x ∷ drop (suc i) l
drop_set l i x h = drop-cons (set l i x) i 0 (rw (length-set l i x) h) ∙ rw (get_or-set_same l i x 0 h, drop-set-lt (suc i) l i x (omega arith))

pub start : (kind : ℕ) (word : List ℕ) (others index : ℕ) → others ≤ length word → index < binom (length word) others → FromRight kind word others index word (length word) others index false
start kind word others index h l =
    let u = unrank_is false (length word) others index l in
    let e = e_at (length word) others index (unrank false (length word) others index) u.0 u.1 in
    record {
      room = refl;
      left = omega arith;
      fewer = h;
      blocks = omega arith;
      within = l;
      kept = refl;
      laid = rw (drop_of_length-le word {i = length word} (omega arith), append-nil, e);
    }

module _ {kind : ℕ} {word₀ : List ℕ} {others index : ℕ} {word : List ℕ} where
  module _ {a b i : ℕ} {turned : Bool} (s : FromRight kind word₀ others index word (suc a) b i turned) where
    stays : (x : ℕ) → take a (set word a x) ≡ take a word₀
    stays x =
        let e : take a (take (suc a) word) ≡ take a (take (suc a) word₀) = ap (take a) s.kept in
        take-set-le a word a x (omega arith) ∙ (rw (take-take a (suc a) word (omega arith), take-take a (suc a) word₀ (omega arith)) at e)

    module _ (l : i < binom a b) (h : b ≤ a) where
      laid_k : FromRight kind word₀ others index (set word a kind) a b (face turned (binom a b) i) false
      laid_k =
          let m = face_lt turned (binom a b) i l in
          let e = (unrank_is false a b (face turned (binom a b) i) m).0.1 ∙ sym (length-take-le b word₀ (omega (arith, s.left))) in
          let f = rw (unrank_k turned a b i l, lay_k kind (take b word₀) _ e, append_assoc) at s.laid in
          record {
            room = length-set word a kind ∙ s.room;
            left = omega (arith, s.left);
            fewer = h;
            blocks = s.blocks;
            within = m;
            kept = stays kind;
            laid = rw (drop_set word a kind (omega (arith, s.left, s.room))) f;
          }

    some_r : binom a b ≤ i → 0 < b
    some_r l = go b s.within l
      where
        go : (b : ℕ) → i < binom (suc a) b → binom a b ≤ i → 0 < b
        go zero h l = absurd (omega (arith, binom_zero (suc a), binom_zero a))
        go (suc b) h l = omega arith

  module _ {a b i : ℕ} {turned : Bool} (s : FromRight kind word₀ others index word (suc a) (suc b) i turned) where
    laid_r : binom a (suc b) ≤ i → FromRight kind word₀ others index (set word a (get_or word b 0)) a b (i - binom a (suc b)) (not turned)
    laid_r l =
        let m : i - binom a (suc b) < binom a b = omega (arith, s.within, binom_suc a (suc b)) in
        let e = (unrank_is (not turned) a b (i - binom a (suc b)) m).0.1 ∙ sym (length-take-le b word₀ (omega (arith, s.left, s.fewer))) in
        let x : get_or word₀ b 0 ≡ get_or word b 0 =
        sym (get_or-take (suc a) word₀ b 0 (omega (arith, s.fewer))) ∙ ap (λ (l : List ℕ). get_or l b 0) (sym s.kept) ∙ get_or-take (suc a) word b 0 (omega (arith, s.fewer)) in
        let f = rw (unrank_r turned a (suc b) i l, take-suc word₀ b 0 (omega (arith, s.left, s.fewer)), lay_r kind (take b word₀) _ e, append_assoc) at s.laid in
        record {
          room = length-set word a (get_or word b 0) ∙ s.room;
          left = omega (arith, s.left);
          fewer = omega (arith, s.fewer);
          blocks = omega (arith, s.blocks);
          within = m;
          kept = stays s (get_or word b 0);
          laid = rw (drop_set word a (get_or word b 0) (omega (arith, s.left, s.room)), ← x) f;
        }

  -- ---- the same in the terms of the loop, which has taken 1 from a, and n is how many words go on with K

  module _ {a b i : ℕ} {turned : Bool} (s : FromRight kind word₀ others index word a b i turned) where
    module _ (h : b < a) (n : ℕ) (is : n ≡ binom (a - 1) b) where
      e : a ≡ suc (a - 1)
      e = omega arith

      pub on_k : i < n → {at : ℕ} → at ≡ face turned n i → FromRight kind word₀ others index (set word (a - 1) kind) (a - 1) b at false
      on_k l f = rw (f, is) (laid_k (rw e at s) (rw is at l) (omega arith))

      pub block_left : n ≤ i → 0 < b
      block_left l = some_r (rw e at s) (rw is at l)

      pub on_r : n ≤ i → {from : ℕ} → from ≡ b - 1 → FromRight kind word₀ others index (set word (a - 1) (get_or word from 0)) (a - 1) from (i - n) (not turned)
      on_r l {from} k =
          let f : b ≡ suc from = omega (arith, block_left l) in
          let g : n ≡ binom (a - 1) (suc from) = rw f at is in
          rw g (laid_r (rw (e, f) at s) (rw g at l))

    -- where all letters that are left are R, their blocks stand there already
    pub all_laid : a ≤ b → word ≡ laid_at kind word₀ others index
    all_laid h =
        let u = (unrank_is turned a b i s.within).0 in
        let f : b ≡ a = omega (arith, s.fewer) in
        let p = reverse (unrank turned a b i) in
        let l : length p ≡ b = length-reverse (unrank turned a b i) ∙ u.0 ∙ sym f in
        let c : count_r p ≡ b = count_r_reverse (unrank turned a b i) ∙ u.1 in
        let t : length (take b word₀) ≡ b = length-take-le b word₀ (omega (arith, s.left)) in
        let m : lay kind (take b word₀) p ≡ take a word = lay_all_r kind (take b word₀) p (t ∙ sym l) (c ∙ sym l) ∙ ap (λ (n : ℕ). take n word₀) f ∙ sym s.kept in
        sym (take-append-drop a word) ∙ (rw m at s.laid)
