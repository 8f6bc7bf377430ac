-- Proofs. The number of a strip, block by block, is its place in the dictionary; the dictionary holds each strip of the stock once, in order.
use Prim.Native.Nat.{ℕ, zero, suc, ◌+◌, ◌*◌, ◌/◌, ◌≤◌, ◌<◌}
use mathlib.Core.Path.{◌≡◌, refl, sym, ◌∙◌}
use mathlib.Core.Logic.{◌⊎◌, inl, inr}
use mathlib.Core.List.{List, [], ◌∷◌}
use native.Mathlib.Decide.{ℕ_discrete, dec_lt}
use native.Mathlib.Nat.{mul-le-mul_left, div-mul-le_self, le-div_iff_mul-le, div-le_of_le-mul}
use native.Mathlib.Omega.{arith}
use lib.ListN.{length, get_or}
use Rattle.rules.specs.Stock.{sum, total, count, IsStrip}
use Rattle.rules.specs.Book.{book, place_in}
use Rattle.rules.proofs.Listed.{Listed}
use Rattle.rules.proofs.Strips.{strip_sum}
use Rattle.rules.proofs.Places.{book_size, book_only, book_once, place_undone, place_below}
use Rattle.dictionary.specs.Dictionary.{dictionary}
use Rattle.dictionary.proofs.Order.{Before}
use Rattle.dictionary.proofs.Sorted.{Each, each_of, each_at, each_map, Rises, In, apart_of, at_in, in_at, length_in_order, each_in_order, in_in_order, in_order_rises, place_is}
use Rattle.dictionary.proofs.Amounts.{Kinds, kinds_of, kinds_at, Same, count_hit, count_miss, lower, lower_miss, lower_suc, lower_mono, lower_same, lower_length, orders, orders_some, orders_same, orders_strip, orders_more, same_length}

-- ---- shares: so many of the orders of n blocks begin with one of b of them

module _ (a b c n orders_behind : ℕ) (h : a * c ≡ orders_behind * suc n) where
  pub share_next : a * b / suc n + orders_behind ≤ a * (b + c) / suc n
  share_next = (le-div_iff_mul-le {k = suc n} (omega arith)).1 (omega (arith, h, div-mul-le_self (a * b) (suc n)))

pub share_mono : (a b c n : ℕ) → b ≤ c → a * b / suc n ≤ a * c / suc n
share_mono a b c n h = (le-div_iff_mul-le {k = suc n} (omega arith)).1 (omega (arith, div-mul-le_self (a * b) (suc n), mul-le-mul_left a h))

pub share_all : (a b n : ℕ) → b ≤ suc n → a * b / suc n ≤ a
share_all a b n h = div-le_of_le-mul (suc n) (omega (arith, mul-le-mul_left a h))

-- ---- the number: the orders that begin with a lower kind than the strip's first block, and the number of what stands behind it

unfoldable pub rank : ℕ → List ℕ → ℕ
rank k [] = 0
rank k (x ∷ s) = orders k (x ∷ s) * lower x s / suc (length s) + rank k s

-- below the number of orders
pub rank_below : (k : ℕ) (s : List ℕ) → Kinds k s → rank k s < orders k s
unfolding rank
rank_below k [] h = orders_some k []
rank_below k (x ∷ s) h =
    omega (
      arith,
      rank_below k s h.2,
      share_next (orders k (x ∷ s)) (lower x s) (suc (count x s)) (length s) (orders k s) (orders_more k x s h),
      share_all (orders k (x ∷ s)) (lower x s + suc (count x s)) (length s) (omega (arith, lower_suc x s, lower_length (suc x) s)),
    )

pub same_tail : (x : ℕ) (s t : List ℕ) → Same (x ∷ s) (x ∷ t) → Same s t
same_tail x s t h j = elim (ℕ_discrete x j) [
  | yes e ↦ rw (← e) (omega (arith, count_hit x s, count_hit x t, h x))
  | no e ↦ sym (count_miss j x s e) ∙ h j ∙ count_miss j x t e
]

-- it grows with the order
pub rank_mono : (k : ℕ) (s t : List ℕ) → Kinds k s → Kinds k t → Same s t → Before s t → rank k s < rank k t
unfolding rank
rank_mono k [] t h l m b = absurd b
rank_mono k (x ∷ s) [] h l m b = absurd b
rank_mono k (x ∷ s) (y ∷ t) h l m (inl b) =
    let n : length s ≡ length t = omega (arith, same_length k (x ∷ s) (y ∷ t) h l m) in
    let a : orders k (x ∷ s) ≡ orders k (y ∷ t) = orders_same k (x ∷ s) (y ∷ t) m in
    let fewer : lower x s + suc (count x s) ≤ lower y t =
    omega (arith, lower_miss x x s (omega arith), lower_miss x y t (omega arith), lower_same x (x ∷ s) (y ∷ t) m, count_hit x s, count_miss x y t (λ e. omega arith), m x, lower_suc x t, lower_mono (suc x) y t b) in
    rw (← n, ← a) (omega (
      arith,
      rank_below k s h.2,
      share_next (orders k (x ∷ s)) (lower x s) (suc (count x s)) (length s) (orders k s) (orders_more k x s h),
      share_mono (orders k (x ∷ s)) (lower x s + suc (count x s)) (lower y t) (length s) fewer,
    ))
rank_mono k (x ∷ s) (y ∷ t) h l m (inr b) = same_first k x y s t b.0 h l m (rank_mono k s t h.2 l.2) b.1
  where
    same_first : (k x y : ℕ) (s t : List ℕ) → x ≡ y → Kinds k (x ∷ s) → Kinds k (y ∷ t) → Same (x ∷ s) (y ∷ t) → (Same s t → Before s t → rank k s < rank k t) → Before s t
        → orders k (x ∷ s) * lower x s / suc (length s) + rank k s < orders k (y ∷ t) * lower y t / suc (length t) + rank k t
    same_first k x y s t e h l m rest b =
        let m' : Same (x ∷ s) (x ∷ t) = rw (← e) at m in
        let tail = same_tail x s t m' in
        rw (← e, ← orders_same k (x ∷ s) (x ∷ t) m', ← lower_same x s t tail, ← same_length k s t h.2 l.2 tail) (omega (arith, rest tail b))

-- ---- the dictionary of a stock

pub strip_kinds : (counts s : List ℕ) → IsStrip counts s → Kinds (length counts) s
strip_kinds counts s h = kinds_of (length counts) s h.kinds

-- what is no kind is in no strip
pub count_none : (k j : ℕ) (s : List ℕ) → Kinds k s → (j ≡ 0) ⊎ (k < j) → count j s ≡ 0
unfolding count
count_none k j [] h o = refl
count_none k j (x ∷ s) h o = count_miss j x s (λ e. other o e) ∙ count_none k j s h.2 o
  where
    other : (j ≡ 0) ⊎ (k < j) → x ≡ j → ⊥
    other (inl z) e = omega (arith, h.0)
    other (inr l) e = omega (arith, h.1)

-- two strips of a stock have the same blocks
pub strips_same : (counts s t : List ℕ) → IsStrip counts s → IsStrip counts t → Same s t
strips_same counts s t h l zero = count_none (length counts) 0 s (strip_kinds counts s h) (inl refl) ∙ sym (count_none (length counts) 0 t (strip_kinds counts t l) (inl refl))
strips_same counts s t h l (suc j) = elim (dec_lt j (length counts)) [
  | yes m ↦ h.amounts j m ∙ sym (l.amounts j m)
  | no m ↦ count_none (length counts) (suc j) s (strip_kinds counts s h) (inr (omega arith)) ∙ sym (count_none (length counts) (suc j) t (strip_kinds counts t l) (inr (omega arith)))
]

-- the same blocks make a strip of the same stock
pub same_strip : (counts s t : List ℕ) → IsStrip counts s → Kinds (length counts) t → Same s t → IsStrip counts t
same_strip counts s t h l m = record { kinds = kinds_at (length counts) t l; amounts = λ j k. sym (m (suc j)) ∙ h.amounts j k }

-- the number of a strip of a stock
unfoldable pub dict_rank : List ℕ → List ℕ → ℕ
dict_rank counts s = rank (length counts) s

module _ (counts : List ℕ) where
  pub dict_mono : (s t : List ℕ) → IsStrip counts s → IsStrip counts t → Before s t → dict_rank counts s < dict_rank counts t
  unfolding dict_rank
  dict_mono s t h l b = rank_mono (length counts) s t (strip_kinds counts s h) (strip_kinds counts t l) (strips_same counts s t h l) b

  pub dict_below : (s : List ℕ) → IsStrip counts s → dict_rank counts s < total counts
  unfolding dict_rank
  dict_below s h = rw (← orders_strip counts s h) (rank_below (length counts) s (strip_kinds counts s h))

  size : length (dictionary counts) ≡ total counts
  unfolding dictionary
  size = length_in_order (book counts) ∙ book_size counts

  book_each : Each (IsStrip counts) (book counts)
  book_each = each_of (IsStrip counts) (book counts) (λ i l. book_only counts i (rw (← book_size counts) l))

  each : Each (IsStrip counts) (dictionary counts)
  unfolding dictionary
  each = each_in_order (IsStrip counts) (book counts) book_each

  -- each entry is before every later one
  pub dict_rises : Rises (dictionary counts)
  unfolding dictionary
  dict_rises = in_order_rises (sum counts) (book counts) (each_map (IsStrip counts) (λ t. length t ≡ sum counts) (book counts) (strip_sum counts) book_each)
      (apart_of (book counts) (λ i j l m e. book_once counts i j (rw (← book_size counts) l) (rw (← book_size counts) m) e))

  found : (s : List ℕ) → IsStrip counts s → In s (dictionary counts)
  unfolding dictionary
  found s h = in_in_order s (book counts) (at_in s (book counts) (place_in (book counts) s) (rw (book_size counts) (place_below counts s h)) (place_undone counts s h))

  at_place_lem : (i : ℕ) → i < total counts → dict_rank counts (get_or (dictionary counts) i []) ≡ i
  at_place_lem i l = place_is (dict_rank counts) (IsStrip counts) dict_mono (dictionary counts) each dict_rises
      (each_map (IsStrip counts) (λ t. dict_rank counts t < length (dictionary counts)) (dictionary counts) (λ t h. rw size (dict_below t h)) each) i (rw size l)

  -- the dictionary has T strips: each strip of the stock, at its number
  pub listed : Listed [] (IsStrip counts) (total counts) (dictionary counts) (dict_rank counts)
  listed = record {
    size = size;
    below = dict_below;
    find = λ s h. let w = in_at s (dictionary counts) (found s h) in rw (← w.2, at_place_lem w.0 (rw (← size) w.1));
    sound = λ i l. each_at (IsStrip counts) (dictionary counts) each i (rw size l);
    place = at_place_lem;
  }
