-- Proofs. The turns of a strip, as it stands and foot up: each is a turn of each other. What is proved of standing strips leans on `turns_self` to `turns_strip` alone.
use Prim.Native.Nat.{ℕ, ◌<◌}
use mathlib.Core.Path.{◌≡◌, refl, sym, ap, ◌∙◌}
use mathlib.Core.Bool.{Bool, true, false}
use mathlib.Core.List.{List, [], ◌∷◌, ◌++◌, reverse-append, reverse, append-nil, append_assoc}
use native.Mathlib.Decide.{dec_lt}
use native.Mathlib.Omega.{arith}
use lib.ListN.{length, get_or, take, drop, length-append, take-append-drop}
use lib.Seq.{take_at, drop_at}
use Rattle.rules.specs.Stock.{count, IsStrip}
use Rattle.rules.specs.Book.{turn, same}
use Rattle.rules.proofs.Listed.{flip}
use Rattle.rules.proofs.Places.{same_self, same_true}
use Rattle.searching.specs.Searching.{is_among}
use Rattle.searching.proofs.Some.{some_hit, some_where}
use Rattle.papers.specs.Papers.{turned, turns_of, hung, turns, is_a_turn}
use Rattle.papers.proofs.Turning.{length_turns_of, turns_of_at, hung_length, hung_hung, hung_twice, hung_turn, turn_hung}
use Rattle.dictionary.proofs.Sorted.{Strips, In, in_at, at_in}
use Rattle.dictionary.proofs.Amounts.{Kinds, Same, count_append, count_reverse, kinds_append, append_kinds, kinds_reverse}
use Rattle.dictionary.proofs.Places.{same_strip, strip_kinds}

-- ---- a strip cut in two, and the parts put together the other way round

pub record Cut (s u : List ℕ) : Type 0 where
  pub a : List ℕ
  pub b : List ℕ
  pub is_from : s ≡ a ++ b
  pub is_to : u ≡ b ++ a

pub cut_self : (s : List ℕ) → Cut s s
cut_self s = record { a = []; b = s; is_from = refl; is_to = sym (append-nil s) }

pub cut_back : (s u : List ℕ) → Cut s u → Cut u s
cut_back s u c = record { a = c.b; b = c.a; is_from = c.is_to; is_to = c.is_from }

-- two ways to cut one list
data Seam (b a c d : List ℕ) : Type 0 where
  first : (e : List ℕ) → b ≡ c ++ e → d ≡ e ++ a → Seam b a c d
  second : (e : List ℕ) → c ≡ b ++ e → a ≡ e ++ d → Seam b a c d

seam : (b a c d : List ℕ) → b ++ a ≡ c ++ d → Seam b a c d
seam [] a c d h = second c refl h
seam (x ∷ b) a [] d h = first (x ∷ b) refl (sym h)
seam (x ∷ b) a (y ∷ c) d h =
    let e : x ≡ y = cc in
    let t : b ++ a ≡ c ++ d = cc in
    go e (seam b a c d t)
  where
    go : x ≡ y → Seam b a c d → Seam (x ∷ b) a (y ∷ c) d
    go e (first f p q) = first f (cc) q
    go e (second f p q) = second f (cc) q

pub cut_on : (s u v : List ℕ) → Cut s u → Cut u v → Cut s v
cut_on s u v c d = go (seam c.b c.a d.a d.b (sym c.is_to ∙ d.is_from))
  where
    go : Seam c.b c.a d.a d.b → Cut s v
    go (first e p q) = record {
      a = c.a ++ d.a;
      b = e;
      is_from = c.is_from ∙ ap (λ (l : List ℕ). c.a ++ l) p ∙ sym (append_assoc c.a d.a e);
      is_to = d.is_to ∙ ap (λ (l : List ℕ). l ++ d.a) q ∙ append_assoc e c.a d.a;
    }
    go (second e p q) = record {
      a = e;
      b = d.b ++ c.b;
      is_from = c.is_from ∙ ap (λ (l : List ℕ). l ++ c.b) q ∙ append_assoc e d.b c.b;
      is_to = d.is_to ∙ ap (λ (l : List ℕ). d.b ++ l) p ∙ sym (append_assoc d.b c.b e);
    }

-- ---- cuts and turns

pub turned_cut : (t : ℕ) (s : List ℕ) → Cut s (turned t s)
unfolding turned
turned_cut t s = record { a = take t s; b = drop t s; is_from = sym (take-append-drop t s); is_to = refl }

pub cut_turned : (s u : List ℕ) → 0 < length s → Cut s u → (t : ℕ) × (t < length s) × (turned t s ≡ u)
unfolding turned
cut_turned s u h c = go c.a c.b c.is_from c.is_to (dec_lt (length c.a) (length s))
  where
    none : (b : List ℕ) → length b ≡ 0 → b ≡ []
    none [] e = refl
    none (x ∷ b) e = absurd (omega arith)

    go : (a b : List ℕ) → s ≡ a ++ b → u ≡ b ++ a → Dec (length a < length s) → (t : ℕ) × (t < length s) × (drop t s ++ take t s ≡ u)
    go a b p q (yes l) = (length a, l, rw (p, drop_at a b (length a) refl, take_at a b (length a) refl, q))
    go a b p q (no l) =
        let z : b ≡ [] = none b (omega (arith, ap length p, length-append a b)) in
        let f : s ≡ a = p ∙ ap (λ (l : List ℕ). a ++ l) z ∙ append-nil a in
        let g : u ≡ a = q ∙ ap (λ (l : List ℕ). l ++ a) z in
        (0, h, append-nil s ∙ f ∙ sym g)

-- ---- what a cut keeps

pub cut_length : (s u : List ℕ) → Cut s u → length u ≡ length s
cut_length s u c = omega (arith, ap length c.is_from, ap length c.is_to, length-append c.a c.b, length-append c.b c.a)

cut_same : (s u : List ℕ) → Cut s u → Same s u
cut_same s u c j = omega (arith, ap (count j) c.is_from, ap (count j) c.is_to, count_append j c.a c.b, count_append j c.b c.a)

cut_kinds : (k : ℕ) (s u : List ℕ) → Cut s u → Kinds k s → Kinds k u
cut_kinds k s u c h =
    let q = kinds_append k c.a c.b (rw c.is_from at h) in
    rw c.is_to (append_kinds k c.b c.a q.1 q.0)

-- ---- cuts of a strip as it hangs

cut_hung : (back : Bool) (s u : List ℕ) → Cut s u → Cut (hung back s) (hung back u)
unfolding turn
cut_hung false s u c = c
cut_hung true s u c = record {
  a = reverse c.b;
  b = reverse c.a;
  is_from = ap reverse c.is_from ∙ reverse-append c.a c.b;
  is_to = ap reverse c.is_to ∙ reverse-append c.b c.a;
}

pub record Hangs (s u : List ℕ) : Type 0 where
  pub back : Bool
  pub cut : Cut (hung back s) u

hangs_back : (s u : List ℕ) → Hangs s u → Hangs u s
hangs_back s u h = record { back = h.back; cut = rw (hung_twice h.back s) at (cut_hung h.back u (hung h.back s) (cut_back (hung h.back s) u h.cut)) }

hangs_on : (s u v : List ℕ) → Hangs s u → Hangs u v → Hangs s v
hangs_on s u v h k =
    let c : Cut (hung k.back (hung h.back s)) v = cut_on _ _ v (cut_hung k.back (hung h.back s) u h.cut) k.cut in
    record { back = flip k.back h.back; cut = rw (hung_hung k.back h.back s) at c }

hangs_length : (s u : List ℕ) → Hangs s u → length u ≡ length s
hangs_length s u h = cut_length (hung h.back s) u h.cut ∙ hung_length h.back s

hung_same : (back : Bool) (s : List ℕ) → Same s (hung back s)
unfolding turn
hung_same false s j = refl
hung_same true s j = sym (count_reverse j s)

hung_kinds : (k : ℕ) (back : Bool) (s : List ℕ) → Kinds k s → Kinds k (hung back s)
unfolding turn
hung_kinds k false s h = h
hung_kinds k true s h = kinds_reverse k s h

-- ---- a list of strips, and whether one is in it

pub some_in : (u : List ℕ) (l : Strips) → is_among l u ≡ true → In u l
some_in u l h =
    let w = some_where (λ t. same t u) l h in
    at_in u l w.0 w.1 (same_true (get_or l w.0 []) u w.2)

pub in_some : (u : List ℕ) (l : Strips) → In u l → is_among l u ≡ true
in_some u l h =
    let w = in_at u l h in
    some_hit (λ t. same t u) l w.0 w.1 (rw w.2 (same_self u))

-- the turns of a strip as it stands
pub turn_of_in : (s : List ℕ) (t : ℕ) → t < length s → In (turned t s) (turns_of s)
turn_of_in s t h = at_in (turned t s) (turns_of s) t (omega (arith, length_turns_of s)) (turns_of_at s t h)

pub in_turn_of : (s u : List ℕ) → In u (turns_of s) → (t : ℕ) × (t < length s) × (turned t s ≡ u)
in_turn_of s u h =
    let w = in_at u (turns_of s) h in
    let l : w.0 < length s = omega (arith, w.1, length_turns_of s) in
    (w.0, l, sym (turns_of_at s w.0 l) ∙ w.2)

-- what Same paper says of all turns
pub same_paper_in : (s u : List ℕ) → is_a_turn s u ≡ true → In u (turns s)
unfolding is_a_turn
same_paper_in s u h = some_in u (turns s) h

pub in_same_paper : (s u : List ℕ) → In u (turns s) → is_a_turn s u ≡ true
unfolding is_a_turn
in_same_paper s u h = in_some u (turns s) h

pub turn_in : (s : List ℕ) (back : Bool) (t : ℕ) → t < length s → In (turned t (hung back s)) (turns s)
turn_in s back t h = same_paper_in s (turned t (hung back s)) (hung_turn s (turned t (hung back s)) back t h refl)

pub in_turn : (s u : List ℕ) → In u (turns s) → (back : Bool) × (t : ℕ) × (t < length s) × (turned t (hung back s) ≡ u)
in_turn s u h = turn_hung s u (in_same_paper s u h)

pub turns_hang : (s u : List ℕ) → In u (turns s) → Hangs s u
turns_hang s u h =
    let w = in_turn s u h in
    record { back = w.0; cut = rw w.3 at (turned_cut w.1 (hung w.0 s)) }

pub hangs_turn : (s u : List ℕ) → 0 < length s → Hangs s u → In u (turns s)
hangs_turn s u h k =
    let w = cut_turned (hung k.back s) u (omega (arith, hung_length k.back s)) k.cut in
    rw w.2 at (turn_in s k.back w.0 (omega (arith, w.1, hung_length k.back s)))

-- ---- what the rest leans on: the turns of a strip of one block or more

module _ (s : List ℕ) (h : 0 < length s) where
  pub turns_self : In s (turns s)
  unfolding turn
  turns_self = hangs_turn s s h (record { back = false; cut = cut_self s })

  pub turns_length : (u : List ℕ) → In u (turns s) → length u ≡ length s
  turns_length u i = hangs_length s u (turns_hang s u i)

  pub turns_back : (u : List ℕ) → In u (turns s) → In s (turns u)
  turns_back u i = hangs_turn u s (omega (arith, turns_length u i)) (hangs_back s u (turns_hang s u i))

  pub turns_on : (u v : List ℕ) → In u (turns s) → In v (turns u) → In v (turns s)
  turns_on u v i j = hangs_turn s v h (hangs_on s u v (turns_hang s u i) (turns_hang u v j))

-- a turn of a strip of a stock is a strip of that stock
pub turns_strip : (counts s u : List ℕ) → IsStrip counts s → In u (turns s) → IsStrip counts u
turns_strip counts s u h i =
    let k = turns_hang s u i in
    let v = hung k.back s in
    same_strip counts s u h (cut_kinds (length counts) v u k.cut (hung_kinds (length counts) k.back s (strip_kinds counts s h))) (λ j. hung_same k.back s j ∙ cut_same v u k.cut j)
