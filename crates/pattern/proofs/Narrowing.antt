-- Proofs. The index of a word while letters are taken off its end: a word v is left with b letters R, and a part of the list with its patterns.
use Prim.Native.Nat.{ℕ, zero, suc, ◌+◌, ◌-◌, ◌^◌, ◌≤◌, ◌<◌}
use mathlib.Core.Path.{◌≡◌, refl, sym, ap, ◌∙◌}
use mathlib.Core.Bool.{Bool, true, false, not}
use mathlib.Core.List.{List, reverse}
use native.Mathlib.Nat.{zero-add}
use native.Mathlib.Omega.{arith}
use lib.ListN.{length, get_or, take}
use lib.Seq.{take_all, length-take-le}
use Rattle.rules.specs.Stock.{binom}
use Rattle.rules.specs.Book.{pattern}
use Rattle.rules.proofs.Listed.{face}
use Rattle.rules.proofs.Turned.{binom_zero}
use Rattle.rules.proofs.Patterns.{binom_self}
use Rattle.rules.proofs.Books.{length_pattern}
use Rattle.rules.proofs.Index.{index, rests, rests_le, index_below, rests_k, index_k, InKR, in_kr_word, InRR, in_rr_word}
use Rattle.cuts.specs.Cuts.{cuts, cuts_from_end}
use Rattle.cuts.proofs.LettersLeft as letters
use Rattle.cuts.proofs.Theorems.{cuts_below}
use Rattle.choose.proofs.Pascal.{binom_at_most, k_and_r, k_at_most, three_parts}
use Rattle.pattern.specs.declared.index.Part.{Part}

-- the cuts of a word that is left
abbrev cuts_of : ℕ → List ℕ → ℕ
cuts_of j v = cuts_from_end (pattern j (reverse v))

whole : (j : ℕ) (v : List ℕ) → letters.cuts_left j v (length v) ≡ cuts_of j v
whole j v = rw (take_all (length v) v (omega arith))

pub record Narrowed (j : ℕ) (w : List ℕ) (others : ℕ) (v : List ℕ) (b : ℕ) (part : Part) (made : ℕ) : Type 0 where
  pub left : length v ≤ length w
  pub rest : b ≡ rests j v
  pub patterns : part.all ≡ binom (length v) b
  pub room : part.from + part.all ≤ binom (length w) others
  pub found : index j w ≡ part.from + face part.turned part.all (index j v)
  pub cut : made + cuts_of j v ≡ cuts (pattern j w)

pub start : {j : ℕ} {w : List ℕ} {others all made : ℕ} → others ≡ rests j w → all ≡ binom (length w) others → made ≡ 0 → Narrowed j w others w others (record { from = 0; all = all; turned = false }) made
unfolding face
start {j} {w} is are none = record {
  left = omega arith;
  rest = is;
  patterns = are;
  room = omega arith;
  found = sym (zero-add (index j w));
  cut = omega (arith, letters.cuts_whole j w, whole j w);
}

-- what a function says of the part of a list with `ahead` before it and `own` in it
abbrev IsPart : Part → ℕ → ℕ → Part → Type 0
IsPart p ahead own r = (r.all ≡ own) × (r.turned ≡ p.turned) × (r.from + own ≤ p.from + p.all) × ((i : ℕ) → i < own → p.from + face p.turned p.all (ahead + i) ≡ r.from + face p.turned own i)

turned_again : (turned : Bool) (n i : ℕ) → i < n → face turned n (n - 1 - i) ≡ face (not turned) n i
unfolding face
turned_again false n i h = omega arith
turned_again true n i h = omega arith

module _ {j : ℕ} {w : List ℕ} {others : ℕ} {v : List ℕ} {b : ℕ} {part : Part} {made : ℕ} (s : Narrowed j w others v b part made) where
  abbrev a : ℕ
  a = length v

  abbrev all : ℕ
  all = part.all

  pub fewer : b ≤ a
  fewer = omega (arith, s.rest, rests_le j v)

  below : index j v < binom a b
  below = rw (← s.rest) at (index_below j v)

  rest_whole : b ≡ rests j (take a v)
  rest_whole = rw (take_all a v (omega arith)) s.rest

  -- of a short word: the patterns that are left end below 2^64, and there are few cuts
  module _ (short : length w ≤ 64) where
    pub fits : part.from + all < 2 ^ 64
    fits = omega (arith, s.room, binom_at_most (length w) others short)

    pub few : made < 65
    few = omega (arith, s.cut, cuts_below (pattern j w), length_pattern j w)

  one_left : all ≡ 1 → part.from ≡ index j w
  unfolding face
  one_left e = sym (s.found ∙ go part.turned (index j v) (rw (← s.patterns, e) at below))
    where
      go : (turned : Bool) (i : ℕ) → i < 1 → part.from + face turned all i ≡ part.from
      go false i h = omega arith
      go true i h = omega (arith, e)

  -- where only K is left, or only R, one pattern is, and no cut
  pub end_k : b ≡ 0 → (part.from ≡ index j w) × (made ≡ cuts (pattern j w))
  end_k e = (one_left (s.patterns ∙ ap (binom a) e ∙ binom_zero a), omega (arith, s.cut, whole j v, letters.none_k j v a b (omega arith) rest_whole e))

  pub end_r : b ≡ a → (part.from ≡ index j w) × (made ≡ cuts (pattern j w))
  end_r e = (one_left (s.patterns ∙ ap (binom a) e ∙ binom_self a), omega (arith, s.cut, whole j v, letters.none_r j v a b (omega arith) rest_whole (omega arith)))

  -- so it is where one letter is left, or none
  pub end_short : a < 2 → (part.from ≡ index j w) × (made ≡ cuts (pattern j w))
  end_short h = go b refl
    where
      go : (n : ℕ) → b ≡ n → (part.from ≡ index j w) × (made ≡ cuts (pattern j w))
      go zero e = end_k e
      go (suc n) e = end_r (omega (arith, fewer))

  module _ (some : b ≡ 0 → ⊥) (mixed : b ≡ a → ⊥) where
    h : 0 < b
    h = omega arith

    l : b < a
    l = omega (arith, fewer)

    one_less : length (take (a - 1) v) ≡ a - 1
    one_less = length-take-le (a - 1) v (omega arith)

    two_less : length (take (a - 2) v) ≡ a - 2
    two_less = length-take-le (a - 2) v (omega arith)

    pub k_in_all : {in_k : ℕ} → in_k ≡ binom (a - 1) b → in_k ≤ all
    k_in_all is = omega (arith, s.patterns, k_at_most a b (omega (arith, l)))

    pub kr_in_all : {in_k in_kr : ℕ} → in_k ≡ binom (a - 1) b → in_kr ≡ binom (a - 2) (b - 1) → in_k + in_kr ≤ all
    kr_in_all is_k is =
        let e : a - 1 - 1 ≡ a - 2 = omega arith in
        omega (arith, s.patterns, k_and_r a b (omega (arith, l)) h, rw e at (k_at_most (a - 1) (b - 1) (omega (arith, h, l))))

    module _ (k : get_or v (a - 1) 0 ≡ j) {in_k more : ℕ} {r : Part} (is : in_k ≡ binom (a - 1) b) (p : IsPart part 0 in_k r) (one : more ≡ made + 1) where
      pub on_k : Narrowed j w others (take (a - 1) v) b r more
      on_k =
          let u = take (a - 1) v in
          let e : b ≡ rests j u = s.rest ∙ sym (rests_k j v (omega (arith, l)) k) in
          let m : index j u < in_k = rw (← e, one_less, ← is) at (index_below j u) in
          let f : index j v ≡ 0 + index j u = sym (index_k j v (omega (arith, l)) k) ∙ sym (zero-add (index j u)) in
          record {
            left = omega (arith, s.left, one_less);
            rest = e;
            patterns = rw one_less (p.0 ∙ is);
            room = omega (arith, s.room, p.0, p.2);
            found = rw (p.0, p.1) (s.found ∙ ap (λ (i : ℕ). part.from + face part.turned all i) f ∙ p.3 (index j u) m);
            cut = omega (arith, s.cut, whole j v, letters.cut_k j v a b (omega arith) rest_whole h l k);
          }

    module _ (r : get_or v (a - 1) 0 ≡ j → ⊥) where
      abbrev u : List ℕ
      u = take (a - 2) v

      cut_two : {more : ℕ} → more ≡ made + 1 → more + cuts_of j u ≡ cuts (pattern j w)
      cut_two one = omega (arith, s.cut, whole j v, letters.cut_r j v a b (omega arith) rest_whole h l r)

      module _ (k : get_or v (a - 2) 0 ≡ j) {in_k in_kr : ℕ} {q : Part} (is_k : in_k ≡ binom (a - 1) b) (is : in_kr ≡ binom (a - 2) (b - 1)) (p : IsPart part in_k in_kr q) where
        pub on_kr : {more : ℕ} → more ≡ made + 1 → Narrowed j w others u (b - 1) (record q { turned = not q.turned }) more
        on_kr one =
            let kr : InKR j v b = in_kr_word j v b s.rest (omega (arith, h, l)) r k in
            let i = index j u in
            let m : i < in_kr = rw (← is) at kr.below in
            let f : index j v ≡ in_k + (in_kr - 1 - i) = sym (rw (← is_k, ← is) at kr.found) in
            let g = p.3 (in_kr - 1 - i) (omega arith) ∙ ap (λ (n : ℕ). q.from + n) (turned_again part.turned in_kr i m) in
            record {
              left = omega (arith, s.left, two_less);
              rest = kr.rest;
              patterns = rw two_less (p.0 ∙ is);
              room = omega (arith, s.room, p.0, p.2);
              found = rw (p.0, p.1) (s.found ∙ ap (λ (i : ℕ). part.from + face part.turned all i) f ∙ g);
              cut = cut_two one;
            }

      module _ (k : get_or v (a - 2) 0 ≡ j → ⊥) where
        rr : InRR j v b
        rr = in_rr_word j v b s.rest (omega (arith, h, l)) r k

        pub more_r : 2 ≤ b
        more_r = rr.more

        three : binom (a - 1) b + (binom (a - 2) (b - 1) + binom (a - 2) (b - 2)) ≡ all
        three = three_parts a b (omega (arith, h, l)) more_r ∙ sym s.patterns

        module _ {in_rr : ℕ} (is : in_rr ≡ binom (a - 2) (b - 2)) where
          pub rr_in_all : in_rr ≤ all
          rr_in_all = omega (arith, three)

          pub on_rr : {ahead : ℕ} {q : Part} → IsPart part ahead in_rr q → ahead ≡ all - in_rr → {more : ℕ} → more ≡ made + 1 → Narrowed j w others u (b - 2) q more
          on_rr {ahead} {q} p before one =
              let e : b - 2 ≡ rests j u = omega (arith, rr.rest) in
              let i = index j u in
              let m : i < in_rr = rw (← e, two_less, ← is) at (index_below j u) in
              let f : index j v ≡ ahead + i = omega (arith, three, rr.found) in
              record {
                left = omega (arith, s.left, two_less);
                rest = e;
                patterns = rw two_less (p.0 ∙ is);
                room = omega (arith, s.room, p.0, p.2);
                found = rw (p.0, p.1) (s.found ∙ ap (λ (i : ℕ). part.from + face part.turned all i) f ∙ p.3 i m);
                cut = cut_two one;
              }
