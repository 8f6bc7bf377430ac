-- Proofs. What is read of a line is exactly the counts of a readable line.
use Prim.Native.Nat.{ℕ, zero, suc, ◌+◌, ◌*◌, ◌-◌, ◌/◌, ◌%◌, ◌≤◌, ◌<◌}
use mathlib.Core.Path.{◌≡◌, refl, sym, ap, ◌∙◌}
use mathlib.Core.Bool.{Bool, true, false, cond, ◌&&◌, false≢true}
use mathlib.Core.Option.{Option, none, some}
use mathlib.Core.List.{List, [], ◌∷◌, ◌++◌, map, append_assoc}
use native.Mathlib.Decide.{dec_lt}
use native.Mathlib.Omega.{arith}
use borrow.Author.Tests.{leb-true, eqb-true}
use lib.Dec.{eqb, leb}
use lib.ListN.{length, get_or, take, get_or-eq_default}
use lib.Seq.{take-length, take-suc}
use Rattle.lines.specs.Text.{feed, space, decimal, preceded, joined}
use Rattle.counts.specs.Readable.{line_of, Readable}
use Rattle.counts.specs.Reading.{takes, before, read_from, counts_read}
use Rattle.lines.proofs.Decimals.{decimal_last, decimal_only}
use Rattle.counts.proofs.ReadOn.{with_feed}
use Rattle.counts.proofs.Taking.{both, Taken, taken, taken_back}

-- ---- a readable line is read

abbrev Each : List ℕ → Type 0
Each counts = (i : ℕ) → i < length counts → get_or counts i 0 < 1000

digit_read : (begun : Bool) (v d : ℕ) (l : List ℕ) → d < 10 → v < 100 → (begun ≡ true → 0 < v) → read_from begun v ((48 + d) ∷ l) ≡ read_from true (10 * v + d) l
unfolding read_from
digit_read begun v d l h f g =
    let e : 48 + d - 48 ≡ d = omega arith in
    rw (taken_back begun v (48 + d) (record { low = omega arith; high = omega arith; few = f; after = g }), e)

below_10 : (c : ℕ) → c < 10 → (l : List ℕ) → read_from false 0 (decimal c ++ l) ≡ read_from true c l
below_10 c h l =
    let e : 10 * 0 + c % 10 ≡ c = omega arith in
    rw (decimal_only c h, digit_read false 0 (c % 10) l (omega arith) (omega arith) (λ f. absurd (false≢true f)), e)

one_more : (c : ℕ) → 10 ≤ c → c < 1000 → ((l : List ℕ) → read_from false 0 (decimal (c / 10) ++ l) ≡ read_from true (c / 10) l) → (l : List ℕ)
    → read_from false 0 (decimal c ++ l) ≡ read_from true c l
one_more c a h k l =
    let e : 10 * (c / 10) + c % 10 ≡ c = omega arith in
    rw (
      decimal_last c a (omega arith),
      append_assoc (decimal (c / 10)) ((48 + c % 10) ∷ []) l,
      k ((48 + c % 10) ∷ l),
      digit_read true (c / 10) (c % 10) l (omega arith) (omega arith) (λ f. omega arith),
      e,
    )

below_100 : (c : ℕ) → c < 100 → (l : List ℕ) → read_from false 0 (decimal c ++ l) ≡ read_from true c l
below_100 c h l = elim (dec_lt c 10) [ yes a ↦ below_10 c a l | no a ↦ one_more c (omega arith) (omega arith) (below_10 (c / 10) (omega arith)) l ]

below_1000 : (c : ℕ) → c < 1000 → (l : List ℕ) → read_from false 0 (decimal c ++ l) ≡ read_from true c l
below_1000 c h l = elim (dec_lt c 100) [ yes a ↦ below_100 c a l | no a ↦ one_more c (omega arith) h (below_100 (c / 10) (omega arith)) l ]

rest_read : (c : ℕ) (cs : List ℕ) → Each cs → read_from true c (preceded space (map decimal cs)) ≡ some (c ∷ cs)
unfolding read_from preceded
rest_read c [] h = refl
rest_read c (d ∷ cs) h =
    let k : Each cs = λ i l. h (suc i) (omega arith) in
    rw (below_1000 d (h 0 (omega arith)) (preceded space (map decimal cs)), rest_read d cs k)

body_read : (counts : List ℕ) → 1 ≤ length counts → Each counts → read_from false 0 (joined space (map decimal counts)) ≡ some counts
unfolding joined
body_read [] n h = absurd (omega arith)
body_read (c ∷ cs) n h =
    let k : Each cs = λ i l. h (suc i) (omega arith) in
    below_1000 c (h 0 (omega arith)) (preceded space (map decimal cs)) ∙ rest_read c cs k

pub readable_read : (counts input : List ℕ) → Readable counts input → counts_read input ≡ some counts
unfolding line_of
readable_read counts input r =
    ap counts_read r.line ∙ with_feed (joined space (map decimal counts)) feed (rw r.line at r.short) refl ∙ body_read counts r.some r.each

-- ---- what is read is a readable line

no_counts : (l : List ℕ) → ◌≡◌ {A = Option (List ℕ)} none (some l) → ⊥
no_counts l e = let z : ◌≡◌ {A = ℕ} 0 1 = cc in omega arith

same_counts : (k l : List ℕ) → some k ≡ some l → k ≡ l
same_counts k l e = cc

record Line (text counts : List ℕ) : Type 0 where
  some : 1 ≤ length counts
  each : Each counts
  is : text ≡ joined space (map decimal counts)

-- the digits of a count that has begun
abbrev lead : Bool → ℕ → List ℕ
lead false v = []
lead true v = decimal v

lead_more : (begun : Bool) (v b : ℕ) → Taken begun v b → (begun ≡ false → v ≡ 0) → decimal (10 * v + (b - 48)) ≡ lead begun v ++ (b ∷ [])
lead_more false v b t z =
    let n = 10 * v + (b - 48) in
    let q : 48 + n % 10 ≡ b = omega (arith, t.low, t.high, z refl) in
    decimal_only n (omega (arith, t.high, z refl)) ∙ rw q
lead_more true v b t z =
    let n = 10 * v + (b - 48) in
    let p : n / 10 ≡ v = omega (arith, t.low, t.high) in
    let q : 48 + n % 10 ≡ b = omega (arith, t.low, t.high) in
    rw (decimal_last n (omega (arith, t.after refl)) (omega (arith, t.few, t.high)), p, q)

each_cons : (v : ℕ) (cs : List ℕ) → v < 1000 → Each cs → Each (v ∷ cs)
each_cons v cs h k zero l = h
each_cons v cs h k (suc i) l = k i (omega arith)

each_none : Each []
each_none i l = absurd (omega arith)

preceded_joined : (cs : List ℕ) → 1 ≤ length cs → preceded space (map decimal cs) ≡ space ∷ joined space (map decimal cs)
unfolding preceded joined
preceded_joined [] h = absurd (omega arith)
preceded_joined (c ∷ cs) h = refl

line_cons : (v : ℕ) (cs l : List ℕ) → v < 1000 → Line l cs → Line (decimal v ++ (space ∷ l)) (v ∷ cs)
unfolding joined
line_cons v cs l s k = record { some = omega arith; each = each_cons v cs s k.each; is = rw (k.is, preceded_joined cs k.some) }

abbrev Sound : List ℕ → Type 0
Sound l = (begun : Bool) (v : ℕ) → (begun ≡ false → v ≡ 0) → v < 1000 → (counts : List ℕ) → read_from begun v l ≡ some counts → Line (lead begun v ++ l) counts

sound_end : Sound []
unfolding read_from joined preceded
sound_end false v z s counts e = absurd (no_counts counts e)
sound_end true v z s counts e = rw (← same_counts (v ∷ []) counts e) (record { some = omega arith; each = each_cons v [] s each_none; is = refl })

module _ (b : ℕ) (l : List ℕ) (ih : Sound l) (begun : Bool) (v : ℕ) (z : begun ≡ false → v ≡ 0) (s : v < 1000) (counts : List ℕ) where
  by_digit : takes begun v b ≡ true → read_from true (10 * v + (b - 48)) l ≡ some counts → Line (lead begun v ++ (b ∷ l)) counts
  by_digit t e =
      let k = taken begun v b t in
      let q : lead begun v ++ (b ∷ l) ≡ decimal (10 * v + (b - 48)) ++ l = sym (append_assoc (lead begun v) (b ∷ []) l) ∙ ap (λ (w : List ℕ). w ++ l) (sym (lead_more begun v b k z)) in
      rw q (ih true (10 * v + (b - 48)) (λ f. absurd (false≢true (sym f))) (omega (arith, k.few, k.high)) counts e)

  by_rest : begun ≡ true → b ≡ space → (o : Option (List ℕ)) → read_from false 0 l ≡ o → before (v ∷ []) o ≡ some counts → Line (lead begun v ++ (b ∷ l)) counts
  by_rest f g none r e = absurd (no_counts counts e)
  by_rest f g (some cs) r e =
      let k = ih false 0 (λ h. refl) (omega arith) cs r in
      rw (f, g, ← same_counts (v ∷ cs) counts e) (line_cons v cs l s k)

  by_space : (x : Bool) → begun && eqb b space ≡ x → cond x (before (v ∷ []) (read_from false 0 l)) none ≡ some counts → Line (lead begun v ++ (b ∷ l)) counts
  by_space false f e = absurd (no_counts counts e)
  by_space true f e = let p = both begun (eqb b space) f in by_rest p.0 (eqb-true b space p.1) (read_from false 0 l) refl e

  by_byte : (x : Bool) → takes begun v b ≡ x → cond x (read_from true (10 * v + (b - 48)) l) (cond (begun && eqb b space) (before (v ∷ []) (read_from false 0 l)) none) ≡ some counts
      → Line (lead begun v ++ (b ∷ l)) counts
  by_byte true t e = by_digit t e
  by_byte false t e = by_space (begun && eqb b space) refl e

sound : (l : List ℕ) → Sound l
unfolding read_from
sound [] = sound_end
sound (b ∷ l) = λ begun v z s counts e. by_byte b l (sound l) begun v z s counts (takes begun v b) refl e

module _ (counts input : List ℕ) where
  abbrev end : ℕ
  end = length input - 1

  -- a line whose last byte is a line feed
  in_two : get_or input end 0 ≡ feed → input ≡ take end input ++ (feed ∷ [])
  in_two e = elim (dec_lt 0 (length input)) [
    | yes h ↦
        let n : length input ≡ suc end = omega arith in
        sym (take-length input) ∙ ap (λ (k : ℕ). take k input) n ∙ take-suc input end 0 (omega arith) ∙ rw e
    | no h ↦ absurd (omega (arith, e, get_or-eq_default input 0 {n = end} (omega arith)))
  ]

  by_tests : (x : Bool) → leb (length input) 255 && eqb (get_or input end 0) feed ≡ x → cond x (read_from false 0 (take end input)) none ≡ some counts → Readable counts input
  unfolding line_of
  by_tests false f e = absurd (no_counts counts e)
  by_tests true f e =
      let p = both (leb (length input) 255) _ f in
      let k = sound (take end input) false 0 (λ h. refl) (omega arith) counts e in
      record {
        some = k.some;
        each = k.each;
        line = in_two (eqb-true (get_or input end 0) feed p.1) ∙ ap (λ (t : List ℕ). t ++ (feed ∷ [])) k.is;
        short = leb-true (length input) 255 p.0;
      }

  pub read_readable : counts_read input ≡ some counts → Readable counts input
  unfolding counts_read
  read_readable e = by_tests (leb (length input) 255 && eqb (get_or input end 0) feed) refl e
