-- Proofs. The places of the moves from a strip, as Run lists them on or back, exchanged pair by pair: each makes the strip beside.
use Prim.Native.Nat.{ℕ, zero, suc, ◌+◌, ◌-◌, ◌≤◌, ◌<◌}
use mathlib.Core.Path.{◌≡◌, refl, sym, ap, ◌∙◌}
use mathlib.Core.Bool.{Bool, true, false}
use mathlib.Core.List.{List, [], ◌∷◌, ◌++◌}
use native.Mathlib.Decide.{ℕ_discrete}
use native.Mathlib.Omega.{arith}
use lib.ListN.{length, get_or, length-append, get_or-append}
use lib.Seq.{get_or_at}
use Rattle.rules.specs.Stock.{sum, tally, IsStrip}
use Rattle.rules.specs.Book.{same}
use Rattle.rules.proofs.Walk.{Move}
use Rattle.rules.proofs.Strips.{strip_sum}
use Rattle.rules.proofs.Places.{same_self}
use Rattle.walking.specs.Answers.{along, left_along, beside}
use Rattle.walking.proofs.OneMove.{Makes, made as move_made}
use Rattle.walking.proofs.Along.{left_allowed, along_none, along_strip, along_left, along_beside}
use Rattle.running.specs.Answers.{moves_from}
use Rattle.bar.specs.Bar.{exchanged, made, stood, last_of, final_strip, is_next, next_ones, walked}
use Rattle.bar.proofs.Pairs.{Places, Right}

-- ---- one pair more at the end of a list

module _ (n p q : ℕ) where
  right_more : (pairs : List ℕ) → Right n pairs → Places n p q → Right n (pairs ++ (p ∷ q ∷ []))
  right_more [] r k = (k, tt)
  right_more (x ∷ []) r k = absurd r
  right_more (x ∷ y ∷ pairs) r k = (r.0, right_more pairs r.1 k)

  made_more : (s pairs : List ℕ) → Right n pairs → made s (pairs ++ (p ∷ q ∷ [])) ≡ made s pairs ++ (exchanged p q (final_strip s pairs) ∷ [])
  unfolding made last_of
  made_more s [] r = refl
  made_more s (x ∷ []) r = absurd r
  made_more s (x ∷ y ∷ pairs) r = rw (made_more (exchanged x y s) pairs r.1)

last_more : (s t : List ℕ) (l : List (List ℕ)) → last_of s (l ++ (t ∷ [])) ≡ t
unfolding last_of
last_more s t [] = refl
last_more s t (u ∷ l) = last_more u t l

next_more : (counts s t : List ℕ) (l : List (List ℕ)) → is_next counts (last_of s l) t ≡ true → next_ones counts s (l ++ (t ∷ [])) ≡ suc (next_ones counts s l)
unfolding next_ones last_of
next_more counts s t [] e = rw e
next_more counts s t (u ∷ l) e = rw (next_more counts u t l e) (go (is_next counts s u) (next_ones counts u l))
  where
    go : (b : Bool) (m : ℕ) → tally b (suc m) ≡ suc (tally b m)
    go true m = refl
    go false m = refl

-- ---- the moves from a strip, on or at true back

module _ (d : Bool) (counts s : List ℕ) (h : IsStrip counts s) where
  abbrev listed : ℕ → List ℕ
  listed m = moves_from d counts s m

  -- the first m moves are right pairs and lead to the strip m numbers further; those that stood are the strips up to it; going on, all of them are walked
  pub record Replays (m : ℕ) : Type 0 where
    pub right : Right (sum counts) (listed m)
    pub all : d ≡ false → walked counts s (listed m) ≡ m
    pub leads : final_strip s (listed m) ≡ along d counts s m
    pub many : length (made s (listed m)) ≡ m
    pub stands : (i : ℕ) → i ≤ m → get_or (stood s (listed m)) i [] ≡ along d counts s i

  -- one move more, which exchanges two places of the strip
  module _ (m : ℕ) (l : m < left_along d counts s) (r : Replays m) where
    abbrev t : List ℕ
    t = along d counts s m

    abbrev u : List ℕ
    u = along d counts s (suc m)

    module _ (j low high : ℕ) (k : Makes d counts t j low high) where
      next_is : beside d counts t ≡ u
      next_is = along_beside d counts s h m (omega arith)

      pair : Places (sum counts) (low + 1) (high + 1)
      pair = record { some = omega arith; rise = omega (arith, k.order); inside = omega (arith, k.inside, strip_sum counts t (along_strip d counts s h m (omega arith))) }

      listed_is : listed (suc m) ≡ listed m ++ ((low + 1) ∷ (high + 1) ∷ [])
      unfolding moves_from
      listed_is = rw (← next_is, k.shown)

      makes : exchanged (low + 1) (high + 1) (final_strip s (listed m)) ≡ u
      makes =
          let e : low + 1 - 1 ≡ low = omega arith in
          let f : high + 1 - 1 ≡ high = omega arith in
          rw (r.leads, e, f) (k.strip ∙ next_is)

      made_is : made s (listed (suc m)) ≡ made s (listed m) ++ (u ∷ [])
      made_is = rw listed_is (made_more (sum counts) (low + 1) (high + 1) s (listed m) r.right ∙ rw makes)

      follows : d ≡ false → is_next counts (final_strip s (listed m)) u ≡ true
      follows e = rw r.leads (ap (same u) (ap (λ (b : Bool). along b counts t 1) (sym e) ∙ next_is) ∙ same_self u)

      stands : (i : ℕ) → i ≤ suc m → get_or (s ∷ (made s (listed m) ++ (u ∷ []))) i [] ≡ along d counts s i
      stands i b = elim (ℕ_discrete i (suc m)) [
        | yes e ↦ rw e (get_or_at (stood s (listed m)) u [] [] (suc m) (ap suc r.many))
        | no e ↦ get_or-append (stood s (listed m)) (u ∷ []) [] i (omega (arith, r.many)) ∙ r.stands i (omega arith)
      ]

      one_further : Replays (suc m)
      one_further = record {
        right = rw listed_is (right_more (sum counts) (low + 1) (high + 1) (listed m) r.right pair);
        all = λ e. rw made_is (next_more counts s u (made s (listed m)) (follows e) ∙ ap suc (r.all e));
        leads = rw made_is (last_more s u (made s (listed m)));
        many = rw made_is (length-append (made s (listed m)) (u ∷ []) ∙ omega (arith, r.many));
        stands = λ i b. ap (λ (l : List (List ℕ)). get_or (s ∷ l) i []) made_is ∙ stands i b;
      }

    some_move : (k : Move) × Makes d counts t (length counts - k.skip) k.p k.q → Replays (suc m)
    some_move (k, is) = one_further (length counts - k.skip) k.p k.q is

    further : Replays (suc m)
    further =
        let own = along_strip d counts s h m (omega arith) in
        some_move (move_made d counts t own (left_allowed d counts t (omega (arith, along_left d counts s h m (omega arith)))))

  pub replays : (m : ℕ) → m ≤ left_along d counts s → Replays m
  unfolding moves_from made last_of next_ones
  replays zero l = record {
    right = tt;
    all = λ e. refl;
    leads = sym (along_none d counts s h);
    many = refl;
    stands = λ i b. let e : i ≡ 0 = omega arith in rw e (sym (along_none d counts s h));
  }
  replays (suc m) l = further m l (replays m (omega arith))
