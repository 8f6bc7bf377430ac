-- Proofs. Whether a strip is the next one of the book: by their numbers, and after an exchange by the two places.
use Prim.Native.Nat.{ℕ, ◌+◌, ◌-◌, ◌<◌}
use mathlib.Core.Path.{◌≡◌, refl, sym, ap, ◌∙◌}
use mathlib.Core.Bool.{Bool, true, false, false≢true}
use mathlib.Core.List.{List, [], ◌∷◌}
use native.Mathlib.Decide.{ℕ_discrete}
use native.Mathlib.Omega.{arith}
use lib.Dec.{eqb}
use borrow.Author.Tests.{ne_eqb}
use lib.ListN.{length}
use Rattle.rules.specs.Stock.{sum, IsStock, IsStrip}
use Rattle.rules.specs.Book.{book, same, place_in}
use Rattle.rules.specs.Neighbours.{places}
use Rattle.rules.proofs.Checks.{some_block}
use Rattle.rules.proofs.Strips.{strip_sum}
use Rattle.rules.proofs.Places.{same_self, same_true, same_not, place_same, place_below}
use Rattle.rules.proofs.Neighbours.{no_places}
use Rattle.rules.proofs.Swapped.{swap_places}
use Rattle.rules.proofs.Walk.{Move}
use Rattle.walking.specs.Answers.{along, left_along, onward, left}
use Rattle.walking.proofs.OneMove.{Makes, made}
use Rattle.walking.proofs.Along.{past_last, left_allowed, along_place}
use Rattle.running.proofs.Theorems.{same_test}
use Rattle.bar.specs.Bar.{exchanged, is_next}
use Rattle.bar.proofs.Pairs.{Places}
use Rattle.bar.proofs.Exchanged.{exchanged_strip}

-- no strip of an accepted stock is empty
not_empty : (counts t : List ℕ) → IsStock counts → IsStrip counts t → same t [] ≡ false
unfolding same
not_empty counts [] stock h = absurd (omega (arith, strip_sum counts [] h, some_block counts stock))
not_empty counts (x ∷ t) stock h = refl

module _ (counts : List ℕ) (stock : IsStock counts) (s : List ℕ) (h : IsStrip counts s) where
  abbrev number : ℕ
  number = place_in (book counts) s

  -- after the last strip there is none
  pub last_not_next : left counts s ≡ 0 → (t : List ℕ) → IsStrip counts t → is_next counts s t ≡ false
  last_not_next z t k = rw (past_last counts s h z) (not_empty counts t stock k)

  -- the number rises by one
  pub next_number : (t : List ℕ) → IsStrip counts t → is_next counts s t ≡ eqb (place_in (book counts) t) (number + 1)
  unfolding along left_along
  next_number t k = elim (ℕ_discrete (left counts s) 0) [
    | yes z ↦ last_not_next z t k ∙ sym (ne_eqb (place_in (book counts) t) (number + 1) (λ e. omega (arith, place_below counts t k)))
    | no z ↦ place_same counts t k (number + 1) (omega arith) ∙ same_test (number + 1) (place_in (book counts) t) (place_in (book counts) t) (number + 1) sym sym
  ]

  -- an exchange of two places makes the next strip exactly where they are those of the walk's next move on
  module _ (p q : ℕ) (r : Places (sum counts) p q) where
    module _ (l : 0 < left counts s) (j low high : ℕ) (m : Makes false counts s j low high) where
      moved : p ≡ low + 1 → q ≡ high + 1 → exchanged p q s ≡ onward counts s 1
      moved e f =
          let a : p - 1 ≡ low = omega arith in
          let b : q - 1 ≡ high = omega arith in
          rw (a, b) m.strip

      back : exchanged p q s ≡ onward counts s 1 → (p ≡ low + 1) × (q ≡ high + 1)
      unfolding left_along
      back e =
          let n : exchanged p q s ≡ s → ⊥ = λ f. omega (arith, ap (place_in (book counts)) (sym f ∙ e), along_place false counts s h 1 l) in
          let w = swap_places s (p - 1) (q - 1) low high (omega (arith, r.some, r.rise)) (omega (arith, r.some, r.rise, r.inside, strip_sum counts s h)) m.order (e ∙ sym m.strip) n in
          (omega (arith, w.0, r.some), omega (arith, w.1, r.some, r.rise))

      by_places : is_next counts s (exchanged p q s) ≡ same (places s (onward counts s 1)) (p ∷ q ∷ [])
      by_places = rw m.shown (go (same ((low + 1) ∷ (high + 1) ∷ []) (p ∷ q ∷ [])) refl)
        where
          go : (b : Bool) → same ((low + 1) ∷ (high + 1) ∷ []) (p ∷ q ∷ []) ≡ b → is_next counts s (exchanged p q s) ≡ b
          go true e = let f = same_true _ _ e in rw (moved (cc) (cc)) (same_self (onward counts s 1))
          go false e = same_not (exchanged p q s) (onward counts s 1) (λ f. let w = back f in false≢true (sym e ∙ rw (w.0, w.1) (same_self ((low + 1) ∷ (high + 1) ∷ []))))

    some_move : 0 < left counts s → (m : Move) × Makes false counts s (length counts - m.skip) m.p m.q → is_next counts s (exchanged p q s) ≡ same (places s (onward counts s 1)) (p ∷ q ∷ [])
    some_move l (m, k) = by_places l (length counts - m.skip) m.p m.q k

    pub next_places : is_next counts s (exchanged p q s) ≡ same (places s (onward counts s 1)) (p ∷ q ∷ [])
    unfolding same
    next_places = elim (ℕ_discrete (left counts s) 0) [
      | yes z ↦ last_not_next z (exchanged p q s) (exchanged_strip counts s p q h r) ∙ rw (past_last counts s h z, no_places 1 s)
      | no z ↦ some_move (omega arith) (made false counts s h (left_allowed false counts s (omega arith)))
    ]
