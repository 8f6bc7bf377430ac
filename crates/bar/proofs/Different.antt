-- Proofs. How many different strips stood: by the book, in the list of them, and beside the number of the first that is missing.
use Prim.Native.Nat.{ℕ, suc, ◌+◌, ◌*◌, ◌≤◌, ◌<◌}
use mathlib.Core.Path.{◌≡◌, refl, sym, ap, ◌∙◌}
use mathlib.Core.Bool.{Bool, true, false, not, ◌||◌}
use mathlib.Core.List.{List, [], ◌∷◌}
use native.Mathlib.Omega.{arith}
use borrow.Author.Tests.{ne_eqb}
use lib.ListN.{length, get_or}
use Rattle.rules.specs.Stock.{sum, total, tally, IsStrip}
use Rattle.rules.specs.Book.{book, same, place_in}
use Rattle.rules.proofs.Places.{same_self, same_true, place_same, place_undone, place_below, book_size}
use Rattle.searching.specs.Searching.{passing, some, is_among}
use Rattle.searching.proofs.First.{passed_over_within, fail_passed_over}
use Rattle.searching.proofs.Some.{some_hit}
use Rattle.searching.proofs.Amounts.{passing_fewer, none_fails_all_pass, all_pass_none_fails, as_many_pass, one_more_passes}
use Rattle.bar.specs.Bar.{exchanged, made, stood, different, distinct, missing}
use Rattle.bar.proofs.Pairs.{Right}

-- no strip of an empty list is among those of the book
none_different : (l : List (List ℕ)) → length (passing (is_among []) l) ≡ 0
unfolding passing some
none_different [] = refl
none_different (s ∷ l) = none_different l

module _ (counts : List ℕ) where
  abbrev strip : ℕ → List ℕ
  strip k = get_or (book counts) k []

  -- ---- one strip more stands

  module _ (s : List ℕ) (own : IsStrip counts s) (l : List (List ℕ)) where
    abbrev number : ℕ
    number = place_in (book counts) s

    -- which stood before
    met : is_among l s ≡ true → different (s ∷ l) (book counts) ≡ different l (book counts)
    unfolding some
    met e = as_many_pass (is_among (s ∷ l)) (is_among l) (book counts) (λ k m. at k (same s (strip k)) refl)
      where
        at : (k : ℕ) (b : Bool) → same s (strip k) ≡ b → (b || is_among l (strip k)) ≡ is_among l (strip k)
        at k true f = sym (ap (is_among l) (sym (same_true s (strip k) f)) ∙ e)
        at k false f = refl

    -- or did not
    not_met : is_among l s ≡ false → different (s ∷ l) (book counts) ≡ suc (different l (book counts))
    unfolding some
    not_met e =
        one_more_passes (is_among l) (is_among (s ∷ l)) number (book counts) (omega (arith, place_below counts s own, book_size counts)) (rw (place_undone counts s own) e) (rw (place_undone counts s own, same_self s))
        (λ k m n. rw (place_same counts s own k (omega (arith, book_size counts)), ne_eqb k number n))

    one_more : different (s ∷ l) (book counts) ≡ tally (not (is_among l s)) (different l (book counts))
    one_more = go (is_among l s) refl
      where
        go : (b : Bool) → is_among l s ≡ b → different (s ∷ l) (book counts) ≡ tally (not b) (different l (book counts))
        go true e = met e
        go false e = not_met e

  -- the strips of the book that are in a list of strips of the stock are as many as the list has, each counted once
  pub different_distinct : (l : List (List ℕ)) → ((i : ℕ) → i < length l → IsStrip counts (get_or l i [])) → different l (book counts) ≡ distinct l
  unfolding distinct
  different_distinct [] h = none_different (book counts)
  different_distinct (s ∷ l) h = one_more s (h 0 (omega arith)) l ∙ ap (tally (not (is_among l s))) (different_distinct l (λ i k. h (suc i) (omega arith)))

  -- at most T, and T exactly where none is missing
  module _ (l : List (List ℕ)) where
    pub different_within : different l (book counts) ≤ total counts
    different_within = omega (arith, passing_fewer (is_among l) (book counts), book_size counts)

    pub none_missing_all : missing l (book counts) ≡ total counts → different l (book counts) ≡ total counts
    none_missing_all e = none_fails_all_pass (is_among l) (book counts) (e ∙ sym (book_size counts)) ∙ book_size counts

    pub all_none_missing : different l (book counts) ≡ total counts → missing l (book counts) ≡ total counts
    all_none_missing e = all_pass_none_fails (is_among l) (book counts) (e ∙ sym (book_size counts)) ∙ book_size counts

  -- no strip of the book is missing where all of them stand
  pub book_not_missing : missing (book counts) (book counts) ≡ total counts
  book_not_missing =
      let here : (k : ℕ) → k < length (book counts) → is_among (book counts) (strip k) ≡ true = λ k l. some_hit (λ t. same t (strip k)) (book counts) k l (same_self (strip k)) in
      let test : List ℕ → Bool = λ s. not (is_among (book counts) s) in
      let f = fail_passed_over test (length (book counts)) (book counts) (omega arith) (λ k l. ap not (here k l)) in
      omega (arith, f, passed_over_within test (book counts), book_size counts)

-- ---- by the number of pairs

distinct_within : (l : List (List ℕ)) → distinct l ≤ length l
unfolding distinct
distinct_within [] = omega arith
distinct_within (s ∷ l) = go (not (is_among l s)) (distinct_within l)
  where
    go : (b : Bool) → distinct l ≤ length l → tally b (distinct l) ≤ suc (length l)
    go true h = omega arith
    go false h = omega arith

-- a strip for each pair
pub made_length : (n : ℕ) (s pairs : List ℕ) → Right n pairs → 2 * length (made s pairs) ≡ length pairs
unfolding made
made_length n s [] r = refl
made_length n s (p ∷ []) r = absurd r
made_length n s (p ∷ q ∷ pairs) r = omega (arith, made_length n (exchanged p q s) pairs r.1)

pub different_pairs : (counts s pairs : List ℕ) → Right (sum counts) pairs → ((i : ℕ) → i < length (stood s pairs) → IsStrip counts (get_or (stood s pairs) i []))
    → 2 * different (stood s pairs) (book counts) ≤ length pairs + 2
different_pairs counts s pairs r h = omega (arith, different_distinct counts (stood s pairs) h, distinct_within (stood s pairs), made_length (sum counts) s pairs r)
